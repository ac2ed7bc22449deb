use Rattle.std.proofs.Common.{◌≡◌, List, ℕ, Option, Some}
use Rattle.std.specs.Prelude.{◌≢◌, Ok, map, string_bytes}
use Rattle.cep_session.specs.Handling.{given}
use Rattle.cep_session.specs.Progress.{Ended}
use Rattle.cep_session.specs.declared.status.Status.TheVariants as statuses
use Rattle.cep_session.proofs.Told.{untouched, nothing_owed}
use Rattle.cep_words.specs.Words.{command_of}
use Rattle.cep_words.specs.declared.options.Options.{Options}
use Rattle.cep_words.specs.declared.options.Mode.TheVariants as mode
use Rattle.cep_cli.specs.Headline.{IsBlamed, IsPatternJudged, WentWell}
use Rattle.told_list.proofs.GrowsLaws.{GrowsPart-nil}
use Rattle.cep_cli.specs.Load.{load_sizes}
use Rattle.cep_cli.specs.Meaning.{meaning_of}
use Rattle.cep_cli.specs.Pattern.{AreRefused, AreShownIn}
use Rattle.cep_cli.specs.Verdict.{IsVerdict, IsShownVerdict, IfOfInput, HasPrinted, HasShown}
use Rattle.cep_cli.proofs.StopLaws.{nothing_yet}
use Rattle.cep_cli.proofs.WordLaws.{of_the_same, not_none}
use Rattle.cep_cli.proofs.program.cep.Goals as goal

pub returns-in-Ok-clause-words : goal.returns-in-Ok-clause-words
returns-in-Ok-clause-words g c =
    let some = not_none (command_of (map string_bytes c.args.words.now)) _ _ c.in-Ok.ensures.named in
    record { only = λ is. absurd (c.under_file-status.ensures.words is); refused = λ none. absurd (some none); spared = λ none. absurd (some none) }

pub returns-in-Ok-clause-pattern : goal.returns-in-Ok-clause-pattern
returns-in-Ok-clause-pattern g c = λ options name content about.
    let u = c.under_file-status in
    let kept = (u.new.input ≡ c.args.input.now) × (u.new.output ≡ c.args.output.now) × (u.new.gauge ≡ c.args.gauge.now) in
    of_the_same (command_of (map string_bytes c.args.words.now)) _ options _ name c.in-Ok.ensures.named about.named
    (λ o n. g.F.Files.contents c.args.files.now n ≡ Some content → IsPatternJudged (AreRefused o.mode content) u.result kept)
    (u.ensures.pattern content) about.told

pub returns-in-Ok-clause-ran : goal.returns-in-Ok-clause-ran
returns-in-Ok-clause-ran g c = λ options name content all plan about run planned left.
    let u = c.under_file-status in
    of_the_same (command_of (map string_bytes c.args.words.now)) _ options _ name c.in-Ok.ensures.named about.named
    (λ o n. g.F.Files.contents c.args.files.now n ≡ Some content → o.mode ≡ mode.Run
    → Ended (meaning_of o.header o.lag plan) o.rows u.result all (g.S.Source.left u.new.input)
    (given (g.K.Sink.taken c.args.output.now) (g.G.Gauge.seen c.args.gauge.now)) (given (g.K.Sink.taken u.new.output) (g.G.Gauge.seen u.new.gauge)))
    (λ told running. u.ensures.ran content all plan told running planned left) about.told run

pub returns-in-Ok-clause-showed : goal.returns-in-Ok-clause-showed
returns-in-Ok-clause-showed g c = λ options name content text about shown.
    let u = c.under_file-status in
    of_the_same (command_of (map string_bytes c.args.words.now)) _ options _ name c.in-Ok.ensures.named about.named
    (λ o n. g.F.Files.contents c.args.files.now n ≡ Some content → AreShownIn o.mode o content (Ok text)
    → HasPrinted u.result (g.K.Sink.taken c.args.output.now) (g.K.Sink.taken u.new.output) text)
    (u.ensures.showed content text) about.told shown

pub returns-in-Ok-clause-loaded : goal.returns-in-Ok-clause-loaded
returns-in-Ok-clause-loaded g c = λ options name content plan about load planned.
    let u = c.under_file-status in
    of_the_same (command_of (map string_bytes c.args.words.now)) _ options _ name c.in-Ok.ensures.named about.named
    (λ o n. g.F.Files.contents c.args.files.now n ≡ Some content → o.mode ≡ mode.Load → HasShown u.result (g.G.Gauge.seen c.args.gauge.now)
    (g.G.Gauge.seen u.new.gauge) (load_sizes o plan))
    (λ told loads. u.ensures.loaded content plan told loads planned) about.told load

pub returns-in-Ok-clause-unshown : goal.returns-in-Ok-clause-unshown
returns-in-Ok-clause-unshown g c = λ options name named.
    let u = c.under_file-status in
    of_the_same (command_of (map string_bytes c.args.words.now)) _ options _ name c.in-Ok.ensures.named named
    (λ o n. o.mode ≢ mode.Run → o.mode ≢ mode.Load → u.new.gauge ≡ c.args.gauge.now)
    u.ensures.unshown

pub returns-in-Err-NoMemory-clause-loaded : goal.returns-in-Err-NoMemory-clause-loaded
returns-in-Err-NoMemory-clause-loaded g c =
    λ options name content plan about load planned. GrowsPart-nil (g.G.Gauge.seen c.args.gauge.now) (load_sizes options plan)

pub returns-in-Ok-clause-unread : goal.returns-in-Ok-clause-unread
returns-in-Ok-clause-unread g c = λ options name named.
    let u = c.under_file-status in
    of_the_same (command_of (map string_bytes c.args.words.now)) _ options _ name c.in-Ok.ensures.named named
    (λ o n. o.mode ≢ mode.Run → (u.new.input ≡ c.args.input.now) × IfOfInput u.result ⊥)
    u.ensures.unread

pub returns-in-Ok-clause-complete : goal.returns-in-Ok-clause-complete
returns-in-Ok-clause-complete g c = λ options name content all about run left well.
    let u = c.under_file-status in
    of_the_same (command_of (map string_bytes c.args.words.now)) _ options _ name c.in-Ok.ensures.named about.named
    (λ o n. g.F.Files.contents c.args.files.now n ≡ Some content → o.mode ≡ mode.Run
    → WentWell o.mode u.result
    (record { file = g.F.Files.faults c.args.files.now n; input = g.S.Source.faults c.args.input.now; output = g.K.Sink.faults c.args.output.now })
    (record { file = g.F.Files.faults u.new.files n; input = g.S.Source.faults u.new.input; output = g.K.Sink.faults u.new.output })
    → IsVerdict o content all u.result)
    (λ told running fine. u.ensures.complete content all told running left fine) about.told run well

pub returns-in-Ok-clause-complete_shown : goal.returns-in-Ok-clause-complete_shown
returns-in-Ok-clause-complete_shown g c = λ options name content about other well.
    let u = c.under_file-status in
    of_the_same (command_of (map string_bytes c.args.words.now)) _ options _ name c.in-Ok.ensures.named about.named
    (λ o n. g.F.Files.contents c.args.files.now n ≡ Some content → o.mode ≢ mode.Run
    → WentWell o.mode u.result
    (record { file = g.F.Files.faults c.args.files.now n; input = g.S.Source.faults c.args.input.now; output = g.K.Sink.faults c.args.output.now })
    (record { file = g.F.Files.faults u.new.files n; input = g.S.Source.faults u.new.input; output = g.K.Sink.faults u.new.output })
    → IsShownVerdict o content u.result)
    (u.ensures.complete_shown content) about.told other well

pub returns-in-Ok-clause-blamed : goal.returns-in-Ok-clause-blamed
returns-in-Ok-clause-blamed g c = λ options name named.
    let u = c.under_file-status in
    of_the_same (command_of (map string_bytes c.args.words.now)) _ options _ name c.in-Ok.ensures.named named
    (λ o n. IsBlamed u.result
    (record { file = g.F.Files.faults c.args.files.now n; input = g.S.Source.faults c.args.input.now; output = g.K.Sink.faults c.args.output.now })
    (record { file = g.F.Files.faults u.new.files n; input = g.S.Source.faults u.new.input; output = g.K.Sink.faults u.new.output }))
    u.ensures.blamed

pub returns-in-Err-NoMemory-clause-ran : goal.returns-in-Err-NoMemory-clause-ran
returns-in-Err-NoMemory-clause-ran g c = λ options name content all plan about run planned left.
    let m = meaning_of options.header options.lag plan in
    untouched m options.rows statuses.NoMemory all _ _ left (nothing_owed m options.rows all)

pub returns-in-Err-NoMemory-clause-showed : goal.returns-in-Err-NoMemory-clause-showed
returns-in-Err-NoMemory-clause-showed g c = λ options name content text about shown. nothing_yet (g.K.Sink.taken c.args.output.now) text
