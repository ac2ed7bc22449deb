use Rattle.std.proofs.Common.{◌≡◌, refl, sym, subst, ℕ, List}
use Rattle.std.specs.Prelude.{Result, Ok, Err}
use Rattle.cep_words.specs.declared.options.Mode.TheVariants as mode
use Rattle.pattern_rules.specs.declared.rule.Fault.{Fault}
use Rattle.cep_cli.specs.Headline.{IsPatternJudged}
use Rattle.cep_cli.specs.Pattern.{AreRefused, AreShownIn}
use Rattle.cep_cli.specs.Verdict.{HasPrinted, show_verdict}
use Rattle.cep_cli.proofs.StopLaws.{judged-as, shown-read, unread-more}
use Rattle.cep_cli.proofs.program.under_file.Goals as goal

pub returns-in-Run-clause-pattern : goal.returns-in-Run-clause-pattern
returns-in-Run-clause-pattern g c = λ content told.
    let kept = (c.run_file.new.input ≡ c.args.input.now) × (c.run_file.new.output ≡ c.args.output.now) × (c.run_file.new.gauge ≡ c.args.gauge.now) in
    subst (λ m. IsPatternJudged (AreRefused m content) c.run_file.result kept) (sym c.in-Run.is) (c.run_file.ensures.pattern content told)

pub returns-in-Run-clause-ran : goal.returns-in-Run-clause-ran
returns-in-Run-clause-ran g c = λ content all plan told run planned left. c.run_file.ensures.ran content all plan told planned left

pub returns-in-Run-clause-showed : goal.returns-in-Run-clause-showed
returns-in-Run-clause-showed g c = λ content text told shown. absurd (subst (λ m. AreShownIn m c.args.options content (Ok text)) c.in-Run.is shown)

pub returns-in-Run-clause-unread : goal.returns-in-Run-clause-unread
returns-in-Run-clause-unread g c = λ other. absurd (other c.in-Run.is)

pub returns-in-Run-clause-complete : goal.returns-in-Run-clause-complete
returns-in-Run-clause-complete g c = λ content all told run left well.
    c.run_file.ensures.complete content all told left (record { memory = well.memory; file = well.file; input = λ _. well.input run; output = well.output })

pub returns-in-Run-clause-complete_shown : goal.returns-in-Run-clause-complete_shown
returns-in-Run-clause-complete_shown g c = λ content told other well. absurd (other c.in-Run.is)

pub returns-in-Check-clause-pattern : goal.returns-in-Check-clause-pattern
returns-in-Check-clause-pattern g c = λ content told.
    let shown = λ (fault : Fault). AreShownIn mode.Check c.args.options content (Err fault) in
    let kept = (c.args.input.now ≡ c.args.input.now) × (c.show_file.new.output ≡ c.args.output.now) × (c.args.gauge.now ≡ c.args.gauge.now) in
    subst (λ m. IsPatternJudged (AreRefused m content) c.show_file.result kept) (sym c.in-Check.is)
    (judged-as shown (AreRefused mode.Check content) c.show_file.result _ _ (λ fault x. x) (λ fault x. x) (λ same. (refl, same, refl))
    (c.show_file.ensures.pattern content told))

pub returns-in-Check-clause-showed : goal.returns-in-Check-clause-showed
returns-in-Check-clause-showed g c = λ content text told shown.
    c.show_file.ensures.showed content text told (subst (λ m. AreShownIn m c.args.options content (Ok text)) c.in-Check.is shown)

pub returns-in-Check-clause-unread : goal.returns-in-Check-clause-unread
returns-in-Check-clause-unread g c = λ other. (refl, c.show_file.ensures.shown)

pub returns-in-Check-clause-complete_shown : goal.returns-in-Check-clause-complete_shown
returns-in-Check-clause-complete_shown g c = λ content told other well.
    subst (λ m. (answer : Result (List ℕ) Fault) × AreShownIn m c.args.options content answer × (c.show_file.result ≡ show_verdict answer))
    (sym c.in-Check.is)
    (c.show_file.ensures.complete content told well.file well.output well.memory)

pub returns-in-Check-clause-blamed : goal.returns-in-Check-clause-blamed
returns-in-Check-clause-blamed g c = record {
  file = c.show_file.ensures.pattern_fault;
  input = λ is. absurd (shown-read c.show_file.result c.show_file.ensures.shown is);
  output = c.show_file.ensures.write;
}

pub returns-in-Explain-clause-pattern : goal.returns-in-Explain-clause-pattern
returns-in-Explain-clause-pattern g c = λ content told.
    let shown = λ (fault : Fault). AreShownIn mode.Explain c.args.options content (Err fault) in
    let kept = (c.args.input.now ≡ c.args.input.now) × (c.show_file-in-Explain.new.output ≡ c.args.output.now) × (c.args.gauge.now ≡ c.args.gauge.now) in
    subst (λ m. IsPatternJudged (AreRefused m content) c.show_file-in-Explain.result kept) (sym c.in-Explain.is)
    (judged-as shown (AreRefused mode.Explain content) c.show_file-in-Explain.result _ _ (λ fault x. x) (λ fault x. x) (λ same. (refl, same, refl))
    (c.show_file-in-Explain.ensures.pattern content told))

pub returns-in-Explain-clause-showed : goal.returns-in-Explain-clause-showed
returns-in-Explain-clause-showed g c = λ content text told shown.
    c.show_file-in-Explain.ensures.showed content text told (subst (λ m. AreShownIn m c.args.options content (Ok text)) c.in-Explain.is shown)

pub returns-in-Explain-clause-unread : goal.returns-in-Explain-clause-unread
returns-in-Explain-clause-unread g c = λ other. (refl, c.show_file-in-Explain.ensures.shown)

pub returns-in-Explain-clause-complete_shown : goal.returns-in-Explain-clause-complete_shown
returns-in-Explain-clause-complete_shown g c = λ content told other well.
    subst (λ m. (answer : Result (List ℕ) Fault) × AreShownIn m c.args.options content answer × (c.show_file-in-Explain.result ≡ show_verdict answer))
    (sym c.in-Explain.is)
    (c.show_file-in-Explain.ensures.complete content told well.file well.output well.memory)

pub returns-in-Explain-clause-blamed : goal.returns-in-Explain-clause-blamed
returns-in-Explain-clause-blamed g c = record {
  file = c.show_file-in-Explain.ensures.pattern_fault;
  input = λ is. absurd (shown-read c.show_file-in-Explain.result c.show_file-in-Explain.ensures.shown is);
  output = c.show_file-in-Explain.ensures.write;
}

pub returns-in-Load-clause-pattern : goal.returns-in-Load-clause-pattern
returns-in-Load-clause-pattern g c = λ content told.
    let kept = (c.args.input.now ≡ c.args.input.now) × (c.load_file.new.output ≡ c.args.output.now) × (c.load_file.new.gauge ≡ c.args.gauge.now) in
    let refused = AreRefused mode.Load content in
    subst (λ m. IsPatternJudged (AreRefused m content) c.load_file.result kept) (sym c.in-Load.is)
    (judged-as refused refused c.load_file.result _ _ (λ fault x. x) (λ fault x. x) (λ same. (refl, same.0, same.1))
    (c.load_file.ensures.pattern content told))

pub returns-in-Load-clause-untouched : goal.returns-in-Load-clause-untouched
returns-in-Load-clause-untouched g c = unread-more c.load_file.result _ _ (λ same. (refl, same.0, same.1)) c.load_file.ensures.untouched

pub returns-in-Load-clause-showed : goal.returns-in-Load-clause-showed
returns-in-Load-clause-showed g c = λ content text told shown.
    let summed = subst (λ m. AreShownIn m c.args.options content (Ok text)) c.in-Load.is shown in
    subst (HasPrinted c.load_file.result (g.K.Sink.taken c.args.output.now) (g.K.Sink.taken c.load_file.new.output)) (sym summed.2)
    (c.load_file.ensures.showed content summed.0 told summed.1)

pub returns-in-Load-clause-loaded : goal.returns-in-Load-clause-loaded
returns-in-Load-clause-loaded g c = λ content plan told load planned. c.load_file.ensures.loaded content plan told planned

pub returns-in-Load-clause-unshown : goal.returns-in-Load-clause-unshown
returns-in-Load-clause-unshown g c = λ run load. absurd (load c.in-Load.is)

pub returns-in-Load-clause-unread : goal.returns-in-Load-clause-unread
returns-in-Load-clause-unread g c = λ other. (refl, c.load_file.ensures.shown)

pub returns-in-Load-clause-complete_shown : goal.returns-in-Load-clause-complete_shown
returns-in-Load-clause-complete_shown g c = λ content told other well.
    subst (λ m. (answer : Result (List ℕ) Fault) × AreShownIn m c.args.options content answer × (c.load_file.result ≡ show_verdict answer)) (sym c.in-Load.is)
    (c.load_file.ensures.complete content told well.file well.output well.memory)

pub returns-in-Load-clause-blamed : goal.returns-in-Load-clause-blamed
returns-in-Load-clause-blamed g c = record {
  file = c.load_file.ensures.pattern_fault;
  input = λ is. absurd (shown-read c.load_file.result c.load_file.ensures.shown is);
  output = c.load_file.ensures.write;
}

pub returns-in-Run-clause-unshown : goal.returns-in-Run-clause-unshown
returns-in-Run-clause-unshown g c = λ run load. absurd (run c.in-Run.is)

pub returns-in-Check-clause-untouched : goal.returns-in-Check-clause-untouched
returns-in-Check-clause-untouched g c = unread-more c.show_file.result _ _ (λ same. (refl, same, refl)) c.show_file.ensures.untouched

pub returns-in-Explain-clause-untouched : goal.returns-in-Explain-clause-untouched
returns-in-Explain-clause-untouched g c = unread-more c.show_file-in-Explain.result _ _ (λ same. (refl, same, refl)) c.show_file-in-Explain.ensures.untouched
