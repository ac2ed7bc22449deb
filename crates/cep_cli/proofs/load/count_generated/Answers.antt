use Rattle.std.proofs.Common.{sym, ◌∙◌, ap, subst, ◌+◌, length}
use Rattle.std.specs.Prelude.{false, IsOk}
use Rattle.cep_load.specs.Lines.{generated_lines}
use Rattle.cep_load.specs.Named.{AreNamed}
use Rattle.std.proofs.lemmas.Result.{err_from_is_err_and}
use Rattle.cep_session.specs.Meaning.{whole}
use Rattle.sharing_laws.specs.Sizes.{greatest_held}
use Rattle.told_list.specs.Grows.{Grows, GrowsPart}
use Rattle.told_list.proofs.GrowsLaws.{GrowsPart-nil}
use Rattle.cep_cli.specs.Load.{load_sizes, whole_counts}
use Rattle.cep_cli.specs.Meaning.{sizes_of_lines}
use Rattle.cep_cli.specs.Records.{record_in, records_of}
use Rattle.cep_cli.proofs.LoadLaws.{named_types}
use Rattle.cep_cli.proofs.WrittenLaws.{shown-part}
use Rattle.cep_cli.proofs.load.count_generated.Goals as goal

pub count_run-requires-clause-accepted : goal.count_run-requires-clause-accepted
count_run-requires-clause-accepted g c = λ before after line is.
    let types = c.in_ok-declared.ensures in
    subst (λ t. IsOk (record_in false t (length before + 1) line)) types
    (c.new-lines.ensures.accepted (subst AreNamed (sym types) (named_types c.args.plan c.requires)) before after line is)

pub returns-clause-counts : goal.returns-clause-counts
returns-clause-counts g c =
    let o = c.args.options in
    c.in_ok-made.ensures.counts
    ∙ ap (λ lines. whole_counts o.lag c.args.plan (records_of false c.args.plan.types lines))
    (c.new-lines.ensures.lines ∙ ap (λ t. generated_lines t o.seed o.count) c.in_ok-declared.ensures)

pub returns-clause-greatest : goal.returns-clause-greatest
returns-clause-greatest g c =
    let o = c.args.options in
    c.in_ok-made.ensures.greatest
    ∙ ap (λ lines. greatest_held (whole (sizes_of_lines false o.lag c.args.plan) lines))
    (c.new-lines.ensures.lines ∙ ap (λ t. generated_lines t o.seed o.count) c.in_ok-declared.ensures)

pub returns-clause-shown : goal.returns-clause-shown
returns-clause-shown g c =
    let o = c.args.options in
    subst (λ lines. Grows (g.G.Gauge.seen c.args.gauge.now) (g.G.Gauge.seen c.count_run.new.gauge)
    (whole (sizes_of_lines false o.lag c.args.plan) lines))
    (c.new-lines.ensures.lines ∙ ap (λ t. generated_lines t o.seed o.count) c.in_ok-declared.ensures) c.in_ok-made.ensures.shown

pub returns-in_err-declared-clause-shown : goal.returns-in_err-declared-clause-shown
returns-in_err-declared-clause-shown g c =
    shown-part _ _ (load_sizes c.args.options c.args.plan) c.from_residual.result
    (err_from_is_err_and c.from_residual.result c.from_residual.ensures.1).1 (GrowsPart-nil _ _)

pub returns-in_err-made-clause-shown : goal.returns-in_err-made-clause-shown
returns-in_err-made-clause-shown g c =
    let o = c.args.options in
    let lines_are = c.new-lines.ensures.lines ∙ ap (λ t. generated_lines t o.seed o.count) c.in_ok-declared.ensures in
    shown-part _ _ (load_sizes o c.args.plan) c.from_residual-in_err-made.result
    (err_from_is_err_and c.from_residual-in_err-made.result c.from_residual-in_err-made.ensures.1).1
    (subst (λ lines. GrowsPart (g.G.Gauge.seen c.args.gauge.now) (g.G.Gauge.seen c.count_run.new.gauge)
    (whole (sizes_of_lines false o.lag c.args.plan) lines)) lines_are c.in_err-made.ensures.shown)
