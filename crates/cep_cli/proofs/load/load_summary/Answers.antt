use Rattle.std.proofs.Common.{◌∙◌, ap}
use Rattle.std.specs.Prelude.{false}
use Rattle.std.proofs.lemmas.Result.{err_from_is_err_and}
use Rattle.cep_load.specs.Lines.{generated_lines}
use Rattle.told_list.proofs.GrowsLaws.{GrowsPart-whole}
use Rattle.cep_cli.specs.Load.{load_sizes, summary_with, whole_counts}
use Rattle.cep_cli.specs.Records.{records_of}
use Rattle.cep_cli.proofs.WrittenLaws.{shown-part}
use Rattle.cep_cli.proofs.load.load_summary.Goals as goal

pub returns-clause-text : goal.returns-clause-text
returns-clause-text g c =
    let o = c.args.options in
    let tally = c.in_ok-tally.tally in
    let plan = c.args.plan in
    c.in_ok-text.ensures
    ∙ ap (λ rows. summary_with rows tally.counts tally.greatest) c.from.ensures
    ∙ ap (λ counts. summary_with o.count counts tally.greatest) c.in_ok-tally.ensures.counts
    ∙ ap (summary_with o.count
    (whole_counts o.lag plan (records_of false plan.types (generated_lines plan.types o.seed o.count)))) c.in_ok-tally.ensures.greatest

pub returns-in_err-tally-clause-shown : goal.returns-in_err-tally-clause-shown
returns-in_err-tally-clause-shown g c =
    shown-part _ _ (load_sizes c.args.options c.args.plan) c.from_residual.result
    (err_from_is_err_and c.from_residual.result c.from_residual.ensures.1).1 c.in_err-tally.ensures.shown

pub returns-in_err-text-clause-shown : goal.returns-in_err-text-clause-shown
returns-in_err-text-clause-shown g c =
    shown-part _ _ (load_sizes c.args.options c.args.plan) c.from_residual-in_err-text.result
    (err_from_is_err_and c.from_residual-in_err-text.result c.from_residual-in_err-text.ensures.1).1
    (GrowsPart-whole _ _ _ c.in_ok-tally.ensures.shown)
