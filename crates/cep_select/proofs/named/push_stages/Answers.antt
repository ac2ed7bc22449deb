use Rattle.std.proofs.Common.{ap, ◌∙◌, ◌++◌, ℕ, List}
use Rattle.csv.specs.Writing.{default_writer, fields_text}
use Rattle.cep_plan.specs.Aggregate.{taken_for}
use Rattle.cep_select.specs.Output.{named_rows}
use Rattle.cep_select.proofs.RowLaws.{base-none}
use Rattle.cep_select.proofs.StageLaws.{stage-more}
use Rattle.cep_select.proofs.named.push_stages.Goals as goal

pub loop-number-init : goal.loop-number-init
loop-number-init c = base-none c.args.text.now

pub loop-number-preserved : goal.loop-number-preserved
loop-number-preserved c =
    stage-more c.args.text.now c.loop-number.text c.push_stage.new.text c.loop-number.number c.args.stages.now c.index-stages-number.result c.args.list.now
    c.loop-number-test.true c.index-stages-number.is c.loop-number.invariant
    (c.in_ok-push_stage.ensures
    ∙ ap (λ (name : List ℕ). c.loop-number.text ++ fields_text default_writer (named_rows name (taken_for c.loop-number.number c.args.list.now)))
    (c.as_bytes.ensures.value ∙ c.as_str.ensures))
