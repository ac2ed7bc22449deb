use Rattle.cep_plan.specs.Aggregate.{taken_for}
use Rattle.cep_select.proofs.StageLaws.{stage-behind}
use Rattle.cep_select.proofs.named.push_stage.Goals as goal

pub returns : goal.returns
returns c =
    stage-behind c.args.text.now _ _ c.args.name.now (taken_for c.args.stage c.args.list.now) _ _ c.needs_quotes-quoted.ensures
    c.in_ok-behind.ensures.some c.in_ok-behind.ensures.text c.in_ok-push_back.ensures
