use Rattle.std.proofs.Common.{refl}
use Rattle.std.specs.Prelude.{codes}
use Rattle.cep_select.specs.Output.{stages_from}
use Rattle.cep_select.proofs.RowLaws.{row-is}
use Rattle.cep_select.proofs.row.push_timeout.Goals as goal

pub returns : goal.returns
returns c =
    row-is c.args.text.now (codes "timeout") _ _ _ (stages_from 0 c.args.plan.now.stages c.args.list.now) refl refl
    c.in_ok-extend.ensures.ok c.in_ok-push_named.ensures c.in_ok-push.ensures.ok
