use Rattle.std.proofs.Common.{refl}
use Rattle.std.specs.Prelude.{codes}
use Rattle.cep_select.specs.Output.{match_fields}
use Rattle.cep_select.proofs.RowLaws.{row-is}
use Rattle.cep_select.proofs.row.push_match.Goals as goal

pub returns : goal.returns
returns c =
    row-is c.args.text.now (codes "match") _ _ _ (match_fields c.args.plan.now c.args.list.now c.args.plan.now.select) refl refl
    c.in_ok-extend.ensures.ok c.in_ok-push_shown.ensures c.in_ok-push.ensures.ok
