use Rattle.std.proofs.Common.{ap, ◌∙◌, ◌++◌, List, ℕ}
use Rattle.std.specs.Prelude.{codes}
use Rattle.cep_select.proofs.RowLaws.{late-is}
use Rattle.cep_select.proofs.row.late_row.Goals as goal

pub returns : goal.returns
returns c =
    late-is c.args.row _ _ _ (c.in_ok-extend.ensures.ok ∙ ap (λ (t : List ℕ). t ++ codes "late,") c.new-text.ensures) c.in_ok-push_number.ensures c.in_ok-push.ensures.ok
