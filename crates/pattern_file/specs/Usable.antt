-- What whoever runs a plan may rely on.
use Rattle.std.specs.Prelude.{◌≡◌, ◌≤◌, true, length}
use Rattle.std.specs.List.{AllByRecursion as Each, list_all}
use Rattle.cep_event.specs.declared.event.EventType.{EventType}
use Rattle.cep_plan.specs.declared.plan.Plan.{Plan}
use Rattle.cep_token.specs.Form.{is_word}
use Rattle.pattern_check.specs.Checked.{IsChecked}
use Rattle.pattern_check.specs.Names.{HasDistinctNames}

-- the plan is checked, the fields of each type can be numbered with 16 bits, each type's name has the form of a Word, and names differ
pub record IsUsable (plan : Plan) : Type 0 where
  pub checked : IsChecked plan
  pub fields : Each (λ (t : EventType). length t.fields ≤ 65535) plan.types
  pub words : list_all (λ (t : EventType). is_word t.name) plan.types ≡ true
  pub named : HasDistinctNames plan
