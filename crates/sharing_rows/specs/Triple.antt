-- A plan of three stages of one type, each directly behind the one before, and five events of that type.
use Rattle.std.specs.Prelude.{List, [], ◌∷◌, None}
use Rattle.cep_plan.specs.declared.plan.Plan.{Plan}
use Rattle.cep_plan.specs.declared.plan.Contiguity.TheVariants.{Strict, Any}
use Rattle.cep_plan.specs.declared.plan.Skip.TheVariants.{No}
use Rattle.cep_plan.specs.Tick.{Tick}
use Rattle.cep_plan.specs.EventTime.{all_ticks}
use Rattle.cep_plan_rows.specs.Worked.{a, letters, rows, single, plan_with}

abbrev pub three_in_a_row : Plan
three_in_a_row = plan_with letters (single Any a ∷ single Strict a ∷ single Strict a ∷ []) [] None No

abbrev pub five_ticks : List Tick
five_ticks = all_ticks None (rows ((a, 1) ∷ (a, 2) ∷ (a, 3) ∷ (a, 4) ∷ (a, 5) ∷ []))
