-- What a printed match says: for some stages, in the order of the pattern and each once, the rows of their events. (This project's own.)
use Rattle.std.specs.Prelude.{ℕ, ◌+◌, Bool, ◌&&◌, nat_le, if◌then◌else◌, List, [], ◌∷◌, ◌++◌, map, length, position, Option, Some, None, option_map}
use Rattle.std.specs.Str.{bytes_eq}
use Rattle.cep_plan.specs.declared.plan.Plan.{Plan}

-- an event that stands for a stage, by its row
pub record Shown : Type 0 where
  pub stage : ℕ
  pub row : ℕ

-- a field of the line: a name and the rows behind it
pub record Group : Type 0 where
  pub name : List ℕ
  pub rows : List ℕ

-- the number of the stage with the name
abbrev pub stage_named : Plan → List ℕ → Option ℕ
stage_named plan name = position (λ s. bytes_eq s.name name) plan.stages

abbrev pub shown_for : ℕ → List ℕ → List Shown
shown_for stage rows = map (λ row. record { stage = stage; row = row }) rows

abbrev pub has_rows : Group → Bool
has_rows group = nat_le 1 (length group.rows)

-- a group of a stage that is not before the number, and then the others behind that stage
abbrev pub with_group : ℕ → Group → Option ℕ → (ℕ → Option (List Shown)) → Option (List Shown)
with_group from group None later = None
with_group from group (Some stage) later = if nat_le from stage && has_rows group then option_map (λ shown. shown_for stage group.rows ++ shown)
    (later (stage + 1)) else None

-- what the groups show, from this stage on: nothing where one has no name of such a stage, or no row
abbrev pub shown_from : Plan → List Group → ℕ → Option (List Shown)
shown_from plan [] from = Some []
shown_from plan (group ∷ later) from = with_group from group (stage_named plan group.name) (shown_from plan later)

-- What the groups of a printed match show: there is at least one.
abbrev pub shown_in : Plan → List Group → Option (List Shown)
shown_in plan [] = None
shown_in plan (group ∷ later) = shown_from plan (group ∷ later) 0
