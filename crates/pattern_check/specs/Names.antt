-- When the names of a plan differ. It speaks of plans alone, and is this project's own.
use Rattle.std.specs.Prelude.{◌≡◌, ℕ, Bool, true, not, ◌&&◌, List, [], ◌∷◌, ◌++◌, map}
use Rattle.std.specs.List.{list_any}
use Rattle.std.specs.Str.{bytes_eq}
use Rattle.cep_plan.specs.declared.plan.Plan.{Plan}

-- a name is among these
abbrev pub is_among : List (List ℕ) → List ℕ → Bool
is_among names name = list_any (bytes_eq name) names

-- no name stands again after itself
abbrev pub are_distinct : List (List ℕ) → Bool
are_distinct [] = true
are_distinct (name ∷ names) = not (is_among names name) && are_distinct names

-- no two types have one name, and no two of the stages and negations
pub record HasDistinctNames (plan : Plan) : Type 0 where
  pub types : are_distinct (map (λ t. t.name) plan.types) ≡ true
  pub stages : are_distinct (map (λ s. s.name) plan.stages ++ map (λ n. n.name) plan.negations) ≡ true
