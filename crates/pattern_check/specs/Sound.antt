-- When the expressions of a plan are sound: each number names a stage or a field that the plan has, and each chain has two parts or more. It speaks
-- of plans alone, and is this project's own.
-- The parts of an expression stand in rows: `end_of-Expr` is the empty row, `more_of-Expr x parts` has x before the others, and the sign `_` before a
-- row is its shape, which says nothing of the parts.
use Rattle.std.specs.Prelude.{◌≡◌, ℕ, Bool, true, false, ◌&&◌, ◌==◌, nat_lt, nat_le, List, [], ◌∷◌, length, Option, Some, None}
use Rattle.std.specs.List.{list_all, list_any}
use Rattle.cep_event.specs.declared.event.EventType.{EventType}
use Rattle.cep_plan.specs.declared.condition.Cond.{Cond}
use Rattle.cep_plan.specs.declared.condition.Expr.{Expr, Int, Text, Bool as Truth, Field, Count, Of, Any', All', Compare', Add', Mul', Not', Neg', Row_of-Expr, end_of-Expr, more_of-Expr, Row_of-Term, end_of-Term, more_of-Term, Row_of-Factor, end_of-Factor, more_of-Factor}
use Rattle.cep_plan.specs.declared.plan.Plan.{Plan}

-- a field of some type has the number
abbrev pub has_field : List EventType → ℕ → Bool
has_field types number = list_any (λ t. list_any (λ f. f.number == number) t.fields) types

abbrev pub is_chain : List Bool → Bool
is_chain parts = nat_le 2 (length parts) && list_all (λ part. part) parts

-- the one part of a row
abbrev pub only_part : List Bool → Bool
only_part [] = false
only_part (part ∷ _) = part

-- the plan has so many stages and these types
abbrev mutual
  pub is_sound : ℕ → List EventType → Expr → Bool
  is_sound stages types (Int n) = true
  is_sound stages types (Text t) = true
  is_sound stages types (Truth b) = true
  is_sound stages types (Field field) = has_field types field
  is_sound stages types (Count stage) = nat_lt stage stages
  is_sound stages types (Of agg stage field) = nat_lt stage stages && has_field types field
  is_sound stages types (Any' _ parts) = is_chain (sound_parts stages types parts)
  is_sound stages types (All' _ parts) = is_chain (sound_parts stages types parts)
  is_sound stages types (Compare' c _ x _ y) = only_part (sound_parts stages types x) && only_part (sound_parts stages types y)
  is_sound stages types (Add' _ terms) = is_chain (sound_terms stages types terms)
  is_sound stages types (Mul' _ factors) = is_chain (sound_factors stages types factors)
  is_sound stages types (Not' _ x) = only_part (sound_parts stages types x)
  is_sound stages types (Neg' _ x) = only_part (sound_parts stages types x)

  pub sound_parts : {n : _} → ℕ → List EventType → Row_of-Expr n → List Bool
  sound_parts stages types end_of-Expr = []
  sound_parts stages types (more_of-Expr x parts) = is_sound stages types x ∷ sound_parts stages types parts

  pub sound_terms : {n : _} → ℕ → List EventType → Row_of-Term n → List Bool
  sound_terms stages types end_of-Term = []
  sound_terms stages types (more_of-Term minus x terms) = is_sound stages types x ∷ sound_terms stages types terms

  pub sound_factors : {n : _} → ℕ → List EventType → Row_of-Factor n → List Bool
  sound_factors stages types end_of-Factor = []
  sound_factors stages types (more_of-Factor how x factors) = is_sound stages types x ∷ sound_factors stages types factors

-- each part of the condition is sound
abbrev pub is_sound_cond : ℕ → List EventType → Cond → Bool
is_sound_cond stages types cond = list_all (λ part. is_sound stages types part.expr) cond.parts

abbrev pub if_sound : ℕ → List EventType → Option Cond → Bool
if_sound stages types None = true
if_sound stages types (Some cond) = is_sound_cond stages types cond

abbrev pub are_sound : ℕ → List EventType → Option (List Expr) → Bool
are_sound stages types None = true
are_sound stages types (Some shown) = list_all (is_sound stages types) shown

-- the expressions of a plan
pub record HasSoundExpressions (plan : Plan) : Type 0 where
  pub conditions : list_all (λ s. is_sound_cond (length plan.stages) plan.types s.cond) plan.stages ≡ true
  pub untils : list_all (λ s. if_sound (length plan.stages) plan.types s.until) plan.stages ≡ true
  pub negations : list_all (λ n. is_sound_cond (length plan.stages) plan.types n.cond) plan.negations ≡ true
  pub shown : are_sound (length plan.stages) plan.types plan.select ≡ true
