-- Numbers of states.
use Rattle.std.proofs.Common.{◌≡◌, refl, ◌∙◌, ap, ℕ, zero, suc, ◌+◌, ◌≤◌, arith, List, [], ◌∷◌, take}
use Rattle.std.specs.Prelude.{slice_get}
use Rattle.std.specs.List.{sum_by}
use Rattle.std.specs.Option.{option_map_or}
use Rattle.std.proofs.lemmas.List.Sums.{sum_by-cons}
use Rattle.cep_plan.specs.declared.plan.Plan.{Plan}
use Rattle.nfa_compile.specs.State.{greatest_count, greatest_at, states_before}

-- what comes before an element, and the element, are within the sum
within : {X : Type 0} (f : X → ℕ) (xs : List X) (i : ℕ) → sum_by f (take i xs) + option_map_or f (slice_get xs i) 0 ≤ sum_by f xs
within f [] zero = omega arith
within f [] (suc i) = omega arith
within f (x ∷ xs) zero = let whole = sum_by-cons f x xs in omega (arith, whole)
within f (x ∷ xs) (suc i) =
    let whole = sum_by-cons f x xs in
    let part = sum_by-cons f x (take i xs) in
    let later = within f xs i in
    omega (arith, whole, part, later)

pub states_within : (plan : Plan) (stage : ℕ) → states_before plan stage + greatest_at plan stage ≤ sum_by greatest_count plan.stages
states_within plan stage = within greatest_count plan.stages stage

sum_more : {X : Type 0} (f : X → ℕ) (xs : List X) (i : ℕ) → sum_by f (take (suc i) xs) ≡ sum_by f (take i xs) + option_map_or f (slice_get xs i) 0
sum_more f [] zero = refl
sum_more f [] (suc i) = refl
sum_more f (x ∷ xs) zero = let one = sum_by-cons f x [] in omega (arith, one)
sum_more f (x ∷ xs) (suc i) =
    let more = sum_by-cons f x (take (suc i) xs) in
    let before = sum_by-cons f x (take i xs) in
    let later = sum_more f xs i in
    omega (arith, more, before, later)

pub states_more : (plan : Plan) (stage : ℕ) → states_before plan (stage + 1) ≡ states_before plan stage + greatest_at plan stage
states_more plan stage = ap (states_before plan) (let one : stage + 1 ≡ suc stage = omega arith in one) ∙ sum_more greatest_count plan.stages stage
