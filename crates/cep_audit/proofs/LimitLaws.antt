-- The limits of taken events, by their first and their last one, and how many events are below one.
use Rattle.std.proofs.Common.{◌≡◌, refl, sym, ◌∙◌, ap, ℕ, zero, suc, ◌≤◌, ◌<◌, arith, Bool, true, false, cond, ◌&&◌, List, [], ◌∷◌, length, get_or}
use Rattle.std.specs.Prelude.{filter, count_by, slice_get, Some, None}
use Rattle.std.specs.List.{last_or, list_all}
use Rattle.std.proofs.lemmas.List.Sums.{length-filter}
use Rattle.cep_plan.specs.declared.item.Taken.{Taken}
use Rattle.cep_plan.specs.declared.plan.Plan.{Plan}
use Rattle.cep_plan.specs.Entry.{last_taken}
use Rattle.cep_plan.specs.Limit.{limit_from, limit_behind, last_behind, limit_of, is_below_limit, are_within, are_near_behind, are_near}
use Rattle.cep_audit.specs.Asked.{near_behind, limit_by}

near_later : (plan : Plan) (before : Taken) (later : List Taken) → are_near_behind plan before later ≡ near_behind plan (Some before.event.ts) later
near_later plan before [] = refl
near_later plan before (next ∷ later) = ap (λ b. is_below_limit (limit_behind plan before.event) next.event.ts && b) (near_later plan next later)

pub near_all : (plan : Plan) (taken : List Taken) → are_near plan taken ≡ near_behind plan None taken
near_all plan [] = refl
near_all plan (first ∷ later) = near_later plan first later

last_is : (first : Taken) (later : List Taken) → last_or (Some first) later ≡ Some (last_behind first later)
last_is first [] = refl
last_is first (next ∷ later) = last_is next later

pub limit_by_ends : (plan : Plan) (taken : List Taken) → limit_of plan taken ≡ limit_by plan (slice_get taken 0) (last_taken taken)
limit_by_ends plan [] = refl
limit_by_ends plan (first ∷ later) = sym (ap (limit_by plan (Some first)) (last_is first later))

pub within_none : (plan : Plan) (taken : List Taken) → slice_get taken 0 ≡ None → are_within plan taken ≡ true
within_none plan [] h = refl
within_none plan (first ∷ later) h = let no : Some first ≡ None = h in absurd cc

pub within_some : (plan : Plan) (taken : List Taken) (first : Taken) → slice_get taken 0 ≡ Some first
    → are_within plan taken ≡ list_all (λ t. is_below_limit (limit_from plan first.event) t.event.ts) taken
within_some plan [] first h = let no : None ≡ Some first = h in absurd cc
within_some plan (first ∷ later) other h =
    let same : first ≡ other = cc in ap (λ (f : Taken). list_all (λ t. is_below_limit (limit_from plan f.event) t.event.ts) (first ∷ later)) same

-- ---- the first ones pass, and no other

module _ {X : Type 0} (p : X → Bool) where
  filter_parted : (xs : List X) (i : ℕ) → i ≤ length xs → ((k : ℕ) (d : X) → k < i → p (get_or xs k d) ≡ true)
      → ((k : ℕ) (d : X) → i ≤ k → k < length xs → p (get_or xs k d) ≡ false) → length (filter p xs) ≡ i
  filter_parted [] i le pass fail = omega (arith, le)
  filter_parted (x ∷ xs) zero le pass fail =
      ap (λ b. length (cond b (x ∷ filter p xs) (filter p xs))) (fail 0 x (omega arith) (omega arith))
      ∙ filter_parted xs zero (omega arith) (λ k d lt. absurd (omega (arith, lt))) (λ k d le lt. fail (suc k) d (omega arith) (omega (arith, lt)))
  filter_parted (x ∷ xs) (suc i) le pass fail =
      ap (λ b. length (cond b (x ∷ filter p xs) (filter p xs))) (pass 0 x (omega arith))
      ∙ ap suc (filter_parted xs i (omega (arith, le)) (λ k d lt. pass (suc k) d (omega (arith, lt)))
      (λ k d le lt. fail (suc k) d (omega (arith, le)) (omega (arith, lt))))

  pub count_parted : (xs : List X) (i : ℕ) → i ≤ length xs → ((k : ℕ) (d : X) → k < i → p (get_or xs k d) ≡ true)
      → ((k : ℕ) (d : X) → i ≤ k → k < length xs → p (get_or xs k d) ≡ false) → count_by p xs ≡ i
  count_parted xs i le pass fail = sym (length-filter p xs) ∙ filter_parted xs i le pass fail
