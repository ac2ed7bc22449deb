-- A list is live where it is a partial match and waits for some stage.
use Rattle.std.proofs.Common.{◌≡◌, ap, ◌∙◌, ℕ, ◌+◌, arith, Bool, true, false, List, [], ◌∷◌, length, ◌⊎◌, inl, inr}
use Rattle.std.specs.Prelude.{Contains}
use Rattle.std.specs.List.{list_any, range_with_len}
use Rattle.std.proofs.lemmas.Bool.{and_parts, and_from, or_cases, or_left, or_right}
use Rattle.cep_event.specs.declared.event.Event.{Event}
use Rattle.cep_plan.specs.declared.plan.Plan.{Plan}
use Rattle.cep_plan.specs.Entry.{Entry, stages_of}
use Rattle.cep_plan.specs.Follow.{end_stage, may_follow}
use Rattle.cep_plan.specs.Gap.{gap_holds}
use Rattle.cep_plan.specs.Partial.{may_grow, is_partial, is_open_for, waits, is_live}
use Rattle.cep_plan.proofs.SortedLaws.{Contains-cases}
use Rattle.live_laws.proofs.MemberLaws.{Contains-none, Contains-range}
use Rattle.live_laws.proofs.PartialLaws.{stage_awaited, is_partial-may_grow}

module _ {X : Type 0} (test : X → Bool) where
  pub list_any-from : (xs : List X) → list_any test xs ≡ true → (x : X) × (test x ≡ true)
  list_any-from [] h = let no : false ≡ true = h in absurd cc
  list_any-from (x ∷ xs) h = split (or_cases (test x) (list_any test xs) h) (list_any-from xs) where
    split : (test x ≡ true) ⊎ (list_any test xs ≡ true) → (list_any test xs ≡ true → (x : X) × (test x ≡ true)) → (x : X) × (test x ≡ true)
    split (inl is) later = (x, is)
    split (inr some) later = later some

  pub list_any-contains : (xs : List X) (x : X) → Contains xs x → test x ≡ true → list_any test xs ≡ true
  list_any-contains [] x q h = absurd (Contains-none x q)
  list_any-contains (y ∷ xs) x q h = split (Contains-cases y x xs q) (λ p. list_any-contains xs x p h) where
    split : (y ≡ x) ⊎ Contains xs x → (Contains xs x → list_any test xs ≡ true) → list_any test (y ∷ xs) ≡ true
    split (inl e) later = or_left (test y) (list_any test xs) (ap test e ∙ h)
    split (inr p) later = or_right (test y) (list_any test xs) (later p)

-- a partial list that waits for some stage is live
pub is_live-waits : (plan : Plan) (events : List Event) (list : List Entry) (stage : ℕ) → is_partial plan events list ≡ true
    → waits plan events list stage ≡ true → is_live plan events list ≡ true
unfolding is_live waits
is_live-waits plan events list stage partial h =
    let open_for = (and_parts (may_grow plan events list) (is_open_for plan events list stage) h).1 in
    let follow = (and_parts (may_follow plan (stages_of list) stage) (gap_holds plan events list stage (length events)) open_for).0 in
    and_from _ _ partial
    (list_any-contains (is_open_for plan events list) (range_with_len 0 (end_stage plan + 1)) stage
    (Contains-range 0 (end_stage plan + 1) stage (omega arith) (omega (arith, stage_awaited plan (stages_of list) stage follow))) open_for)

-- A live list is a partial match, and waits for some stage.
pub waits-is_live : (plan : Plan) (events : List Event) (list : List Entry) → is_live plan events list ≡ true → (is_partial plan events list ≡ true)
    × ((stage : ℕ) × (waits plan events list stage ≡ true))
unfolding is_live waits
waits-is_live plan events list h =
    let both = and_parts (is_partial plan events list) (list_any (is_open_for plan events list) (range_with_len 0 (end_stage plan + 1))) h in
    let some = list_any-from (is_open_for plan events list) (range_with_len 0 (end_stage plan + 1)) both.1 in
    (both.0, (some.0, and_from _ _ (is_partial-may_grow plan events list both.0) some.1))
