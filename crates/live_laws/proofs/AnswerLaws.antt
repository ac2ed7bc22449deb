-- Lists in order that are just the matches of a tick, or just the live lists that pass a test.
use Rattle.std.proofs.Common.{◌≡◌, refl, sym, ◌∙◌, ap, subst, ℕ, ◌+◌, ◌<◌, arith, Bool, true, false, ◌&&◌, List, [], ◌∷◌, ◌++◌, length, length-append, ◌⊎◌, inl, inr}
use Rattle.std.specs.Prelude.{Contains, ◌==◌, Option, Some, None, IfSome, filter}
use Rattle.std.specs.Option.{option_map_or}
use Rattle.std.specs.List.Sorted.{IsStrictlySortedBy}
use Rattle.std.proofs.lemmas.Bool.{and_parts, and_from, eq-eqb, eqb-true}
use Rattle.cep_event.specs.declared.event.Event.{Event}
use Rattle.cep_plan.specs.declared.plan.Plan.{Plan}
use Rattle.cep_plan.specs.Entry.{Entry, last_entry, stages_of}
use Rattle.cep_plan.specs.Order.{list_cmp}
use Rattle.cep_plan.specs.Follow.{is_full}
use Rattle.cep_plan.specs.Partial.{is_partial, is_complete, is_live, waits}
use Rattle.cep_plan.specs.Rising.{rising_lists}
use Rattle.cep_plan.specs.History.{ends_at, matches_at, lists_within}
use Rattle.cep_plan.proofs.RisingLaws.{IsRising, IsRisingList}
use Rattle.cep_plan.proofs.FilteredLaws.{filtered_unique}
use Rattle.cep_plan.proofs.LocalLaws.{AreAmong}
use Rattle.live_laws.proofs.LastLaws.{last_or-each, last_or-push}
use Rattle.live_laws.proofs.MemberLaws.{filter-filter}
use Rattle.live_laws.proofs.PartialLaws.{is_partial-rising, IsGrown, rising_split}
use Rattle.live_laws.proofs.LiveLaws.{is_live-waits, waits-is_live}

ends_at-grown : (events : List Event) (list : List Entry) → IsGrown events list → ends_at (length events) list ≡ true
ends_at-grown events list before =
    ap (ends_at (length events)) before.2
    ∙ ap (λ o. option_map_or (λ (last : Entry). last.position == length events) o false)
    (last_or-push None before.0 (record { stage = before.1; position = length events })) ∙ eq-eqb (length events) (length events) refl

pub grown_from_end : (plan : Plan) (events : List Event) (event : Event) (list : List Entry) → is_partial plan (events ++ event ∷ []) list ≡ true
    → ends_at (length events) list ≡ true → IsGrown events list
grown_from_end plan events event list partial ends =
    split (rising_split (length plan.stages) 0 events list (rising list (is_partial-rising plan (events ++ event ∷ []) list partial))) where
      rising : (l : List Entry) → IsRisingList (length plan.stages) 0 (length (events ++ event ∷ [])) l → IsRising (length plan.stages) 0 (length events + 1) l
      rising [] h = tt
      rising (e ∷ l) h = subst (λ n. IsRising (length plan.stages) 0 n (e ∷ l)) (length-append events (event ∷ [])) h

      below : (last : Option Entry) → IfSome last (λ e. e.position < length events) → option_map_or (λ e. e.position == length events) last false ≡ true → ⊥
      below None h k = let no : false ≡ true = k in cc
      below (Some last) h k = let same : last.position ≡ length events = eqb-true last.position (length events) k in omega (arith, h, same)

      split : AreAmong events list ⊎ IsGrown events list → IsGrown events list
      split (inl among) = absurd (below (last_entry list) (last_or-each (λ e. e.position < length events) None list tt among) ends)
      split (inr before) = before

-- Lists in order that are just the full ones among the partial lists that end at the event, and that pass a test, are the matches of its tick that pass.
pub matches_at-unique : (plan : Plan) (events : List Event) (event : Event) (passes : List Entry → Bool) (xs : List (List Entry))
    → IsStrictlySortedBy list_cmp xs
    → ((z : List Entry) → Contains xs z → (is_partial plan (events ++ event ∷ []) z ≡ true) × IsGrown events z × (is_full plan (stages_of z) ≡ true)
    × (passes z ≡ true))
    → ((z : List Entry) → is_partial plan (events ++ event ∷ []) z ≡ true → IsGrown events z → is_full plan (stages_of z) ≡ true → passes z ≡ true
    → Contains xs z)
    → xs ≡ filter passes (matches_at plan events event)
unfolding is_complete
matches_at-unique plan events event passes xs sorted sound complete =
    filtered_unique (λ list. passes list
    && (ends_at (length events) list && (is_partial plan (events ++ event ∷ []) list && is_full plan (stages_of list)))) (length plan.stages)
    (length events + 1) xs sorted
    (λ z q. let known = sound z q in (
      subst (λ n. IsRisingList (length plan.stages) 0 n z) (length-append events (event ∷ [])) (is_partial-rising plan (events ++ event ∷ []) z known.0),
      and_from _ _ known.3 (and_from _ _ (ends_at-grown events z known.1) (and_from _ _ known.0 known.2)),
    ))
    (λ z rising h. let passed = and_parts (passes z) (ends_at (length events) z
    && (is_partial plan (events ++ event ∷ []) z && is_full plan (stages_of z))) h in
    let both = and_parts (ends_at (length events) z) (is_partial plan (events ++ event ∷ []) z && is_full plan (stages_of z)) passed.1 in
    let match = and_parts (is_partial plan (events ++ event ∷ []) z) (is_full plan (stages_of z)) both.1 in
    complete z match.0 (grown_from_end plan events event z match.0 both.0) match.1 passed.0)
    ∙ sym (filter-filter passes (λ list. ends_at (length events) list
    && (is_partial plan (events ++ event ∷ []) list && is_full plan (stages_of list))) (rising_lists (length plan.stages) 0 (length events + 1)))

-- Lists in order that are just the partial ones that wait and pass a test are the live lists that pass.
pub live-unique : (plan : Plan) (events : List Event) (passes : List Entry → Bool) (xs : List (List Entry)) → IsStrictlySortedBy list_cmp xs
    → ((z : List Entry) → Contains xs z → (is_partial plan events z ≡ true) × ((stage : ℕ) × (waits plan events z stage ≡ true)) × (passes z ≡ true))
    → ((z : List Entry) (stage : ℕ) → is_partial plan events z ≡ true → waits plan events z stage ≡ true → passes z ≡ true → Contains xs z)
    → xs ≡ filter (λ list. passes list && is_live plan events list) (lists_within plan (length events))
live-unique plan events passes xs sorted sound complete =
    filtered_unique (λ list. passes list && is_live plan events list) (length plan.stages) (length events) xs sorted
    (λ z q. let known = sound z q in
    (is_partial-rising plan events z known.0, and_from _ _ known.2 (is_live-waits plan events z known.1.0 known.0 known.1.1)))
    (λ z rising h. let both = and_parts (passes z) (is_live plan events z) h in
    let found = waits-is_live plan events z both.1 in
    complete z found.1.0 found.0 found.1.1 both.0)
