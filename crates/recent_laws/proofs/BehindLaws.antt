-- The lists that start behind the first events are those among the later events alone, moved.
use Rattle.std.proofs.Common.{◌≡◌, refl, sym, ◌∙◌, ap, ℕ, zero, suc, ◌+◌, ◌<◌, Bool, true, false, cond, List, [], ◌∷◌, ◌++◌, map, length, arith}
use Rattle.std.specs.Prelude.{filter, flat_map}
use Rattle.std.specs.List.{AllByRecursion as Each, range_with_len}
use Rattle.std.proofs.lemmas.List.{map-append}
use Rattle.cep_event.specs.declared.event.Event.{Event}
use Rattle.cep_plan.specs.declared.plan.Plan.{Plan}
use Rattle.cep_plan.specs.Entry.{Entry}
use Rattle.cep_plan.specs.Rising.{begun_with, rising_lists}
use Rattle.cep_plan.specs.History.{lists_within}
use Rattle.cep_plan.proofs.RisingLaws.{StartsAt, block, block-starts}
use Rattle.recent_laws.specs.Moved.{moved_entry, moved}
use Rattle.recent_laws.proofs.ListLaws.{filter-map}

-- ---- all lists, moved

map-moved : (by : ℕ) (e : Entry) (lists : List (List Entry)) → map (λ l. moved_entry by e ∷ l) (map (moved by) lists) ≡ map (moved by) (map (λ l. e ∷ l) lists)
map-moved by e [] = refl
map-moved by e (l ∷ lists) = ap (λ ls. (moved_entry by e ∷ moved by l) ∷ ls) (map-moved by e lists)

begun_with-moved : (by : ℕ) (e : Entry) (lists : List (List Entry)) → begun_with (moved_entry by e) (map (moved by) lists) ≡ map (moved by) (begun_with e lists)
begun_with-moved by e lists = ap (λ ls. (moved_entry by e ∷ []) ∷ ls) (map-moved by e lists)

block-moved : (by from : ℕ) (later : List (List Entry)) (stages : List ℕ)
    → flat_map (λ stage. begun_with (record { stage = stage; position = by + from }) (map (moved by) later)) stages
    ≡ map (moved by) (flat_map (λ stage. begun_with (record { stage = stage; position = from }) later) stages)
block-moved by from later [] = refl
block-moved by from later (stage ∷ stages) =
    (λ i. begun_with-moved by (record { stage = stage; position = from }) later i ++ block-moved by from later stages i)
    ∙ sym (map-append (moved by) (begun_with (record { stage = stage; position = from }) later)
    (flat_map (λ stage. begun_with (record { stage = stage; position = from }) later) stages))

pub rising_lists-moved : (stages by from count : ℕ) → rising_lists stages (by + from) count ≡ map (moved by) (rising_lists stages from count)
unfolding rising_lists
rising_lists-moved stages by from zero = refl
rising_lists-moved stages by from (suc count) =
    let one : by + from + 1 ≡ by + (from + 1) = omega arith in
    let later = rising_lists stages (from + 1) count in
    (λ i. let behind = (ap (λ n. rising_lists stages n count) one ∙ rising_lists-moved stages by (from + 1) count) i in
    flat_map (λ stage. begun_with (record { stage = stage; position = by + from }) behind) (range_with_len 0 stages) ++ behind)
    ∙ ap (λ l. l ++ map (moved by) later) (block-moved by from later (range_with_len 0 stages))
    ∙ sym (map-append (moved by) (flat_map (λ stage. begun_with (record { stage = stage; position = from }) later) (range_with_len 0 stages)) later)

-- ---- lists that start at the first events are left out

module _ {X : Type 0} (p : X → Bool) where
  pub filter-none : (xs : List X) → Each (λ x. p x ≡ false) xs → filter p xs ≡ []
  filter-none [] h = refl
  filter-none (x ∷ xs) h = ap (λ b. cond b (x ∷ filter p xs) (filter p xs)) h.0 ∙ filter-none xs h.1

  filter-both : (x : X) (xs ys : List X) (b : Bool) → filter p (xs ++ ys) ≡ filter p xs ++ filter p ys
      → cond b (x ∷ filter p (xs ++ ys)) (filter p (xs ++ ys)) ≡ cond b (x ∷ filter p xs) (filter p xs) ++ filter p ys
  filter-both x xs ys true h = ap (λ l. x ∷ l) h
  filter-both x xs ys false h = h

  pub filter-append : (xs ys : List X) → filter p (xs ++ ys) ≡ filter p xs ++ filter p ys
  filter-append [] ys = refl
  filter-append (x ∷ xs) ys = filter-both x xs ys (p x) (filter-append xs ys)

module _ (test : List Entry → Bool) where
  abbrev NoneBefore : ℕ → Type 0
  NoneBefore from = (first : Entry) (rest : List Entry) → first.position < from → test (first ∷ rest) ≡ false

  Each-none : (from : ℕ) (lists : List (List Entry)) → NoneBefore (from + 1) → Each (StartsAt from 0) lists → Each (λ l. test l ≡ false) lists
  Each-none from [] none h = tt
  Each-none from ([] ∷ lists) none h = absurd h.0
  Each-none from ((first ∷ rest) ∷ lists) none h = (none first rest (omega (arith, h.0.0)), Each-none from lists none h.1)

  from_early : (stages from : ℕ) (early later : List Event) → NoneBefore (from + length early)
      → filter test (rising_lists stages from (length (early ++ later))) ≡ filter test (rising_lists stages (from + length early) (length later))
  unfolding rising_lists
  from_early stages from [] later none = let same : from ≡ from + 0 = omega arith in ap (λ n. filter test (rising_lists stages n (length later))) same
  from_early stages from (e ∷ early) later none =
      let behind = rising_lists stages (from + 1) (length (early ++ later)) in
      let next : from + 1 + length early ≡ from + length (e ∷ early) = omega arith in
      filter-append test (block from behind 0 stages) behind
      ∙ ap (λ l. l ++ filter test behind) (filter-none test (block from behind 0 stages)
      (Each-none from (block from behind 0 stages) (λ first rest lt. none first rest (omega (arith, lt, next))) (block-starts from behind 0 stages)))
      ∙ from_early stages (from + 1) early later (λ first rest lt. none first rest (omega (arith, lt, next)))
      ∙ ap (λ n. filter test (rising_lists stages n (length later))) next

  -- The lists that pass a test which none passes that starts at one of the first events.
  pub filter-behind : (plan : Plan) (early later : List Event) → ((first : Entry) (rest : List Entry) → first.position < length early
      → test (first ∷ rest) ≡ false)
      → filter test (lists_within plan (length (early ++ later))) ≡ map (moved (length early))
      (filter (λ l. test (moved (length early) l)) (lists_within plan (length later)))
  filter-behind plan early later none =
      let start : 0 + length early ≡ length early + 0 = omega arith in
      from_early (length plan.stages) 0 early later (λ first rest lt. none first rest (omega (arith, lt)))
      ∙ ap (λ n. filter test (rising_lists (length plan.stages) n (length later))) start
      ∙ ap (filter test) (rising_lists-moved (length plan.stages) (length early) 0 (length later))
      ∙ filter-map (moved (length early)) test (lists_within plan (length later))
