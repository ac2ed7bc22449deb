-- The matches of a tick come in order of their starts, and one position tells which of the later starts the kept ones kill.
use Rattle.std.proofs.Common.{◌≡◌, refl, sym, ◌∙◌, ap, subst, ℕ, ◌<◌, ◌≤◌, ◌+◌, arith, Bool, true, false, ◌||◌, ◌&&◌, cond, List, [], ◌∷◌, ◌++◌, length, map, ◌⊎◌, inl, inr}
use Rattle.std.specs.Prelude.{nat_lt, filter, Option, Some, None, IfSome}
use Rattle.std.specs.List.{list_any, AllByRecursion as Each}
use Rattle.std.specs.List.Sorted.{IsStrictlySortedBy}
use Rattle.std.specs.Option.{option_map_or}
use Rattle.std.specs.declared.cmp.Ordering.{Ordering}
use Rattle.std.specs.declared.cmp.Ordering.TheVariants.{Less, Equal, Greater}
use Rattle.std.specs.Ordering.{nat_cmp, ordering_then}
use Rattle.std.proofs.lemmas.Bool.{cases_lt, lt-ltb, le-ltb, le-leb, ne_eqb}
use Rattle.std.proofs.lemmas.List.Folds.{list_any-append}
use Rattle.std.proofs.lemmas.List.Kept.{IsStrictlySortedBy-filter}
use Rattle.cep_event.specs.declared.event.Event.{Event}
use Rattle.cep_plan.specs.declared.plan.Plan.{Plan}
use Rattle.cep_plan.specs.declared.plan.Skip.{Skip}
use Rattle.cep_plan.specs.declared.item.Taken.{Taken}
use Rattle.cep_plan.specs.declared.item.Item.TheVariants.{Match}
use Rattle.cep_plan.specs.Entry.{Entry, taken_of}
use Rattle.cep_plan.specs.History.{matches_at, ends_at, closed_at}
use Rattle.cep_plan.specs.Order.{list_cmp}
use Rattle.cep_plan.specs.Partial.{is_complete}
use Rattle.cep_plan.specs.Skipping.{start_of, kills, kills_start, is_killed, item_kills}
use Rattle.cep_plan.proofs.RisingLaws.{rising_lists-sorted}
use Rattle.cep_event.specs.declared.record.Moment.{Moment}
use Rattle.live_laws.specs.Starts.{begins_in}
use Rattle.live_laws.proofs.TimeoutLaws.{closes_now}
use Rattle.skip_strategy.specs.Range.{is_in}
use Rattle.cep_engine.specs.Reach.{StartsNoLater, AreInStartOrder, StartsBy, KillBelow, farther, starts_below}
use Rattle.cep_engine.specs.Small.{AreSmall}
use Rattle.cep_engine.proofs.LoopLaws.{any_match}

-- ---- the order of starts

-- none of the first lists starts after one of the others
abbrev pub StartBefore : List (List Taken) → List (List Taken) → Type 0
StartBefore lists later = Each (λ list. Each (StartsNoLater list) later) lists

-- without the first of the others
pub StartBefore-rest : (lists : List (List Taken)) (next : List Taken) (later : List (List Taken)) → StartBefore lists (next ∷ later) → StartBefore lists later
StartBefore-rest [] next later h = tt
StartBefore-rest (list ∷ lists) next later h = (h.0.1, StartBefore-rest lists next later h.1)

pub StartBefore-next : (lists : List (List Taken)) (next : List Taken) (later : List (List Taken)) → StartBefore lists (next ∷ later)
    → Each (λ list. StartsNoLater list next) lists
StartBefore-next [] next later h = tt
StartBefore-next (list ∷ lists) next later h = (h.0.0, StartBefore-next lists next later h.1)

module _ (events : List Event) where
  not_behind : (a b : ℕ) (rest : Ordering) → ordering_then (nat_cmp a b) rest ≡ Less → a ≤ b
  not_behind a b rest less = by_order (cases_lt b a) where
    by_order : (b < a) ⊎ (a ≤ b) → a ≤ b
    by_order (inr le) = le
    by_order (inl lt) =
        let greater : nat_cmp a b ≡ Greater = (λ i. cond (le-ltb a b (omega (arith, lt)) i) Less
        (cond (ne_eqb a b (λ e. omega (arith, e, lt)) i) Equal Greater)) in
        let no : Greater ≡ Less = ap (λ o. ordering_then o rest) (sym greater) ∙ less in
        absurd cc

  then_both : (a b c : Ordering) → ordering_then (ordering_then a b) c ≡ ordering_then a (ordering_then b c)
  then_both Less b c = refl
  then_both Equal b c = refl
  then_both Greater b c = refl

  starts_no_later : (a b : List Entry) → list_cmp a b ≡ Less → StartsNoLater (taken_of events a) (taken_of events b)
  starts_no_later [] b less = tt
  starts_no_later (x ∷ a) [] less = tt
  starts_no_later (x ∷ a) (y ∷ b) less =
      not_behind x.position y.position (ordering_then (nat_cmp x.stage y.stage) (list_cmp a b))
      (sym (then_both (nat_cmp x.position y.position) (nat_cmp x.stage y.stage) (list_cmp a b)) ∙ less)

  -- lists in order are in order of their starts
  in_start_order : (lists : List (List Entry)) → IsStrictlySortedBy list_cmp lists → AreInStartOrder (map (taken_of events) lists)
  unfolding IsStrictlySortedBy
  in_start_order [] sorted = tt
  in_start_order (list ∷ lists) sorted = (all_later lists sorted.0, in_start_order lists sorted.1) where
    all_later : (later : List (List Entry)) → Each (λ b. list_cmp list b ≡ Less) later
        → Each (StartsNoLater (taken_of events list)) (map (taken_of events) later)
    all_later [] h = tt
    all_later (b ∷ later) h = (starts_no_later list b h.0, all_later later h.1)

-- the matches of a tick that begin at some starts are in order of their starts
pub matches_in_order : (plan : Plan) (events : List Event) (event : Event) (starts : ℕ → Bool)
    → AreInStartOrder (map (taken_of (events ++ event ∷ [])) (filter (begins_in starts) (matches_at plan events event)))
matches_in_order plan events event starts =
    in_start_order (events ++ event ∷ []) (filter (begins_in starts) (matches_at plan events event))
    (IsStrictlySortedBy-filter list_cmp (begins_in starts) (matches_at plan events event)
    (IsStrictlySortedBy-filter list_cmp (λ list. ends_at (length events) list && is_complete plan (events ++ event ∷ []) list) _
    (rising_lists-sorted (length plan.stages) 0 (length events + 1))))

-- and so are the closed matches
pub closed_in_order : (plan : Plan) (events : List Event) (before : Option Moment) (now : Moment) (starts : ℕ → Bool)
    → AreInStartOrder (map (taken_of events) (filter (begins_in starts) (closed_at plan events before now)))
closed_in_order plan events before now starts =
    in_start_order events (filter (begins_in starts) (closed_at plan events before now))
    (IsStrictlySortedBy-filter list_cmp (begins_in starts) (closed_at plan events before now)
    (IsStrictlySortedBy-filter list_cmp (closes_now plan events before now) _ (rising_lists-sorted (length plan.stages) 0 (length events))))

-- ---- what the kept matches kill

-- the lists that don't start after this one don't start after its start
starts_by : (list : List Taken) (start : ℕ) (found : List (List Taken)) → start_of list ≡ Some start → Each (λ match. StartsNoLater match list) found
    → Each (StartsBy start) found
starts_by list start [] is h = tt
starts_by list start (match ∷ found) is h = (by_start (start_of match) h.0, starts_by list start found is h.1) where
  by_start : (o : Option ℕ) → IfSome o (λ p. IfSome (start_of list) (λ q. p ≤ q)) → IfSome o (λ p. p ≤ start)
  by_start None k = tt
  by_start (Some p) k = subst (λ s. IfSome s (λ q. p ≤ q)) is k

any_none : {X : Type 0} (xs : List X) → list_any (λ x. false) xs ≡ false
any_none [] = refl
any_none (x ∷ xs) = any_none xs

-- A kept match kills the list exactly where it starts below the reach.
pub killed_below : (skip : Skip) (found : List (List Taken)) (reach : ℕ) (list : List Taken) → KillBelow skip found reach
    → Each (λ match. StartsNoLater match list) found → is_killed skip (map Match found) list ≡ starts_below reach list
unfolding kills
killed_below skip found reach list below before = any_match (item_kills skip list) found ∙ by_start (start_of list) refl where
  by_start : (o : Option ℕ) → start_of list ≡ o → list_any (λ match. kills skip match list) found ≡ starts_below reach list
  by_start None is =
      (λ i. list_any (λ match. option_map_or (kills_start skip match) (is i) false) found) ∙ any_none found
      ∙ ap (λ s. option_map_or (λ p. nat_lt p reach) s false) (sym is)
  by_start (Some start) is =
      (λ i. list_any (λ match. option_map_or (kills_start skip match) (is i) false) found) ∙ below start (starts_by list start found is before)
      ∙ ap (λ s. option_map_or (λ p. nat_lt p reach) s false) (sym is)

-- before the first match nothing is killed
pub KillBelow-none : (skip : Skip) → KillBelow skip [] 0
KillBelow-none skip start h = sym (le-ltb start 0 (omega arith))

farthest : (start reach to : ℕ) → (nat_lt start reach || nat_lt start to) ≡ nat_lt start (cond (nat_lt reach to) to reach)
farthest start reach to = by_order (cases_lt reach to) where
  by_order : (reach < to) ⊎ (to ≤ reach) → (nat_lt start reach || nat_lt start to) ≡ nat_lt start (cond (nat_lt reach to) to reach)
  by_order (inl lt) = by_start (cases_lt start reach) ∙ ap (λ b. nat_lt start (cond b to reach)) (sym (lt-ltb reach to lt)) where
    by_start : (start < reach) ⊎ (reach ≤ start) → (nat_lt start reach || nat_lt start to) ≡ nat_lt start to
    by_start (inl below) = ap (λ b. b || nat_lt start to) (lt-ltb start reach below) ∙ sym (lt-ltb start to (omega (arith, below, lt)))
    by_start (inr above) = ap (λ b. b || nat_lt start to) (le-ltb start reach above)
  by_order (inr le) = by_start (cases_lt start reach) ∙ ap (λ b. nat_lt start (cond b to reach)) (sym (le-ltb reach to le)) where
    by_start : (start < reach) ⊎ (reach ≤ start) → (nat_lt start reach || nat_lt start to) ≡ nat_lt start reach
    by_start (inl below) = (λ i. lt-ltb start reach below i || nat_lt start to) ∙ sym (lt-ltb start reach below)
    by_start (inr above) = (λ i. le-ltb start reach above i || le-ltb start to (omega (arith, above, le)) i) ∙ sym (le-ltb start reach above)

or_false : (b : Bool) → (b || false) ≡ b
or_false true = refl
or_false false = refl

-- one more kept match, with the range that it kills
pub KillBelow-more : (skip : Skip) (found : List (List Taken)) (reach : ℕ) (match : List Taken) (range : Option (ℕ × ℕ)) → KillBelow skip found reach
    → ((start : ℕ) → is_in range start ≡ kills_start skip match start) → IfSome range (λ r. start_of match ≡ Some r.0)
    → KillBelow skip (found ++ match ∷ []) (farther reach range)
KillBelow-more skip found reach match range below kills_in from start by =
    list_any-append (λ m. kills_start skip m start) found (match ∷ [])
    ∙ (λ i. below start (front found by) i || (or_false (kills_start skip match start) ∙ sym (kills_in start)) i)
    ∙ by_range range from where
      front : (ms : List (List Taken)) → Each (StartsBy start) (ms ++ match ∷ []) → Each (StartsBy start) ms
      front [] h = tt
      front (m ∷ ms) h = (h.0, front ms h.1)

      last : (ms : List (List Taken)) → Each (StartsBy start) (ms ++ match ∷ []) → StartsBy start match
      last [] h = h.0
      last (m ∷ ms) h = last ms h.1

      by_range : (r : Option (ℕ × ℕ)) → IfSome r (λ q. start_of match ≡ Some q.0) → (nat_lt start reach || is_in r start) ≡ nat_lt start (farther reach r)
      by_range None k = or_false (nat_lt start reach)
      by_range (Some (first, to)) k =
          let le : first ≤ start = subst (λ o. IfSome o (λ p. p ≤ start)) k (last found by) in
          (λ i. nat_lt start reach || (le-leb first start le i && nat_lt start to)) ∙ farthest start reach to

-- before the first match
pub kept_none : (skip : Skip) {lists found rest : List (List Taken)} → found ≡ [] → rest ≡ lists → AreSmall lists
    → AreSmall found × AreSmall rest × (AreInStartOrder lists → (map Match found ≡ []) × AreInStartOrder rest × StartBefore found rest × KillBelow skip found 0)
kept_none skip {lists = lists} {found = found} {rest = rest} none same small = (
  subst AreSmall (sym none) tt,
  subst AreSmall (sym same) small,
  λ order. (
    ap (map Match) none,
    subst AreInStartOrder (sym same) order,
    subst (λ f. StartBefore f rest) (sym none) tt,
    subst
        (λ f. KillBelow skip f 0) (sym none) (KillBelow-none skip),
  ),
)
