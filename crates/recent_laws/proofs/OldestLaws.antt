-- The oldest start of a key's ticks: no list is living that starts before it, and no kept match kills what starts there.
use Rattle.std.proofs.Common.{◌≡◌, refl, sym, ◌∙◌, ap, subst, ℕ, ◌+◌, ◌≤◌, ◌<◌, Bool, true, false, not, ◌||◌, List, [], ◌∷◌, fold, length, arith, ◌⊎◌, inl, inr}
use Rattle.std.specs.Prelude.{filter_map, nat_lt, nat_le, ◌==◌, if◌then◌else◌, Contains, IfSome, Option, Some, None, option_map}
use Rattle.std.specs.List.{list_any, AllByRecursion as Each}
use Rattle.std.specs.Option.{option_map_or, unwrap_or}
use Rattle.std.proofs.lemmas.Bool.{ltb-true, ltb-false, lt-leb, le-ltb, ne_eqb, and_parts}
use Rattle.cep_event.specs.declared.event.Event.{Event}
use Rattle.cep_event.specs.declared.value.Value.{Value}
use Rattle.cep_plan.specs.declared.plan.Plan.{Plan}
use Rattle.cep_plan.specs.declared.plan.Skip.{Skip}
use Rattle.cep_plan.specs.declared.plan.Skip.TheVariants.{No, ToNext, PastLast, ToFirst, ToLast}
use Rattle.cep_plan.specs.declared.item.Taken.{Taken}
use Rattle.cep_plan.specs.declared.item.Item.{Item}
use Rattle.cep_plan.specs.declared.item.Item.TheVariants.{Match, Timeout}
use Rattle.cep_plan.specs.Entry.{Entry, taken_at, taken_of, last_taken}
use Rattle.cep_plan.specs.Tick.{Tick, events_of, last_time}
use Rattle.cep_plan.specs.History.{lists_within}
use Rattle.cep_plan.specs.Skipping.{start_of, end_of, entries_for, is_same, is_from_to, is_from_below, kills_start, list_in}
use Rattle.cep_plan.specs.Living.{is_living, living}
use Rattle.cep_plan.specs.Keys.{kept_of, ticks_of_key}
use Rattle.cep_plan.proofs.RisingLaws.{IsRising, IsRisingList, Each-weaker}
use Rattle.cep_plan.proofs.SortedLaws.{Contains-first, Contains-next, Contains-cases}
use Rattle.cep_plan.proofs.FilteredLaws.{Contains-from_filter}
use Rattle.live_laws.specs.Starts.{item_kills_start, is_start_alive}
use Rattle.live_laws.proofs.MemberLaws.{Contains-none, Each-filter}
use Rattle.live_laws.proofs.LastLaws.{last_or-each}
use Rattle.live_laws.proofs.LiveLaws.{waits-is_live}
use Rattle.live_laws.proofs.PartialLaws.{is_partial-rising}
use Rattle.live_laws.proofs.KeepLaws.{is_killed-start}
use Rattle.recent_laws.specs.Recent.{start_in, least, oldest, recent}
use Rattle.recent_laws.specs.Law.{StartsFrom, IsCut, left_out}
use Rattle.recent_laws.proofs.CutLaws.{kept-each, and_right}
use Rattle.recent_laws.proofs.PartLaws.{recent_parts}

-- ---- the least of numbers

pick_first : (a b : ℕ) → (if nat_lt b a then b else a) ≤ a
pick_first a b = decided (nat_lt b a) refl where
  decided : (t : Bool) → nat_lt b a ≡ t → (if t then b else a) ≤ a
  decided true is = let lt = ltb-true b a is in omega (arith, lt)
  decided false is = omega arith

pick_second : (a b : ℕ) → (if nat_lt b a then b else a) ≤ b
pick_second a b = decided (nat_lt b a) refl where
  decided : (t : Bool) → nat_lt b a ≡ t → (if t then b else a) ≤ b
  decided true is = omega arith
  decided false is = ltb-false b a is

abbrev least_from : ℕ → List ℕ → ℕ
least_from x xs = fold (λ a b. if nat_lt b a then b else a) x xs

least_first : (x : ℕ) (xs : List ℕ) → least_from x xs ≤ x
least_first x [] = omega arith
least_first x (y ∷ ys) = let more = least_first (if nat_lt y x then y else x) ys in let one = pick_first x y in omega (arith, more, one)

least_each : (x : ℕ) (xs : List ℕ) → Each (λ y. least_from x xs ≤ y) xs
least_each x [] = tt
least_each x (y ∷ ys) = let more = least_first (if nat_lt y x then y else x) ys in let one = pick_second x y in
    (omega (arith, more, one), least_each (if nat_lt y x then y else x) ys)

least_one : (x : ℕ) (xs : List ℕ) → (least_from x xs ≡ x) ⊎ Contains xs (least_from x xs)
least_one x [] = inl refl
least_one x (y ∷ ys) = decided (nat_lt y x) (least_one (if nat_lt y x then y else x) ys) where
  decided : (t : Bool) → (least_from (if nat_lt y x then y else x) ys ≡ (if t then y else x)) ⊎ Contains ys (least_from (if nat_lt y x then y else x) ys)
      → (least_from (if nat_lt y x then y else x) ys ≡ x) ⊎ Contains (y ∷ ys) (least_from (if nat_lt y x then y else x) ys)
  decided true (inl e) = inr (subst (Contains (y ∷ ys)) (sym e) (Contains-first y ys))
  decided false (inl e) = inl e
  decided t (inr q) = inr (Contains-next y (least_from (if nat_lt y x then y else x) ys) ys q)

least-each : (xs : List ℕ) (c : ℕ) → least xs ≡ Some c → Each (λ y. c ≤ y) xs
least-each [] c h = tt
least-each (x ∷ xs) c h = let e : least_from x xs ≡ c = ap (λ o. unwrap_or o 0) h in let first = least_first x xs in
    (omega (arith, e, first), subst (λ n. Each (λ y. n ≤ y) xs) e (least_each x xs))

least-one : (xs : List ℕ) (c : ℕ) → least xs ≡ Some c → Contains xs c
least-one [] c h = let wrong : false ≡ true = ap (λ o. option_map_or (λ (n : ℕ). true) o false) h in absurd cc
least-one (x ∷ xs) c h = let e : least_from x xs ≡ c = ap (λ o. unwrap_or o 0) h in split e (least_one x xs) where
  split : least_from x xs ≡ c → (least_from x xs ≡ x) ⊎ Contains xs (least_from x xs) → Contains (x ∷ xs) c
  split e (inl is) = subst (Contains (x ∷ xs)) (sym is ∙ e) (Contains-first x xs)
  split e (inr q) = Contains-next x c xs (subst (Contains xs) e q)

least-none : (xs : List ℕ) → least xs ≡ None → xs ≡ []
least-none [] h = refl
least-none (x ∷ xs) h = let wrong : true ≡ false = ap (λ o. option_map_or (λ (n : ℕ). true) o false) h in absurd cc

-- ---- the starts of lists

starts_each : (c : ℕ) (lists : List (List Entry)) → Each (λ s. c ≤ s) (filter_map start_in lists) → Each (StartsFrom c) lists
starts_each c [] h = tt
starts_each c ([] ∷ lists) h = (tt, starts_each c lists h)
starts_each c ((first ∷ rest) ∷ lists) h = (h.0, starts_each c lists h.1)

starts_none : (c : ℕ) (lists : List (List Entry)) → filter_map start_in lists ≡ [] → Each (StartsFrom c) lists
starts_none c lists h = starts_each c lists (subst (Each (λ s. c ≤ s)) (sym h) tt)

starts_one : (c : ℕ) (lists : List (List Entry)) → Contains (filter_map start_in lists) c
    → (first : Entry) × (rest : List Entry) × Contains lists (first ∷ rest) × (first.position ≡ c)
starts_one c [] q = absurd (Contains-none c q)
starts_one c ([] ∷ lists) q = let found = starts_one c lists q in (found.0, found.1, Contains-next [] (found.0 ∷ found.1) lists found.2, found.3)
starts_one c ((first ∷ rest) ∷ lists) q = split (Contains-cases first.position c (filter_map start_in lists) q) (λ r. starts_one c lists r) where
  split : (first.position ≡ c) ⊎ Contains (filter_map start_in lists) c →
      (Contains (filter_map start_in lists) c → (f : Entry) × (l : List Entry) × Contains lists (f ∷ l) × (f.position ≡ c))
      → (f : Entry) × (l : List Entry) × Contains ((first ∷ rest) ∷ lists) (f ∷ l) × (f.position ≡ c)
  split (inl e) later = (first, rest, Contains-first (first ∷ rest) lists, e)
  split (inr r) later = let found = later r in (found.0, found.1, Contains-next (first ∷ rest) (found.0 ∷ found.1) lists found.2, found.3)

-- ---- where no list is living: ranges end at events

rising_positions : (stages from n most : ℕ) → n ≤ most → (all : List Event) (l : List Entry) → IsRising stages from n l
    → Each (λ t. t.position < most) (taken_of all l)
rising_positions stages from n most le all [] h = tt
rising_positions stages from n most le all (e ∷ l) h = (omega (arith, h.2, le), rising_positions stages (e.position + 1) n most le all l h.3)

rising_list_positions : (stages n most : ℕ) → n ≤ most → (all : List Event) (l : List Entry) → IsRisingList stages 0 n l
    → Each (λ t. t.position < most) (taken_of all l)
rising_list_positions stages n most le all [] h = absurd h
rising_list_positions stages n most le all (e ∷ l) h = rising_positions stages 0 n most le all (e ∷ l) h

module _ (n : ℕ) where
  start_below : (list : List Taken) → Each (λ t. t.position < n) list → IfSome (start_of list) (λ p. p < n)
  start_below [] h = tt
  start_below (t ∷ list) h = h.0

  end_below : (list : List Taken) → Each (λ t. t.position < n) list → IfSome (end_of list) (λ p. p < n)
  end_below list h = after (last_taken list) (last_or-each (λ t. t.position < n) None list tt h) where
    after : (o : Option Taken) → IfSome o (λ t. t.position < n) → IfSome (option_map (λ (t : Taken). t.position) o) (λ p. p < n)
    after None k = tt
    after (Some t) k = k

  not_to : (from to : Option ℕ) → IfSome to (λ p. p < n) → is_from_to from to n ≡ false
  not_to None to h = refl
  not_to (Some from) None h = refl
  not_to (Some from) (Some to) h = and_right (nat_le from n) (nat_le n to) (lt-leb n to h)

  not_below : (from to : Option ℕ) → IfSome to (λ p. p < n) → is_from_below from to n ≡ false
  not_below None to h = refl
  not_below (Some from) None h = refl
  not_below (Some from) (Some to) h = and_right (nat_le from n) (nat_lt n to) (le-ltb n to (omega (arith, h)))

  not_same : (start : Option ℕ) → IfSome start (λ p. p < n) → is_same start n ≡ false
  not_same None h = refl
  not_same (Some s) h = ne_eqb s n (λ same. omega (arith, same, h))

  kills_none : (skip : Skip) (match : List Taken) → Each (λ t. t.position < n) match → kills_start skip match n ≡ false
  kills_none No match h = refl
  kills_none ToNext match h = not_same (start_of match) (start_below match h)
  kills_none PastLast match h = not_to (start_of match) (end_of match) (end_below match h)
  kills_none (ToFirst stage) match h = not_below (start_of match) (start_of (entries_for stage match))
      (start_below (entries_for stage match) (Each-filter (λ t. t.position < n) (λ t. t.stage == stage) match h))
  kills_none (ToLast stage) match h = not_below (start_of match) (end_of (entries_for stage match))
      (end_below (entries_for stage match) (Each-filter (λ t. t.position < n) (λ t. t.stage == stage) match h))

  item_none : (skip : Skip) (z : Item) → Each (λ t. t.position < n) (list_in z) → item_kills_start skip n z ≡ false
  item_none skip (Match match) h = kills_none skip match h
  item_none skip (Timeout other) h = refl

any_none : {X : Type 0} (p : X → Bool) (xs : List X) → Each (λ x. p x ≡ false) xs → list_any p xs ≡ false
any_none p [] h = refl
any_none p (x ∷ xs) h = ap (λ b. b || list_any p xs) h.0 ∙ any_none p xs h.1

open_behind : (plan : Plan) (ticks : List Tick) → is_start_alive plan.skip (kept_of plan ticks) (length (events_of ticks)) ≡ true
open_behind plan ticks =
    let n = length (events_of ticks) in
    ap not (any_none (item_kills_start plan.skip n) (kept_of plan ticks)
    (Each-weaker (λ z. Each (λ t. t.position < n) (list_in z)) (λ z. item_kills_start plan.skip n z ≡ false) (item_none n plan.skip) (kept_of plan ticks)
    (kept-each (λ taken. Each (λ t. t.position < n) taken) n (λ stages k le all l r. rising_list_positions stages k n le all l r) plan ticks (omega arith))))

-- ---- where a list is living

-- a living list that starts at the position
living_one : (plan : Plan) (ticks : List Tick) (first : Entry) (rest : List Entry) → Contains (living plan ticks) (first ∷ rest)
    → (first.position < length (events_of ticks)) × (is_start_alive plan.skip (kept_of plan ticks) first.position ≡ true)
unfolding living
living_one plan ticks first rest q =
    let events = events_of ticks in
    let items = kept_of plan ticks in
    let is = (Contains-from_filter (is_living plan events items (last_time ticks)) (lists_within plan (length events)) (first ∷ rest) q).1 in
    let inner = and_parts _ _ (and_parts _ _ is).0 in
    let partial = (waits-is_live plan events (first ∷ rest) inner.0).0 in (
      (is_partial-rising plan events (first ∷ rest) partial).2,
      ap not (sym (is_killed-start plan.skip items (taken_at events first) (taken_of events rest)))
          ∙ inner.1,
    )

-- what the oldest start says, or the number of events where there is none
pub record Oldest (plan : Plan) (ticks : List Tick) (from : ℕ) : Type 0 where
  pub among : from ≤ length (events_of ticks)
  pub starts : Each (StartsFrom from) (living plan ticks)
  pub is_open : is_start_alive plan.skip (kept_of plan ticks) from ≡ true

pub oldest_start : (plan : Plan) (ticks : List Tick) → Oldest plan ticks (option_map_or (λ start. start) (oldest plan ticks) (length (events_of ticks)))
oldest_start plan ticks = by_start (oldest plan ticks) refl where
  found : (c : ℕ) → (first : Entry) × (rest : List Entry) × Contains (living plan ticks) (first ∷ rest) × (first.position ≡ c)
      → (c < length (events_of ticks)) × (is_start_alive plan.skip (kept_of plan ticks) c ≡ true)
  found c (first, rest, q, e) = subst (λ n. (n < length (events_of ticks)) × (is_start_alive plan.skip (kept_of plan ticks) n ≡ true)) e
      (living_one plan ticks first rest q)

  by_start : (o : Option ℕ) → oldest plan ticks ≡ o → Oldest plan ticks (option_map_or (λ start. start) o (length (events_of ticks)))
  by_start None is = record {
    among = omega arith;
    starts = starts_none (length (events_of ticks)) (living plan ticks)
        (least-none (filter_map start_in (living plan ticks)) is);
    is_open = open_behind plan ticks;
  }
  by_start (Some c) is =
      let one = found c (starts_one c (living plan ticks) (least-one (filter_map start_in (living plan ticks)) c is)) in
      record {
        among = omega (arith, one.0);
        starts = starts_each c (living plan ticks)
            (least-each (filter_map start_in (living plan ticks)) c is);
        is_open = one.1;
      }

-- The recent ticks of a key are a cut of its ticks.
pub recent_cut : (plan : Plan) (ticks : List Tick) (key : Option Value) → IsCut plan (ticks_of_key plan key ticks)
    (ticks_of_key plan key (recent plan ticks)) (left_out plan ticks key)
recent_cut plan ticks key =
    let own = oldest_start plan (ticks_of_key plan key ticks) in
    let parts = recent_parts plan ticks key own.among in record {
      early = parts.early;
      marks = parts.marks;
      later = parts.later;
      old_is = parts.whole_is;
      young_is = parts.some_is;
      dropped_is = parts.count;
      no_events = parts.no_events;
      living_from = own.starts;
      is_open = own.is_open;
    }
