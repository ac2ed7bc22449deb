-- Kept matches: which starts they kill, and that their events stand before the next position.
use Rattle.std.proofs.Common.{◌≡◌, refl, ◌∙◌, ap, ℕ, ◌<◌, ◌≤◌, arith, Bool, true, false, not, ◌&&◌, ◌||◌, ◌==◌, cond, List, [], ◌∷◌, ◌++◌, map}
use Rattle.std.specs.Prelude.{nat_le, Option, Some, None, option_map, IfSome}
use Rattle.std.specs.List.{list_any, AllByRecursion as Each}
use Rattle.std.proofs.lemmas.Bool.{lt-leb, le-ltb, ne_eqb}
use Rattle.std.proofs.lemmas.List.Folds.{list_any-append}
use Rattle.cep_plan.specs.declared.plan.Skip.{Skip}
use Rattle.cep_plan.specs.declared.plan.Skip.TheVariants.{No, ToNext, PastLast, ToFirst, ToLast}
use Rattle.cep_plan.specs.declared.item.Taken.{Taken}
use Rattle.cep_plan.specs.declared.item.Item.{Item}
use Rattle.cep_plan.specs.declared.item.Item.TheVariants.{Match, Timeout}
use Rattle.cep_plan.specs.Skipping.{start_of, end_of, entries_for, is_from_below, is_from_to, is_same, kills_start, is_killed, list_in, kept_after}
use Rattle.cep_plan.proofs.RisingLaws.{Each-weaker}
use Rattle.live_laws.specs.Starts.{item_kills_start, is_start_alive}
use Rattle.live_laws.proofs.LastLaws.{last_or-each}
use Rattle.live_laws.proofs.MemberLaws.{Each-filter}
use Rattle.cep_engine.specs.Standing.{IsBelow, AreBelow}

-- ---- no match kills a start that comes after it

module _ (position : ℕ) where
  first_below : (list : List Taken) → Each (λ t. t.position < position) list → IfSome (start_of list) (λ p. p < position)
  first_below [] h = tt
  first_below (t ∷ list) h = h.0

  of_last : (o : Option Taken) → IfSome o (λ t. t.position < position) → IfSome (option_map (λ t. t.position) o) (λ p. p < position)
  of_last None h = tt
  of_last (Some t) h = h

  last_below : (list : List Taken) → Each (λ t. t.position < position) list → IfSome (end_of list) (λ p. p < position)
  last_below list h = of_last _ (last_or-each (λ (t : Taken). t.position < position) None list tt h)

  not_same : (o : Option ℕ) → IfSome o (λ p. p < position) → is_same o position ≡ false
  not_same None h = refl
  not_same (Some p) h = ne_eqb p position (λ e. omega (arith, e, h))

  not_to : (from to : Option ℕ) → IfSome to (λ p. p < position) → is_from_to from to position ≡ false
  not_to None to h = refl
  not_to (Some from) None h = refl
  not_to (Some from) (Some to) h = (λ i. nat_le from position && lt-leb position to h i) ∙ with_false (nat_le from position) where
    with_false : (b : Bool) → (b && false) ≡ false
    with_false true = refl
    with_false false = refl

  not_below : (from to : Option ℕ) → IfSome to (λ p. p < position) → is_from_below from to position ≡ false
  not_below None to h = refl
  not_below (Some from) None h = refl
  not_below (Some from) (Some to) h = (λ i. nat_le from position && le-ltb position to (omega (arith, h)) i) ∙ with_false (nat_le from position) where
    with_false : (b : Bool) → (b && false) ≡ false
    with_false true = refl
    with_false false = refl

  not_killed : (skip : Skip) (list : List Taken) → Each (λ t. t.position < position) list → kills_start skip list position ≡ false
  not_killed No list h = refl
  not_killed ToNext list h = not_same (start_of list) (first_below list h)
  not_killed PastLast list h = not_to (start_of list) (end_of list) (last_below list h)
  not_killed (ToFirst stage) list h =
      not_below (start_of list) (start_of (entries_for stage list))
      (first_below (entries_for stage list) (Each-filter (λ (t : Taken). t.position < position) (λ t. t.stage == stage) list h))
  not_killed (ToLast stage) list h =
      not_below (start_of list) (end_of (entries_for stage list))
      (last_below (entries_for stage list) (Each-filter (λ (t : Taken). t.position < position) (λ t. t.stage == stage) list h))

  none_kills : (skip : Skip) (items : List Item) → AreBelow position items → list_any (item_kills_start skip position) items ≡ false
  none_kills skip [] h = refl
  none_kills skip (Match list ∷ items) h = λ i. not_killed skip list h.0 i || none_kills skip items h.1 i
  none_kills skip (Timeout list ∷ items) h = none_kills skip items h.1

  -- the next position is alive
  pub is_start_alive-next : (skip : Skip) (items : List Item) → AreBelow position items → is_start_alive skip items position ≡ true
  is_start_alive-next skip items h = ap not (none_kills skip items h)

-- ---- more items

IsBelow-later : (a b : ℕ) → a ≤ b → (item : Item) → IsBelow a item → IsBelow b item
IsBelow-later a b le (Match list) h = Each-weaker (λ (t : Taken). t.position < a) (λ (t : Taken). t.position < b) (λ t lt. omega (arith, le, lt)) list h
IsBelow-later a b le (Timeout list) h = tt

pub AreBelow-later : (a b : ℕ) → a ≤ b → (items : List Item) → AreBelow a items → AreBelow b items
AreBelow-later a b le items h = Each-weaker (IsBelow a) (IsBelow b) (IsBelow-later a b le) items h

pub AreBelow-timeouts : {X : Type 0} (position : ℕ) (shown : X → List Taken) (xs : List X) → AreBelow position (map (λ x. Timeout (shown x)) xs)
AreBelow-timeouts position shown [] = tt
AreBelow-timeouts position shown (x ∷ xs) = (tt, AreBelow-timeouts position shown xs)

pub kept_after-each : (P : Item → Type 0) (skip : Skip) (before items : List Item) → Each P items → Each P (kept_after skip before items)
kept_after-each P skip before [] h = tt
kept_after-each P skip before (item ∷ items) h =
    chosen (is_killed skip before (list_in item)) (kept_after-each P skip before items h.1)
    (kept_after-each P skip (before ++ item ∷ []) items h.1) where
      chosen : (killed : Bool) → Each P (kept_after skip before items) → Each P (kept_after skip (before ++ item ∷ []) items)
          → Each P (cond killed (kept_after skip before items) (item ∷ kept_after skip (before ++ item ∷ []) items))
      chosen true gone stays = gone
      chosen false gone stays = (h.0, stays)

or_false : (b : Bool) → (b || false) ≡ b
or_false true = refl
or_false false = refl

not_either : (a b : Bool) → not (a || b) ≡ (not a && not b)
not_either true b = refl
not_either false b = refl

timeouts_kill_none : {X : Type 0} (skip : Skip) (start : ℕ) (shown : X → List Taken) (xs : List X)
    → list_any (item_kills_start skip start) (map (λ x. Timeout (shown x)) xs) ≡ false
timeouts_kill_none skip start shown [] = refl
timeouts_kill_none skip start shown (x ∷ xs) = timeouts_kill_none skip start shown xs

-- the starts alive after timeouts are those before
pub is_start_alive-timeouts : {X : Type 0} (skip : Skip) (items : List Item) (shown : X → List Taken) (xs : List X) (start : ℕ)
    → is_start_alive skip (items ++ map (λ x. Timeout (shown x)) xs) start ≡ is_start_alive skip items start
is_start_alive-timeouts skip items shown xs start =
    ap not (list_any-append (item_kills_start skip start) items (map (λ x. Timeout (shown x)) xs)
    ∙ ap (λ b. list_any (item_kills_start skip start) items || b) (timeouts_kill_none skip start shown xs)
    ∙ or_false (list_any (item_kills_start skip start) items))

-- and after matches those that none of these kills
pub is_start_alive-append : (skip : Skip) (items more : List Item) (start : ℕ)
    → is_start_alive skip (items ++ more) start ≡ (is_start_alive skip items start && not (list_any (item_kills_start skip start) more))
is_start_alive-append skip items more start =
    ap not (list_any-append (item_kills_start skip start) items more)
    ∙ not_either (list_any (item_kills_start skip start) items) (list_any (item_kills_start skip start) more)
