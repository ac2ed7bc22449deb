-- Lists start by start, and which lists are due: those with a due start, and those with a due last event.
use Rattle.std.proofs.Common.{◌≡◌, refl, sym, ◌∙◌, ap, ℕ, zero, suc, ◌+◌, ◌≤◌, arith, Bool, true, false, not, ◌&&◌, ◌==◌, cond, List, [], ◌∷◌, ◌++◌}
use Rattle.std.specs.Prelude.{filter, flat_map, ℤ, ◌||◌, Option, Some, None}
use Rattle.std.specs.List.{range_with_len, AllByRecursion as Each}
use Rattle.std.proofs.lemmas.Bool.{eq-eqb, ne_eqb}
use Rattle.std.proofs.lemmas.List.{append-nil}
use Rattle.std.proofs.lemmas.List.Elements.{filter-append}
use Rattle.cep_event.specs.declared.record.Moment.{Moment}
use Rattle.cep_plan.specs.Entry.{Entry}
use Rattle.cep_plan.specs.Limit.{lesser_limit, is_limit_reached, is_due, is_time_left}
use Rattle.cep_plan.specs.Rising.{begun_with, rising_lists}
use Rattle.cep_plan.proofs.RisingLaws.{Each-append, Each-map, Each-weaker, StartsFrom, rising_lists-start}
use Rattle.live_laws.specs.Starts.{begins_in}
use Rattle.live_laws.proofs.LesserLaws.{below_lesser}
use Rattle.cep_event.specs.declared.record.Moment.TheVariants.{At, End}
use Rattle.live_laws.proofs.MemberLaws.{filter-same, Each-filter}

filter_none : {X : Type 0} (p : X → Bool) (xs : List X) → Each (λ x. p x ≡ false) xs → filter p xs ≡ []
filter_none p [] h = refl
filter_none p (x ∷ xs) h = (λ i. cond (h.0 i) (x ∷ filter p xs) (filter p xs)) ∙ filter_none p xs h.1

flat_map-same : {X Y : Type 0} (f g : X → List Y) (xs : List X) → Each (λ x. f x ≡ g x) xs → flat_map f xs ≡ flat_map g xs
flat_map-same f g [] h = refl
flat_map-same f g (x ∷ xs) h = λ i. h.0 i ++ flat_map-same f g xs h.1 i

-- the list's first entry is at the position
abbrev BeginsAt : ℕ → List Entry → Type 0
BeginsAt position [] = ⊥
BeginsAt position (e ∷ _) = e.position ≡ position

block-begins : (from : ℕ) (later : List (List Entry)) (low n : ℕ)
    → Each (BeginsAt from) (flat_map (λ stage. begun_with (record { stage = stage; position = from }) later) (range_with_len low n))
block-begins from later low zero = tt
block-begins from later low (suc n) =
    Each-append (BeginsAt from) (begun_with (record { stage = low; position = from }) later)
    (flat_map (λ stage. begun_with (record { stage = stage; position = from }) later) (range_with_len (low + 1) n))
    (refl, Each-map (BeginsAt from) (λ list. record { stage = low; position = from } ∷ list) later (all later)) (block-begins from later (low + 1) n) where
      all : (ls : List (List Entry)) → Each (λ list. BeginsAt from (record { stage = low; position = from } ∷ list)) ls
      all [] = tt
      all (l ∷ ls) = (refl, all ls)

range-from : (low n : ℕ) → Each (λ s. low ≤ s) (range_with_len low n)
range-from low zero = tt
range-from low (suc n) =
    (omega arith, Each-weaker (λ s. low + 1 ≤ s) (λ s. low ≤ s) (λ s h. omega (arith, h)) (range_with_len (low + 1) n) (range-from (low + 1) n))

module _ (rest : List Entry → Bool) where
  -- what begins at one of the starts, or at one of them, and passes the rest
  abbrev among : (ℕ → Bool) → List Entry → Bool
  among starts list = begins_in starts list && rest list

  abbrev at : ℕ → List Entry → Bool
  at start = among (λ position. position == start)

  here : (starts : ℕ → Bool) (from : ℕ) (list : List Entry) → starts from ≡ true → BeginsAt from list → among starts list ≡ rest list
  here starts from [] due h = absurd h
  here starts from (e ∷ list) due h = ap (λ b. b && rest (e ∷ list)) (ap starts h ∙ due)

  nowhere : (starts : ℕ → Bool) (from : ℕ) (list : List Entry) → starts from ≡ false → BeginsAt from list → among starts list ≡ false
  nowhere starts from [] shut h = absurd h
  nowhere starts from (e ∷ list) shut h = ap (λ b. b && rest (e ∷ list)) (ap starts h ∙ shut)

  later_only : (from : ℕ) (list : List Entry) → StartsFrom (from + 1) list → at from list ≡ false
  later_only from [] h = absurd h
  later_only from (e ∷ list) h = ap (λ b. b && rest (e ∷ list)) (ne_eqb e.position from (λ same. omega (arith, h, same)))

  module _ (from : ℕ) (block later : List (List Entry)) (first : Each (BeginsAt from) block) (behind : Each (StartsFrom (from + 1)) later) where
    at_first : filter (at from) (block ++ later) ≡ filter rest block
    at_first =
        filter-append (at from) block later
        ∙ (λ i. filter-same (at from) rest block (Each-weaker (BeginsAt from) (λ l. at from l ≡ rest l)
        (λ l h. here (λ p. p == from) from l (eq-eqb from from refl) h) block first) i
        ++ filter_none (at from) later (Each-weaker (StartsFrom (from + 1)) (λ l. at from l ≡ false) (later_only from) later behind) i)
        ∙ append-nil (filter rest block)

    at_later : (start : ℕ) → from + 1 ≤ start → filter (at start) (block ++ later) ≡ filter (at start) later
    at_later start above =
        filter-append (at start) block later
        ∙ ap (λ xs. xs ++ filter (at start) later)
        (filter_none (at start) block (Each-weaker (BeginsAt from) (λ l. at start l ≡ false)
        (λ l h. nowhere (λ p. p == start) from l (ne_eqb from start (λ same. omega (arith, above, same))) h) block first))

    one_start : (starts : ℕ → Bool) (due : Bool) (ss : List ℕ) → starts from ≡ due → Each (λ s. from + 1 ≤ s) ss
        → filter (among starts) later ≡ flat_map (λ s. filter (at s) later) ss
        → filter (among starts) (block ++ later) ≡ flat_map (λ s. filter (at s) (block ++ later)) (cond due (from ∷ ss) ss)
    one_start starts true ss is above same =
        filter-append (among starts) block later
        ∙ (λ i. filter-same (among starts) rest block
        (Each-weaker (BeginsAt from) (λ l. among starts l ≡ rest l) (λ l h. here starts from l is h) block first) i ++ same i)
        ∙ (λ i. sym at_first i
        ++ flat_map-same (λ s. filter (at s) later) (λ s. filter (at s) (block ++ later)) ss
        (Each-weaker (λ s. from + 1 ≤ s) (λ s. filter (at s) later ≡ filter (at s) (block ++ later)) (λ s h. sym (at_later s h)) ss above) i)
    one_start starts false ss is above same =
        filter-append (among starts) block later
        ∙ (λ i. filter_none (among starts) block (Each-weaker (BeginsAt from) (λ l. among starts l ≡ false) (λ l h. nowhere starts from l is h) block
        first) i ++ same i)
        ∙ flat_map-same (λ s. filter (at s) later) (λ s. filter (at s) (block ++ later)) ss
        (Each-weaker (λ s. from + 1 ≤ s) (λ s. filter (at s) later ≡ filter (at s) (block ++ later)) (λ s h. sym (at_later s h)) ss above)

  -- the lists that begin at some starts, start by start
  pub by_starts : (starts : ℕ → Bool) (stages from count : ℕ)
      → filter (among starts) (rising_lists stages from count)
      ≡ flat_map (λ s. filter (at s) (rising_lists stages from count)) (filter starts (range_with_len from count))
  unfolding rising_lists
  by_starts starts stages from zero = refl
  by_starts starts stages from (suc count) =
      let later = rising_lists stages (from + 1) count in
      one_start from (flat_map (λ stage. begun_with (record { stage = stage; position = from }) later) (range_with_len 0 stages)) later
      (block-begins from later 0 stages) (rising_lists-start stages (from + 1) count) starts (starts from)
      (filter starts (range_with_len (from + 1) count)) refl
      (Each-filter (λ s. from + 1 ≤ s) starts (range_with_len (from + 1) count) (range-from (from + 1) count))
      (by_starts starts stages (from + 1) count)

-- ---- which lists are due

or_not : (a b : Bool) → not (not a && not b) ≡ (a || b)
or_not true b = refl
or_not false true = refl
or_not false false = refl

not_not : (a : Bool) → not (not a) ≡ a
not_not true = refl
not_not false = refl

-- the lesser of two limits is reached where one of them is
pub reached_lesser : (x y : Option ℤ) (now : Moment) → is_limit_reached (lesser_limit x y) now ≡ (is_limit_reached x now || is_limit_reached y now)
reached_lesser x y (At time) =
    sym (not_not (is_limit_reached (lesser_limit x y) (At time))) ∙ ap not (below_lesser x y time)
    ∙ or_not (is_limit_reached x (At time)) (is_limit_reached y (At time))
reached_lesser None y End = refl
reached_lesser (Some x) None End = refl
reached_lesser (Some x) (Some y) End = refl

-- Where neither limit was reached before, a list is due where its start is due or its last event is.
pub is_due-lesser : (x y : Option ℤ) (before now : Moment) → is_limit_reached x before ≡ false → is_limit_reached y before ≡ false
    → is_due (lesser_limit x y) (Some before) now ≡ (is_due x (Some before) now || is_due y (Some before) now)
is_due-lesser x y before now h k =
    (λ i. not (reached_lesser x y before i) && reached_lesser x y now i)
    ∙ (λ i. not (h i || k i) && (is_limit_reached x now || is_limit_reached y now))
    ∙ sym (λ i. (not (h i) && is_limit_reached x now) || (not (k i) && is_limit_reached y now))

both_left : (a b : Bool) → not (a || b) ≡ (not a && not b)
both_left true b = refl
both_left false b = refl

-- the lesser of two limits leaves time where both do
pub is_time_left-lesser : (x y : Option ℤ) (last : Option Moment) → is_time_left (lesser_limit x y) last ≡ (is_time_left x last && is_time_left y last)
is_time_left-lesser x y None = refl
is_time_left-lesser x y (Some now) = ap not (reached_lesser x y now) ∙ both_left (is_limit_reached x now) (is_limit_reached y now)
