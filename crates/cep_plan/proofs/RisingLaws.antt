-- The lists of `rising_lists`: each nonempty list of rising positions and known stages stands there once, and they stand in the order of lists.
use Rattle.std.proofs.Common.{◌≡◌, refl, sym, ap, subst, ◌∙◌, ℕ, zero, suc, ◌+◌, ◌<◌, ◌≤◌, List, [], ◌∷◌, ◌++◌, map, arith, ◌⊎◌, inl, inr}
use Rattle.std.specs.Prelude.{flat_map, ⊤, Contains}
use Rattle.std.specs.List.{AllByRecursion as Each, range_with_len}
use Rattle.std.specs.List.Sorted.{IsStrictlySortedBy}
use Rattle.std.specs.declared.cmp.Ordering.{Ordering}
use Rattle.std.specs.declared.cmp.Ordering.TheVariants.{Less, Equal}
use Rattle.std.specs.Ordering.{nat_cmp, ordering_then}
use Rattle.std.specs.Cmp.{nat_cmp_is}
use Rattle.std.proofs.Math.Nat.{eq-or-lt_of_le}
use Rattle.std.proofs.lemmas.Cmp.{tied_itself}
use Rattle.std.proofs.lemmas.List.Elements.{Contains-append_left, Contains-append_right}
use Rattle.cep_plan.specs.Entry.{Entry}
use Rattle.cep_plan.specs.Order.{list_cmp}
use Rattle.cep_plan.specs.Rising.{begun_with, rising_lists}
use Rattle.cep_plan.proofs.OrderLaws.{entry_cmp-total}

-- ---- what holds of each element

module _ {X : Type 0} (P : X → Type 0) where
  pub Each-append : (xs ys : List X) → Each P xs → Each P ys → Each P (xs ++ ys)
  Each-append [] ys h k = k
  Each-append (x ∷ xs) ys h k = (h.0, Each-append xs ys h.1 k)

  pub Each-map : {Y : Type 0} (f : Y → X) (ys : List Y) → Each (λ y. P (f y)) ys → Each P (map f ys)
  Each-map f [] h = tt
  Each-map f (y ∷ ys) h = (h.0, Each-map f ys h.1)

  pub Each-weaker : (Q : X → Type 0) → ((x : X) → P x → Q x) → (xs : List X) → Each P xs → Each Q xs
  Each-weaker Q w [] h = tt
  Each-weaker Q w (x ∷ xs) h = (w x h.0, Each-weaker Q w xs h.1)

-- ---- sorted lists, one after another

module _ {X : Type 0} (c : X → X → Ordering) where
  pub IsStrictlySortedBy-append : (xs ys : List X) → IsStrictlySortedBy c xs → IsStrictlySortedBy c ys → Each (λ x. Each (λ y. c x y ≡ Less) ys) xs
      → IsStrictlySortedBy c (xs ++ ys)
  unfolding IsStrictlySortedBy
  IsStrictlySortedBy-append [] ys s t b = t
  IsStrictlySortedBy-append (x ∷ xs) ys s t b = (Each-append (λ y. c x y ≡ Less) xs ys s.0 b.0, IsStrictlySortedBy-append xs ys s.1 t b.1)

-- ---- the order of lists

-- the list's first entry is at the position or later
abbrev pub StartsFrom : ℕ → List Entry → Type 0
StartsFrom position [] = ⊥
StartsFrom position (e ∷ _) = position ≤ e.position

-- the list's first entry is at the position, and its stage is at least this one
abbrev pub StartsAt : ℕ → ℕ → List Entry → Type 0
StartsAt position stage [] = ⊥
StartsAt position stage (e ∷ _) = (e.position ≡ position) × (stage ≤ e.stage)

-- the list's first entry is at the position, for the stage
abbrev AtStage : ℕ → ℕ → List Entry → Type 0
AtStage position stage [] = ⊥
AtStage position stage (e ∷ _) = (e.position ≡ position) × (e.stage ≡ stage)

list_cmp-same_first : (e : Entry) (a b : List Entry) → list_cmp (e ∷ a) (e ∷ b) ≡ list_cmp a b
list_cmp-same_first e a b = ap (λ o. ordering_then o (list_cmp a b)) (tied_itself entry_cmp-total e)

list_cmp-by_position : (e f : Entry) (a b : List Entry) → e.position < f.position → list_cmp (e ∷ a) (f ∷ b) ≡ Less
list_cmp-by_position e f a b h =
    ap (λ o. ordering_then (ordering_then o (nat_cmp e.stage f.stage)) (list_cmp a b)) (sym (nat_cmp_is e.position f.position Less h))

list_cmp-by_stage : (e f : Entry) (a b : List Entry) → e.position ≡ f.position → e.stage < f.stage → list_cmp (e ∷ a) (f ∷ b) ≡ Less
list_cmp-by_stage e f a b p h =
    ap (λ o. ordering_then (ordering_then o (nat_cmp e.stage f.stage)) (list_cmp a b)) (sym (nat_cmp_is e.position f.position Equal p))
    ∙ ap (λ o. ordering_then o (list_cmp a b)) (sym (nat_cmp_is e.stage f.stage Less h))

-- ---- where the lists begin

later_start : (from : ℕ) (stages : ℕ) (list : List Entry) → StartsFrom (from + 1) list → StartsFrom from list
later_start from stages [] h = h
later_start from stages (e ∷ _) h = omega (arith, h)

begun_with-starts : (e : Entry) (later : List (List Entry)) → Each (StartsAt e.position e.stage) (begun_with e later)
begun_with-starts e later = ((refl, omega arith), Each-map (StartsAt e.position e.stage) (λ list. e ∷ list) later (all later)) where
  all : (ls : List (List Entry)) → Each (λ list. StartsAt e.position e.stage (e ∷ list)) ls
  all [] = tt
  all (l ∷ ls) = ((refl, omega arith), all ls)

higher_stage : (position low stage : ℕ) → low ≤ stage → (list : List Entry) → StartsAt position stage list → StartsAt position low list
higher_stage position low stage le [] h = h
higher_stage position low stage le (e ∷ _) h = (h.0, omega (arith, h.1))

-- the lists that begin at a position with one of the stages from `low` on
abbrev pub block : ℕ → List (List Entry) → ℕ → ℕ → List (List Entry)
block from later low n = flat_map (λ stage. begun_with (record { stage = stage; position = from }) later) (range_with_len low n)

pub block-starts : (from : ℕ) (later : List (List Entry)) (low n : ℕ) → Each (StartsAt from low) (block from later low n)
block-starts from later low zero = tt
block-starts from later low (suc n) =
    Each-append (StartsAt from low) (begun_with (record { stage = low; position = from }) later) (block from later (low + 1) n)
    (begun_with-starts (record { stage = low; position = from }) later)
    (Each-weaker (StartsAt from (low + 1)) (StartsAt from low) (higher_stage from low (low + 1) (omega arith)) _ (block-starts from later (low + 1) n))

starts_from : (from low : ℕ) (list : List Entry) → StartsAt from low list → StartsFrom from list
starts_from from low [] h = h
starts_from from low (e ∷ _) h = omega (arith, h.0)

pub rising_lists-start : (stages from count : ℕ) → Each (StartsFrom from) (rising_lists stages from count)
unfolding rising_lists
rising_lists-start stages from zero = tt
rising_lists-start stages from (suc count) =
    Each-append (StartsFrom from) (block from (rising_lists stages (from + 1) count) 0 stages) (rising_lists stages (from + 1) count)
    (Each-weaker (StartsAt from 0) (StartsFrom from) (starts_from from 0) _ (block-starts from (rising_lists stages (from + 1) count) 0 stages))
    (Each-weaker (StartsFrom (from + 1)) (StartsFrom from) (later_start from stages) _ (rising_lists-start stages (from + 1) count))

-- ---- the lists stand in order

-- each list of one kind comes before each of the other
crossed : (P Q : List Entry → Type 0) → ((a b : List Entry) → P a → Q b → list_cmp a b ≡ Less) → (xs ys : List (List Entry)) → Each P xs → Each Q ys
    → Each (λ a. Each (λ b. list_cmp a b ≡ Less) ys) xs
crossed P Q less [] ys h k = tt
crossed P Q less (a ∷ xs) ys h k = (Each-weaker Q (λ b. list_cmp a b ≡ Less) (λ b q. less a b h.0 q) ys k, crossed P Q less xs ys h.1 k)

begun_with-sorted : (e : Entry) (from : ℕ) (later : List (List Entry)) → Each (StartsFrom from) later → IsStrictlySortedBy list_cmp later
    → IsStrictlySortedBy list_cmp (begun_with e later)
unfolding IsStrictlySortedBy
begun_with-sorted e from later h s = (alone later h, extended later s) where
  alone : (ls : List (List Entry)) → Each (StartsFrom from) ls → Each (λ b. list_cmp (e ∷ []) b ≡ Less) (map (λ list. e ∷ list) ls)
  alone [] h = tt
  alone ([] ∷ ls) h = absurd h.0
  alone ((f ∷ l) ∷ ls) h = (list_cmp-same_first e [] (f ∷ l), alone ls h.1)

  below : (a : List Entry) (ls : List (List Entry)) → Each (λ b. list_cmp a b ≡ Less) ls → Each (λ b. list_cmp (e ∷ a) b ≡ Less) (map (λ list. e ∷ list) ls)
  below a [] h = tt
  below a (l ∷ ls) h = (list_cmp-same_first e a l ∙ h.0, below a ls h.1)

  extended : (ls : List (List Entry)) → IsStrictlySortedBy list_cmp ls → IsStrictlySortedBy list_cmp (map (λ list. e ∷ list) ls)
  extended [] s = tt
  extended (l ∷ ls) s = (below l ls s.0, extended ls s.1)

stage_first : (from low : ℕ) (a b : List Entry) → AtStage from low a → StartsAt from (low + 1) b → list_cmp a b ≡ Less
stage_first from low [] b h k = absurd h
stage_first from low (e ∷ a) [] h k = absurd k
stage_first from low (e ∷ a) (f ∷ b) h k = list_cmp-by_stage e f a b (h.0 ∙ sym k.0) (omega (arith, h.1, k.1))

begun_with-at : (e : Entry) (later : List (List Entry)) → Each (AtStage e.position e.stage) (begun_with e later)
begun_with-at e later = ((refl, refl), Each-map (AtStage e.position e.stage) (λ list. e ∷ list) later (all later)) where
  all : (ls : List (List Entry)) → Each (λ list. AtStage e.position e.stage (e ∷ list)) ls
  all [] = tt
  all (l ∷ ls) = ((refl, refl), all ls)

block-sorted : (from : ℕ) (later : List (List Entry)) → Each (StartsFrom (from + 1)) later → IsStrictlySortedBy list_cmp later → (low n : ℕ)
    → IsStrictlySortedBy list_cmp (block from later low n)
unfolding IsStrictlySortedBy
block-sorted from later h s low zero = tt
block-sorted from later h s low (suc n) =
    let e : Entry = record { stage = low; position = from } in
    IsStrictlySortedBy-append list_cmp (begun_with e later) (block from later (low + 1) n) (begun_with-sorted e (from + 1) later h s)
    (block-sorted from later h s (low + 1) n)
    (crossed (AtStage from low) (StartsAt from (low + 1)) (stage_first from low) (begun_with e later) (block from later (low + 1) n)
    (begun_with-at e later) (block-starts from later (low + 1) n))

position_first : (from : ℕ) (a b : List Entry) → StartsAt from 0 a → StartsFrom (from + 1) b → list_cmp a b ≡ Less
position_first from [] b h k = absurd h
position_first from (e ∷ a) [] h k = absurd k
position_first from (e ∷ a) (f ∷ b) h k = list_cmp-by_position e f a b (omega (arith, h.0, k))

pub rising_lists-sorted : (stages from count : ℕ) → IsStrictlySortedBy list_cmp (rising_lists stages from count)
unfolding rising_lists IsStrictlySortedBy
rising_lists-sorted stages from zero = tt
rising_lists-sorted stages from (suc count) =
    let later = rising_lists stages (from + 1) count in
    let starts = rising_lists-start stages (from + 1) count in
    let sorted = rising_lists-sorted stages (from + 1) count in
    IsStrictlySortedBy-append list_cmp (block from later 0 stages) later (block-sorted from later starts sorted 0 stages) sorted
    (crossed (StartsAt from 0) (StartsFrom (from + 1)) (position_first from) (block from later 0 stages) later (block-starts from later 0 stages) starts)

-- ---- which lists stand there

-- the stages are known, and the positions rise from the one on and below the other
abbrev pub IsRising : ℕ → ℕ → ℕ → List Entry → Type 0
IsRising stages from to [] = ⊤
IsRising stages from to (e ∷ later) = (e.stage < stages) × (from ≤ e.position) × (e.position < to) × IsRising stages (e.position + 1) to later

-- the same of a list that isn't empty
abbrev pub IsRisingList : ℕ → ℕ → ℕ → List Entry → Type 0
IsRisingList stages from to [] = ⊥
IsRisingList stages from to (e ∷ later) = IsRising stages from to (e ∷ later)

rising_sooner : (stages from to : ℕ) (list : List Entry) → IsRisingList stages (from + 1) to list → IsRisingList stages from to list
rising_sooner stages from to [] h = h
rising_sooner stages from to (e ∷ later) h = (h.0, omega (arith, h.1), h.2, h.3)

rising_behind : (stages from to : ℕ) (e : Entry) → e.stage < stages → e.position ≡ from → from < to → (list : List Entry)
    → IsRisingList stages (from + 1) to list → IsRisingList stages from to (e ∷ list)
rising_behind stages from to e s p lt [] h = absurd h
rising_behind stages from to e s p lt (f ∷ later) h = (s, omega (arith, p), omega (arith, p, lt), (h.0, omega (arith, h.1, p), h.2, h.3))

block-rising : (stages from to : ℕ) → from < to → (later : List (List Entry)) → Each (IsRisingList stages (from + 1) to) later → (low n : ℕ)
    → low + n ≤ stages → Each (IsRisingList stages from to) (block from later low n)
block-rising stages from to lt later h low zero le = tt
block-rising stages from to lt later h low (suc n) le =
    let e : Entry = record { stage = low; position = from } in
    let s : low < stages = omega (arith, le) in
    Each-append (IsRisingList stages from to) (begun_with e later) (block from later (low + 1) n) (
      (s, omega arith, lt, tt),
      Each-map (IsRisingList stages from to) (λ list. e ∷ list) later
          (Each-weaker _ _ (rising_behind stages from to e s refl lt) later h),
    )
    (block-rising stages from to lt later h (low + 1) n (omega (arith, le)))

-- every list there is rising
pub rising_lists-rising : (stages from count to : ℕ) → from + count ≡ to → Each (IsRisingList stages from to) (rising_lists stages from count)
unfolding rising_lists
rising_lists-rising stages from zero to e = tt
rising_lists-rising stages from (suc count) to e =
    let later = rising_lists stages (from + 1) count in
    let rising = rising_lists-rising stages (from + 1) count to (omega (arith, e)) in
    Each-append (IsRisingList stages from to) (block from later 0 stages) later
    (block-rising stages from to (omega (arith, e)) later rising 0 stages (omega arith))
    (Each-weaker _ _ (rising_sooner stages from to) later rising)

Contains-here : {X : Type 0} (x : X) (xs : List X) → Contains (x ∷ xs) x
Contains-here x xs = (0, omega arith, refl)

Contains-later : {X : Type 0} (y x : X) (xs : List X) → Contains xs x → Contains (y ∷ xs) x
Contains-later y x xs h = (suc h.0, omega (arith, h.1), h.2)

Contains-begun : (e : Entry) (list : List Entry) (later : List (List Entry)) → Contains later list → Contains (begun_with e later) (e ∷ list)
Contains-begun e list later h = Contains-later (e ∷ []) (e ∷ list) (map (λ l. e ∷ l) later) (mapped later h) where
  mapped : (ls : List (List Entry)) → Contains ls list → Contains (map (λ l. e ∷ l) ls) (e ∷ list)
  mapped [] h = absurd (omega (arith, h.1))
  mapped (l ∷ ls) (zero, lt, is) = (0, omega arith, ap (λ l. e ∷ l) is)
  mapped (l ∷ ls) (suc k, lt, is) = Contains-later (e ∷ l) (e ∷ list) (map (λ l. e ∷ l) ls) (mapped ls (k, omega (arith, lt), is))

Contains-block : (from : ℕ) (later : List (List Entry)) (list : List Entry) (stage low n : ℕ) → low ≤ stage → stage < low + n
    → Contains (begun_with (record { stage = stage; position = from }) later) list → Contains (block from later low n) list
Contains-block from later list stage low zero le lt h = absurd (omega (arith, le, lt))
Contains-block from later list stage low (suc n) le lt h =
    chosen (λ above. Contains-block from later list stage (low + 1) n (omega (arith, above)) (omega (arith, lt)) h) (eq-or-lt_of_le le) where
      chosen : (low < stage → Contains (block from later (low + 1) n) list) → (low ≡ stage) ⊎ (low < stage) → Contains (block from later low (suc n)) list
      chosen next (inl is) =
          Contains-append_left (begun_with (record { stage = low; position = from }) later) (block from later (low + 1) n) list
          (subst (λ s. Contains (begun_with (record { stage = s; position = from }) later) list) (sym is) h)
      chosen next (inr above) = Contains-append_right (begun_with (record { stage = low; position = from }) later) (block from later (low + 1) n) list
          (next above)

Contains-one : (e : Entry) (later : List (List Entry)) → Contains (begun_with e later) (e ∷ [])
Contains-one e later = Contains-here (e ∷ []) (map (λ l. e ∷ l) later)

-- a list that begins here, where those behind it stand among the later ones
Contains-beginning : (stages from to : ℕ) (later : List (List Entry)) → ((list : List Entry) → IsRisingList stages (from + 1) to list → Contains later list)
    → (f : Entry) (list : List Entry) → from ≡ f.position → IsRising stages (f.position + 1) to list
    → Contains (begun_with (record { stage = f.stage; position = from }) later) (record { stage = f.stage; position = from } ∷ list)
Contains-beginning stages from to later holds f [] is r = Contains-one (record { stage = f.stage; position = from }) later
Contains-beginning stages from to later holds f (g ∷ list) is r =
    Contains-begun (record { stage = f.stage; position = from }) (g ∷ list) later
    (holds (g ∷ list) (subst (λ p. IsRising stages (p + 1) to (g ∷ list)) (sym is) r))

Contains-placed : (stages from to : ℕ) (later : List (List Entry)) → ((list : List Entry) → IsRisingList stages (from + 1) to list → Contains later list)
    → (f : Entry) (list : List Entry) → IsRising stages from to (f ∷ list) → (from ≡ f.position) ⊎ (from < f.position)
    → Contains (block from later 0 stages ++ later) (f ∷ list)
Contains-placed stages from to later holds f list h (inl is) =
    Contains-append_left (block from later 0 stages) later (f ∷ list)
    (Contains-block from later (f ∷ list) f.stage 0 stages (omega arith) (omega (arith, h.0))
    (subst (λ p. Contains (begun_with (record { stage = f.stage; position = from }) later) (record { stage = f.stage; position = p } ∷ list)) is
    (Contains-beginning stages from to later holds f list is h.3)))
Contains-placed stages from to later holds f list h (inr above) =
    Contains-append_right (block from later 0 stages) later (f ∷ list) (holds (f ∷ list) (h.0, omega (arith, above), h.2, h.3))

-- every rising list stands there
pub Contains-rising_lists : (stages from count to : ℕ) → from + count ≡ to → (list : List Entry) → IsRisingList stages from to list
    → Contains (rising_lists stages from count) list
unfolding rising_lists
Contains-rising_lists stages from zero to e [] h = absurd h
Contains-rising_lists stages from zero to e (f ∷ list) h = absurd (omega (arith, e, h.1, h.2))
Contains-rising_lists stages from (suc count) to e [] h = absurd h
Contains-rising_lists stages from (suc count) to e (f ∷ list) h =
    Contains-placed stages from to (rising_lists stages (from + 1) count) (Contains-rising_lists stages (from + 1) count to (omega (arith, e))) f
    list h (eq-or-lt_of_le h.1)
