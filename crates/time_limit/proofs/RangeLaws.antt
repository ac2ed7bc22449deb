-- Starts in order: the places of two positions, and what is between them.
use Rattle.std.proofs.Common.{◌≡◌, refl, ◌∙◌, ap, ℕ, zero, suc, ◌≤◌, ◌<◌, arith, Bool, true, false, not, ◌&&◌, cond, nat_le, nat_lt, List, [], ◌∷◌, ◌++◌, length, get_or, take, drop}
use Rattle.std.specs.Prelude.{filter, int_le}
use Rattle.std.specs.List.{AllByRecursion as Each}
use Rattle.std.specs.List.Sorted.{IsNonDecreasingBy}
use Rattle.std.proofs.lemmas.List.Elements.{All-from_recursion}
use Rattle.std.proofs.lemmas.Bool.{lt-ltb, le-ltb, le-leb, lt-leb, leb-true}
use Rattle.live_laws.specs.Starts.{is_from}
use Rattle.time_limit.specs.declared.queue.Place.{Place}
use Rattle.time_limit.specs.Limits.{AreInOrder}

module _ {X : Type 0} (P : X → Type 0) where
  pub Each-take : (xs : List X) (i : ℕ) → i ≤ length xs → ((k : ℕ) (d : X) → k < i → P (get_or xs k d)) → Each P (take i xs)
  Each-take [] zero le h = tt
  Each-take [] (suc i) le h = tt
  Each-take (x ∷ xs) zero le h = tt
  Each-take (x ∷ xs) (suc i) le h = (h 0 x (omega arith), Each-take xs i (omega (arith, le)) (λ k d lt. h (suc k) d (omega (arith, lt))))

  pub Each-drop : (xs : List X) (i : ℕ) → ((k : ℕ) (d : X) → i ≤ k → k < length xs → P (get_or xs k d)) → Each P (drop i xs)
  Each-drop [] zero h = tt
  Each-drop [] (suc i) h = tt
  Each-drop (x ∷ xs) zero h = (h 0 x (omega arith) (omega arith), Each-drop xs zero (λ k d le lt. h (suc k) d (omega arith) (omega (arith, lt))))
  Each-drop (x ∷ xs) (suc i) h = Each-drop xs i (λ k d le lt. h (suc k) d (omega (arith, le)) (omega (arith, lt)))

-- positions of starts in order rise
pub IsNonDecreasingBy-in_order : (starts : List Place) → AreInOrder starts → IsNonDecreasingBy (λ s. s.position) starts
IsNonDecreasingBy-in_order [] order i j d le lt = absurd (omega (arith, lt))
IsNonDecreasingBy-in_order (s ∷ starts) order zero zero d le lt = omega arith
IsNonDecreasingBy-in_order (s ∷ starts) order zero (suc j) d le lt =
    let above = All-from_recursion (λ (t : Place). (s.position < t.position) × (int_le s.ts t.ts ≡ true)) starts order.0 j d (omega (arith, lt)) in
    omega (arith, above.0)
IsNonDecreasingBy-in_order (s ∷ starts) order (suc i) zero d le lt = absurd (omega (arith, le))
IsNonDecreasingBy-in_order (s ∷ starts) order (suc i) (suc j) d le lt = IsNonDecreasingBy-in_order starts order.1 i j d (omega (arith, le)) (omega (arith, lt))

-- the place of one position and that of a later one
pub places-order : (starts : List Place) (first end from to : ℕ) → from ≤ to → first ≤ length starts
    → Each (λ s. s.position < from) (take first starts) → Each (λ s. to ≤ s.position) (drop end starts) → first ≤ end
places-order [] first end from to le bound before behind = omega (arith, bound)
places-order (s ∷ starts) zero end from to le bound before behind = omega arith
places-order (s ∷ starts) (suc first) zero from to le bound before behind = absurd (omega (arith, le, before.0, behind.0))
places-order (s ∷ starts) (suc first) (suc end) from to le bound before behind =
    let later = places-order starts first end from to le (omega (arith, bound)) before.1 behind in omega (arith, later)

module _ (from to : ℕ) where
  abbrev stays : Place → Bool
  stays start = not (is_from from to start.position)

  stays-before : (p : ℕ) → p < from → not (is_from from to p) ≡ true
  stays-before p lt = ap (λ b. not (b && nat_lt p to)) (lt-leb from p lt)

  stays-behind : (p : ℕ) → to ≤ p → not (is_from from to p) ≡ true
  stays-behind p le = ap (λ b. not (nat_le from p && b)) (le-ltb p to le) ∙ with_false (nat_le from p) where
    with_false : (b : Bool) → not (b && false) ≡ true
    with_false true = refl
    with_false false = refl

  goes-between : (p : ℕ) → from ≤ p → p < to → not (is_from from to p) ≡ false
  goes-between p le lt = λ i. not (le-leb from p le i && lt-ltb p to lt i)

  -- no start behind the range goes
  all_stay : (starts : List Place) → Each (λ s. to ≤ s.position) starts → filter stays starts ≡ starts
  all_stay [] h = refl
  all_stay (s ∷ starts) h = ap (λ b. cond b (s ∷ filter stays starts) (filter stays starts)) (stays-behind s.position h.0)
      ∙ ap (λ more. s ∷ more) (all_stay starts h.1)

  -- the starts between the two places are those in the range
  pub range-between : from ≤ to → (starts : List Place) (first end : ℕ)
      → Each (λ s. s.position < from) (take first starts) → Each (λ s. from ≤ s.position) (drop first starts)
      → Each (λ s. s.position < to) (take end starts) → Each (λ s. to ≤ s.position) (drop end starts)
      → filter stays starts ≡ take first starts ++ drop end starts
  range-between le [] zero zero a b c d = refl
  range-between le [] zero (suc end) a b c d = refl
  range-between le [] (suc first) zero a b c d = refl
  range-between le [] (suc first) (suc end) a b c d = refl
  range-between le (s ∷ starts) zero zero a b c d = all_stay (s ∷ starts) d
  range-between le (s ∷ starts) zero (suc end) a b c d =
      ap (λ k. cond k (s ∷ filter stays starts) (filter stays starts)) (goes-between s.position b.0 c.0)
      ∙ range-between le starts zero end tt b.1 c.1 d
  range-between le (s ∷ starts) (suc first) zero a b c d = absurd (omega (arith, le, a.0, d.0))
  range-between le (s ∷ starts) (suc first) (suc end) a b c d =
      ap (λ k. cond k (s ∷ filter stays starts) (filter stays starts)) (stays-before s.position a.0)
      ∙ ap (λ more. s ∷ more) (range-between le starts first end a.1 b c.1 d)

  -- an empty range takes none
  stays-empty : to ≤ from → (p : ℕ) → not (is_from from to p) ≡ true
  stays-empty le p = by_test (nat_le from p) refl where
    by_test : (b : Bool) → nat_le from p ≡ b → not (b && nat_lt p to) ≡ true
    by_test true is = ap not (le-ltb p to (omega (arith, le, leb-true from p is)))
    by_test false is = refl

  pub range-empty : to ≤ from → (starts : List Place) → filter stays starts ≡ starts
  range-empty le [] = refl
  range-empty le (s ∷ starts) = ap (λ b. cond b (s ∷ filter stays starts) (filter stays starts)) (stays-empty le s.position)
      ∙ ap (λ more. s ∷ more) (range-empty le starts)
