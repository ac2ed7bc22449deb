-- Parts of lists: what stands up to a place and behind it, what passes a test, and one more element of each.
use Rattle.std.proofs.Common.{◌≡◌, refl, sym, ◌∙◌, ap, ℕ, zero, suc, ◌+◌, ◌≤◌, ◌<◌, arith, add-one, Bool, true, false, cond, List, [], ◌∷◌, ◌++◌, append_assoc, length, get_or, set, take, drop, map}
use Rattle.std.specs.Prelude.{filter}
use Rattle.std.specs.List.{AllByRecursion as Each}
use Rattle.std.proofs.lemmas.List.{map-append}
use Rattle.std.proofs.lemmas.List.Elements.{filter_more}

module _ {X : Type 0} where
  module _ (P : X → Type 0) where
    pub Each-take : (xs : List X) (i : ℕ) → i ≤ length xs → ((k : ℕ) (d : X) → k < i → P (get_or xs k d)) → Each P (take i xs)
    Each-take [] zero le h = tt
    Each-take [] (suc i) le h = tt
    Each-take (x ∷ xs) zero le h = tt
    Each-take (x ∷ xs) (suc i) le h = (h 0 x (omega arith), Each-take xs i (omega (arith, le)) (λ k d lt. h (suc k) d (omega (arith, lt))))

    pub Each-drop : (xs : List X) (i : ℕ) → ((k : ℕ) (d : X) → i ≤ k → k < length xs → P (get_or xs k d)) → Each P (drop i xs)
    Each-drop [] zero h = tt
    Each-drop [] (suc i) h = tt
    Each-drop (x ∷ xs) zero h = (h 0 x (omega arith) (omega arith), Each-drop xs zero (λ k d le lt. h (suc k) d (omega arith) (omega (arith, lt))))
    Each-drop (x ∷ xs) (suc i) h = Each-drop xs i (λ k d le lt. h (suc k) d (omega (arith, le)) (omega (arith, lt)))

  -- no element passes, and each does
  pub filter-none : (test : X → Bool) (xs : List X) → Each (λ x. test x ≡ false) xs → filter test xs ≡ []
  filter-none test [] h = refl
  filter-none test (x ∷ xs) h = ap (λ b. cond b (x ∷ filter test xs) (filter test xs)) h.0 ∙ filter-none test xs h.1

  pub filter-each : (test : X → Bool) (xs : List X) → Each (λ x. test x ≡ true) xs → filter test xs ≡ xs
  filter-each test [] h = refl
  filter-each test (x ∷ xs) h = ap (λ b. cond b (x ∷ filter test xs) (filter test xs)) h.0 ∙ ap (λ more. x ∷ more) (filter-each test xs h.1)

  pub Each-mapped : (P Q : X → Type 0) → ((x : X) → P x → Q x) → (xs : List X) → Each P xs → Each Q xs
  Each-mapped P Q f [] h = tt
  Each-mapped P Q f (x ∷ xs) h = (f x h.0, Each-mapped P Q f xs h.1)

  -- what stands past the place fails, so what stands before it decides
  pub filter-front : (test : X → Bool) (xs : List X) (i : ℕ) → Each (λ x. test x ≡ false) (drop i xs) → filter test (take i xs) ≡ filter test xs
  filter-front test [] zero h = refl
  filter-front test [] (suc i) h = refl
  filter-front test (x ∷ xs) zero h = sym (filter-none test (x ∷ xs) h)
  filter-front test (x ∷ xs) (suc i) h = ap (λ more. cond (test x) (x ∷ more) more) (filter-front test xs i h)

module _ {X Y : Type 0} where
  -- one more element, which passes a test or not
  pub shown-more : (test : X → Bool) (f : X → Y) (xs : List X) (i : ℕ) (x : X) (before : List Y) → i < length xs → x ≡ get_or xs i x
      → (before ++ map f (filter test (take i xs))) ++ cond (test x) (f x ∷ []) [] ≡ before ++ map f (filter test (take (i + 1) xs))
  shown-more test f xs i x before within is =
      append_assoc before (map f (filter test (take i xs))) (cond (test x) (f x ∷ []) [])
      ∙ ap (λ more. before ++ more)
      (ap (λ one. map f (filter test (take i xs)) ++ one) (in_map (test x)) ∙ sym (map-append f (filter test (take i xs)) (cond (test x) (x ∷ []) []))
      ∙ ap (map f) (ap (λ y. filter test (take i xs) ++ cond (test y) (y ∷ []) []) is ∙ sym (filter_more test xs i x within))) where
        in_map : (b : Bool) → cond b (f x ∷ []) [] ≡ map f (cond b (x ∷ []) [])
        in_map true = refl
        in_map false = refl

-- the elements so far are mapped
set_mapped : {X : Type 0} (f : X → X) (xs : List X) (i : ℕ) (x new : X) → i < length xs → x ≡ get_or (map f (take i xs) ++ drop i xs) i x → new ≡ f x
    → set (map f (take i xs) ++ drop i xs) i new ≡ map f (take (suc i) xs) ++ drop (suc i) xs
set_mapped f [] i x new within is made = absurd (omega (arith, within))
set_mapped f (y ∷ xs) zero x new within is made = λ k. (made ∙ ap f is) k ∷ xs
set_mapped f (y ∷ xs) (suc i) x new within is made = ap (λ more. f y ∷ more) (set_mapped f xs i x new (omega (arith, within)) is made)

pub set-mapped : {X : Type 0} (f : X → X) (xs items : List X) (i : ℕ) (x new : X) → items ≡ map f (take i xs) ++ drop i xs → i < length xs
    → x ≡ get_or items i x → new ≡ f x → set items i new ≡ map f (take (i + 1) xs) ++ drop (i + 1) xs
set-mapped f xs items i x new so_far within is made =
    ap (λ l. set l i new) so_far ∙ set_mapped f xs i x new within (is ∙ ap (λ l. get_or l i x) so_far) made
    ∙ ap (λ n. map f (take n xs) ++ drop n xs) (sym (add-one i))
