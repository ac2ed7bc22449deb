-- Lists in another order: that no element stands twice goes with it.
use Rattle.std.proofs.Common.{◌≡◌, refl, sym, ◌∙◌, ap, ℕ, zero, suc, ◌<◌, arith, List, [], ◌∷◌, length, get_or, ◌⊎◌, inl, inr}
use Rattle.std.specs.List.{AllByRecursion as Each, swap}
use Rattle.std.specs.List.Sorted.{IsPermutation}
use Rattle.std.proofs.lemmas.Bool.{cases_eq}
use Rattle.std.proofs.lemmas.List.Edits.{Swapped, swapped_from_swap, length-swap}
use Rattle.std.proofs.lemmas.List.Sorted.{IsPermutation-keeps}
use Rattle.live_laws.specs.Starts.{AllApart}
use Rattle.list_runs.proofs.PartLaws.{Each-drop}

-- which place an element stood at before two changed places
abbrev Was : ℕ → ℕ → ℕ → ℕ → Type 0
Was a b k m = ((k ≡ a) × (m ≡ b)) ⊎ (((k ≡ b) × (m ≡ a)) ⊎ ((k ≡ a → ⊥) × (k ≡ b → ⊥) × (m ≡ k)))

was_one : (a b i j m n : ℕ) → Was a b i m → Was a b j n → m ≡ n → i ≡ j
was_one a b i j m n (inl p) (inl q) e = omega (arith, p.0, q.0)
was_one a b i j m n (inl p) (inr (inl q)) e = omega (arith, p.0, p.1, q.0, q.1, e)
was_one a b i j m n (inl p) (inr (inr q)) e = absurd (q.1 (omega (arith, p.0, p.1, q.2, e)))
was_one a b i j m n (inr (inl p)) (inl q) e = omega (arith, p.0, p.1, q.0, q.1, e)
was_one a b i j m n (inr (inl p)) (inr (inl q)) e = omega (arith, p.0, q.0)
was_one a b i j m n (inr (inl p)) (inr (inr q)) e = absurd (q.0 (omega (arith, p.0, p.1, q.2, e)))
was_one a b i j m n (inr (inr p)) (inl q) e = absurd (p.1 (omega (arith, q.0, q.1, p.2, e)))
was_one a b i j m n (inr (inr p)) (inr (inl q)) e = absurd (p.0 (omega (arith, q.0, q.1, p.2, e)))
was_one a b i j m n (inr (inr p)) (inr (inr q)) e = omega (arith, p.2, q.2, e)

module _ {X : Type 0} where
  -- elements that are the same stand at the same place
  abbrev Differ : List X → Type 0
  Differ xs = (i j : ℕ) (d : X) → i < length xs → j < length xs → get_or xs i d ≡ get_or xs j d → i ≡ j

  Each-get : (P : X → Type 0) (xs : List X) (k : ℕ) (d : X) → Each P xs → k < length xs → P (get_or xs k d)
  Each-get P [] k d h lt = absurd (omega (arith, lt))
  Each-get P (x ∷ xs) zero d h lt = h.0
  Each-get P (x ∷ xs) (suc k) d h lt = Each-get P xs k d h.1 (omega (arith, lt))

  differ_from : (xs : List X) → AllApart xs → Differ xs
  differ_from [] h i j d p q e = absurd (omega (arith, p))
  differ_from (x ∷ xs) h zero zero d p q e = refl
  differ_from (x ∷ xs) h zero (suc j) d p q e = absurd (Each-get (λ y. x ≡ y → ⊥) xs j d h.0 (omega (arith, q)) e)
  differ_from (x ∷ xs) h (suc i) zero d p q e = absurd (Each-get (λ y. x ≡ y → ⊥) xs i d h.0 (omega (arith, p)) (sym e))
  differ_from (x ∷ xs) h (suc i) (suc j) d p q e = ap suc (differ_from xs h.1 i j d (omega (arith, p)) (omega (arith, q)) e)

  apart_from : (xs : List X) → Differ xs → AllApart xs
  apart_from [] h = tt
  apart_from (x ∷ xs) h = (
    Each-drop (λ y. x ≡ y → ⊥) xs zero (λ k d le lt e. let same : zero ≡ suc k = h zero (suc k) d (omega arith) (omega (arith, lt)) e in omega (arith, same)),
    apart_from xs (λ i j d p q e. let same : suc i ≡ suc j = h (suc i) (suc j) d (omega (arith, p)) (omega (arith, q)) e in omega (arith, same)),
  )

  was_at : (xs : List X) (a b : ℕ) (d : X) → a < length xs → b < length xs → (k : ℕ) → k < length xs → (m : ℕ) × (m < length xs)
      × (get_or (swap xs a b) k d ≡ get_or xs m d) × Was a b k m
  was_at xs a b d pa pb k lt = by_cases (swapped_from_swap xs (swap xs a b) a b d pa pb refl) (cases_eq k a) (cases_eq k b) where
    by_cases : Swapped (λ i. get_or xs i d) (λ i. get_or (swap xs a b) i d) a b → (k ≡ a) ⊎ (k ≡ a → ⊥) → (k ≡ b) ⊎ (k ≡ b → ⊥) → (m : ℕ)
        × (m < length xs) × (get_or (swap xs a b) k d ≡ get_or xs m d) × Was a b k m
    by_cases moved (inl e) other = (b, pb, ap (λ n. get_or (swap xs a b) n d) e ∙ moved.0, inl (e, refl))
    by_cases moved (inr f) (inl e) = (a, pa, ap (λ n. get_or (swap xs a b) n d) e ∙ moved.1, inr (inl (e, refl)))
    by_cases moved (inr f) (inr g) = (k, lt, moved.2 k f g, inr (inr (f, g, refl)))

  differ_swapped : (xs : List X) (a b : ℕ) → a < length xs → b < length xs → Differ xs → Differ (swap xs a b)
  differ_swapped xs a b pa pb h i j d p q e =
      let first = was_at xs a b d pa pb i (omega (arith, p, length-swap xs a b)) in
      let second = was_at xs a b d pa pb j (omega (arith, q, length-swap xs a b)) in
      was_one a b i j first.0 second.0 first.3 second.3 (h first.0 second.0 d first.1 second.1 (sym first.2 ∙ e ∙ second.2))

  pub AllApart-permutation : (xs ys : List X) → IsPermutation xs ys → AllApart xs → AllApart ys
  AllApart-permutation xs ys moved h = apart_from ys (IsPermutation-keeps xs Differ (differ_from xs h) (λ l i j p q k. differ_swapped l i j p q k) ys moved)
