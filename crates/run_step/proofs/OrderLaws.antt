-- Runs stay in order of their starts where one goes, is put back, or changes but for its start.
use Rattle.std.proofs.Common.{◌≡◌, sym, ap, subst, ℕ, zero, suc, ◌<◌, ◌≤◌, arith, List, [], ◌∷◌, ◌++◌, append_assoc, length, get_or, set}
use Rattle.std.specs.Prelude.{⊤}
use Rattle.run_step.specs.declared.runs.Run.{Run}
use Rattle.run_step.specs.Content.{IsOrdered}

abbrev Up : ℕ → List Run → Type 0
Up low [] = ⊤
Up low (x ∷ xs) = (low ≤ x.start) × Up x.start xs

up-from : (low : ℕ) (xs : List Run) → ((d : Run) → 0 < length xs → low ≤ (get_or xs 0 d).start) → IsOrdered xs → Up low xs
up-from low [] h ordered = tt
up-from low (x ∷ xs) h ordered = (
  h x (omega arith),
  up-from x.start xs (λ d lt. ordered 0 1 d (omega arith) (omega (arith, lt)))
      (λ i j d le lt. ordered (suc i) (suc j) d (omega (arith, le)) (omega (arith, lt))),
)

up-all : (low : ℕ) (xs : List Run) → Up low xs → (k : ℕ) (d : Run) → k < length xs → low ≤ (get_or xs k d).start
up-all low [] up k d lt = absurd (omega (arith, lt))
up-all low (x ∷ xs) up zero d lt = up.0
up-all low (x ∷ xs) up (suc k) d lt = let more = up-all x.start xs up.1 k d (omega (arith, lt)) in let one = up.0 in omega (arith, more, one)

up-back : (low : ℕ) (xs : List Run) → Up low xs → IsOrdered xs
up-back low [] up i j d le lt = absurd (omega (arith, lt))
up-back low (x ∷ xs) up zero zero d le lt = omega arith
up-back low (x ∷ xs) up zero (suc j) d le lt = up-all x.start xs up.1 j d (omega (arith, lt))
up-back low (x ∷ xs) up (suc i) zero d le lt = absurd (omega (arith, le))
up-back low (x ∷ xs) up (suc i) (suc j) d le lt = up-back x.start xs up.1 i j d (omega (arith, le)) (omega (arith, lt))

up : (xs : List Run) → IsOrdered xs → Up 0 xs
up xs ordered = up-from 0 xs (λ d lt. omega arith) ordered

up-lower : (a b : ℕ) (xs : List Run) → a ≤ b → Up b xs → Up a xs
up-lower a b [] le h = tt
up-lower a b (x ∷ xs) le h = (let one = h.0 in omega (arith, le, one), h.1)

up-without : (low : ℕ) (xs ys : List Run) (x : Run) → Up low (xs ++ x ∷ ys) → Up low (xs ++ ys)
up-without low [] ys x h = up-lower low x.start ys h.0 h.1
up-without low (z ∷ xs) ys x h = (h.0, up-without z.start xs ys x h.1)

up-front : (low : ℕ) (xs ys : List Run) → Up low (xs ++ ys) → Up low xs
up-front low [] ys h = tt
up-front low (z ∷ xs) ys h = (h.0, up-front z.start xs ys h.1)

up-same : (low : ℕ) (xs ys : List Run) (x y : Run) → y.start ≡ x.start → Up low (xs ++ x ∷ ys) → Up low (xs ++ y ∷ ys)
up-same low [] ys x y e h = (let one = h.0 in omega (arith, one, e), up-lower y.start x.start ys (omega (arith, e)) h.1)
up-same low (z ∷ xs) ys x y e h = (h.0, up-same z.start xs ys x y e h.1)

up-set : (low : ℕ) (xs : List Run) (i : ℕ) (x y : Run) → x ≡ get_or xs i x → y.start ≡ x.start → Up low xs → Up low (set xs i y)
up-set low [] i x y is e h = tt
up-set low (z ∷ xs) zero x y is e h = let same = ap (λ (r : Run). r.start) is in let one = h.0 in
    (omega (arith, one, e, same), up-lower y.start z.start xs (omega (arith, e, same)) h.1)
up-set low (z ∷ xs) (suc i) x y is e h = (h.0, up-set z.start xs i x y is e h.1)

pub ordered-without : (xs ys : List Run) (x : Run) → IsOrdered (xs ++ x ∷ ys) → IsOrdered (xs ++ ys)
ordered-without xs ys x h = up-back 0 (xs ++ ys) (up-without 0 xs ys x (up (xs ++ x ∷ ys) h))

pub ordered-front : (xs ys : List Run) → IsOrdered (xs ++ ys) → IsOrdered xs
ordered-front xs ys h = up-back 0 xs (up-front 0 xs ys (up (xs ++ ys) h))

pub ordered-same : (xs ys : List Run) (x y : Run) → y.start ≡ x.start → IsOrdered (xs ++ x ∷ ys) → IsOrdered (xs ++ y ∷ ys)
ordered-same xs ys x y e h = up-back 0 (xs ++ y ∷ ys) (up-same 0 xs ys x y e (up (xs ++ x ∷ ys) h))

pub ordered-set : (xs : List Run) (i : ℕ) (x y : Run) → x ≡ get_or xs i x → y.start ≡ x.start → IsOrdered xs → IsOrdered (set xs i y)
ordered-set xs i x y is e h = up-back 0 (set xs i y) (up-set 0 xs i x y is e (up xs h))

-- the run is put behind the others
pub ordered-behind : (xs after rest : List Run) (x : Run) → after ≡ xs ++ x ∷ [] → IsOrdered (xs ++ x ∷ rest) → IsOrdered (after ++ rest)
ordered-behind xs after rest x is h = subst (λ (l : List Run). IsOrdered (l ++ rest)) (sym is) (subst IsOrdered (sym (append_assoc xs (x ∷ []) rest)) h)
