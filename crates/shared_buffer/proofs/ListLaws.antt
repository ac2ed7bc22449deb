-- The first element of a list that passes a test.
use Rattle.std.proofs.Common.{◌≡◌, ℕ, zero, suc, ◌+◌, ◌<◌, ◌≤◌, Bool, true, false, not, ◌⊎◌, cond, List, [], ◌∷◌, length, get_or, set, Option, Some, None, is_some, refl, ap, sym, ◌∙◌, inl, inr, arith, subst}
use Rattle.std.specs.Prelude.{find, IsSome, option_map}
use Rattle.std.specs.List.{position_or_len, insert, remove, sum_by}
use Rattle.std.specs.List.Sorted.{IsPartitionPoint}
use Rattle.std.proofs.lemmas.Bool.{cases_Bool, not-true, not-false}
use Rattle.std.proofs.lemmas.List.Sums.{sum_by-cons, position_or_len_is}
use Rattle.shared_buffer.specs.Lists.{change_first, remove_first, put_before, Lists}

pub none_not_some : {Y : Type 0} (o : Option Y) → o ≡ None → IsSome o → ⊥
none_not_some None is_none present = absurd (cc)
none_not_some (Some y) is_none present = absurd (cc)

pub some_from_mapped : {X Y : Type 0} (f : X → Y) (o : Option X) → IsSome (option_map f o) → IsSome o
some_from_mapped f None present = absurd (cc)
some_from_mapped f (Some x) present = refl

-- the element is what the first one that passes was changed to
pub record IsChanged {X : Type 0} (p : X → Bool) (f : X → X) (xs : List X) (y : X) : Type 0 where
  pub was : X
  pub found : find p xs ≡ Some was
  pub becomes : y ≡ f was

module _ {X : Type 0} (p : X → Bool) where
  pub place_yes : (x : X) (xs : List X) → p x ≡ true → position_or_len p (x ∷ xs) ≡ 0
  place_yes x xs passes = rw passes refl

  pub place_no : (x : X) (xs : List X) → p x ≡ false → position_or_len p (x ∷ xs) ≡ suc (position_or_len p xs)
  place_no x xs fails = rw fails (omega arith)

  pub find_yes : (x : X) (xs : List X) → p x ≡ true → find p (x ∷ xs) ≡ Some x
  find_yes x xs passes = rw passes refl

  pub find_no : (x : X) (xs : List X) → p x ≡ false → find p (x ∷ xs) ≡ find p xs
  find_no x xs fails = rw fails refl

  -- what is found passes
  pub found_passes : (xs : List X) (x : X) → find p xs ≡ Some x → p x ≡ true
  found_passes [] x found = absurd (cc)
  found_passes (y ∷ xs) x found =
      elim (cases_Bool (p y)) [
        | inl passes ↦ let same : Some y ≡ Some x = sym (find_yes y xs passes) ∙ found in let e : y ≡ x = cc in rw e at passes
        | inr fails ↦ found_passes xs x (sym (find_no y xs fails) ∙ found)
      ]

  -- where one is found, its place is inside the list
  pub place_within : (xs : List X) → IsSome (find p xs) → position_or_len p xs < length xs
  place_within [] found = absurd (cc)
  place_within (x ∷ xs) found =
      elim (cases_Bool (p x)) [
        | inl passes ↦ omega (arith, place_yes x xs passes)
        | inr fails ↦
            let rest : IsSome (find p xs) = ap is_some (sym (find_no x xs fails)) ∙ found in
            omega (arith, place_no x xs fails, place_within xs rest)
      ]

  -- what is found stands at its place
  pub found_at_place : (xs : List X) (d : X) → position_or_len p xs < length xs → find p xs ≡ Some (get_or xs (position_or_len p xs) d)
  found_at_place [] d within = absurd (omega arith)
  found_at_place (x ∷ xs) d within =
      elim (cases_Bool (p x)) [
        | inl passes ↦ find_yes x xs passes ∙ ap (λ k. Some (get_or (x ∷ xs) k d)) (sym (place_yes x xs passes))
        | inr fails ↦
            find_no x xs fails
            ∙ found_at_place xs d (omega (arith, place_no x xs fails))
            ∙ ap (λ k. Some (get_or (x ∷ xs) k d)) (sym (place_no x xs fails))
      ]

  pub set-place :
      (change : X → X) (xs : List X) (d : X) → position_or_len p xs < length xs
      → set xs (position_or_len p xs) (change (get_or xs (position_or_len p xs) d)) ≡ change_first p change xs
  set-place change [] d within = absurd (omega arith)
  set-place change (x ∷ xs) d within =
      elim (cases_Bool (p x)) [
        | inl passes ↦ rw passes refl
        | inr fails ↦
            ap (λ k. set (x ∷ xs) k (change (get_or (x ∷ xs) k d))) (place_no x xs fails)
            ∙ ap (λ ys. x ∷ ys) (set-place change xs d (omega (arith, place_no x xs fails)))
            ∙ sym (ap (λ b. cond b (change x ∷ xs) (x ∷ change_first p change xs)) fails)
      ]

  pub remove-place : (xs : List X) → position_or_len p xs < length xs → remove xs (position_or_len p xs) ≡ remove_first p xs
  remove-place [] within = absurd (omega arith)
  remove-place (x ∷ xs) within =
      elim (cases_Bool (p x)) [
        | inl passes ↦ rw passes refl
        | inr fails ↦
            ap (λ k. remove (x ∷ xs) k) (place_no x xs fails)
            ∙ ap (λ ys. x ∷ ys) (remove-place xs (omega (arith, place_no x xs fails)))
            ∙ sym (ap (λ b. cond b xs (x ∷ remove_first p xs)) fails)
      ]

  -- the same, from an index and an element that the code has read
  pub found_is : (xs : List X) (i : ℕ) (x : X) → i ≡ position_or_len p xs → i < length xs → x ≡ get_or xs i x → find p xs ≡ Some x
  found_is xs i x place within read =
      found_at_place xs x (omega (arith, place)) ∙ ap (λ k. Some (get_or xs k x)) (sym place) ∙ ap (λ y. Some y) (sym read)

  pub changed_is :
      (change : X → X) (xs : List X) (i : ℕ) (x : X) → i ≡ position_or_len p xs → i < length xs → x ≡ get_or xs i x
      → set xs i (change x) ≡ change_first p change xs
  changed_is change xs i x place within read =
      ap (λ y. set xs i (change y)) read
      ∙ ap (λ k. set xs k (change (get_or xs k x))) place
      ∙ set-place change xs x (omega (arith, place))

  pub removed_is : (xs : List X) (i : ℕ) → i ≡ position_or_len p xs → i < length xs → remove xs i ≡ remove_first p xs
  removed_is xs i place within = ap (λ k. remove xs k) place ∙ remove-place xs (omega (arith, place))

  -- nothing is found where no element passes
  pub found_nowhere : (xs : List X) → ((k : ℕ) (d : X) → k < length xs → p (get_or xs k d) ≡ false) → find p xs ≡ None
  found_nowhere [] fails = refl
  found_nowhere (x ∷ xs) fails =
      find_no x xs (fails 0 x (omega arith)) ∙ found_nowhere xs (λ k d within. fails (suc k) d (omega arith))

  -- what is found is listed
  pub found_listed : (xs : List X) (x : X) → find p xs ≡ Some x → Lists xs x
  found_listed [] x found = absurd (cc)
  found_listed (y ∷ xs) x found =
      elim (cases_Bool (p y)) [
        | inl passes ↦ let same : Some y ≡ Some x = sym (find_yes y xs passes) ∙ found in inl (cc)
        | inr fails ↦ inr (found_listed xs x (sym (find_no y xs fails) ∙ found))
      ]

  -- something is found where what is listed passes
  pub listed_found : (xs : List X) (x : X) → Lists xs x → p x ≡ true → IsSome (find p xs)
  listed_found [] x listed passes = absurd listed
  listed_found (y ∷ xs) x (inl here) passes = ap is_some (find_yes y xs (ap p here ∙ passes))
  listed_found (y ∷ xs) x (inr later) passes =
      elim (cases_Bool (p y)) [
        | inl first ↦ ap is_some (find_yes y xs first)
        | inr fails ↦ ap is_some (find_no y xs fails) ∙ listed_found xs x later passes
      ]

  pub change_yes : (f : X → X) (x : X) (xs : List X) → p x ≡ true → change_first p f (x ∷ xs) ≡ f x ∷ xs
  change_yes f x xs passes = rw passes refl

  pub change_no : (f : X → X) (x : X) (xs : List X) → p x ≡ false → change_first p f (x ∷ xs) ≡ x ∷ change_first p f xs
  change_no f x xs fails = rw fails refl

  pub remove_yes : (x : X) (xs : List X) → p x ≡ true → remove_first p (x ∷ xs) ≡ xs
  remove_yes x xs passes = rw passes refl

  pub remove_no : (x : X) (xs : List X) → p x ≡ false → remove_first p (x ∷ xs) ≡ x ∷ remove_first p xs
  remove_no x xs fails = rw fails refl

  -- what is listed after a change was listed before, or is what the found one was changed to
  pub listed_after_change : (f : X → X) (xs : List X) (y : X) → Lists (change_first p f xs) y → Lists xs y ⊎ IsChanged p f xs y
  listed_after_change f [] y listed = absurd listed
  listed_after_change f (z ∷ xs) y listed =
      elim (cases_Bool (p z)) [
        | inl passes ↦
            let then' : Lists (f z ∷ xs) y = subst (λ (l : List X). Lists l y) (change_yes f z xs passes) listed in
            elim then' [
              | inl here ↦ inr (record { was = z; found = find_yes z xs passes; becomes = sym here })
              | inr later ↦ inl (inr later)
            ]
        | inr fails ↦
            let then' : Lists (z ∷ change_first p f xs) y = subst (λ (l : List X). Lists l y) (change_no f z xs fails) listed in
            elim then' [
              | inl here ↦ inl (inl here)
              | inr later ↦
                  elim (listed_after_change f xs y later) [
                    | inl before ↦ inl (inr before)
                    | inr changed ↦ inr (record { was = changed.was; found = find_no z xs fails ∙ changed.found; becomes = changed.becomes })
                  ]
            ]
      ]

  -- what was listed before a change still is, or is the one that was found and is listed as it was changed
  pub listed_through_change :
      (f : X → X) (xs : List X) (x : X) → Lists xs x
      → Lists (change_first p f xs) x ⊎ ((find p xs ≡ Some x) × Lists (change_first p f xs) (f x))
  listed_through_change f [] x listed = absurd listed
  listed_through_change f (y ∷ xs) x (inl here) =
      elim (cases_Bool (p y)) [
        | inl passes ↦ inr (find_yes y xs passes ∙ ap (λ z. Some z) here, rw (change_yes f y xs passes) (inl (ap f here)))
        | inr fails ↦ inl (rw (change_no f y xs fails) (inl here))
      ]
  listed_through_change f (y ∷ xs) x (inr later) =
      elim (cases_Bool (p y)) [
        | inl passes ↦ inl (rw (change_yes f y xs passes) (inr later))
        | inr fails ↦
            elim (listed_through_change f xs x later) [
              | inl kept ↦ inl (rw (change_no f y xs fails) (inr kept))
              | inr changed ↦ inr (find_no y xs fails ∙ changed.0, rw (change_no f y xs fails) (inr changed.1))
            ]
      ]

  -- what is found after a change that still passes
  pub found_after_change : (f : X → X) (xs : List X) (x : X) → find p xs ≡ Some x → p (f x) ≡ true → find p (change_first p f xs) ≡ Some (f x)
  found_after_change f [] x found still = absurd (cc)
  found_after_change f (y ∷ xs) x found still =
      elim (cases_Bool (p y)) [
        | inl passes ↦
            let both : Some y ≡ Some x = sym (find_yes y xs passes) ∙ found in
            let e : y ≡ x = cc in
            ap (find p) (change_yes f y xs passes) ∙ find_yes (f y) xs (ap (λ (z : X). p (f z)) e ∙ still) ∙ ap (λ (z : X). Some (f z)) e
        | inr fails ↦
            ap (find p) (change_no f y xs fails) ∙ find_no y (change_first p f xs) fails
            ∙ found_after_change f xs x (sym (find_no y xs fails) ∙ found) still
      ]

  pub listed_after_remove : (xs : List X) (x : X) → Lists (remove_first p xs) x → Lists xs x
  listed_after_remove [] x listed = absurd listed
  listed_after_remove (y ∷ xs) x listed =
      elim (cases_Bool (p y)) [
        | inl passes ↦ inr (subst (λ (l : List X). Lists l x) (remove_yes y xs passes) listed)
        | inr fails ↦
            let then' : Lists (y ∷ remove_first p xs) x = subst (λ (l : List X). Lists l x) (remove_no y xs fails) listed in
            elim then' [
              | inl here ↦ inl here
              | inr later ↦ inr (listed_after_remove xs x later)
            ]
      ]

  -- what was listed before a removal still is, or is the one that was found
  pub listed_through_remove : (xs : List X) (x : X) → Lists xs x → (find p xs ≡ Some x) ⊎ Lists (remove_first p xs) x
  listed_through_remove [] x listed = absurd listed
  listed_through_remove (y ∷ xs) x (inl here) =
      elim (cases_Bool (p y)) [
        | inl passes ↦ inl (find_yes y xs passes ∙ ap (λ z. Some z) here)
        | inr fails ↦ inr (rw (remove_no y xs fails) (inl here))
      ]
  listed_through_remove (y ∷ xs) x (inr later) =
      elim (cases_Bool (p y)) [
        | inl passes ↦ inr (rw (remove_yes y xs passes) later)
        | inr fails ↦
            elim (listed_through_remove xs x later) [
              | inl found ↦ inl (find_no y xs fails ∙ found)
              | inr kept ↦ inr (rw (remove_no y xs fails) (inr kept))
            ]
      ]

  pub length-change_first : (f : X → X) (xs : List X) → length (change_first p f xs) ≡ length xs
  length-change_first f [] = refl
  length-change_first f (x ∷ xs) =
      elim (cases_Bool (p x)) [
        | inl passes ↦ ap length (change_yes f x xs passes)
        | inr fails ↦ ap length (change_no f x xs fails) ∙ ap suc (length-change_first f xs)
      ]

  -- a sum over a list after a change that keeps each term
  pub sum_by-change_first : (f : X → X) (w : X → ℕ) (xs : List X) → ((x : X) → w (f x) ≡ w x) → sum_by w (change_first p f xs) ≡ sum_by w xs
  sum_by-change_first f w [] keeps = refl
  sum_by-change_first f w (x ∷ xs) keeps =
      elim (cases_Bool (p x)) [
        | inl passes ↦ ap (sum_by w) (change_yes f x xs passes) ∙ omega (arith, sum_by-cons w (f x) xs, sum_by-cons w x xs, keeps x)
        | inr fails ↦
            ap (sum_by w) (change_no f x xs fails)
            ∙ omega (arith, sum_by-cons w x (change_first p f xs), sum_by-cons w x xs, sum_by-change_first f w xs keeps)
      ]

  -- a sum over a list without the one that was found
  pub sum_by-remove_first : (w : X → ℕ) (xs : List X) (x : X) → find p xs ≡ Some x → sum_by w (remove_first p xs) + w x ≡ sum_by w xs
  sum_by-remove_first w [] x found = absurd (cc)
  sum_by-remove_first w (y ∷ xs) x found =
      elim (cases_Bool (p y)) [
        | inl passes ↦
            let same : Some y ≡ Some x = sym (find_yes y xs passes) ∙ found in
            let e : y ≡ x = cc in
            omega (arith, ap (sum_by w) (remove_yes y xs passes), ap w e, sum_by-cons w y xs)
        | inr fails ↦
            omega (
              arith,
              ap (sum_by w) (remove_no y xs fails),
              sum_by-cons w y (remove_first p xs),
              sum_by-cons w y xs,
              sum_by-remove_first w xs x (sym (find_no y xs fails) ∙ found),
            )
      ]

  pub length-remove_first : (xs : List X) (x : X) → find p xs ≡ Some x → length (remove_first p xs) + 1 ≡ length xs
  length-remove_first [] x found = absurd (cc)
  length-remove_first (y ∷ xs) x found =
      elim (cases_Bool (p y)) [
        | inl passes ↦ omega (arith, ap length (remove_yes y xs passes))
        | inr fails ↦ omega (arith, ap length (remove_no y xs fails), length-remove_first xs x (sym (find_no y xs fails) ∙ found))
      ]

module _ {X : Type 0} where
  pub listed-within : (w : X → ℕ) (xs : List X) (x : X) → Lists xs x → w x ≤ sum_by w xs
  listed-within w [] x listed = absurd listed
  listed-within w (y ∷ xs) x (inl here) = omega (arith, ap w here, sum_by-cons w y xs)
  listed-within w (y ∷ xs) x (inr later) = omega (arith, sum_by-cons w y xs, listed-within w xs x later)

  pub item_listed : (xs : List X) (k : ℕ) (d : X) → k < length xs → Lists xs (get_or xs k d)
  item_listed [] k d within = absurd (omega arith)
  item_listed (x ∷ xs) zero d within = inl refl
  item_listed (x ∷ xs) (suc k) d within = inr (item_listed xs k d (omega arith))

-- an element in front of the first that passes
module _ {X : Type 0} (p : X → Bool) where
  pub put_yes : (y x : X) (xs : List X) → p x ≡ true → put_before p y (x ∷ xs) ≡ y ∷ x ∷ xs
  put_yes y x xs passes = rw passes refl

  pub put_no : (y x : X) (xs : List X) → p x ≡ false → put_before p y (x ∷ xs) ≡ x ∷ put_before p y xs
  put_no y x xs fails = rw fails refl

  -- where those that fail come first, the place between is that of the first that passes
  pub point_is_place :
      (xs : List X) (i : ℕ) → i ≤ length xs → IsPartitionPoint (λ x. not (p x) ≡ true) (λ x. not (p x) ≡ false) xs i
      → i ≡ position_or_len p xs
  point_is_place [] i bound point = omega arith
  point_is_place (x ∷ xs) i bound point =
      sym (position_or_len_is p (x ∷ xs) i x bound
      (λ k before. not-true (p (get_or (x ∷ xs) k x)) (point.0 k x (omega arith) before))
      (λ within. not-false (p (get_or (x ∷ xs) i x)) (point.1 i x (omega arith) within)))

  pub place_bound : (xs : List X) → position_or_len p xs ≤ length xs
  place_bound [] = omega arith
  place_bound (x ∷ xs) =
      elim (cases_Bool (p x)) [
        | inl passes ↦ omega (arith, place_yes p x xs passes)
        | inr fails ↦ omega (arith, place_no p x xs fails, place_bound xs)
      ]

  pub insert-place : (y : X) (xs : List X) → insert xs (position_or_len p xs) y ≡ put_before p y xs
  insert-place y [] = refl
  insert-place y (x ∷ xs) =
      elim (cases_Bool (p x)) [
        | inl passes ↦ ap (λ k. insert (x ∷ xs) k y) (place_yes p x xs passes) ∙ sym (put_yes y x xs passes)
        | inr fails ↦
            ap (λ k. insert (x ∷ xs) k y) (place_no p x xs fails)
            ∙ ap (λ ys. x ∷ ys) (insert-place y xs)
            ∙ sym (put_no y x xs fails)
      ]

  pub listed_after_put : (y : X) (xs : List X) (x : X) → Lists (put_before p y xs) x → Lists xs x ⊎ (y ≡ x)
  listed_after_put y [] x (inl here) = inr here
  listed_after_put y [] x (inr later) = absurd later
  listed_after_put y (z ∷ xs) x listed =
      elim (cases_Bool (p z)) [
        | inl passes ↦
            let then' : Lists (y ∷ z ∷ xs) x = subst (λ (l : List X). Lists l x) (put_yes y z xs passes) listed in
            elim then' [
              | inl here ↦ inr here
              | inr later ↦ inl later
            ]
        | inr fails ↦
            let then' : Lists (z ∷ put_before p y xs) x = subst (λ (l : List X). Lists l x) (put_no y z xs fails) listed in
            elim then' [
              | inl here ↦ inl (inl here)
              | inr later ↦
                  elim (listed_after_put y xs x later) [
                    | inl before ↦ inl (inr before)
                    | inr itself ↦ inr itself
                  ]
            ]
      ]

  pub listed_through_put : (y : X) (xs : List X) (x : X) → Lists xs x → Lists (put_before p y xs) x
  listed_through_put y [] x listed = absurd listed
  listed_through_put y (z ∷ xs) x (inl here) =
      elim (cases_Bool (p z)) [
        | inl passes ↦ rw (put_yes y z xs passes) (inr (inl here))
        | inr fails ↦ rw (put_no y z xs fails) (inl here)
      ]
  listed_through_put y (z ∷ xs) x (inr later) =
      elim (cases_Bool (p z)) [
        | inl passes ↦ rw (put_yes y z xs passes) (inr (inr later))
        | inr fails ↦ rw (put_no y z xs fails) (inr (listed_through_put y xs x later))
      ]

  pub put_listed : (y : X) (xs : List X) → Lists (put_before p y xs) y
  put_listed y [] = inl refl
  put_listed y (x ∷ xs) =
      elim (cases_Bool (p x)) [
        | inl passes ↦ rw (put_yes y x xs passes) (inl refl)
        | inr fails ↦ rw (put_no y x xs fails) (inr (put_listed y xs))
      ]

  pub length-put : (y : X) (xs : List X) → length (put_before p y xs) ≡ length xs + 1
  length-put y [] = refl
  length-put y (x ∷ xs) =
      elim (cases_Bool (p x)) [
        | inl passes ↦ omega (arith, ap length (put_yes y x xs passes))
        | inr fails ↦ omega (arith, ap length (put_no y x xs fails), length-put y xs)
      ]

  pub sum_by-put : (w : X → ℕ) (y : X) (xs : List X) → sum_by w (put_before p y xs) ≡ sum_by w xs + w y
  sum_by-put w y [] = omega (arith, sum_by-cons w y [])
  sum_by-put w y (x ∷ xs) =
      elim (cases_Bool (p x)) [
        | inl passes ↦ omega (arith, ap (sum_by w) (put_yes y x xs passes), sum_by-cons w y (x ∷ xs))
        | inr fails ↦
            omega (
              arith,
              ap (sum_by w) (put_no y x xs fails),
              sum_by-cons w x (put_before p y xs),
              sum_by-cons w x xs,
              sum_by-put w y xs,
            )
      ]
