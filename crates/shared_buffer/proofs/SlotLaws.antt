-- Slots, of which one is changed.
use Rattle.std.proofs.Common.{◌≡◌, ◌≢◌, ℕ, zero, suc, ◌+◌, ◌<◌, ◌≤◌, ◌⊎◌, List, [], ◌∷◌, length, set, Option, Some, None, refl, ap, sym, ◌∙◌, subst, inl, inr, arith}
use Rattle.std.specs.Prelude.{option_map, map}
use Rattle.std.specs.List.{sum_by}
use Rattle.std.proofs.lemmas.Bool.{cases_eq}
use Rattle.std.proofs.lemmas.List.{get_or-set_same, get_or-set_other}
use Rattle.std.proofs.lemmas.List.Sums.{sum_by-cons}
use Rattle.shared_buffer.specs.Slots.{with_slot_changed, slot_at, Changes}

module _ {T : Type 0} where
  -- a key that has something lies inside the list
  pub slot_within : (slots : List (Option T)) (key : ℕ) (value : T) → slot_at slots key ≡ Some value → key < length slots
  slot_within [] key value found = absurd (cc)
  slot_within (slot ∷ slots) zero value found = omega arith
  slot_within (slot ∷ slots) (suc key) value found = omega (arith, slot_within slots key value found)

  -- a write inside the list changes that key alone
  pub Changes-set : (slots : List (Option T)) (key : ℕ) (slot : Option T) → key < length slots → Changes slots (set slots key slot) key slot
  Changes-set slots key slot within =
      record {
        changed = get_or-set_same slots key slot None within;
        others = λ other differs. get_or-set_other slots key other slot None differs;
      }

  module _ (w : Option T → ℕ) (nothing : w None ≡ 0) where
    -- slots that agree at each key have one sum
    pub sum_by-same_slots : (old new : List (Option T)) → ((key : ℕ) → slot_at new key ≡ slot_at old key) → sum_by w new ≡ sum_by w old
    sum_by-same_slots [] [] same = refl
    sum_by-same_slots [] (slot ∷ new) same =
        omega (arith, sum_by-cons w slot new, ap w (same 0), nothing, sum_by-same_slots [] new (λ key. same (suc key)))
    sum_by-same_slots (slot ∷ old) [] same =
        omega (arith, sum_by-cons w slot old, ap w (same 0), nothing, sum_by-same_slots old [] (λ key. same (suc key)))
    sum_by-same_slots (slot ∷ old) (slot' ∷ new) same =
        omega (
          arith,
          sum_by-cons w slot old,
          sum_by-cons w slot' new,
          ap w (same 0),
          sum_by-same_slots old new (λ key. same (suc key)),
        )

    -- a change at one key changes the sum by what stood there and what stands there now
    pub sum_by-change_at :
        (old new : List (Option T)) (key : ℕ) → ((other : ℕ) → other ≢ key → slot_at new other ≡ slot_at old other)
        → sum_by w new + w (slot_at old key) ≡ sum_by w old + w (slot_at new key)
    sum_by-change_at [] [] key same = omega arith
    sum_by-change_at [] (slot ∷ new) zero same =
        omega (
          arith,
          sum_by-cons w slot new,
          nothing,
          sum_by-same_slots [] new (λ key. same (suc key) (omega arith)),
        )
    sum_by-change_at [] (slot ∷ new) (suc key) same =
        omega (
          arith,
          sum_by-cons w slot new,
          nothing,
          ap w (same 0 (omega arith)),
          sum_by-change_at [] new key (λ other differs. same (suc other) (omega arith)),
        )
    sum_by-change_at (slot ∷ old) [] zero same =
        omega (
          arith,
          sum_by-cons w slot old,
          nothing,
          sum_by-same_slots old [] (λ key. same (suc key) (omega arith)),
        )
    sum_by-change_at (slot ∷ old) [] (suc key) same =
        omega (
          arith,
          sum_by-cons w slot old,
          nothing,
          ap w (same 0 (omega arith)),
          sum_by-change_at old [] key (λ other differs. same (suc other) (omega arith)),
        )
    sum_by-change_at (slot ∷ old) (slot' ∷ new) zero same =
        omega (
          arith,
          sum_by-cons w slot old,
          sum_by-cons w slot' new,
          sum_by-same_slots old new (λ key. same (suc key) (omega arith)),
        )
    sum_by-change_at (slot ∷ old) (slot' ∷ new) (suc key) same =
        omega (
          arith,
          sum_by-cons w slot old,
          sum_by-cons w slot' new,
          ap w (same 0 (omega arith)),
          sum_by-change_at old new key (λ other differs. same (suc other) (omega arith)),
        )

    pub sum_by-changes :
        (old new : List (Option T)) (key : ℕ) (slot : Option T) → Changes old new key slot
        → sum_by w new + w (slot_at old key) ≡ sum_by w old + w slot
    sum_by-changes old new key slot changes =
        omega (arith, sum_by-change_at old new key changes.others, ap w changes.changed)

    -- what stands at a key is part of the sum
    pub slot-within-sum : (slots : List (Option T)) (key : ℕ) → w (slot_at slots key) ≤ sum_by w slots
    slot-within-sum [] key = omega (arith, nothing)
    slot-within-sum (slot ∷ slots) zero = omega (arith, sum_by-cons w slot slots)
    slot-within-sum (slot ∷ slots) (suc key) = omega (arith, sum_by-cons w slot slots, slot-within-sum slots key)

  -- what stands after a change is what was put there, or stood before
  pub changed_cases :
      (old new : List (Option T)) (key : ℕ) (slot : Option T) → Changes old new key slot → (other : ℕ) (value : T)
      → slot_at new other ≡ Some value → ((other ≡ key) × (slot ≡ Some value)) ⊎ ((other ≢ key) × (slot_at old other ≡ Some value))
  changed_cases old new key slot changes other value found =
      elim (cases_eq other key) [
        | inl same ↦ inl (same, sym changes.changed ∙ ap (slot_at new) (sym same) ∙ found)
        | inr differs ↦ inr (differs, sym (changes.others other differs) ∙ found)
      ]

  -- what stood at another key still stands
  pub unchanged_at :
      (old new : List (Option T)) (key : ℕ) (slot : Option T) → Changes old new key slot → (other : ℕ) (value : T) → other ≢ key
      → slot_at old other ≡ Some value → slot_at new other ≡ Some value
  unchanged_at old new key slot changes other value differs found = changes.others other differs ∙ found

  pub same_value :
      (slots : List (Option T)) (key other : ℕ) (x y : T) → other ≡ key → slot_at slots key ≡ Some x → slot_at slots other ≡ Some y
      → x ≡ y
  same_value slots key other x y same found found' =
      let e : Some x ≡ Some y = sym found ∙ ap (slot_at slots) (sym same) ∙ found' in cc

  -- a key with nothing is not a key with something
  pub vacant_differs : (slots : List (Option T)) (key other : ℕ) (y : T) → slot_at slots key ≡ None → slot_at slots other ≡ Some y → other ≢ key
  vacant_differs slots key other y vacant found same =
      let e : None ≡ Some y = sym vacant ∙ ap (slot_at slots) (sym same) ∙ found in absurd (cc)

  -- a change in place of what stands at a key
  pub in_place :
      (f : T → T) (slots : List (Option T)) (key : ℕ) (x : T) → slot_at slots key ≡ Some x
      → Changes slots (with_slot_changed f slots key) key (Some (f x))
  in_place f slots key x found =
      subst (λ slot. Changes slots (with_slot_changed f slots key) key slot) (ap (option_map f) found)
      (Changes-set slots key (option_map f (slot_at slots key)) (slot_within slots key x found))

module _ {T U : Type 0} (f : T → U) where
  -- a list of slots with each value mapped
  pub slot_at-map : (slots : List (Option T)) (key : ℕ) → slot_at (map (option_map f) slots) key ≡ option_map f (slot_at slots key)
  slot_at-map [] key = refl
  slot_at-map (slot ∷ slots) zero = refl
  slot_at-map (slot ∷ slots) (suc key) = slot_at-map slots key

  pub Changes-map :
      (old new : List (Option T)) (key : ℕ) (slot : Option T) → Changes old new key slot
      → Changes (map (option_map f) old) (map (option_map f) new) key (option_map f slot)
  Changes-map old new key slot changes =
      record {
        changed = slot_at-map new key ∙ ap (option_map f) changes.changed;
        others = λ other differs. slot_at-map new other ∙ ap (option_map f) (changes.others other differs) ∙ sym (slot_at-map old other);
      }

module _ {T : Type 0} (w : Option T → ℕ) (nothing : w None ≡ 0) where
  -- a sum of which each term is none
  pub sum_by-none :
      (slots : List (Option T)) → ((key : ℕ) (value : T) → slot_at slots key ≡ Some value → w (Some value) ≡ 0)
      → sum_by w slots ≡ 0
  sum_by-none [] none = refl
  sum_by-none (None ∷ slots) none = omega (arith, sum_by-cons w None slots, nothing, sum_by-none slots (λ key value found. none (suc key) value found))
  sum_by-none (Some x ∷ slots) none =
      omega (arith, sum_by-cons w (Some x) slots, none 0 x refl, sum_by-none slots (λ key value found. none (suc key) value found))
