-- Prefixes of versions, for this crate and its callers.
use Rattle.std.proofs.Common.{◌≡◌, ℕ, true, ◌⊎◌, eqb, List, [], ◌∷◌, ◌++◌, refl, ap, sym, ◌∙◌, inl, inr}
use Rattle.std.specs.Prelude.{nat_eq, ◌&&◌}
use Rattle.std.specs.List.{starts_with}
use Rattle.std.proofs.lemmas.Bool.{and_parts, and_from, eqb-true, eq-eqb}
use Rattle.dewey_version.specs.Version.{begins}

-- the standard library's test of a prefix
pub starts_with-begins : (whole part : List ℕ) → starts_with nat_eq whole part ≡ begins part whole
starts_with-begins whole [] = refl
starts_with-begins [] (digit ∷ part) = refl
starts_with-begins (first ∷ whole) (digit ∷ part) = ap (λ rest. eqb digit first && rest) (starts_with-begins whole part)

pub begins-refl : (part : List ℕ) → begins part part ≡ true
begins-refl [] = refl
begins-refl (digit ∷ part) = and_from _ _ (eq-eqb digit digit refl) (begins-refl part)

pub begins-append : (part rest : List ℕ) → begins part (part ++ rest) ≡ true
begins-append [] rest = refl
begins-append (digit ∷ part) rest = and_from _ _ (eq-eqb digit digit refl) (begins-append part rest)

pub begins_trans : (a b c : List ℕ) → begins a b ≡ true → begins b c ≡ true → begins a c ≡ true
begins_trans [] b c ab bc = refl
begins_trans (x ∷ a) [] c ab bc = absurd (cc)
begins_trans (x ∷ a) (y ∷ b) [] ab bc = absurd (cc)
begins_trans (x ∷ a) (y ∷ b) (z ∷ c) ab bc =
    let left = and_parts _ _ ab in
    let right = and_parts _ _ bc in
    and_from _ _ (eq-eqb x z (eqb-true x y left.0 ∙ eqb-true y z right.0)) (begins_trans a b c left.1 right.1)

-- of two prefixes of one list the one begins the other
pub begins_comparable : (a b c : List ℕ) → begins a c ≡ true → begins b c ≡ true → (begins a b ≡ true) ⊎ (begins b a ≡ true)
begins_comparable [] b c ac bc = inl refl
begins_comparable (x ∷ a) [] c ac bc = inr refl
begins_comparable (x ∷ a) (y ∷ b) [] ac bc = absurd (cc)
begins_comparable (x ∷ a) (y ∷ b) (z ∷ c) ac bc =
    let left = and_parts _ _ ac in
    let right = and_parts _ _ bc in
    let same : x ≡ y = eqb-true x z left.0 ∙ sym (eqb-true y z right.0) in
    elim (begins_comparable a b c left.1 right.1) [
      | inl ab ↦ inl (and_from _ _ (eq-eqb x y same) ab)
      | inr ba ↦ inr (and_from _ _ (eq-eqb y x (sym same)) ba)
    ]

-- a prefix is what the list is made of, with a rest
pub begins_rest : (part whole : List ℕ) → begins part whole ≡ true → (rest : List ℕ) × (whole ≡ part ++ rest)
begins_rest [] whole h = (whole, refl)
begins_rest (x ∷ part) [] h = absurd (cc)
begins_rest (x ∷ part) (y ∷ whole) h =
    let both = and_parts _ _ h in
    let tail = begins_rest part whole both.1 in
    (tail.0, ap (λ first. first ∷ whole) (sym (eqb-true x y both.0)) ∙ ap (λ later. x ∷ later) tail.1)
