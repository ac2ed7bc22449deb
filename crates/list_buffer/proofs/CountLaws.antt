-- Lists without repeats whose elements belong together one to one are of one length, and one is the other in another order.
use Rattle.std.proofs.Common.{◌≡◌, refl, sym, ◌∙◌, ap, subst, ℕ, zero, suc, ◌+◌, ◌≤◌, ◌<◌, arith, List, [], ◌∷◌, ◌++◌, length, length-append, ◌⊎◌, inl, inr}
use Rattle.std.specs.Prelude.{Contains}
use Rattle.std.specs.List.{AllByRecursion as Each, range_with_len}
use Rattle.std.specs.List.Sorted.{IsPermutation}
use Rattle.std.proofs.lemmas.List.Elements.{Contains-append_left, Contains-append_right, Contains-append_cases}
use Rattle.std.proofs.lemmas.List.Sorted.{IsPermutation-refl, IsPermutation-cons, IsPermutation-middle, IsPermutation-sym, IsPermutation-trans}
use Rattle.cep_plan.proofs.SortedLaws.{Contains-cases, Contains-first, Contains-next, Each-contains}
use Rattle.live_laws.specs.Starts.{AllApart}
use Rattle.live_laws.proofs.MemberLaws.{Contains-none, Contains-range}

module _ {X : Type 0} where
  -- the list is what stands in front of the element, the element, and what stands behind it
  record HasSplit (xs : List X) (x : X) : Type 0 where
    front : List X
    back : List X
    parts : xs ≡ front ++ x ∷ back

  split_at : (xs : List X) (x : X) → Contains xs x → HasSplit xs x
  split_at [] x q = absurd (Contains-none x q)
  split_at (y ∷ xs) x q = by_case (Contains-cases y x xs q) (split_at xs x) where
    by_case : (y ≡ x) ⊎ Contains xs x → (Contains xs x → HasSplit xs x) → HasSplit (y ∷ xs) x
    by_case (inl e) later = record { front = []; back = xs; parts = ap (λ z. z ∷ xs) e }
    by_case (inr r) later = let s = later r in record { front = y ∷ s.front; back = s.back; parts = ap (λ l. y ∷ l) s.parts }

  -- another element stands in front of it or behind it
  without : (front back : List X) (x z : X) → Contains (front ++ x ∷ back) z → (x ≡ z) ⊎ Contains (front ++ back) z
  without front back x z q =
      elim (Contains-append_cases front (x ∷ back) z q) [
        | inl before ↦ inr (Contains-append_left front back z before)
        | inr from ↦ elim (Contains-cases x z back from) [
          | inl same ↦ inl same
          | inr behind ↦ inr (Contains-append_right front back z behind)
        ]
      ]

  -- what stands in front of an element or behind it stands in the list
  within : (front back : List X) (x z : X) → Contains (front ++ back) z → Contains (front ++ x ∷ back) z
  within front back x z q =
      elim (Contains-append_cases front back z q) [
        | inl before ↦ Contains-append_left front (x ∷ back) z before
        | inr behind ↦ Contains-append_right front (x ∷ back) z (Contains-next x z back behind)
      ]

module _ {X Y : Type 0} (belongs : X → Y → Type 0) where
  -- the element belongs to one of these
  pub record HasPartner (ys : List Y) (x : X) : Type 0 where
    pub partner : Y
    pub listed : Contains ys partner
    pub is : belongs x partner

  -- Where each element belongs to another one's own of the others, there are no more of them.
  pub no_more : (xs : List X) (ys : List Y) → AllApart xs → ((x : X) → Contains xs x → HasPartner ys x)
      → ((a b : X) (y : Y) → belongs a y → belongs b y → a ≡ b) → length xs ≤ length ys
  no_more [] ys apart has one = omega arith
  no_more (x ∷ xs) ys apart has one =
      let own = has x (Contains-first x xs) in
      let at = split_at ys own.partner own.listed in
      let fewer = no_more xs (at.front ++ at.back) apart.1 (λ z q. other z q own at (has z (Contains-next x z xs q))) one in
      omega (arith, fewer, ap length at.parts, length-append at.front (own.partner ∷ at.back), length-append at.front at.back) where
        other : (z : X) → Contains xs z → (own : HasPartner ys x) (at : HasSplit ys own.partner) → HasPartner ys z → HasPartner (at.front ++ at.back) z
        other z q own at its =
            elim (without at.front at.back own.partner its.partner (subst (λ (l : List Y). Contains l its.partner) at.parts its.listed)) [
              | inl same ↦
                  let both : x ≡ z = one x z its.partner (subst (belongs x) same own.is) its.is in
                  absurd (Each-contains (λ w. x ≡ w → ⊥) xs z apart.0 q both)
              | inr elsewhere ↦ record { partner = its.partner; listed = elsewhere; is = its.is }
            ]

-- the elements of two lists belong together one to one
pub record AreOneToOne {X Y : Type 0} (belongs : X → Y → Type 0) (xs : List X) (ys : List Y) : Type 0 where
  pub apart_left : AllApart xs
  pub apart_right : AllApart ys
  pub to : (x : X) → Contains xs x → HasPartner belongs ys x
  pub from : (y : Y) → Contains ys y → HasPartner (λ z x. belongs x z) xs y
  pub one_left : (a b : X) (y : Y) → belongs a y → belongs b y → a ≡ b
  pub one_right : (a b : Y) (x : X) → belongs x a → belongs x b → a ≡ b

-- Then there are as many of the ones as of the others.
pub as_many : {X Y : Type 0} (belongs : X → Y → Type 0) (xs : List X) (ys : List Y) → AreOneToOne belongs xs ys → length xs ≡ length ys
as_many belongs xs ys are =
    let most = no_more belongs xs ys are.apart_left are.to are.one_left in
    let least = no_more (λ y x. belongs x y) ys xs are.apart_right are.from are.one_right in
    omega (arith, most, least)

-- Lists without repeats that have the same elements are one another's in another order.
pub IsPermutation-apart : {X : Type 0} (xs ys : List X) → AllApart xs → AllApart ys → ((x : X) → Contains xs x → Contains ys x)
    → ((y : X) → Contains ys y → Contains xs y)
    → IsPermutation xs ys
IsPermutation-apart [] [] apart_xs apart_ys to from = IsPermutation-refl []
IsPermutation-apart [] (y ∷ ys) apart_xs apart_ys to from = absurd (Contains-none y (from y (Contains-first y ys)))
IsPermutation-apart {X} (x ∷ xs) ys apart_xs apart_ys to from =
    split (split_at ys x (to x (Contains-first x xs))) (λ zs apart_zs to_zs from_zs. IsPermutation-apart xs zs apart_xs.1 apart_zs to_zs from_zs) where
      -- the element stands nowhere else
      none_else : (front back : List X) → AllApart (front ++ x ∷ back) → Contains (front ++ back) x → ⊥
      none_else [] back apart q = Each-contains (λ w. x ≡ w → ⊥) back x apart.0 q refl
      none_else (y ∷ front) back apart q =
          elim (Contains-cases y x (front ++ back) q) [
            | inl same ↦ Each-contains (λ w. y ≡ w → ⊥) (front ++ x ∷ back) x apart.0 (Contains-append_right front (x ∷ back) x (Contains-first x back)) same
            | inr later ↦ none_else front back apart.1 later
          ]

      each_without : (P : X → Type 0) (front back : List X) → Each P (front ++ x ∷ back) → Each P (front ++ back)
      each_without P [] back h = h.1
      each_without P (y ∷ front) back h = (h.0, each_without P front back h.1)

      apart_without : (front back : List X) → AllApart (front ++ x ∷ back) → AllApart (front ++ back)
      apart_without [] back apart = apart.1
      apart_without (y ∷ front) back apart = (each_without (λ w. y ≡ w → ⊥) front back apart.0, apart_without front back apart.1)

      split : HasSplit ys x
          → ((zs : List X) → AllApart zs → ((z : X) → Contains xs z → Contains zs z) → ((z : X) → Contains zs z → Contains xs z) → IsPermutation xs zs)
          → IsPermutation (x ∷ xs) ys
      split at shorter =
          let rest = at.front ++ at.back in
          let apart : AllApart (at.front ++ x ∷ at.back) = subst AllApart at.parts apart_ys in
          let same : IsPermutation xs rest =
          shorter rest (apart_without at.front at.back apart)
          (λ z q. elim (without at.front at.back x z (subst (λ (l : List X). Contains l z) at.parts (to z (Contains-next x z xs q)))) [
            | inl e ↦ absurd (Each-contains (λ w. x ≡ w → ⊥) xs z apart_xs.0 q e)
            | inr there ↦ there
          ])
          (λ z q. elim (Contains-cases x z xs (from z (subst (λ (l : List X). Contains l z) (sym at.parts) (within at.front at.back x z q)))) [
            | inl e ↦ absurd (none_else at.front at.back apart (subst (Contains rest) (sym e) q))
            | inr there ↦ there
          ]) in
          IsPermutation-trans (x ∷ xs) (x ∷ rest) ys (IsPermutation-cons x xs rest same)
          (subst (IsPermutation (x ∷ rest)) (sym at.parts) (IsPermutation-sym (at.front ++ x ∷ at.back) (x ∷ rest) (IsPermutation-middle at.front x at.back)))

length-range : (low n : ℕ) → length (range_with_len low n) ≡ n
length-range low zero = refl
length-range low (suc n) = omega (arith, length-range (low + 1) n)

-- Different numbers below one are no more than it.
pub apart_within : (n : ℕ) (xs : List ℕ) → AllApart xs → Each (λ x. x < n) xs → length xs ≤ n
apart_within n xs apart below =
    let fewer =
    no_more (λ (x y : ℕ). x ≡ y) xs (range_with_len 0 n) apart
    (λ x q. record { partner = x; listed = Contains-range 0 n x (omega arith) (omega (arith, Each-contains (λ y. y < n) xs x below q)); is = refl })
    (λ a b y e f. e ∙ sym f) in
    omega (arith, fewer, length-range 0 n)
