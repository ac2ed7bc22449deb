-- Members of lists: fronts, each element once, and lists in order.
use Rattle.std.proofs.Common.{◌≡◌, refl, sym, ◌∙◌, ap, subst, ℕ, ◌+◌, Bool, true, false, cond, ◌==◌, List, [], ◌∷◌, ◌++◌, ◌⊎◌, inl, inr}
use Rattle.std.specs.Prelude.{Contains}
use Rattle.std.specs.List.{list_any, starts_with, AllByRecursion as Each}
use Rattle.std.specs.List.Sorted.{IsStrictlySortedBy}
use Rattle.std.specs.declared.cmp.Ordering.TheVariants.{Less}
use Rattle.std.proofs.lemmas.Bool.{and_parts, and_from, or_cases, or_left, or_right, eqb-true, eq-eqb, cases_Bool}
use Rattle.cep_plan.specs.Entry.{Entry}
use Rattle.cep_plan.specs.Order.{list_cmp}
use Rattle.cep_plan.specs.Living.{same_entry}
use Rattle.cep_plan.proofs.OrderLaws.{list_cmp-asymmetric}
use Rattle.cep_plan.proofs.RisingLaws.{IsRising}
use Rattle.cep_plan.proofs.SortedLaws.{Contains-cases, Contains-first, Contains-next}
use Rattle.live_laws.specs.Starts.{AllApart}
use Rattle.live_laws.proofs.MemberLaws.{Contains-none, Each-from_contains}
use Rattle.sharing_laws.specs.Sizes.{once_each}

-- ---- members that pass a test

module _ {X : Type 0} (test : X → Bool) where
  -- an element of the list passes
  pub record HasPassing (xs : List X) : Type 0 where
    pub one : X
    pub listed : Contains xs one
    pub passes : test one ≡ true

  pub list_any-passing : (xs : List X) → list_any test xs ≡ true → HasPassing xs
  list_any-passing [] h = let no : false ≡ true = h in absurd cc
  list_any-passing (x ∷ xs) h = split (or_cases (test x) (list_any test xs) h) (list_any-passing xs) where
    split : (test x ≡ true) ⊎ (list_any test xs ≡ true) → (list_any test xs ≡ true → HasPassing xs) → HasPassing (x ∷ xs)
    split (inl is) later = record { one = x; listed = Contains-first x xs; passes = is }
    split (inr some) later = let found = later some in record { one = found.one; listed = Contains-next x found.one xs found.listed; passes = found.passes }

-- what stands in a list has something in front of it and something behind it
pub record HasParts {X : Type 0} (xs : List X) (x : X) : Type 0 where
  pub front : List X
  pub back : List X
  pub parts : xs ≡ front ++ x ∷ back

pub parts_of : {X : Type 0} (xs : List X) (x : X) → Contains xs x → HasParts xs x
parts_of [] x q = absurd (Contains-none x q)
parts_of {X} (y ∷ xs) x q = split (Contains-cases y x xs q) (parts_of xs x) where
  split : (y ≡ x) ⊎ Contains xs x → (Contains xs x → HasParts xs x) → HasParts (y ∷ xs) x
  split (inl same) later = record { front = []; back = xs; parts = ap (λ z. z ∷ xs) same }
  split (inr there) later = let found = later there in record { front = y ∷ found.front; back = found.back; parts = ap (λ l. y ∷ l) found.parts }

-- ---- fronts

-- the list is the front and more
pub record HasRest (list front : List Entry) : Type 0 where
  pub rest : List Entry
  pub parts : list ≡ front ++ rest

same_entry-is : (a b : Entry) → same_entry a b ≡ true → a ≡ b
same_entry-is a b h =
    let both = and_parts (a.stage == b.stage) (a.position == b.position) h in
    λ i. record { stage = eqb-true a.stage b.stage both.0 i; position = eqb-true a.position b.position both.1 i }

pub rest_of : (list front : List Entry) → starts_with same_entry list front ≡ true → HasRest list front
rest_of list [] h = record { rest = list; parts = refl }
rest_of [] (y ∷ front) h = let no : false ≡ true = h in absurd cc
rest_of (x ∷ list) (y ∷ front) h = longer (and_parts (same_entry y x) (starts_with same_entry list front) h) (rest_of list front) where
  longer : (same_entry y x ≡ true) × (starts_with same_entry list front ≡ true) → (starts_with same_entry list front ≡ true → HasRest list front)
      → HasRest (x ∷ list) (y ∷ front)
  longer both later = let found = later both.1 in record { rest = found.rest; parts = λ i. sym (same_entry-is y x both.0) i ∷ found.parts i }

pub starts_with-front : (front rest : List Entry) → starts_with same_entry (front ++ rest) front ≡ true
starts_with-front [] [] = refl
starts_with-front [] (x ∷ rest) = refl
starts_with-front (x ∷ front) rest =
    and_from (same_entry x x) (starts_with same_entry (front ++ rest) front)
    (and_from (x.stage == x.stage) (x.position == x.position) (eq-eqb x.stage x.stage refl) (eq-eqb x.position x.position refl))
    (starts_with-front front rest)

-- a front of a rising list rises
pub rising_front : (stages from to : ℕ) (front rest : List Entry) → IsRising stages from to (front ++ rest) → IsRising stages from to front
rising_front stages from to [] rest rises = tt
rising_front stages from to (x ∷ front) rest (stage, low, high, later) = (stage, low, high, rising_front stages (x.position + 1) to front rest later)

-- ---- each once

-- lists in order are different
pub sorted_apart : (lists : List (List Entry)) → IsStrictlySortedBy list_cmp lists → AllApart lists
unfolding IsStrictlySortedBy
sorted_apart [] sorted = tt
sorted_apart (list ∷ lists) sorted = (differ lists sorted.0, sorted_apart lists sorted.1) where
  differ : (others : List (List Entry)) → Each (λ other. list_cmp list other ≡ Less) others → Each (λ other. list ≡ other → ⊥) others
  differ [] less = tt
  differ (other ∷ others) less = (
    (λ same.
        let before : list_cmp list list ≡ Less = ap (list_cmp list) same ∙ less.0 in
        list_cmp-asymmetric list list before before),
    differ others less.1,
  )

module _ {X : Type 0} (same : X → X → Bool) (told : (a b : X) → same a b ≡ true → a ≡ b) (tells : (x : X) → same x x ≡ true) where
  -- the same elements are left
  pub once_each-from : (xs : List X) (x : X) → Contains (once_each same xs) x → Contains xs x
  once_each-from [] x q = absurd (Contains-none x q)
  once_each-from (y ∷ xs) x q = by_test (list_any (same y) xs) q (once_each-from xs x) where
    by_test : (again : Bool) → Contains (cond again (once_each same xs) (y ∷ once_each same xs)) x → (Contains (once_each same xs) x → Contains xs x)
        → Contains (y ∷ xs) x
    by_test true here later = Contains-next y x xs (later here)
    by_test false here later =
        elim (Contains-cases y x (once_each same xs) here) [
          | inl is ↦ subst (Contains (y ∷ xs)) is (Contains-first y xs)
          | inr there ↦ Contains-next y x xs (later there)
        ]

  pub once_each-has : (xs : List X) (x : X) → Contains xs x → Contains (once_each same xs) x
  once_each-has [] x q = absurd (Contains-none x q)
  once_each-has (y ∷ xs) x q = by_test (list_any (same y) xs) refl (Contains-cases y x xs q) (once_each-has xs) where
    by_test : (again : Bool) → list_any (same y) xs ≡ again → (y ≡ x) ⊎ Contains xs x → ((z : X) → Contains xs z → Contains (once_each same xs) z)
        → Contains (cond again (once_each same xs) (y ∷ once_each same xs)) x
    by_test true is (inl here) later =
        let found = list_any-passing (same y) xs is in
        let this : found.one ≡ x = sym (told y found.one found.passes) ∙ here in
        later x (subst (Contains xs) this found.listed)
    by_test true is (inr there) later = later x there
    by_test false is (inl here) later = subst (Contains (y ∷ once_each same xs)) here (Contains-first y (once_each same xs))
    by_test false is (inr there) later = Contains-next y x (once_each same xs) (later x there)

  none_again : (y : X) (xs : List X) → list_any (same y) xs ≡ false → (x : X) → Contains xs x → y ≡ x → ⊥
  none_again y [] none x q is = Contains-none x q
  none_again y (z ∷ xs) none x q is =
      by_tests (cases_Bool (same y z)) (cases_Bool (list_any (same y) xs)) (Contains-cases z x xs q)
      (λ no_more there. none_again y xs no_more x there is) where
        by_tests : (same y z ≡ true) ⊎ (same y z ≡ false) → (list_any (same y) xs ≡ true) ⊎ (list_any (same y) xs ≡ false) → (z ≡ x) ⊎ Contains xs x
            → (list_any (same y) xs ≡ false → Contains xs x → ⊥) → ⊥
        by_tests (inl passes) more where_is later = let no : true ≡ false = sym (or_left (same y z) (list_any (same y) xs) passes) ∙ none in absurd cc
        by_tests (inr fails) (inl some) where_is later = let no : true ≡ false = sym (or_right (same y z) (list_any (same y) xs) some) ∙ none in absurd cc
        by_tests (inr fails) (inr no_more) (inl here) later =
            let passes : same y z ≡ true = ap (same y) (here ∙ sym is) ∙ tells y in
            let no : true ≡ false = sym passes ∙ fails in
            absurd cc
        by_tests (inr fails) (inr no_more) (inr there) later = later no_more there

  -- and each is left once
  pub once_each-apart : (xs : List X) → AllApart (once_each same xs)
  once_each-apart [] = tt
  once_each-apart (y ∷ xs) = by_test (list_any (same y) xs) refl (once_each-apart xs) where
    by_test : (again : Bool) → list_any (same y) xs ≡ again → AllApart (once_each same xs) → AllApart (cond again (once_each same xs) (y ∷ once_each same xs))
    by_test true is later = later
    by_test false is later =
        (Each-from_contains (λ x. y ≡ x → ⊥) (once_each same xs) (λ x q. none_again y xs is x (once_each-from xs x q)), later)
