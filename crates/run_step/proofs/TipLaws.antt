-- The tips of the runs of a due: which runs have them, their order, that repeats stand side by side, and which stand among others.
use Rattle.std.proofs.Common.{◌≡◌, refl, sym, ◌∙◌, ap, subst, ℕ, ◌<◌, arith, Bool, true, false, cond, ◌==◌, get_or, ◌⊎◌, inl, inr, List, [], ◌∷◌, ◌++◌, length, take, drop, Option, Some, None}
use Rattle.std.specs.Prelude.{Contains, filter}
use Rattle.std.specs.Cmp.{IsStrictWeakOrder, IsTotalOrder, nat_cmp_total}
use Rattle.std.specs.List.{dedup, last_or, list_any, HoldsAt, AllByRecursion as Each}
use Rattle.std.specs.List.Sorted.{IsSortedBy, IsStrictlySortedBy, IsPartitionPoint}
use Rattle.std.specs.declared.cmp.Ordering.{Ordering}
use Rattle.std.specs.declared.cmp.Ordering.TheVariants.{Less, Equal, Greater}
use Rattle.std.specs.Ordering.{nat_cmp, ordering_then, is_eq}
use Rattle.std.proofs.lemmas.Bool.{and_left, ne_eqb, or_cases, cases_order}
use Rattle.std.proofs.lemmas.Cmp.{ranked, on_total, then_total, nat_list_cmp_total, eq_by_cmp_equiv}
use Rattle.std.proofs.lemmas.List.Kept.{IsStrictlySortedBy-dedup, Contains-dedup}
use Rattle.std.proofs.lemmas.List.Sorted.{ranks_by}
use Rattle.dewey_version.specs.Version.{version_cmp}
use Rattle.nfa_compile.specs.declared.nfa.Nfa.{Nfa}
use Rattle.live_laws.specs.Starts.{AllApart}
use Rattle.cep_plan.proofs.SortedLaws.{Contains-first, Contains-next}
use Rattle.live_laws.proofs.LiveLaws.{list_any-contains}
use Rattle.live_laws.proofs.RepeatLaws.{repeats, dedup-push}
use Rattle.list_runs.proofs.PartLaws.{filter-none, filter-front, Each-mapped}
use Rattle.cep_plan.specs.declared.item.Due.{Due}
use Rattle.cep_plan.specs.declared.item.Due.TheVariants.{Start}
use Rattle.run_step.specs.declared.runs.Run.{Run}
use Rattle.run_step.specs.Content.{is_in_due}
use Rattle.run_step.specs.declared.runs.Tip.{Tip}
use Rattle.run_step.specs.Showing.{is_among, is_shown, tip_cmp, comes_before, is_same_tip, repeats_last}

-- ---- the runs of a due in a group

module _ (nfa : Nfa) (due : Due) where
  elsewhere : (run : Run) → is_in_due due run ≡ false → is_shown nfa due run ≡ false
  elsewhere run other = and_left _ _ other

  pub shown-before : (runs : List Run) → Each (λ (run : Run). is_in_due due run ≡ false) runs → filter (is_shown nfa due) runs ≡ []
  shown-before runs none =
      filter-none (is_shown nfa due) runs (Each-mapped (λ (run : Run). is_in_due due run ≡ false) (λ run. is_shown nfa due run ≡ false) elsewhere runs none)

  pub shown-front : (runs : List Run) (end : ℕ) → Each (λ (run : Run). is_in_due due run ≡ false) (drop end runs)
      → filter (is_shown nfa due) (take end runs) ≡ filter (is_shown nfa due) runs
  shown-front runs end none =
      filter-front (is_shown nfa due) runs end (Each-mapped (λ (run : Run). is_in_due due run ≡ false) (λ run. is_shown nfa due run ≡ false) elsewhere
      (drop end runs) none)

-- before and behind a start there is no run of its due
pub none-before : (start : ℕ) (runs : List Run) → Each (λ (run : Run). run.start < start) runs → Each (λ (run : Run). is_in_due (Start start) run ≡ false) runs
none-before start runs below =
    Each-mapped (λ (run : Run). run.start < start) (λ run. (run.start == start) ≡ false)
    (λ run lt. ne_eqb run.start start (λ e. omega (arith, lt, e))) runs below

pub none-behind : (start : ℕ) (runs : List Run) → Each (λ (run : Run). start < run.start) runs → Each (λ (run : Run). is_in_due (Start start) run ≡ false) runs
none-behind start runs above =
    Each-mapped (λ (run : Run). start < run.start) (λ run. (run.start == start) ≡ false)
    (λ run lt. ne_eqb run.start start (λ e. omega (arith, lt, e))) runs above

-- ---- tips in order

pub tip_cmp-total : IsTotalOrder tip_cmp
tip_cmp-total = then_total (on_total (λ (t : Tip). t.node) nat_cmp_total) (on_total (λ (t : Tip). t.version) nat_list_cmp_total)

pub comes_before-order : IsStrictWeakOrder comes_before
comes_before-order = ranks_by tip_cmp-total (λ (t : Tip). t)

both_equal : (a b : Ordering) → ordering_then a b ≡ Equal → (a ≡ Equal) × (b ≡ Equal)
both_equal Less b h = let no : Less ≡ Equal = h in absurd cc
both_equal Equal b h = (refl, h)
both_equal Greater b h = let no : Greater ≡ Equal = h in absurd cc

version_cmp-same : (a b : List ℕ) → version_cmp a b ≡ Equal → a ≡ b
version_cmp-same [] [] h = refl
version_cmp-same [] (y ∷ b) h = let no : Less ≡ Equal = h in absurd cc
version_cmp-same (x ∷ a) [] h = let no : Greater ≡ Equal = h in absurd cc
version_cmp-same (x ∷ a) (y ∷ b) h =
    let both = both_equal (nat_cmp x y) (version_cmp a b) h in
    λ i. ranked x y Equal (sym both.0) i ∷ version_cmp-same a b both.1 i

tip_cmp-same : (a b : Tip) → tip_cmp a b ≡ Equal → a ≡ b
tip_cmp-same a b h =
    let both = both_equal (nat_cmp a.node b.node) (version_cmp a.version b.version) h in
    λ i. record { node = ranked a.node b.node Equal (sym both.0) i; version = version_cmp-same a.version b.version both.1 i }

is_equal : (o : Ordering) → is_eq o ≡ true → o ≡ Equal
is_equal Less h = let no : false ≡ true = h in absurd cc
is_equal Equal h = refl
is_equal Greater h = let no : false ≡ true = h in absurd cc

tip_cmp-refl : (a : Tip) → tip_cmp a a ≡ Equal
tip_cmp-refl a = is_equal (tip_cmp a a) ((eq_by_cmp_equiv tip_cmp-total).refl a)

-- ---- repeats

repeats-same : (tip : Tip) (o : Option Tip) → repeats is_same_tip tip o ≡ repeats_last tip o
repeats-same tip None = refl
repeats-same tip (Some last) = refl

pushed : (xs : List Tip) (tip : Tip)
    → dedup is_same_tip (xs ++ tip ∷ [])
    ≡ cond (repeats_last tip (last_or None (dedup is_same_tip xs))) (dedup is_same_tip xs) (dedup is_same_tip xs ++ tip ∷ [])
pushed xs tip =
    dedup-push is_same_tip xs tip
    ∙ ap (λ b. cond b (dedup is_same_tip xs) (dedup is_same_tip xs ++ tip ∷ [])) (repeats-same tip (last_or None (dedup is_same_tip xs)))

-- the step of a loop that leaves repeats out
pub kept_more : (xs kept made : List Tip) (tip : Tip) → kept ≡ dedup is_same_tip xs
    → made ≡ cond (repeats_last tip (last_or None kept)) kept (kept ++ tip ∷ []) → made ≡ dedup is_same_tip (xs ++ tip ∷ [])
kept_more xs kept made tip is added = added ∙ (λ i. cond (repeats_last tip (last_or None (is i))) (is i) (is i ++ tip ∷ [])) ∙ sym (pushed xs tip)

-- strictly in order, no two are the same
apart_from_strict : (tips : List Tip) → IsStrictlySortedBy tip_cmp tips → AllApart tips
unfolding IsStrictlySortedBy
apart_from_strict [] h = tt
apart_from_strict (x ∷ xs) h = (
  Each-mapped (λ (y : Tip). tip_cmp x y ≡ Less) (λ y. x ≡ y → ⊥)
      (λ y less e. let no : Less ≡ Equal = sym less ∙ ap (tip_cmp x) (sym e) ∙ tip_cmp-refl x in absurd cc) xs h.0,
  apart_from_strict xs h.1,
)

-- sorted, and without repeats of the one before, no two are the same
pub apart_from_dedup : (tips : List Tip) → IsSortedBy comes_before tips → AllApart (dedup is_same_tip tips)
apart_from_dedup tips sorted = apart_from_strict (dedup is_same_tip tips) (IsStrictlySortedBy-dedup tip_cmp-total (λ a b. refl) tips sorted)

-- and none is lost
pub Contains-without_repeats : (tips : List Tip) (tip : Tip) → Contains tips tip → Contains (dedup is_same_tip tips) tip
Contains-without_repeats tips tip = Contains-dedup (eq_by_cmp_equiv tip_cmp-total) (λ a b same. tip_cmp-same a b (is_equal (tip_cmp a b) same)) tips tip

-- ---- tips among others

pub same-refl : (tip : Tip) → is_same_tip tip tip ≡ true
same-refl tip = ap is_eq (tip_cmp-refl tip)

pub among-contains : (tips : List Tip) (tip : Tip) → Contains tips tip → is_among tips tip ≡ true
among-contains tips tip q = list_any-contains (is_same_tip tip) tips tip q (same-refl tip)

any-at : {X : Type 0} (test : X → Bool) (xs : List X) → list_any test xs ≡ true → (x : X) × Contains xs x × (test x ≡ true)
any-at {X = X} test [] h = let no : false ≡ true = h in absurd cc
any-at {X = X} test (x ∷ xs) h = split (or_cases (test x) (list_any test xs) h) (any-at test xs) where
  split : (test x ≡ true) ⊎ (list_any test xs ≡ true) → (list_any test xs ≡ true → (y : X) × Contains xs y × (test y ≡ true))
      → (y : X) × Contains (x ∷ xs) y × (test y ≡ true)
  split (inl is) later = (x, Contains-first x xs, is)
  split (inr some) later = let found = later some in (found.0, Contains-next x found.0 xs found.1, found.2)

pub contains-among : (tips : List Tip) (tip : Tip) → is_among tips tip ≡ true → Contains tips tip
contains-among tips tip h =
    let found = any-at (is_same_tip tip) tips h in
    subst (Contains tips) (sym (tip_cmp-same tip found.0 (is_equal (tip_cmp tip found.0) found.2))) found.1

-- what a search for the tip finds
pub among-found : (tips : List Tip) (tip : Tip) (i : ℕ) → i < length tips → HoldsAt (λ other. tip_cmp other tip ≡ Equal) tips i → is_among tips tip ≡ true
among-found tips tip i lt at =
    let here = tip_cmp-same (get_or tips i tip) tip (at tip) in
    among-contains tips tip (i, lt, here)

pub among-none : (tips : List Tip) (tip : Tip) (i : ℕ)
    → IsPartitionPoint (λ other. tip_cmp other tip ≡ Less) (λ other. tip_cmp other tip ≡ Greater) tips i → is_among tips tip ≡ false
among-none tips tip i parted = by_test (is_among tips tip) refl where
  by_test : (b : Bool) → is_among tips tip ≡ b → is_among tips tip ≡ false
  by_test false is = is
  by_test true is =
      let found = contains-among tips tip is in
      let equal : tip_cmp (get_or tips found.0 tip) tip ≡ Equal = ap (λ (t : Tip). tip_cmp t tip) found.2 ∙ tip_cmp-refl tip in
      placed found.0 found.1 equal (cases_order found.0 i) where
        placed : (k : ℕ) → k < length tips → tip_cmp (get_or tips k tip) tip ≡ Equal → (k ≡ i) ⊎ ((k < i) ⊎ (i < k)) → is_among tips tip ≡ false
        placed k lt equal (inr (inl below)) = let no : Less ≡ Equal = sym (parted.0 k tip (omega arith) below) ∙ equal in absurd cc
        placed k lt equal (inr (inr above)) = let no : Greater ≡ Equal = sym (parted.1 k tip (omega (arith, above)) lt) ∙ equal in absurd cc
        placed k lt equal (inl at) = let no : Greater ≡ Equal = sym (parted.1 k tip (omega (arith, at)) lt) ∙ equal in absurd cc
