-- The order of pairs, and the numbers of stages in order.
use Rattle.std.proofs.Common.{◌≡◌, refl, sym, ◌∙◌, ap, ℕ, zero, suc, ◌+◌, Bool, true, ◌&&◌, List, [], ◌∷◌, ◌++◌, arith}
use Rattle.std.specs.List.{range_with_len}
use Rattle.std.proofs.lemmas.List.{append_assoc}
use Rattle.std.specs.Prelude.{◌==◌}
use Rattle.std.specs.Cmp.{IsTotalOrder, IsEquivalence, nat_cmp_total, unsigned_ties, nat_eq_equiv, then_total, on_total, and_equiv, on_equiv, both_tied}
use Rattle.std.specs.Ordering.{nat_cmp, eq_by_cmp}
use Rattle.std.proofs.lemmas.Bool.{and_parts, eqb-true}
use Rattle.cond_sums.specs.Questions.{pair_cmp}

abbrev pub same_pair : ℕ × ℕ → ℕ × ℕ → Bool
same_pair x y = x.0 == y.0 && x.1 == y.1

pub pair_cmp-total : IsTotalOrder pair_cmp
pair_cmp-total = then_total (on_total (λ (p : ℕ × ℕ). p.0) nat_cmp_total) (on_total (λ (p : ℕ × ℕ). p.1) nat_cmp_total)

pub pair-ties : (x y : ℕ × ℕ) → same_pair x y ≡ eq_by_cmp pair_cmp x y
pair-ties x y = both_tied (x.0 == y.0) (x.1 == y.1) (nat_cmp x.0 y.0) (nat_cmp x.1 y.1) (unsigned_ties x.0 y.0) (unsigned_ties x.1 y.1)

pub same_pair-equiv : IsEquivalence same_pair
same_pair-equiv = and_equiv (on_equiv (λ (p : ℕ × ℕ). p.0) nat_eq_equiv) (on_equiv (λ (p : ℕ × ℕ). p.1) nat_eq_equiv)

pub same_pair-is : (x y : ℕ × ℕ) → same_pair x y ≡ true → x ≡ y
same_pair-is x y same =
    let both = and_parts (x.0 == y.0) (x.1 == y.1) same in
    (λ i. (eqb-true x.0 y.0 both.0 i, eqb-true x.1 y.1 both.1 i))

-- one more number
pub range-more : (a n : ℕ) → range_with_len a (suc n) ≡ range_with_len a n ++ (a + n) ∷ []
range-more a zero = let same : a ≡ a + 0 = omega arith in (λ i. same i ∷ [])
range-more a (suc n) =
    let same : (a + 1) + n ≡ a + suc n = omega arith in
    ap (λ later. a ∷ later) (range-more (a + 1) n) ∙ (λ i. a ∷ (range_with_len (a + 1) n ++ same i ∷ []))

-- what was there before and the numbers so far, and then the next number
pub numbers-pushed : (before so_far pushed : List ℕ) (n : ℕ) → so_far ≡ before ++ range_with_len 0 n → pushed ≡ so_far ++ n ∷ []
    → pushed ≡ before ++ range_with_len 0 (n + 1)
numbers-pushed before so_far pushed n is next =
    let same : n ≡ 0 + n = omega arith in
    let one_more : suc n ≡ n + 1 = omega arith in
    next
    ∙ (λ i. is i ++ same i ∷ [])
    ∙ append_assoc before (range_with_len 0 n) ((0 + n) ∷ [])
    ∙ ap (λ numbers. before ++ numbers) (sym (range-more 0 n) ∙ ap (range_with_len 0) one_more)
