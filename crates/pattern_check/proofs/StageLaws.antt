-- The number of a positive stage is below that of the stages.
use Rattle.std.proofs.Common.{◌≡◌, ℕ, zero, suc, ◌+◌, ◌<◌, Bool, true, false, cond, not, List, [], ◌∷◌, length, take, refl, sym, subst, arith}
use Rattle.std.specs.Prelude.{nat_lt}
use Rattle.std.specs.List.{filter, count_by, slice_get}
use Rattle.std.proofs.lemmas.Bool.Decides.{nat_tests}
use Rattle.std.proofs.lemmas.List.Sums.{sum_by-cons}
use Rattle.cep_syntax.specs.declared.file.Opener.{Opener}
use Rattle.pattern_rules.specs.Whole.{is_positive_one}
use Rattle.pattern_check.specs.Numbers.{is_positive}

pub double_not : (b : Bool) → not b ≡ false → b ≡ true
double_not true e = refl
double_not false e = absurd (cc)

pub below : (m n : ℕ) → m < n → nat_lt m n ≡ true
below m n h = grind (arith, nat_tests)

counted : (b : Bool) (o : Opener) (m : ℕ) (rest : List Opener) → m < length rest → cond b 1 0 + m < length (cond b (o ∷ rest) rest)
counted true o m rest h = let k : 1 + m < suc (length rest) = omega arith in k
counted false o m rest h = omega arith

pub found_positive : (openers : List Opener) (j : ℕ) → is_positive_one (slice_get openers j) ≡ true
    → count_by is_positive (take j openers) < length (filter is_positive openers)
found_positive [] j e = absurd (cc)
found_positive (o ∷ openers) zero e =
    subst (λ (b : Bool). 0 < length (cond b (o ∷ filter is_positive openers) (filter is_positive openers))) (sym e)
    (let h : 0 < suc (length (filter is_positive openers)) = omega arith in h)
found_positive (o ∷ openers) (suc j) e =
    subst (λ (m : ℕ). m < length (cond (is_positive o) (o ∷ filter is_positive openers) (filter is_positive openers)))
    (sym (sum_by-cons (λ (x : Opener). cond (is_positive x) 1 0) o (take j openers)))
    (counted (is_positive o) o (count_by is_positive (take j openers)) (filter is_positive openers) (found_positive openers j e))
