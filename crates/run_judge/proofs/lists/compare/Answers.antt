use Rattle.std.proofs.Common.{◌≡◌, refl, sym, ◌∙◌, ℕ, zero, suc, ◌<◌, min, arith, length, drop, List, [], ◌∷◌, ◌⊎◌, inl, inr}
use Rattle.std.proofs.lemmas.Bool.{cases_order}
use Rattle.std.specs.declared.cmp.Ordering.TheVariants.{Less, Equal, Greater}
use Rattle.std.specs.Ordering.{nat_cmp}
use Rattle.std.specs.Cmp.{nat_cmp_is}
use Rattle.cep_plan.specs.declared.item.Taken.{Taken}
use Rattle.cep_plan.specs.Entry.{entries_in}
use Rattle.cep_plan.specs.Order.{list_cmp}
use Rattle.run_judge.proofs.lists.compare.Goals as goal

nat_cmp-suc : (a b : ℕ) → nat_cmp (suc a) (suc b) ≡ nat_cmp a b
nat_cmp-suc a b = by_order (cases_order a b) where
  by_order : (a ≡ b) ⊎ ((a < b) ⊎ (b < a)) → nat_cmp (suc a) (suc b) ≡ nat_cmp a b
  by_order (inl e) = sym (nat_cmp_is (suc a) (suc b) Equal (omega (arith, e))) ∙ nat_cmp_is a b Equal e
  by_order (inr (inl h)) = sym (nat_cmp_is (suc a) (suc b) Less (omega (arith, h))) ∙ nat_cmp_is a b Less h
  by_order (inr (inr h)) = sym (nat_cmp_is (suc a) (suc b) Greater (omega (arith, h))) ∙ nat_cmp_is a b Greater h

-- where one list ends, their lengths decide
ended : (xs ys : List Taken) (n : ℕ) → n ≡ min (length xs) (length ys)
    → nat_cmp (length xs) (length ys) ≡ list_cmp (entries_in (drop n xs)) (entries_in (drop n ys))
ended [] [] zero e = refl
ended [] [] (suc n) e = refl
ended [] (y ∷ ys) zero e = sym (nat_cmp_is 0 (suc (length ys)) Less (omega arith))
ended [] (y ∷ ys) (suc n) e = absurd (omega (arith, e))
ended (x ∷ xs) [] zero e = sym (nat_cmp_is (suc (length xs)) 0 Greater (omega arith))
ended (x ∷ xs) [] (suc n) e = absurd (omega (arith, e))
ended (x ∷ xs) (y ∷ ys) zero e = absurd (omega (arith, e))
ended (x ∷ xs) (y ∷ ys) (suc n) e = nat_cmp-suc (length xs) (length ys) ∙ ended xs ys n (omega (arith, e))

pub returns : goal.returns
returns c =
    let xs = c.as_slice-list.result.now in
    let ys = c.as_slice-other.result.now in
    let at_end : c.loop-place.place ≡ min (length xs) (length ys) = omega (arith, c.loop-place.auto.place-end, c.loop-place-test.false, c.min-place-end.ensures) in
    c.cmp-2.ensures ∙ ended xs ys c.loop-place.place at_end ∙ sym c.loop-place.invariant
    ∙ (λ i. list_cmp (entries_in (c.as_slice-list.ensures i)) (entries_in (c.as_slice-other.ensures i)))
