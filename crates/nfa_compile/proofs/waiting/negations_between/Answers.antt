use Rattle.std.proofs.Common.{◌≡◌, sym, ◌∙◌, ap, ℕ, ◌<◌, ◌+◌, ◌-◌, [], ◌∷◌, ◌++◌, true, false, arith, length}
use Rattle.std.specs.Prelude.{filter}
use Rattle.std.specs.List.{range_with_len}
use Rattle.std.proofs.lemmas.Grind.{common_steps}
use Rattle.nfa_compile.specs.Automaton.{stands_between}
use Rattle.nfa_compile.proofs.RangeLaws.{kept_range-step}
use Rattle.nfa_compile.proofs.waiting.negations_between.Goals as goal
use Rattle.nfa_compile.proofs.waiting.negations_between.Goals.{then-stands_between+in_ok-push, else-stands_between}

pub loop-place-preserved : goal.loop-place-preserved
loop-place-preserved c =
    let test = stands_between c.args.plan.now c.args.last c.args.stage in
    let place : ℕ = c.loop-place.place in
    let count : ℕ = length c.args.plan.now.negations in
    let inside : place < count = omega (arith, c.len-place-end.ensures, c.loop-place-test.true) in
    let rest = filter test (range_with_len (place + 1) (count - (place + 1))) in
    elim c.if-stands_between.branch [
      | then-stands_between+in_ok-push w ↦
          let pushed : c.if-stands_between.between ≡ c.loop-place.between ++ place ∷ [] = grind (arith, common_steps) in
          c.loop-place.invariant ∙ kept_range-step test place count inside c.loop-place.between true (sym c.stands_between.ensures ∙ w.if-stands_between.true)
          ∙ ap (λ xs. xs ++ rest) (sym pushed)
      | else-stands_between w ↦
          c.loop-place.invariant ∙ kept_range-step test place count inside c.loop-place.between false (sym c.stands_between.ensures ∙ w.if-stands_between.false)
          ∙ ap (λ xs. xs ++ rest) (sym w.between-is)
    ]
