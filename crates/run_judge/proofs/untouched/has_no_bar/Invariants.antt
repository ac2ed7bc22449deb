-- None of the negations so far is met.
use Rattle.std.proofs.Common.{◌≡◌, ◌&&◌, ℕ, not, false, List, take}
use Rattle.std.specs.List.{list_any}
use Rattle.cep_plan.specs.declared.item.Taken.{Taken}
use Rattle.cep_plan.specs.Candidate.{satisfies, is_between}
use Rattle.run_judge.proofs.untouched.has_no_bar.Given as goal

abbrev pub invariant-loop-negation : goal.invariant-loop-negation
invariant-loop-negation l = record {
  next : (list : List Taken) (before : ℕ)
      → list_any (λ n. n.next_only && is_between before l.stage n && satisfies l.plan list n l.event) (take l.negation-index l.negation-items)
      ≡ false;
  followed : (list : List Taken) (before : ℕ)
      → list_any (λ n. not n.next_only && is_between before l.stage n && satisfies l.plan list n l.event) (take l.negation-index l.negation-items)
      ≡ false;
}
