-- Plans that are compiled, from facts in other words: a bound on stages and negations together, and stages that are tested and states that are
-- counted by other functions.
use Rattle.std.proofs.Common.{◌≡◌, refl, subst, ◌+◌, ◌≤◌, ℕ, arith, Bool, true, List, [], ◌∷◌, length}
use Rattle.std.specs.List.{list_all, sum_by}
use Rattle.std.proofs.lemmas.Bool.{and_parts, and_from}
use Rattle.cep_plan.specs.declared.plan.Plan.{Plan}
use Rattle.cep_plan.specs.declared.plan.Stage.{Stage}
use Rattle.nfa_compile.specs.State.{has_bounds, greatest_count, IsCompilable}

all_so : (p q : Stage → Bool) → ((s : Stage) → p s ≡ true → q s ≡ true) → (xs : List Stage) → list_all p xs ≡ true → list_all q xs ≡ true
all_so p q each [] h = refl
all_so p q each (x ∷ xs) h =
    let both = and_parts (p x) (list_all p xs) h in
    and_from (q x) (list_all q xs) (each x both.0) (all_so p q each xs both.1)

pub compilable_from : (plan : Plan) (states : Stage → ℕ) (bounded : Stage → Bool)
    → ((s : Stage) → states s ≡ greatest_count s) → ((s : Stage) → bounded s ≡ true → has_bounds s ≡ true)
    → length plan.stages + length plan.negations ≤ 64 → list_all bounded plan.stages ≡ true → sum_by states plan.stages ≤ 1024 → IsCompilable plan
compilable_from plan states bounded same enough few bounds few_states = record {
  few_stages = omega (arith, few);
  few_negations = omega (arith, few);
  bounds = all_so bounded has_bounds enough plan.stages bounds;
  few_states = subst (λ f. sum_by f plan.stages ≤ 1024) (λ i s. same s i) few_states;
}
