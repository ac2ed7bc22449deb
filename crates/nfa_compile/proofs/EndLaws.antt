-- The end stage, and the wait for it.
use Rattle.std.proofs.Common.{◌≡◌, refl, ◌∙◌, ap, ℕ, zero, suc, ◌+◌, ◌<◌, min, arith, Bool, true, false, List, [], ◌∷◌, ◌++◌, length, nat_lt}
use Rattle.std.specs.Prelude.{Option, Some, None, ◌==◌, slice_get, if◌then◌else◌}
use Rattle.std.specs.List.{last_or}
use Rattle.std.specs.Option.{option_map_or}
use Rattle.std.proofs.lemmas.Bool.{and_parts, and_right, eqb-true, eq-eqb, ne_eqb, ltb-true}
use Rattle.cep_event.specs.declared.event.Event.{Event}
use Rattle.cep_plan.specs.declared.plan.Plan.{Plan}
use Rattle.cep_plan.specs.declared.plan.Contiguity.TheVariants.{Any}
use Rattle.cep_plan.specs.declared.plan.Stage.{Stage}
use Rattle.cep_plan.specs.declared.item.Taken.{Taken}
use Rattle.cep_plan.specs.Candidate.{is_candidate, fits}
use Rattle.cep_plan.specs.Follow.{end_stage, may_end, may_come, may_follow, may_follow_last, count_for}
use Rattle.cep_plan.specs.Gap.{contiguity_of}
use Rattle.nfa_compile.specs.State.{greatest_count, greatest_at, number_of_state, count_in}
use Rattle.nfa_compile.specs.Automaton.{mode_behind, is_same_chain, is_chaining, negations_behind, target_of, wait_for}

-- a stage of the pattern isn't the end stage
pub inside_isnt_end : (plan : Plan) (stage : ℕ) → stage < length plan.stages → (stage == end_stage plan) ≡ false
inside_isnt_end plan stage inside = ne_eqb stage (length plan.stages) (λ same. omega (arith, same, inside))

-- what may follow, of a stage of the pattern and of the end stage
pub follows_inside : (plan : Plan) (so_far : List ℕ) (stage : ℕ) → stage < length plan.stages → may_follow plan so_far stage ≡ may_come plan so_far stage
unfolding may_follow
follows_inside plan so_far stage inside = ap (λ b. if b then may_end plan so_far else may_come plan so_far stage) (inside_isnt_end plan stage inside)

pub follows_end : (plan : Plan) (so_far : List ℕ) → may_follow plan so_far (end_stage plan) ≡ may_end plan so_far
unfolding may_follow
follows_end plan so_far =
    ap (λ b. if b then may_end plan so_far else may_come plan so_far (end_stage plan)) (eq-eqb (end_stage plan) (end_stage plan) refl)

-- a stage that may follow is one of the pattern's, or the end stage
pub stage_awaited : (plan : Plan) (so_far : List ℕ) (stage : ℕ) → may_follow plan so_far stage ≡ true → stage < end_stage plan + 1
unfolding may_follow
stage_awaited plan so_far stage h = decided (stage == end_stage plan) refl h where
  decided : (b : Bool) → (stage == end_stage plan) ≡ b → (if b then may_end plan so_far else may_come plan so_far stage) ≡ true → stage < end_stage plan + 1
  decided true is h = let same : stage ≡ end_stage plan = eqb-true stage (end_stage plan) is in omega (arith, same)
  decided false is h =
      let both = and_parts (nat_lt stage (length plan.stages)) (may_follow_last plan so_far stage (last_or None so_far)) h in
      let inside : stage < length plan.stages = ltb-true stage (length plan.stages) both.0 in
      omega (arith, inside)

known : (stages : List Stage) (test : Stage → Bool) (stage : ℕ) → option_map_or test (slice_get stages stage) false ≡ true → stage < length stages
known [] test stage h = let none : false ≡ true = h in absurd cc
known (s ∷ stages) test zero h = omega arith
known (s ∷ stages) test (suc stage) h = let lt = known stages test stage h in omega (arith, lt)

-- a stage that an event fits is one of the pattern's
pub stage_fitted : (plan : Plan) (taken : List Taken) (stage : ℕ) (event : Event) (position : ℕ) → fits plan taken stage event position ≡ true
    → stage < length plan.stages
unfolding fits is_candidate
stage_fitted plan taken stage event position h = known plan.stages _ stage (and_parts _ _ (and_parts _ _ h).0).0

-- the number that a take leads to, of a stage of the pattern
pub target_inside : (plan : Plan) (so_far : List ℕ) (stage : ℕ) → stage < length plan.stages
    → target_of plan so_far stage ≡ number_of_state plan stage (count_in plan (so_far ++ stage ∷ []) stage)
target_inside plan so_far stage inside =
    ap (λ b. if b then 0 else number_of_state plan stage (count_in plan (so_far ++ stage ∷ []) stage)) (inside_isnt_end plan stage inside)

none_at_end : {X : Type 0} (xs : List X) → slice_get xs (length xs) ≡ None
none_at_end [] = refl
none_at_end (x ∷ xs) = none_at_end xs

contiguity_at_end : (plan : Plan) (last : ℕ) → contiguity_of plan last (end_stage plan) ≡ Any
contiguity_at_end plan last = ap (λ o. option_map_or (λ s. if last == end_stage plan then s.inner else s.first) o Any) (none_at_end plan.stages)

-- The wait for the end leads to no state, has no count, lets all events pass and is no step of a chain.
pub wait_at_end : (plan : Plan) (so_far : List ℕ)
    → wait_for plan so_far (end_stage plan)
    ≡ record {
      state = 0;
      stage = end_stage plan;
      count = 0;
      mode = Any;
      same_chain = false;
      negations = negations_behind plan (last_or None so_far) (end_stage plan);
    }
unfolding wait_for
wait_at_end plan so_far =
    λ i. record {
      state = target i;
      stage = end_stage plan;
      count = count i;
      mode = mode (last_or None so_far) i;
      same_chain = chain (last_or None so_far) i;
      negations = negations_behind plan (last_or None so_far) (end_stage plan);
    } where
      target : target_of plan so_far (end_stage plan) ≡ 0
      target = ap (λ b. if b then 0 else number_of_state plan (end_stage plan) (count_in plan (so_far ++ end_stage plan ∷ []) (end_stage plan)))
          (eq-eqb (end_stage plan) (end_stage plan) refl)

      count : count_in plan (so_far ++ end_stage plan ∷ []) (end_stage plan) ≡ 0
      count =
          let most : greatest_at plan (end_stage plan) ≡ 0 = ap (λ o. option_map_or greatest_count o 0) (none_at_end plan.stages) in
          ap (min (count_for (end_stage plan) (so_far ++ end_stage plan ∷ []))) most ∙ none (count_for (end_stage plan) (so_far ++ end_stage plan ∷ [])) where
            none : (n : ℕ) → min n 0 ≡ 0
            none n = omega arith

      mode : (o : Option ℕ) → mode_behind plan o (end_stage plan) ≡ Any
      mode None = refl
      mode (Some last) = contiguity_at_end plan last

      chain : (o : Option ℕ) → is_same_chain plan o (end_stage plan) ≡ false
      chain None = refl
      chain (Some last) =
          and_right (last == end_stage plan) (is_chaining (contiguity_of plan last (end_stage plan))) (ap is_chaining (contiguity_at_end plan last))
