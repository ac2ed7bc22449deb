-- How many events a list has for a stage.
use Rattle.std.proofs.Common.{◌≡◌, refl, sym, ◌∙◌, ap, ℕ, zero, suc, ◌+◌, ◌≤◌, arith, Bool, true, false, not, ◌&&◌, cond, List, [], ◌∷◌, ◌++◌, length, length-append}
use Rattle.std.specs.Prelude.{Option, Some, None, ◌==◌, filter, replicate}
use Rattle.std.specs.List.{last_or}
use Rattle.std.proofs.lemmas.Bool.{eq-eqb}
use Rattle.std.proofs.lemmas.List.Elements.{filter-append}
use Rattle.std.proofs.lemmas.List.Sums.{length-filter}
use Rattle.std.specs.Option.{option_map_or}
use Rattle.cep_plan.specs.declared.plan.Plan.{Plan}
use Rattle.cep_plan.specs.Follow.{count_for, is_closing, is_full, is_full_at}
use Rattle.nfa_compile.specs.declared.state.State.{State}
use Rattle.nfa_compile.specs.State.{stages_at}

-- one event more or none, by whether it is one of the stage
abbrev pub counted : Bool → ℕ → ℕ
counted true n = n + 1
counted false n = n

pub count_for-push : (stage : ℕ) (so_far : List ℕ) (next : ℕ) → count_for stage (so_far ++ next ∷ []) ≡ counted (next == stage) (count_for stage so_far)
count_for-push stage so_far next =
    sym (length-filter (λ s. s == stage) (so_far ++ next ∷ []))
    ∙ ap length (filter-append (λ s. s == stage) so_far (next ∷ []))
    ∙ length-append (filter (λ s. s == stage) so_far) (filter (λ s. s == stage) (next ∷ []))
    ∙ by_test (next == stage)
    ∙ ap (counted (next == stage)) (length-filter (λ s. s == stage) so_far) where
      by_test : (b : Bool) → length (filter (λ s. s == stage) so_far) + length (cond b (next ∷ []) []) ≡ counted b (length (filter (λ s. s == stage) so_far))
      by_test true = refl
      by_test false = omega arith

pub count_for-first : (stage next : ℕ) (so_far : List ℕ) → count_for stage (next ∷ so_far) ≡ counted (next == stage) (count_for stage so_far)
count_for-first stage next so_far =
    sym (length-filter (λ s. s == stage) (next ∷ so_far)) ∙ by_test (next == stage)
    ∙ ap (counted (next == stage)) (length-filter (λ s. s == stage) so_far) where
      by_test : (b : Bool)
          → length (cond b (next ∷ filter (λ s. s == stage) so_far) (filter (λ s. s == stage) so_far))
          ≡ counted b (length (filter (λ s. s == stage) so_far))
      by_test true = omega arith
      by_test false = refl

pub count_same : (stage count : ℕ) → count_for stage (replicate count stage) ≡ count
count_same stage zero = refl
count_same stage (suc count) =
    count_for-first stage stage (replicate count stage) ∙ ap (λ b. counted b (count_for stage (replicate count stage))) (eq-eqb stage stage refl)
    ∙ ap (λ n. n + 1) (count_same stage count) ∙ next count where
      next : (n : ℕ) → n + 1 ≡ suc n
      next n = omega arith

pub count_other : (stage other count : ℕ) → (other == stage) ≡ false → count_for stage (replicate count other) ≡ 0
count_other stage other zero h = refl
count_other stage other (suc count) h =
    count_for-first stage other (replicate count other) ∙ ap (λ b. counted b (count_for stage (replicate count other))) h ∙ count_other stage other count h

-- the last of equal stages
pub last_same : (stage count : ℕ) → 1 ≤ count → last_or None (replicate count stage) ≡ Some stage
last_same stage zero h = absurd (omega (arith, h))
last_same stage (suc count) h = later None count where
  later : (o : Option ℕ) (n : ℕ) → last_or o (replicate (suc n) stage) ≡ Some stage
  later o zero = refl
  later o (suc n) = later (Some stage) n

-- whether the lists of a state are full
pub full_at : (plan : Plan) (state : State) → 1 ≤ state.count
    → is_full plan (stages_at state) ≡ (not (is_closing plan) && is_full_at plan (stages_at state) state.stage)
unfolding is_full
full_at plan state some_event =
    ap (λ o. not (is_closing plan) && option_map_or (is_full_at plan (stages_at state)) o false) (last_same state.stage state.count some_event)
