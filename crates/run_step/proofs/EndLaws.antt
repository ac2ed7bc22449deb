-- The end stage, from the automaton: the last state is one of the last stage. A list that waits for the end isn't full.
use Rattle.std.proofs.Common.{◌≡◌, refl, sym, ◌∙◌, ap, ℕ, zero, suc, ◌+◌, ◌-◌, ◌<◌, ◌≤◌, arith, true, false, not, List, [], ◌∷◌, ◌++◌, length, map, nat_le, Option, Some, None, option_map}
use Rattle.std.specs.Prelude.{flat_map, slice_get, if◌then◌else◌}
use Rattle.std.specs.List.{last_or, list_all, range_with_len}
use Rattle.std.specs.Option.{option_map_or}
use Rattle.std.proofs.lemmas.Bool.{and_parts, and_left, leb-true, eq-eqb}
use Rattle.cep_plan.specs.declared.plan.Plan.{Plan}
use Rattle.cep_plan.specs.declared.plan.Stage.{Stage}
use Rattle.cep_plan.specs.Follow.{end_stage, is_closing, may_end, may_come, may_follow, is_full, is_full_at}
use Rattle.live_laws.proofs.LastLaws.{last_or-map}
use Rattle.nfa_compile.specs.declared.state.State.{State}
use Rattle.nfa_compile.specs.declared.nfa.Nfa.{Nfa}
use Rattle.nfa_compile.specs.State.{greatest_count, greatest_at, states_at, states_of, has_bounds, IsCompilable}
use Rattle.nfa_compile.specs.Automaton.{took_of, automaton_of}
use Rattle.run_step.specs.Showing.{stage_behind, end_in}

last_or-append : {X : Type 0} (o : Option X) (xs ys : List X) → last_or o (xs ++ ys) ≡ last_or (last_or o xs) ys
last_or-append o [] ys = refl
last_or-append o (x ∷ xs) ys = last_or-append (Some x) xs ys

abbrev behind : Option State → ℕ
behind last = option_map_or (λ (state : State). state.stage + 1) last 0

-- the last of so many states of a stage
last_at : (stage low n : ℕ) (o : Option State)
    → behind (last_or o (map (λ (count : ℕ). record { stage = stage; count = count }) (range_with_len low (suc n)))) ≡ stage + 1
last_at stage low zero o = refl
last_at stage low (suc n) o = last_at stage (low + 1) n (Some (record { stage = stage; count = low }))

some_at : (plan : Plan) (stage n : ℕ) (o : Option State) → greatest_at plan stage ≡ suc n → behind (last_or o (states_at plan stage)) ≡ stage + 1
some_at plan stage n o is =
    ap (λ g. behind (last_or o (map (λ (count : ℕ). record { stage = stage; count = count }) (range_with_len 1 g)))) is ∙ last_at stage 1 n o

-- the last state of so many stages, each of which has a state
last_of_stages : (plan : Plan) (from n : ℕ) → ((k : ℕ) → k < from + suc n → 1 ≤ greatest_at plan k) → (o : Option State)
    → behind (last_or o (flat_map (states_at plan) (range_with_len from (suc n)))) ≡ from + suc n
last_of_stages plan from zero some o =
    let one = some from (omega arith) in
    let least : greatest_at plan from ≡ suc (greatest_at plan from - 1) = omega (arith, one) in
    let end = some_at plan from (greatest_at plan from - 1) o least in
    ap behind (last_or-append o (states_at plan from) []) ∙ end
last_of_stages plan from (suc n) some o =
    let more = last_of_stages plan (from + 1) n (λ k lt. some k (omega (arith, lt))) (last_or o (states_at plan from)) in
    ap behind (last_or-append o (states_at plan from) (flat_map (states_at plan) (range_with_len (from + 1) (suc n)))) ∙ more
    ∙ (let same : from + 1 + suc n ≡ from + suc (suc n) = omega arith in same)

some_state : (stages : List Stage) (k : ℕ) → k < length stages → list_all has_bounds stages ≡ true → 1 ≤ option_map_or greatest_count (slice_get stages k) 0
some_state [] k lt h = absurd (omega (arith, lt))
some_state (s ∷ stages) zero lt h =
    let bounds = and_parts (nat_le 1 s.min) (nat_le s.min (greatest_count s)) (and_parts (has_bounds s) (list_all has_bounds stages) h).0 in
    omega (arith, leb-true 1 s.min bounds.0, leb-true s.min (greatest_count s) bounds.1)
some_state (s ∷ stages) (suc k) lt h = some_state stages k (omega (arith, lt)) (and_parts (has_bounds s) (list_all has_bounds stages) h).1

last_state : (plan : Plan) → IsCompilable plan → behind (last_or None (states_of plan)) ≡ length plan.stages
unfolding states_of
last_state plan fit = by_length (length plan.stages) (λ k lt. some_state plan.stages k lt fit.bounds) where
  by_length : (n : ℕ) → ((k : ℕ) → k < n → 1 ≤ greatest_at plan k) → behind (last_or None (flat_map (states_at plan) (range_with_len 0 n))) ≡ n
  by_length zero some = refl
  by_length (suc n) some =
      last_of_stages plan 0 n (λ k lt. some k (omega (arith, lt))) None ∙ (let same : 0 + suc n ≡ suc n = omega arith in same)

taken_stage : (plan : Plan) (o : Option State) → stage_behind (option_map (took_of plan) o) ≡ behind o
unfolding took_of
taken_stage plan None = refl
taken_stage plan (Some state) = refl

automaton_end : (plan : Plan) → IsCompilable plan → end_in (automaton_of plan) ≡ end_stage plan
unfolding automaton_of
automaton_end plan fit =
    ap stage_behind (last_or-map (took_of plan) None (states_of plan)) ∙ taken_stage plan (last_or None (states_of plan)) ∙ last_state plan fit

-- The automaton tells the number of stages.
pub end_same : (plan : Plan) → IsCompilable plan → (nfa : Nfa) → nfa ≡ automaton_of plan → end_in nfa ≡ end_stage plan
end_same plan fit nfa made = ap end_in made ∙ automaton_end plan fit

-- where the end may follow, no list is full
pub closing_isnt_full : (plan : Plan) (so_far : List ℕ) → may_follow plan so_far (end_stage plan) ≡ true → is_full plan so_far ≡ false
unfolding may_follow is_full
closing_isnt_full plan so_far h =
    let ends : may_end plan so_far ≡ true =
    sym (ap (λ b. if b then may_end plan so_far else may_come plan so_far (end_stage plan)) (eq-eqb (end_stage plan) (end_stage plan) refl)) ∙ h in
    let closes = (and_parts (is_closing plan) _ ends).0 in
    and_left (not (is_closing plan)) (option_map_or (is_full_at plan so_far) (last_or None so_far) false) (ap not closes)
