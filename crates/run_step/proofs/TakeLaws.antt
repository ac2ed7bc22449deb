-- The take of a run is that of its list.
use Rattle.std.proofs.Common.{◌≡◌, refl, sym, ◌∙◌, ap, subst, ℕ, zero, suc, ◌+◌, ◌-◌, ◌*◌, ◌^◌, ◌<◌, ◌≤◌, arith, Bool, true, false, cond, List, [], ◌∷◌, ◌++◌, length, map, get_or, Some}
use Rattle.std.specs.Prelude.{slice_get, filter, count_by}
use Rattle.std.proofs.lemmas.List.Sums.{sum_by-cons}
use Rattle.live_laws.proofs.PartialLaws.{may_grow-length}
use Rattle.std.specs.List.{range_with_len}
use Rattle.std.proofs.lemmas.List.{map-append}
use Rattle.cep_event.specs.declared.event.Event.{Event}
use Rattle.cep_plan.specs.declared.plan.Plan.{Plan}
use Rattle.cep_plan.specs.declared.item.Taken.{Taken}
use Rattle.cep_plan.specs.Entry.{Entry, event_at, taken_at, stages_of}
use Rattle.cep_plan.specs.Follow.{end_stage, may_follow}
use Rattle.cep_plan.proofs.LocalLaws.{AreAmong, event_at-append}
use Rattle.nfa_compile.specs.declared.nfa.Wait.{Wait}
use Rattle.nfa_compile.specs.declared.nfa.Nfa.{Nfa}
use Rattle.nfa_compile.specs.Automaton.{number_of_list, wait_for, waits_of, waits_in}
use Rattle.nfa_compile.proofs.AutomatonLaws.{number_after_take, waits_of_list}
use Rattle.live_laws.proofs.WaitLaws.{waits-may_grow, waits-among}
use Rattle.match_labels.specs.Label.{Mark, no_mark, stays, branches_off, branches_below, branches_in, step_digits, mark_behind, mark_from, mark_of}
use Rattle.run_step.specs.declared.runs.Run.{Run}
use Rattle.run_step.specs.declared.passing.Take.{Take}
use Rattle.cond_sums.specs.Kept.{wanted_in, StandsFor}
use Rattle.run_step.specs.Runs.{Waiter}
use Rattle.run_step.proofs.SumsLaws.{sums-taken, ends_taken}
use Rattle.run_step.specs.Taking.{first_of, pred_of, label_after, digit_after, IsTakeOf, CanTakeRun}
use Rattle.run_step.proofs.DigitLaws.{mark_after}

wait_stage : (plan : Plan) (so_far : List ℕ) (stage : ℕ) → (wait_for plan so_far stage).stage ≡ stage
unfolding wait_for
wait_stage plan so_far stage = refl

pub some_within : {X : Type 0} (xs : List X) (i : ℕ) (x : X) → slice_get xs i ≡ Some x → i < length xs
some_within [] i x is = absurd cc
some_within (y ∷ xs) zero x is = omega arith
some_within (y ∷ xs) (suc i) x is = let more = some_within xs i x is in omega (arith, more)

length-filter : {X : Type 0} (test : X → Bool) (xs : List X) → length (filter test xs) ≤ length xs
length-filter test [] = omega arith
length-filter test (x ∷ xs) = by_test (test x) (length-filter test xs) where
  by_test : (b : Bool) → length (filter test xs) ≤ length xs → length (cond b (x ∷ filter test xs) (filter test xs)) ≤ length (x ∷ xs)
  by_test true h = omega (arith, h)
  by_test false h = omega (arith, h)

pub length-range : (from n : ℕ) → length (range_with_len from n) ≡ n
length-range from zero = refl
length-range from (suc n) = let more = length-range (from + 1) n in omega (arith, more)

pub length-mapped : {X Y : Type 0} (f : X → Y) (xs : List X) → length (map f xs) ≡ length xs
length-mapped f [] = refl
length-mapped f (x ∷ xs) = let more = length-mapped f xs in omega (arith, more)

-- a list waits for few stages
pub waits_few : (plan : Plan) (so_far : List ℕ) → length (waits_of plan so_far) ≤ end_stage plan + 1
unfolding waits_of
waits_few plan so_far =
    let all = range_with_len 0 (end_stage plan + 1) in
    omega (
      arith,
      length-mapped (wait_for plan so_far) (filter (may_follow plan so_far) all),
      length-filter (may_follow plan so_far) all,
      length-range 0 (end_stage plan + 1),
    )

pub count_by-all : {X : Type 0} (test : X → Bool) (xs : List X) → count_by test xs ≤ length xs
count_by-all test [] = omega arith
count_by-all test (x ∷ xs) =
    let rest = count_by-all test xs in
    omega (arith, rest, sum_by-cons (λ y. cond (test y) 1 0) x xs, at_most_one (test x) (cond (test x) 1 0) refl) where
      at_most_one : (b : Bool) (n : ℕ) → n ≡ cond b 1 0 → n ≤ 1
      at_most_one true n e = omega (arith, e)
      at_most_one false n e = omega (arith, e)

branches_few : (plan : Plan) (so_far : List ℕ) → branches_in plan so_far ≤ end_stage plan + 1
unfolding branches_below
branches_few plan so_far = omega (arith, count_by-all (branches_off plan so_far) (range_with_len 0 (end_stage plan + 1)), length-range 0 (end_stage plan + 1))

behind_few : (plan : Plan) (events : List Event) (list : List Entry) (mark : Mark) (next : Entry)
    → (mark_behind plan events list mark next).next ≤ mark.next + (end_stage plan + 1)
unfolding mark_behind
behind_few plan events list mark next = by_test (stays plan (stages_of list) next.stage) where
  by_test : (b : Bool)
      → (cond {A = Mark} b (record { label = mark.label; next = mark.next + branches_in plan (stages_of list) })
      (record { label = mark.label ++ step_digits plan events list next mark.next; next = 0 })).next ≤ mark.next + (end_stage plan + 1)
  by_test true = omega (arith, branches_few plan (stages_of list))
  by_test false = omega arith

from_few : (plan : Plan) → length plan.stages ≤ 64 → (events : List Event) (list : List Entry) (mark : Mark) (later : List Entry)
    → (mark_from plan events list mark later).next ≤ mark.next + 65 * length later
from_few plan stages events list mark [] = omega arith
from_few plan stages events list mark (next ∷ later) =
    let rest = from_few plan stages events (list ++ next ∷ []) (mark_behind plan events list mark next) later in
    let one = behind_few plan events list mark next in
    omega (arith, rest, one, stages)

-- no list has given away more digits than 65 for each entry
pub few_digits : (plan : Plan) → length plan.stages ≤ 64 → (events : List Event) (list : List Entry) → (mark_of plan events list).next ≤ 65 * length list
few_digits plan stages events list = let all = from_few plan stages events [] no_mark list in omega (arith, all)

-- the element at a place
pub got_at : {X : Type 0} (xs : List X) (i : ℕ) (x : X) → i < length xs → x ≡ get_or xs i x → slice_get xs i ≡ Some x
got_at [] i x lt is = absurd (omega (arith, lt))
got_at (y ∷ xs) zero x lt is = ap Some (sym is)
got_at (y ∷ xs) (suc i) x lt is = got_at xs i x (omega (arith, lt)) is

module _ (plan : Plan) (events : List Event) (event : Event) (position : ℕ) (waiter : Waiter) (run : Run) (nfa : Nfa)
    (can : CanTakeRun plan events position waiter run nfa) where
  so_far : List ℕ
  so_far = stages_of waiter.list

  pub waits_are : waits_in nfa run.wait.state ≡ waits_of plan (stages_of waiter.list)
  waits_are =
      (λ i. waits_in (can.automaton i) (can.run_is.waits.state_is i))
      ∙ waits_of_list plan can.fit events waiter.list (waits-may_grow plan events waiter.list waiter.stage can.waiting)

  pub wait_at : slice_get (waits_in nfa run.wait.state) run.wait.number ≡ Some (wait_for plan (stages_of waiter.list) waiter.stage)
  wait_at = ap (λ l. slice_get l run.wait.number) waits_are ∙ can.run_is.waits.number_is

  pub number_within : run.wait.number < length (waits_in nfa run.wait.state)
  number_within = some_within (waits_in nfa run.wait.state) run.wait.number _ wait_at

  pub waits_within : length (waits_in nfa run.wait.state) ≤ 65
  waits_within = omega (arith, ap length waits_are, waits_few plan (stages_of waiter.list), can.fit.few_stages)

  among : AreAmong events waiter.list
  among = waits-among plan events waiter.list waiter.stage can.waiting

  pub digits_few : run.next_digit < 2 ^ 63
  digits_few =
      let short = may_grow-length plan events waiter.list (waits-may_grow plan events waiter.list waiter.stage can.waiting) in
      let few = few_digits plan can.fit.few_stages events waiter.list in
      omega (arith, can.run_is.digit_is, few, short, can.at, can.small)

  first_start : run.start ≡ (first_of waiter.list (record { stage = waiter.stage; position = position })).position
  first_start = can.run_is.begins.start_is
      ∙ ap (λ (l : List Entry). (first_of l (record { stage = waiter.stage; position = position })).position) (sym can.run_is.begins.parts)

  pub sums_room : run.sums.taken < 2 ^ 32 - 1
  sums_room =
      let short = may_grow-length plan events waiter.list (waits-may_grow plan events waiter.list waiter.stage can.waiting) in
      omega (arith, can.run_is.sums.stand.taken, length-mapped (taken_at events) waiter.list, short, can.at, can.small)

  -- what the code has made
  pub take_is : waiter.stage < length plan.stages → (wait : Wait) → slice_get (waits_in nfa run.wait.state) run.wait.number ≡ Some wait → (taken : Take)
      → taken.stage ≡ wait.stage → taken.state ≡ wait.state → taken.pred ≡ Some run.node
      → taken.version ≡ label_after (waits_in nfa run.wait.state) run.wait.number wait run.version run.next_digit run.bump
      → taken.next_digit ≡ digit_after (waits_in nfa run.wait.state) wait run.next_digit
      → taken.start ≡ run.start → taken.start_ts ≡ run.start_ts
      → taken.last ≡ record { stage = wait.stage; position = position; ts = event.ts } → wanted_in taken.sums ≡ wanted_in run.sums
      → ((before : List Taken) (at : ℕ) → StandsFor run.sums plan.types before
      → StandsFor taken.sums plan.types (before ++ record { stage = wait.stage; position = at; event = event } ∷ []))
      → IsTakeOf plan (events ++ event ∷ []) position waiter taken
  take_is known wait found taken stage state pred version digit start time last asked told =
      let both : Some wait ≡ Some (wait_for plan (stages_of waiter.list) waiter.stage) = sym found ∙ wait_at in
      let same : wait ≡ wait_for plan (stages_of waiter.list) waiter.stage = cc in
      let named : wait.stage ≡ waiter.stage = ap (λ (w : Wait). w.stage) same ∙ wait_stage plan (stages_of waiter.list) waiter.stage in
      let of = can.run_is in
      let mark = mark_after plan events event waiter.list among waiter.stage run.wait.number of.waits.number_is in
      let inside : of.begins.first.position < length events = (subst (AreAmong events) of.begins.parts among).0 in
      subst (λ (p : ℕ). IsTakeOf plan (events ++ event ∷ []) p waiter taken) (sym can.at)
      (record {
        stage_is = stage ∙ named;
        state_is = state ∙ ap (λ (w : Wait). w.state) same ∙ sym (number_after_take plan (stages_of waiter.list) waiter.stage known)
            ∙ sym (ap (number_of_list plan) (map-append (λ (e : Entry). e.stage) waiter.list (record { stage = waiter.stage; position = length events } ∷ [])));
        pred_is = pred ∙ ap Some of.node_is ∙ sym (ap (λ l. pred_of l waiter.node) of.begins.parts);
        version_is = version ∙ (λ i. label_after (waits_are i) run.wait.number (same i) (of.version_is i) (of.digit_is i) (of.bump_is i))
            ∙ sym (ap (λ (m : Mark). m.label) mark);
        digit_is = digit ∙ (λ i. digit_after (waits_are i) (same i) (of.digit_is i)) ∙ sym (ap (λ (m : Mark). m.next) mark);
        start_is = start ∙ of.begins.start_is
            ∙ sym (ap (λ l. (first_of l (record { stage = waiter.stage; position = length events })).position) of.begins.parts);
        time_is = time ∙ of.begins.time_is ∙ sym (ap (λ (e : Event). e.ts) (event_at-append events (event ∷ []) of.begins.first.position inside))
            ∙ sym (ap (λ l. (event_at (events ++ event ∷ []) (first_of l (record { stage = waiter.stage; position = length events })).position).ts)
            of.begins.parts);
        ends = ends_taken events event waiter.list waiter.stage wait.stage position taken.last can.at named last;
        sums = sums-taken plan events event waiter.list waiter.stage wait.stage run.sums taken.sums among named asked told of.sums;
      })
