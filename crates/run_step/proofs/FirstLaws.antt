-- The takes of the empty list.
use Rattle.std.proofs.Common.{◌≡◌, refl, sym, ◌∙◌, ap, subst, ℕ, zero, suc, ◌+◌, ◌-◌, ◌^◌, ◌<◌, ◌≤◌, arith, add-one, Bool, true, false, cond, List, [], ◌∷◌, ◌++◌, append_assoc, length, map, get_or, set, take, drop, Some, None}
use Rattle.std.specs.Prelude.{filter, slice_get}
use Rattle.std.specs.List.{range_with_len, AllByRecursion as Each}
use Rattle.std.proofs.lemmas.List.{append-nil, map-append, take_more}
use Rattle.cep_event.specs.declared.event.Event.{Event}
use Rattle.cep_plan.specs.declared.plan.Plan.{Plan}
use Rattle.cep_plan.specs.declared.item.Taken.{Taken}
use Rattle.cep_plan.specs.Entry.{event_at}
use Rattle.cep_plan.specs.Follow.{may_follow}
use Rattle.cep_plan.specs.Partial.{is_partial, waits}
use Rattle.nfa_compile.specs.declared.nfa.Wait.{Wait}
use Rattle.nfa_compile.specs.Automaton.{wait_for, waits_of}
use Rattle.nfa_compile.proofs.AutomatonLaws.{number_after_take, each_wait}
use Rattle.live_laws.specs.Survival.{takes as takes_now}
use Rattle.live_laws.proofs.WaitLaws.{waits-nil}
use Rattle.cond_sums.specs.Kept.{Summed, wanted_in, StandsFor}
use Rattle.match_labels.specs.Label.{Mark}
use Rattle.run_step.specs.declared.passing.Take.{Take}
use Rattle.run_step.specs.Runs.{Waiter, takes_so_far}
use Rattle.run_step.specs.Taking.{label_after, digit_after, IsTakeOf, AreTakesOf}
use Rattle.run_step.specs.Passing.{is_taking}
use Rattle.run_step.specs.Noting.{first_waiter, CanTakeFirst, CanTakeFirstSome, IsFirstNoted, CanBeginFirst, FirstsNoted}
use Rattle.run_step.proofs.DigitLaws.{mark_after, takes-later}
use Rattle.run_step.proofs.SumsLaws.{sums-taken, ends_taken}
use Rattle.run_step.proofs.TakeLaws.{some_within, waits_few, got_at, count_by-all, length-range, length-mapped}
use Rattle.run_step.proofs.WaitsLaws.{take-all}
use Rattle.run_step.proofs.StepLaws.{filter-of_append}
use Rattle.run_step.proofs.GroupPassLaws.{AreTakesOf-append}

wait_stage : (plan : Plan) (so_far : List ℕ) (stage : ℕ) → (wait_for plan so_far stage).stage ≡ stage
unfolding wait_for
wait_stage plan so_far stage = refl

module _ (plan : Plan) (events : List Event) (position : ℕ) (waiting : List Wait) (number stage bump : ℕ) (empty : Summed)
    (can : CanTakeFirst plan events position waiting number stage bump empty) where
  pub first_within : number < length waiting
  first_within = some_within waiting number _ can.found

  pub first_few : length waiting ≤ 65
  first_few = omega (arith, ap length can.waits_are, waits_few plan [], can.fit.few_stages)

  pub first_bump : bump ≤ position
  first_bump =
      let most = count_by-all (λ (p : ℕ). is_partial plan events (record { stage = stage; position = p } ∷ [])) (range_with_len 0 (length events)) in
      omega (arith, can.bump_is, most, length-range 0 (length events), can.at)

  pub first_is : stage < length plan.stages → (event : Event) (wait : Wait) → slice_get waiting number ≡ Some wait → (taken : Take)
      → taken.stage ≡ wait.stage → taken.state ≡ wait.state → taken.pred ≡ None → taken.version ≡ label_after waiting number wait [] 0 bump
      → taken.next_digit ≡ digit_after waiting wait 0
      → taken.start ≡ position → taken.start_ts ≡ event.ts
      → taken.last ≡ record { stage = wait.stage; position = position; ts = event.ts } → wanted_in taken.sums ≡ wanted_in empty
      → ((before : List Taken) (at : ℕ) → StandsFor empty plan.types before
      → StandsFor taken.sums plan.types (before ++ record { stage = wait.stage; position = at; event = event } ∷ []))
      → IsTakeOf plan (events ++ event ∷ []) position (first_waiter stage) taken
  first_is known event wait got taken named state pred version digit start time last asked told =
      let both : Some wait ≡ Some (wait_for plan [] stage) = sym got ∙ can.found in
      let same : wait ≡ wait_for plan [] stage = cc in
      let name : wait.stage ≡ stage = ap (λ (w : Wait). w.stage) same ∙ wait_stage plan [] stage in
      let mark = mark_after plan events event [] tt stage number (sym (ap (λ l. slice_get l number) can.waits_are) ∙ can.found) in
      subst (λ (p : ℕ). IsTakeOf plan (events ++ event ∷ []) p (first_waiter stage) taken) (sym can.at)
      (record {
        stage_is = named ∙ name;
        state_is = state ∙ ap (λ (w : Wait). w.state) same ∙ sym (number_after_take plan [] stage known);
        pred_is = pred;
        version_is = version ∙ (λ i. label_after (can.waits_are i) number (same i) [] 0 (can.bump_is i)) ∙ sym (ap (λ (m : Mark). m.label) mark);
        digit_is = digit ∙ (λ i. digit_after (can.waits_are i) (same i) 0) ∙ sym (ap (λ (m : Mark). m.next) mark);
        start_is = start ∙ can.at;
        time_is = time ∙ ap (λ (e : Event). e.ts) (sym (event_here events event));
        ends = ends_taken events event [] stage wait.stage position taken.last can.at name last;
        sums = sums-taken plan events event [] stage wait.stage empty taken.sums tt name asked told can.empty_is;
      }) where
        event_here : (es : List Event) (e : Event) → event_at (es ++ e ∷ []) (length es) ≡ e
        event_here [] e = refl
        event_here (x ∷ es) e = event_here es e

  pub first_room : empty.taken < 2 ^ 32 - 1
  first_room = let none = can.empty_is.stand.taken in omega (arith, none)

  -- the start is never closed to a stage that may begin
  pub first_none : (event : Event) → waits plan events [] stage ≡ true → (taken : Bool) → taken ≡ is_taking plan events event (first_waiter stage)
      → taken ≡ false → (takes : List Take) → IsFirstNoted plan events event stage bump takes takes
  first_none event waited taken is not_taken takes =
      let none : is_taking plan events event (first_waiter stage) ≡ false = sym is ∙ not_taken in
      record {
        more = [];
        takes_are = subst (λ (b : Bool). AreTakesOf plan (events ++ event ∷ []) (length events) (cond b (first_waiter stage ∷ []) []) []) (sym none) tt;
        added = sym (append-nil takes);
        bump_is = can.bump_is
            ∙ sym (takes-later plan events event [] tt stage waited ∙ ap (λ b. takes_so_far plan events [] stage + cond b 1 0) none
            ∙ (let plus : takes_so_far plan events [] stage + 0 ≡ takes_so_far plan events [] stage = omega arith in plus));
      }

  pub first_one : (event : Event) → waits plan events [] stage ≡ true → (taken : Bool) → taken ≡ is_taking plan events event (first_waiter stage)
      → taken ≡ true → (before after : List Take) (made : Take) → IsTakeOf plan (events ++ event ∷ []) position (first_waiter stage) made
      → after ≡ before ++ made ∷ []
      → IsFirstNoted plan events event stage (bump + 1) before after
  first_one event waited taken is is_taken before after made made_is added =
      let some : is_taking plan events event (first_waiter stage) ≡ true = sym is ∙ is_taken in
      record {
        more = made ∷ [];
        takes_are = subst (λ (b : Bool). AreTakesOf plan (events ++ event ∷ []) (length events) (cond b (first_waiter stage ∷ []) []) (made ∷ [])) (sym some)
            (subst (λ (p : ℕ). IsTakeOf plan (events ++ event ∷ []) p (first_waiter stage) made) can.at made_is, tt);
        added = added;
        bump_is = ap (λ n. n + 1) can.bump_is
            ∙ sym (takes-later plan events event [] tt stage waited ∙ ap (λ b. takes_so_far plan events [] stage + cond b 1 0) some);
      }

-- each wait of the start waits
module _ (plan : Plan) (events : List Event) (position : ℕ) (waiting : List Wait) (number stage bump : ℕ) (empty : Summed)
    (can : CanTakeFirst plan events position waiting number stage bump empty) where
  pub first_waits : waits plan events [] stage ≡ true
  first_waits =
      let at = sym (ap (λ l. slice_get l number) can.waits_are) ∙ can.found in
      let name = wait_stage plan [] stage in
      waits-nil plan events stage
      ∙ (sym (ap (may_follow plan []) name) ∙ firsts (waits_of plan []) number (wait_for plan [] stage) (each_wait plan []) at) where
        firsts : (ws : List Wait) (i : ℕ) (w : Wait) → Each (λ v. (may_follow plan [] v.stage ≡ true) × (v ≡ wait_for plan [] v.stage)) ws
            → slice_get ws i ≡ Some w → may_follow plan [] w.stage ≡ true
        firsts [] i w h is = absurd cc
        firsts (v ∷ ws) zero w h is = let same : v ≡ w = cc in ap (λ (u : Wait). may_follow plan [] u.stage) (sym same) ∙ h.0.0
        firsts (v ∷ ws) (suc i) w h is = firsts ws i w h.1 is

-- ---- all waits of the start

mixed-length : {X Y : Type 0} (f g : X → Y) (xs : List X) (n : ℕ) → length (map f (take n xs) ++ map g (drop n xs)) ≡ length xs
mixed-length f g [] zero = refl
mixed-length f g [] (suc n) = refl
mixed-length f g (x ∷ xs) zero = length-mapped g (x ∷ xs)
mixed-length f g (x ∷ xs) (suc n) = let more = mixed-length f g xs n in omega (arith, more)

mixed-at : {X Y : Type 0} (f g : X → Y) (xs : List X) (n : ℕ) (x : X) (d : Y) → n < length xs → x ≡ get_or xs n x
    → get_or (map f (take n xs) ++ map g (drop n xs)) n d ≡ g x
mixed-at f g [] n x d lt is = absurd (omega (arith, lt))
mixed-at f g (y ∷ xs) zero x d lt is = ap g (sym is)
mixed-at f g (y ∷ xs) (suc n) x d lt is = mixed-at f g xs n x d (omega (arith, lt)) is

mixed-set : {X Y : Type 0} (f g : X → Y) (xs : List X) (n : ℕ) (x : X) → n < length xs → x ≡ get_or xs n x
    → set (map f (take n xs) ++ map g (drop n xs)) n (f x) ≡ map f (take (suc n) xs) ++ map g (drop (suc n) xs)
mixed-set f g [] n x lt is = absurd (omega (arith, lt))
mixed-set f g (y ∷ xs) zero x lt is = ap (λ z. f z ∷ map g xs) is
mixed-set f g (y ∷ xs) (suc n) x lt is = ap (λ l. f y ∷ l) (mixed-set f g xs n x (omega (arith, lt)) is)

drop-all : {X : Type 0} (xs : List X) (n : ℕ) → length xs ≤ n → drop n xs ≡ []
drop-all [] zero le = refl
drop-all [] (suc n) le = refl
drop-all (x ∷ xs) zero le = absurd (omega (arith, le))
drop-all (x ∷ xs) (suc n) le = drop-all xs n (omega (arith, le))

firsts-append : (plan : Plan) (events : List Event) (event : Event) (ws vs : List Waiter) (takes more : List Take)
    → AreTakesOf plan (events ++ event ∷ []) (length events) (filter (is_taking plan events event) ws) takes
    → AreTakesOf plan (events ++ event ∷ []) (length events) (filter (is_taking plan events event) vs) more
    → AreTakesOf plan (events ++ event ∷ []) (length events) (filter (is_taking plan events event) (ws ++ vs)) (takes ++ more)
firsts-append plan events event ws vs takes more are also =
    subst (λ (l : List Waiter). AreTakesOf plan (events ++ event ∷ []) (length events) l (takes ++ more))
    (sym (filter-of_append (is_taking plan events event) ws vs))
    (AreTakesOf-append plan (events ++ event ∷ []) (length events) (filter (is_taking plan events event) ws)
    (filter (is_taking plan events event) vs) takes more are also)

module _ (plan : Plan) (events : List Event) (event : Event) (position : ℕ) (waiting : List Wait) (bumps : List ℕ) (empty : Summed)
    (can : CanBeginFirst plan events position waiting bumps empty) where
  abbrev later : Wait → ℕ
  later wait = takes_so_far plan (events ++ event ∷ []) [] wait.stage

  abbrev before : Wait → ℕ
  before wait = takes_so_far plan events [] wait.stage

  abbrev waiter_for : Wait → Waiter
  waiter_for wait = first_waiter wait.stage

  pub record FirstsSoFar (number : ℕ) (now : List ℕ) (old new : List Take) : Type 0 where
    pub more : List Take
    pub takes_are : AreTakesOf plan (events ++ event ∷ []) (length events) (filter (is_taking plan events event) (map waiter_for (take number waiting))) more
    pub added : new ≡ old ++ more
    pub bumps_are : now ≡ map later (take number waiting) ++ map before (drop number waiting)

  pub firsts_none : (takes : List Take) → FirstsSoFar 0 bumps takes takes
  firsts_none takes = record { more = []; takes_are = tt; added = sym (append-nil takes); bumps_are = can.bumps_are ∙ ap (map before) (sym can.waits_are) }

  module _ (number : ℕ) (wait : Wait) (now : List ℕ) (old takes : List Take) (so_far : FirstsSoFar number now old takes)
      (within : number < length waiting) (is : wait ≡ get_or waiting number wait) (bump : ℕ) (read : bump ≡ get_or now number bump) where
    first_can : CanTakeFirst plan events position waiting number wait.stage bump empty
    first_can =
        let found = got_at waiting number wait within is in
        let at = sym (ap (λ l. slice_get l number) can.waits_are) ∙ found in
        record {
          fit = can.fit;
          at = can.at;
          waits_are = can.waits_are;
          found = found ∙ ap Some (firsts (waits_of plan []) number wait (each_wait plan []) at);
          bump_is = read ∙ ap (λ l. get_or l number bump) so_far.bumps_are ∙ mixed-at later before waiting number wait bump within is;
          empty_is = can.empty_is;
        } where
          firsts : (ws : List Wait) (i : ℕ) (w : Wait) → Each (λ v. (may_follow plan [] v.stage ≡ true) × (v ≡ wait_for plan [] v.stage)) ws
              → slice_get ws i ≡ Some w → w ≡ wait_for plan [] w.stage
          firsts [] i w h e = absurd cc
          firsts (v ∷ ws) zero w h e = let same : v ≡ w = cc in subst (λ (u : Wait). u ≡ wait_for plan [] u.stage) same h.0.1
          firsts (v ∷ ws) (suc i) w h e = firsts ws i w h.1 e

    pub first_some : CanTakeFirstSome plan position waiting number bump empty
    first_some = record { events = events; stage = wait.stage; can = first_can }

    pub firsts_turn : (taken : Bool) → taken ≡ takes_now plan [] wait.stage event position → (after : ℕ) (new : List Take)
        → ((es : List Event) (stage : ℕ) → CanTakeFirst plan es position waiting number stage bump empty
        → taken ≡ is_taking plan es event (first_waiter stage) → IsFirstNoted plan es event stage after takes new)
        → FirstsSoFar (number + 1) (set now number after) old new
    firsts_turn taken judged after new told =
        let noted = told events wait.stage first_can (judged ∙ ap (takes_now plan [] wait.stage event) can.at) in
        let more : take (number + 1) waiting ≡ take number waiting ++ wait ∷ [] = take_more waiting number wait within ∙ ap (λ w. take number waiting ++ w ∷ []) (sym is) in
        record {
          more = so_far.more ++ noted.more;
          takes_are =
              subst (λ (ws : List Waiter). AreTakesOf plan (events ++ event ∷ []) (length events) (filter (is_taking plan events event) ws)
              (so_far.more ++ noted.more))
              (sym (ap (map waiter_for) more ∙ map-append waiter_for (take number waiting) (wait ∷ [])))
              (firsts-append plan events event (map waiter_for (take number waiting)) (waiter_for wait ∷ []) so_far.more noted.more so_far.takes_are
              noted.takes_are);
          added = noted.added ∙ ap (λ l. l ++ noted.more) so_far.added ∙ append_assoc old so_far.more noted.more;
          bumps_are = (λ i. set (so_far.bumps_are i) number (noted.bump_is i)) ∙ mixed-set later before waiting number wait within is
              ∙ ap (λ k. map later (take k waiting) ++ map before (drop k waiting)) (sym (add-one number));
        }

  pub firsts_sized : (number : ℕ) (now : List ℕ) (old new : List Take) → FirstsSoFar number now old new → length now ≡ length waiting
  firsts_sized number now old new so_far = ap length so_far.bumps_are ∙ mixed-length later before waiting number

  pub firsts_all : (number : ℕ) (now : List ℕ) (old new : List Take) → length waiting ≤ number → FirstsSoFar number now old new
      → FirstsNoted plan events event now old new
  firsts_all number now old new le so_far = record {
    more = so_far.more;
    takes_are =
        subst (λ (ws : List Wait). AreTakesOf plan (events ++ event ∷ []) (length events) (filter (is_taking plan events event) (map waiter_for ws))
        so_far.more) (take-all waiting number le ∙ can.waits_are) so_far.takes_are;
    added = so_far.added;
    bumps_are = so_far.bumps_are ∙ (λ i. map later ((take-all waiting number le ∙ can.waits_are) i) ++ map before (drop-all waiting number le i))
        ∙ append-nil (map later (waits_of plan []));
  }
