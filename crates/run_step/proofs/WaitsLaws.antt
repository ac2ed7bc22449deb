-- The runs of one list are begun one after the other.
use Rattle.std.proofs.Common.{◌≡◌, refl, sym, ◌∙◌, ap, subst, ℕ, zero, suc, ◌+◌, ◌<◌, ◌≤◌, arith, true, List, [], ◌∷◌, ◌++◌, append_assoc, length, map, take, get_or, Some}
use Rattle.std.specs.Prelude.{slice_get}
use Rattle.std.specs.List.{AllByRecursion as Each}
use Rattle.std.proofs.lemmas.List.{append-nil, map-append, take_more}
use Rattle.cep_event.specs.declared.event.Event.{Event}
use Rattle.cep_plan.specs.declared.plan.Plan.{Plan}
use Rattle.cep_plan.specs.Entry.{stages_of}
use Rattle.cep_plan.specs.Follow.{may_follow}
use Rattle.nfa_compile.specs.declared.nfa.Wait.{Wait}
use Rattle.nfa_compile.specs.Automaton.{wait_for, waits_of}
use Rattle.nfa_compile.proofs.AutomatonLaws.{each_wait}
use Rattle.shared_buffer.specs.Content.{Content as BufferContent}
use Rattle.list_buffer.specs.Held.{Holder, Holds, has, held_by, both_hold, with_hold}
use Rattle.list_buffer.proofs.HeldLaws.{held_by-cons, held_by-append}
use Rattle.list_buffer.proofs.LaterLaws.{HoldsLists-same}
use Rattle.run_step.specs.declared.passing.Grown.{Grown}
use Rattle.run_step.specs.declared.begun.Fresh.{Fresh}
use Rattle.run_step.specs.Content.{Staged}
use Rattle.run_step.specs.Runs.{Waiter, holder_of, IsRunOf, AreRunsOf}
use Rattle.run_step.specs.Beginning.{waiting_for, waiters_for, fresh_run, CanBegin, CanBeginSome, HasBegun, CanBeginWaits, HasBegunWaits}
use Rattle.run_step.proofs.TakeLaws.{got_at, waits_few, count_by-all, length-mapped}

Each-at : {X : Type 0} (P : X → Type 0) (xs : List X) (i : ℕ) (x : X) → Each P xs → slice_get xs i ≡ Some x → P x
Each-at P [] i x h is = absurd cc
Each-at {X = X} P (y ∷ xs) zero x h is = let same : y ≡ x = cc in subst P same h.0
Each-at P (y ∷ xs) (suc i) x h is = Each-at P xs i x h.1 is

AreRunsOf-push : (plan : Plan) (events : List Event) (ws : List Waiter) (runs : List Staged) (w : Waiter) (r : Staged)
    → AreRunsOf plan events ws runs → (r.stage ≡ w.stage) × IsRunOf plan events w r.run → AreRunsOf plan events (ws ++ w ∷ []) (runs ++ r ∷ [])
AreRunsOf-push plan events [] [] w r are is = (is, tt)
AreRunsOf-push plan events [] (s ∷ runs) w r are is = absurd are
AreRunsOf-push plan events (v ∷ ws) [] w r are is = absurd are
AreRunsOf-push plan events (v ∷ ws) (s ∷ runs) w r are is = (are.0, AreRunsOf-push plan events ws runs w r are.1 is)

length-taken : {X : Type 0} (xs : List X) (i : ℕ) → length (take i xs) ≤ i
length-taken [] zero = omega arith
length-taken [] (suc i) = omega arith
length-taken (x ∷ xs) zero = omega arith
length-taken (x ∷ xs) (suc i) = let more = length-taken xs i in omega (arith, more)

pub take-all : {X : Type 0} (xs : List X) (i : ℕ) → length xs ≤ i → take i xs ≡ xs
take-all [] zero le = refl
take-all [] (suc i) le = refl
take-all (x ∷ xs) zero le = absurd (omega (arith, le))
take-all (x ∷ xs) (suc i) le = ap (λ l. x ∷ l) (take-all xs i (omega (arith, le)))

module _ (plan : Plan) (events : List Event) (holder : Holder) (held : Holds) (grown : Grown) (waits : List Wait) (old : BufferContent)
    (can : CanBeginWaits plan events holder held grown waits old) where
  pub waits_short : length waits ≤ 65
  waits_short = omega (arith, ap length can.waits_are, waits_few plan (stages_of holder.list), can.fit.few_stages)

  pub waits_none : (before : List Fresh) → HasBegunWaits plan events holder held [] before before old
  waits_none before = record {
    more = [];
    added = sym (append-nil before);
    runs = tt;
    has = HoldsLists-same plan events held (both_hold held (held_by [])) old (λ list key. omega arith) can.has;
  }

  module _ (number : ℕ) (wait : Wait) (within : number < length waits) (is : wait ≡ get_or waits number wait) (before fresh : List Fresh)
      (buffer : BufferContent) (begun : HasBegunWaits plan events holder held (take number waits) before fresh buffer) where
    abbrev now : Holds
    now = both_hold held (held_by (map holder_of (waiters_for holder (take number waits))))

    found : slice_get waits number ≡ Some wait
    found = got_at waits number wait within is

    few_now : held_by (map holder_of (waiters_for holder (take number waits))) holder.list holder.node ≤ 65
    few_now =
        let all = count_by-all (has holder.list holder.node) (map holder_of (waiters_for holder (take number waits))) in
        let one = length-mapped holder_of (waiters_for holder (take number waits)) in
        let two = length-mapped (λ (w : Wait). waiting_for holder w.stage) (take number waits) in
        let three = length-taken waits number in
        omega (arith, all, one, two, three, within, waits_short)

    pub waits_can : CanBegin plan events holder now grown wait.stage (record { state = grown.state; number = number }) buffer
    waits_can = record {
      has = begun.has;
      is_held = let some = can.is_held in omega (arith, some);
      few = let few = can.few in omega (arith, few, few_now);
      grown_is = can.grown_is;
      key_is = record {
        state_is = can.grown_is.state_is;
        number_is =
            let at = sym (ap (λ l. slice_get l number) can.waits_are) ∙ found in
            at
            ∙ ap Some (Each-at (λ (w : Wait). w ≡ wait_for plan (stages_of holder.list) w.stage) (waits_of plan (stages_of holder.list)) number
            wait (seconds (waits_of plan (stages_of holder.list)) (each_wait plan (stages_of holder.list))) at);
      };
      end = can.end;
      last = can.last;
      top = can.top;
    } where
      seconds : (ws : List Wait)
          → Each (λ w. (may_follow plan (stages_of holder.list) w.stage ≡ true) × (w ≡ wait_for plan (stages_of holder.list) w.stage)) ws
          → Each (λ w. w ≡ wait_for plan (stages_of holder.list) w.stage) ws
      seconds [] h = tt
      seconds (w ∷ ws) h = (h.0.1, seconds ws h.1)

    pub waits_some : CanBeginSome grown wait.stage (record { state = grown.state; number = number }) buffer
    waits_some = record { plan = plan; events = events; holder = holder; held = now; can = waits_can }

    pub waits_one : (one : Fresh) (new : BufferContent) → HasBegun plan events holder now wait.stage one new
        → HasBegunWaits plan events holder held (take (number + 1) waits) before (fresh ++ one ∷ []) new
    waits_one one new has_one =
        let so_far = take number waits in
        let more : take (number + 1) waits ≡ so_far ++ wait ∷ [] = take_more waits number wait within ∙ ap (λ w. so_far ++ w ∷ []) (sym is) in
        subst (λ l. HasBegunWaits plan events holder held l before (fresh ++ one ∷ []) new) (sym more) (record {
          more = begun.more ++ one ∷ [];
          added = ap (λ l. l ++ one ∷ []) begun.added ∙ append_assoc before begun.more (one ∷ []);
          runs =
              subst (λ (ws : List Waiter). AreRunsOf plan events ws (map fresh_run (begun.more ++ one ∷ [])))
              (sym (map-append (λ (w : Wait). waiting_for holder w.stage) so_far (wait ∷ [])))
              (subst (λ (rs : List Staged). AreRunsOf plan events (waiters_for holder so_far ++ waiting_for holder wait.stage ∷ []) rs)
              (sym (map-append fresh_run begun.more (one ∷ [])))
              (AreRunsOf-push plan events (waiters_for holder so_far) (map fresh_run begun.more) (waiting_for holder wait.stage) (fresh_run one)
              begun.runs (has_one.stage_is, has_one.run_is)));
          has =
              HoldsLists-same plan events (with_hold holder now)
              (both_hold held (held_by (map holder_of (waiters_for holder (so_far ++ wait ∷ []))))) new (λ list key.
              let split = ap (λ hs. held_by hs list key) (ap (map holder_of) (map-append (λ (w : Wait). waiting_for holder w.stage) so_far (wait ∷ [])) ∙ map-append holder_of (waiters_for holder so_far) (waiting_for holder wait.stage ∷ [])) ∙ held_by-append (map holder_of (waiters_for holder so_far)) (holder ∷ []) list key in
              let last = held_by-cons holder [] list key in
              omega (arith, split, last)) has_one.has;
        })

    -- a turn of the loop
    pub waits_turn : (named : ℕ) → named ≡ number → (one : Fresh) (new : BufferContent)
        → ((p : Plan) (es : List Event) (h : Holder) (hs : Holds)
        → CanBegin p es h hs grown wait.stage (record { state = grown.state; number = named }) buffer → HasBegun p es h hs wait.stage one new)
        → (after : List Fresh) → after ≡ fresh ++ one ∷ [] → HasBegunWaits plan events holder held (take (number + 1) waits) before after new
    waits_turn named same one new told after added =
        let asked = subst (λ (n : ℕ). CanBegin plan events holder now grown wait.stage (record { state = grown.state; number = n }) buffer) (sym same) waits_can in
        subst (λ (f : List Fresh). HasBegunWaits plan events holder held (take (number + 1) waits) before f new) (sym added)
        (waits_one one new (told plan events holder now asked))
