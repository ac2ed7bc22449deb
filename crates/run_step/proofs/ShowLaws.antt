-- Lists that are full are shown, one after the other.
use Rattle.std.proofs.Common.{◌≡◌, refl, sym, ◌∙◌, ap, subst, ℕ, suc, ◌+◌, ◌-◌, arith, Bool, true, false, cond, List, [], ◌∷◌, ◌++◌, append_assoc, length, map, Some, None}
use Rattle.std.specs.Prelude.{filter, flat_map, option_map}
use Rattle.std.specs.List.{last_or, AllByRecursion as Each}
use Rattle.std.specs.Option.{option_map_or}
use Rattle.std.proofs.lemmas.List.{append-nil, map-append}
use Rattle.std.proofs.lemmas.Grind.{flat_map-append}
use Rattle.cep_event.specs.declared.event.Event.{Event}
use Rattle.cep_plan.specs.declared.plan.Plan.{Plan}
use Rattle.cep_plan.specs.Entry.{Entry, last_entry, stages_of}
use Rattle.cep_plan.specs.Follow.{is_full}
use Rattle.cep_plan.specs.Partial.{is_partial}
use Rattle.live_laws.specs.Starts.{AllApart}
use Rattle.live_laws.proofs.LastLaws.{last_or-map}
use Rattle.live_laws.proofs.PartialLaws.{is_partial-may_grow}
use Rattle.nfa_compile.specs.State.{IsCompilable, states_before, number_of_state, count_in, state_of, state_behind}
use Rattle.nfa_compile.specs.declared.nfa.Nfa.{Nfa}
use Rattle.nfa_compile.specs.declared.nfa.Took.{Took}
use Rattle.nfa_compile.specs.declared.nfa.Wait.{Wait}
use Rattle.nfa_compile.specs.Automaton.{number_of_list, automaton_of, waits_of, waits_in}
use Rattle.nfa_compile.proofs.ReachLaws.{IsInOrder, order-grows}
use Rattle.nfa_compile.proofs.WaitLaws.{some_event}
use Rattle.nfa_compile.proofs.AutomatonLaws.{took_of_last, full_in_automaton, waits_of_list}
use Rattle.match_labels.specs.Label.{label_of}
use Rattle.shared_buffer.specs.Content.{Content as BufferContent}
use Rattle.shared_buffer.specs.Exact.{ReleasesOneHold}
use Rattle.shared_buffer.specs.Release.{HasHold, KeepsEvents}
use Rattle.shared_buffer.specs.Facts.{IsConsistent}
use Rattle.list_buffer.specs.Held.{Holder, Holds, held_by, both_hold, one_hold, without_hold}
use Rattle.list_buffer.specs.Listed.{HoldsLists}
use Rattle.list_buffer.proofs.HeldLaws.{held_by-cons, held_by-append, one_hold-here, one_hold-other_list}
use Rattle.list_buffer.proofs.HoldLaws.{HoldsLists-release}
use Rattle.list_buffer.proofs.LaterLaws.{HoldsLists-same}
use Rattle.list_buffer.proofs.PutLaws.{has_hold}
use Rattle.run_step.specs.declared.runs.Tip.{Tip}
use Rattle.run_step.specs.declared.passing.Grown.{Grown}
use Rattle.run_step.specs.declared.begun.Fresh.{Fresh}
use Rattle.run_step.specs.Content.{Staged}
use Rattle.run_step.specs.Runs.{Waiter, holder_of, AreRunsOf, AreTipsOf}
use Rattle.run_step.specs.Taking.{AreGrownOf}
use Rattle.run_step.specs.Beginning.{waiters_for, waiters_of, full_ones, fresh_run, full_in, CanBeginWaits, CanBeginWaitsSome, HasBegunWaits, CanShow, CanShowSome, HasShown, CanBeginAll, HasBegunAll, BeginningSome}
use Rattle.run_step.proofs.StepLaws.{filter-of_append}
use Rattle.run_step.proofs.StandLaws.{AreRunsOf-append}

-- ---- whether a list is full

number_with_last : (plan : Plan) (so_far : List ℕ) (last : ℕ) → last_or None so_far ≡ Some last
    → number_of_list plan so_far ≡ states_before plan last + count_in plan so_far last
unfolding state_of
number_with_last plan so_far last is = ap (λ o. option_map_or (λ state. number_of_state plan state.stage state.count) (state_behind plan so_far o) 0) is

full_of_last : (plan : Plan) → IsCompilable plan → (so_far : List ℕ) → IsInOrder plan so_far → (last : ℕ) → last_or None so_far ≡ Some last
    → full_in (automaton_of plan) (number_of_list plan so_far) ≡ is_full plan so_far
full_of_last plan fit so_far order last is =
    let some = some_event plan fit so_far order last is in
    let number : number_of_list plan so_far ≡ suc (states_before plan last + (count_in plan so_far last - 1)) = let at = number_with_last plan so_far last is in omega (arith, at, some) in
    ap (full_in (automaton_of plan)) number
    ∙ ap (λ o. option_map_or (λ (took : Took). took.full) o false) (took_of_last plan fit so_far order last is)
    ∙ full_in_automaton plan fit so_far order last is

-- the state of a partial match knows whether it is full
pub full_of_list : (plan : Plan) → IsCompilable plan → (events : List Event) (list : List Entry) (end : Entry) → is_partial plan events list ≡ true
    → last_entry list ≡ Some end
    → full_in (automaton_of plan) (number_of_list plan (stages_of list)) ≡ is_full plan (stages_of list)
full_of_list plan fit events list end partial last =
    full_of_last plan fit (stages_of list) (order-grows plan events list (is_partial-may_grow plan events list partial)) end.stage
    (last_or-map (λ (e : Entry). e.stage) None list ∙ ap (option_map (λ (e : Entry). e.stage)) last)

-- ---- one list

module _ (plan : Plan) (events : List Event) (holder : Holder) (held : Holds) (grown : Grown) (buffer : BufferContent)
    (can : CanShow plan events holder held grown buffer) where
  pub show_has : IsConsistent buffer → HasHold buffer.nodes grown.node grown.version
  show_has sound =
      let hold = has_hold plan events held buffer can.has sound holder.list holder.node can.is_held in
      subst (λ (k : ℕ). HasHold buffer.nodes k grown.version) (sym can.grown_is.node_is)
      (subst (HasHold buffer.nodes holder.node) (sym can.grown_is.version_is) hold)

  pub show_full : (full : Bool) → full ≡ true → (before after : List Tip) (tip : Tip) → after ≡ before ++ tip ∷ [] → tip.node ≡ grown.node
      → tip.version ≡ grown.version → HasShown plan events holder held full before after buffer
  show_full full is before after tip added node version = record {
    more = tip ∷ [];
    added = added;
    shown =
        subst (λ (b : Bool). AreTipsOf plan events (cond b (holder ∷ []) []) (tip ∷ [])) (sym is)
        (record { node_is = node ∙ can.grown_is.node_is; version_is = version ∙ can.grown_is.version_is }, tt);
    has = subst (λ (b : Bool). HoldsLists plan events (cond b held (without_hold holder held)) buffer) (sym is) can.has;
  }

  pub show_not : (full : Bool) → full ≡ false → (tips : List Tip) (new : BufferContent) → IsConsistent new
      → ReleasesOneHold buffer.nodes new.nodes grown.node grown.version → KeepsEvents buffer.events new.events new.nodes
      → HasShown plan events holder held full tips tips new
  show_not full is tips new sound releases keeps = record {
    more = [];
    added = sym (append-nil tips);
    shown = subst (λ (b : Bool). AreTipsOf plan events (cond b (holder ∷ []) []) []) (sym is) tt;
    has = subst (λ (b : Bool). HoldsLists plan events (cond b held (without_hold holder held)) new) (sym is)
        (HoldsLists-release plan events held buffer new can.has sound holder can.is_held
        (subst (λ (k : ℕ). ReleasesOneHold buffer.nodes new.nodes k (label_of plan events holder.list)) can.grown_is.node_is
        (subst (ReleasesOneHold buffer.nodes new.nodes grown.node) can.grown_is.version_is releases)) keeps);
  }

-- ---- lists that differ don't hold one another

waiters-other : (holder : Holder) (waits : List Wait) (list : List Entry) (key : ℕ) → (holder.list ≡ list → ⊥)
    → held_by (map holder_of (waiters_for holder waits)) list key ≡ 0
waiters-other holder [] list key other = omega arith
waiters-other holder (wait ∷ waits) list key other =
    let rest = waiters-other holder waits list key other in
    omega (arith, rest, held_by-cons holder (map holder_of (waiters_for holder waits)) list key, one_hold-other_list holder list key other)

all-other : (plan : Plan) (holders : List Holder) (list : List Entry) (key : ℕ) → Each (λ (h : Holder). h.list ≡ list → ⊥) holders
    → held_by (map holder_of (flat_map (waiters_of plan) holders)) list key ≡ 0
all-other plan [] list key other = omega arith
all-other plan (h ∷ holders) list key other =
    let rest = all-other plan holders list key other.1 in
    let one = waiters-other h (waits_of plan (stages_of h.list)) list key other.0 in
    let split = ap (λ hs. held_by hs list key) (map-append holder_of (waiters_of plan h) (flat_map (waiters_of plan) holders)) ∙ held_by-append (map holder_of (waiters_of plan h)) (map holder_of (flat_map (waiters_of plan) holders)) list key in
    omega (arith, rest, one, split)

these-other : (holders : List Holder) (list : List Entry) (key : ℕ) → Each (λ (h : Holder). h.list ≡ list → ⊥) holders → held_by holders list key ≡ 0
these-other [] list key other = omega arith
these-other (h ∷ holders) list key other =
    let rest = these-other holders list key other.1 in
    omega (arith, rest, held_by-cons h holders list key, one_hold-other_list h list key other.0)

full-other : (test : Holder → Bool) (holders : List Holder) (list : List Entry) (key : ℕ) → Each (λ (h : Holder). h.list ≡ list → ⊥) holders
    → held_by (filter test holders) list key ≡ 0
full-other test [] list key other = omega arith
full-other test (h ∷ holders) list key other = by_test (test h) (full-other test holders list key other.1) where
  by_test : (b : Bool) → held_by (filter test holders) list key ≡ 0 → held_by (cond b (h ∷ filter test holders) (filter test holders)) list key ≡ 0
  by_test true rest = omega (arith, rest, held_by-cons h (filter test holders) list key, one_hold-other_list h list key other.0)
  by_test false rest = rest

before-apart : (done rest : List Holder) (holder : Holder) → AllApart (map (λ (h : Holder). h.list) (done ++ holder ∷ rest))
    → Each (λ (h : Holder). h.list ≡ holder.list → ⊥) done
before-apart [] rest holder apart = tt
before-apart (d ∷ done) rest holder apart = (one done apart.0, before-apart done rest holder apart.1) where
  one : (xs : List Holder) → Each (λ l. d.list ≡ l → ⊥) (map (λ (h : Holder). h.list) (xs ++ holder ∷ rest)) → d.list ≡ holder.list → ⊥
  one [] h = h.0
  one (x ∷ xs) h = one xs h.1

behind-apart : (done rest : List Holder) (holder : Holder) → AllApart (map (λ (h : Holder). h.list) (done ++ holder ∷ rest))
    → Each (λ (h : Holder). h.list ≡ holder.list → ⊥) rest
behind-apart [] rest holder apart = turned rest apart.0 where
  turned : (xs : List Holder) → Each (λ l. holder.list ≡ l → ⊥) (map (λ (h : Holder). h.list) xs) → Each (λ (h : Holder). h.list ≡ holder.list → ⊥) xs
  turned [] h = tt
  turned (x ∷ xs) h = ((λ e. h.0 (sym e)), turned xs h.1)
behind-apart (d ∷ done) rest holder apart = behind-apart done rest holder apart.1

Each-there : {X : Type 0} (P : X → Type 0) (xs ys : List X) (x : X) → Each P (xs ++ x ∷ ys) → P x
Each-there P [] ys x h = h.0
Each-there P (y ∷ xs) ys x h = Each-there P xs ys x h.1

AreTipsOf-append : (plan : Plan) (events : List Event) (hs gs : List Holder) (tips more : List Tip) → AreTipsOf plan events hs tips
    → AreTipsOf plan events gs more → AreTipsOf plan events (hs ++ gs) (tips ++ more)
AreTipsOf-append plan events [] gs [] more are also = also
AreTipsOf-append plan events [] gs (t ∷ tips) more are also = absurd are
AreTipsOf-append plan events (h ∷ hs) gs [] more are also = absurd are
AreTipsOf-append plan events (h ∷ hs) gs (t ∷ tips) more are also = (are.0, AreTipsOf-append plan events hs gs tips more are.1 also)

by_full : (b : Bool) (holder : Holder) (x : Holds) (list : List Entry) (key h w f m rest goal : ℕ)
    → x list key ≡ ((h + (w + f)) + (one_hold holder list key + rest)) + m
    → goal ≡ (h + ((w + m) + (f + held_by (cond b (holder ∷ []) []) list key))) + rest → (cond {A = Holds} b x (without_hold holder x)) list key ≡ goal
by_full true holder x list key h w f m rest goal is sums = let one = held_by-cons holder [] list key in omega (arith, is, sums, one)
by_full false holder x list key h w f m rest goal is sums = omega (arith, is, sums)

-- ---- one list after the other

module _ (plan : Plan) (events : List Event) (nfa : Nfa) (holders : List Holder) (held : Holds) (all : List Grown) (first : BufferContent)
    (can : CanBeginAll plan events nfa holders held all first) where
  pub begins_none : BeginningSome plan events holders held [] [] all first
  begins_none = record {
    done = [];
    rest = holders;
    parts = refl;
    runs = tt;
    shown = tt;
    has = HoldsLists-same plan events (both_hold held (held_by holders)) _ first (λ list key. omega arith) can.has;
    grown_are = can.grown_are;
  }

  -- what is held once the first list that is left has its runs
  abbrev then_held : List Holder → List Holder → Holder → List Wait → Holds
  then_held done rest holder waits =
      both_hold (both_hold (both_hold held (both_hold (held_by (map holder_of (flat_map (waiters_of plan) done))) (held_by (full_ones plan done))))
      (held_by (holder ∷ rest))) (held_by (map holder_of (waiters_for holder waits)))

  -- the first list that is left gets its runs, and is then shown or not
  pub record BeginsOne (fresh : List Fresh) (tips : List Tip) (one : Grown) (grown : List Grown) (buffer : BufferContent) : Type 0 where
    pub holder : Holder
    pub now : Holds
    pub waits_can : CanBeginWaits plan events holder now one (waits_in nfa one.state) buffer
    pub then : Holds
    pub show_can : (after : List Fresh) (new : BufferContent) → HasBegunWaits plan events holder now (waits_in nfa one.state) fresh after new
        → CanShow plan events holder then one new
    pub done : (after : List Fresh) (new : BufferContent) → HasBegunWaits plan events holder now (waits_in nfa one.state) fresh after new
        → (shown : List Tip) (last : BufferContent) → HasShown plan events holder then (full_in nfa one.state) tips shown last
        → BeginningSome plan events holders held after shown grown last

  begins_first : (fresh : List Fresh) (tips : List Tip) (one : Grown) (grown : List Grown) (buffer : BufferContent) (done rest : List Holder)
      → holders ≡ done ++ rest
      → AreRunsOf plan events (flat_map (waiters_of plan) done) (map fresh_run fresh) → AreTipsOf plan events (full_ones plan done) tips
      → HoldsLists plan events (both_hold (both_hold held
      (both_hold (held_by (map holder_of (flat_map (waiters_of plan) done))) (held_by (full_ones plan done)))) (held_by rest)) buffer
      → AreGrownOf plan events rest (one ∷ grown) → BeginsOne fresh tips one grown buffer
  begins_first fresh tips one grown buffer done [] parts runs shown so_far are = absurd are
  begins_first fresh tips one grown buffer done (holder ∷ rest) parts runs shown so_far are =
      let key = holder.node in
      let list = holder.list in
      let these = full_ones plan done in
      let old_waiters = map holder_of (flat_map (waiters_of plan) done) in
      let here = held_by-cons holder rest list key in
      let mine = one_hold-here holder list key refl refl in
      let apart = subst (λ (hs : List Holder). AllApart (map (λ (h : Holder). h.list) hs)) parts can.apart in
      let none = Each-there (λ (h : Holder). (k : ℕ) → held h.list k ≡ 0) done rest holder (subst (Each (λ (h : Holder). (k : ℕ) → held h.list k ≡ 0)) parts can.new) key in
      let ends = Each-there (λ (h : Holder). (end : Entry) × (last_entry h.list ≡ Some end) × (end.position + 1 ≡ length events)) done rest holder (subst (Each (λ (h : Holder). (end : Entry) × (last_entry h.list ≡ Some end) × (end.position + 1 ≡ length events))) parts can.ends) in
      let partial = (so_far.stands list key (omega (arith, here, mine))).edge_is.partial in
      let waits_are : waits_in nfa one.state ≡ waits_of plan (stages_of list) =
      (λ i. waits_in (can.automaton i) (are.0.state_is i)) ∙ waits_of_list plan can.fit events list (is_partial-may_grow plan events list partial) in
      let is : full_in nfa one.state ≡ is_full plan (stages_of list) =
      (λ i. full_in (can.automaton i) (are.0.state_is i)) ∙ full_of_list plan can.fit events list ends.0 partial ends.1 in
      let now : Holds = both_hold (both_hold held (both_hold (held_by old_waiters) (held_by these))) (held_by (holder ∷ rest)) in
      record {
        holder = holder;
        now = now;
        waits_can = record {
          fit = can.fit;
          has = so_far;
          is_held = omega (arith, here, mine);
          few =
              omega (
                arith,
                here,
                mine,
                none,
                all-other plan done list key (before-apart done rest holder apart),
                full-other
                    (λ (h : Holder). is_full plan (stages_of h.list)) done list key (before-apart done rest holder apart),
                these-other rest list key
                    (behind-apart done rest holder apart),
              );
          grown_is = are.0;
          waits_are = waits_are;
          end = ends.0;
          last = ends.1;
          top = ends.2;
        };
        then = both_hold now (held_by (map holder_of (waiters_for holder (waits_in nfa one.state))));
        show_can = λ after new begun. record {
          has = begun.has;
          is_held = omega (arith, here, mine);
          grown_is = are.0;
        };
        done =
            λ after new begun tips_after last has_shown. begins_after fresh tips one grown done rest holder parts runs shown are.1 waits_are is after
            new begun tips_after last has_shown;
      } where
        begins_after : (fresh : List Fresh) (tips : List Tip) (one : Grown) (grown : List Grown) (done rest : List Holder) (holder : Holder)
            → holders ≡ done ++ holder ∷ rest
            → AreRunsOf plan events (flat_map (waiters_of plan) done) (map fresh_run fresh) → AreTipsOf plan events (full_ones plan done) tips
            → AreGrownOf plan events rest grown
            → waits_in nfa one.state ≡ waits_of plan (stages_of holder.list) → full_in nfa one.state ≡ is_full plan (stages_of holder.list)
            → (after : List Fresh) (new : BufferContent)
            → HasBegunWaits plan events holder (both_hold
            (both_hold held (both_hold (held_by (map holder_of (flat_map (waiters_of plan) done))) (held_by (full_ones plan done))))
            (held_by (holder ∷ rest))) (waits_in nfa one.state) fresh after new
            → (shown : List Tip) (last : BufferContent)
            → HasShown plan events holder (both_hold (both_hold
            (both_hold held (both_hold (held_by (map holder_of (flat_map (waiters_of plan) done))) (held_by (full_ones plan done))))
            (held_by (holder ∷ rest))) (held_by (map holder_of (waiters_for holder (waits_in nfa one.state))))) (full_in nfa one.state) tips
            shown last
            → BeginningSome plan events holders held after shown grown last
        begins_after fresh tips one grown done rest holder parts runs shown are waits_are is after new begun tips_after last has_shown =
            let more = waiters_of plan holder in
            let waiters : flat_map (waiters_of plan) (done ++ holder ∷ []) ≡ flat_map (waiters_of plan) done ++ more = flat_map-append (waiters_of plan) done (holder ∷ []) ∙ ap (λ l. flat_map (waiters_of plan) done ++ l) (append-nil more) in
            let test = λ (h : Holder). is_full plan (stages_of h.list) in
            let fulls : full_ones plan (done ++ holder ∷ []) ≡ full_ones plan done ++ cond (test holder) (holder ∷ []) [] = filter-of_append test done (holder ∷ []) in
            let begun_runs = subst (λ (ws : List Wait). AreRunsOf plan events (waiters_for holder ws) (map fresh_run begun.more)) waits_are begun.runs in
            let shown_tips = subst (λ (b : Bool). AreTipsOf plan events (cond b (holder ∷ []) []) has_shown.more) is has_shown.shown in
            record {
              done = done ++ holder ∷ [];
              rest = rest;
              parts = parts ∙ sym (append_assoc done (holder ∷ []) rest);
              runs =
                  subst (λ (rs : List Staged). AreRunsOf plan events (flat_map (waiters_of plan) (done ++ holder ∷ [])) rs)
                  (sym (ap (map fresh_run) begun.added ∙ map-append fresh_run fresh begun.more))
                  (subst (λ (ws : List Waiter). AreRunsOf plan events ws (map fresh_run fresh ++ map fresh_run begun.more)) (sym waiters)
                  (AreRunsOf-append plan events (flat_map (waiters_of plan) done) more (map fresh_run fresh) (map fresh_run begun.more) runs begun_runs));
              shown = subst (AreTipsOf plan events (full_ones plan (done ++ holder ∷ []))) (sym has_shown.added)
                  (subst (λ (hs : List Holder). AreTipsOf plan events hs (tips ++ has_shown.more)) (sym fulls)
                  (AreTipsOf-append plan events (full_ones plan done) (cond (test holder) (holder ∷ []) []) tips has_shown.more shown shown_tips));
              has =
                  HoldsLists-same plan events _ (both_hold
                  (both_hold held (both_hold (held_by (map holder_of (flat_map (waiters_of plan) (done ++ holder ∷ []))))
                  (held_by (full_ones plan (done ++ holder ∷ []))))) (held_by rest)) last
                  (λ list key.
                  let new_waiters = ap (λ (ws : List Waiter). held_by (map holder_of ws) list key) waiters ∙ ap (λ hs. held_by hs list key) (map-append holder_of (flat_map (waiters_of plan) done) more) ∙ held_by-append (map holder_of (flat_map (waiters_of plan) done)) (map holder_of more) list key in
                  let new_full = ap (λ (hs : List Holder). held_by hs list key) fulls ∙ held_by-append (full_ones plan done) (cond (test holder) (holder ∷ []) []) list key in
                  let same = ap (λ (ws : List Wait). held_by (map holder_of (waiters_for holder ws)) list key) waits_are in
                  let before = held_by-cons holder rest list key in
                  by_full (test holder) holder (then_held done rest holder (waits_in nfa one.state)) list key (held list key)
                  (held_by (map holder_of (flat_map (waiters_of plan) done)) list key) (held_by (full_ones plan done) list key)
                  (held_by (map holder_of more) list key) (held_by rest list key) _ (omega (arith, before, same)) (omega (arith, new_waiters, new_full)))
                  (subst (λ (b : Bool). HoldsLists plan events
                  (cond b (then_held done rest holder (waits_in nfa one.state))
                  (without_hold holder (then_held done rest holder (waits_in nfa one.state)))) last) is has_shown.has);
              grown_are = are;
            }

  pub begins_one : (fresh : List Fresh) (tips : List Tip) (one : Grown) (grown : List Grown) (buffer : BufferContent)
      → BeginningSome plan events holders held fresh tips (one ∷ grown) buffer → BeginsOne fresh tips one grown buffer
  begins_one fresh tips one grown buffer so_far =
      begins_first fresh tips one grown buffer so_far.done so_far.rest so_far.parts so_far.runs so_far.shown so_far.has so_far.grown_are

  none_left : (rest : List Holder) → AreGrownOf plan events rest [] → rest ≡ []
  none_left [] are = refl
  none_left (h ∷ rest) are = absurd are

  pub begins_all : (fresh : List Fresh) (tips : List Tip) (grown : List Grown) (buffer : BufferContent) → length grown ≡ 0
      → BeginningSome plan events holders held fresh tips grown buffer → HasBegunAll plan events holders held fresh tips buffer
  begins_all fresh tips [] buffer none so_far =
      let nothing = none_left so_far.rest so_far.grown_are in
      let whole : so_far.done ≡ holders = sym (append-nil so_far.done) ∙ sym (ap (λ l. so_far.done ++ l) nothing) ∙ sym so_far.parts in
      record {
        runs = subst (λ (hs : List Holder). AreRunsOf plan events (flat_map (waiters_of plan) hs) (map fresh_run fresh)) whole so_far.runs;
        shown = subst (λ (hs : List Holder). AreTipsOf plan events (full_ones plan hs) tips) whole so_far.shown;
        has =
            subst (λ (hs : List Holder). HoldsLists plan events
            (both_hold held (both_hold (held_by (map holder_of (flat_map (waiters_of plan) hs))) (held_by (full_ones plan hs)))) buffer) whole
            (HoldsLists-same plan events _ (both_hold held
            (both_hold (held_by (map holder_of (flat_map (waiters_of plan) so_far.done))) (held_by (full_ones plan so_far.done)))) buffer
            (λ list key. let gone = ap (λ (hs : List Holder). held_by hs list key) nothing in omega (arith, gone)) so_far.has);
      }
  begins_all fresh tips (one ∷ grown) buffer none so_far = absurd (omega (arith, none))

  -- in the code: the first of what is left
  pub waits_asked : (fresh : List Fresh) (tips : List Tip) (one : Grown) (grown left : List Grown) (buffer : BufferContent) → left ≡ one ∷ grown
      → BeginningSome plan events holders held fresh tips left buffer
      → (waits : List Wait) → waits ≡ waits_in nfa one.state → CanBeginWaitsSome one waits buffer
  waits_asked fresh tips one grown left buffer is so_far waits are =
      let first = begins_one fresh tips one grown buffer (subst (λ (l : List Grown). BeginningSome plan events holders held fresh tips l buffer) is so_far) in
      record {
        plan = plan;
        events = events;
        holder = first.holder;
        held = first.now;
        can =
            subst (λ (ws : List Wait). CanBeginWaits plan events first.holder first.now one ws buffer) (sym are) first.waits_can;
      }

  -- what the calls of a turn leave
  pub record Turned (fresh : List Fresh) (tips : List Tip) (one : Grown) (grown : List Grown) (waits : List Wait) (after : List Fresh) (buffer new : BufferContent) : Type 0 where
    pub show_asked : CanShowSome one new
    pub ends : (full : Bool) → full ≡ full_in nfa one.state → (shown : List Tip) (last : BufferContent)
        → ((p : Plan) (es : List Event) (h : Holder) (hs : Holds) → CanShow p es h hs one new → HasShown p es h hs full tips shown last)
        → BeginningSome plan events holders held after shown grown last

  pub turned : (fresh : List Fresh) (tips : List Tip) (one : Grown) (grown left : List Grown) (buffer : BufferContent) → left ≡ one ∷ grown
      → BeginningSome plan events holders held fresh tips left buffer
      → (waits : List Wait) → waits ≡ waits_in nfa one.state → (after : List Fresh) (new : BufferContent)
      → ((p : Plan) (es : List Event) (h : Holder) (hs : Holds) → CanBeginWaits p es h hs one waits buffer
      → HasBegunWaits p es h hs waits fresh after new) → Turned fresh tips one grown waits after buffer new
  turned fresh tips one grown left buffer is so_far waits are after new told =
      let first = begins_one fresh tips one grown buffer (subst (λ (l : List Grown). BeginningSome plan events holders held fresh tips l buffer) is so_far) in
      let asked = subst (λ (ws : List Wait). CanBeginWaits plan events first.holder first.now one ws buffer) (sym are) first.waits_can in
      let begun = subst (λ (ws : List Wait). HasBegunWaits plan events first.holder first.now ws fresh after new) are (told plan events first.holder first.now asked) in
      let can_show = first.show_can after new begun in
      record {
        show_asked = record { plan = plan; events = events; holder = first.holder; held = first.then; can = can_show };
        ends =
            λ full same shown last tells. first.done after new begun shown last
            (subst (λ (b : Bool). HasShown plan events first.holder first.then b tips shown last) same
            (tells plan events first.holder first.then can_show));
      }
