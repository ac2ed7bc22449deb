-- All takes of a step can be put: where runs and buffer stand for the events, each list that takes the next one has its front in the buffer, and is new there.
use Rattle.std.proofs.Common.{◌≡◌, refl, sym, ◌∙◌, ap, subst, ℕ, ◌+◌, ◌<◌, ◌≤◌, arith, Bool, true, false, cond, ◌&&◌, ◌==◌, List, [], ◌∷◌, ◌++◌, append_assoc, length, length-append, map, Some}
use Rattle.std.specs.Prelude.{filter, Contains}
use Rattle.std.specs.List.{AllByRecursion as Each}
use Rattle.std.proofs.lemmas.Bool.{and_from}
use Rattle.cep_event.specs.declared.event.Event.{Event}
use Rattle.cep_plan.specs.declared.plan.Plan.{Plan}
use Rattle.cep_plan.specs.Entry.{Entry, taken_of, entries_in, stages_of}
use Rattle.cep_plan.specs.Follow.{end_stage}
use Rattle.cep_plan.specs.Partial.{waits}
use Rattle.cep_plan.proofs.LocalLaws.{AreAmong}
use Rattle.cep_plan.proofs.FilteredLaws.{Contains-from_filter}
use Rattle.nfa_compile.specs.State.{IsCompilable}
use Rattle.live_laws.specs.Starts.{AllApart, Scope, is_open}
use Rattle.live_laws.proofs.GrowthLaws.{is_partial-grow}
use Rattle.live_laws.proofs.LastLaws.{entries_in-taken_of}
use Rattle.live_laws.proofs.MemberLaws.{Each-filter, AllApart-map, AllApart-filter, Contains-from_map, filter-map, filter-same}
use Rattle.live_laws.proofs.PartialLaws.{stage_awaited}
use Rattle.live_laws.proofs.WaitLaws.{waits-among, waits-follows}
use Rattle.list_runs.specs.Runs.{ListRun, StandsFor, Admits, runs_of}
use Rattle.list_runs.proofs.StepLaws.{grown-once}
use Rattle.shared_buffer.specs.Slots.{slot_at}
use Rattle.shared_buffer.specs.Content.{Content as BufferContent}
use Rattle.shared_buffer.specs.declared.node.Standing.{Standing}
use Rattle.list_buffer.specs.Held.{Holds, is_list, held_by, one_hold}
use Rattle.list_buffer.specs.Listed.{HoldsLists}
use Rattle.list_buffer.proofs.HeldLaws.{is_list-same, held_by-cons, one_hold-here, one_hold-other_list}
use Rattle.list_buffer.proofs.CountLaws.{apart_within}
use Rattle.run_step.specs.Runs.{Waiter, holder_of, seen}
use Rattle.run_step.specs.Taking.{taking}
use Rattle.run_step.specs.Passing.{first_waiters, is_taking}
use Rattle.run_step.specs.Putting.{CanTake, CanPutAll}
use Rattle.run_step.proofs.PuttingLaws.{other_end}
use Rattle.nfa_compile.specs.declared.nfa.Wait.{Wait}
use Rattle.nfa_compile.specs.Automaton.{waits_of}
use Rattle.run_step.proofs.TakeLaws.{length-mapped}
use Rattle.run_step.proofs.StepLaws.{map-of_map, filter-of_append, all_waiters, all-stand, each-waits, each-among, grown-are}

pub AllApart-unmap : {X Y : Type 0} (f : X → Y) (xs : List X) → AllApart (map f xs) → AllApart xs
AllApart-unmap f [] apart = tt
AllApart-unmap {X = X} f (x ∷ xs) apart = (differs xs apart.0, AllApart-unmap f xs apart.1) where
  differs : (ys : List X) → Each (λ y. f x ≡ y → ⊥) (map f ys) → Each (λ y. x ≡ y → ⊥) ys
  differs [] h = tt
  differs (y ∷ ys) h = ((λ e. h.0 (ap f e)), differs ys h.1)

AllApart-behind : {X : Type 0} (xs ys : List X) → AllApart (xs ++ ys) → AllApart ys
AllApart-behind [] ys apart = apart
AllApart-behind (x ∷ xs) ys apart = AllApart-behind xs ys apart.1

Each-behind : {X : Type 0} (P : X → Type 0) (xs ys : List X) → Each P (xs ++ ys) → Each P ys
Each-behind P [] ys h = h
Each-behind P (x ∷ xs) ys h = Each-behind P xs ys h.1

Each-front : {X : Type 0} (P : X → Type 0) (xs ys : List X) → Each P (xs ++ ys) → Each P xs
Each-front P [] ys h = tt
Each-front P (x ∷ xs) ys h = (h.0, Each-front P xs ys h.1)

-- ---- how often a list is held

-- the runs of a list are no more than those of its entries
fewer : (list : List Entry) (key : ℕ) (waiters : List Waiter) → held_by (map holder_of waiters) list key ≤ length (filter (λ w. is_list w.list list) waiters)
fewer list key [] = omega arith
fewer list key (w ∷ waiters) =
    let rest = fewer list key waiters in
    let split = held_by-cons (holder_of w) (map holder_of waiters) list key in
    let one = bounded (is_list w.list list) (w.node == key) (one_hold (holder_of w) list key) refl in
    omega (arith, rest, split, one) where
      bounded : (b k : Bool) (n : ℕ) → n ≡ cond (b && k) 1 0
          → n + length (filter (λ w. is_list w.list list) waiters) ≤ length
          (cond b (w ∷ filter (λ w. is_list w.list list) waiters) (filter (λ w. is_list w.list list) waiters))
      bounded true true n e = omega (arith, e)
      bounded true false n e = omega (arith, e)
      bounded false k n e = omega (arith, e)

-- one of the waiters holds its list
holds-own : (done rest : List Waiter) (w : Waiter) → 0 < held_by (map holder_of (done ++ w ∷ rest)) w.list w.node
holds-own [] rest w = omega (arith, held_by-cons (holder_of w) (map holder_of rest) w.list w.node, one_hold-here (holder_of w) w.list w.node refl refl)
holds-own (d ∷ done) rest w = let more = holds-own done rest w in
    omega (arith, more, held_by-cons (holder_of d) (map holder_of (done ++ w ∷ rest)) w.list w.node)

Each-join : {X : Type 0} (P : X → Type 0) (xs ys : List X) → Each P xs → Each P ys → Each P (xs ++ ys)
Each-join P [] ys h k = k
Each-join P (x ∷ xs) ys h k = (h.0, Each-join P xs ys h.1 k)

module _ (plan : Plan) (fit : IsCompilable plan) (events : List Event) (event : Event) (scope : Scope) (admits : Admits plan events scope event)
    (waiters : List Waiter) (stand : StandsFor plan events scope (runs_of plan [] ++ map (seen events) waiters)) where
  abbrev whole : List Event
  whole = events ++ event ∷ []

  abbrev held : Holds
  held = held_by (map holder_of waiters)

  abbrev takers : List Waiter
  takers = filter (is_taking plan events event) (all_waiters plan events event scope admits waiters stand)

  among : Each (λ w. AreAmong events w.list) waiters
  among = Each-behind (λ (w : Waiter). AreAmong events w.list) (first_waiters plan) waiters (each-among plan events event scope admits waiters stand)

  -- a list has no more runs than there are stages and the end stage
  small-held : (list : List Entry) (key : ℕ) → held list key ≤ 65
  small-held list key =
      let same = λ (w : Waiter). is_list w.list list in
      let of = λ (r : ListRun). is_list (entries_in r.list) list in
      let these = filter same waiters in
      let apart : AllApart (map (seen events) these) =
      subst AllApart (filter-map of (seen events) waiters ∙ ap (map (seen events)) (filter-same (λ w. of (seen events w)) same waiters (same_test waiters)))
      (AllApart-filter of (map (seen events) waiters) (AllApart-behind (runs_of plan []) (map (seen events) waiters) stand.once)) in
      let stages : AllApart (map (λ (r : ListRun). r.stage) (map (seen events) these)) =
      AllApart-map (λ (r : ListRun). r.stage) (map (seen events) these)
      (λ a b p q e. (λ i. record { stage = e i; list = (list_is list a p ∙ sym (list_is list b q)) i })) apart in
      let most = apart_within (end_stage plan + 1) (map (λ (w : Waiter). w.stage) these)
      (subst AllApart (map-of_map (λ (r : ListRun). r.stage) (seen events) these) stages)
      (known these (Each-filter (λ (w : Waiter). waits plan events w.list w.stage ≡ true) same waiters
      (waiting waiters (Each-behind _ (first_waiters plan) waiters (each-waits plan events event scope admits waiters stand))))) in
      let sized = length-mapped (λ (w : Waiter). w.stage) these in
      omega (arith, fewer list key waiters, most, sized, fit.few_stages) where
        same_test : (ws : List Waiter) → Each (λ w. is_list (entries_in (taken_of events w.list)) list ≡ is_list w.list list) ws
        same_test [] = tt
        same_test (w ∷ ws) = (ap (λ l. is_list l list) (entries_in-taken_of events w.list), same_test ws)

        list_is : (list : List Entry) (r : ListRun) → Contains (map (seen events) (filter (λ w. is_list w.list list) waiters)) r → r.list ≡ taken_of events list
        list_is list r p =
            let found = Contains-from_map (seen events) (filter (λ (w : Waiter). is_list w.list list) waiters) r p in
            let passed = (Contains-from_filter (λ (w : Waiter). is_list w.list list) waiters found.0 found.1).1 in
            sym (ap (λ (x : ListRun). x.list) found.2) ∙ ap (taken_of events) (is_list-same found.0.list list passed)

        waiting : (ws : List Waiter) → Each (λ w. (waits plan events w.list w.stage ≡ true) × (is_open scope w.list ≡ true)) ws
            → Each (λ w. waits plan events w.list w.stage ≡ true) ws
        waiting [] h = tt
        waiting (w ∷ ws) h = (h.0.0, waiting ws h.1)

        known : (ws : List Waiter) → Each (λ w. waits plan events w.list w.stage ≡ true) ws
            → Each (λ x. x < end_stage plan + 1) (map (λ (w : Waiter). w.stage) ws)
        known [] h = tt
        known (w ∷ ws) h = (stage_awaited plan (stages_of w.list) w.stage (waits-follows plan events w.list w.stage h.0), known ws h.1)

  -- no list so far ends at the event
  pub new-list : (front : List Entry) (stage key : ℕ) → (ws : List Waiter) → Each (λ w. AreAmong events w.list) ws
      → held_by (map holder_of ws) (front ++ record { stage = stage; position = length events } ∷ []) key ≡ 0
  new-list front stage key [] h = refl
  new-list front stage key (w ∷ ws) h =
      let rest = new-list front stage key ws h.1 in
      let split = held_by-cons (holder_of w) (map holder_of ws) (front ++ record { stage = stage; position = length events } ∷ []) key in
      let none = one_hold-other_list (holder_of w) (front ++ record { stage = stage; position = length events } ∷ []) key (λ e. other_end (length events) w.list front stage h.0 (sym e)) in
      omega (arith, rest, split, none)

  takers-apart : AllApart (map (λ w. taking w (length events)) takers)
  takers-apart =
      AllApart-unmap (taken_of whole) (map (λ w. taking w (length events)) takers)
      (subst AllApart (grown-are plan events event scope admits waiters stand ∙ sym (map-of_map (taken_of whole) (λ w. taking w (length events)) takers))
      (grown-once plan events event scope admits (map (seen events) (all_waiters plan events event scope admits waiters stand))
      (all-stand plan events event scope admits waiters stand)))

  module _ (buffer : BufferContent) (has : HoldsLists plan whole held buffer) (key : ℕ) (row : Standing)
      (found : slot_at buffer.events key ≡ Some row) (at : row.position ≡ length events) where
    can-take : (w : Waiter) → ((first : Entry) (later : List Entry) → w.list ≡ first ∷ later → 0 < held w.list w.node)
        → waits plan events w.list w.stage ≡ true → is_taking plan events event w ≡ true → CanTake plan whole (length events) held buffer w
    can-take w own waiting taking_it =
        let inside : AreAmong events w.list = waits-among plan events w.list w.stage waiting in
        record {
          partial = is_partial-grow plan events event w.list inside w.stage ∙ and_from _ _ waiting taking_it;
          carried = λ first later parts. has.stands w.list w.node (own first later parts);
          below = inside;
          small = λ k. let few = small-held w.list k in omega (arith, few);
          new = λ k. new-list w.list w.stage k waiters among;
        }

    can-firsts : (ws : List Wait)
        → Each (λ (w : Waiter). (waits plan events w.list w.stage ≡ true) × (is_open scope w.list ≡ true))
        (map (λ wait. record { list = []; stage = wait.stage; node = 0 }) ws)
        → Each (CanTake plan whole (length events) held buffer)
        (filter (is_taking plan events event) (map (λ wait. record { list = []; stage = wait.stage; node = 0 }) ws))
    can-firsts [] h = tt
    can-firsts (wait ∷ ws) h = by_test (is_taking plan events event first) refl (can-firsts ws h.1) where
      first : Waiter
      first = record { list = []; stage = wait.stage; node = 0 }

      by_test : (b : Bool) → is_taking plan events event first ≡ b
          → Each (CanTake plan whole (length events) held buffer)
          (filter (is_taking plan events event) (map (λ wait. record { list = []; stage = wait.stage; node = 0 }) ws))
          → Each (CanTake plan whole (length events) held buffer)
          (cond b (first ∷ filter (is_taking plan events event) (map (λ wait. record { list = []; stage = wait.stage; node = 0 }) ws))
          (filter (is_taking plan events event) (map (λ wait. record { list = []; stage = wait.stage; node = 0 }) ws)))
      by_test true is more = (can-take first (λ f l bad. absurd cc) h.0.0 is, more)
      by_test false is more = more

    can-rest : (done rest : List Waiter) → waiters ≡ done ++ rest
        → Each (λ w. (waits plan events w.list w.stage ≡ true) × (is_open scope w.list ≡ true)) rest
        → Each (CanTake plan whole (length events) held buffer) (filter (is_taking plan events event) rest)
    can-rest done [] parts h = tt
    can-rest done (w ∷ rest) parts h =
        by_test (is_taking plan events event w) refl (can-rest (done ++ w ∷ []) rest (parts ∙ sym (append_assoc done (w ∷ []) rest)) h.1) where
          by_test : (b : Bool) → is_taking plan events event w ≡ b
              → Each (CanTake plan whole (length events) held buffer) (filter (is_taking plan events event) rest)
              → Each (CanTake plan whole (length events) held buffer)
              (cond b (w ∷ filter (is_taking plan events event) rest) (filter (is_taking plan events event) rest))
          by_test true is more = (
            can-take w (λ f l same. subst (λ (ws : List Waiter). 0 < held_by (map holder_of ws) w.list w.node) (sym parts) (holds-own done rest w))
                h.0.0 is,
            more,
          )
          by_test false is more = more

    can-all : Each (CanTake plan whole (length events) held buffer) takers
    can-all =
        let both = each-waits plan events event scope admits waiters stand in
        subst (Each (CanTake plan whole (length events) held buffer)) (sym (filter-of_append (is_taking plan events event) (first_waiters plan) waiters))
        (Each-join (CanTake plan whole (length events) held buffer) (filter (is_taking plan events event) (first_waiters plan))
        (filter (is_taking plan events event) waiters)
        (can-firsts (waits_of plan []) (Each-front _ (first_waiters plan) waiters both))
        (can-rest [] waiters refl (Each-behind _ (first_waiters plan) waiters both)))

    -- All that takes the event can be put.
    pub can_put_all : CanPutAll plan whole (length events) key takers held buffer
    can_put_all = record {
      fit = fit;
      has = has;
      row = row;
      found = found;
      at = at;
      top = omega (arith, length-append events (event ∷ []));
      can = can-all;
      apart = takers-apart;
    }
