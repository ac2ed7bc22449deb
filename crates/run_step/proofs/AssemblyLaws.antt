-- How the parts of a step fit one another.
use Rattle.std.proofs.Common.{◌≡◌, refl, sym, ◌∙◌, ap, subst, ℕ, ◌+◌, ◌≤◌, arith, List, [], ◌∷◌, ◌++◌, length, length-append, map, Some, None}
use Rattle.std.specs.Prelude.{filter}
use Rattle.std.specs.List.{AllByRecursion as Each}
use Rattle.std.proofs.lemmas.List.{get_or_push}
use Rattle.cep_event.specs.declared.event.Event.{Event}
use Rattle.cep_plan.specs.declared.plan.Plan.{Plan}
use Rattle.cep_plan.specs.Entry.{Entry, event_at, no_event, last_entry}
use Rattle.nfa_compile.specs.State.{IsCompilable}
use Rattle.nfa_compile.specs.declared.nfa.Nfa.{Nfa}
use Rattle.nfa_compile.specs.Automaton.{automaton_of}
use Rattle.live_laws.specs.Starts.{AllApart, Scope}
use Rattle.list_runs.specs.Runs.{Admits}
use Rattle.shared_buffer.specs.Slots.{slot_at}
use Rattle.shared_buffer.specs.Content.{Content as BufferContent}
use Rattle.shared_buffer.specs.declared.node.Standing.{Standing}
use Rattle.list_buffer.specs.Held.{Holder, held_by, both_hold}
use Rattle.list_buffer.specs.Listed.{HoldsLists}
use Rattle.list_buffer.proofs.LaterLaws.{HoldsLists-same}
use Rattle.run_step.specs.declared.passing.Grown.{Grown}
use Rattle.run_step.specs.Content.{Content}
use Rattle.run_step.specs.Runs.{Waiter, holder_of, Stands}
use Rattle.run_step.specs.Passing.{first_waiters, goes_on, is_taking}
use Rattle.run_step.specs.Taking.{taking}
use Rattle.run_step.specs.Putting.{CanPutAll, HasPutAll}
use Rattle.run_step.specs.Beginning.{CanBeginAll}
use Rattle.run_step.specs.Stepping.{CanPass}
use Rattle.cep_plan.proofs.LocalLaws.{AreAmong}
use Rattle.live_laws.proofs.LastLaws.{last_or-push}
use Rattle.live_laws.proofs.MemberLaws.{Each-filter}
use Rattle.run_step.proofs.KillLaws.{waiters-wait, among}
use Rattle.run_step.proofs.ReadyLaws.{new-list, can_put_all}

each-listed : (Q : List Entry → Type 0) (holders : List Holder) → Each Q (map (λ holder. holder.list) holders) → Each (λ holder. Q holder.list) holders
each-listed Q [] h = tt
each-listed Q (holder ∷ holders) h = (h.0, each-listed Q holders h.1)

each-taking : (Q : List Entry → Type 0) (position : ℕ) → ((w : Waiter) → Q (taking w position)) → (ws : List Waiter) → Each Q (map (λ w. taking w position) ws)
each-taking Q position all [] = tt
each-taking Q position all (w ∷ ws) = (all w, each-taking Q position all ws)

module _ (plan : Plan) (fit : IsCompilable plan) (nfa : Nfa) (automaton : nfa ≡ automaton_of plan) (events : List Event) (scope : Scope)
    (content : Content) (old : BufferContent) (stands : Stands plan events scope [] content old) where
  -- the runs can pass
  pub pass-can : CanPass plan events stands.waiters nfa content
  pass-can = record {
    fit = fit;
    automaton = automaton;
    counted = stands.counted;
    bumps = stands.bumps;
    empty = stands.empty;
    waiting = waiters-wait plan events scope [] content old stands;
    runs = stands.runs;
  }

  module _ (key : ℕ) (row : Standing) (found : slot_at old.events key ≡ Some row) (at : row.position ≡ length events) where
    -- the event is the one that is ahead
    ahead-is : (ahead : List Event) → length ahead ≤ 1
        → HoldsLists plan (events ++ ahead) (both_hold (held_by (map holder_of stands.waiters)) (held_by [])) old → ahead ≡ row.event ∷ []
    ahead-is [] one has = let below = (has.event_is key row found).0 in absurd (omega (arith, below, at, length-append events []))
    ahead-is (e ∷ []) one has =
        let told = (has.event_is key row found).1 in
        let same : row.event ≡ e = told ∙ ap (event_at (events ++ e ∷ [])) at ∙ get_or_push events e no_event (length events) refl in
        ap (λ x. x ∷ []) (sym same)
    ahead-is (e ∷ f ∷ ahead) one has = absurd (omega (arith, one))

    -- the buffer holds the lists of the runs, over the events with the new one
    pub holds-now : HoldsLists plan (events ++ row.event ∷ []) (held_by (map holder_of stands.waiters)) old
    holds-now =
        let is = ahead-is stands.ahead stands.one_ahead stands.held in
        HoldsLists-same plan (events ++ row.event ∷ []) _ (held_by (map holder_of stands.waiters)) old (λ list k. omega arith)
        (subst (λ (l : List Event). HoldsLists plan (events ++ l) (both_hold (held_by (map holder_of stands.waiters)) (held_by [])) old) is stands.held)

    -- the takes can be put
    pub puts-can : Admits plan events scope row.event
        → CanPutAll plan (events ++ row.event ∷ []) (length events) key
        (filter (is_taking plan events row.event) (first_waiters plan ++ stands.waiters)) (held_by (map holder_of stands.waiters)) old
    puts-can admits = can_put_all plan fit events row.event scope admits stands.waiters stands.stand old holds-now key row found at

    abbrev takers : List Waiter
    takers = filter (is_taking plan events row.event) (first_waiters plan ++ stands.waiters)

    abbrev staying : List Waiter
    staying = filter (goes_on plan events row.event) stands.waiters

    abbrev ends_there : List Entry → Type 0
    ends_there list = (end : Entry) × (last_entry list ≡ Some end) × (end.position + 1 ≡ length (events ++ row.event ∷ []))

    abbrev not_held : List Entry → Type 0
    not_held list = (k : ℕ) → held_by (map holder_of staying) list k ≡ 0

    -- the runs can be begun
    pub begin-can : (admits : Admits plan events scope row.event) (grown : List Grown) (buffer after : BufferContent)
        → (put :
        HasPutAll plan (events ++ row.event ∷ []) (length events)
        (filter (is_taking plan events row.event) (first_waiters plan ++ stands.waiters)) (held_by (map holder_of stands.waiters)) grown buffer)
        → HoldsLists plan (events ++ row.event ∷ [])
        (both_hold (held_by (map holder_of (filter (goes_on plan events row.event) stands.waiters))) (held_by put.holders)) after
        → CanBeginAll plan (events ++ row.event ∷ []) nfa put.holders
        (held_by (map holder_of (filter (goes_on plan events row.event) stands.waiters))) grown after
    begin-can admits grown buffer after put has = record {
      fit = fit;
      automaton = automaton;
      has = has;
      grown_are = put.grown_are;
      ends =
          each-listed ends_there put.holders (subst (Each ends_there) (sym put.lists)
          (each-taking ends_there (length events) (λ w. (
            record { stage = w.stage; position = length events },
            last_or-push None w.list _,
            omega
                (arith, length-append events (row.event ∷ [])),
          )) takers));
      new = each-listed not_held put.holders (subst (Each not_held) (sym put.lists) (each-taking not_held (length events) (λ w k.
          new-list plan fit events row.event scope admits stands.waiters stands.stand w.list w.stage k staying
          (Each-filter (λ (v : Waiter). AreAmong events v.list) (goes_on plan events row.event) stands.waiters
          (among plan events scope [] content old stands))) takers));
      apart = subst AllApart (sym put.lists) (puts-can admits).apart;
    }
