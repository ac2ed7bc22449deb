-- What the buffer's calls ask and leave in the midst of a step.
use Rattle.std.proofs.Common.{◌≡◌, ◌≢◌, refl, sym, ◌∙◌, ap, subst, ℕ, ◌^◌, ◌≤◌, ◌<◌, arith, List, [], ◌∷◌, ◌++◌, map, Option, Some, None}
use Rattle.std.specs.List.{AllByRecursion as Each}
use Rattle.cep_event.specs.declared.event.Event.{Event}
use Rattle.cep_plan.specs.declared.plan.Plan.{Plan}
use Rattle.cep_plan.specs.Entry.{Entry, taken_of}
use Rattle.run_judge.specs.Fate.{AreSumsOf}
use Rattle.live_laws.proofs.LastLaws.{last_or-push}
use Rattle.match_labels.specs.Label.{label_of}
use Rattle.shared_buffer.specs.Slots.{slot_at}
use Rattle.shared_buffer.specs.Graph.{edge_total}
use Rattle.shared_buffer.specs.Content.{Content as BufferContent}
use Rattle.shared_buffer.specs.Exact.{AddsOneEdge, ReleasesOneHold}
use Rattle.shared_buffer.specs.Put.{CanPut, Puts, IsPlaced}
use Rattle.shared_buffer.specs.Release.{HasHold, KeepsEvents}
use Rattle.shared_buffer.specs.Facts.{IsConsistent}
use Rattle.shared_buffer.specs.declared.node.Node.{Node}
use Rattle.shared_buffer.specs.declared.node.Standing.{Standing}
use Rattle.list_buffer.specs.Held.{Holder, Holds, with_hold, without_hold}
use Rattle.list_buffer.specs.Listed.{LeadsTo, HasEdgeOf, HoldsLists}
use Rattle.list_buffer.proofs.HeldLaws.{one_hold-other_list}
use Rattle.list_buffer.proofs.HoldLaws.{keep_stays, moved_edge, HoldsLists-put, HoldsLists-release}
use Rattle.list_buffer.proofs.ChainLaws.{end_held}
use Rattle.list_buffer.proofs.PutLaws.{has_hold, can_put}
use Rattle.run_step.specs.declared.runs.Run.{Run}
use Rattle.run_step.specs.declared.passing.Take.{Take}
use Rattle.run_step.specs.declared.passing.Grown.{Grown}
use Rattle.run_step.specs.Runs.{Waiter, EndsWith}
use Rattle.run_step.specs.Taking.{taking, first_of, pred_of, IsTakeOf}
use Rattle.run_step.specs.Putting.{CanTake, CanPutAll, HasPut, grown_holder, CanEnd}

-- ---- ends

pub end_has : (plan : Plan) (events : List Event) (holder : Holder) (held : Holds) (run : Run) (buffer : BufferContent)
    → CanEnd plan events holder held run buffer → IsConsistent buffer → HasHold buffer.nodes run.node run.version
end_has plan events holder held run buffer can sound =
    let hold = has_hold plan events held buffer can.has sound holder.list holder.node can.is_held in
    subst (λ (k : ℕ). HasHold buffer.nodes k run.version) (sym can.run_is.node_is)
    (subst (HasHold buffer.nodes holder.node) (sym can.run_is.version_is) hold)

pub end_after : (plan : Plan) (events : List Event) (holder : Holder) (held : Holds) (run : Run) (old new : BufferContent)
    → CanEnd plan events holder held run old → IsConsistent new
    → ReleasesOneHold old.nodes new.nodes run.node run.version → KeepsEvents old.events new.events new.nodes
    → HoldsLists plan events (without_hold holder held) new
end_after plan events holder held run old new can sound releases keeps =
    HoldsLists-release plan events held old new can.has sound holder can.is_held
    (subst (λ (k : ℕ). ReleasesOneHold old.nodes new.nodes k (label_of plan events holder.list)) can.run_is.node_is
    (subst (ReleasesOneHold old.nodes new.nodes run.node) can.run_is.version_is releases)) keeps

-- ---- puts

Each-end : {X : Type 0} (P : X → Type 0) (xs : List X) (x : X) → Each P (xs ++ x ∷ []) → P x
Each-end P [] x h = h.0
Each-end P (y ∷ xs) x h = Each-end P xs x h.1

-- a list before the position is none that ends there
pub other_end : (position : ℕ) (list front : List Entry) (stage : ℕ) → Each (λ (e : Entry). e.position < position) list
    → front ++ record { stage = stage; position = position } ∷ [] ≢ list
other_end position list front stage below same =
    let last : position < position = Each-end (λ (e : Entry). e.position < position) front _ (subst (Each (λ (e : Entry). e.position < position)) (sym same) below) in
    omega (arith, last)

leads_of : (plan : Plan) (events : List Event) (nodes : List (Option Node)) (front : List Entry) (node : ℕ)
    → ((first : Entry) (later : List Entry) → front ≡ first ∷ later → HasEdgeOf plan events nodes front node)
    → LeadsTo plan nodes front (pred_of front node)
leads_of plan events nodes [] node carried = refl
leads_of plan events nodes (first ∷ later) node carried = (node, refl, (carried first later refl).edge_is.node)

carried_of : (plan : Plan) (events : List Event) (nodes : List (Option Node)) (front : List Entry) (node : ℕ)
    → ((first : Entry) (later : List Entry) → front ≡ first ∷ later → HasEdgeOf plan events nodes front node)
    → (key : ℕ) → pred_of front node ≡ Some key → HasEdgeOf plan events nodes front key
carried_of plan events nodes [] node carried key is = absurd cc
carried_of plan events nodes (first ∷ later) node carried key is =
    let same : node ≡ key = cc in
    subst (HasEdgeOf plan events nodes (first ∷ later)) same (carried first later refl)

rest_of : List Entry → Entry → List Entry
rest_of [] end = []
rest_of (_ ∷ later) end = later ++ end ∷ []

first_parts : (front : List Entry) (end : Entry) → front ++ end ∷ [] ≡ first_of front end ∷ rest_of front end
unfolding rest_of
first_parts [] end = refl
first_parts (first ∷ later) end = refl

module _ (plan : Plan) (events : List Event) (position event : ℕ) (waiter : Waiter) (waiters : List Waiter) (held : Holds) (buffer : BufferContent)
    (can : CanPutAll plan events position event (waiter ∷ waiters) held buffer) (sound : IsConsistent buffer) (taken : Take)
    (is : IsTakeOf plan events position waiter taken) where
  abbrev end : Entry
  end = record { stage = waiter.stage; position = position }

  abbrev list : List Entry
  list = taking waiter position

  here : CanTake plan events position held buffer waiter
  here = can.can.0

  pub put_has : edge_total buffer.nodes ≤ 2 ^ 63 → CanPut buffer taken.stage taken.state event taken.pred taken.version
  put_has few =
      let asks = can_put plan events held buffer can.has sound few can.fit list waiter.list end here.partial refl (last_or-push None waiter.list end) can.top
      taken.state event is.state_is can.row can.found can.at (pred_of waiter.list waiter.node)
      (leads_of plan events buffer.nodes waiter.list waiter.node here.carried)
      (carried_of plan events buffer.nodes waiter.list waiter.node here.carried) here.small here.new in
      subst (λ (s : ℕ). CanPut buffer s taken.state event taken.pred taken.version) (sym is.stage_is)
      (subst (λ (p : Option ℕ). CanPut buffer waiter.stage taken.state event p taken.version) (sym is.pred_is)
      (subst (CanPut buffer waiter.stage taken.state event (pred_of waiter.list waiter.node)) (sym is.version_is) asks))

  module _ (new : BufferContent) (sound_new : IsConsistent new) (key : ℕ) (puts : Puts buffer new taken.stage taken.state event taken.pred taken.version key)
      (adds : AddsOneEdge buffer.nodes new.nodes key (record { pred = taken.pred; label = taken.version; count = 1 })) where
    abbrev holder : Holder
    holder = grown_holder waiter position key

    -- the list had no edge
    put_fresh : HasEdgeOf plan events buffer.nodes list key → ⊥
    put_fresh at =
        let ends : Some at.edge_is.node.end ≡ Some end = sym at.edge_is.node.last ∙ last_or-push None waiter.list end in
        let same : at.edge_is.node.end ≡ end = cc in
        let p : at.edge_is.node.end.position ≡ position = ap (λ (e : Entry). e.position) same in
        let some = end_held plan events held buffer can.has sound list key at.edge at.edge_is (omega (arith, p, can.top)) in
        omega (arith, some, here.new key)

    put_adds : AddsOneEdge buffer.nodes new.nodes key (record { pred = pred_of waiter.list waiter.node; label = label_of plan events list; count = 1 })
    put_adds = subst (λ (p : Option ℕ). AddsOneEdge buffer.nodes new.nodes key (record { pred = p; label = label_of plan events list; count = 1 })) is.pred_is
        (subst (λ (l : List ℕ). AddsOneEdge buffer.nodes new.nodes key (record { pred = taken.pred; label = l; count = 1 })) is.version_is adds)

    put_placed : IsPlaced new.nodes key waiter.stage taken.state event position
    put_placed =
        let p = puts.placed in
        let rows : Some puts.row ≡ Some can.row = sym puts.found ∙ can.found in
        let row : puts.row ≡ can.row = cc in
        record {
          node = p.node;
          found = p.found;
          stage_is = p.stage_is ∙ is.stage_is;
          state_is = p.state_is;
          event_is = p.event_is;
          position_is = p.position_is ∙ ap (λ (r : Standing). r.position) row ∙ can.at;
        }

    put_holds : HoldsLists plan events (with_hold holder held) new
    put_holds =
        HoldsLists-put plan events held buffer new can.has sound_new puts.events holder (pred_of waiter.list waiter.node) waiter.list end refl
        here.partial (last_or-push None waiter.list end)
        (leads_of plan events buffer.nodes waiter.list waiter.node here.carried) taken.state event is.state_is put_placed put_adds put_fresh

    put_can : (w : Waiter) → CanTake plan events position held buffer w → (list ≡ taking w position → ⊥)
        → CanTake plan events position (with_hold holder held) new w
    put_can w old other = record {
      partial = old.partial;
      carried = λ first later parts.
          let at = old.carried first later parts in
          moved_edge plan events held buffer new can.has sound_new (keep_stays buffer.nodes new.nodes adds.node_stays) w.list w.node at.edge
          at.edge_is (adds.stays w.node at.edge at.edge_is.stands);
      below = old.below;
      small = λ k. let none = one_hold-other_list holder w.list k (other_end position w.list waiter.list waiter.stage old.below) in
          let few = old.small k in omega (arith, none, few);
      new = λ k. let none = one_hold-other_list holder (taking w position) k other in let before = old.new k in omega (arith, none, before);
    }

    put_each : (ws : List Waiter) → Each (CanTake plan events position held buffer) ws → Each (λ l. list ≡ l → ⊥) (map (λ w. taking w position) ws)
        → Each (CanTake plan events position (with_hold holder held) new) ws
    put_each [] old apart = tt
    put_each (w ∷ ws) old apart = (put_can w old.0 apart.0, put_each ws old.1 apart.1)

    put_all : CanPutAll plan events position event waiters (with_hold holder held) new
    put_all = record {
      fit = can.fit;
      has = put_holds;
      row = can.row;
      found = ap (λ e. slot_at e event) puts.events ∙ can.found;
      at = can.at;
      top = can.top;
      can = put_each waiters can.can.1 can.apart.0;
      apart = can.apart.1;
    }

    pub put_after : (grown : Grown) → grown.node ≡ key → grown.state ≡ taken.state → grown.version ≡ taken.version
        → grown.next_digit ≡ taken.next_digit → grown.start ≡ taken.start → grown.start_ts ≡ taken.start_ts → grown.last ≡ taken.last
        → grown.sums ≡ taken.sums
        → HasPut plan events position event waiter waiters held grown new
    put_after grown node state version digit start time ends sums = record {
      can = subst (λ (k : ℕ). CanPutAll plan events position event waiters (with_hold (grown_holder waiter position k) held) new) (sym node) put_all;
      grown_is = record {
        state_is = state ∙ is.state_is;
        node_is = refl;
        version_is = version ∙ is.version_is;
        digit_is = digit ∙ is.digit_is;
        first = first_of waiter.list end;
        later = rest_of waiter.list end;
        parts = first_parts waiter.list end;
        start_is = start ∙ is.start_is;
        time_is = time ∙ is.time_is;
        ends = subst (EndsWith events list) (sym ends) is.ends;
        sums = subst (AreSumsOf plan (taken_of events list)) (sym sums) is.sums;
      };
    }
