-- The stand is the fronts of the runs' lists, the reach their positions, and an edge has as many holds as its list has runs.
use Rattle.std.proofs.Common.{◌≡◌, refl, sym, ◌∙◌, ap, subst, ℕ, ◌<◌, ◌==◌, arith, Bool, true, false, cond, List, [], ◌∷◌, ◌++◌}
use Rattle.std.proofs.Common.{append_assoc, length, map, ◌⊎◌, inl, inr, zero-add}
use Rattle.std.specs.Prelude.{Contains, filter, count_by}
use Rattle.std.specs.List.{list_any, starts_with, range_with_len, AllByRecursion as Each}
use Rattle.std.proofs.lemmas.Bool.{and_parts, and_from, eqb-true, eq-eqb}
use Rattle.std.proofs.lemmas.List.Sums.{sum_by-cons}
use Rattle.std.proofs.lemmas.List.Sorted.{sum_by-IsPermutation}
use Rattle.std.proofs.lemmas.List.Elements.{Contains-append_left, Contains-append_right}
use Rattle.cep_event.specs.declared.event.Event.{Event}
use Rattle.cep_plan.specs.declared.plan.Plan.{Plan}
use Rattle.cep_plan.specs.Entry.{Entry}
use Rattle.cep_plan.specs.Partial.{has_entries}
use Rattle.cep_plan.specs.History.{lists_within}
use Rattle.cep_plan.specs.Tick.{Tick, events_of}
use Rattle.cep_plan.specs.Living.{living, stand, reach, same_entry}
use Rattle.cep_plan.proofs.FilteredLaws.{Contains-filter, Contains-from_filter}
use Rattle.cep_plan.proofs.RisingLaws.{IsRisingList, rising_lists-sorted, rising_lists-rising, Contains-rising_lists}
use Rattle.cep_plan.proofs.SortedLaws.{Contains-cases, Contains-first, Contains-next, Each-contains}
use Rattle.live_laws.specs.Starts.{AllApart}
use Rattle.live_laws.proofs.LiveLaws.{list_any-contains}
use Rattle.live_laws.proofs.PartialLaws.{is_partial-may_grow, is_partial-rising, may_grow-among}
use Rattle.live_laws.proofs.MemberLaws.{Contains-none, Contains-map, Contains-from_map, Contains-range, Each-from_contains, AllApart-filter, AllApart-range}
use Rattle.shared_buffer.specs.Content.{Content as BufferContent}
use Rattle.shared_buffer.specs.declared.edges.Edge.{Edge}
use Rattle.list_buffer.specs.Held.{Holder, Holds, held_by, one_hold, is_list}
use Rattle.list_buffer.specs.Listed.{IsEdgeOf}
use Rattle.list_buffer.specs.Reach.{IsFrontHeld, IsReached}
use Rattle.list_buffer.specs.Fronts.{AreFronts, AreReached, Place, place_of, is_place, EndsThere, ArePlaces}
use Rattle.list_buffer.proofs.HeldLaws.{cases_list, is_list-refl, is_list-other, held_by-cons, one_hold-here, one_hold-other_list}
use Rattle.list_buffer.proofs.HoldLaws.{cases_holder}
use Rattle.list_buffer.proofs.SizeLaws.{IsHolding, one_edge_of}
use Rattle.run_step.specs.Runs.{Waiter, holder_of}
use Rattle.sharing_laws.specs.Sizes.{Waiting, waiting_for, waiting_after, runs_after, once_each, places}
use Rattle.sharing_laws.proofs.MemberLaws.{list_any-passing, parts_of, rest_of, starts_with-front, rising_front, sorted_apart, once_each-from}
use Rattle.sharing_laws.proofs.MemberLaws.{once_each-has, once_each-apart}
use Rattle.sharing_laws.proofs.LivingLaws.{AreWaiting, lives_for, waiter_lives, living_waiter, waiters_are}

-- ---- holders

-- a holder's list is held at its node
pub held_has : (holders : List Holder) (holder : Holder) → Contains holders holder → 0 < held_by holders holder.list holder.node
held_has [] holder q = absurd (Contains-none holder q)
held_has (one ∷ holders) holder q =
    elim (Contains-cases one holder holders q) [
      | inl same ↦
          omega (
            arith,
            held_by-cons one holders holder.list holder.node,
            one_hold-here one holder.list holder.node (ap (λ (h : Holder). h.list) same) (ap (λ (h : Holder). h.node) same),
          )
      | inr later ↦ omega (arith, held_by-cons one holders holder.list holder.node, held_has holders holder later)
    ]

-- one of the holders has this list, at this node
record HasHolder (holders : List Holder) (list : List Entry) (node : ℕ) : Type 0 where
  holder : Holder
  listed : Contains holders holder
  list_is : holder.list ≡ list

held_some : (holders : List Holder) (list : List Entry) (node : ℕ) → 0 < held_by holders list node → HasHolder holders list node
held_some [] list node some = absurd (omega (arith, some))
held_some (one ∷ holders) list node some = by_first (cases_holder one list node) (held_some holders list node) where
  by_first : ((one.list ≡ list) × (one.node ≡ node)) ⊎ (one_hold one list node ≡ 0) → (0 < held_by holders list node → HasHolder holders list node)
      → HasHolder (one ∷ holders) list node
  by_first (inl same) later = record { holder = one; listed = Contains-first one holders; list_is = same.0 }
  by_first (inr none) later =
      let found = later (omega (arith, some, none, held_by-cons one holders list node)) in
      record { holder = found.holder; listed = Contains-next one found.holder holders found.listed; list_is = found.list_is }

-- ---- entries that rise

rising_entries : (stages from to : ℕ) (list : List Entry) → IsRisingList stages from to list → has_entries list ≡ true
rising_entries stages from to [] rises = absurd rises
rising_entries stages from to (first ∷ later) rises = refl

front_rises : (stages from to : ℕ) (list rest : List Entry) → has_entries list ≡ true → IsRisingList stages from to (list ++ rest)
    → IsRisingList stages from to list
front_rises stages from to [] rest entries rises = let no : false ≡ true = entries in absurd cc
front_rises stages from to (first ∷ later) rest entries rises = rising_front stages from to (first ∷ later) rest rises

module _ {plan : Plan} {ticks : List Tick} {waiters : List Waiter} (are : AreWaiting plan ticks waiters) where
  abbrev events : List Event
  events = events_of ticks

  abbrev held : Holds
  held = held_by (map holder_of waiters)

  -- a front of a living list is a front of one that is held
  front_held : (list rest : List Entry) → Contains (living plan ticks) (list ++ rest) → IsFrontHeld held list
  front_held list rest q =
      let lives = lives_for plan ticks (list ++ rest) q in
      let its = living_waiter plan ticks waiters are (list ++ rest) q lives.stage lives.waits_for in
      let holds = held_has (map holder_of waiters) (holder_of its.waiter) (Contains-map holder_of waiters its.waiter its.listed) in
      record { later = rest; node = its.waiter.node; is_held = subst (λ (l : List Entry). 0 < held l its.waiter.node) its.list_is holds }

  -- a list that is held is living
  held_lives : (list : List Entry) (node : ℕ) → 0 < held list node → Contains (living plan ticks) list
  held_lives list node holds =
      let found = held_some (map holder_of waiters) list node holds in
      of_waiter found (Contains-from_map holder_of waiters found.holder found.listed) where
        of_waiter : (found : HasHolder (map holder_of waiters) list node) → ((w : Waiter) × Contains waiters w × (holder_of w ≡ found.holder))
            → Contains (living plan ticks) list
        of_waiter found (w, listed, is) =
            subst (Contains (living plan ticks)) (ap (λ (h : Holder). h.list) is ∙ found.list_is) (waiter_lives plan ticks waiters are w listed).lives

  abbrev in_some : List Entry → Bool
  in_some list = list_any (λ whole. starts_with same_entry whole list) (living plan ticks)

  -- The stand is the fronts of lists that are held.
  pub stand_is : AreFronts held (stand plan ticks)
  unfolding stand
  stand_is =
      record { some = entries; sound = of_living; complete = listed; once = AllApart-filter in_some (lists_within plan (length events)) all_apart } where
        all_apart : AllApart (lists_within plan (length events))
        all_apart = sorted_apart (lists_within plan (length events)) (rising_lists-sorted (length plan.stages) 0 (length events))

        rises : (list : List Entry) → Contains (lists_within plan (length events)) list → IsRisingList (length plan.stages) 0 (length events) list
        rises list q =
            Each-contains (IsRisingList (length plan.stages) 0 (length events)) (lists_within plan (length events)) list
            (rising_lists-rising (length plan.stages) 0 (length events) (length events) (zero-add (length events))) q

        entries : (list : List Entry) → Contains (filter in_some (lists_within plan (length events))) list → has_entries list ≡ true
        entries list q =
            rising_entries (length plan.stages) 0 (length events) list (rises list (Contains-from_filter in_some (lists_within plan (length events)) list q).0)

        of_living : (list : List Entry) → Contains (filter in_some (lists_within plan (length events))) list → IsFrontHeld held list
        of_living list q =
            let found =
            list_any-passing (λ whole. starts_with same_entry whole list) (living plan ticks)
            (Contains-from_filter in_some (lists_within plan (length events)) list q).1 in
            let more = rest_of found.one list found.passes in
            front_held list more.rest (subst (Contains (living plan ticks)) more.parts found.listed)

        listed : (list : List Entry) → has_entries list ≡ true → IsFrontHeld held list → Contains (filter in_some (lists_within plan (length events))) list
        listed list some_entries is =
            let whole = list ++ is.later in
            let lives = held_lives whole is.node is.is_held in
            let partial = (lives_for plan ticks whole lives).partial in
            let rising = front_rises (length plan.stages) 0 (length events) list is.later some_entries (is_partial-rising plan events whole partial) in
            Contains-filter in_some (lists_within plan (length events)) list
            (Contains-rising_lists (length plan.stages) 0 (length events) (length events) (zero-add (length events)) list rising)
            (list_any-contains (λ w. starts_with same_entry w list) (living plan ticks) whole lives (starts_with-front list is.later))

  abbrev has_position : ℕ → Bool
  has_position position = list_any (list_any (λ (e : Entry). e.position == position)) (living plan ticks)

  -- The reach is the positions in lists that are held.
  pub reach_is : AreReached held (reach plan ticks)
  unfolding reach
  reach_is =
      record {
        sound = of_living;
        complete = listed;
        once = AllApart-filter has_position (range_with_len 0 (length events))
            (AllApart-range 0 (length events));
      } where
        of_living : (position : ℕ) → Contains (filter has_position (range_with_len 0 (length events))) position → IsReached held position
        of_living position q =
            let found =
            list_any-passing (list_any (λ (e : Entry). e.position == position)) (living plan ticks)
            (Contains-from_filter has_position (range_with_len 0 (length events)) position q).1 in
            let entry = list_any-passing (λ (e : Entry). e.position == position) found.one found.passes in
            let at = parts_of found.one entry.one entry.listed in
            let whole : found.one ≡ (at.front ++ entry.one ∷ []) ++ at.back = at.parts ∙ sym (append_assoc at.front (entry.one ∷ []) at.back) in
            record {
              front = at.front;
              entry = entry.one;
              at = eqb-true entry.one.position position entry.passes;
              held_front = front_held (at.front ++ entry.one ∷ []) at.back (subst (Contains (living plan ticks)) whole found.listed);
            }

        listed : (position : ℕ) → IsReached held position → Contains (filter has_position (range_with_len 0 (length events))) position
        listed position is =
            let whole = (is.front ++ is.entry ∷ []) ++ is.held_front.later in
            let lives = held_lives whole is.held_front.node is.held_front.is_held in
            let among = may_grow-among plan events whole (is_partial-may_grow plan events whole (lives_for plan ticks whole lives).partial) in
            let entry : Contains whole is.entry =
            Contains-append_left (is.front ++ is.entry ∷ []) is.held_front.later is.entry
            (Contains-append_right is.front (is.entry ∷ []) is.entry (Contains-first is.entry [])) in
            let below = Each-contains (λ (e : Entry). e.position < length events) whole is.entry among entry in
            Contains-filter has_position (range_with_len 0 (length events)) position
            (Contains-range 0 (length events) position (omega arith) (omega (arith, below, is.at)))
            (list_any-contains (list_any (λ (e : Entry). e.position == position)) (living plan ticks) whole lives
            (list_any-contains (λ (e : Entry). e.position == position) whole is.entry entry (eq-eqb is.entry.position position is.at)))

  -- ---- runs of one list

  module _ {buffer : BufferContent} (holding : IsHolding plan events held buffer) {list : List Entry} {key : ℕ} {edge : Edge}
      (of : IsEdgeOf plan events buffer.nodes list key edge) where
    -- the list's waiters are at its node
    node_of : (w : Waiter) → Contains waiters w → w.list ≡ list → w.node ≡ key
    node_of w q same =
        let at = holding.has.stands w.list w.node (held_has (map holder_of waiters) (holder_of w) (Contains-map holder_of waiters w q)) in
        let here : IsEdgeOf plan events buffer.nodes list w.node at.edge =
        subst (λ (l : List Entry). IsEdgeOf plan events buffer.nodes l w.node at.edge) same at.edge_is in
        (one_edge_of holding list w.node key at.edge edge here of).0

    holds_count : (ws : List Waiter) → Each (λ (w : Waiter). w.list ≡ list → w.node ≡ key) ws
        → held_by (map holder_of ws) list key ≡ count_by (λ (x : Waiting). is_list x.list list) (map (λ (w : Waiter). waiting_for w.list w.stage) ws)
    holds_count [] at = refl
    holds_count (w ∷ ws) at =
        omega (
          arith,
          held_by-cons (holder_of w) (map holder_of ws) list key,
          holds_count ws at.1,
          sum_by-cons (λ (x : Waiting). cond (is_list x.list list) 1 0) (waiting_for w.list w.stage) (map (λ (v : Waiter). waiting_for v.list v.stage) ws),
          here,
        ) where
          here : one_hold (holder_of w) list key ≡ cond (is_list w.list list) 1 0
          here =
              elim (cases_list w.list list) [
                | inl same ↦
                    one_hold-here (holder_of w) list key same (at.0 same)
                    ∙ sym (ap {B = ℕ} (λ b. cond b 1 0) (ap (is_list w.list) (sym same) ∙ is_list-refl w.list))
                | inr other ↦ one_hold-other_list (holder_of w) list key other ∙ sym (ap {B = ℕ} (λ b. cond b 1 0) (is_list-other w.list list other))
              ]

    -- The list's edge has as many holds as the list has runs.
    pub holds_are_runs : held list key ≡ runs_after plan ticks list
    holds_are_runs =
        holds_count waiters (Each-from_contains (λ (w : Waiter). w.list ≡ list → w.node ≡ key) waiters node_of)
        ∙ sym (sum_by-IsPermutation (λ (x : Waiting). cond (is_list x.list list) 1 0) (map (λ (w : Waiter). waiting_for w.list w.stage) waiters)
        (waiting_after plan ticks)
        (waiters_are plan ticks waiters are))

-- ---- places

same_place : (a b : Place) → is_place a b ≡ true → a ≡ b
same_place a b h =
    let both = and_parts (a.state == b.state) (a.position == b.position) h in
    λ i. record { state = eqb-true a.state b.state both.0 i; position = eqb-true a.position b.position both.1 i }

itself : (a : Place) → is_place a a ≡ true
itself a = and_from (a.state == a.state) (a.position == a.position) (eq-eqb a.state a.state refl) (eq-eqb a.position a.position refl)

-- The places are those where lists of the stand end, each once.
pub places_are : (plan : Plan) (ticks : List Tick) → ArePlaces plan (stand plan ticks) (places plan ticks)
places_are plan ticks = record { sound = ends_there; complete = listed; once = once_each-apart is_place same_place itself ends } where
  ends : List Place
  ends = map (place_of plan) (stand plan ticks)

  ends_there : (place : Place) → Contains (once_each is_place ends) place → EndsThere plan (stand plan ticks) place
  ends_there place q = of_list (Contains-from_map (place_of plan) (stand plan ticks) place (once_each-from is_place same_place itself ends place q)) where
    of_list : ((list : List Entry) × Contains (stand plan ticks) list × (place_of plan list ≡ place)) → EndsThere plan (stand plan ticks) place
    of_list (list, q, is) = record { list = list; listed = q; place_is = is }

  listed : (list : List Entry) → Contains (stand plan ticks) list → Contains (once_each is_place ends) (place_of plan list)
  listed list q = once_each-has is_place same_place itself ends (place_of plan list) (Contains-map (place_of plan) (stand plan ticks) list q)
