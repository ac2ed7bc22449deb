-- The events know their nodes, through each change of a buffer.
use Rattle.std.proofs.Common.{◌≡◌, ◌≢◌, ℕ, ◌<◌, ◌⊎◌, Bool, true, false, cond, List, [], ◌∷◌, ◌++◌, length, Option, Some, None, refl, ap, sym, ◌∙◌, subst, inl, inr, arith}
use Rattle.std.specs.Prelude.{not, ◌&&◌}
use Rattle.std.proofs.lemmas.Bool.{cases_eq, cases_Bool, eq-eqb, ne_eqb}
use Rattle.std.proofs.lemmas.List.{length_push}
use Rattle.shared_buffer.specs.Slots.{slot_at, Changes}
use Rattle.shared_buffer.specs.Members.{find_member, without_member, HasDistinctStates}
use Rattle.shared_buffer.specs.Entries.{kept, unpinned, entry_with, entry_without}
use Rattle.shared_buffer.specs.Graph.{IsIndexed, IsListed}
use Rattle.shared_buffer.specs.declared.members.Member.{Member}
use Rattle.shared_buffer.specs.declared.node.Node.{Node}
use Rattle.shared_buffer.specs.declared.node.Entry.{Entry}
use Rattle.shared_buffer.proofs.SlotLaws.{changed_cases, unchanged_at, same_value, vacant_differs}

-- the first member is of the state, or is skipped
pub member_here : (m : Member) (ms : List Member) (state : ℕ) → m.state ≡ state → find_member (m ∷ ms) state ≡ Some m.node
member_here m ms state same = rw (eq-eqb m.state state same) refl

pub member_later : (m : Member) (ms : List Member) (state : ℕ) → (m.state ≡ state → ⊥) → find_member (m ∷ ms) state ≡ find_member ms state
member_later m ms state differs = rw (ne_eqb m.state state differs) refl

without_here : (m : Member) (ms : List Member) (state : ℕ) → m.state ≡ state → without_member (m ∷ ms) state ≡ ms
without_here m ms state same = rw (eq-eqb m.state state same) refl

without_later :
    (m : Member) (ms : List Member) (state : ℕ) → (m.state ≡ state → ⊥)
    → without_member (m ∷ ms) state ≡ m ∷ without_member ms state
without_later m ms state differs = rw (ne_eqb m.state state differs) refl

pub find_member-push_other :
    (ms : List Member) (m : Member) (state : ℕ) → (m.state ≡ state → ⊥) → find_member (ms ++ m ∷ []) state ≡ find_member ms state
find_member-push_other [] m state differs = member_later m [] state differs
find_member-push_other (x ∷ ms) m state differs =
    elim (cases_eq x.state state) [
      | inl same ↦ member_here x (ms ++ m ∷ []) state same ∙ sym (member_here x ms state same)
      | inr other ↦
          member_later x (ms ++ m ∷ []) state other
          ∙ find_member-push_other ms m state differs
          ∙ sym (member_later x ms state other)
    ]

pub find_member-push_same : (ms : List Member) (m : Member) → find_member ms m.state ≡ None → find_member (ms ++ m ∷ []) m.state ≡ Some m.node
find_member-push_same [] m absent = member_here m [] m.state refl
find_member-push_same (x ∷ ms) m absent =
    elim (cases_eq x.state m.state) [
      | inl same ↦ let e : Some x.node ≡ None = sym (member_here x ms m.state same) ∙ absent in absurd (cc)
      | inr other ↦
          member_later x (ms ++ m ∷ []) m.state other
          ∙ find_member-push_same ms m (sym (member_later x ms m.state other) ∙ absent)
    ]

pub distinct_push : (ms : List Member) (m : Member) → HasDistinctStates ms → find_member ms m.state ≡ None → HasDistinctStates (ms ++ m ∷ [])
distinct_push [] m distinct absent = (refl, tt)
distinct_push (x ∷ ms) m distinct absent =
    elim (cases_eq x.state m.state) [
      | inl same ↦ let e : Some x.node ≡ None = sym (member_here x ms m.state same) ∙ absent in absurd (cc)
      | inr other ↦ (
        find_member-push_other ms m x.state (λ e. other (sym e)) ∙ distinct.0,
        distinct_push ms m distinct.1 (sym (member_later x ms m.state other) ∙ absent),
      )
    ]

beside_one :
    (x : Member) (ms ns : List Member) (other : ℕ) → find_member ns other ≡ find_member ms other
    → find_member (x ∷ ns) other ≡ find_member (x ∷ ms) other
beside_one x ms ns other same =
    elim (cases_eq x.state other) [
      | inl here ↦ member_here x ns other here ∙ sym (member_here x ms other here)
      | inr later ↦ member_later x ns other later ∙ same ∙ sym (member_later x ms other later)
    ]

pub find_member-without_other :
    (ms : List Member) (state other : ℕ) → (other ≡ state → ⊥) → find_member (without_member ms state) other ≡ find_member ms other
find_member-without_other [] state other differs = refl
find_member-without_other (x ∷ ms) state other differs =
    elim (cases_eq x.state state) [
      | inl same ↦
          ap (λ xs. find_member xs other) (without_here x ms state same)
          ∙ sym (member_later x ms other (λ e. differs (sym e ∙ same)))
      | inr apart ↦
          ap (λ xs. find_member xs other) (without_later x ms state apart)
          ∙ beside_one x ms (without_member ms state) other (find_member-without_other ms state other differs)
    ]

pub find_member-without_same : (ms : List Member) (state : ℕ) → HasDistinctStates ms → find_member (without_member ms state) state ≡ None
find_member-without_same [] state distinct = refl
find_member-without_same (x ∷ ms) state distinct =
    elim (cases_eq x.state state) [
      | inl same ↦
          ap (λ xs. find_member xs state) (without_here x ms state same)
          ∙ ap (find_member ms) (sym same) ∙ distinct.0
      | inr apart ↦
          ap (λ xs. find_member xs state) (without_later x ms state apart)
          ∙ member_later x (without_member ms state) state apart
          ∙ find_member-without_same ms state distinct.1
    ]

pub distinct_without : (ms : List Member) (state : ℕ) → HasDistinctStates ms → HasDistinctStates (without_member ms state)
distinct_without [] state distinct = tt
distinct_without (x ∷ ms) state distinct =
    elim (cases_eq x.state state) [
      | inl same ↦ subst HasDistinctStates (sym (without_here x ms state same)) distinct.1
      | inr apart ↦
          subst HasDistinctStates (sym (without_later x ms state apart)) (
            find_member-without_other ms state x.state apart ∙ distinct.0,
            distinct_without ms state distinct.1,
          )
    ]

pub found_nonempty : (ms : List Member) (state key : ℕ) → find_member ms state ≡ Some key → 0 < length ms
found_nonempty [] state key found = absurd (cc)
found_nonempty (x ∷ ms) state key found = omega arith

-- an event with a node is kept
pub kept_with_node : (entry : Entry) → 0 < length entry.members → kept entry ≡ Some entry
kept_with_node entry some = rw (ne_eqb (length entry.members) 0 (omega arith)) (by_pin entry.row.pinned)
  where
    by_pin : (b : Bool) → cond (not b && false) None (Some entry) ≡ Some entry
    by_pin true = refl
    by_pin false = refl

-- what is kept is the event itself, which has a pin or a node
pub kept_value : (entry value : Entry) → kept entry ≡ Some value → (entry ≡ value) × (value.row.pinned ≡ false → 0 < length value.members)
kept_value entry value is_kept = by_tests (cases_Bool entry.row.pinned) (cases_eq (length entry.members) 0)
  where
    stays :
        kept entry ≡ Some entry → (entry.row.pinned ≡ false → 0 < length entry.members)
        → (entry ≡ value) × (value.row.pinned ≡ false → 0 < length value.members)
    stays e used =
        let both : Some entry ≡ Some value = sym e ∙ is_kept in
        let same : entry ≡ value = cc in (
          same,
          subst (λ (v : Entry). v.row.pinned ≡ false → 0 < length v.members) same used,
        )

    by_tests :
        (entry.row.pinned ≡ true) ⊎ (entry.row.pinned ≡ false) → (length entry.members ≡ 0) ⊎ (length entry.members ≡ 0 → ⊥)
        → (entry ≡ value) × (value.row.pinned ≡ false → 0 < length value.members)
    by_tests (inl pinned) cases =
        stays (rw pinned refl) (λ unpinned'. let e : true ≡ false = sym pinned ∙ unpinned' in absurd (cc))
    by_tests (inr free) (inl nothing) =
        let gone : kept entry ≡ None = rw (free, eq-eqb (length entry.members) 0 nothing) refl in
        let e : None ≡ Some value = sym gone ∙ is_kept in
        absurd (cc)
    by_tests (inr free) (inr something) = stays (kept_with_node entry (omega arith)) (λ _. omega arith)

module _ (entries : List (Option Entry)) (nodes : List (Option Node)) (indexed : IsIndexed entries nodes) where
  -- a node and the node of its event and state are one
  pub one_node :
      (key other : ℕ) (n m : Node) → slot_at nodes key ≡ Some n → slot_at nodes other ≡ Some m → n.event ≡ m.event
      → n.state ≡ m.state → key ≡ other
  one_node key other n m found found' same_event same_state =
      let a = indexed.listed key n found in
      let b = indexed.listed other m found' in
      let e : a.entry ≡ b.entry = same_value entries n.event m.event a.entry b.entry (sym same_event) a.found b.found in
      let both : Some key ≡ Some other =
      sym a.member ∙ ap (λ x. find_member x.members n.state) e ∙ ap (find_member b.entry.members) same_state ∙ b.member in
      cc

  -- a change of a node that keeps its event, state and position
  pub IsIndexed-node_change :
      (new : List (Option Node)) (key : ℕ) (n m : Node) → slot_at nodes key ≡ Some n → Changes nodes new key (Some m)
      → m.event ≡ n.event → m.state ≡ n.state → m.position ≡ n.position → IsIndexed entries new
  IsIndexed-node_change new key n m found changes same_event same_state same_position =
      record {
        listed = λ other node there.
            elim (changed_cases nodes new key (Some m) changes other node there) [
              | inl here ↦
                  let e : m ≡ node = (let s = here.1 in cc) in
                  let l = indexed.listed key n found in
                  subst (λ (x : Node). IsListed entries other x) e (record {
                    entry = l.entry;
                    found = ap (slot_at entries) same_event ∙ l.found;
                    member = ap (find_member l.entry.members) same_state ∙ l.member ∙ ap (λ k. Some k) (sym here.0);
                    position = l.position ∙ sym same_position;
                  })
              | inr elsewhere ↦ indexed.listed other node elsewhere.1
            ];
        stands = λ event entry state other there member.
            let was = indexed.stands event entry state other there member in
            elim (cases_eq other key) [
              | inl here ↦
                  let e : n ≡ was.node = same_value nodes key other n was.node here found was.found in
                  record {
                    node = m;
                    found = ap (slot_at new) here ∙ changes.changed;
                    of_event = same_event ∙ ap (λ x. x.event) e ∙ was.of_event;
                    of_state = same_state ∙ ap (λ x. x.state) e ∙ was.of_state;
                  }
              | inr differs ↦
                  record {
                    node = was.node;
                    found = unchanged_at nodes new key (Some m) changes other was.node differs was.found;
                    of_event = was.of_event;
                    of_state = was.of_state;
                  }
            ];
        distinct = indexed.distinct;
        used = indexed.used;
      }

  -- a new event with a pin and no node
  pub IsIndexed-add_event :
      (new : List (Option Entry)) (key : ℕ) (entry : Entry) → slot_at entries key ≡ None → Changes entries new key (Some entry)
      → entry.members ≡ [] → entry.row.pinned ≡ true → IsIndexed new nodes
  IsIndexed-add_event new key entry vacant changes no_members pinned =
      record {
        listed = λ other node there.
            let l = indexed.listed other node there in
            record {
              entry = l.entry;
              found =
                  unchanged_at entries new key (Some entry) changes node.event l.entry
                  (vacant_differs entries key node.event l.entry vacant l.found) l.found;
              member = l.member;
              position = l.position;
            };
        stands = λ event e state other there member.
            elim (changed_cases entries new key (Some entry) changes event e there) [
              | inl here ↦
                  let same : entry ≡ e = (let s = here.1 in cc) in
                  let nothing : None ≡ Some other =
                  sym (ap (λ ms. find_member ms state) no_members) ∙ ap (λ x. find_member x.members state) same ∙ member in
                  absurd (cc)
              | inr elsewhere ↦ indexed.stands event e state other elsewhere.1 member
            ];
        distinct = λ event e there.
            elim (changed_cases entries new key (Some entry) changes event e there) [
              | inl here ↦
                  let same : entry ≡ e = (let s = here.1 in cc) in
                  subst HasDistinctStates (sym no_members ∙ ap (λ x. x.members) same) tt
              | inr elsewhere ↦ indexed.distinct event e elsewhere.1
            ];
        used = λ event e there free.
            elim (changed_cases entries new key (Some entry) changes event e there) [
              | inl here ↦
                  let same : entry ≡ e = (let s = here.1 in cc) in
                  let bad : true ≡ false = sym pinned ∙ ap (λ x. x.row.pinned) same ∙ free in
                  absurd (cc)
              | inr elsewhere ↦ indexed.used event e elsewhere.1 free
            ];
      }

  -- an event loses its pin, and goes where no node stands on it
  pub IsIndexed-unpin :
      (new : List (Option Entry)) (key : ℕ) (entry : Entry) → slot_at entries key ≡ Some entry
      → Changes entries new key (kept (unpinned entry)) → IsIndexed new nodes
  IsIndexed-unpin new key entry found changes =
      record {
        listed = λ other node there.
            let l = indexed.listed other node there in
            elim (cases_eq node.event key) [
              | inl here ↦
                  let e : entry ≡ l.entry = same_value entries key node.event entry l.entry here found l.found in
                  let member : find_member entry.members node.state ≡ Some other = ap (λ x. find_member x.members node.state) e ∙ l.member in
                  record {
                    entry = unpinned entry;
                    found =
                        ap (slot_at new) here ∙ changes.changed
                        ∙ kept_with_node (unpinned entry) (found_nonempty entry.members node.state other member);
                    member = member;
                    position = ap (λ x. x.row.position) e ∙ l.position;
                  }
              | inr differs ↦
                  record {
                    entry = l.entry;
                    found = unchanged_at entries new key (kept (unpinned entry)) changes node.event l.entry differs l.found;
                    member = l.member;
                    position = l.position;
                  }
            ];
        stands = λ event e state other there member.
            elim (changed_cases entries new key (kept (unpinned entry)) changes event e there) [
              | inl here ↦
                  let same = (kept_value (unpinned entry) e here.1).0 in
                  indexed.stands event entry state other (ap (slot_at entries) here.0 ∙ found) (ap (λ x. find_member x.members state) same ∙ member)
              | inr elsewhere ↦ indexed.stands event e state other elsewhere.1 member
            ];
        distinct = λ event e there.
            elim (changed_cases entries new key (kept (unpinned entry)) changes event e there) [
              | inl here ↦
                  let same = (kept_value (unpinned entry) e here.1).0 in
                  subst HasDistinctStates (ap (λ x. x.members) same) (indexed.distinct key entry found)
              | inr elsewhere ↦ indexed.distinct event e elsewhere.1
            ];
        used = λ event e there free.
            elim (changed_cases entries new key (kept (unpinned entry)) changes event e there) [
              | inl here ↦ (kept_value (unpinned entry) e here.1).1 free
              | inr elsewhere ↦ indexed.used event e elsewhere.1 free
            ];
      }

  -- a new node, under its state on its event
  pub IsIndexed-add_node :
      (news : List (Option Node)) (es : List (Option Entry)) (key : ℕ) (n : Node) (entry : Entry) (m : Member)
      → slot_at nodes key ≡ None → Changes nodes news key (Some n) → slot_at entries n.event ≡ Some entry
      → find_member entry.members n.state ≡ None → m.state ≡ n.state → m.node ≡ key → entry.row.position ≡ n.position
      → Changes entries es n.event (Some (entry_with m entry)) → IsIndexed es news
  IsIndexed-add_node news es key n entry m vacant put found absent of_state of_node position changes =
      let absent' : find_member entry.members m.state ≡ None = ap (find_member entry.members) of_state ∙ absent in
      let more = entry_with m entry in
      record {
        listed = λ other node there.
            elim (changed_cases nodes news key (Some n) put other node there) [
              | inl here ↦
                  let e : n ≡ node = (let s = here.1 in cc) in
                  subst (λ (x : Node). IsListed es other x) e (record {
                    entry = more;
                    found = changes.changed;
                    member =
                        ap (find_member (entry.members ++ m ∷ [])) (sym of_state) ∙ find_member-push_same entry.members m absent'
                        ∙ ap (λ k. Some k) (of_node ∙ sym here.0);
                    position = position;
                  })
              | inr elsewhere ↦
                  let l = indexed.listed other node elsewhere.1 in
                  elim (cases_eq node.event n.event) [
                    | inl same ↦
                        let e : entry ≡ l.entry = same_value entries n.event node.event entry l.entry same found l.found in
                        let member : find_member entry.members node.state ≡ Some other = ap (λ x. find_member x.members node.state) e ∙ l.member in
                        let differs : m.state ≡ node.state → ⊥ =
                        (λ (s : m.state ≡ node.state).
                        let bad : None ≡ Some other = sym absent' ∙ ap (find_member entry.members) s ∙ member in absurd (cc)) in
                        record {
                          entry = more;
                          found = ap (slot_at es) same ∙ changes.changed;
                          member = find_member-push_other entry.members m node.state differs ∙ member;
                          position = ap (λ x. x.row.position) e ∙ l.position;
                        }
                    | inr apart ↦
                        record {
                          entry = l.entry;
                          found = unchanged_at entries es n.event (Some more) changes node.event l.entry apart l.found;
                          member = l.member;
                          position = l.position;
                        }
                  ]
            ];
        stands = λ event e state other there member.
            elim (changed_cases entries es n.event (Some more) changes event e there) [
              | inl here ↦
                  let same : more ≡ e = (let s = here.1 in cc) in
                  let member' : find_member more.members state ≡ Some other = ap (λ x. find_member x.members state) same ∙ member in
                  elim (cases_eq m.state state) [
                    | inl this ↦
                        let k : Some m.node ≡ Some other =
                        sym (find_member-push_same entry.members m absent') ∙ ap (find_member more.members) this ∙ member' in
                        let key_is : other ≡ key = (let k' : m.node ≡ other = cc in sym k' ∙ of_node) in
                        record {
                          node = n;
                          found = ap (slot_at news) key_is ∙ put.changed;
                          of_event = sym here.0;
                          of_state = sym of_state ∙ this;
                        }
                    | inr another ↦
                        let old_member = sym (find_member-push_other entry.members m state another) ∙ member' in
                        let was = indexed.stands event entry state other (ap (slot_at entries) here.0 ∙ found) old_member in
                        record {
                          node = was.node;
                          found =
                              unchanged_at nodes news key (Some n) put other was.node
                              (vacant_differs nodes key other was.node vacant was.found) was.found;
                          of_event = was.of_event;
                          of_state = was.of_state;
                        }
                  ]
              | inr elsewhere ↦
                  let was = indexed.stands event e state other elsewhere.1 member in
                  record {
                    node = was.node;
                    found =
                        unchanged_at nodes news key (Some n) put other was.node
                        (vacant_differs nodes key other was.node vacant was.found) was.found;
                    of_event = was.of_event;
                    of_state = was.of_state;
                  }
            ];
        distinct = λ event e there.
            elim (changed_cases entries es n.event (Some more) changes event e there) [
              | inl here ↦
                  let same : more ≡ e = (let s = here.1 in cc) in
                  subst HasDistinctStates (ap (λ x. x.members) same)
                  (distinct_push entry.members m (indexed.distinct n.event entry found) absent')
              | inr elsewhere ↦ indexed.distinct event e elsewhere.1
            ];
        used = λ event e there free.
            elim (changed_cases entries es n.event (Some more) changes event e there) [
              | inl here ↦
                  let same : more ≡ e = (let s = here.1 in cc) in
                  let long : length more.members ≡ length e.members = ap (λ x. length x.members) same in
                  omega (arith, length_push entry.members m, long)
              | inr elsewhere ↦ indexed.used event e elsewhere.1 free
            ];
      }

  -- a node goes, and its event too where nothing else holds it
  pub IsIndexed-remove_node :
      (news : List (Option Node)) (es : List (Option Entry)) (key : ℕ) (n : Node) (entry : Entry) → slot_at nodes key ≡ Some n
      → Changes nodes news key None → slot_at entries n.event ≡ Some entry
      → Changes entries es n.event (kept (entry_without n.state entry)) → IsIndexed es news
  IsIndexed-remove_node news es key n entry found gone found_entry changes =
      let less = entry_without n.state entry in
      let distinct = indexed.distinct n.event entry found_entry in
      let own = indexed.listed key n found in
      let own_entry : entry ≡ own.entry = same_value entries n.event n.event entry own.entry refl found_entry own.found in
      let own_member : find_member entry.members n.state ≡ Some key = ap (λ x. find_member x.members n.state) own_entry ∙ own.member in
      record {
        listed = λ other node there.
            elim (changed_cases nodes news key None gone other node there) [
              | inl here ↦ (let bad = here.1 in absurd (cc))
              | inr elsewhere ↦
                  let l = indexed.listed other node elsewhere.1 in
                  elim (cases_eq node.event n.event) [
                    | inl same ↦
                        let e : entry ≡ l.entry = same_value entries n.event node.event entry l.entry same found_entry l.found in
                        let member : find_member entry.members node.state ≡ Some other = ap (λ x. find_member x.members node.state) e ∙ l.member in
                        let differs : node.state ≡ n.state → ⊥ =
                        (λ (s : node.state ≡ n.state).
                        let keys : Some other ≡ Some key = sym member ∙ ap (find_member entry.members) s ∙ own_member in
                        elsewhere.0 (cc)) in
                        let member' : find_member less.members node.state ≡ Some other =
                        find_member-without_other entry.members n.state node.state differs ∙ member in
                        record {
                          entry = less;
                          found = ap (slot_at es) same ∙ changes.changed ∙ kept_with_node less (found_nonempty less.members node.state other member');
                          member = member';
                          position = ap (λ x. x.row.position) e ∙ l.position;
                        }
                    | inr apart ↦
                        record {
                          entry = l.entry;
                          found = unchanged_at entries es n.event (kept less) changes node.event l.entry apart l.found;
                          member = l.member;
                          position = l.position;
                        }
                  ]
            ];
        stands = λ event e state other there member.
            elim (changed_cases entries es n.event (kept less) changes event e there) [
              | inl here ↦
                  let same = (kept_value less e here.1).0 in
                  let member' : find_member less.members state ≡ Some other = ap (λ x. find_member x.members state) same ∙ member in
                  let differs : state ≡ n.state → ⊥ =
                  (λ (s : state ≡ n.state).
                  let bad : None ≡ Some other =
                  sym (find_member-without_same entry.members n.state distinct) ∙ ap (find_member less.members) (sym s) ∙ member' in
                  absurd (cc)) in
                  let old_member = sym (find_member-without_other entry.members n.state state differs) ∙ member' in
                  let was = indexed.stands event entry state other (ap (slot_at entries) here.0 ∙ found_entry) old_member in
                  let apart : other ≢ key =
                  (λ (k : other ≡ key).
                  let e' : n ≡ was.node = same_value nodes key other n was.node k found was.found in
                  differs (sym was.of_state ∙ sym (ap (λ x. x.state) e'))) in
                  record {
                    node = was.node;
                    found = unchanged_at nodes news key None gone other was.node apart was.found;
                    of_event = was.of_event;
                    of_state = was.of_state;
                  }
              | inr elsewhere ↦
                  let was = indexed.stands event e state other elsewhere.1 member in
                  let apart : other ≢ key =
                  (λ (k : other ≡ key).
                  let e' : n ≡ was.node = same_value nodes key other n was.node k found was.found in
                  elsewhere.0 (sym was.of_event ∙ sym (ap (λ x. x.event) e'))) in
                  record {
                    node = was.node;
                    found = unchanged_at nodes news key None gone other was.node apart was.found;
                    of_event = was.of_event;
                    of_state = was.of_state;
                  }
            ];
        distinct = λ event e there.
            elim (changed_cases entries es n.event (kept less) changes event e there) [
              | inl here ↦
                  let same = (kept_value less e here.1).0 in
                  subst HasDistinctStates (ap (λ x. x.members) same) (distinct_without entry.members n.state distinct)
              | inr elsewhere ↦ indexed.distinct event e elsewhere.1
            ];
        used = λ event e there free.
            elim (changed_cases entries es n.event (kept less) changes event e there) [
              | inl here ↦ (kept_value less e here.1).1 free
              | inr elsewhere ↦ indexed.used event e elsewhere.1 free
            ];
      }
