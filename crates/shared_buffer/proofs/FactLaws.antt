-- What is true of every buffer, from what its fields keep.
use Rattle.std.proofs.Common.{◌≡◌, ℕ, ◌<◌, List, [], ◌∷◌, length, Option, Some, refl, ap, sym, ◌∙◌, arith}
use Rattle.shared_buffer.specs.Slots.{slot_at}
use Rattle.shared_buffer.specs.Members.{find_member}
use Rattle.shared_buffer.specs.Content.{rows, IsUsed}
use Rattle.shared_buffer.specs.Graph.{IsSound}
use Rattle.shared_buffer.specs.Facts.{IsConsistent}
use Rattle.shared_buffer.specs.declared.members.Member.{Member}
use Rattle.shared_buffer.specs.declared.node.Node.{Node}
use Rattle.shared_buffer.specs.declared.node.Entry.{Entry}
use Rattle.shared_buffer.specs.declared.node.Standing.{Standing}
use Rattle.shared_buffer.proofs.SlotLaws.{same_value}
use Rattle.shared_buffer.proofs.EdgeLaws.{one_edge}
use Rattle.shared_buffer.proofs.IndexLaws.{member_here}
use Rattle.shared_buffer.proofs.BufferLaws.{entry_of_row, event_of_node}
use Rattle.shared_buffer.proofs.ChainLaws.{needed_all}

module _ (entries : List (Option Entry)) (nodes : List (Option Node)) (count : ℕ) (sound : IsSound entries nodes count) where
  used_of_first :
      (key : ℕ) (entry : Entry) (ms : List Member) → slot_at entries key ≡ Some entry → entry.members ≡ ms → 0 < length ms
      → IsUsed nodes key
  used_of_first key entry [] found is some = absurd (omega (arith, some))
  used_of_first key entry (m ∷ ms) found is some =
      let was = sound.indexed.stands key entry m.state m.node found (ap (λ xs. find_member xs m.state) is ∙ member_here m ms m.state refl) in
      record { key = m.node; node = was.node; found = was.found; event_is = was.of_event }

  one_of_state :
      (key other : ℕ) (node another : Node) → slot_at nodes key ≡ Some node → slot_at nodes other ≡ Some another
      → node.state ≡ another.state → node.event ≡ another.event → key ≡ other
  one_of_state key other node another found found' same_state same_event =
      let a = sound.indexed.listed key node found in
      let b = sound.indexed.listed other another found' in
      let e : a.entry ≡ b.entry = same_value entries node.event another.event a.entry b.entry (sym same_event) a.found b.found in
      let both : Some key ≡ Some other =
      sym a.member ∙ ap (find_member a.entry.members) same_state ∙ ap (λ (x : Entry). find_member x.members another.state) e ∙ b.member in
      cc

  pub IsConsistent-from : IsConsistent (record { events = rows entries; nodes = nodes })
  IsConsistent-from =
      record {
        has_edge = sound.graph.has_edge;
        has_event = event_of_node entries nodes sound.indexed;
        one_node = one_of_state;
        prefix_free = sound.graph.prefix_free;
        counted = λ key edge stands. let both = sound.graph.counted key edge stands in (both.0, omega (arith, both.1));
        rooted = λ key node edge pred found listed to_pred.
            let root = sound.graph.rooted key node edge pred found listed to_pred in
            record {
              node = root.node;
              found = root.found;
              before = root.before;
              edge = root.edge;
              listed = root.listed;
              begins_it = root.begins_it;
              only = λ other in_other begins_other.
                  one_edge root.node.edges other root.edge edge.label (sound.graph.prefix_free pred root.node root.found) in_other root.listed
                  begins_other root.begins_it;
            };
        needed = needed_all nodes sound.graph;
        few = omega (arith, sound.edges, sound.few);
        used = λ key row found free.
            let e = entry_of_row entries key row found in
            used_of_first key e.entry e.entry.members e.found refl
            (sound.indexed.used key e.entry e.found (ap (λ (r : Standing). r.pinned) e.row_is ∙ free));
      }
