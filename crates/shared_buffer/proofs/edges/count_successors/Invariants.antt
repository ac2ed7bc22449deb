use Rattle.std.proofs.Common.{◌≡◌, ◌≤◌, take, count_by}
use Rattle.shared_buffer.specs.Graph.{is_successor}
use Rattle.shared_buffer.proofs.edges.count_successors.Given as goal

abbrev pub invariant-loop-edge : goal.invariant-loop-edge
invariant-loop-edge l =
    record {
      counted : l.count ≡ count_by (is_successor l.node l.label) (take l.edge-index l.edges);
      within : l.count ≤ l.edge-index;
    }
