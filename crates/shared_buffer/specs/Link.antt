-- What a step of a path through a buffer is (after the traversal by versions of Agrawal, Diao, Gyllstrom and Immerman).
use Rattle.std.specs.Prelude.{ℕ, List, Option, option_map, option_and_then}
use Rattle.shared_buffer.specs.Slots.{slot_at}
use Rattle.shared_buffer.specs.Edges.{find_edge}
use Rattle.shared_buffer.specs.declared.edges.Edge.{Edge}
use Rattle.shared_buffer.specs.declared.node.Node.{Node}
use Rattle.shared_buffer.specs.declared.buffer.Link.{Link}

-- the node's stage and event, and where its edge leads
abbrev pub step_of : Node → Edge → Link
step_of node edge = record { stage = node.stage; event = node.event; position = node.position; pred = edge.pred }

-- the same at a key, where the node stands and an edge leads on with the version
abbrev pub link_at : List (Option Node) → ℕ → List ℕ → Option Link
link_at nodes key version =
    option_and_then (λ node. option_map (step_of node) (find_edge node.edges version)) (slot_at nodes key)
