use Rattle.std.proofs.Common.{◌≡◌, ◌+◌}
use Rattle.std.specs.List.{sum_by}
use Rattle.shared_buffer.specs.Graph.{successors}
use Rattle.shared_buffer.proofs.ConditionLaws.{weight_of_entry}
use Rattle.shared_buffer.proofs.conditions.is_counted_more.Given as goal

-- what was counted, and what the nodes that are left add to it
abbrev pub invariant-loop-key : goal.invariant-loop-key
invariant-loop-key l =
    (goal.iterator-loop-key).can_next l._key-iterator ×
    (goal.iterator-loop-key).is_finite l._key-iterator ×
    (l.standing + sum_by (weight_of_entry l.node l.label) l._key-iterator ≡ successors l.nodes.slots l.node l.label)
