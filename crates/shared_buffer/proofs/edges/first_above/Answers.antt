use Rattle.std.proofs.Common.{◌≤◌, length, not, rules}
use Rattle.std.proofs.lemmas.List.Sorted.{IsPartitionPoint-from_clause}
use Rattle.shared_buffer.specs.Edges.{is_above}
use Rattle.shared_buffer.specs.declared.edges.Edge.{Edge}
use Rattle.shared_buffer.proofs.ListLaws.{point_is_place}
use Rattle.shared_buffer.proofs.OrderLaws.{IsPartitionedBy-above}
use Rattle.shared_buffer.proofs.edges.first_above.Goals as goal

pub returns : goal.returns
returns c =
    let parted = IsPartitionedBy-above c.args.version.now c.args.edges.now.items c.requires in
    let point =
    IsPartitionPoint-from_clause (λ (e : Edge). not (is_above c.args.version.now e)) _ _
    c.partition_point.ensures.partitioned parted (λ a r q k. search rules) in
    let bound : c.partition_point.result ≤ length c.args.edges.now.items = search rules in
    point_is_place (is_above c.args.version.now) c.args.edges.now.items c.partition_point.result bound point
