use Rattle.std.proofs.Common.{◌≤◌, ◌<◌, ltb, rules, arith, get_or, length}
use Rattle.std.proofs.lemmas.Bool.{ltb-true, ltb-false}
use Rattle.std.proofs.lemmas.List.Sorted.{IsPartitionPoint-from_clause, IsPartitionedBy-ltb}
use Rattle.time_limit.specs.declared.queue.Place.{Place}
use Rattle.time_limit.proofs.RangeLaws.{Each-take, Each-drop, IsNonDecreasingBy-in_order}
use Rattle.time_limit.proofs.queue.place_of.Goals as goal

pub returns-clause-before : goal.returns-clause-before
returns-clause-before c =
    let parted = IsPartitionedBy-ltb (λ (s : Place). s.position) _ c.args.position (IsNonDecreasingBy-in_order c.args.places.now.items c.requires) in
    let point = IsPartitionPoint-from_clause (λ (s : Place). ltb s.position c.args.position) _ _ c.partition_point.ensures.partitioned parted
    (λ a r q k. search rules) in
    let bound : c.partition_point.result ≤ length c.args.places.now.items = search rules in
    Each-take (λ (s : Place). s.position < c.args.position) c.args.places.now.items c.partition_point.result bound
    (λ k d lt. ltb-true (get_or c.args.places.now.items k d).position c.args.position (point.0 k d (omega arith) lt))

pub returns-clause-behind : goal.returns-clause-behind
returns-clause-behind c =
    let parted = IsPartitionedBy-ltb (λ (s : Place). s.position) _ c.args.position (IsNonDecreasingBy-in_order c.args.places.now.items c.requires) in
    let point = IsPartitionPoint-from_clause (λ (s : Place). ltb s.position c.args.position) _ _ c.partition_point.ensures.partitioned parted
    (λ a r q k. search rules) in
    Each-drop (λ (s : Place). c.args.position ≤ s.position) c.args.places.now.items c.partition_point.result
    (λ k d le lt. ltb-false (get_or c.args.places.now.items k d).position c.args.position (point.1 k d le lt))
