use Rattle.std.proofs.Common.{◌≤◌, ◌<◌, leb, rules, arith, get_or, length}
use Rattle.std.proofs.lemmas.Bool.{leb-true, leb-false}
use Rattle.std.proofs.lemmas.List.Sorted.{IsPartitionPoint-from_clause, IsPartitionedBy-leb}
use Rattle.run_step.specs.declared.runs.Run.{Run}
use Rattle.run_step.specs.Content.{start_of}
use Rattle.list_runs.proofs.PartLaws.{Each-take, Each-drop}
use Rattle.run_step.proofs.group.place_behind.Goals as goal

pub returns-clause-before : goal.returns-clause-before
returns-clause-before c =
    let parted = IsPartitionedBy-leb start_of _ c.args.start c.requires in
    let point = IsPartitionPoint-from_clause (λ run. leb (start_of run) c.args.start) _ _ c.partition_point.ensures.partitioned parted (λ a r q k. search rules) in
    let bound : c.partition_point.result ≤ length c.args.runs.now.items = search rules in
    Each-take (λ (run : Run). start_of run ≤ c.args.start) c.args.runs.now.items c.partition_point.result bound
    (λ k d lt. leb-true (start_of (get_or c.args.runs.now.items k d)) c.args.start (point.0 k d (omega arith) lt))

pub returns-clause-behind : goal.returns-clause-behind
returns-clause-behind c =
    let parted = IsPartitionedBy-leb start_of _ c.args.start c.requires in
    let point = IsPartitionPoint-from_clause (λ run. leb (start_of run) c.args.start) _ _ c.partition_point.ensures.partitioned parted (λ a r q k. search rules) in
    Each-drop (λ (run : Run). c.args.start < start_of run) c.args.runs.now.items c.partition_point.result
    (λ k d le lt. leb-false (start_of (get_or c.args.runs.now.items k d)) c.args.start (point.1 k d le lt))
