use Rattle.std.proofs.Common.{sym, ◌≤◌, length, rules, arith}
use Rattle.std.specs.Prelude.{Some}
use Rattle.std.proofs.lemmas.List.Sorted.{IsPartitionPoint-from_clause}
use Rattle.cep_event.specs.declared.event.Event.{Event}
use Rattle.cep_plan.specs.Limit.{is_below_limit}
use Rattle.cep_audit.proofs.LimitLaws.{count_parted}
use Rattle.cep_audit.proofs.limit.count_before.Goals as goal

pub returns-clause-count : goal.returns-clause-count
returns-clause-count c =
    let point = IsPartitionPoint-from_clause (λ (e : Event). is_below_limit (Some c.args.limit) e.ts) _ _ c.partition_point.ensures.partitioned
    (c.requires c.args.limit) (λ a r q k. search rules) in
    let bound : c.partition_point.result ≤ length c.args.events.now = search rules in
    sym (count_parted (λ (e : Event). is_below_limit (Some c.args.limit) e.ts) c.args.events.now c.partition_point.result bound
    (λ k d lt. point.0 k d (omega arith) lt) (λ k d le lt. point.1 k d le lt))
