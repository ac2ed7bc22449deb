-- The groups so far have passed, and the others are as they were.
use Rattle.std.proofs.Common.{◌≡◌, List, length, take, drop}
use Rattle.cep_event.specs.declared.event.Event.{Event}
use Rattle.run_step.specs.Content.{in_groups}
use Rattle.run_step.specs.Runs.{Waiter}
use Rattle.run_step.specs.Noting.{CanPassGroups, PassingGroups}
use Rattle.run_step.proofs.groups.pass_groups.Given as goal

abbrev pub invariant-loop-place : goal.invariant-loop-place
invariant-loop-place l = record {
  sized : length l.groups.items ≡ length l.initial.groups.items;
  rest : drop l.place l.groups.items ≡ drop l.place l.initial.groups.items;
  passed : (events : List Event) (waiters : List Waiter) → CanPassGroups l.plan events l.position waiters l.nfa (in_groups l.initial.groups.items)
      → PassingGroups l.plan events l.event waiters (in_groups (drop l.place l.initial.groups.items)) (in_groups (take l.place l.groups.items))
      l.initial.passing l.passing;
}
