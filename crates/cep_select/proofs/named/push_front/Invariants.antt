use Rattle.std.proofs.Common.{◌≡◌, ◌++◌, take}
use Rattle.cep_plan.specs.Aggregate.{taken_for}
use Rattle.cep_select.specs.Pieces.{has_events, stage_front}
use Rattle.cep_select.proofs.named.push_front.Given as goal

abbrev pub invariant-loop-taken : goal.invariant-loop-taken
invariant-loop-taken l =
    (l.text ≡ l.initial.text ++ stage_front l.quoted l.name (taken_for l.stage (take l.taken-index l.list)))
    × (l.behind ≡ has_events (taken_for l.stage (take l.taken-index l.list)))
