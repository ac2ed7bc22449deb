-- The kept matches so far, behind which those that are left start, and up to where they kill.
use Rattle.std.proofs.Common.{◌≡◌, [], map}
use Rattle.cep_plan.specs.declared.item.Item.TheVariants.{Match}
use Rattle.cep_plan.specs.Skipping.{kept_after}
use Rattle.cep_engine.specs.Small.{AreSmall}
use Rattle.cep_engine.specs.Reach.{AreInStartOrder, KillBelow}
use Rattle.cep_engine.proofs.ReachLaws.{StartBefore}
use Rattle.cep_engine.proofs.matches.kept_matches.Given as goal

abbrev pub invariant-loop-list : goal.invariant-loop-list
invariant-loop-list l =
    AreSmall l.fn.lists → AreSmall l.found × AreSmall l.list-iterator.rest.items
    × (AreInStartOrder l.fn.lists → (map Match l.found ≡ kept_after l.skip [] (map Match l.yielded)) × AreInStartOrder l.list-iterator.rest.items
    × StartBefore l.found l.list-iterator.rest.items × KillBelow l.skip l.found l.reach)
