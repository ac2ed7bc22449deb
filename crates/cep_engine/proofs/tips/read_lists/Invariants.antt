-- The lists of the tips so far.
use Rattle.std.proofs.Common.{◌≡◌, List, map, take}
use Rattle.cep_event.specs.declared.event.Event.{Event}
use Rattle.cep_plan.specs.declared.plan.Plan.{Plan}
use Rattle.cep_plan.specs.Entry.{taken_of}
use Rattle.list_buffer.specs.Held.{Holder, Holds}
use Rattle.cep_engine.specs.Tips.{AreHeldTips}
use Rattle.cep_engine.proofs.tips.read_lists.Given as goal

abbrev pub invariant-loop-tip : goal.invariant-loop-tip
invariant-loop-tip l = (plan : Plan) (events : List Event) (holders : List Holder) (held : Holds)
    → AreHeldTips plan events holders held l.tips l.buffer → l.lists ≡ map (λ holder. taken_of events holder.list) (take l.tip-index holders)
