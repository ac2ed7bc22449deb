-- What the parts of an engine share after ticks.
use Rattle.std.proofs.Common.{List}
use Rattle.cep_plan.specs.declared.plan.Plan.{Plan}
use Rattle.cep_plan.specs.Tick.{Tick}
use Rattle.shared_buffer.specs.Content.{Content as BufferContent}
use Rattle.shared_buffer.specs.Facts.{IsConsistent}
use Rattle.run_step.specs.Content.{Content}
use Rattle.sharing_laws.specs.Sharing.{SharesExactly}
use Rattle.sharing_laws.proofs.SharingLaws.{shares_now}
use Rattle.time_limit.specs.Limits.{Kept}
use Rattle.cep_engine.specs.Standing.{PartsStand}

pub parts_share : (plan : Plan) (ticks : List Tick) (content : Content) (buffer : BufferContent) (saved : Kept)
    → PartsStand plan ticks content buffer saved → IsConsistent buffer → SharesExactly plan ticks content buffer
parts_share plan ticks content buffer saved parts sound = shares_now plan ticks content buffer parts.runs.now parts.runs.settled sound
