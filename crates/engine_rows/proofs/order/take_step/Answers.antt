use Rattle.std.proofs.Common.{◌<◌, ◌+◌, arith}
use Rattle.std.proofs.lemmas.Result.{on_ok_weaker}
use Rattle.cep_event.specs.declared.event.Event.{Event}
use Rattle.watermark_order.proofs.TimeLaws.{each-more}
use Rattle.engine_rows.proofs.order.take_step.Goals as goal

pub returns-in-Mark : goal.returns-in-Mark
returns-in-Mark c =
    on_ok_weaker c.take_mark.result
    (λ keeps. keeps (c.args.row + 1) (each-more (λ (event : Event). event.row < c.args.row) (λ event. event.row < c.args.row + 1)
    (λ event below. omega (arith, below)) c.args.order.now.waiting c.requires)) c.take_mark.ensures

pub returns-in-End : goal.returns-in-End
returns-in-End c =
    on_ok_weaker c.take_end.result
    (λ keeps. keeps (c.args.row + 1) (each-more (λ (event : Event). event.row < c.args.row) (λ event. event.row < c.args.row + 1)
    (λ event below. omega (arith, below)) c.args.order.now.waiting c.requires)) c.take_end.ensures
