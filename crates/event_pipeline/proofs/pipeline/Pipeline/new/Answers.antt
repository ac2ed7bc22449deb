use Rattle.event_pipeline.proofs.RecordLaws.{begun}
use Rattle.event_pipeline.proofs.pipeline.Pipeline.new.Goals as goal

pub returns : goal.returns
returns c =
    let fresh = c.in_ok-new.ensures.fresh in
    begun c.args.lag c.args.plan c.new.result c.in_ok-new.field-0 c.new.ensures fresh.0 c.in_ok-new.ensures.stands fresh.3 c.requires.few fresh.1 fresh.2 fresh.4
