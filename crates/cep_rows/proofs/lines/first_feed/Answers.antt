use Rattle.cep_rows.proofs.Feeds.{no_feed_more}
use Rattle.cep_rows.proofs.lines.first_feed.Goals as goal

pub loop-place-preserved : goal.loop-place-preserved
loop-place-preserved c = no_feed_more _ _ c.loop-place.invariant c.if-bytes-place-eq10.false
