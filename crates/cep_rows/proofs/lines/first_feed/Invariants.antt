use Rattle.std.proofs.Common.{take}
use Rattle.cep_rows.specs.Feed.{HasNoFeed}
use Rattle.cep_rows.proofs.lines.first_feed.Given as goal

abbrev pub invariant-loop-place : goal.invariant-loop-place
invariant-loop-place l = HasNoFeed (take l.place l.bytes)
