use Rattle.shared_buffer.specs.Release.{HasHold}
use Rattle.buffer_bench.proofs.load.chain.Given as goal

abbrev pub invariant-loop-before : goal.invariant-loop-before
invariant-loop-before l = HasHold l.buffer.nodes l.last l.label
