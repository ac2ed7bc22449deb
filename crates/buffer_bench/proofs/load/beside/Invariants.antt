use Rattle.shared_buffer.specs.Release.{HasHold}
use Rattle.buffer_bench.proofs.load.beside.Given as goal

abbrev pub invariant-loop : goal.invariant-loop
invariant-loop l = HasHold l.buffer.nodes l.last l.label
