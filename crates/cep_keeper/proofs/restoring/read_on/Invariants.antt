use Rattle.std.proofs.Common.{◌≡◌, ◌≤◌, take, drop}
use Rattle.cep_keeper.specs.Counted.{event_count}
use Rattle.cep_keeper.specs.Tallies.{Tallies}
use Rattle.cep_keeper.specs.Restored as spec
use Rattle.cep_keeper.proofs.restoring.read_on.Given as goal

abbrev pub invariant-loop-place : goal.invariant-loop-place
invariant-loop-place l = record {
  reads : spec.read_on l.plan (take 1 l.rows) l.fn.reading (drop 1 l.rows) ≡ spec.read_on l.plan (take l.place l.rows) l.reading (drop l.place l.rows);
  tallies : Tallies l.plan l.counts l.reading.saved.keys l.reading.saved.recent;
  counted : event_count l.reading.saved.recent ≤ l.reading.events;
}
