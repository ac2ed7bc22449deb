use Rattle.shared_buffer.proofs.FactLaws.{IsConsistent-from}
use Rattle.shared_buffer.proofs.buffer.Buffer.facts.Goals as goal

pub returns : goal.returns
returns c = rw (← c.self.view_is) (IsConsistent-from c.self.inside.entries.slots c.self.inside.nodes.slots c.self.inside.edge_count c.self.invariant)
