use Rattle.std.proofs.Common.{◌∙◌, ap}
use Rattle.cep_keeper.proofs.StoredLaws.{rows_under-same, rows_under-other}
use Rattle.cep_keeper.specs.Stored.{rows_under}
use Rattle.cep_keeper.proofs.memory.MemoryKeeperKeeper.save.Goals as goal

pub returns-in-Ok-clause-saved : goal.returns-in-Ok-clause-saved
returns-in-Ok-clause-saved c = ap (λ k. rows_under k.stores c.args.name.now) c.in-Ok.ensures.ok
    ∙ rows_under-same c.is_refused.new.self.stores c.args.name.now c.args.given.now

pub returns-in-Ok-clause-others : goal.returns-in-Ok-clause-others
returns-in-Ok-clause-others c = λ other differ.
    ap (λ k. rows_under k.stores other) c.in-Ok.ensures.ok ∙ rows_under-other c.is_refused.new.self.stores c.args.name.now other c.args.given.now differ
    ∙ ap (λ k. rows_under k.stores other) c.is_refused.ensures.after
