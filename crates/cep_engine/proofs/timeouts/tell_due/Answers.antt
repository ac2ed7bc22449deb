use Rattle.cep_engine.proofs.timeouts.tell_due.Goals as goal

pub end_due-requires : goal.end_due-requires
end_due-requires c =
    let some = c.requires in
    record { plan = some.plan; events = some.events; scope = some.scope; stands = some.stands }
