use Rattle.std.proofs.Common.{[]}
use Rattle.cep_engine.proofs.RunningLaws.{RunsStand-killed, can_kill}
use Rattle.cep_engine.proofs.timeouts.end_due.Goals as goal

pub expire-requires : goal.expire-requires
expire-requires c = can_kill c.args.runs.now c.args.buffer.now c.requires

pub returns-clause-runs : goal.returns-clause-runs
returns-clause-runs c = λ plan events scope stands.
    RunsStand-killed plan events scope _ c.args.runs.now c.expire.new.runs c.args.buffer.now c.expire.new.buffer
    (c.expire.ensures.now plan events scope []) c.expire.ensures.pins stands
