use Rattle.std.proofs.Common.{sym, ap, [], false}
use Rattle.skip_strategy.specs.Range.{is_in}
use Rattle.cep_engine.proofs.LoopLaws.{RunsStand-none}
use Rattle.cep_engine.proofs.RunningLaws.{RunsStand-same, RunsStand-killed, can_kill}
use Rattle.cep_engine.proofs.matches.kill_range.Goals as goal

pub kill-requires : goal.kill-requires
kill-requires c = can_kill c.args.runs.now c.args.buffer.now c.requires

pub returns-in-None-clause-runs : goal.returns-in-None-clause-runs
returns-in-None-clause-runs c = λ plan events scope stands.
    RunsStand-same plan events scope (λ p. false) (is_in c.args.range) c.args.runs.now c.args.buffer.now
    (λ p. ap (λ r. is_in r p) (sym c.in-None.is)) (RunsStand-none plan events scope c.args.runs.now c.args.buffer.now stands)

pub returns-in-Some-clause-runs : goal.returns-in-Some-clause-runs
returns-in-Some-clause-runs c = λ plan events scope stands.
    RunsStand-same plan events scope _ (is_in c.args.range) c.kill.new.runs c.kill.new.buffer (λ p. ap (λ r. is_in r p) (sym c.in-Some.is))
    (RunsStand-killed plan events scope _ c.args.runs.now c.kill.new.runs c.args.buffer.now c.kill.new.buffer
    (c.kill.ensures.now plan events scope []) c.kill.ensures.pins stands)
