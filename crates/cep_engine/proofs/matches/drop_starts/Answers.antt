use Rattle.std.proofs.Common.{sym, ap, not}
use Rattle.time_limit.specs.declared.queue.Place.{Place}
use Rattle.skip_strategy.specs.Range.{is_in}
use Rattle.cep_engine.proofs.LoopLaws.{filter_true}
use Rattle.cep_engine.proofs.matches.drop_starts.Goals as goal

pub returns-in-None : goal.returns-in-None
returns-in-None c =
    let same = sym (filter_true (λ (s : Place). not (is_in c.args.range s.position)) c.args.limits.now.starts
    (λ s. ap (λ r. not (is_in r s.position)) c.in-None.is)) in
    λ i. record c.args.limits.now { starts = same i }
