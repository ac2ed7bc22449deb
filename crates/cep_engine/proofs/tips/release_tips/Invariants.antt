-- The tips that are left can be released.
use Rattle.cep_engine.specs.Tips.{IsFreeing}
use Rattle.cep_engine.proofs.tips.release_tips.Given as goal

abbrev pub invariant-loop-tip : goal.invariant-loop-tip
invariant-loop-tip l = IsFreeing l.fn.tips l.tip-iterator.rest.items l.tip-iterator.rest.len l.initial.buffer l.buffer
