use Rattle.std.proofs.Common.{sym}
use Rattle.cep_engine.proofs.TipLaws.{tip_edge, tip_path}
use Rattle.cep_engine.proofs.tips.read_list.Goals as goal

pub extract-requires : goal.extract-requires
extract-requires c =
    let some = c.requires in
    tip_edge some.plan some.events some.holder some.held c.args.tip.now c.args.buffer.now c.facts.ensures some.is

pub returns : goal.returns
returns c = λ plan events holder held is.
    sym (c.in_ok-list.ensures.only _ (tip_path plan events holder held c.args.tip.now c.args.buffer.now c.facts.ensures is))
