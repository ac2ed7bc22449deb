use Rattle.std.proofs.Common.{◌∙◌, sym}
use Rattle.match_extract.proofs.PathLaws.{Completes-more, height-falls, read_takes, one_path}
use Rattle.match_extract.proofs.extract.Goals as goal

pub loop-next-smaller : goal.loop-next-smaller
loop-next-smaller c =
    let link = c.link-link in
    rw c.in-Some.is
    (height-falls c.args.buffer.now.nodes c.in-Some.key c.args.version.now link.result link.ensures.link link.ensures.before)

pub loop-next-preserved : goal.loop-next-preserved
loop-next-preserved c =
    let link = c.link-link in
    let buffer = c.args.buffer.now in
    rw c.in_ok-push.ensures.items
    (Completes-more buffer c.args.version.now c.args.node c.in-Some.key c.loop-next.taken.items _ link.result.position link.result.pred
    (rw c.in-Some.is at c.loop-next.invariant)
    (read_takes buffer c.args.version.now c.in-Some.key link.result _ link.ensures.link link.ensures.event
    (λ row found. c.in_ok-event.ensures ∙ c.event.ensures row found))
    link.ensures.before)

pub returns-clause-only : goal.returns-clause-only
returns-clause-only c =
    λ other path.
    let done = rw c.in_default.is at c.loop-next.invariant in
    one_path c.args.buffer.now c.args.version.now c.args.node other _ path done ∙ sym (c.from_vec.ensures ∙ c.reverse.ensures.items)
