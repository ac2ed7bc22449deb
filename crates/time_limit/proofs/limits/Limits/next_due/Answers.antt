use Rattle.time_limit.proofs.LimitLaws.{left-no_start}
use Rattle.time_limit.proofs.limits.Limits.next_due.Goals as goal

pub returns-in-None-clause-left : goal.returns-in-None-clause-left
returns-in-None-clause-left c =
    left-no_start c.self.inside.within c.self.inside.gap c.args.now c.self.inside.starts.items c.take_over.new.places.items c.self.inside.lasts.items
    c.args.self.now c.next_last.new.self c.self.view_is c.in-None.ensures.due c.take_over.ensures.left c.next_last.ensures.left
