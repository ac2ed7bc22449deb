use Rattle.std.proofs.Common.{sym, subst, ◌++◌, List}
use Rattle.run_step.specs.Content.{IsOrdered}
use Rattle.run_step.specs.declared.runs.Run.{Run}
use Rattle.run_step.proofs.OrderLaws.{ordered-without}
use Rattle.run_step.proofs.group.keep_or_end.Goals as goal

pub returns-in_err-push_back-clause-order : goal.returns-in_err-push_back-clause-order
returns-in_err-push_back-clause-order c =
    λ rest ordered. subst (λ (l : List Run). IsOrdered (l ++ rest)) (sym c.in_err-push_back.ensures.items)
    (ordered-without c.args.runs.now.items rest c.args.run ordered)

pub returns-in_err-push-clause-order : goal.returns-in_err-push-clause-order
returns-in_err-push-clause-order c = λ rest ordered. ordered-without c.args.runs.now.items rest c.args.run ordered

pub returns-clause-order : goal.returns-clause-order
returns-clause-order c = λ rest ordered. ordered-without c.args.runs.now.items rest c.args.run ordered
