use Rattle.std.proofs.Common.{◌≡◌, sym, subst, false, take, drop}
use Rattle.std.specs.List.{AllByRecursion as Each}
use Rattle.cep_plan.specs.declared.item.Due.{Due}
use Rattle.run_step.specs.declared.runs.Run.{Run}
use Rattle.run_step.specs.Content.{is_in_due}
use Rattle.run_step.proofs.CutLaws.{start-order}
use Rattle.run_step.proofs.TipLaws.{none-before, none-behind}
use Rattle.run_step.proofs.group.range_of.Goals as goal

pub returns-in-Start-clause-order : goal.returns-in-Start-clause-order
returns-in-Start-clause-order c =
    start-order c.in-Start.start c.args.runs.now.items c.place_of.result c.place_behind.result c.place_of.ensures.bound c.place_of.ensures.before
    c.place_of.ensures.behind c.place_behind.ensures.before c.place_behind.ensures.behind

pub returns-in-Start-clause-before : goal.returns-in-Start-clause-before
returns-in-Start-clause-before c =
    subst (λ (d : Due). Each (λ (run : Run). is_in_due d run ≡ false) (take c.place_of.result c.args.runs.now.items)) (sym c.in-Start.is)
    (none-before c.in-Start.start (take c.place_of.result c.args.runs.now.items) c.place_of.ensures.before)

pub returns-in-Start-clause-behind : goal.returns-in-Start-clause-behind
returns-in-Start-clause-behind c =
    subst (λ (d : Due). Each (λ (run : Run). is_in_due d run ≡ false) (drop c.place_behind.result c.args.runs.now.items)) (sym c.in-Start.is)
    (none-behind c.in-Start.start (drop c.place_behind.result c.args.runs.now.items) c.place_behind.ensures.behind)
