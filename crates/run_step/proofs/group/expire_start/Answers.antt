use Rattle.std.proofs.Common.{sym, ◌∙◌, subst, List}
use Rattle.run_step.specs.declared.runs.Run.{Run}
use Rattle.run_step.specs.Putting.{CanEndAllSome, CanEndAll}
use Rattle.run_step.proofs.CutLaws.{start-order, start-cut, start-kept}
use Rattle.run_step.proofs.group.expire_start.Goals as goal

pub end_between-requires-clause-can : goal.end_between-requires-clause-can
end_between-requires-clause-can c =
    subst (λ (l : List Run). CanEndAllSome l c.args.buffer.now)
    (start-cut c.args.start c.args.runs.now.items c.place_of-first.result c.place_behind-end.result c.place_of-first.ensures.bound
    c.place_of-first.ensures.before c.place_of-first.ensures.behind c.place_behind-end.ensures.before c.place_behind-end.ensures.behind) c.requires.can

pub drop_between-requires-clause-order : goal.drop_between-requires-clause-order
drop_between-requires-clause-order c =
    start-order c.args.start c.args.runs.now.items c.place_of-first.result c.place_behind-end.result c.place_of-first.ensures.bound
    c.place_of-first.ensures.before c.place_of-first.ensures.behind c.place_behind-end.ensures.before c.place_behind-end.ensures.behind

pub returns-clause-runs : goal.returns-clause-runs
returns-clause-runs c =
    c.drop_between.ensures
    ∙ sym (start-kept c.args.start c.args.runs.now.items c.place_of-first.result c.place_behind-end.result c.place_of-first.ensures.bound
    c.place_of-first.ensures.before c.place_of-first.ensures.behind c.place_behind-end.ensures.before c.place_behind-end.ensures.behind)

pub returns-clause-held : goal.returns-clause-held
returns-clause-held c = λ plan events holders held can.
    c.end_between.ensures.held plan events holders held
    (subst (λ (l : List Run). CanEndAll plan events holders held l c.args.buffer.now)
    (start-cut c.args.start c.args.runs.now.items c.place_of-first.result c.place_behind-end.result c.place_of-first.ensures.bound
    c.place_of-first.ensures.before c.place_of-first.ensures.behind c.place_behind-end.ensures.before c.place_behind-end.ensures.behind) can)
