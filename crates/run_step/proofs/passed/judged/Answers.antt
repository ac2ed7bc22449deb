use Rattle.std.proofs.Common.{sym, subst, rules, w64, SFits, to_z-of_z, Some}
use Rattle.run_judge.specs.Fate.{IsKeptOf}
use Rattle.run_step.proofs.passed.judged.Goals as goal

pub returns-clause-taken : goal.returns-clause-taken
returns-clause-taken c = λ list is.
    let fits : SFits w64 c.args.run.now.start_ts = search rules in
    c.judged.ensures.taken list (subst (IsKeptOf c.args.at.now.plan c.args.at.now.event list c.args.run.now.sums (Some c.args.run.now.last))
    (sym (to_z-of_z fits)) is)

pub returns-clause-lives : goal.returns-clause-lives
returns-clause-lives c = λ list is.
    let fits : SFits w64 c.args.run.now.start_ts = search rules in
    c.judged.ensures.lives list (subst (IsKeptOf c.args.at.now.plan c.args.at.now.event list c.args.run.now.sums (Some c.args.run.now.last))
    (sym (to_z-of_z fits)) is)
