use Rattle.std.proofs.Common.{sym, subst, rules, w64, SFits, to_z-of_z}
use Rattle.run_judge.specs.Fate.{IsKeptOf}
use Rattle.run_judge.proofs.gap.judged_list.Goals as goal

pub returns-clause-taken : goal.returns-clause-taken
returns-clause-taken c = λ list is.
    let fits : SFits w64 c.args.start_ts = search rules in
    c.judged_where.ensures.taken list (subst (IsKeptOf c.args.plan.now c.args.event.now list c.args.sums.now c.args.last) (sym (to_z-of_z fits)) is)
    (c.is_wanted-candidate.ensures list is.sums_stand)

pub returns-clause-lives : goal.returns-clause-lives
returns-clause-lives c = λ list is.
    let fits : SFits w64 c.args.start_ts = search rules in
    c.judged_where.ensures.lives list (subst (IsKeptOf c.args.plan.now c.args.event.now list c.args.sums.now c.args.last) (sym (to_z-of_z fits)) is)
    (c.is_wanted-candidate.ensures list is.sums_stand)
