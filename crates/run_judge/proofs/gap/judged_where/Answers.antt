use Rattle.std.proofs.Common.{◌∙◌, rules, w64, SFits, to_z-of_z}
use Rattle.run_judge.proofs.KeptLaws.{survives-kept, takes-kept}
use Rattle.run_judge.proofs.gap.judged_where.Goals as goal

pub returns-clause-taken : goal.returns-clause-taken
returns-clause-taken c = λ list is wanted.
    let fits : SFits w64 c.args.start_ts = search rules in
    c.is_taken-taken.ensures list is.sums_stand
    ∙ takes-kept c.args.plan.now c.args.event.now list c.args.sums.now c.args.last c.args.start_ts is c.args.stage c.args.position
    c.args.candidate wanted _ (to_z-of_z fits)

pub returns-clause-lives : goal.returns-clause-lives
returns-clause-lives c = λ list is wanted.
    c.lives_on-lives.ensures list is.sums_stand
    ∙ survives-kept c.args.plan.now c.args.event.now list c.args.sums.now c.args.last c.args.start_ts is c.args.stage c.args.position
    c.args.candidate wanted
