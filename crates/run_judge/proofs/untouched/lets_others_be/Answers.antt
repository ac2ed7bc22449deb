use Rattle.run_judge.proofs.UntouchedLaws.{takes-never, survives-always}
use Rattle.run_judge.proofs.untouched.lets_others_be.Goals as goal

pub returns : goal.returns
returns c = λ yes list position unwanted. record {
  taken = takes-never c.args.plan.now list c.args.stage c.args.event.now unwanted position;
  lives = survives-always c.args.plan.now list c.args.stage c.args.event.now unwanted
      (c.lets_others_pass.ensures c.if-not-lets_others_pass.false) (c.never_ends.ensures c.if-not-never_ends.false list)
      (λ before. c.has_no_bar.ensures.next yes list before) (λ before. c.has_no_bar.ensures.followed yes list before) position;
}
