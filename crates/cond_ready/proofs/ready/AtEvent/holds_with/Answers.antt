use Rattle.std.proofs.Common.{subst, Some}
use Rattle.cond_eval.specs.Asked.{questions_in}
use Rattle.cond_ready.specs.Rest.{rest_questions, AreLeftOf}
use Rattle.cond_ready.proofs.AskedLaws.{can-asked}
use Rattle.cond_ready.proofs.ready.AtEvent.holds_with.Goals as goal

pub are_all_true-requires-clause-first : goal.are_all_true-requires-clause-first
are_all_true-requires-clause-first g c =
    let left : AreLeftOf c.args.self.now (Some c.in-Some.rests) = subst (AreLeftOf c.args.self.now) c.in-Some.is c.rests.ensures in
    can-asked (g.M.Matched.can_answer c.args.taken.now) (questions_in c.args.self.now.cond) (rest_questions c.in-Some.rests.first) c.requires (left.1).0

pub are_all_true-requires-clause-second : goal.are_all_true-requires-clause-second
are_all_true-requires-clause-second g c =
    let left : AreLeftOf c.args.self.now (Some c.in-Some.rests) = subst (AreLeftOf c.args.self.now) c.in-Some.is c.rests.ensures in
    can-asked (g.M.Matched.can_answer c.args.taken.now) (questions_in c.args.self.now.cond) (rest_questions c.in-Some.rests.second) c.requires (left.1).1

pub are_all_true-requires-clause-third : goal.are_all_true-requires-clause-third
are_all_true-requires-clause-third g c =
    let left : AreLeftOf c.args.self.now (Some c.in-Some.rests) = subst (AreLeftOf c.args.self.now) c.in-Some.is c.rests.ensures in
    can-asked (g.M.Matched.can_answer c.args.taken.now) (questions_in c.args.self.now.cond) (rest_questions c.in-Some.rests.third) c.requires (left.1).2
