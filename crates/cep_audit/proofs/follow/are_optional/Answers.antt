use Rattle.std.proofs.Common.{◌≡◌, ◌∙◌, ap, ◌+◌, true, ◌&&◌, rules}
use Rattle.std.specs.List.{list_all}
use Rattle.cep_plan.specs.Follow.{all_optional, of_stage}
use Rattle.cep_audit.proofs.ListLaws.{range-first}
use Rattle.cep_audit.proofs.follow.are_optional.Goals as goal

pub loop-place-preserved : goal.loop-place-preserved
loop-place-preserved c =
    let plan = c.args.plan.now in
    let here : of_stage plan c.loop-place.place (λ s. s.optional) ≡ true = search rules in
    c.loop-place.invariant
    ∙ ap (list_all (λ s. of_stage plan s (λ stage. stage.optional))) (range-first c.loop-place.place c.args.to c.loop-place-test.true)
    ∙ ap (λ b. b && all_optional plan (c.loop-place.place + 1) c.args.to) here
