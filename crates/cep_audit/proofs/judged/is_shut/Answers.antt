use Rattle.std.proofs.Common.{◌≡◌, sym, ◌∙◌, ap, false, rules, to_z, of_z}
use Rattle.std.specs.Int.{w128}
use Rattle.std.specs.Option.{option_map_or}
use Rattle.cep_plan.specs.Follow.{end_stage}
use Rattle.cep_plan.specs.Partial.{count_before}
use Rattle.cep_audit.specs.Asked.{gap_behind}
use Rattle.cep_audit.proofs.judged.is_shut.Goals as goal

pub returns-in-Some : goal.returns-in-Some
returns-in-Some c =
    let plan = c.args.plan.now in
    let events = c.args.events.now in
    let taken = c.args.taken.now in
    let same : to_z w128 (of_z w128 c.in-Some.limit) ≡ c.in-Some.limit = search rules in
    c.gap_holds.ensures
    ∙ (λ i. gap_behind plan events taken (c.len-end.ensures i) (c.count_before.ensures.count i))
    ∙ ap (λ l. gap_behind plan events taken (end_stage plan) (count_before events l)) same
    ∙ sym (ap (λ o. option_map_or (λ limit. gap_behind plan events taken (end_stage plan) (count_before events limit)) o false) c.in-Some.is)
