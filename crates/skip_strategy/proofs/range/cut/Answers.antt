use Rattle.std.proofs.Common.{sym, ◌∙◌, ap, subst, ◌<◌, ◌^◌, ◌-◌, ℕ}
use Rattle.std.specs.Prelude.{Option, Some, None, IfSome, option_map}
use Rattle.cep_plan.specs.declared.item.Taken.{Taken}
use Rattle.cep_plan.specs.Entry.{last_taken}
use Rattle.cep_plan.specs.Skipping.{is_from_to, kills_start}
use Rattle.live_laws.proofs.LastLaws.{last_or-each}
use Rattle.skip_strategy.proofs.range.cut.Goals as goal

of_last : (P : ℕ → Type 0) (o : Option Taken) → IfSome o (λ t. P t.position) → IfSome (option_map (λ t. t.position) o) P
of_last P None h = tt
of_last P (Some t) h = h

pub returns-in-PastLast-clause-positions : goal.returns-in-PastLast-clause-positions
returns-in-PastLast-clause-positions c = λ small start.
    let list = c.args.list.now in
    let below = subst (λ o. IfSome o (λ (p : ℕ). p < 2 ^ 32 - 1)) (sym c.last_position.ensures) (of_last (λ p. p < 2 ^ 32 - 1) (last_taken list) (last_or-each (λ (t : Taken). t.position < 2 ^ 32 - 1) None list tt small)) in
    c.through.ensures.positions below start ∙ (λ i. is_from_to (c.first_position-in-PastLast.ensures i) (c.last_position.ensures i) start)
    ∙ ap (λ skip. kills_start skip list start) (sym c.in-PastLast.is)
