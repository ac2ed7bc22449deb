use Rattle.std.proofs.Common.{◌∙◌, ◌++◌, ◌%◌, ◌<◌, List, ℕ, arith, ap, length, sym}
use Rattle.std.proofs.lemmas.Bool.Decides.{nat_tests}
use Rattle.std.proofs.lemmas.Nat.{mod_below}
use Rattle.cep_load.proofs.TextLaws.{event-line, mark-line}
use Rattle.cep_load.proofs.text.push_line.Goals as goal

pub returns-then-is_empty-clause-text : goal.returns-then-is_empty-clause-text
returns-then-is_empty-clause-text c =
    let is = mark-line c.args.types.now c.args.number c.args.state (sym c.is_empty.ensures ∙ c.if-is_empty.true) in
    c.in_ok-push_mark.ensures ∙ ap (λ (t : List ℕ). c.args.text.now ++ t) (sym is)

pub returns-clause-text : goal.returns-clause-text
returns-clause-text c =
    let types = c.args.types.now in
    let some = sym c.is_empty.ensures ∙ c.if-is_empty.false in
    let positive : 0 < length types = grind (arith, nat_tests) in
    let chosen = ap (λ (d : ℕ). d % length types) c.drawn.ensures in
    let is = event-line types c.args.number c.args.state c.index-types-chosen.result _ some chosen (mod_below _ _ positive) c.index-types-chosen.is in
    rw (is, ← c.step-behind.ensures) c.push_event.ensures.text
