use Rattle.std.proofs.Common.{sym, ◌∙◌, ap, ◌-◌, length}
use Rattle.std.specs.Prelude.{slice_get}
use Rattle.live_laws.proofs.LastLaws.{last_or-get}
use Rattle.run_step.specs.Showing.{stage_behind}
use Rattle.run_step.proofs.shown.end_of.Goals as goal

pub returns-in-Some : goal.returns-in-Some
returns-in-Some c =
    ap stage_behind (c.in-Some.ensures.value ∙ ap (λ xs. slice_get xs (length xs - 1)) c.as_slice.ensures ∙ sym (last_or-get c.args.nfa.now.took))
