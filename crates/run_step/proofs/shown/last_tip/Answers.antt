use Rattle.std.proofs.Common.{sym, ◌∙◌, ap, ◌-◌, length}
use Rattle.std.specs.Prelude.{slice_get}
use Rattle.live_laws.proofs.LastLaws.{last_or-get}
use Rattle.run_step.proofs.shown.last_tip.Goals as goal

pub returns : goal.returns
returns c = c.last.ensures.value ∙ ap (λ xs. slice_get xs (length xs - 1)) c.as_slice.ensures ∙ sym (last_or-get c.args.tips.now)
