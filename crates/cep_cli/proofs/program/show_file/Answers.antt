use Rattle.std.proofs.Common.{◌≡◌, inl, inr, ◌⊎◌, refl, ap, ◌∙◌, subst, ℕ}
use Rattle.std.specs.Prelude.{Ok, Err}
use Rattle.cep_session.specs.declared.status.Status.{Status}
use Rattle.cep_session.specs.declared.status.Status.TheVariants as status
use Rattle.cep_cli.specs.Pattern.{AreShownAs}
use Rattle.cep_cli.specs.Verdict.{HasPrinted}
use Rattle.cep_cli.proofs.PatternLaws.{one_shown}
use Rattle.cep_cli.proofs.StopLaws.{accepted-judged, stopped-judged, same-accepted, accepted-stops, fault-told, printed-nothing, stopped-unread, shown-unread}
use Rattle.cep_cli.proofs.program.show_file.Goals as goal

never_refused : (s : Status) → (s ≡ status.Done) ⊎ (s ≡ status.WriteFault) → (code place : ℕ) → s ≡ status.PatternRefused code place → ⊥
never_refused s (inl is) code place it = cc
never_refused s (inr is) code place it = cc

pub returns-in-Ok-clause-pattern : goal.returns-in-Ok-clause-pattern
returns-in-Ok-clause-pattern g c = λ content told.
    let one = one_shown content (c.unique_answers.ensures.planned content) (c.unique_answers.ensures.printed content) c.args.form in
    accepted-judged (AreShownAs c.args.form content) one c.in-Ok.text c.write_text.result _ (c.in-Ok.ensures.told content told)
    (never_refused c.write_text.result c.write_text.ensures.status)

pub returns-in-Ok-clause-showed : goal.returns-in-Ok-clause-showed
returns-in-Ok-clause-showed g c = λ content text told printed.
    let one = one_shown content (c.unique_answers.ensures.planned content) (c.unique_answers.ensures.printed content) c.args.form in
    let same = same-accepted (AreShownAs c.args.form content) one c.in-Ok.text text (c.in-Ok.ensures.told content told) printed in
    subst (λ t. HasPrinted c.write_text.result (g.K.Sink.taken c.args.output.now) (g.K.Sink.taken c.write_text.new.output) t)
    (c.as_bytes.ensures.value ∙ c.as_str.ensures ∙ same) c.write_text.ensures.printed

done : (s : Status) → (s ≡ status.Done) ⊎ (s ≡ status.WriteFault) → (s ≡ status.WriteFault → ⊥) → s ≡ status.Done
done s (inl is) good = is
done s (inr is) good = absurd (good is)

pub returns-in-Ok-clause-complete : goal.returns-in-Ok-clause-complete
returns-in-Ok-clause-complete g c = λ content told no_file no_write memory. (
  Ok c.in-Ok.text,
  c.in-Ok.ensures.told content told,
  done c.write_text.result c.write_text.ensures.status
      (λ is. no_write (c.write_text.ensures.write is)),
)

pub returns-in-Err-clause-pattern : goal.returns-in-Err-clause-pattern
returns-in-Err-clause-pattern g c = λ content told.
    let one = one_shown content (c.unique_answers.ensures.planned content) (c.unique_answers.ensures.printed content) c.args.form in
    stopped-judged (AreShownAs c.args.form content) one c.in-Err.stop c.status.result _ c.status.ensures.told (c.in-Err.ensures.told content told) refl

pub returns-in-Err-clause-showed : goal.returns-in-Err-clause-showed
returns-in-Err-clause-showed g c = λ content text told printed.
    let one = one_shown content (c.unique_answers.ensures.planned content) (c.unique_answers.ensures.printed content) c.args.form in
    printed-nothing c.in-Err.stop c.status.result (g.K.Sink.taken c.args.output.now) text c.status.ensures.told
    (accepted-stops (AreShownAs c.args.form content) one c.in-Err.stop text (c.in-Err.ensures.told content told) printed)

pub returns-in-Err-clause-complete : goal.returns-in-Err-clause-complete
returns-in-Err-clause-complete g c = λ content told no_file no_write memory.
    let f = fault-told (AreShownAs c.args.form content) c.in-Err.stop c.status.result c.status.ensures.told
    (c.in-Err.ensures.told content told) (λ is. no_file (c.in-Err.ensures.failed (ap (λ w. Err w) is))) memory in
    (Err f.0, f.1, f.2)

pub returns-in-Ok-clause-shown : goal.returns-in-Ok-clause-shown
returns-in-Ok-clause-shown g c = shown-unread c.write_text.result c.write_text.ensures.status

pub returns-in-Err-clause-shown : goal.returns-in-Err-clause-shown
returns-in-Err-clause-shown g c = stopped-unread c.in-Err.stop c.status.result c.status.ensures.told
