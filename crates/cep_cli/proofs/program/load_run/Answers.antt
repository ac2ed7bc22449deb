use Rattle.std.proofs.Common.{◌≡◌, ◌⊎◌, inl, inr, refl, ◌∙◌, subst}
use Rattle.cep_session.specs.declared.status.Status.{Status}
use Rattle.cep_session.specs.declared.status.Status.TheVariants as status
use Rattle.cep_cli.specs.Load.{load_sizes, load_summary}
use Rattle.cep_cli.specs.Verdict.{HasPrinted}
use Rattle.cep_cli.proofs.StopLaws.{load-shown, nothing_yet}
use Rattle.cep_cli.proofs.program.load_run.Goals as goal

of_three : (s : Status) → (s ≡ status.Done) ⊎ (s ≡ status.WriteFault) → (s ≡ status.Done) ⊎ ((s ≡ status.WriteFault) ⊎ (s ≡ status.NoMemory))
of_three s (inl is) = inl is
of_three s (inr is) = inr (inl is)

pub returns-in-Ok-clause-status : goal.returns-in-Ok-clause-status
returns-in-Ok-clause-status g c = of_three c.write_text.result c.write_text.ensures.status

pub returns-in-Ok-clause-showed : goal.returns-in-Ok-clause-showed
returns-in-Ok-clause-showed g c =
    subst (λ t. HasPrinted c.write_text.result (g.K.Sink.taken c.args.output.now) (g.K.Sink.taken c.write_text.new.output) t)
    (c.as_bytes.ensures.value ∙ c.as_str.ensures ∙ c.in-Ok.ensures.text) c.write_text.ensures.printed

pub returns-in-Ok-clause-loaded : goal.returns-in-Ok-clause-loaded
returns-in-Ok-clause-loaded g c =
    load-shown c.write_text.result (g.G.Gauge.seen c.args.gauge.now) (g.G.Gauge.seen c.load_summary.new.gauge)
    (load_sizes c.args.options c.args.plan) c.write_text.ensures.status c.in-Ok.ensures.shown

pub returns-in-Err-clause-status : goal.returns-in-Err-clause-status
returns-in-Err-clause-status g c = inr (inr refl)

pub returns-in-Err-clause-showed : goal.returns-in-Err-clause-showed
returns-in-Err-clause-showed g c = nothing_yet (g.K.Sink.taken c.args.output.now) (load_summary c.args.options c.args.plan)

pub returns-in-Err-clause-loaded : goal.returns-in-Err-clause-loaded
returns-in-Err-clause-loaded g c = c.in-Err.ensures.shown
