use Rattle.std.proofs.Common.{ap, ◌∙◌}
use Rattle.cep_session.specs.Ending.{status_of}
use Rattle.cep_session.specs.declared.status.Status.TheVariants as status
use Rattle.cep_session.proofs.Told.{untouched, nothing_owed}
use Rattle.cep_cli.specs.Meaning.{meaning_of}
use Rattle.cep_cli.proofs.program.run_plan.Goals as goal

pub returns-in-Ok-clause-complete : goal.returns-in-Ok-clause-complete
returns-in-Ok-clause-complete g c = λ all left no_read no_write memory.
    let m = meaning_of c.args.options.header c.args.options.lag c.args.plan in
    c.status.ensures ∙ c.run.ensures.complete m all c.in-Ok.ensures.run left no_read no_write (λ is. memory (c.status.ensures ∙ ap status_of is))

pub returns-in-Err-clause-ran : goal.returns-in-Err-clause-ran
returns-in-Err-clause-ran g c = λ all left.
    let m = meaning_of c.args.options.header c.args.options.lag c.args.plan in
    untouched m c.args.options.rows status.NoMemory all _ _ left (nothing_owed m c.args.options.rows all)
