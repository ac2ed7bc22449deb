use Rattle.std.proofs.Common.{sym, ◌∙◌, rules, ◌==◌, not}
use Rattle.std.proofs.lemmas.Fn.{filter_same}
use Rattle.run_step.specs.declared.runs.Run.{Run}
use Rattle.run_step.proofs.CutLaws.{none-goes, ends_none}
use Rattle.run_step.proofs.group.expire_last.Goals as goal

pub returns-then-not-some_at-clause-runs : goal.returns-then-not-some_at-clause-runs
returns-then-not-some_at-clause-runs c =
    let none = none-goes (λ (run : Run). run.last.position == c.args.last) c.args.runs.now.items (sym c.some_at.ensures ∙ c.if-not-some_at.true) in
    sym none.1

pub returns-then-not-some_at-clause-held : goal.returns-then-not-some_at-clause-held
returns-then-not-some_at-clause-held c = λ plan events holders held can.
    let none = none-goes (λ (run : Run). run.last.position == c.args.last) c.args.runs.now.items (sym c.some_at.ensures ∙ c.if-not-some_at.true) in
    ends_none plan events held holders _ c.args.buffer.now none.0 can

pub returns-clause-runs : goal.returns-clause-runs
returns-clause-runs c =
    filter_same _ (λ (run : Run). not (run.last.position == c.args.last)) _ (λ x b f called. search rules) c.args.runs.now.items _ c.retain.ensures.filtered
