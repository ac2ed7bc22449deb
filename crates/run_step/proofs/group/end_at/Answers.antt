use Rattle.std.proofs.Common.{refl, subst, cond, [], ◌∷◌}
use Rattle.std.proofs.lemmas.Bool.{eq-eqb, ne_eqb}
use Rattle.run_step.specs.Putting.{CanEndAll, CanEndAllSome}
use Rattle.run_step.proofs.EndingLaws.{ends_one, ends_all, some_ends}
use Rattle.run_step.proofs.group.end_at.Goals as goal

pub end_run-requires : goal.end_run-requires
end_run-requires c =
    let run = c.args.run.now in
    let some = subst (λ b. CanEndAllSome (cond b (run ∷ []) []) c.args.buffer.now) (eq-eqb run.last.position c.args.last c.if-run-last.true) c.requires in
    some_ends some.plan some.events some.held run [] c.args.buffer.now (record { holders = some.holders; can = some.can })

pub returns-then-run-last-clause-held : goal.returns-then-run-last-clause-held
returns-then-run-last-clause-held c = λ plan events holders held can.
    let run = c.args.run.now in
    let one = ends_one plan events held run [] c.args.buffer.now
    (record {
      holders = holders;
      can = subst (λ b. CanEndAll plan events holders held (cond b (run ∷ []) []) c.args.buffer.now)
          (eq-eqb run.last.position c.args.last c.if-run-last.true) can;
    }) in
    ends_all plan events held [] c.end_run.new.buffer refl
    (one.after c.end_run.new.buffer (c.end_run.ensures.held plan events one.holder one.before one.can))

pub returns-else-run-last-clause-held : goal.returns-else-run-last-clause-held
returns-else-run-last-clause-held c = λ plan events holders held can.
    let run = c.args.run.now in
    ends_all plan events held [] c.args.buffer.now refl (record {
      holders = holders;
      can = subst (λ b. CanEndAll plan events holders held (cond b (run ∷ []) []) c.args.buffer.now)
          (ne_eqb run.last.position c.args.last c.if-run-last.false) can;
    })
