use Rattle.std.proofs.Common.{◌≡◌, refl, sym, ◌∙◌, ap, Bool, true, false, not, ◌&&◌, arith}
use Rattle.std.specs.List.{list_any}
use Rattle.std.proofs.lemmas.List.{take_all}
use Rattle.cep_plan.specs.declared.plan.Negation.{Negation}
use Rattle.cep_plan.specs.Candidate.{satisfies, is_between}
use Rattle.cond_ready.proofs.AloneLaws.{any-more}
use Rattle.run_judge.proofs.untouched.has_no_bar.Goals as goal

refuted : (kind between met : Bool) → (between && met) ≡ false → (kind && between && met) ≡ false
refuted true true met h = h
refuted true false met h = refl
refuted false between met h = refl

pub loop-negation-preserved : goal.loop-negation-preserved
loop-negation-preserved c =
    let plan = c.args.plan.now in
    let event = c.args.event.now in
    let bar = c.is_no_bar.ensures c.if-not-is_no_bar.false in
    let n : Negation = c.negation-item.result in
    record {
      next = λ list before.
          let test : Negation → Bool = λ n. n.next_only && is_between before c.args.stage n && satisfies plan list n event in
          any-more test _ c.loop-negation.negation-index n c.loop-negation-test.true c.negation-item.is (c.loop-negation.invariant.next list before)
          (refuted n.next_only (is_between before c.args.stage n) (satisfies plan list n event) (bar list before));
      followed = λ list before.
          let test : Negation → Bool = λ n. not n.next_only && is_between before c.args.stage n && satisfies plan list n event in
          any-more test _ c.loop-negation.negation-index n c.loop-negation-test.true c.negation-item.is
          (c.loop-negation.invariant.followed list before)
          (refuted (not n.next_only) (is_between before c.args.stage n) (satisfies plan list n event) (bar list before));
    }

pub returns-clause-next : goal.returns-clause-next
returns-clause-next c = λ done list before.
    let test : Negation → Bool = λ n. n.next_only && is_between before c.args.stage n && satisfies c.args.plan.now list n c.args.event.now in
    sym (ap (list_any test) (take_all c.loop-negation.negation-index c.as_slice-negation-items.result.now (omega (arith, c.loop-negation-test.false))
    ∙ c.as_slice-negation-items.ensures)) ∙ c.loop-negation.invariant.next list before

pub returns-clause-followed : goal.returns-clause-followed
returns-clause-followed c = λ done list before.
    let test : Negation → Bool = λ n. not n.next_only && is_between before c.args.stage n && satisfies c.args.plan.now list n c.args.event.now in
    sym (ap (list_any test) (take_all c.loop-negation.negation-index c.as_slice-negation-items.result.now (omega (arith, c.loop-negation-test.false))
    ∙ c.as_slice-negation-items.ensures)) ∙ c.loop-negation.invariant.followed list before
