use Rattle.std.proofs.Common.{◌≡◌, true, false, ◌∙◌, arith}
use Rattle.std.proofs.lemmas.Bool.Decides.{nat_tests}
use Rattle.std.specs.Prelude.{ℕ, ◌==◌}
use Rattle.cep_select.proofs.StageLaws.{entry-yes, entry-no}
use Rattle.cep_select.proofs.named.push_front.Goals as goal
use Rattle.cep_select.proofs.named.push_front.Goals.{then-taken-stage+in_ok-push_row, else-taken-stage}

same : (m n : ℕ) → m ≡ n → (m == n) ≡ true
same m n e = grind (arith, nat_tests)

other : (m n : ℕ) → (m ≡ n → ⊥) → (m == n) ≡ false
other m n e = grind (arith, nat_tests)

pub loop-taken-preserved : goal.loop-taken-preserved
loop-taken-preserved c =
    let t = c.taken-item.result in
    elim c.if-taken-stage.branch [
      | then-taken-stage+in_ok-push_row w ↦
          let e = entry-yes c.args.text.now c.loop-taken.text w.push_row.new.text c.args.name.now c.args.stage c.loop-taken.taken-index c.args.list.now t c.loop-taken.behind c.args.quoted
          (omega arith) c.taken-item.is (same t.stage c.args.stage w.if-taken-stage.true) c.loop-taken.invariant.0 c.loop-taken.invariant.1
          w.in_ok-push_row.ensures in
          (w.text-is ∙ e.0, w.behind-is ∙ e.1)
      | else-taken-stage w ↦
          let e = entry-no c.args.text.now c.loop-taken.text c.args.name.now c.args.stage c.loop-taken.taken-index c.args.list.now t c.loop-taken.behind c.args.quoted
          (omega arith) c.taken-item.is (other t.stage c.args.stage w.if-taken-stage.false) c.loop-taken.invariant.0 c.loop-taken.invariant.1 in
          (w.text-is ∙ e.0, w.behind-is ∙ e.1)
    ]
