use Rattle.std.proofs.Common.{◌≡◌, ◌==◌, false, arith, refl, get_or, true}
use Rattle.std.proofs.lemmas.Bool.{ne_eqb}
use Rattle.std.proofs.lemmas.Grind.{common_steps}
use Rattle.line_fields.specs.Pieces.{Within, pieces}
use Rattle.line_fields.proofs.PieceLaws.{cut-comma, cut-other, within-comma, within-more}
use Rattle.line_fields.proofs.split.split_at_commas.Goals as goal
use Rattle.line_fields.proofs.split.split_at_commas.Goals.{in-44+in_ok-push-in-44, in_default}

pub loop-place-init : goal.loop-place-init
unfolding pieces Within
loop-place-init c = record { plain = refl; cut = rw c.requires refl; within = rw c.requires (omega arith, omega arith, tt) }

pub loop-place-preserved : goal.loop-place-preserved
loop-place-preserved c = elim c.match-byte.branch [
  | in-44+in_ok-push-in-44 w ↦
      let pushed = w.in_ok-push-in-44.ensures.ok in
      let comma : (get_or c.args.line.now c.loop-place.place 0 == 44) ≡ true = rw w.in-44.is refl in
      record {
        plain = grind (arith, common_steps);
        cut =
            rw (w.ends-is, pushed) (cut-comma c.loop-place.ends.items c.args.line.now c.loop-place.place c.loop-place-test.true comma
            c.loop-place.invariant.cut);
        within = rw (w.ends-is, pushed) (within-comma 0 c.loop-place.ends.items c.loop-place.place c.loop-place.invariant.within);
      }
  | in_default w ↦
      let other : (get_or c.args.line.now c.loop-place.place 0 == 44) ≡ false = ne_eqb _ _ (λ e. omega (arith, e)) in
      record {
        plain = grind (arith, common_steps);
        cut =
            rw w.ends-is (cut-other c.loop-place.ends.items c.args.line.now c.loop-place.place c.loop-place-test.true other
            c.loop-place.invariant.within c.loop-place.invariant.cut);
        within = rw w.ends-is (within-more 0 c.loop-place.ends.items c.loop-place.place c.loop-place.invariant.within);
      }
]
