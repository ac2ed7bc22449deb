use Rattle.std.proofs.Common.{◌∙◌, sym, arith}
use Rattle.line_fields.specs.Pieces.{Within}
use Rattle.line_fields.proofs.PieceLaws.{within-comma, within-more}
use Rattle.line_fields.proofs.QuotedLaws.{reads-comma, reads-end, reads-more, reads-start}
use Rattle.line_fields.proofs.quoted.split_quoted.Goals as goal
use Rattle.line_fields.proofs.quoted.split_quoted.Goals.{else-matches, in-InQuoted, in-StartField, in_default, in_default-matches, then-matches+in_ok-push}

pub loop-place-init : goal.loop-place-init
unfolding Within
loop-place-init c = record { reads = rw c.requires (reads-start c.args.line.now); within = rw c.requires (omega arith, omega arith, tt) }

pub loop-place-preserved : goal.loop-place-preserved
loop-place-preserved c =
    let line = c.args.line.now in
    let places = c.loop-place.ends.items in
    let place = c.loop-place.place in
    let told = sym c.in-Some.is ∙ c.next_state.ensures in
    elim c.if-matches.branch [
      | then-matches+in_ok-push w ↦ elim c.match-matches.branch [
        | in-StartField v ↦ record {
          reads =
              rw (w.ends-is, w.in_ok-push.ensures.ok) (reads-comma line places place c.loop-place.state c.in-Some.next c.loop-place-test.true
              v.in-StartField.is told c.loop-place.invariant.reads);
          within = rw (w.ends-is, w.in_ok-push.ensures.ok) (within-comma 0 places place c.loop-place.invariant.within);
        }
        | in_default v ↦ cc (v.matches-is, w.if-matches.true)
      ]
      | else-matches w ↦ elim c.match-matches.branch [
        | in-StartField v ↦ cc (v.matches-is, w.if-matches.false)
        | in_default v ↦ record {
          reads =
              rw w.ends-is (reads-more line places place c.loop-place.state c.in-Some.next c.loop-place-test.true c.loop-place.invariant.within told
              v.in_default.not-StartField c.loop-place.invariant.reads);
          within = rw w.ends-is (within-more 0 places place c.loop-place.invariant.within);
        }
      ]
    ]

pub returns-clause-read : goal.returns-clause-read
returns-clause-read c = λ t. elim c.match-matches-2.branch [
  | in-InQuoted v ↦ cc (v.matches-is, c.if-matches-2.false)
  | in_default-matches v ↦
      rw c.in_ok-push-2.ensures.ok (reads-end c.args.line.now c.loop-place.ends.items c.loop-place.place c.loop-place.state (omega arith)
      v.in_default-matches.not-InQuoted c.loop-place.invariant.reads)
]
