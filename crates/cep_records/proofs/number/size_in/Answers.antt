use Rattle.std.proofs.Common.{refl, sym, arith, length, get_or, ap, ◌∙◌, Some}
use Rattle.std.specs.Str.Parse.{digits_value}
use Rattle.std.proofs.lemmas.List.{take_all}
use Rattle.std.proofs.lemmas.Int.Digits.{digits_value_more}
use Rattle.cep_records.proofs.NumberLaws.{size_in-other, size_in-great, size_in-full, size_in-is, below-digit, above-digit, digit-more, digit-is, is-some}
use Rattle.cep_records.proofs.number.size_in.Goals as goal
use Rattle.cep_records.proofs.number.size_in.Goals.{then-digit-lt48-via-then-digit-lt48, then-digit-lt48-via-else-digit-lt48+then-digit-gt57, then-digit-lt48-via-else-digit-lt48+else-digit-gt57+then-size-gt-FULL}

pub loop-digit-init : goal.loop-digit-init
loop-digit-init c = record { digits = refl; size = refl; bound = omega arith }

pub returns-then-digit-lt48-clause-value : goal.returns-then-digit-lt48-clause-value
returns-then-digit-lt48-clause-value c =
    let text = c.args.digits.now in
    let i = c.loop-digit.digit-index in
    elim c.then-digit-lt48.branch [
      | then-digit-lt48-via-then-digit-lt48 w ↦ sym (size_in-other text i (omega arith) (below-digit _ w.if-digit-lt48.true))
      | then-digit-lt48-via-else-digit-lt48+then-digit-gt57 w ↦ sym (size_in-other text i (omega arith) (above-digit _ w.if-digit-gt57.true))
      | then-digit-lt48-via-else-digit-lt48+else-digit-gt57+then-size-gt-FULL w ↦
          sym (size_in-full text i (omega arith) (omega (arith, c.loop-digit.invariant.size, w.if-size-gt-FULL.true)))
    ]

pub loop-digit-preserved : goal.loop-digit-preserved
loop-digit-preserved c =
    let text = c.args.digits.now in
    let i = c.loop-digit.digit-index in
    let more = digits_value_more 10 text i (omega arith) in
    let digit = digit-is (get_or text i 0) c.if-digit-lt48.false c.if-digit-gt57.false in
    record {
      digits = digit-more text i (omega arith) c.loop-digit.invariant.digits c.if-digit-lt48.false c.if-digit-gt57.false;
      size = omega (arith, more, digit, c.loop-digit.invariant.size, c.from.ensures);
      bound = omega (arith, c.from.ensures, c.if-digit-gt57.false, c.if-size-gt-FULL.false);
    }

pub returns-then-size-gt-FURTHEST-clause-value : goal.returns-then-size-gt-FURTHEST-clause-value
returns-then-size-gt-FURTHEST-clause-value c =
    let text = c.args.digits.now in
    let whole = ap (digits_value 10) (take_all c.loop-digit.digit-index text (omega arith)) in
    sym (size_in-great text (omega (arith, whole, c.loop-digit.invariant.size, c.if-size-gt-FURTHEST.true)))

pub returns-else-size-gt-FURTHEST-clause-value : goal.returns-else-size-gt-FURTHEST-clause-value
returns-else-size-gt-FURTHEST-clause-value c =
    let text = c.args.digits.now in
    let all = take_all c.loop-digit.digit-index text (omega arith) in
    let size = c.loop-digit.invariant.size ∙ ap (digits_value 10) all in
    let digits = rw all at c.loop-digit.invariant.digits in
    ap Some size
    ∙ sym (size_in-is text (is-some (length text) (sym c.is_empty.ensures ∙ c.if-is_empty.false)) digits
    (omega (arith, size, c.if-size-gt-FURTHEST.false)))
