use Rattle.std.proofs.Common.{rules, ◌≡◌, ◌∙◌, false, eqb, slice_index}
use Rattle.cep_words.proofs.NumberLaws.{parsed, is_not}
use Rattle.cep_words.proofs.number.number_in.Goals as goal

pub returns : goal.returns
returns c =
    let other : eqb (slice_index c.args.text.now 0) 43 ≡ false = search rules in
    c.ok.ensures.value ∙ parsed c.args.text.now c.parse.result c.parse.ensures.value.0 (is_not _ other)
