use Rattle.std.proofs.Common.{ap, ◌∙◌, ◌++◌, ℤ, w64}
use Rattle.std.specs.Fmt.{signed_decimal}
use Rattle.std.proofs.lemmas.Int.{to_z-of_z}
use Rattle.cep_select.proofs.QuoteLaws.{int-is}
use Rattle.cep_select.proofs.selected.push_int.Goals as goal

pub returns : goal.returns
returns c =
    int-is c.args.text.now _ _ c.args.number c.in_ok-push.ensures.ok
    (c.in_ok-push_signed.ensures ∙ ap (λ (z : ℤ). c.push.new.self ++ signed_decimal z) (to_z-of_z w64 c.args.number c.ranges.number))
