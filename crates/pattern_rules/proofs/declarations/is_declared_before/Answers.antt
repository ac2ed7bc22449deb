use Rattle.std.proofs.Common.{◌∙◌, sym, ap}
use Rattle.std.specs.Str.{bytes_eq}
use Rattle.pattern_rules.specs.Names.{is_below}
use Rattle.pattern_rules.proofs.NameLaws.{any_below}
use Rattle.pattern_rules.proofs.declarations.is_declared_before.Goals as goal

pub returns : goal.returns
returns c =
    c.is_before.ensures
    ∙ ap (λ o. is_below o c.args.number) (c.requires c.args.name.now)
    ∙ sym (any_below (λ f. f.name.text) (λ other. bytes_eq other c.args.name.now) c.args.fields.now c.args.number)
