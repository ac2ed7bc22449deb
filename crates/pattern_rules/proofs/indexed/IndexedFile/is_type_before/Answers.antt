use Rattle.std.proofs.Common.{◌∙◌, sym, ap}
use Rattle.std.specs.Str.{bytes_eq}
use Rattle.pattern_rules.specs.Names.{is_below}
use Rattle.pattern_rules.proofs.NameLaws.{any_below}
use Rattle.pattern_rules.proofs.indexed.IndexedFile.is_type_before.Goals as goal

pub returns : goal.returns
returns c =
    rw (← c.self.view_is) (
    c.is_before.ensures
    ∙ ap (λ o. is_below o c.args.number) (c.self.invariant.types c.args.name.now)
    ∙ sym (any_below (λ d. d.name.text) (λ other. bytes_eq other c.args.name.now) c.self.inside.file.now.types c.args.number))
