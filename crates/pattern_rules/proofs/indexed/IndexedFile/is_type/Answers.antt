use Rattle.std.proofs.Common.{◌∙◌, sym, ap}
use Rattle.std.specs.Option.{is_some}
use Rattle.std.specs.Str.{bytes_eq}
use Rattle.pattern_rules.proofs.NameLaws.{any_is}
use Rattle.pattern_rules.proofs.indexed.IndexedFile.is_type.Goals as goal

pub returns : goal.returns
returns c =
    rw (← c.self.view_is) (
    c.is_some.ensures
    ∙ ap is_some (c.number.ensures ∙ c.self.invariant.types c.args.name.now)
    ∙ sym (any_is (λ d. d.name.text) (λ other. bytes_eq other c.args.name.now) c.self.inside.file.now.types))
