use Rattle.std.proofs.Common.{◌∙◌, sym, ap}
use Rattle.std.specs.Str.{bytes_eq}
use Rattle.pattern_rules.specs.Names.{is_below}
use Rattle.pattern_rules.proofs.NameLaws.{any_below}
use Rattle.pattern_rules.proofs.indexed.IndexedFile.is_stage_before.Goals as goal

pub returns : goal.returns
returns c =
    rw (← c.self.view_is) (
    c.is_before.ensures
    ∙ ap (λ o. is_below o c.args.number) (c.self.invariant.stages c.args.name.now)
    ∙ sym (any_below (λ o. o.name.text) (λ other. bytes_eq other c.args.name.now) c.self.inside.file.now.openers c.args.number))
