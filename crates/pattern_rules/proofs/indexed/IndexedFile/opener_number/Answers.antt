use Rattle.std.proofs.Common.{◌∙◌, sym, ap, length}
use Rattle.std.specs.Option.{unwrap_or}
use Rattle.std.specs.Str.{bytes_eq}
use Rattle.pattern_rules.proofs.NameLaws.{position_or_len_by}
use Rattle.pattern_rules.proofs.indexed.IndexedFile.opener_number.Goals as goal

pub returns-in-Some : goal.returns-in-Some
returns-in-Some c =
    rw (← c.self.view_is) (
    ap (λ o. unwrap_or o (length c.self.inside.file.now.openers)) (sym c.in-Some.is ∙ c.number.ensures ∙ c.self.invariant.stages c.args.name.now)
    ∙ sym (position_or_len_by (λ o. o.name.text) (λ other. bytes_eq other c.args.name.now) c.self.inside.file.now.openers))

pub returns-in-None : goal.returns-in-None
returns-in-None c =
    rw (← c.self.view_is) (
    ap length c.as_slice.ensures
    ∙ ap (λ o. unwrap_or o (length c.self.inside.file.now.openers)) (sym c.in-None.is ∙ c.number.ensures ∙ c.self.invariant.stages c.args.name.now)
    ∙ sym (position_or_len_by (λ o. o.name.text) (λ other. bytes_eq other c.args.name.now) c.self.inside.file.now.openers))
