use Rattle.std.proofs.Common.{◌≡◌, ◌∙◌, [], ◌∷◌, ◌++◌, ap, true, false, arith}
use Rattle.std.specs.Prelude.{Some}
use Rattle.std.specs.Str.{bytes_eq}
use Rattle.std.specs.Map.{update}
use Rattle.std.specs.String.{string_bytes}
use Rattle.std.proofs.lemmas.Grind.{common_steps}
use Rattle.std.proofs.lemmas.Map.Text.{btree_map_updates_text}
use Rattle.std.specs.BTreeMap.{get_by_text}
use Rattle.cep_event.specs.declared.event.Field.{Field}
use Rattle.pattern_rules.specs.Named.{meaning}
use Rattle.pattern_rules.specs.Fields.{is_known}
use Rattle.pattern_rules.proofs.FieldLaws.{known_is, with_known, with_new, more_indexed}
use Rattle.pattern_rules.proofs.fields.KnownFields.with.Goals as goal

pub returns-then-is_some-clause-ok : goal.returns-then-is_some-clause-ok
returns-then-is_some-clause-ok c =
    let law = known_is c.args.self c.args.declared.now.name.text in
    let known : is_known c.args.self c.args.declared.now.name.text ≡ true = first_of (cc, grind (arith, common_steps)) in
    with_known c.args.self c.args.declared.now known

pub returns-clause-ok : goal.returns-clause-ok
returns-clause-ok c =
    let law = known_is c.args.self c.args.declared.now.name.text in
    let new : is_known c.args.self c.args.declared.now.name.text ≡ false = first_of (cc, grind (arith, common_steps)) in
    let is = with_new c.args.self c.args.declared.now new in
    first_of (cc, grind (arith, common_steps))

pub invariant_of-result : goal.invariant_of-result
invariant_of-result c =
    let law = known_is c.args.self c.args.declared.now.name.text in
    let new : is_known c.self.inside.list c.in_ok-name.name ≡ false = first_of (cc, grind (arith, common_steps)) in
    let key : string_bytes c.in_ok-key.key ≡ c.in_ok-name.name = first_of (cc, grind (arith, common_steps)) in
    let made : Field = record { name = c.in_ok-name.name; number = c.len-number.result; kind = c.args.declared.now.kind } in
    let pushed : c.self.inside.list ++ made ∷ [] ≡ c.push.new.self = first_of (cc, grind (arith, common_steps)) in
    record {
      found = λ q.
          btree_map_updates_text (string_bytes c.in_ok-key.key) c.self.inside.index c.insert.new.self _ c.in_ok-insert.ensures.updates q
          ∙ (λ i. update bytes_eq (get_by_text c.self.inside.index) (key i) (Some (c.len-number.result, c.args.declared.now.kind)) q)
          ∙ more_indexed c.self.inside.list made (get_by_text c.self.inside.index) c.self.invariant.found new q
          ∙ ap (λ xs. meaning xs q) pushed;
    }
