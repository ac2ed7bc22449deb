use Rattle.std.proofs.Common.{◌≡◌, ◌∙◌, ◌||◌, ℕ, List, cond, ap, arith}
use Rattle.std.specs.Prelude.{Some, None, string_bytes}
use Rattle.std.specs.BTreeMap.{get_by_text}
use Rattle.std.specs.BTreeSet.{contains_text}
use Rattle.std.specs.Map.{update}
use Rattle.std.specs.Str.{bytes_eq}
use Rattle.std.proofs.lemmas.Grind.{common_steps}
use Rattle.std.proofs.lemmas.Map.Text.{btree_map_updates_text}
use Rattle.pattern_rules.specs.Named.{is_declared}
use Rattle.pattern_rules.specs.TypeFields.{holds}
use Rattle.pattern_rules.proofs.TypeLaws.{with_type}
use Rattle.pattern_rules.proofs.type_fields.TypeFields.with_type.Goals as goal

pub returns : goal.returns
returns c = λ types is type name.
    let asked : c.as_str.result.now ≡ c.args.declared.now.name.text = c.as_str.ensures in
    let key : string_bytes c.in_ok-key.key ≡ c.args.declared.now.name.text = first_of (cc, grind (arith, common_steps)) in
    let removed
    = btree_map_updates_text c.as_str.result.now c.args.self.types c.remove-found.new.self None c.remove-found.ensures.updates type
    ∙ (λ i. update bytes_eq (get_by_text c.args.self.types) (asked i) None type) in
    let inserted
    = btree_map_updates_text (string_bytes c.in_ok-key.key) c.remove-found.new.self c.insert.new.self _ c.in_ok-insert.ensures.updates type
    ∙ (λ i. update bytes_eq (get_by_text c.remove-found.new.self) (key i) (Some c.in_ok-names.names) type)
    ∙ ap (cond (bytes_eq c.args.declared.now.name.text type) (Some c.in_ok-names.names)) removed in
    let made : (q : List ℕ) → contains_text c.in_ok-names.names q ≡ (holds (get_by_text c.args.self.types c.args.declared.now.name.text) q || is_declared c.args.declared.now.fields q)
    = λ q.
    c.in_ok-names.ensures q
    ∙ ap (λ b. b || is_declared c.as_slice.result.now q)
    (c.names_in.ensures q ∙ ap (λ o. holds o q) c.remove-found.ensures.value ∙ ap (λ t. holds (get_by_text c.args.self.types t) q) asked)
    ∙ ap (λ fields. holds (get_by_text c.args.self.types c.args.declared.now.name.text) q || is_declared fields q) c.as_slice.ensures in
    ap (λ o. holds o name) inserted ∙ with_type types c.args.declared.now (get_by_text c.args.self.types) c.in_ok-names.names is made type name
