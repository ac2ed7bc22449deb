use Rattle.std.proofs.Common.{◌≡◌, ◌∙◌, true, cond, arith}
use Rattle.std.specs.Prelude.{string_bytes}
use Rattle.std.specs.BTreeSet.{contains_text}
use Rattle.std.specs.Str.{bytes_eq}
use Rattle.std.proofs.lemmas.Grind.{common_steps}
use Rattle.std.proofs.lemmas.Map.Text.{btree_set_updates_text}
use Rattle.pattern_rules.proofs.TypeLaws.{set_case}
use Rattle.pattern_rules.proofs.type_fields.with_name.Goals as goal

pub returns : goal.returns
returns c = λ q.
    let key : string_bytes c.in_ok-key.key ≡ c.args.name.now = first_of (cc, grind (arith, common_steps)) in
    btree_set_updates_text (string_bytes c.in_ok-key.key) c.args.names c.insert.new.self true c.in_ok-insert.ensures.updates q
    ∙ (λ i. cond (bytes_eq (key i) q) true (contains_text c.args.names q))
    ∙ set_case (bytes_eq c.args.name.now q) (contains_text c.args.names q)
