use Rattle.std.proofs.Common.{◌≡◌, ◌∙◌, true, false, arith}
use Rattle.std.specs.Prelude.{Some, string_bytes}
use Rattle.std.specs.List.{position}
use Rattle.std.specs.Map.{update}
use Rattle.std.specs.Option.{is_some}
use Rattle.std.specs.Str.{bytes_eq}
use Rattle.std.specs.BTreeMap.{get_by_text}
use Rattle.std.proofs.lemmas.Grind.{common_steps}
use Rattle.std.proofs.lemmas.Map.Text.{btree_map_updates_text}
use Rattle.pattern_rules.proofs.NameLaws.{new_name, known_name}
use Rattle.pattern_rules.proofs.names.Names.add.Goals as goal

pub returns-then-is_some : goal.returns-then-is_some
returns-then-is_some c = λ names number is q.
    let found : is_some (position (λ other. bytes_eq other c.args.name.now) names) ≡ true = let law = is c.args.name.now in first_of (cc, grind (arith, common_steps)) in
    is q ∙ known_name names c.args.name.now found q

pub returns : goal.returns
returns c = λ names number is q.
    let new : is_some (position (λ other. bytes_eq other c.args.name.now) names) ≡ false = let law = is c.args.name.now in first_of (cc, grind (arith, common_steps)) in
    let key : string_bytes c.in_ok-key.key ≡ c.args.name.now = first_of (cc, grind (arith, common_steps)) in
    btree_map_updates_text (string_bytes c.in_ok-key.key) c.args.self.now.numbers c.insert.new.self _ c.in_ok-insert.ensures.updates q
    ∙ (λ i. update bytes_eq (get_by_text c.args.self.now.numbers) (key i) (Some (number i)) q)
    ∙ new_name names c.args.name.now (get_by_text c.args.self.now.numbers) is new q
