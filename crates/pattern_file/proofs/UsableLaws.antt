-- The types of a plan have as many fields as those of its file, and their names.
use Rattle.std.proofs.Common.{◌≡◌, ◌≤◌, ℕ, true, List, [], ◌∷◌, length, refl, sym, arith, subst}
use Rattle.std.specs.List.{AllByRecursion as Each, list_all, sum_by}
use Rattle.std.proofs.lemmas.Bool.{and_from, and_parts}
use Rattle.std.proofs.lemmas.List.{length-map}
use Rattle.std.proofs.lemmas.List.Sums.{sum_by-cons}
use Rattle.cep_event.specs.declared.event.EventType.{EventType}
use Rattle.cep_event.specs.declared.event.Field.{Field}
use Rattle.cep_plan.specs.declared.plan.Plan.{Plan}
use Rattle.cep_syntax.specs.declared.file.File.{File}
use Rattle.cep_syntax.specs.declared.file.TypeDecl.{TypeDecl}
use Rattle.cep_syntax.specs.WellFormed.{is_formed_type, IsWellFormed}
use Rattle.cep_token.specs.Form.{is_word}
use Rattle.pattern_check.specs.Checked.{IsChecked}
use Rattle.pattern_check.specs.Names.{HasDistinctNames}
use Rattle.pattern_check.specs.Plan.{field_of, types_of, plan_of}
use Rattle.pattern_rules.specs.Fields.{known_fields}
use Rattle.pattern_file.specs.Usable.{IsUsable}

each_few : (known : List Field) (types : List TypeDecl) (bound : ℕ) → sum_by (λ (d : TypeDecl). length d.fields) types ≤ bound → Each (λ (t : EventType). length t.fields ≤ bound) (types_of known types)
each_few known [] bound h = tt
each_few known (d ∷ types) bound h =
    let split = sum_by-cons (λ (d : TypeDecl). length d.fields) d types in
    (omega (arith, h, split, length-map d.fields (field_of known)), each_few known types bound (omega (arith, h, split)))

fields_few : (file : File) → IsWellFormed file → Each (λ (t : EventType). length t.fields ≤ 65535) (plan_of file).types
unfolding plan_of
fields_few file formed = each_few (known_fields file.types) file.types 65535 formed.few_fields

all_words : (known : List Field) (types : List TypeDecl) → list_all is_formed_type types ≡ true → list_all (λ (t : EventType). is_word t.name) (types_of known types) ≡ true
all_words known [] h = refl
all_words known (d ∷ types) h =
    let split = and_parts (is_formed_type d) (list_all is_formed_type types) h in
    and_from (is_word d.name.text) _ (and_parts (is_word d.name.text) _ split.0).0 (all_words known types split.1)

named_by_words : (file : File) → IsWellFormed file → list_all (λ (t : EventType). is_word t.name) (plan_of file).types ≡ true
unfolding plan_of
named_by_words file formed = all_words (known_fields file.types) file.types formed.types

pub usable : (file : File) (plan : Plan) → IsWellFormed file → IsChecked plan → HasDistinctNames plan → plan ≡ plan_of file → IsUsable plan
usable file plan formed checked named is = record {
  checked = checked;
  fields = subst (λ (p : Plan). Each (λ (t : EventType). length t.fields ≤ 65535) p.types) (sym is) (fields_few file formed);
  words = subst (λ (p : Plan). list_all (λ (t : EventType). is_word t.name) p.types ≡ true) (sym is) (named_by_words file formed);
  named = named;
}
