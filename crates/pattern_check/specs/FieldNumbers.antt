-- The numbers of the fields of a plan. It speaks of plans alone, and is this project's own.
use Rattle.std.specs.Prelude.{◌≡◌, ℕ, ◌≤◌, Bool, true, not, ◌&&◌, ◌==◌, List, [], ◌∷◌, ◌++◌, length, map, fold, if◌then◌else◌}
use Rattle.std.specs.List.{list_all, flat_map, position_or_len}
use Rattle.std.specs.Str.{bytes_eq}
use Rattle.cep_event.specs.declared.event.Field.{Field}
use Rattle.cep_event.specs.declared.event.EventType.{EventType}
use Rattle.cep_plan.specs.declared.plan.Plan.{Plan}
use Rattle.pattern_rules.specs.Declarations.{same_kind}
use Rattle.pattern_check.specs.Names.{is_among, are_distinct}

-- the fields of all types, in the order of declaration
abbrev pub all_fields : List EventType → List Field
all_fields types = flat_map (λ t. t.fields) types

-- the names with one more, if it is new
abbrev pub with_name : List (List ℕ) → List ℕ → List (List ℕ)
with_name names name = if is_among names name then names else names ++ name ∷ []

-- the distinct names of fields in the order of first declaration
unfoldable pub field_names : List EventType → List (List ℕ)
field_names types = fold (λ names f. with_name names f.name) [] (all_fields types)

-- the place of a name among the names
abbrev pub number_of : List (List ℕ) → List ℕ → ℕ
number_of names name = position_or_len (bytes_eq name) names

-- two fields have one number where they have one name, and then one kind, and two numbers where they have two names
abbrev pub one_meaning : Field → Field → Bool
one_meaning f g = if f.number == g.number then bytes_eq f.name g.name && same_kind f.kind g.kind else not (bytes_eq f.name g.name)

-- The number of a field is that of its name in the order of first declaration, one number means one name and one kind throughout, and no type has a name twice.
pub record HasNumberedFields (plan : Plan) : Type 0 where
  pub few : length (field_names plan.types) ≤ 65535
  pub numbers : list_all (λ f. f.number == number_of (field_names plan.types) f.name) (all_fields plan.types) ≡ true
  pub meanings : list_all (λ f. list_all (one_meaning f) (all_fields plan.types)) (all_fields plan.types) ≡ true
  pub once : list_all (λ t. are_distinct (map (λ f. f.name) t.fields)) plan.types ≡ true
