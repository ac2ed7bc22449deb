-- The definitions of a checked plan's facts, computed at small plans.
use Rattle.std.proofs.Common.{◌≡◌, true, false, List, [], ◌∷◌, refl}
use Rattle.cep_event.specs.declared.event.EventType.{EventType}
use Rattle.cep_event.specs.declared.value.Kind.TheVariants as kind
use Rattle.cep_plan.specs.declared.condition.Agg.TheVariants as agg
use Rattle.cep_plan.specs.declared.condition.Cmp.TheVariants as cmp
use Rattle.cep_plan.specs.declared.condition.Expr as plan
use Rattle.cep_plan.specs.declared.condition.Expr.TheBlock.{hidden-the_row-Expr-1}
use Rattle.pattern_rules.specs.declared.kind.Sort.TheVariants as sort
use Rattle.pattern_rules.specs.declared.kind.Wanted.TheVariants as want
use Rattle.pattern_check.specs.Names.{are_distinct}
use Rattle.pattern_check.specs.FieldNumbers.{field_names, number_of, one_meaning}
use Rattle.pattern_check.specs.Sorts.{sort_of, has_sort}

-- two types: the first with the fields 7 and 8, the second with 8 and 9
abbrev two_types : List EventType
two_types =
    record { name = 1 ∷ []; fields = record { name = 7 ∷ []; number = 0; kind = kind.Int } ∷ record { name = 8 ∷ []; number = 1; kind = kind.Text } ∷ [] }
    ∷ record { name = 2 ∷ []; fields = record { name = 8 ∷ []; number = 1; kind = kind.Text } ∷ record { name = 9 ∷ []; number = 2; kind = kind.Int } ∷ [] }
    ∷ []

apart : are_distinct ((1 ∷ []) ∷ (2 ∷ []) ∷ (1 ∷ 2 ∷ []) ∷ []) ≡ true
apart = refl

again : are_distinct ((1 ∷ []) ∷ (2 ∷ []) ∷ (1 ∷ []) ∷ []) ≡ false
again = refl

three_names : field_names two_types ≡ (7 ∷ []) ∷ (8 ∷ []) ∷ (9 ∷ []) ∷ []
unfolding field_names
three_names = refl

third : number_of ((7 ∷ []) ∷ (8 ∷ []) ∷ (9 ∷ []) ∷ []) (9 ∷ []) ≡ 2
third = refl

another_kind : one_meaning (record { name = 8 ∷ []; number = 1; kind = kind.Text }) (record { name = 8 ∷ []; number = 1; kind = kind.Int }) ≡ false
another_kind = refl

another_number : one_meaning (record { name = 8 ∷ []; number = 1; kind = kind.Text }) (record { name = 8 ∷ []; number = 2; kind = kind.Text }) ≡ false
another_number = refl

two_meanings : one_meaning (record { name = 8 ∷ []; number = 1; kind = kind.Text }) (record { name = 9 ∷ []; number = 2; kind = kind.Int }) ≡ true
two_meanings = refl

text_field : sort_of two_types (plan.Field 1) ≡ sort.Text
text_field = refl

sum_of_texts : has_sort two_types want.Value (plan.Of agg.Sum 0 1) ≡ false
sum_of_texts = refl

last_of_texts : has_sort two_types (want.Only sort.Text) (plan.Of agg.Last 0 1) ≡ true
last_of_texts = refl

number_and_text : has_sort two_types (want.Only sort.Bool) (plan.Compare cmp.Lt (plan.Field 0) (plan.Field 1)) ≡ false
unfolding hidden-the_row-Expr-1 denote.Hole.Carrier.hidden
number_and_text = refl
