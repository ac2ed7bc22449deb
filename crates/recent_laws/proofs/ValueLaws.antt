-- Values and conditions don't see positions: they are the same for two lists with the same events for each stage.
use Rattle.std.proofs.Common.{◌≡◌, refl, ℕ, pos, not, List, ◌∷◌, fold}
use Rattle.std.specs.Prelude.{Option, Some, length, filter_map, option_and_then, ◌+ℤ◌}
use Rattle.std.specs.List.{list_any, list_all}
use Rattle.cep_event.specs.declared.event.Event.{Event}
use Rattle.cep_event.specs.declared.event.EventType.{EventType}
use Rattle.cep_plan.specs.declared.condition.Agg.{Agg}
use Rattle.cep_plan.specs.declared.condition.Agg.TheVariants as agg
use Rattle.cep_plan.specs.declared.condition.Cond.{Cond}
use Rattle.cep_plan.specs.declared.condition.Expr.{Expr, Int, Text, Bool as Truth, Field, Count, Of, Any', All', Compare', Add', Mul', Not', Neg', Row_of-Expr, end_of-Expr, more_of-Expr, Row_of-Term, end_of-Term, more_of-Term, Row_of-Factor, end_of-Factor, more_of-Factor}
use Rattle.cep_plan.specs.declared.item.Taken.{Taken}
use Rattle.cep_plan.specs.Answer.{Answer, number, truth, is_true, negated, add_part, multiply_part, compared, in_word, answer_held}
use Rattle.cep_plan.specs.Aggregate.{taken_for, number_in, field_of, aggregate_answer, drawn_together, lesser, greater, first_event, last_event}
use Rattle.cep_plan.specs.Value.{value_of, part_answers, term_answers, factor_answers, only}
use Rattle.cep_plan.specs.Condition.{condition_holds, parts_hold}

module _ (types : List EventType) (event : Option Event) (list other : List Taken) (same : (stage : ℕ) → taken_for stage list ≡ taken_for stage other) where
  aggregate-same : (a : Agg) (stage field : ℕ) → aggregate_answer types a stage field list ≡ aggregate_answer types a stage field other
  aggregate-same agg.Sum stage field = λ i. aggregate_sum (same stage i) where
    aggregate_sum : List Event → Answer
    aggregate_sum events = in_word (fold (λ x y. x +ℤ y) (pos 0) (filter_map (λ e. number_in (field_of types field e)) events))
  aggregate-same agg.Min stage field = λ i. drawn_together lesser (filter_map (λ e. number_in (field_of types field e)) (same stage i))
  aggregate-same agg.Max stage field = λ i. drawn_together greater (filter_map (λ e. number_in (field_of types field e)) (same stage i))
  aggregate-same agg.First stage field = λ i. answer_held (option_and_then (field_of types field) (first_event (same stage i)))
  aggregate-same agg.Last stage field = λ i. answer_held (option_and_then (field_of types field) (last_event (same stage i)))

  mutual
    pub value_of-same : (x : Expr) → value_of types event list x ≡ value_of types event other x
    value_of-same (Int n) = refl
    value_of-same (Text t) = refl
    value_of-same (Truth b) = refl
    value_of-same (Field field) = refl
    value_of-same (Count stage) = λ i. number (pos (length (same stage i)))
    value_of-same (Of a stage field) = aggregate-same a stage field
    value_of-same (Any' _ parts) = λ i. truth (list_any is_true (part_answers-same parts i))
    value_of-same (All' _ parts) = λ i. truth (list_all is_true (part_answers-same parts i))
    value_of-same (Compare' c _ x _ y) = λ i. truth (compared c (only (part_answers-same x i)) (only (part_answers-same y i)))
    value_of-same (Add' _ terms) = λ i. fold add_part (number (pos 0)) (term_answers-same terms i)
    value_of-same (Mul' _ factors) = λ i. fold multiply_part (number (pos 1)) (factor_answers-same factors i)
    value_of-same (Not' _ x) = λ i. truth (not (is_true (only (part_answers-same x i))))
    value_of-same (Neg' _ x) = λ i. negated (only (part_answers-same x i))

    part_answers-same : {n : _} (row : Row_of-Expr n) → part_answers types event list row ≡ part_answers types event other row
    part_answers-same end_of-Expr = refl
    part_answers-same (more_of-Expr x row) = λ i. value_of-same x i ∷ part_answers-same row i

    term_answers-same : {n : _} (row : Row_of-Term n) → term_answers types event list row ≡ term_answers types event other row
    term_answers-same end_of-Term = refl
    term_answers-same (more_of-Term minus x row) = λ i. (minus, value_of-same x i) ∷ term_answers-same row i

    factor_answers-same : {n : _} (row : Row_of-Factor n) → factor_answers types event list row ≡ factor_answers types event other row
    factor_answers-same end_of-Factor = refl
    factor_answers-same (more_of-Factor how x row) = λ i. (how, value_of-same x i) ∷ factor_answers-same row i

-- a condition holds of both lists or of none
pub condition_holds-same : (types : List EventType) (event : Event) (list other : List Taken) (condition : Cond)
    → ((stage : ℕ) → taken_for stage list ≡ taken_for stage other) → condition_holds types event list condition ≡ condition_holds types event other condition
unfolding condition_holds
condition_holds-same types event list other condition same = λ i. parts_hold
    (λ part. is_true (value_of-same types (Some event) list other same part.expr i)) condition.parts
