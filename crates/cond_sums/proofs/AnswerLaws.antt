-- Which questions are answered, and what the answers are.
use Rattle.std.proofs.Common.{◌≡◌, refl, sym, ◌∙◌, ap, subst, ℕ, zero, suc, ◌+◌, ◌<◌, length, Bool, true, false, ◌||◌, List, [], ◌∷◌, map, arith}
use Rattle.std.specs.List.{All, flat_map, list_any, range_with_len, Contains}
use Rattle.std.specs.Prelude.{Some, slice_get}
use Rattle.std.specs.Option.{option_to_list, unwrap_or}
use Rattle.std.proofs.lemmas.Option.{slice_get_within, slice_get-get_or}
use Rattle.std.proofs.lemmas.Bool.{eq-eqb, and_from}
use Rattle.std.proofs.lemmas.List.FromFn.{length-range_with_len, get_or-range_with_len}
use Rattle.std.proofs.lemmas.List.Elements.{All-contains_itself, All-weaker, Contains-append_left, Contains-append_right}
use Rattle.cep_plan.specs.declared.condition.Cond.{Cond}
use Rattle.cep_plan.specs.declared.plan.Plan.{Plan}
use Rattle.cep_plan.specs.declared.plan.Stage.{Stage}
use Rattle.cep_plan.specs.declared.plan.Negation.{Negation}
use Rattle.cep_plan.specs.Question.{Question, how_many, aggregate}
use Rattle.cond_eval.specs.Asked.{questions_in}
use Rattle.cond_sums.specs.declared.slot.Count.{Count}
use Rattle.cond_sums.specs.Questions.{IsWantedBy, pair_of, stage_of, conditions_of, conditions_in, questions_asked}
use Rattle.cond_sums.specs.Kept.{Summed, pair_kept, wanted_in, is_count_of, is_slot_of, CanAnswer}

in_head : {X : Type 0} (x y : X) (xs : List X) → x ≡ y → Contains (x ∷ xs) y
in_head x y xs is = (0, omega arith, is)

-- what one of the elements gives is among what all give
contains-flat_map : {X Y : Type 0} (f : X → List Y) (xs : List X) (x : X) (y : Y) → Contains xs x → Contains (f x) y → Contains (flat_map f xs) y
contains-flat_map f [] x y h g = absurd (omega (arith, h.1))
contains-flat_map {X} {Y} f (z ∷ xs) x y (zero, lt, is) g = let In : X → Type 0 = λ w. Contains (f w) y in
    Contains-append_left (f z) (flat_map f xs) y (subst In (sym is) g)
contains-flat_map f (z ∷ xs) x y (suc k, lt, is) g = Contains-append_right (f z) (flat_map f xs) y (contains-flat_map f xs x y (k, omega (arith, lt), is) g)

-- a test that holds of one of the elements
any-contains : {X Y : Type 0} (f : X → Y) (test : X → Bool) (xs : List X) (y : Y) → ((x : X) → f x ≡ y → test x ≡ true) → Contains (map f xs) y
    → list_any test xs ≡ true
any-contains f test [] y holds h = absurd (omega (arith, h.1))
any-contains f test (x ∷ xs) y holds (zero, lt, is) = ap (λ b. b || list_any test xs) (holds x is)
any-contains f test (x ∷ xs) y holds (suc k, lt, is) = ap (λ b. test x || b) (any-contains f test xs y holds (k, omega (arith, lt), is)) ∙ or_true (test x)
  where
    or_true : (b : Bool) → (b || true) ≡ true
    or_true true = refl
    or_true false = refl

is-counted : (sums : Summed) (stage : ℕ) → Contains (wanted_in sums).counted stage → CanAnswer sums (how_many stage)
is-counted sums stage among =
    any-contains (λ (count : Count). count.stage) (is_count_of stage) sums.counts stage (λ count is. eq-eqb count.stage stage is) among

-- each number below a bound is among those below it
contains-number : (n k : ℕ) → k < n → Contains (range_with_len 0 n) k
contains-number n k below =
    let same : 0 + k ≡ k = omega arith in
    (k, rw (length-range_with_len 0 n) below, get_or-range_with_len 0 n k k below ∙ same)

-- what the plan's conditions ask is answered by what keeps what the plan wants
pub can-answer : (plan : Plan) (sums : Summed) → IsWantedBy plan (wanted_in sums) → (q : Question) → Contains (questions_asked plan) q → CanAnswer sums q
can-answer plan sums wanted (how_many stage) asked =
    is-counted sums stage ((wanted.counted_are stage).1
    (Contains-append_left (flat_map stage_of (questions_asked plan)) (range_with_len 0 (length plan.stages)) stage
    (contains-flat_map stage_of (questions_asked plan) (how_many stage) stage asked (in_head stage stage [] refl))))
can-answer plan sums wanted (aggregate agg stage field) asked =
    any-contains pair_kept (is_slot_of stage field) sums.slots (stage, field)
    (λ kept is. and_from _ _ (eq-eqb kept.stage stage (ap (λ p. p.0) is)) (eq-eqb kept.field field (ap (λ p. p.1) is)))
    ((wanted.pairs_are (stage, field)).1
    (contains-flat_map pair_of (questions_asked plan) (aggregate agg stage field) (stage, field) asked (in_head (stage, field) (stage, field) [] refl)))

-- every stage of the plan is counted
pub can-count : (plan : Plan) (sums : Summed) → IsWantedBy plan (wanted_in sums) → (stage : ℕ) → stage < length plan.stages → CanAnswer sums (how_many stage)
can-count plan sums wanted stage within =
    is-counted sums stage ((wanted.counted_are stage).1
    (Contains-append_right (flat_map stage_of (questions_asked plan)) (range_with_len 0 (length plan.stages)) stage
    (contains-number (length plan.stages) stage within)))

-- each condition of the plan may be asked of what keeps what the plan's conditions want
pub can-ask : (plan : Plan) (sums : Summed) → IsWantedBy plan (wanted_in sums) → (cond : Cond) → Contains (conditions_in plan) cond
    → All (CanAnswer sums) (questions_in cond)
can-ask plan sums wanted cond stands =
    All-weaker (Contains (questions_in cond)) (CanAnswer sums)
    (λ q asked. can-answer plan sums wanted q (contains-flat_map questions_in (conditions_in plan) cond q stands asked)) (questions_in cond)
    (All-contains_itself (questions_in cond))

-- where the conditions of a plan stand
pub stage-condition : (plan : Plan) (stage : Stage) → Contains plan.stages stage → Contains (conditions_in plan) stage.cond
stage-condition plan stage stands = Contains-append_left (flat_map conditions_of plan.stages) (map (λ negation. negation.cond) plan.negations) stage.cond
    (contains-flat_map conditions_of plan.stages stage stage.cond stands (in_head stage.cond stage.cond (option_to_list stage.until) refl))

pub stage-until : (plan : Plan) (stage : Stage) (until : Cond) → Contains plan.stages stage → stage.until ≡ Some until → Contains (conditions_in plan) until
stage-until plan stage until stands is = Contains-append_left (flat_map conditions_of plan.stages) (map (λ negation. negation.cond) plan.negations) until
    (contains-flat_map conditions_of plan.stages stage until stands
    (Contains-append_right (stage.cond ∷ []) (option_to_list stage.until) until
    (let In : List Cond → Type 0 = λ conds. Contains conds until in subst In (sym (ap option_to_list is)) (in_head until until [] refl))))

contains-map : {X Y : Type 0} (f : X → Y) (xs : List X) (x : X) → Contains xs x → Contains (map f xs) (f x)
contains-map f [] x h = absurd (omega (arith, h.1))
contains-map f (y ∷ xs) x (zero, lt, is) = (0, omega arith, ap f is)
contains-map f (y ∷ xs) x (suc k, lt, is) = Contains-append_right (f y ∷ []) (map f xs) (f x) (contains-map f xs x (k, omega (arith, lt), is))

pub negation-condition : (plan : Plan) (negation : Negation) → Contains plan.negations negation → Contains (conditions_in plan) negation.cond
negation-condition plan negation stands =
    Contains-append_right (flat_map conditions_of plan.stages) (map (λ negation. negation.cond) plan.negations) negation.cond
    (contains-map (λ (negation : Negation). negation.cond) plan.negations negation stands)

-- one that was found at its place
pub contains-got : {X : Type 0} (xs : List X) (i : ℕ) (x : X) → Some x ≡ slice_get xs i → Contains xs x
contains-got xs i x is =
    let within = slice_get_within xs i x (sym is) in
    (i, within, ap (λ o. unwrap_or o x) (sym (is ∙ slice_get-get_or xs i x within)))
