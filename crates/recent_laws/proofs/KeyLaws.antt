-- Keys: the test that two are the same decides it, and how the ticks of a key grow.
use Rattle.std.proofs.Common.{◌≡◌, refl, ◌∙◌, ap, ◌+◌, ℤ, int_le, true, false, cond, List, [], ◌∷◌, ◌++◌, length, length-append, arith}
use Rattle.std.specs.Prelude.{Option, Some, None}
use Rattle.std.proofs.lemmas.Bool.{and_parts, and_from}
use Rattle.std.proofs.lemmas.Int.{ints}
use Rattle.std.proofs.lemmas.List.{append-nil}
use Rattle.std.proofs.lemmas.Slice.Eq.{bytes_eq-Decides}
use Rattle.cep_event.specs.declared.event.Event.{Event}
use Rattle.cep_event.specs.declared.record.Moment.{Moment}
use Rattle.cep_event.specs.declared.value.Value.{Value}
use Rattle.cep_event.specs.declared.value.Value.TheVariants as value
use Rattle.cep_plan.specs.declared.plan.Plan.{Plan}
use Rattle.cep_plan.specs.Tick.{Tick, event_tick, mark_tick, events_of}
use Rattle.cep_plan.specs.Keys.{key_of, same_value, same_key, is_of_key, ticks_of_key}
use Rattle.recent_laws.specs.Recent.{place_after}
use Rattle.recent_laws.proofs.BehindLaws.{filter-append}
use Rattle.recent_laws.proofs.NextLaws.{events_of-event, events_of-mark}

one_number : (x y : ℤ) → int_le x y ≡ true → int_le y x ≡ true → x ≡ y
one_number x y h k = grind (arith, ints)

reached_itself : (x : ℤ) → int_le x x ≡ true
reached_itself x = grind (arith, ints)

same_value-equal : (x y : Value) → same_value x y ≡ true → x ≡ y
same_value-equal (value.Int x) (value.Int y) h = let both = and_parts (int_le x y) (int_le y x) h in ap value.Int (one_number x y both.0 both.1)
same_value-equal (value.Int x) (value.Text y) h = let wrong : false ≡ true = h in absurd cc
same_value-equal (value.Text x) (value.Int y) h = let wrong : false ≡ true = h in absurd cc
same_value-equal (value.Text x) (value.Text y) h = ap value.Text ((bytes_eq-Decides x y).0 h)

pub same_key-equal : (x y : Option Value) → same_key x y ≡ true → x ≡ y
same_key-equal None None h = refl
same_key-equal None (Some y) h = let wrong : false ≡ true = h in absurd cc
same_key-equal (Some x) None h = let wrong : false ≡ true = h in absurd cc
same_key-equal (Some x) (Some y) h = ap Some (same_value-equal x y h)

pub same_key-itself : (x : Option Value) → same_key x x ≡ true
same_key-itself None = refl
same_key-itself (Some (value.Int x)) = and_from _ _ (reached_itself x) (reached_itself x)
same_key-itself (Some (value.Text x)) = (bytes_eq-Decides x x).1 refl

-- ---- one more tick of a key

pub ticks_of_key-append : (plan : Plan) (key : Option Value) (xs ys : List Tick)
    → ticks_of_key plan key (xs ++ ys) ≡ ticks_of_key plan key xs ++ ticks_of_key plan key ys
ticks_of_key-append plan key xs ys = filter-append (is_of_key plan key) xs ys

place-append : (plan : Plan) (key : Option Value) (before : List Tick) (tick : Tick)
    → place_after plan (before ++ tick ∷ []) key ≡ length (events_of (ticks_of_key plan key before ++ ticks_of_key plan key (tick ∷ [])))
place-append plan key before tick = ap (λ l. length (events_of l)) (ticks_of_key-append plan key before (tick ∷ []))

pub place-own : (plan : Plan) (key : Option Value) (before : List Tick) (event : Event) → same_key (key_of plan event) key ≡ true
    → place_after plan (before ++ event_tick event ∷ []) key ≡ place_after plan before key + 1
place-own plan key before event is =
    place-append plan key before (event_tick event)
    ∙ ap (λ b. length (events_of (ticks_of_key plan key before ++ cond b (event_tick event ∷ []) []))) is
    ∙ ap length (events_of-event (ticks_of_key plan key before) event) ∙ length-append (events_of (ticks_of_key plan key before)) (event ∷ [])

pub place-other : (plan : Plan) (key : Option Value) (before : List Tick) (event : Event) → same_key (key_of plan event) key ≡ false
    → place_after plan (before ++ event_tick event ∷ []) key ≡ place_after plan before key
place-other plan key before event is =
    place-append plan key before (event_tick event)
    ∙ ap (λ b. length (events_of (ticks_of_key plan key before ++ cond b (event_tick event ∷ []) []))) is
    ∙ ap (λ l. length (events_of l)) (append-nil (ticks_of_key plan key before))

pub place-mark : (plan : Plan) (key : Option Value) (before : List Tick) (moment : Moment)
    → place_after plan (before ++ mark_tick moment ∷ []) key ≡ place_after plan before key
place-mark plan key before moment = place-append plan key before (mark_tick moment) ∙ ap length (events_of-mark (ticks_of_key plan key before) moment)
