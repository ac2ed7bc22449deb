-- How the aggregates of a list of taken events grow by one more event.
use Rattle.std.proofs.Common.{◌≡◌, refl, sym, ◌∙◌, ap, ℕ, ◌+◌, ◌-◌, ◌≤◌, ◌<◌, ℤ, pos, ◌+ℤ◌, Bool, true, false, cond, List, [], ◌∷◌, ◌++◌, length, map, fold, take, get_or, arith}
use Rattle.std.specs.Prelude.{Option, Some, None, ◌==◌, filter, filter_map}
use Rattle.std.specs.Option.{option_to_list, unwrap_or}
use Rattle.std.specs.List.{reduce, cons_option, last_or, count_by}
use Rattle.std.proofs.lemmas.Bool.{eq-eqb}
use Rattle.std.proofs.lemmas.Int.{ints}
use Rattle.std.proofs.lemmas.List.{take_more, take_all, map-append, append-nil, length-map}
use Rattle.std.proofs.lemmas.List.Sums.{fold-append, length-filter}
use Rattle.std.proofs.lemmas.List.Elements.{filter_map-append, filter_more}
use Rattle.cep_event.specs.declared.event.EventType.{EventType}
use Rattle.cep_event.specs.declared.event.Event.{Event}
use Rattle.cep_plan.specs.declared.item.Taken.{Taken}
use Rattle.cep_plan.specs.Aggregate.{field_of, number_in, taken_for, numbers_of, drawn_together, last_event}
use Rattle.cond_eval.specs.Known.{number_if_known, drawn, number_taken}

-- the numbers, read off the list itself
numbers_of-list : (types : List EventType) (stage field : ℕ) (list : List Taken)
    → numbers_of types stage field list ≡ filter_map (number_taken types stage field) list
numbers_of-list types stage field [] = refl
numbers_of-list types stage field (taken ∷ list) = here (taken.stage == stage) (numbers_of-list types stage field list)
  where
    read : Event → Option ℤ
    read event = number_in (field_of types field event)

    here : (b : Bool) → filter_map read (taken_for stage list) ≡ filter_map (number_taken types stage field) list
        → filter_map read (map (λ t. t.event) (cond b (taken ∷ filter (λ t. t.stage == stage) list) (filter (λ t. t.stage == stage) list)))
        ≡ cons_option (cond b (read taken.event) None) (filter_map (number_taken types stage field) list)
    here true e = ap (cons_option (read taken.event)) e
    here false e = e

pub drawn_together-reduce : (pick : ℤ → ℤ → ℤ) (xs : List ℤ) → drawn_together pick xs ≡ number_if_known (reduce pick xs)
drawn_together-reduce pick [] = refl
drawn_together-reduce pick (x ∷ xs) = refl

one_if_any : {Y : Type 0} (o : Option Y) → cons_option o [] ≡ option_to_list o
one_if_any None = refl
one_if_any (Some y) = refl

filter_map-more : {X Y : Type 0} (h : X → Option Y) (xs : List X) (i : ℕ) (d : X) → i < length xs
    → filter_map h (take (i + 1) xs) ≡ filter_map h (take i xs) ++ option_to_list (h (get_or xs i d))
filter_map-more h xs i d within =
    ap (filter_map h) (take_more xs i d within)
    ∙ filter_map-append h (take i xs) (get_or xs i d ∷ [])
    ∙ ap (λ more. filter_map h (take i xs) ++ more) (one_if_any (h (get_or xs i d)))

pub reduce-more : (pick : ℤ → ℤ → ℤ) (xs : List ℤ) (o : Option ℤ) → reduce pick (xs ++ option_to_list o) ≡ drawn pick (reduce pick xs) o
reduce-more pick [] None = refl
reduce-more pick [] (Some y) = refl
reduce-more pick (x ∷ xs) None = ap (λ ys. Some (fold pick x ys)) (append-nil xs)
reduce-more pick (x ∷ xs) (Some y) = ap Some (fold-append pick x xs (y ∷ []))

pub last_or-push : {X : Type 0} (o : Option X) (xs : List X) (x : X) → last_or o (xs ++ x ∷ []) ≡ Some x
last_or-push o [] x = refl
last_or-push o (y ∷ xs) x = last_or-push (Some y) xs x

event_if : (b : Bool) (taken : Taken) → map (λ t. t.event) (cond b (taken ∷ []) []) ≡ cond b (taken.event ∷ []) []
event_if true taken = refl
event_if false taken = refl

taken_for-more : (stage : ℕ) (list : List Taken) (i : ℕ) (d : Taken) → i < length list
    → taken_for stage (take (i + 1) list) ≡ taken_for stage (take i list) ++ cond ((get_or list i d).stage == stage) ((get_or list i d).event ∷ []) []
taken_for-more stage list i d within =
    let of_stage : Taken → Bool = λ t. t.stage == stage in
    ap (map (λ t. t.event)) (filter_more of_stage list i d within)
    ∙ map-append (λ t. t.event) (filter of_stage (take i list)) (cond (of_stage (get_or list i d)) (get_or list i d ∷ []) [])
    ∙ ap (λ more. taken_for stage (take i list) ++ more) (event_if (of_stage (get_or list i d)) (get_or list i d))

pub length-taken_for : (stage : ℕ) (list : List Taken) → length (taken_for stage list) ≡ count_by (λ t. t.stage == stage) list
length-taken_for stage list = length-map (filter (λ t. t.stage == stage) list) (λ t. t.event) ∙ length-filter (λ t. t.stage == stage) list

-- the last event taken for the stage is that of the entry before a place, where that stands for the stage
pub last_event-here : (stage : ℕ) (list : List Taken) (place : ℕ) (d : Taken) → 0 < place → place ≤ length list
    → (get_or list (place - 1) d).stage ≡ stage → last_event (taken_for stage (take place list)) ≡ Some (get_or list (place - 1) d).event
last_event-here stage list place d some within is =
    let again : place - 1 + 1 ≡ place = omega arith in
    ap (λ n. last_event (taken_for stage (take n list))) (sym again)
    ∙ ap last_event (taken_for-more stage list (place - 1) d (omega arith)
    ∙ ap (λ b. taken_for stage (take (place - 1) list) ++ cond b ((get_or list (place - 1) d).event ∷ []) [])
    (eq-eqb (get_or list (place - 1) d).stage stage is))
    ∙ last_or-push None (taken_for stage (take (place - 1) list)) (get_or list (place - 1) d).event

module _ (types : List EventType) (stage field : ℕ) (list : List Taken) where
  abbrev numbers : List Taken → List ℤ
  numbers = filter_map (number_taken types stage field)

  -- one more event, drawn into those before
  pub drawn-more : (pick : ℤ → ℤ → ℤ) (i : ℕ) (d : Taken) → i < length list
      → reduce pick (numbers (take (i + 1) list))
      ≡ drawn pick (reduce pick (numbers (take i list))) (number_taken types stage field (get_or list i d))
  drawn-more pick i d within = ap (reduce pick) (filter_map-more (number_taken types stage field) list i d within)
      ∙ reduce-more pick (numbers (take i list)) (number_taken types stage field (get_or list i d))

  pub drawn-all : (pick : ℤ → ℤ → ℤ) (n : ℕ) → length list ≤ n
      → number_if_known (reduce pick (numbers (take n list))) ≡ drawn_together pick (numbers_of types stage field list)
  drawn-all pick n all =
      ap (λ l. number_if_known (reduce pick (numbers l))) (take_all n list all)
      ∙ sym (ap (drawn_together pick) (numbers_of-list types stage field list) ∙ drawn_together-reduce pick (numbers list))

  abbrev pub summed : List Taken → ℤ
  summed l = fold (λ x y. x +ℤ y) (pos 0) (numbers l)

  add_if_any : (x : ℤ) (o : Option ℤ) → fold (λ x y. x +ℤ y) x (option_to_list o) ≡ x +ℤ unwrap_or o (pos 0)
  add_if_any x None = omega (arith, ints)
  add_if_any x (Some y) = refl

  pub summed-more : (i : ℕ) (d : Taken) → i < length list
      → summed (take (i + 1) list) ≡ summed (take i list) +ℤ unwrap_or (number_taken types stage field (get_or list i d)) (pos 0)
  summed-more i d within =
      ap (fold (λ x y. x +ℤ y) (pos 0)) (filter_map-more (number_taken types stage field) list i d within)
      ∙ fold-append (λ x y. x +ℤ y) (pos 0) (numbers (take i list)) (option_to_list (number_taken types stage field (get_or list i d)))
      ∙ add_if_any (summed (take i list)) (number_taken types stage field (get_or list i d))

  pub summed-all : (n : ℕ) → length list ≤ n → summed (take n list) ≡ fold (λ x y. x +ℤ y) (pos 0) (numbers_of types stage field list)
  summed-all n all = ap summed (take_all n list all) ∙ sym (ap (fold (λ x y. x +ℤ y) (pos 0)) (numbers_of-list types stage field list))
