-- What is kept of a list tells what the list would tell.
use Rattle.std.proofs.Common.{◌≡◌, refl, sym, ◌∙◌, ap, ℕ, ℤ, Bool, true, false, ◌&&◌, List, [], ◌∷◌}
use Rattle.std.specs.Prelude.{Option, Some, None, option_map}
use Rattle.std.specs.List.{last_or}
use Rattle.std.specs.Option.{option_map_or}
use Rattle.cep_event.specs.declared.event.Event.{Event}
use Rattle.cep_plan.specs.declared.plan.Plan.{Plan}
use Rattle.cep_plan.specs.declared.item.Taken.{Taken}
use Rattle.cep_plan.specs.Entry.{last_taken}
use Rattle.cep_plan.specs.Candidate.{is_candidate, comes_directly, keeps_next, fits}
use Rattle.cep_plan.specs.Limit.{limit_from, limit_behind, last_behind}
use Rattle.live_laws.specs.Survival.{survives, comes_in_time, takes}
use Rattle.live_laws.proofs.LesserLaws.{below_lesser}
use Rattle.cond_sums.specs.Kept.{Summed}
use Rattle.run_judge.specs.declared.gap.Last.{Last}
use Rattle.run_judge.specs.Fate.{IsKeptOf, last_of, first_time, spares_where, is_next_to, survives_where, breaks_no_next, is_timely, is_near}

-- a test of the last entry, by the last taken event
of_last : (test : Last → Bool) (o : Option Taken) → option_map_or test (option_map last_of o) true ≡ option_map_or (λ t. test (last_of t)) o true
of_last test None = refl
of_last test (Some t) = refl

last_is_behind : (first : Taken) (later : List Taken) → last_or (Some first) later ≡ Some (last_behind first later)
last_is_behind first [] = refl
last_is_behind first (next ∷ later) = last_is_behind next later

and_assoc : (a b c : Bool) → ((a && b) && c) ≡ (a && (b && c))
and_assoc true b c = refl
and_assoc false b c = refl

and-true : (b : Bool) → (b && true) ≡ b
and-true true = refl
and-true false = refl

in_time : (plan : Plan) (list : List Taken) (event : Event)
    → (is_timely plan (first_time list event) event && is_near plan (option_map last_of (last_taken list)) event) ≡ comes_in_time plan list event
in_time plan [] event = and-true (is_timely plan event.ts event)
in_time plan (first ∷ later) event =
    ap (λ last. is_timely plan first.event.ts event && is_near plan (option_map last_of last) event) (last_is_behind first later)
    ∙ sym (below_lesser (limit_from plan first.event) (limit_behind plan (last_behind first later).event) event.ts)

module _ (plan : Plan) (event : Event) (list : List Taken) (sums : Summed) (last : Option Last) (start_ts : ℤ)
    (is : IsKeptOf plan event list sums last start_ts) (stage position : ℕ) where
  pub survives-kept : (candidate : Bool) → candidate ≡ is_candidate plan list stage event
      → survives_where plan list last stage event position candidate ≡ survives plan list stage event position
  unfolding survives
  survives-kept candidate wanted =
      (λ i. survives_where plan list (is.last_is i) stage event position (wanted i))
      ∙ of_last (λ last. spares_where plan list last.stage stage (is_next_to position last) event (is_candidate plan list stage event)) (last_taken list)

  pub takes-kept : (candidate : Bool) → candidate ≡ is_candidate plan list stage event → (ts : ℤ) → ts ≡ start_ts
      → (candidate && breaks_no_next plan list last stage event position && is_timely plan ts event && is_near plan last event)
      ≡ takes plan list stage event position
  unfolding takes fits
  takes-kept candidate wanted ts same =
      (λ i. wanted i && breaks_no_next plan list (is.last_is i) stage event position && is_timely plan ((same ∙ is.time_is) i) event
      && is_near plan (is.last_is i) event)
      ∙ (λ i. is_candidate plan list stage event
      && of_last (λ last. keeps_next plan list last.stage stage (is_next_to position last) event) (last_taken list) i
      && is_timely plan (first_time list event) event && is_near plan (option_map last_of (last_taken list)) event)
      ∙ and_assoc (is_candidate plan list stage event
      && option_map_or (λ last. keeps_next plan list last.stage stage (comes_directly position last) event) (last_taken list) true)
      (is_timely plan (first_time list event) event) (is_near plan (option_map last_of (last_taken list)) event)
      ∙ ap (λ timely. is_candidate plan list stage event
      && option_map_or (λ last. keeps_next plan list last.stage stage (comes_directly position last) event) (last_taken list) true && timely)
      (in_time plan list event)
