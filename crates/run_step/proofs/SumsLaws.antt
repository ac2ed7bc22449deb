-- What is kept of a run's list: its sums, its last entry and the time of its first event.
use Rattle.std.proofs.Common.{◌≡◌, refl, sym, ◌∙◌, ap, subst, ℕ, ◌<◌, true, List, [], ◌∷◌, ◌++◌, length}
use Rattle.std.specs.Prelude.{ℤ, Some, None, option_map}
use Rattle.cep_event.specs.declared.event.Event.{Event}
use Rattle.cep_plan.specs.declared.plan.Plan.{Plan}
use Rattle.cep_plan.specs.declared.item.Taken.{Taken}
use Rattle.cep_plan.specs.Entry.{Entry, event_at, taken_of, taken_at, last_entry}
use Rattle.cep_plan.proofs.LocalLaws.{AreAmong, taken_of-append, event_at-append}
use Rattle.live_laws.proofs.LastLaws.{last_taken-of, last_or-push}
use Rattle.cep_plan.specs.Candidate.{fits}
use Rattle.live_laws.specs.Survival.{comes_in_time, takes}
use Rattle.live_laws.proofs.PartialLaws.{stage_known}
use Rattle.live_laws.proofs.WaitLaws.{taken_of-push}
use Rattle.std.proofs.lemmas.Bool.{and_parts}
use Rattle.cond_sums.specs.Questions.{IsWantedBy}
use Rattle.cond_sums.specs.Kept.{Summed, wanted_in, StandsFor}
use Rattle.run_judge.specs.declared.gap.Last.{Last}
use Rattle.run_judge.specs.Fate.{last_of, first_time, AreSumsOf, IsKeptOf}
use Rattle.run_step.specs.declared.runs.Run.{Run}
use Rattle.run_step.specs.Passing.{is_taking}
use Rattle.run_step.specs.Runs.{Waiter, entry_of, EndsWith, IsRunOf}

-- what a run keeps of its list
pub run-keeps : (plan : Plan) (events : List Event) (event : Event) (waiter : Waiter) (run : Run) → IsRunOf plan events waiter run
    → IsKeptOf plan event (taken_of events waiter.list) run.sums (Some run.last) run.start_ts
run-keeps plan events event waiter run is = record {
  sums_stand = is.sums.stand;
  last_is = (λ i. Some (record { stage = run.last.stage; position = run.last.position; ts = is.ends.time_is i }))
      ∙ sym (ap (option_map last_of) (last_taken-of events waiter.list ∙ ap (option_map (taken_at events)) is.ends.entry_is));
  time_is = is.begins.time_is ∙ sym (ap (λ (l : List Entry). first_time (taken_of events l) event) is.begins.parts);
}

-- what is kept of the empty list
pub first-keeps : (plan : Plan) (event : Event) (empty : Summed) → AreSumsOf plan [] empty → (start_ts : ℤ) → start_ts ≡ event.ts
    → IsKeptOf plan event [] empty None start_ts
first-keeps plan event empty are start_ts is = record { sums_stand = are.stand; last_is = refl; time_is = is }

-- later events change no sums
pub sums-later : (plan : Plan) (events later : List Event) (list : List Entry) (sums : Summed) → AreAmong events list
    → AreSumsOf plan (taken_of events list) sums → AreSumsOf plan (taken_of (events ++ later) list) sums
sums-later plan events later list sums among are =
    subst (λ (l : List Taken). AreSumsOf plan l sums) (sym (taken_of-append events later list among)) are

-- the sums once the next event is taken for the stage
pub sums-taken : (plan : Plan) (events : List Event) (event : Event) (list : List Entry) (stage named : ℕ) (old new : Summed)
    → AreAmong events list → named ≡ stage
    → wanted_in new ≡ wanted_in old
    → ((before : List Taken) (at : ℕ) → StandsFor old plan.types before
    → StandsFor new plan.types (before ++ record { stage = named; position = at; event = event } ∷ []))
    → AreSumsOf plan (taken_of events list) old
    → AreSumsOf plan (taken_of (events ++ event ∷ []) (list ++ record { stage = stage; position = length events } ∷ [])) new
sums-taken plan events event list stage named old new among is asked told are = record {
  stand = subst (StandsFor new plan.types)
      (ap (λ s. taken_of events list ++ record { stage = s; position = length events; event = event } ∷ []) is
      ∙ sym (taken_of-push events event list stage among))
      (told (taken_of events list) (length events) are.stand);
  asked = subst (IsWantedBy plan) (sym asked) are.asked;
}

-- a list ends the same after later events
pub ends-later : (events later : List Event) (list : List Entry) (last : Last) → AreAmong events list → EndsWith events list last
    → EndsWith (events ++ later) list last
ends-later events later list last among is = record {
  entry_is = is.entry_is;
  time_is = is.time_is ∙ sym (ap (λ (e : Event). e.ts) (event_at-append events later last.position inside));
} where
  inside : last.position < length events
  inside = below list among is.entry_is where
    below : (l : List Entry) → AreAmong events l → last_entry l ≡ Some (entry_of last) → last.position < length events
    below [] h e = absurd cc
    below (first ∷ []) h e = let same : first ≡ entry_of last = cc in subst (λ (x : Entry). x.position < length events) same h.0
    below (first ∷ next ∷ more) h e = below (next ∷ more) h.1 e

event_here : (events : List Event) (event : Event) → event_at (events ++ event ∷ []) (length events) ≡ event
event_here [] event = refl
event_here (first ∷ events) event = event_here events event

-- a list with the next event ends with it
pub ends_taken : (events : List Event) (event : Event) (list : List Entry) (stage named position : ℕ) (last : Last) → position ≡ length events
    → named ≡ stage → last ≡ record { stage = named; position = position; ts = event.ts }
    → EndsWith (events ++ event ∷ []) (list ++ record { stage = stage; position = length events } ∷ []) last
ends_taken events event list stage named position last at is made =
    subst (EndsWith (events ++ event ∷ []) (list ++ record { stage = stage; position = length events } ∷ []))
    (sym (made ∙ (λ i. record { stage = is i; position = at i; ts = event.ts }))) (record {
      entry_is = last_or-push None list (record { stage = stage; position = length events });
      time_is = sym (ap (λ (e : Event). e.ts) (event_here events event));
    })

-- what is taken is taken for a stage of the pattern
pub taken_inside : (plan : Plan) (events : List Event) (event : Event) (waiter : Waiter) → is_taking plan events event waiter ≡ true
    → waiter.stage < length plan.stages
unfolding takes
taken_inside plan events event waiter h =
    stage_known plan (taken_of events waiter.list) waiter.stage event (length events)
    (and_parts (fits plan (taken_of events waiter.list) waiter.stage event (length events)) (comes_in_time plan (taken_of events waiter.list) event) h).0
