-- The limit of a list, by the position of its first event and that of its last: which lists have time left, and which are due.
use Rattle.std.proofs.Common.{◌≡◌, refl, sym, ◌∙◌, ap, ℕ, Bool, false, ◌&&◌, List, [], ◌∷◌}
use Rattle.std.specs.Prelude.{ℤ, ◌||◌, Option, Some}
use Rattle.cep_event.specs.declared.event.Event.{Event}
use Rattle.cep_event.specs.declared.record.Moment.{Moment}
use Rattle.cep_plan.specs.declared.plan.Plan.{Plan}
use Rattle.cep_plan.specs.Entry.{Entry, event_at, taken_at, taken_of}
use Rattle.cep_plan.specs.Limit.{limit_from, limit_behind, last_behind, limit_of, is_limit_reached, is_due, is_time_left}
use Rattle.live_laws.specs.Starts.{ends_in, open_lasts}
use Rattle.live_laws.proofs.DueLaws.{is_due-lesser, is_time_left-lesser}

-- the last of the taken events stands at the list's last position
pub ends_in-last : (lasts : ℕ → Bool) (events : List Event) (first : Entry) (later : List Entry)
    → ends_in lasts (first ∷ later) ≡ lasts (last_behind (taken_at events first) (taken_of events later)).position
ends_in-last lasts events first [] = refl
ends_in-last lasts events first (next ∷ later) = ends_in-last lasts events next later

-- and is the event there
pub last_behind-event : (events : List Event) (first : Entry) (later : List Entry)
    → (last_behind (taken_at events first) (taken_of events later)).event
    ≡ event_at events (last_behind (taken_at events first) (taken_of events later)).position
last_behind-event events first [] = refl
last_behind-event events first (next ∷ later) = last_behind-event events next later

module _ (plan : Plan) (events : List Event) (first : Entry) (later : List Entry) where
  -- A test of the limit that the last event sets is one of the last position.
  pub last_limit : (test : Option ℤ → Bool)
      → test (limit_behind plan (last_behind (taken_at events first) (taken_of events later)).event)
      ≡ ends_in (λ last. test (limit_behind plan (event_at events last))) (first ∷ later)
  last_limit test =
      ap (λ e. test (limit_behind plan e)) (last_behind-event events first later)
      ∙ sym (ends_in-last (λ last. test (limit_behind plan (event_at events last))) events first later)

  -- A list has time left where its start and its last position have.
  pub time_left-open : (now : Option Moment)
      → is_time_left (limit_of plan (taken_of events (first ∷ later))) now
      ≡ (is_time_left (limit_from plan (event_at events first.position)) now && ends_in (open_lasts plan events now) (first ∷ later))
  time_left-open now =
      is_time_left-lesser (limit_from plan (event_at events first.position))
      (limit_behind plan (last_behind (taken_at events first) (taken_of events later)).event) now
      ∙ ap (λ b. is_time_left (limit_from plan (event_at events first.position)) now && b) (last_limit (λ limit. is_time_left limit now))

  -- Where neither was due before, a list is due where its start or its last position is.
  pub due-open : (before now : Moment) → is_limit_reached (limit_from plan (event_at events first.position)) before ≡ false
      → ends_in (λ last. is_limit_reached (limit_behind plan (event_at events last)) before) (first ∷ later) ≡ false
      → is_due (limit_of plan (taken_of events (first ∷ later))) (Some before) now
      ≡ (is_due (limit_from plan (event_at events first.position)) (Some before) now
      || ends_in (λ last. is_due (limit_behind plan (event_at events last)) (Some before) now) (first ∷ later))
  due-open before now open_start open_last =
      is_due-lesser (limit_from plan (event_at events first.position))
      (limit_behind plan (last_behind (taken_at events first) (taken_of events later)).event) before now open_start
      (last_limit (λ limit. is_limit_reached limit before) ∙ open_last)
      ∙ ap (λ b. is_due (limit_from plan (event_at events first.position)) (Some before) now || b)
      (last_limit (λ limit. is_due limit (Some before) now))
