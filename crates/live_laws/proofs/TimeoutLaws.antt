-- Lists in order that are just those whose limit is reached, and that pass a test, are the timeouts or the closed matches of a tick that pass: so an
-- engine may find them in any order, and sort them.
use Rattle.std.proofs.Common.{◌≡◌, sym, ◌∙◌, Bool, true, not, ◌&&◌, List, length}
use Rattle.std.specs.Prelude.{Contains, filter, Option}
use Rattle.std.specs.List.Sorted.{IsStrictlySortedBy}
use Rattle.std.proofs.lemmas.Bool.{and_parts, and_from}
use Rattle.cep_event.specs.declared.event.Event.{Event}
use Rattle.cep_event.specs.declared.record.Moment.{Moment}
use Rattle.cep_plan.specs.declared.plan.Plan.{Plan}
use Rattle.cep_plan.specs.Entry.{Entry, taken_of, stages_of}
use Rattle.cep_plan.specs.Order.{list_cmp}
use Rattle.cep_plan.specs.Follow.{end_stage, is_full}
use Rattle.cep_plan.specs.Limit.{limit_of, is_due}
use Rattle.cep_plan.specs.Partial.{is_partial, is_open_for, is_live}
use Rattle.cep_plan.specs.History.{lists_within, timeouts_at, closed_at}
use Rattle.cep_plan.proofs.FilteredLaws.{filtered_unique}
use Rattle.live_laws.proofs.MemberLaws.{filter-filter}
use Rattle.live_laws.proofs.PartialLaws.{is_partial-rising}
use Rattle.live_laws.proofs.LiveLaws.{waits-is_live}

-- the list is told as a timeout
abbrev pub times_out : Plan → List Event → Option Moment → Moment → List Entry → Bool
times_out plan events before now list =
    is_due (limit_of plan (taken_of events list)) before now && is_live plan events list && not (is_full plan (stages_of list))
    && not (is_open_for plan events list (end_stage plan))

-- the list is told as a match that closes
abbrev pub closes_now : Plan → List Event → Option Moment → Moment → List Entry → Bool
closes_now plan events before now list = is_due (limit_of plan (taken_of events list)) before now && is_partial plan events list
    && is_open_for plan events list (end_stage plan)

module _ (plan : Plan) (events : List Event) (before : Option Moment) (now : Moment) (passes : List Entry → Bool) (xs : List (List Entry))
    (sorted : IsStrictlySortedBy list_cmp xs) where
  among : (test : List Entry → Bool) → ((z : List Entry) → test z ≡ true → is_partial plan events z ≡ true)
      → ((z : List Entry) → Contains xs z → (test z ≡ true) × (passes z ≡ true)) → ((z : List Entry) → test z ≡ true → passes z ≡ true → Contains xs z)
      → xs ≡ filter passes (filter test (lists_within plan (length events)))
  among test partial sound complete =
      filtered_unique (λ list. passes list && test list) (length plan.stages) (length events) xs sorted
      (λ z q. let known = sound z q in (is_partial-rising plan events z (partial z known.0), and_from _ _ known.1 known.0))
      (λ z rising h. let both = and_parts (passes z) (test z) h in complete z both.1 both.0)
      ∙ sym (filter-filter passes test (lists_within plan (length events)))

  pub timeouts_at-unique : ((z : List Entry) → Contains xs z → (times_out plan events before now z ≡ true) × (passes z ≡ true))
      → ((z : List Entry) → times_out plan events before now z ≡ true → passes z ≡ true → Contains xs z)
      → xs ≡ filter passes (timeouts_at plan events before now)
  timeouts_at-unique sound complete = among (times_out plan events before now)
      (λ z h. (waits-is_live plan events z (and_parts _ _ (and_parts _ _ (and_parts _ _ h).0).0).1).0) sound complete

  pub closed_at-unique : ((z : List Entry) → Contains xs z → (closes_now plan events before now z ≡ true) × (passes z ≡ true))
      → ((z : List Entry) → closes_now plan events before now z ≡ true → passes z ≡ true → Contains xs z)
      → xs ≡ filter passes (closed_at plan events before now)
  closed_at-unique sound complete = among (closes_now plan events before now) (λ z h. (and_parts _ _ (and_parts _ _ h).0).1) sound complete
