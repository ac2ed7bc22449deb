-- What runs stand for when some lists are no longer open, when only the positions among the events are compared, and when they stand in another order.
use Rattle.std.proofs.Common.{◌≡◌, refl, sym, ◌∙◌, ap, ℕ, Bool, true, false, not, ◌&&◌, ◌==◌, List, [], ◌∷◌, ◌<◌, length}
use Rattle.std.specs.Prelude.{Contains, filter, Option, Some, None}
use Rattle.std.specs.Option.{option_map_or}
use Rattle.std.proofs.lemmas.Bool.{and_parts, and_from}
use Rattle.cep_event.specs.declared.event.Event.{Event}
use Rattle.cep_plan.specs.declared.plan.Plan.{Plan}
use Rattle.cep_plan.specs.declared.item.Taken.{Taken}
use Rattle.cep_plan.specs.declared.item.Due.{Due}
use Rattle.cep_plan.specs.declared.item.Due.TheVariants.{Start, Last}
use Rattle.cep_plan.specs.Entry.{Entry, taken_of, entries_in, last_entry}
use Rattle.cep_plan.proofs.FilteredLaws.{Contains-filter, Contains-from_filter}
use Rattle.cep_plan.proofs.LocalLaws.{AreAmong}
use Rattle.list_runs.specs.Runs.{ListRun, StandsFor, run_of}
use Rattle.cep_plan.specs.Partial.{waits}
use Rattle.live_laws.specs.Starts.{AllApart, Scope, begins_in, ends_in, is_open, starts_in, is_from, is_due_of, without_due, without_range}
use Rattle.live_laws.proofs.LastLaws.{entries_in-taken_of}
use Rattle.live_laws.proofs.MemberLaws.{AllApart-filter}
use Rattle.live_laws.proofs.WaitLaws.{waits-among}
use Rattle.std.specs.List.Sorted.{IsPermutation}
use Rattle.std.proofs.lemmas.List.Sorted.{Contains-permutation, IsPermutation-sym}
use Rattle.list_runs.proofs.PermutationLaws.{AllApart-permutation}

-- the runs whose lists pass a test go
module _ (plan : Plan) (events : List Event) (scope less : Scope) (gone : List Taken → Bool)
    (left : (list : List Entry) → is_open less list ≡ (is_open scope list && not (gone (taken_of events list))))
    (runs : List ListRun) (stands : StandsFor plan events scope runs) where
  pub StandsFor-without : StandsFor plan events less (filter (λ run. not (gone run.list)) runs)
  StandsFor-without = record { sound = sound; complete = complete; once = AllApart-filter (λ run. not (gone run.list)) runs stands.once } where
    sound : (run : ListRun) → Contains (filter (λ r. not (gone r.list)) runs) run
        → (list : List Entry) × (run ≡ run_of events list run.stage) × (waits plan events list run.stage ≡ true) × (is_open less list ≡ true)
    sound run q =
        let passed = Contains-from_filter (λ r. not (gone r.list)) runs run q in
        let known = stands.sound run passed.0 in (
          known.0,
          known.1,
          known.2,
          left known.0 ∙ and_from (is_open scope known.0) (not (gone (taken_of events known.0))) known.3
              (sym (ap (λ r. not (gone r.list)) known.1) ∙ passed.1),
        )

    complete : (list : List Entry) (stage : ℕ) → waits plan events list stage ≡ true → is_open less list ≡ true
        → Contains (filter (λ r. not (gone r.list)) runs) (run_of events list stage)
    complete list stage h open_now =
        let both = and_parts (is_open scope list) (not (gone (taken_of events list))) (sym (left list) ∙ open_now) in
        Contains-filter (λ r. not (gone r.list)) runs (run_of events list stage) (stands.complete list stage h both.0) both.1

without_start : (a b c : Bool) → ((a && b) && c) ≡ ((a && c) && b)
without_start true true true = refl
without_start true true false = refl
without_start true false true = refl
without_start true false false = refl
without_start false b c = refl

without_last : (a b c : Bool) → (a && (b && c)) ≡ ((a && b) && c)
without_last true b c = refl
without_last false b c = refl

-- the lists that begin in a range are no longer open
range_left : (events : List Event) (scope : Scope) (from to : ℕ) (list : List Entry)
    → is_open (without_range scope from to) list ≡ (is_open scope list && not (starts_in (is_from from to) (taken_of events list)))
range_left events scope from to [] = refl
range_left events scope from to (first ∷ later) =
    without_start (scope.starts first.position) (not (is_from from to first.position)) (ends_in scope.lasts (first ∷ later))

-- the lists of a due are no longer open
due_left : (events : List Event) (scope : Scope) (due : Due) (list : List Entry)
    → is_open (without_due scope due) list ≡ (is_open scope list && not (is_due_of due (entries_in (taken_of events list))))
due_left events scope (Start position) [] = refl
due_left events scope (Start position) (first ∷ later) =
    without_start (scope.starts first.position) (not (first.position == position)) (ends_in scope.lasts (first ∷ later))
due_left events scope (Last position) list =
    by_last (last_entry list) ∙ ap (λ l. is_open scope list && not (is_due_of (Last position) l)) (sym (entries_in-taken_of events list)) where
      by_last : (last : Option Entry)
          → (begins_in scope.starts list && option_map_or (λ e. scope.lasts e.position && not (e.position == position)) last true)
          ≡ ((begins_in scope.starts list && option_map_or (λ e. scope.lasts e.position) last true)
          && not (option_map_or (λ e. e.position == position) last false))
      by_last None = without_last (begins_in scope.starts list) true true
      by_last (Some e) = without_last (begins_in scope.starts list) (scope.lasts e.position) (not (e.position == position))

module _ (plan : Plan) (events : List Event) (scope : Scope) (runs : List ListRun) (stands : StandsFor plan events scope runs) where
  pub StandsFor-killed : (from to : ℕ)
      → StandsFor plan events (without_range scope from to) (filter (λ run. not (starts_in (is_from from to) run.list)) runs)
  StandsFor-killed from to =
      StandsFor-without plan events scope (without_range scope from to) (starts_in (is_from from to)) (range_left events scope from to) runs stands

  pub StandsFor-expired : (due : Due) → StandsFor plan events (without_due scope due) (filter (λ run. not (is_due_of due (entries_in run.list))) runs)
  StandsFor-expired due =
      StandsFor-without plan events scope (without_due scope due) (λ list. is_due_of due (entries_in list)) (due_left events scope due) runs stands

-- Only the positions among the events count.
module _ (plan : Plan) (events : List Event) (scope other : Scope)
    (starts_agree : (p : ℕ) → p < length events → scope.starts p ≡ other.starts p)
    (lasts_agree : (p : ℕ) → p < length events → scope.lasts p ≡ other.lasts p)
    (runs : List ListRun) (stands : StandsFor plan events scope runs) where
  begins_same : (list : List Entry) → AreAmong events list → begins_in scope.starts list ≡ begins_in other.starts list
  begins_same [] h = refl
  begins_same (first ∷ later) h = starts_agree first.position h.0

  ends_same : (list : List Entry) → AreAmong events list → ends_in scope.lasts list ≡ ends_in other.lasts list
  ends_same [] h = refl
  ends_same (first ∷ []) h = lasts_agree first.position h.0
  ends_same (first ∷ next ∷ later) h = ends_same (next ∷ later) h.1

  open_same : (list : List Entry) → AreAmong events list → is_open scope list ≡ is_open other list
  open_same list h = λ i. begins_same list h i && ends_same list h i

  pub StandsFor-agree : StandsFor plan events other runs
  StandsFor-agree = record {
    sound = λ run q. let known = stands.sound run q in
        (known.0, known.1, known.2, sym (open_same known.0 (waits-among plan events known.0 run.stage known.2)) ∙ known.3);
    complete = λ list stage h open_now. stands.complete list stage h (open_same list (waits-among plan events list stage h) ∙ open_now);
    once = stands.once;
  }

-- The order in which runs stand doesn't count.
pub StandsFor-rearranged : (plan : Plan) (events : List Event) (scope : Scope) (runs other : List ListRun) → StandsFor plan events scope runs
    → ((run : ListRun) → Contains other run → Contains runs run) → ((run : ListRun) → Contains runs run → Contains other run) → AllApart other
    → StandsFor plan events scope other
StandsFor-rearranged plan events scope runs other stands from into apart = record {
  sound = λ run q. stands.sound run (from run q);
  complete = λ list stage h open_now. into (run_of events list stage) (stands.complete list stage h open_now);
  once = apart;
}

-- Runs in another order stand for the same.

pub StandsFor-moved : (plan : Plan) (events : List Event) (scope : Scope) (runs other : List ListRun) → IsPermutation runs other
    → StandsFor plan events scope runs → StandsFor plan events scope other
StandsFor-moved plan events scope runs other moved stands =
    StandsFor-rearranged plan events scope runs other stands (λ run q. Contains-permutation other runs run (IsPermutation-sym runs other moved) q)
    (λ run q. Contains-permutation runs other run moved q) (AllApart-permutation runs other moved stands.once)
