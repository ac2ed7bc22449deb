-- The full lists that end at an event, sorted, are the matches of its tick.
use Rattle.std.proofs.Common.{◌≡◌, sym, ◌∙◌, ap, Bool, List, [], ◌∷◌, ◌++◌, length, map}
use Rattle.std.specs.Prelude.{filter, Contains}
use Rattle.std.specs.List.Sorted.{IsSortedBy, IsPermutation}
use Rattle.std.proofs.lemmas.List.Sorted.{Contains-permutation, IsPermutation-sym}
use Rattle.cep_event.specs.declared.event.Event.{Event}
use Rattle.cep_plan.specs.declared.plan.Plan.{Plan}
use Rattle.cep_plan.specs.declared.item.Taken.{Taken}
use Rattle.cep_plan.specs.Entry.{taken_of, entries_in, stages_in}
use Rattle.cep_plan.specs.Follow.{is_full}
use Rattle.cep_plan.specs.History.{matches_at}
use Rattle.cep_plan.proofs.FilteredLaws.{Contains-filter, Contains-from_filter}
use Rattle.list_runs.specs.Runs.{ListRun, StandsFor, Admits, grown, completed}
use Rattle.live_laws.specs.Starts.{Scope, begins_in, comes_earlier}
use Rattle.live_laws.proofs.LastLaws.{entries_in-taken_of}
use Rattle.live_laws.proofs.MemberLaws.{AllApart-filter}
use Rattle.list_runs.proofs.StepLaws.{grown-sound, grown-once}
use Rattle.list_runs.proofs.MatchLaws.{matches_at-grown}
use Rattle.live_laws.proofs.OrderLaws.{strict_from_sort}

pub matches_at-completed : (plan : Plan) (events : List Event) (event : Event) (scope : Scope) → Admits plan events scope event
    → (runs : List ListRun) → StandsFor plan events scope runs → (xs : List (List Taken))
    → IsPermutation (completed plan runs event (length events)) xs → IsSortedBy comes_earlier xs
    → xs ≡ map (taken_of (events ++ event ∷ [])) (filter (begins_in scope.starts) (matches_at plan events event))
unfolding completed
matches_at-completed plan events event scope admits runs stands xs moved sorted =
    matches_at-grown plan events event scope admits runs stands xs
    (strict_from_sort (filter full ended) xs (λ a b p q e. told a b (Contains-from_filter full ended a p).0 (Contains-from_filter full ended b q).0
    e) (AllApart-filter full ended (grown-once plan events event scope admits runs stands)) moved sorted)
    (λ z q. Contains-from_filter full ended z (Contains-permutation xs (filter full ended) z (IsPermutation-sym (filter full ended) xs moved) q))
    (λ z q is. Contains-permutation (filter full ended) xs z moved (Contains-filter full ended z q is)) where
      ended : List (List Taken)
      ended = grown plan runs event (length events)

      full : List Taken → Bool
      full list = is_full plan (stages_in list)

      told : (a b : List Taken) → Contains (grown plan runs event (length events)) a → Contains (grown plan runs event (length events)) b
          → entries_in a ≡ entries_in b → a ≡ b
      told a b p q e =
          let first = grown-sound plan events event scope admits runs stands a p in
          let second = grown-sound plan events event scope admits runs stands b q in
          let same : first.0 ≡ second.0 = sym (ap entries_in first.1 ∙ entries_in-taken_of (events ++ event ∷ []) first.0) ∙ e ∙ ap entries_in second.1 ∙ entries_in-taken_of (events ++ event ∷ []) second.0 in
          first.1 ∙ ap (taken_of (events ++ event ∷ [])) same ∙ sym second.1
