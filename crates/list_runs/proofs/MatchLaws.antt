-- The matches of a tick from the runs: the full lists that end at the event, in order.
use Rattle.std.proofs.Common.{◌≡◌, refl, sym, ◌∙◌, ap, subst, true, List, [], ◌∷◌, ◌++◌, length, map}
use Rattle.std.specs.Prelude.{Contains, filter}
use Rattle.std.specs.List.Sorted.{IsStrictlySortedBy}
use Rattle.std.proofs.lemmas.Bool.{and_parts}
use Rattle.cep_event.specs.declared.event.Event.{Event}
use Rattle.cep_plan.specs.declared.plan.Plan.{Plan}
use Rattle.cep_plan.specs.declared.item.Taken.{Taken}
use Rattle.cep_plan.specs.Entry.{Entry, taken_of, entries_in, stages_of, stages_in}
use Rattle.cep_plan.specs.Order.{list_cmp}
use Rattle.cep_plan.specs.Follow.{is_full}
use Rattle.cep_plan.specs.Partial.{is_partial}
use Rattle.cep_plan.specs.History.{matches_at}
use Rattle.list_runs.specs.Runs.{ListRun, StandsFor, Admits, grown}
use Rattle.live_laws.specs.Starts.{Scope, begins_in}
use Rattle.live_laws.proofs.LastLaws.{entries_in-taken_of, stages_in-taken_of}
use Rattle.live_laws.proofs.MemberLaws.{map_back, Contains-map, Contains-from_map, Each-from_contains}
use Rattle.live_laws.proofs.PartialLaws.{IsGrown}
use Rattle.live_laws.proofs.AnswerLaws.{matches_at-unique}
use Rattle.list_runs.proofs.StepLaws.{grown-sound, grown-complete}

-- the stages of the entries of taken events
stages_again : (taken : List Taken) → stages_of (entries_in taken) ≡ stages_in taken
stages_again [] = refl
stages_again (t ∷ taken) = λ i. t.stage ∷ stages_again taken i

-- In order, the full ones among the lists of a step are the matches of its tick.
pub matches_at-grown : (plan : Plan) (events : List Event) (event : Event) (scope : Scope) → Admits plan events scope event
    → (runs : List ListRun) → StandsFor plan events scope runs
    → (xs : List (List Taken)) → IsStrictlySortedBy list_cmp (map entries_in xs)
    → ((z : List Taken) → Contains xs z → Contains (grown plan runs event (length events)) z × (is_full plan (stages_in z) ≡ true))
    → ((z : List Taken) → Contains (grown plan runs event (length events)) z → is_full plan (stages_in z) ≡ true → Contains xs z)
    → xs ≡ map (taken_of (events ++ event ∷ [])) (filter (begins_in scope.starts) (matches_at plan events event))
matches_at-grown plan events event scope admits runs stands xs sorted sound complete =
    sym (map_back entries_in (taken_of (events ++ event ∷ [])) xs (Each-from_contains (λ z. taken_of (events ++ event ∷ []) (entries_in z) ≡ z) xs back))
    ∙ ap (map (taken_of (events ++ event ∷ [])))
    (matches_at-unique plan events event (begins_in scope.starts) (map entries_in xs) sorted sound_entries complete_entries) where
      entries : (z : List Taken) (list : List Entry) → z ≡ taken_of (events ++ event ∷ []) list → entries_in z ≡ list
      entries z list is = ap entries_in is ∙ entries_in-taken_of (events ++ event ∷ []) list

      back : (z : List Taken) → Contains xs z → taken_of (events ++ event ∷ []) (entries_in z) ≡ z
      back z q = let known = grown-sound plan events event scope admits runs stands z (sound z q).0 in
          ap (taken_of (events ++ event ∷ [])) (entries z known.0 known.1) ∙ sym known.1

      sound_entries : (list : List Entry) → Contains (map entries_in xs) list → (is_partial plan (events ++ event ∷ []) list ≡ true)
          × IsGrown events list × (is_full plan (stages_of list) ≡ true) × (begins_in scope.starts list ≡ true)
      sound_entries list q =
          let found = Contains-from_map entries_in xs list q in
          let from = sound found.0 found.1 in
          let known = grown-sound plan events event scope admits runs stands found.0 from.0 in
          let is : known.0 ≡ list = sym (entries found.0 known.0 known.1) ∙ found.2 in (
            sym (ap (is_partial plan (events ++ event ∷ [])) is)
                ∙ known.2,
            subst (IsGrown events) is known.3,
            sym
                (sym (ap (is_full plan) (stages_again found.0)) ∙ ap (λ l. is_full plan (stages_of l)) found.2)
                ∙ from.1,
            sym (ap (begins_in scope.starts) is) ∙ (and_parts (begins_in scope.starts known.0) _ known.4).0,
          )

      complete_entries : (list : List Entry) → is_partial plan (events ++ event ∷ []) list ≡ true → IsGrown events list
          → is_full plan (stages_of list) ≡ true → begins_in scope.starts list ≡ true → Contains (map entries_in xs) list
      complete_entries list partial before full begins =
          subst (Contains (map entries_in xs)) (entries_in-taken_of (events ++ event ∷ []) list)
          (Contains-map entries_in xs (taken_of (events ++ event ∷ []) list)
          (complete (taken_of (events ++ event ∷ []) list) (grown-complete plan events event scope admits runs stands list partial before begins)
          (ap (is_full plan) (stages_in-taken_of (events ++ event ∷ []) list) ∙ full)))
