-- A list that grows entry by entry, by its taken events.
use Rattle.std.proofs.Common.{◌≡◌, refl, sym, ◌∙◌, ap, ℕ, ◌<◌, Bool, true, false, ◌&&◌, List, [], ◌∷◌, ◌++◌, length, nat_lt, ◌+◌, take, drop, get_or}
use Rattle.std.specs.Prelude.{◌||◌, Option, Some, None, option_map}
use Rattle.std.specs.Option.{option_map_or}
use Rattle.std.proofs.lemmas.Bool.{lt-ltb, and_left}
use Rattle.std.proofs.lemmas.List.{map-append, take_more, drop_more}
use Rattle.cep_event.specs.declared.event.Event.{Event}
use Rattle.cep_plan.specs.declared.item.Taken.{Taken}
use Rattle.cep_plan.specs.declared.plan.Plan.{Plan}
use Rattle.cep_plan.specs.Entry.{Entry, event_at, taken_at, taken_of, last_entry, stages_of, stages_in}
use Rattle.cep_plan.specs.Follow.{may_follow, end_stage, is_full}
use Rattle.cep_plan.specs.Candidate.{fits}
use Rattle.cep_plan.specs.Gap.{gap_holds, gap_spares, gap_between}
use Rattle.cep_plan.specs.Limit.{limit_of, are_in_time}
use Rattle.cep_plan.specs.Partial.{extends, extends_all, has_entries, may_grow, is_partial, closes, count_before, is_match}
use Rattle.live_laws.proofs.LastLaws.{last_taken-of, stages_in-taken_of}
use Rattle.cep_audit.specs.declared.judged.Chosen.{Chosen}
use Rattle.cep_audit.specs.Asked.{entry_of, entries_of, is_behind, gap_behind, comes_next, close, has_taken}
use Rattle.cep_audit.specs.Grown.{IsGrown}

pub known_inside : (plan : Plan) (events : List Event) (taken : List Taken) (next : Entry) → next.position < length events
    → comes_next plan events taken next ≡ (may_follow plan (stages_in taken) next.stage && is_behind taken next.position
    && fits plan taken next.stage (event_at events next.position) next.position && gap_behind plan events taken next.stage next.position)
known_inside plan events taken next h =
    ap (λ b. may_follow plan (stages_in taken) next.stage && (b && is_behind taken next.position)
    && fits plan taken next.stage (event_at events next.position) next.position && gap_behind plan events taken next.stage next.position)
    (lt-ltb next.position (length events) h)

module _ (plan : Plan) (events : List Event) (list : List Entry) where
  gap_same : (stage position : ℕ) → gap_behind plan events (taken_of events list) stage position ≡ gap_holds plan events list stage position
  unfolding gap_holds
  gap_same stage position =
      ap (λ o. option_map_or (λ (last : Taken). gap_spares plan (taken_of events list) last.stage stage (gap_between events last.position position)) o true)
      (last_taken-of events list) ∙ after (last_entry list) where
        after : (last : Option Entry)
            → option_map_or (λ (last : Taken). gap_spares plan (taken_of events list) last.stage stage (gap_between events last.position position))
            (option_map (taken_at events) last) true
            ≡ option_map_or (λ (last : Entry). gap_spares plan (taken_of events list) last.stage stage (gap_between events last.position position)) last true
        after None = refl
        after (Some last) = refl

  behind_same : (position : ℕ) → is_behind (taken_of events list) position ≡ option_map_or (λ last. nat_lt last.position position) (last_entry list) true
  behind_same position =
      ap (λ o. option_map_or (λ (last : Taken). nat_lt last.position position) o true) (last_taken-of events list) ∙ after (last_entry list) where
        after : (last : Option Entry) → option_map_or (λ (last : Taken). nat_lt last.position position) (option_map (taken_at events) last) true
            ≡ option_map_or (λ (last : Entry). nat_lt last.position position) last true
        after None = refl
        after (Some last) = refl

  pub next_same : (next : Entry) → comes_next plan events (taken_of events list) next ≡ extends plan events list next
  next_same next =
      λ i. may_follow plan (stages_in-taken_of events list i) next.stage && (nat_lt next.position (length events) && behind_same next.position i)
      && fits plan (taken_of events list) next.stage (event_at events next.position) next.position && gap_same next.stage next.position i

  close_same : close plan events (taken_of events list) ≡ closes plan events list
  close_same =
      λ i. may_follow plan (stages_in-taken_of events list i) (end_stage plan)
      && option_map_or (λ limit. gap_same (end_stage plan) (count_before events limit) i) (limit_of plan (taken_of events list)) false

  some_same : has_taken (taken_of events list) ≡ has_entries list
  some_same = by_list list where
    by_list : (l : List Entry) → has_taken (taken_of events l) ≡ has_entries l
    by_list [] = refl
    by_list (e ∷ l) = refl

  -- the taken events of a list that grows decide
  pub grown_match : extends_all plan events [] list ≡ true
      → (has_taken (taken_of events list) && are_in_time plan (taken_of events list)
      && (is_full plan (stages_in (taken_of events list)) || close plan events (taken_of events list))) ≡ is_match plan events list
  unfolding is_match is_partial may_grow
  grown_match h =
      (λ i. some_same i && are_in_time plan (taken_of events list) && (is_full plan (stages_in-taken_of events list i) || close_same i))
      ∙ moved (has_entries list) (extends_all plan events [] list) (are_in_time plan (taken_of events list))
      (is_full plan (stages_of list) || closes plan events list) h where
        moved : (a b c d : Bool) → b ≡ true → (a && c && d) ≡ ((a && (b && c)) && d)
        moved true b c d h = ap (λ b. (b && c) && d) (sym h)
        moved false b c d h = refl

  pub none_match : extends_all plan events [] list ≡ false → is_match plan events list ≡ false
  unfolding is_match is_partial may_grow
  none_match h = by_parts (has_entries list) (extends_all plan events [] list) (are_in_time plan (taken_of events list))
      (is_full plan (stages_of list) || closes plan events list) h where
        by_parts : (a b c d : Bool) → b ≡ false → ((a && (b && c)) && d) ≡ false
        by_parts true b c d h = ap (λ b. (b && c) && d) h
        by_parts false b c d h = refl

pub grown_as : (plan : Plan) (events : List Event) (list : List Entry) (taken : List Taken) → IsGrown plan events list (Some taken)
    → (has_taken taken && are_in_time plan taken && (is_full plan (stages_in taken) || close plan events taken)) ≡ is_match plan events list
grown_as plan events list taken h =
    ap (λ t. has_taken t && are_in_time plan t && (is_full plan (stages_in t) || close plan events t)) h.1 ∙ grown_match plan events list h.0

-- ---- one more entry

abbrev LeftSame : Plan → List Event → List Chosen → ℕ → Type 0
LeftSame plan events list i =
    extends_all plan events [] (entries_of list) ≡ extends_all plan events (entries_of (take i list)) (entries_of (drop i list))

module _ (plan : Plan) (events : List Event) (list : List Chosen) (i : ℕ) (lt : i < length list) (d : Chosen) where
  one_more : entries_of (take (i + 1) list) ≡ entries_of (take i list) ++ entry_of (get_or list i d) ∷ []
  one_more = ap entries_of (take_more list i d lt) ∙ map-append entry_of (take i list) (get_or list i d ∷ [])

  step_is : LeftSame plan events list i → extends_all plan events [] (entries_of list)
      ≡ (extends plan events (entries_of (take i list)) (entry_of (get_or list i d))
      && extends_all plan events (entries_of (take (i + 1) list)) (entries_of (drop (i + 1) list)))
  step_is h =
      h ∙ ap (λ l. extends_all plan events (entries_of (take i list)) (entries_of l)) (drop_more list i d lt)
      ∙ ap (λ l. extends plan events (entries_of (take i list)) (entry_of (get_or list i d)) && extends_all plan events l (entries_of (drop (i + 1) list)))
      (sym one_more)

  module _ (taken : List Taken) (is : taken ≡ taken_of events (entries_of (take i list))) (left : LeftSame plan events list i) where
    asked : comes_next plan events taken (entry_of (get_or list i d)) ≡ extends plan events (entries_of (take i list)) (entry_of (get_or list i d))
    asked = ap (λ t. comes_next plan events t (entry_of (get_or list i d))) is ∙ next_same plan events (entries_of (take i list)) (entry_of (get_or list i d))

    pub stops : comes_next plan events taken (entry_of (get_or list i d)) ≡ false → extends_all plan events [] (entries_of list) ≡ false
    stops h = step_is left ∙ and_left _ _ (sym asked ∙ h)

    pub goes_on : comes_next plan events taken (entry_of (get_or list i d)) ≡ true → LeftSame plan events list (i + 1)
    goes_on h =
        step_is left ∙ ap (λ b. b && extends_all plan events (entries_of (take (i + 1) list)) (entries_of (drop (i + 1) list))) (sym asked ∙ h)

    pub pushed : (more : List Taken) → more ≡ taken ++ taken_at events (entry_of (get_or list i d)) ∷ []
        → more ≡ taken_of events (entries_of (take (i + 1) list))
    pushed more h =
        h ∙ ap (λ t. t ++ taken_at events (entry_of (get_or list i d)) ∷ []) is
        ∙ sym (map-append (taken_at events) (entries_of (take i list)) (entry_of (get_or list i d) ∷ [])) ∙ sym (ap (taken_of events) one_more)
