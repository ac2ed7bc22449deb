-- Lists that start behind the first events are judged as among the later events alone, with positions that count from there.
use Rattle.std.proofs.Common.{◌≡◌, refl, sym, ◌∙◌, ap, ℕ, ◌+◌, ◌-◌, Bool, true, false, not, ◌&&◌, cond, if◌then◌else◌, List, [], ◌∷◌, ◌++◌, map, length, length-append, take, drop, arith, nat_lt, ℤ}
use Rattle.std.specs.Prelude.{◌==◌, Option, Some, None, option_map, filter}
use Rattle.std.specs.List.{list_any, list_all, range_with_len}
use Rattle.std.specs.Option.{option_map_or}
use Rattle.std.proofs.lemmas.List.{get_or-append-add, drop-drop, drop-append-le, map-append}
use Rattle.cep_event.specs.declared.event.Event.{Event}
use Rattle.cep_plan.specs.declared.plan.Plan.{Plan}
use Rattle.cep_plan.specs.declared.item.Taken.{Taken}
use Rattle.cep_plan.specs.Aggregate.{taken_for}
use Rattle.cep_plan.specs.Entry.{Entry, event_at, taken_of, last_entry, last_taken, stages_of, no_event}
use Rattle.cep_plan.specs.Follow.{of_stage, may_follow, is_full, end_stage}
use Rattle.cep_plan.specs.Candidate.{has_type, ends_loop, is_candidate, satisfies, is_between, breaks_next, breaks_followed, keeps_next, comes_directly, fits}
use Rattle.cep_plan.specs.Gap.{contiguity_allows, contiguity_of, spares, gap_spares, gap_between, gap_holds}
use Rattle.cep_plan.specs.Limit.{limit_from, limit_behind, lesser_limit, last_behind, limit_of, is_below_limit, are_near_behind, are_in_time}
use Rattle.cep_plan.specs.Partial.{comes_later, extends, extends_all, has_entries, may_grow, is_partial, is_complete, is_open_for, waits, is_live}
use Rattle.recent_laws.specs.Moved.{moved_entry, moved, moved_event, moved_taken}
use Rattle.recent_laws.proofs.NumberLaws.{ltb-moved, eqb-moved}
use Rattle.recent_laws.proofs.ListLaws.{last_or-map}
use Rattle.recent_laws.proofs.ValueLaws.{condition_holds-same}

-- ---- tests that see the taken events alone, and no positions

module _ (plan : Plan) (taken other : List Taken) (same : (stage : ℕ) → taken_for stage taken ≡ taken_for stage other) where
  ends_loop-same : (stage : ℕ) (event : Event) → ends_loop plan taken stage event ≡ ends_loop plan other stage event
  ends_loop-same stage event = λ i. of_stage plan stage (λ s. option_map_or (λ c. condition_holds-same plan.types event taken other c same i) s.until false)

  pub is_candidate-same : (stage : ℕ) (event : Event) → is_candidate plan taken stage event ≡ is_candidate plan other stage event
  unfolding is_candidate
  is_candidate-same stage event = λ i. of_stage plan stage (λ s. has_type s.of event && condition_holds-same plan.types event taken other s.cond same i)
      && not (ends_loop-same stage event i)

  breaks_next-same : (before after : ℕ) (event : Event) → breaks_next plan taken before after event ≡ breaks_next plan other before after event
  unfolding satisfies
  breaks_next-same before after event = λ i. list_any (λ n. n.next_only && is_between before after n
      && (has_type n.of event && condition_holds-same plan.types event taken other n.cond same i)) plan.negations

  breaks_followed-same : (before after : ℕ) (event : Event) → breaks_followed plan taken before after event ≡ breaks_followed plan other before after event
  unfolding satisfies
  breaks_followed-same before after event = λ i. list_any (λ n. not n.next_only && is_between before after n
      && (has_type n.of event && condition_holds-same plan.types event taken other n.cond same i)) plan.negations

  keeps_next-same : (before stage : ℕ) (directly : Bool) (event : Event) → keeps_next plan taken before stage directly event
      ≡ keeps_next plan other before stage directly event
  keeps_next-same before stage directly event = λ i. not (directly && breaks_next-same before stage event i)

  spares-same : (before stage : ℕ) (first : Bool) (event : Event) → spares plan taken before stage first event ≡ spares plan other before stage first event
  spares-same before stage first event =
      λ i. contiguity_allows (contiguity_of plan before stage) (is_candidate-same stage event i)
      && (if before == stage then not (ends_loop-same stage event i) else
      (keeps_next-same before stage first event i && not (breaks_followed-same before stage event i)))

  gap_spares-same : (before stage : ℕ) (events : List Event) → gap_spares plan taken before stage events ≡ gap_spares plan other before stage events
  gap_spares-same before stage [] = refl
  gap_spares-same before stage (first ∷ later) = λ i. spares-same before stage true first i && list_all (λ e. spares-same before stage false e i) later

taken_for-chosen : (b : Bool) (by : ℕ) (t : Taken) (xs ys : List Taken) → map (λ t. t.event) xs ≡ map (λ t. t.event) ys
    → map (λ t. t.event) (cond b (moved_event by t ∷ xs) xs) ≡ map (λ t. t.event) (cond b (t ∷ ys) ys)
taken_for-chosen true by t xs ys h = ap (λ l. t.event ∷ l) h
taken_for-chosen false by t xs ys h = h

pub taken_for-moved : (by : ℕ) (taken : List Taken) (stage : ℕ) → taken_for stage (moved_taken by taken) ≡ taken_for stage taken
taken_for-moved by [] stage = refl
taken_for-moved by (t ∷ taken) stage = taken_for-chosen (t.stage == stage) by t (filter (λ t. t.stage == stage) (moved_taken by taken))
    (filter (λ t. t.stage == stage) taken) (taken_for-moved by taken stage)

pub stages_of-moved : (by : ℕ) (list : List Entry) → stages_of (moved by list) ≡ stages_of list
stages_of-moved by [] = refl
stages_of-moved by (e ∷ list) = ap (λ l. e.stage ∷ l) (stages_of-moved by list)

-- ---- lists over all events, and over the later ones alone

module _ (early later : List Event) where
  event_at-moved : (position : ℕ) → event_at (early ++ later) (length early + position) ≡ event_at later position
  event_at-moved position = get_or-append-add early later position no_event

  pub taken_of-moved : (list : List Entry) → taken_of (early ++ later) (moved (length early) list) ≡ moved_taken (length early) (taken_of later list)
  taken_of-moved [] = refl
  taken_of-moved (e ∷ list) = λ i. record { stage = e.stage; position = length early + e.position; event = event_at-moved e.position i } ∷ taken_of-moved list i

  drop-early : (from : ℕ) → drop (length early + from) (early ++ later) ≡ drop from later
  drop-early from = sym (drop-drop from (length early) (early ++ later)) ∙ ap (drop from)
      (drop-append-le (length early) early later (omega arith) ∙ ap (λ l. l ++ later) (all_dropped early)) where
        all_dropped : (xs : List Event) → drop (length xs) xs ≡ []
        all_dropped [] = refl
        all_dropped (x ∷ xs) = all_dropped xs

  gap_between-moved : (before after : ℕ) → gap_between (early ++ later) (length early + before) (length early + after) ≡ gap_between later before after
  gap_between-moved before after =
      let from : length early + before + 1 ≡ length early + (before + 1) = omega arith in
      let many : (length early + after) - (length early + before + 1) ≡ after - (before + 1) = omega arith in
      (λ i. take (many i) (drop (from i) (early ++ later))) ∙ ap (take (after - (before + 1))) (drop-early (before + 1))

  whole_length : length (early ++ later) ≡ length early + length later
  whole_length = length-append early later

  pub last_entry-moved : (list : List Entry) → last_entry (moved (length early) list) ≡ option_map (moved_entry (length early)) (last_entry list)
  last_entry-moved list = last_or-map (moved_entry (length early)) None list

  pub gap_holds-moved : (plan : Plan) (list : List Entry) (stage position : ℕ)
      → gap_holds plan (early ++ later) (moved (length early) list) stage (length early + position) ≡ gap_holds plan later list stage position
  unfolding gap_holds
  gap_holds-moved plan list stage position =
      ap (λ o. option_map_or gap o true) (last_entry-moved list) ∙ after (last_entry list) where
        gap : Entry → Bool
        gap last = gap_spares plan (taken_of (early ++ later) (moved (length early) list)) last.stage stage
            (gap_between (early ++ later) last.position (length early + position))

        after : (o : Option Entry) → option_map_or gap (option_map (moved_entry (length early)) o) true
            ≡ option_map_or (λ last. gap_spares plan (taken_of later list) last.stage stage (gap_between later last.position position)) o true
        after None = refl
        after (Some last) =
            (λ i. gap_spares plan (taken_of-moved list i) last.stage stage (gap_between-moved last.position position i))
            ∙ gap_spares-same plan (moved_taken (length early) (taken_of later list)) (taken_of later list)
            (taken_for-moved (length early) (taken_of later list)) last.stage stage (gap_between later last.position position)

  comes_later-moved : (list : List Entry) (position : ℕ) → comes_later (early ++ later) (moved (length early) list) (length early + position)
      ≡ comes_later later list position
  comes_later-moved list position =
      (λ i. (ap (nat_lt (length early + position)) whole_length ∙ ltb-moved (length early) position (length later)) i
      && (ap (λ o. option_map_or (λ (last : Entry). nat_lt last.position (length early + position)) o true) (last_entry-moved list)
      ∙ after (last_entry list)) i) where
        after : (o : Option Entry) → option_map_or (λ (last : Entry). nat_lt last.position (length early + position))
            (option_map (moved_entry (length early)) o) true ≡ option_map_or (λ (last : Entry). nat_lt last.position position) o true
        after None = refl
        after (Some last) = ltb-moved (length early) last.position position

  fits-moved : (plan : Plan) (list : List Entry) (stage position : ℕ) (event : Event)
      → fits plan (taken_of (early ++ later) (moved (length early) list)) stage event (length early + position)
      ≡ fits plan (taken_of later list) stage event position
  unfolding fits
  fits-moved plan list stage position event =
      let taken = taken_of later list in
      let same = taken_for-moved (length early) taken in
      (λ i. is_candidate plan (taken_of-moved list i) stage event && option_map_or (keeps (taken_of-moved list i)) (last_taken (taken_of-moved list i)) true)
      ∙ (λ i. is_candidate-same plan (moved_taken (length early) taken) taken same stage event i
      && (ap (λ o. option_map_or (keeps (moved_taken (length early) taken)) o true) (last_or-map (moved_event (length early)) None taken)
      ∙ after taken same (last_taken taken)) i) where
        keeps : List Taken → Taken → Bool
        keeps taken last = keeps_next plan taken last.stage stage (comes_directly (length early + position) last) event

        directly : (last : Taken) → comes_directly (length early + position) (moved_event (length early) last) ≡ comes_directly position last
        directly last = let one : length early + last.position + 1 ≡ length early + (last.position + 1) = omega arith in ap
            (λ n. n == length early + position) one ∙ eqb-moved (length early) (last.position + 1) position

        after : (taken : List Taken) → ((stage : ℕ) → taken_for stage (moved_taken (length early) taken) ≡ taken_for stage taken) → (o : Option Taken)
            → option_map_or (keeps (moved_taken (length early) taken)) (option_map (moved_event (length early)) o) true
            ≡ option_map_or (λ last. keeps_next plan taken last.stage stage (comes_directly position last) event) o true
        after taken same None = refl
        after taken same (Some last) =
            (λ i. keeps_next plan (moved_taken (length early) taken) last.stage stage (directly last i) event)
            ∙ keeps_next-same plan (moved_taken (length early) taken) taken same last.stage stage (comes_directly position last) event

  extends-moved : (plan : Plan) (list : List Entry) (next : Entry) → extends plan (early ++ later) (moved (length early) list)
      (moved_entry (length early) next) ≡ extends plan later list next
  extends-moved plan list next =
      λ i. may_follow plan (stages_of-moved (length early) list i) next.stage && comes_later-moved list next.position i
      && (ap (λ e. fits plan (taken_of (early ++ later) (moved (length early) list)) next.stage e (length early + next.position))
      (event_at-moved next.position) ∙ fits-moved plan list next.stage next.position (event_at later next.position)) i
      && gap_holds-moved plan list next.stage next.position i

  extends_all-moved : (plan : Plan) (list next : List Entry) → extends_all plan (early ++ later) (moved (length early) list) (moved (length early) next)
      ≡ extends_all plan later list next
  extends_all-moved plan list [] = refl
  extends_all-moved plan list (e ∷ next) =
      λ i. extends-moved plan list e i
      && (ap (λ l. extends_all plan (early ++ later) l (moved (length early) next)) (sym (map-append (moved_entry (length early)) list (e ∷ [])))
      ∙ extends_all-moved plan (list ++ e ∷ []) next) i

last_behind-moved : (by : ℕ) (first : Taken) (later : List Taken) → last_behind (moved_event by first) (moved_taken by later)
    ≡ moved_event by (last_behind first later)
last_behind-moved by first [] = refl
last_behind-moved by first (next ∷ later) = last_behind-moved by next later

pub limit_of-moved : (plan : Plan) (by : ℕ) (taken : List Taken) → limit_of plan (moved_taken by taken) ≡ limit_of plan taken
limit_of-moved plan by [] = refl
limit_of-moved plan by (first ∷ later) = ap (λ (t : Taken). lesser_limit (limit_from plan first.event) (limit_behind plan t.event))
    (last_behind-moved by first later)

all_below-moved : (limit : Option ℤ) (by : ℕ) (taken : List Taken) → list_all (λ t. is_below_limit limit t.event.ts) (moved_taken by taken)
    ≡ list_all (λ t. is_below_limit limit t.event.ts) taken
all_below-moved limit by [] = refl
all_below-moved limit by (t ∷ taken) = ap (λ b. is_below_limit limit t.event.ts && b) (all_below-moved limit by taken)

near_behind-moved : (plan : Plan) (by : ℕ) (before : Taken) (taken : List Taken)
    → are_near_behind plan (moved_event by before) (moved_taken by taken) ≡ are_near_behind plan before taken
near_behind-moved plan by before [] = refl
near_behind-moved plan by before (t ∷ taken) = ap (λ b. is_below_limit (limit_behind plan before.event) t.event.ts && b) (near_behind-moved plan by t taken)

are_in_time-moved : (plan : Plan) (by : ℕ) (taken : List Taken) → are_in_time plan (moved_taken by taken) ≡ are_in_time plan taken
are_in_time-moved plan by [] = refl
are_in_time-moved plan by (t ∷ taken) = λ i. all_below-moved (limit_from plan t.event) by (t ∷ taken) i && near_behind-moved plan by t taken i

-- Pass 1. Behind the first events a list is partial, complete, open, live and a match just as it is among the later events alone.
module _ (plan : Plan) (early later : List Event) where
  pub may_grow-moved : (list : List Entry) → may_grow plan (early ++ later) (moved (length early) list) ≡ may_grow plan later list
  unfolding may_grow
  may_grow-moved list = λ i. extends_all-moved early later plan [] list i
      && (ap (are_in_time plan) (taken_of-moved early later list) ∙ are_in_time-moved plan (length early) (taken_of later list)) i

  has_entries-moved : (list : List Entry) → has_entries (moved (length early) list) ≡ has_entries list
  has_entries-moved [] = refl
  has_entries-moved (e ∷ list) = refl

  pub is_partial-moved : (list : List Entry) → is_partial plan (early ++ later) (moved (length early) list) ≡ is_partial plan later list
  unfolding is_partial
  is_partial-moved list = λ i. has_entries-moved list i && may_grow-moved list i

  pub is_complete-moved : (list : List Entry) → is_complete plan (early ++ later) (moved (length early) list) ≡ is_complete plan later list
  unfolding is_complete
  is_complete-moved list = λ i. is_partial-moved list i && is_full plan (stages_of-moved (length early) list i)

  pub is_open_for-moved : (list : List Entry) (stage : ℕ) → is_open_for plan (early ++ later) (moved (length early) list) stage
      ≡ is_open_for plan later list stage
  is_open_for-moved list stage =
      λ i. may_follow plan (stages_of-moved (length early) list i) stage
      && (ap (gap_holds plan (early ++ later) (moved (length early) list) stage) (length-append early later)
      ∙ gap_holds-moved early later plan list stage (length later)) i

  pub waits-moved : (list : List Entry) (stage : ℕ) → waits plan (early ++ later) (moved (length early) list) stage ≡ waits plan later list stage
  unfolding waits
  waits-moved list stage = λ i. may_grow-moved list i && is_open_for-moved list stage i

  pub is_live-moved : (list : List Entry) → is_live plan (early ++ later) (moved (length early) list) ≡ is_live plan later list
  unfolding is_live
  is_live-moved list = λ i. is_partial-moved list i && list_any (λ stage. is_open_for-moved list stage i) (range_with_len 0 (end_stage plan + 1))

  pub limit_of-list : (list : List Entry) → limit_of plan (taken_of (early ++ later) (moved (length early) list)) ≡ limit_of plan (taken_of later list)
  limit_of-list list = ap (limit_of plan) (taken_of-moved early later list) ∙ limit_of-moved plan (length early) (taken_of later list)
