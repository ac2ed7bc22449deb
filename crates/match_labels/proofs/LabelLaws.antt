-- Two different partial matches that end at one event for one stage have labels that differ at some place.
use Rattle.std.proofs.Common.{◌≡◌, ◌≢◌, refl, sym, ◌∙◌, ap, subst, ℕ, ◌+◌, ◌≤◌, ◌<◌, arith, Bool, true, false, ◌&&◌, List, [], ◌∷◌, ◌++◌, length, append_assoc, append-nil, Option, Some, None, inl, inr, ◌⊎◌}
use Rattle.std.proofs.Common.{zero, suc, ◌-◌, ◌==◌, nat_lt, cond, if◌then◌else◌, get_or, drop}
use Rattle.std.specs.Prelude.{option_map, IfSome}
use Rattle.std.specs.Option.{option_map_or}
use Rattle.std.specs.List.{last_or, count_by, range_with_len}
use Rattle.std.proofs.lemmas.List.{get_or-take, get_or-drop, length-take, length-drop}
use Rattle.std.proofs.lemmas.List.Sums.{AllPass-from_list_all, sum_by-append}
use Rattle.cep_plan.specs.declared.item.Taken.{Taken}
use Rattle.cep_plan.specs.declared.plan.Contiguity.{Contiguity}
use Rattle.cep_plan.specs.declared.plan.Contiguity.TheVariants.{Strict, Relaxed, Any}
use Rattle.std.proofs.lemmas.Bool.{cases_Bool, cases_eq, cases_order, and_parts, eqb-true, ltb-true}
use Rattle.std.proofs.Math.Bool.{and-false}
use Rattle.std.proofs.Common.{true≢false, ⊎_elim}
use Rattle.cep_event.specs.declared.event.Event.{Event}
use Rattle.cep_plan.specs.declared.plan.Plan.{Plan}
use Rattle.cep_plan.specs.Entry.{Entry, no_event, event_at, taken_of, stages_of, last_entry}
use Rattle.cep_plan.specs.Follow.{end_stage, is_closing, may_end, may_come, may_follow, may_follow_last, has_room, has_enough, all_optional}
use Rattle.cep_plan.specs.Candidate.{fits, is_candidate}
use Rattle.cep_plan.specs.Gap.{contiguity_of, contiguity_allows, spares, gap_spares, gap_between, gap_holds}
use Rattle.cep_plan.specs.Partial.{comes_later, extends, extends_all, is_partial, may_grow}
use Rattle.nfa_compile.specs.Automaton.{is_chaining, is_same_chain, mode_behind}
use Rattle.live_laws.proofs.LastLaws.{last_or-map, last_or-push}
use Rattle.live_laws.proofs.PartialLaws.{stage_awaited, is_partial-may_grow}
use Rattle.live_laws.proofs.GrowthLaws.{may_grow-push, has_entries-push}
use Rattle.match_labels.specs.Label.{Mark, stays, branches_off, earlier_takes, branches_below, branches_in, event_digit, step_digits, mark_behind, mark_from, no_mark, label_of}

-- the labels have a place at which they differ, and are alike before it
pub record Differ (a b : List ℕ) : Type 0 where
  pub front : List ℕ
  pub x : ℕ
  pub y : ℕ
  pub behind_x : List ℕ
  pub behind_y : List ℕ
  pub unlike : x ≢ y
  pub a_is : a ≡ front ++ x ∷ behind_x
  pub b_is : b ≡ front ++ y ∷ behind_y

-- ---- the last stage

pub last_stage-push : (list : List Entry) (next : Entry) → last_or None (stages_of (list ++ next ∷ [])) ≡ Some next.stage
last_stage-push list next = last_or-map (λ (e : Entry). e.stage) None (list ++ next ∷ [])
    ∙ ap (option_map (λ (e : Entry). e.stage)) (last_or-push None list next)

-- a step that stays in the same chain stays in its stage
stays_in : (plan : Plan) (last : Option ℕ) (stage : ℕ) → is_same_chain plan last stage ≡ true → last ≡ Some stage
stays_in plan None stage h = cc h
stays_in plan (Some last) stage h = ap Some (eqb-true last stage (and_parts _ _ h).0)

-- ---- one step

behind-stays : (plan : Plan) (events : List Event) (list : List Entry) (mark : Mark) (next : Entry) → stays plan (stages_of list) next.stage ≡ true
    → mark_behind plan events list mark next ≡ record { label = mark.label; next = mark.next + branches_in plan (stages_of list) }
unfolding mark_behind
behind-stays plan events list mark next h = rw h refl

behind-branches : (plan : Plan) (events : List Event) (list : List Entry) (mark : Mark) (next : Entry) → stays plan (stages_of list) next.stage ≡ false
    → mark_behind plan events list mark next ≡ record { label = mark.label ++ step_digits plan events list next mark.next; next = 0 }
unfolding mark_behind
behind-branches plan events list mark next h = rw h refl

-- ---- more steps

abbrev pub Grows : List ℕ → List ℕ → Type 0
Grows front whole = (more : List ℕ) × (whole ≡ front ++ more)

-- more entries only make the label longer
pub label-grows : (plan : Plan) (events : List Event) (list : List Entry) (mark : Mark) (later : List Entry)
    → Grows mark.label (mark_from plan events list mark later).label
label-grows plan events list mark [] = ([], sym (append-nil mark.label))
label-grows plan events list mark (next ∷ later) =
    let rest = label-grows plan events (list ++ next ∷ []) (mark_behind plan events list mark next) later in
    elim (cases_Bool (stays plan (stages_of list) next.stage)) [
      | inl same ↦ (rest.0, rest.1 ∙ ap (λ (m : Mark). m.label ++ rest.0) (behind-stays plan events list mark next same))
      | inr other ↦ (
        step_digits plan events list next mark.next ++ rest.0,
        rest.1 ∙ ap (λ (m : Mark). m.label ++ rest.0) (behind-branches plan events list mark next other)
            ∙ append_assoc mark.label (step_digits plan events list next mark.next) rest.0,
      )
    ]

-- what more entries make of a label: they all stay in the chain, or a digit comes that wasn't given away before
data Goes (list : List Entry) (mark : Mark) (later : List Entry) (label : List ℕ) : Type 0 where
  chained : label ≡ mark.label → last_or None (stages_of (list ++ later)) ≡ last_or None (stages_of list) → Goes list mark later label
  branched : (digit : ℕ) (more : List ℕ) → mark.next ≤ digit → label ≡ mark.label ++ digit ∷ more → Goes list mark later label

goes-on : (plan : Plan) (events : List Event) (list : List Entry) (mark : Mark) (later : List Entry)
    → Goes list mark later (mark_from plan events list mark later).label
goes-on plan events list mark [] = chained refl (ap (λ l. last_or None (stages_of l)) (append-nil list))
goes-on plan events list mark (next ∷ later) = elim (cases_Bool (stays plan (stages_of list) next.stage)) [
  | inl same ↦ stayed same (goes-on plan events (list ++ next ∷ []) (mark_behind plan events list mark next) later)
  | inr other ↦
      let rest = label-grows plan events (list ++ next ∷ []) (mark_behind plan events list mark next) later in
      branched (mark.next + branches_below plan (stages_of list) next.stage) (event_digit plan events list next ++ rest.0) (omega arith) (
      rest.1
      ∙ ap (λ (m : Mark). m.label ++ rest.0) (behind-branches plan events list mark next other)
      ∙ append_assoc mark.label (step_digits plan events list next mark.next) rest.0
      )
] where
  stayed : stays plan (stages_of list) next.stage ≡ true
      → Goes (list ++ next ∷ []) (mark_behind plan events list mark next) later (mark_from plan events list mark (next ∷ later)).label
      → Goes list mark (next ∷ later) (mark_from plan events list mark (next ∷ later)).label
  stayed same (chained label last) = chained
      (label ∙ ap (λ (m : Mark). m.label) (behind-stays plan events list mark next same))
      (ap (λ l. last_or None (stages_of l)) (sym (append_assoc list (next ∷ []) later)) ∙ last ∙ last_stage-push list next
      ∙ sym (stays_in plan (last_or None (stages_of list)) next.stage same))
  stayed same (branched digit more enough label) = branched digit more
      (let is : (mark_behind plan events list mark next).next ≡ mark.next + branches_in plan (stages_of list) = ap (λ (m : Mark). m.next) (behind-stays plan events list mark next same) in omega (arith, is, enough))
      (label ∙ ap (λ (m : Mark). m.label ++ digit ∷ more) (behind-stays plan events list mark next same))

-- ---- what is counted below a number

counted : (test : ℕ → Bool) (from n : ℕ) → count_by test (range_with_len from (suc n)) ≡ cond (test from) 1 0 + count_by test (range_with_len (from + 1) n)
counted test from n =
    sum_by-append (λ x. cond (test x) 1 0) (from ∷ []) (range_with_len (from + 1) n)
    ∙ ap (λ (k : ℕ). k + count_by test (range_with_len (from + 1) n)) (omega arith)

-- one that passes is counted from the next number on
counts-rise : (test : ℕ → Bool) (from low high : ℕ) → test (from + low) ≡ true → low < high
    → count_by test (range_with_len from low) + 1 ≤ count_by test (range_with_len from high)
counts-rise test from low zero passes lt = absurd (omega (arith, lt))
counts-rise test from zero (suc high) passes lt =
    let here : test from ≡ true = ap test (omega arith) ∙ passes in
    let one : ◌≡◌ {A = ℕ} (cond (test from) 1 0) 1 = rw here refl in
    omega (arith, one, counted test from high)
counts-rise test from (suc low) (suc high) passes lt =
    let later = counts-rise test (from + 1) low high (ap test (omega arith) ∙ passes) (omega (arith, lt)) in
    omega (arith, later, counted test from low, counted test from high)

counts-below : (test : ℕ → Bool) (low high : ℕ) → test low ≡ true → low < high
    → count_by test (range_with_len 0 low) + 1 ≤ count_by test (range_with_len 0 high)
counts-below test low high passes lt = counts-rise test 0 low high (ap test (omega arith) ∙ passes) lt

-- ---- what may come next

extends-parts : (plan : Plan) (events : List Event) (list : List Entry) (next : Entry) → extends plan events list next ≡ true
    → (may_follow plan (stages_of list) next.stage ≡ true) × (comes_later events list next.position ≡ true)
    × (fits plan (taken_of events list) next.stage (event_at events next.position) next.position ≡ true)
    × (gap_holds plan events list next.stage next.position ≡ true)
extends-parts plan events list next h =
    let three = and_parts (may_follow plan (stages_of list) next.stage && comes_later events list next.position && fits plan (taken_of events list) next.stage (event_at events next.position) next.position) (gap_holds plan events list next.stage next.position) h in
    let two = and_parts (may_follow plan (stages_of list) next.stage && comes_later events list next.position) (fits plan (taken_of events list) next.stage (event_at events next.position) next.position) three.0 in
    let one = and_parts (may_follow plan (stages_of list) next.stage) (comes_later events list next.position) two.0 in
    (one.0, one.1, two.1, three.1)

-- a stage that follows isn't before the last one
follows-later : (plan : Plan) (so_far : List ℕ) (last stage : ℕ) → last_or None so_far ≡ Some last → may_follow plan so_far stage ≡ true → last ≤ stage
unfolding may_follow
follows-later plan so_far last stage is h = by_end (stage == end_stage plan) refl h where
  ended : may_end plan so_far ≡ true → last + 1 ≡ end_stage plan
  ended k =
      let ends = (and_parts (is_closing plan) _ k).1 in
      let here = subst (λ o. option_map_or (λ s. s + 1 == end_stage plan && has_enough plan so_far s) o false ≡ true) is ends in
      eqb-true (last + 1) (end_stage plan) (and_parts (last + 1 == end_stage plan) (has_enough plan so_far last) here).0

  by_last :
      (if stage == last then has_room plan so_far stage else
      (nat_lt last stage && has_enough plan so_far last && all_optional plan (last + 1) stage)) ≡ true → last ≤ stage
  by_last k = elim (cases_Bool (stage == last)) [
    | inl same ↦ let is : stage ≡ last = eqb-true stage last same in omega (arith, is)
    | inr other ↦
        let rest : (nat_lt last stage && has_enough plan so_far last && all_optional plan (last + 1) stage) ≡ true = sym (rw other refl) ∙ k in
        let lt : last < stage = ltb-true last stage (and_parts (nat_lt last stage) _ (and_parts (nat_lt last stage && has_enough plan so_far last) _ rest).0).0 in omega (arith, lt)
  ]

  by_end : (b : Bool) → (stage == end_stage plan) ≡ b → (if b then may_end plan so_far else may_come plan so_far stage) ≡ true → last ≤ stage
  by_end true at k =
      let same : stage ≡ end_stage plan = eqb-true stage (end_stage plan) at in
      let one = ended k in
      omega (arith, same, one)
  by_end false at k =
      by_last (subst (λ o. may_follow_last plan so_far stage o ≡ true) is
      (and_parts (nat_lt stage (length plan.stages)) (may_follow_last plan so_far stage (last_or None so_far)) k).1)

-- ---- one stage and two events

-- each event of a gap spares the list
spared : (plan : Plan) (taken : List Taken) (before stage : ℕ) (gap : List Event) (i : ℕ) (d : Event) → i < length gap
    → gap_spares plan taken before stage gap ≡ true
    → (first : Bool) × (spares plan taken before stage first (get_or gap i d) ≡ true)
spared plan taken before stage [] i d lt h = absurd (omega (arith, lt))
spared plan taken before stage (e ∷ gap) zero d lt h = (true, (and_parts (spares plan taken before stage true e) _ h).0)
spared plan taken before stage (e ∷ gap) (suc i) d lt h =
    (false, AllPass-from_list_all (spares plan taken before stage false) gap (and_parts (spares plan taken before stage true e) _ h).1 i d (omega (arith, lt)))

spares-allows : (plan : Plan) (taken : List Taken) (before stage : ℕ) (first : Bool) (event : Event) → spares plan taken before stage first event ≡ true
    → contiguity_allows (contiguity_of plan before stage) (is_candidate plan taken stage event) ≡ true
spares-allows plan taken before stage first event h =
    (and_parts (contiguity_allows (contiguity_of plan before stage) (is_candidate plan taken stage event)) _ h).0

-- no candidate stands in the gap of a step that chains
no_candidate : (mode : Contiguity) (candidate : Bool) → is_chaining mode ≡ true → contiguity_allows mode candidate ≡ true → candidate ≡ true → ⊥
no_candidate Strict candidate chains allows is = cc allows
no_candidate Relaxed candidate chains allows is = cc (allows, is)
no_candidate Any candidate chains allows is = cc chains

-- a step that chains can't take two events
one_taken : (plan : Plan) (events : List Event) (list : List Entry) (last : Entry) (a b : Entry) → last_entry list ≡ Some last → a.stage ≡ b.stage
    → a.position < b.position
    → is_chaining (contiguity_of plan last.stage a.stage) ≡ true → extends plan events list a ≡ true → extends plan events list b ≡ true → ⊥
unfolding gap_holds fits
one_taken plan events list last a b is stage lt chains ha hb =
    let pa = extends-parts plan events list a ha in
    let pb = extends-parts plan events list b hb in
    let after : last.position < a.position = above a.position pa.1 in
    let known : b.position < length events = ltb-true b.position (length events) (and_parts (nat_lt b.position (length events)) _ pb.1).0 in
    let gap = gap_between events last.position b.position in
    let here : gap_spares plan (taken_of events list) last.stage b.stage gap ≡ true =
    subst (λ (o : Option Entry). option_map_or (λ (e : Entry). gap_spares plan (taken_of events list) e.stage b.stage
    (gap_between events e.position b.position)) o true ≡ true) is pb.3 in
    let place = a.position - (last.position + 1) in
    let within : place < length gap = omega (arith, length-take (b.position - (last.position + 1)) (drop (last.position + 1) events), length-drop (last.position + 1) events, after, lt, known) in
    let found : get_or gap place no_event ≡ event_at events a.position =
    get_or-take (b.position - (last.position + 1)) (drop (last.position + 1) events) place no_event (omega (arith, after, lt))
    ∙ get_or-drop (last.position + 1) events place no_event
    ∙ ap (λ (i : ℕ). get_or events i no_event) (omega (arith, after)) in
    let spare = spared plan (taken_of events list) last.stage b.stage gap place no_event within here in
    let allows = spares-allows plan (taken_of events list) last.stage b.stage spare.0 (get_or gap place no_event) spare.1 in
    no_candidate (contiguity_of plan last.stage a.stage) (is_candidate plan (taken_of events list) a.stage (event_at events a.position)) chains
    ((λ i. contiguity_allows (contiguity_of plan last.stage (stage i)) (is_candidate plan (taken_of events list) (stage i) (sym found i))) ∙ allows)
    (and_parts (is_candidate plan (taken_of events list) a.stage (event_at events a.position)) _ pa.2).0 where
      above : (position : ℕ) → comes_later events list position ≡ true → last.position < position
      above position h = ltb-true last.position position
          (subst (λ (o : Option Entry). option_map_or (λ (e : Entry). nat_lt e.position position) o true ≡ true) is
          (and_parts (nat_lt position (length events)) _ h).1)

-- ---- where two lists part

flipped : {a b : List ℕ} → Differ a b → Differ b a
flipped d =
    record {
      front = d.front;
      x = d.y;
      y = d.x;
      behind_x = d.behind_y;
      behind_y = d.behind_x;
      unlike = λ e. d.unlike (sym e);
      a_is = d.b_is;
      b_is =
          d.a_is;
    }

-- the last entry of a list with more entries stands for no earlier stage and at no earlier position
last-behind : (plan : Plan) (events : List Event) (list : List Entry) (last : Entry) (later : List Entry) → last_entry list ≡ Some last
    → extends_all plan events list later ≡ true
    → (end : Entry) × (last_entry (list ++ later) ≡ Some end) × (last.stage ≤ end.stage) × (last.position ≤ end.position)
last-behind plan events list last [] is h = (last, ap last_entry (append-nil list) ∙ is, omega arith, omega arith)
last-behind plan events list last (next ∷ later) is h =
    let both = and_parts (extends plan events list next) (extends_all plan events (list ++ next ∷ []) later) h in
    let parts = extends-parts plan events list next both.0 in
    let rest = last-behind plan events (list ++ next ∷ []) next later (last_or-push None list next) both.1 in
    let stage : last.stage ≤ next.stage = follows-later plan (stages_of list) last.stage next.stage (last_or-map (λ (e : Entry). e.stage) None list ∙ ap (option_map (λ (e : Entry). e.stage)) is) parts.0 in
    let position : last.position < next.position = ltb-true last.position next.position
    (subst (λ (o : Option Entry). option_map_or (λ (e : Entry). nat_lt e.position next.position) o true ≡ true) is
    (and_parts (nat_lt next.position (length events)) _ parts.1).1) in
    (rest.0, ap last_entry (sym (append_assoc list (next ∷ []) later)) ∙ rest.1, omega (arith, stage, rest.2), omega (arith, position, rest.3))

-- ---- two different entries behind one list

-- a step that branches off, and what more entries make of its label
branch-label : (plan : Plan) (events : List Event) (list : List Entry) (mark : Mark) (next : Entry) (later : List Entry)
    → stays plan (stages_of list) next.stage ≡ false
    → (more : List ℕ)
    × ((mark_from plan events list mark (next ∷ later)).label ≡ mark.label
    ++ (mark.next + branches_below plan (stages_of list) next.stage) ∷ (event_digit plan events list next ++ more))
branch-label plan events list mark next later other =
    let rest = label-grows plan events (list ++ next ∷ []) (mark_behind plan events list mark next) later in (
      rest.0,
      rest.1 ∙ ap (λ (m : Mark). m.label ++ rest.0) (behind-branches plan events list mark next other)
          ∙ append_assoc mark.label (step_digits plan events list next mark.next) rest.0,
    )

branches-rise : (plan : Plan) (so_far : List ℕ) (low high : ℕ) → may_follow plan so_far low ≡ true → stays plan so_far low ≡ false → low < high
    → branches_below plan so_far low + 1 ≤ branches_below plan so_far high
unfolding branches_below
branches-rise plan so_far low high follows other lt =
    counts-below (branches_off plan so_far) low high (rw (follows, other) refl) lt

-- both branch off, to different stages
two_branches : (plan : Plan) (events : List Event) (list : List Entry) (mark : Mark) (a b : Entry) (xs ys : List Entry) → extends plan events list a ≡ true
    → stays plan (stages_of list) a.stage ≡ false → stays plan (stages_of list) b.stage ≡ false → a.stage < b.stage
    → Differ (mark_from plan events list mark (a ∷ xs)).label (mark_from plan events list mark (b ∷ ys)).label
two_branches plan events list mark a b xs ys ha other_a other_b lt =
    let la = branch-label plan events list mark a xs other_a in
    let lb = branch-label plan events list mark b ys other_b in
    let rise = branches-rise plan (stages_of list) a.stage b.stage (extends-parts plan events list a ha).0 other_a lt in
    record {
      front = mark.label;
      x = mark.next + branches_below plan (stages_of list) a.stage;
      y = mark.next + branches_below plan (stages_of list) b.stage;
      behind_x = event_digit plan events list a ++ la.0;
      behind_y = event_digit plan events list b ++ lb.0;
      unlike = λ e. omega (arith, rise, e);
      a_is = la.1;
      b_is = lb.1;
    }

-- one stays in the chain, and the other branches off
one_stays : (plan : Plan) (events : List Event) (list : List Entry) (mark : Mark) (a b end : Entry) (xs ys : List Entry)
    → extends plan events list b ≡ true → extends_all plan events (list ++ b ∷ []) ys ≡ true
    → last_entry (list ++ a ∷ xs) ≡ Some end → last_entry (list ++ b ∷ ys) ≡ Some end
    → stays plan (stages_of list) a.stage ≡ true → stays plan (stages_of list) b.stage ≡ false → a.stage ≢ b.stage
    → Differ (mark_from plan events list mark (a ∷ xs)).label (mark_from plan events list mark (b ∷ ys)).label
one_stays plan events list mark a b end xs ys hb rest ends_a ends_b same other apart =
    parted (goes-on plan events (list ++ a ∷ []) (mark_behind plan events list mark a) xs) where
      stepped : mark_behind plan events list mark a ≡ record { label = mark.label; next = mark.next + branches_in plan (stages_of list) }
      stepped = behind-stays plan events list mark a same

      follows : may_follow plan (stages_of list) b.stage ≡ true
      follows = (extends-parts plan events list b hb).0

      was : last_or None (stages_of list) ≡ Some a.stage
      was = stays_in plan (last_or None (stages_of list)) a.stage same

      later : a.stage < b.stage
      later = let le = follows-later plan (stages_of list) a.stage b.stage was follows in omega (arith, le, apart)

      below : branches_below plan (stages_of list) b.stage + 1 ≤ branches_in plan (stages_of list)
      below = branches-rise plan (stages_of list) b.stage (end_stage plan + 1) follows other (stage_awaited plan (stages_of list) b.stage follows)

      beyond : b.stage ≤ end.stage
      beyond =
          let last = last-behind plan events (list ++ b ∷ []) b ys (last_or-push None list b) rest in
          let is : Some last.0 ≡ Some end = sym last.1 ∙ ap last_entry (append_assoc list (b ∷ []) ys) ∙ ends_b in
          subst (λ (o : Option Entry). IfSome o (λ e. b.stage ≤ e.stage)) is last.2

      parted : Goes (list ++ a ∷ []) (mark_behind plan events list mark a) xs (mark_from plan events list mark (a ∷ xs)).label
          → Differ (mark_from plan events list mark (a ∷ xs)).label (mark_from plan events list mark (b ∷ ys)).label
      parted (chained label last) =
          let at_a : Some end.stage ≡ Some a.stage =
          sym (last_or-map (λ (e : Entry). e.stage) None (list ++ a ∷ xs) ∙ ap (option_map (λ (e : Entry). e.stage)) ends_a)
          ∙ ap (λ l. last_or None (stages_of l)) (sym (append_assoc list (a ∷ []) xs)) ∙ last ∙ last_stage-push list a in
          let is : end.stage ≡ a.stage = subst (λ (o : Option ℕ). IfSome o (λ s. s ≡ a.stage)) (sym at_a) refl in
          absurd (omega (arith, is, later, beyond))
      parted (branched digit more enough label) =
          let branch = branch-label plan events list mark b ys other in
          let next : (mark_behind plan events list mark a).next ≡ mark.next + branches_in plan (stages_of list) = ap (λ (m : Mark). m.next) stepped in
          record {
            front = mark.label;
            x = digit;
            y = mark.next + branches_below plan (stages_of list) b.stage;
            behind_x = more;
            behind_y = event_digit plan events list b ++ branch.0;
            unlike = λ e. omega (arith, enough, next, below, e);
            a_is = label ∙ ap (λ (m : Mark). m.label ++ digit ∷ more) stepped;
            b_is = branch.1;
          }

-- ---- one stage

no_chain : (plan : Plan) (last : Option ℕ) (stage : ℕ) → is_chaining (mode_behind plan last stage) ≡ false → is_same_chain plan last stage ≡ false
no_chain plan None stage h = refl
no_chain plan (Some last) stage h = rw h (and-false (last == stage))

-- the list has a last entry where a step chains
has_last : (plan : Plan) (list : List Entry) (stage : ℕ) → is_chaining (mode_behind plan (last_or None (stages_of list)) stage) ≡ true
    → (last : Entry) × (last_entry list ≡ Some last) × (is_chaining (contiguity_of plan last.stage stage) ≡ true)
has_last plan list stage h = by_last (last_entry list) refl where
  by_last : (o : Option Entry) → last_entry list ≡ o → (last : Entry) × (last_entry list ≡ Some last)
      × (is_chaining (contiguity_of plan last.stage stage) ≡ true)
  by_last None is =
      absurd (true≢false (sym h
      ∙ ap (λ (o : Option ℕ). is_chaining (mode_behind plan o stage))
      (last_or-map (λ (e : Entry). e.stage) None list ∙ ap (option_map (λ (e : Entry). e.stage)) is)))
  by_last (Some last) is = (
    last,
    is,
    sym (ap (λ (o : Option ℕ). is_chaining (mode_behind plan o stage))
        (last_or-map (λ (e : Entry). e.stage) None list ∙ ap (option_map (λ (e : Entry). e.stage)) is)) ∙ h,
  )

digit-is : (plan : Plan) (events : List Event) (list : List Entry) (next : Entry)
    → is_chaining (mode_behind plan (last_or None (stages_of list)) next.stage) ≡ false
    → event_digit plan events list next ≡ earlier_takes plan events list next ∷ []
digit-is plan events list next h = rw h refl

takes-rise : (plan : Plan) (events : List Event) (list : List Entry) (stage p q : ℕ)
    → is_partial plan events (list ++ record { stage = stage; position = p } ∷ []) ≡ true → p < q
    → earlier_takes plan events list (record { stage = stage; position = p }) + 1 ≤ earlier_takes plan events list (record { stage = stage; position = q })
unfolding earlier_takes
takes-rise plan events list stage p q partial lt =
    counts-below (λ position. is_partial plan events (list ++ record { stage = stage; position = position } ∷ [])) p q partial lt

-- the same stage takes two events
two_events : (plan : Plan) (events : List Event) (list : List Entry) (mark : Mark) (stage p q : ℕ) (xs ys : List Entry)
    → extends plan events list (record { stage = stage; position = p }) ≡ true → extends plan events list (record { stage = stage; position = q }) ≡ true
    → is_partial plan events (list ++ record { stage = stage; position = p } ∷ []) ≡ true → p < q
    → Differ (mark_from plan events list mark (record { stage = stage; position = p } ∷ xs)).label
    (mark_from plan events list mark (record { stage = stage; position = q } ∷ ys)).label
two_events plan events list mark stage p q xs ys ha hb partial lt =
    elim (cases_Bool (is_chaining (mode_behind plan (last_or None (stages_of list)) stage))) [
      | inl chains ↦ let last = has_last plan list stage chains in absurd (one_taken plan events list last.0 a b last.1 refl lt last.2 ha hb)
      | inr lets ↦
          let other = no_chain plan (last_or None (stages_of list)) stage lets in
          let la = branch-label plan events list mark a xs other in
          let lb = branch-label plan events list mark b ys other in
          let rise = takes-rise plan events list stage p q partial lt in
          record {
            front = mark.label ++ (mark.next + branches_below plan (stages_of list) stage) ∷ [];
            x = earlier_takes plan events list a;
            y = earlier_takes plan events list b;
            behind_x = la.0;
            behind_y = lb.0;
            unlike = λ e. omega (arith, rise, e);
            a_is = la.1
                ∙ ap (λ (l : List ℕ). mark.label ++ (mark.next + branches_below plan (stages_of list) stage) ∷ (l ++ la.0))
                (digit-is plan events list a lets)
                ∙ sym (append_assoc mark.label ((mark.next + branches_below plan (stages_of list) stage) ∷ []) (earlier_takes plan events list a ∷ la.0));
            b_is = lb.1
                ∙ ap (λ (l : List ℕ). mark.label ++ (mark.next + branches_below plan (stages_of list) stage) ∷ (l ++ lb.0))
                (digit-is plan events list b lets)
                ∙ sym (append_assoc mark.label ((mark.next + branches_below plan (stages_of list) stage) ∷ []) (earlier_takes plan events list b ∷ lb.0));
          }
    ] where
      a : Entry
      a = record { stage = stage; position = p }

      b : Entry
      b = record { stage = stage; position = q }

-- ---- two different lists

-- a front of a list that may grow may grow
front-grows : (plan : Plan) (events : List Event) (list later : List Entry) → may_grow plan events (list ++ later) ≡ true → may_grow plan events list ≡ true
front-grows plan events list [] h = ap (may_grow plan events) (sym (append-nil list)) ∙ h
front-grows plan events list (next ∷ later) h =
    let one = front-grows plan events (list ++ next ∷ []) later (ap (may_grow plan events) (append_assoc list (next ∷ []) later) ∙ h) in
    (and_parts (may_grow plan events list) _ (sym (may_grow-push plan events list next) ∙ one)).0

partial-front : (plan : Plan) (events : List Event) (list : List Entry) (next : Entry) (later : List Entry)
    → may_grow plan events (list ++ next ∷ later) ≡ true → is_partial plan events (list ++ next ∷ []) ≡ true
unfolding is_partial
partial-front plan events list next later h =
    rw (has_entries-push list next) (front-grows plan events (list ++ next ∷ []) later (ap (may_grow plan events) (append_assoc list (next ∷ []) later) ∙ h))

-- they part at these entries
parted : (plan : Plan) (events : List Event) (list : List Entry) (mark : Mark) (a b end : Entry) (xs ys : List Entry) → a ≢ b
    → extends plan events list a ≡ true → extends_all plan events (list ++ a ∷ []) xs ≡ true → is_partial plan events (list ++ a ∷ []) ≡ true
    → last_entry (list ++ a ∷ xs) ≡ Some end
    → extends plan events list b ≡ true → extends_all plan events (list ++ b ∷ []) ys ≡ true → is_partial plan events (list ++ b ∷ []) ≡ true
    → last_entry (list ++ b ∷ ys) ≡ Some end
    → Differ (mark_from plan events list mark (a ∷ xs)).label (mark_from plan events list mark (b ∷ ys)).label
parted plan events list mark a b end xs ys apart ha ra pa ea hb rb pb eb =
    elim (cases_order a.stage b.stage) [
      | inl same ↦ elim (cases_order a.position b.position) [
        | inl at ↦ absurd (apart (λ i. record { stage = same i; position = at i }))
        | inr (inl lt) ↦
            subst (λ s. Differ (mark_from plan events list mark (a ∷ xs)).label
            (mark_from plan events list mark (record { stage = s; position = b.position } ∷ ys)).label) same
            (two_events plan events list mark a.stage a.position b.position xs ys ha
            (subst (λ s. extends plan events list (record { stage = s; position = b.position }) ≡ true) (sym same) hb) pa lt)
        | inr (inr gt) ↦
            flipped (subst (λ s. Differ (mark_from plan events list mark (b ∷ ys)).label
            (mark_from plan events list mark (record { stage = s; position = a.position } ∷ xs)).label) (sym same)
            (two_events plan events list mark b.stage b.position a.position ys xs hb
            (subst (λ s. extends plan events list (record { stage = s; position = a.position }) ≡ true) same ha) pb gt))
      ]
      | inr order ↦ unlike (λ e. ⊎_elim (λ lt. omega (arith, e, lt)) (λ gt. omega (arith, e, gt)) order) order
    ] where
      unlike : a.stage ≢ b.stage → (a.stage < b.stage) ⊎ (b.stage < a.stage)
          → Differ (mark_from plan events list mark (a ∷ xs)).label (mark_from plan events list mark (b ∷ ys)).label
      unlike ne order = elim (cases_Bool (stays plan (stages_of list) a.stage)) [
        | inl same_a ↦ elim (cases_Bool (stays plan (stages_of list) b.stage)) [
          | inl same_b ↦
              let is : Some a.stage ≡ Some b.stage = sym (stays_in plan (last_or None (stages_of list)) a.stage same_a) ∙ stays_in plan (last_or None (stages_of list)) b.stage same_b in
              absurd (ne (subst (λ (o : Option ℕ). IfSome o (λ s. a.stage ≡ s)) is refl))
          | inr other_b ↦ one_stays plan events list mark a b end xs ys hb rb ea eb same_a other_b ne
        ]
        | inr other_a ↦ elim (cases_Bool (stays plan (stages_of list) b.stage)) [
          | inl same_b ↦ flipped (one_stays plan events list mark b a end ys xs ha ra eb ea same_b other_a (λ e. ne (sym e)))
          | inr other_b ↦
              ⊎_elim (λ lt. two_branches plan events list mark a b xs ys ha other_a other_b lt)
              (λ gt. flipped (two_branches plan events list mark b a ys xs hb other_b other_a gt)) order
        ]
      ]

-- a list with more entries doesn't end where it ended
ends-later : (plan : Plan) (events : List Event) (list : List Entry) (next end : Entry) (later : List Entry) → last_entry list ≡ Some end
    → extends plan events list next ≡ true → extends_all plan events (list ++ next ∷ []) later ≡ true → last_entry (list ++ next ∷ later) ≡ Some end → ⊥
ends-later plan events list next end later was h rest is =
    let last = last-behind plan events (list ++ next ∷ []) next later (last_or-push None list next) rest in
    let same : Some last.0 ≡ Some end = sym last.1 ∙ ap last_entry (append_assoc list (next ∷ []) later) ∙ is in
    let beyond : next.position ≤ end.position = subst (λ (o : Option Entry). IfSome o (λ e. next.position ≤ e.position)) same last.3 in
    let after : end.position < next.position = ltb-true end.position next.position
    (subst (λ (o : Option Entry). option_map_or (λ (e : Entry). nat_lt e.position next.position) o true ≡ true) was
    (and_parts (nat_lt next.position (length events)) _ (extends-parts plan events list next h).1).1) in
    omega (arith, beyond, after)

from-common : (plan : Plan) (events : List Event) (list : List Entry) (mark : Mark) (end : Entry) (xs ys : List Entry) → xs ≢ ys
    → extends_all plan events list xs ≡ true → may_grow plan events (list ++ xs) ≡ true → last_entry (list ++ xs) ≡ Some end
    → extends_all plan events list ys ≡ true → may_grow plan events (list ++ ys) ≡ true → last_entry (list ++ ys) ≡ Some end
    → Differ (mark_from plan events list mark xs).label (mark_from plan events list mark ys).label
from-common plan events list mark end [] [] apart hx gx ex hy gy ey = absurd (apart refl)
from-common plan events list mark end [] (b ∷ ys) apart hx gx ex hy gy ey =
    let both = and_parts (extends plan events list b) (extends_all plan events (list ++ b ∷ []) ys) hy in
    absurd (ends-later plan events list b end ys (ap last_entry (sym (append-nil list)) ∙ ex) both.0 both.1 ey)
from-common plan events list mark end (a ∷ xs) [] apart hx gx ex hy gy ey =
    let both = and_parts (extends plan events list a) (extends_all plan events (list ++ a ∷ []) xs) hx in
    absurd (ends-later plan events list a end xs (ap last_entry (sym (append-nil list)) ∙ ey) both.0 both.1 ex)
from-common plan events list mark end (a ∷ xs) (b ∷ ys) apart hx gx ex hy gy ey = elim (same_entry a b) [
  | inl same ↦
      subst (λ (e : Entry). Differ (mark_from plan events list mark (a ∷ xs)).label (mark_from plan events list mark (e ∷ ys)).label) same
      (from-common plan events (list ++ a ∷ []) (mark_behind plan events list mark a) end xs ys (λ e. apart (λ i. same i ∷ e i))
      px.1 (ap (may_grow plan events) (append_assoc list (a ∷ []) xs) ∙ gx) (ap last_entry (append_assoc list (a ∷ []) xs) ∙ ex)
      (subst (λ (e : Entry). extends_all plan events (list ++ e ∷ []) ys ≡ true) (sym same) py.1)
      (subst (λ (e : Entry). may_grow plan events ((list ++ e ∷ []) ++ ys) ≡ true) (sym same) (ap (may_grow plan events) (append_assoc list (b ∷ []) ys) ∙ gy))
      (subst (λ (e : Entry). last_entry ((list ++ e ∷ []) ++ ys) ≡ Some end) (sym same) (ap last_entry (append_assoc list (b ∷ []) ys) ∙ ey)))
  | inr other ↦
      parted plan events list mark a b end xs ys other px.0 px.1 (partial-front plan events list a xs gx) ex py.0 py.1
      (partial-front plan events list b ys gy) ey
] where
  px : (extends plan events list a ≡ true) × (extends_all plan events (list ++ a ∷ []) xs ≡ true)
  px = and_parts (extends plan events list a) (extends_all plan events (list ++ a ∷ []) xs) hx

  py : (extends plan events list b ≡ true) × (extends_all plan events (list ++ b ∷ []) ys ≡ true)
  py = and_parts (extends plan events list b) (extends_all plan events (list ++ b ∷ []) ys) hy

  same_entry : (a b : Entry) → (a ≡ b) ⊎ (a ≢ b)
  same_entry a b = elim (cases_eq a.stage b.stage) [
    | inl stage ↦ elim (cases_eq a.position b.position) [
      | inl position ↦ inl (λ i. record { stage = stage i; position = position i })
      | inr other ↦ inr (λ e. other (ap (λ (x : Entry). x.position) e))
    ]
    | inr other ↦ inr (λ e. other (ap (λ (x : Entry). x.stage) e))
  ]

pub labels_differ : (plan : Plan) (events : List Event) (a b : List Entry) (end : Entry) → a ≢ b
    → is_partial plan events a ≡ true → last_entry a ≡ Some end → is_partial plan events b ≡ true → last_entry b ≡ Some end
    → Differ (label_of plan events a) (label_of plan events b)
unfolding may_grow
labels_differ plan events a b end apart pa ea pb eb =
    let ga = is_partial-may_grow plan events a pa in
    let gb = is_partial-may_grow plan events b pb in
    from-common plan events [] no_mark end a b apart (and_parts (extends_all plan events [] a) _ ga).0 ga ea
    (and_parts (extends_all plan events [] b) _ gb).0 gb eb
