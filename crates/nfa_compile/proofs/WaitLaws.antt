-- What the automaton says of lists: a list waits for what its state waits for, and a take leads to the state of the longer list.
use Rattle.std.proofs.Common.{◌≡◌, refl, sym, ◌∙◌, ap, subst, ℕ, zero, suc, ◌+◌, ◌≤◌, ◌<◌, min, arith, Bool, true, false, not, ◌&&◌, cond, ◌⊎◌, inl, inr, List, [], ◌∷◌, ◌++◌, length, map, nat_lt}
use Rattle.std.specs.Prelude.{Option, Some, None, ◌==◌, if◌then◌else◌, nat_le, filter, slice_get}
use Rattle.std.specs.List.{last_or, list_all, range_with_len}
use Rattle.std.specs.Option.{option_map_or}
use Rattle.std.proofs.lemmas.Bool.{and_parts, eqb-true, eq-eqb, lt-ltb, le-ltb, leb-true, le-leb, lt-leb, cases_order}
use Rattle.cep_plan.specs.declared.plan.Plan.{Plan}
use Rattle.cep_plan.specs.declared.plan.Stage.{Stage}
use Rattle.cep_plan.specs.declared.plan.Contiguity.TheVariants.{Any}
use Rattle.cep_plan.specs.Follow.{count_for, is_below, end_stage, is_closing, may_end, may_come, may_follow, may_follow_last, has_room, has_enough, all_optional, is_full, is_full_at}
use Rattle.nfa_compile.specs.declared.state.State.{State}
use Rattle.nfa_compile.specs.State.{most_within, greatest_count, greatest_at, number_of_state, count_in, state_of, state_behind, stages_at, stages_behind, has_bounds, IsCompilable}
use Rattle.nfa_compile.specs.Automaton.{mode_behind, is_same_chain, negations_behind, wait_for, waits_of}
use Rattle.nfa_compile.proofs.CountLaws.{counted, count_for-push, count_for-first, count_same, count_other, last_same}
use Rattle.nfa_compile.proofs.EndLaws.{wait_at_end}
use Rattle.nfa_compile.proofs.ReachLaws.{IsInOrder, none_last, not_earlier, some_same}

-- ---- one stage

-- a stage of the plan has bounds
bounds_within : (stages : List Stage) (i : ℕ) (s : Stage) → list_all has_bounds stages ≡ true → slice_get stages i ≡ Some s → has_bounds s ≡ true
bounds_within [] i s h k = absurd (cc)
bounds_within (x ∷ xs) zero s h k =
    let first = (and_parts (has_bounds x) (list_all has_bounds xs) h).0 in
    let same : x ≡ s = cc in
    subst (λ y. has_bounds y ≡ true) same first
bounds_within (x ∷ xs) (suc i) s h k = bounds_within xs i s (and_parts (has_bounds x) (list_all has_bounds xs) h).1 k

-- room is left as it is where the count is cut at the greatest one
room_cut : (n least : ℕ) (greatest : Option ℕ) → is_below (min n (most_within least greatest)) greatest ≡ is_below n greatest
room_cut n least None = refl
room_cut n least (Some m) = by_order (cases_order n m) where
  by_order : (n ≡ m) ⊎ ((n < m) ⊎ (m < n)) → nat_lt (min n m) m ≡ nat_lt n m
  by_order (inl e) = le-ltb (min n m) m (omega (arith, e)) ∙ sym (le-ltb n m (omega (arith, e)))
  by_order (inr (inl h)) = lt-ltb (min n m) m (omega (arith, h)) ∙ sym (lt-ltb n m h)
  by_order (inr (inr h)) = le-ltb (min n m) m (omega (arith, h)) ∙ sym (le-ltb n m (omega (arith, h)))

-- and so is what it needs
need_cut : (n least g : ℕ) → least ≤ g → nat_le least (min n g) ≡ nat_le least n
need_cut n least g h = by_order (cases_order least n) where
  by_order : (least ≡ n) ⊎ ((least < n) ⊎ (n < least)) → nat_le least (min n g) ≡ nat_le least n
  by_order (inl e) = le-leb least (min n g) (omega (arith, e, h)) ∙ sym (le-leb least n (omega (arith, e)))
  by_order (inr (inl l)) = le-leb least (min n g) (omega (arith, l, h)) ∙ sym (le-leb least n (omega (arith, l)))
  by_order (inr (inr l)) = lt-leb least (min n g) (omega (arith, l)) ∙ sym (lt-leb least n l)

-- the greatest count is at least what the stage needs
need_within : (s : Stage) → has_bounds s ≡ true → (1 ≤ s.min) × (s.min ≤ greatest_count s)
need_within s h =
    let both = and_parts (nat_le 1 s.min) (nat_le s.min (greatest_count s)) h in
    (leb-true 1 s.min both.0, leb-true s.min (greatest_count s) both.1)

-- each stage has a state
some_state : (stages : List Stage) (i : ℕ) → i < length stages → list_all has_bounds stages ≡ true → 1 ≤ option_map_or greatest_count (slice_get stages i) 0
some_state [] i h k = absurd (omega (arith, h))
some_state (x ∷ xs) zero h k =
    let need = need_within x (and_parts (has_bounds x) (list_all has_bounds xs) k).0 in
    omega (arith, need.0, need.1)
some_state (x ∷ xs) (suc i) h k = some_state xs i (omega (arith, h)) (and_parts (has_bounds x) (list_all has_bounds xs) k).1

-- ---- two lists with one count but for the cut

module _ (plan : Plan) (a b : List ℕ) (stage : ℕ) (cut : count_for stage b ≡ min (count_for stage a) (greatest_at plan stage)) where
  room_same : has_room plan b stage ≡ has_room plan a stage
  room_same = same (slice_get plan.stages stage) cut where
    same : (o : Option Stage) → count_for stage b ≡ min (count_for stage a) (option_map_or greatest_count o 0)
        → option_map_or (λ d. is_below (count_for stage b) d.max) o false ≡ option_map_or (λ d. is_below (count_for stage a) d.max) o false
    same None e = refl
    same (Some d) e = ap (λ n. is_below n d.max) e ∙ room_cut (count_for stage a) d.min d.max

  enough_same : list_all has_bounds plan.stages ≡ true → has_enough plan b stage ≡ has_enough plan a stage
  enough_same bounds = same (slice_get plan.stages stage) refl cut where
    same : (o : Option Stage) → slice_get plan.stages stage ≡ o → count_for stage b ≡ min (count_for stage a) (option_map_or greatest_count o 0)
        → option_map_or (λ d. nat_le d.min (count_for stage b)) o false ≡ option_map_or (λ d. nat_le d.min (count_for stage a)) o false
    same None is e = refl
    same (Some d) is e =
        ap (nat_le d.min) e ∙ need_cut (count_for stage a) d.min (greatest_count d) (need_within d (bounds_within plan.stages stage d bounds is)).1

follow_same : (plan : Plan) (a b : List ℕ) (last stage : ℕ) → has_room plan b last ≡ has_room plan a last → has_enough plan b last ≡ has_enough plan a last
    → may_follow_last plan b stage (Some last) ≡ may_follow_last plan a stage (Some last)
follow_same plan a b last stage room enough = by_test (stage == last) refl where
  by_test : (same : Bool) → (stage == last) ≡ same
      → cond same (has_room plan b stage) (nat_lt last stage && has_enough plan b last && all_optional plan (last + 1) stage)
      ≡ cond same (has_room plan a stage) (nat_lt last stage && has_enough plan a last && all_optional plan (last + 1) stage)
  by_test true is = subst (λ s. has_room plan b s ≡ has_room plan a s) (sym (eqb-true stage last is)) room
  by_test false is = λ i. nat_lt last stage && enough i && all_optional plan (last + 1) stage

-- the last stage has an event
last_counted : (x : ℕ) (xs : List ℕ) (last : ℕ) → last_or (Some x) xs ≡ Some last → 1 ≤ count_for last (x ∷ xs)
last_counted x [] last h =
    let same : x ≡ last = some_same h in
    let first = count_for-first last x [] ∙ ap (λ b. counted b (count_for last [])) (eq-eqb x last same) in
    omega (arith, first)
last_counted x (y ∷ ys) last h = more (x == last) (count_for-first last x (y ∷ ys)) (last_counted y ys last h) where
  more : (b : Bool) → count_for last (x ∷ y ∷ ys) ≡ counted b (count_for last (y ∷ ys)) → 1 ≤ count_for last (y ∷ ys) → 1 ≤ count_for last (x ∷ y ∷ ys)
  more true e k = omega (arith, e, k)
  more false e k = omega (arith, e, k)

ends_counted : (so_far : List ℕ) (last : ℕ) → last_or None so_far ≡ Some last → 1 ≤ count_for last so_far
ends_counted [] last h = absurd (cc)
ends_counted (x ∷ xs) last h = last_counted x xs last h

kept_step : {X : Type 0} (f g : ℕ → X) (b : Bool) (x : ℕ) (rest : List ℕ) → (b ≡ true → f x ≡ g x) → map f rest ≡ map g rest
    → map f (cond b (x ∷ rest) rest) ≡ map g (cond b (x ∷ rest) rest)
kept_step f g true x rest here later = λ i. here refl i ∷ later i
kept_step f g false x rest here later = later

map_kept : {X : Type 0} (f g : ℕ → X) (test : ℕ → Bool) → ((t : ℕ) → test t ≡ true → f t ≡ g t) → (xs : List ℕ)
    → map f (filter test xs) ≡ map g (filter test xs)
map_kept f g test same [] = refl
map_kept f g test same (x ∷ xs) = kept_step f g (test x) x (filter test xs) (same x) (map_kept f g test same xs)

-- ---- a list and its state

module _ (plan : Plan) (fit : IsCompilable plan) (so_far : List ℕ) (order : IsInOrder plan so_far) (last : ℕ) (ends : last_or None so_far ≡ Some last) where
  abbrev at_last : State
  at_last = record { stage = last; count = count_in plan so_far last }

  pub some_event : 1 ≤ count_in plan so_far last
  some_event =
      let counted_once = ends_counted so_far last ends in
      let a_state = some_state plan.stages last (order.known last ends) fit.bounds in
      omega (arith, counted_once, a_state)

  cut : count_for last (stages_at at_last) ≡ min (count_for last so_far) (greatest_at plan last)
  cut = count_same last (count_in plan so_far last)

  come_same : (stage : ℕ) → may_come plan (stages_at at_last) stage ≡ may_come plan so_far stage
  come_same stage =
      ap (λ b. nat_lt stage (length plan.stages) && b)
      (ap (may_follow_last plan (stages_at at_last) stage) (last_same last (count_in plan so_far last) some_event)
      ∙ follow_same plan so_far (stages_at at_last) last stage (room_same plan so_far (stages_at at_last) last cut)
      (enough_same plan so_far (stages_at at_last) last cut fit.bounds)
      ∙ sym (ap (may_follow_last plan so_far stage) ends))

  end_same : may_end plan (stages_at at_last) ≡ may_end plan so_far
  end_same =
      ap (λ o. is_closing plan && option_map_or (λ s. s + 1 == end_stage plan && has_enough plan (stages_at at_last) s) o false)
      (last_same last (count_in plan so_far last) some_event)
      ∙ ap (λ b. is_closing plan && (last + 1 == end_stage plan && b)) (enough_same plan so_far (stages_at at_last) last cut fit.bounds)
      ∙ sym (ap (λ o. is_closing plan && option_map_or (λ s. s + 1 == end_stage plan && has_enough plan so_far s) o false) ends)

  may_same : (stage : ℕ) → may_follow plan (stages_at at_last) stage ≡ may_follow plan so_far stage
  unfolding may_follow
  may_same stage = λ i. if stage == end_stage plan then end_same i else come_same stage i

  full_same : is_full plan (stages_at at_last) ≡ is_full plan so_far
  unfolding is_full
  full_same =
      ap (λ o. not (is_closing plan) && option_map_or (is_full_at plan (stages_at at_last)) o false) (last_same last (count_in plan so_far last) some_event)
      ∙ ap (λ b. not (is_closing plan) && (b && all_optional plan (last + 1) (length plan.stages)))
      (enough_same plan so_far (stages_at at_last) last cut fit.bounds)
      ∙ sym (ap (λ o. not (is_closing plan) && option_map_or (is_full_at plan so_far) o false) ends)

  -- one more event, where the stage is the last one or a later one
  count_same_next : (stage : ℕ) → may_come plan so_far stage ≡ true
      → count_in plan (stages_at at_last ++ stage ∷ []) stage ≡ count_in plan (so_far ++ stage ∷ []) stage
  count_same_next stage follows =
      ap (λ n. min n (greatest_at plan stage)) (one_more (stages_at at_last))
      ∙ by_test (last == stage) refl
      ∙ sym (ap (λ n. min n (greatest_at plan stage)) (one_more so_far)) where
        one_more : (list : List ℕ) → count_for stage (list ++ stage ∷ []) ≡ count_for stage list + 1
        one_more list = count_for-push stage list stage ∙ ap (λ b. counted b (count_for stage list)) (eq-eqb stage stage refl)

        not_before : last ≤ stage
        not_before =
            not_earlier plan so_far stage last (subst (λ o. may_follow_last plan so_far stage o ≡ true) ends
            (and_parts (nat_lt stage (length plan.stages)) (may_follow_last plan so_far stage (last_or None so_far)) follows).1)

        later : (last == stage) ≡ false → last < stage
        later is = by_order (cases_order last stage) where
          by_order : (last ≡ stage) ⊎ ((last < stage) ⊎ (stage < last)) → last < stage
          by_order (inl e) = absurd (let yes : (last == stage) ≡ true = eq-eqb last stage e in cc)
          by_order (inr (inl l)) = l
          by_order (inr (inr l)) = omega (arith, l, not_before)

        by_test : (b : Bool) → (last == stage) ≡ b
            → min (count_for stage (stages_at at_last) + 1) (greatest_at plan stage) ≡ min (count_for stage so_far + 1) (greatest_at plan stage)
        by_test true is =
            subst (λ s. min (count_for s (stages_at at_last) + 1) (greatest_at plan s) ≡ min (count_for s so_far + 1) (greatest_at plan s))
            (eqb-true last stage is) (omega (arith, cut))
        by_test false is =
            let none = count_other stage last (count_in plan so_far last) is in
            let none_too = order.none_later last stage ends (later is) in
            omega (arith, none, none_too)

  ends_same : last_or None (stages_at at_last) ≡ last_or None so_far
  ends_same = last_same last (count_in plan so_far last) some_event ∙ sym ends

  wait_same-stage : (stage : ℕ) → may_come plan so_far stage ≡ true → wait_for plan (stages_at at_last) stage ≡ wait_for plan so_far stage
  unfolding wait_for
  wait_same-stage stage follows =
      let count = count_same_next stage follows in
      let before = ends_same in
      λ i. record {
        state = if stage == end_stage plan then 0 else number_of_state plan stage (count i);
        stage = stage;
        count = count i;
        mode = mode_behind plan (before i) stage;
        same_chain = is_same_chain plan (before i) stage;
        negations = negations_behind plan (before i) stage;
      }

  wait_same-end : wait_for plan (stages_at at_last) (end_stage plan) ≡ wait_for plan so_far (end_stage plan)
  wait_same-end =
      wait_at_end plan (stages_at at_last)
      ∙ (λ i. record {
        state = 0;
        stage = end_stage plan;
        count = 0;
        mode = Any;
        same_chain = false;
        negations = negations_behind plan (ends_same i) (end_stage plan);
      })
      ∙ sym (wait_at_end plan so_far)

  wait_same : (stage : ℕ) → may_follow plan so_far stage ≡ true → wait_for plan (stages_at at_last) stage ≡ wait_for plan so_far stage
  unfolding may_follow
  wait_same stage follows = by_test (stage == end_stage plan) refl follows where
    by_test : (b : Bool) → (stage == end_stage plan) ≡ b → (if b then may_end plan so_far else may_come plan so_far stage) ≡ true
        → wait_for plan (stages_at at_last) stage ≡ wait_for plan so_far stage
    by_test true is follows =
        subst (λ s. wait_for plan (stages_at at_last) s ≡ wait_for plan so_far s) (sym (eqb-true stage (end_stage plan) is)) wait_same-end
    by_test false is follows = wait_same-stage stage follows

  waits_same : waits_of plan (stages_at at_last) ≡ waits_of plan so_far
  unfolding waits_of
  waits_same =
      ap (λ test. map (wait_for plan (stages_at at_last)) (filter test (range_with_len 0 (end_stage plan + 1)))) (λ i stage. may_same stage i)
      ∙ map_kept (wait_for plan (stages_at at_last)) (wait_for plan so_far) (may_follow plan so_far) wait_same (range_with_len 0 (end_stage plan + 1))

module _ (plan : Plan) (fit : IsCompilable plan) (so_far : List ℕ) (order : IsInOrder plan so_far) where
  -- What holds of the lists of the state holds of the list.
  by_state : (P : List ℕ → List ℕ → Type 0) → P [] []
      → ((last : ℕ) (ends : last_or None so_far ≡ Some last) → P (stages_at (record { stage = last; count = count_in plan so_far last })) so_far)
      → P (stages_behind (state_of plan so_far)) so_far
  unfolding state_of
  by_state P first behind = cases (last_or None so_far) refl where
    cases : (o : Option ℕ) → last_or None so_far ≡ o → P (stages_behind (state_behind plan so_far o)) so_far
    cases None is = subst (P []) (sym (none_last so_far is)) first
    cases (Some last) is = behind last is

  -- A list waits for just what its state waits for: the same stages, target states, modes and negations.
  pub waits_of_state : waits_of plan (stages_behind (state_of plan so_far)) ≡ waits_of plan so_far
  waits_of_state = by_state (λ a b. waits_of plan a ≡ waits_of plan b) refl (waits_same plan fit so_far order)

  -- A stage may follow the list just where it may follow the lists of its state.
  pub may_follow_state : (stage : ℕ) → may_follow plan (stages_behind (state_of plan so_far)) stage ≡ may_follow plan so_far stage
  may_follow_state stage =
      by_state (λ a b. may_follow plan a stage ≡ may_follow plan b stage) refl (λ last ends. may_same plan fit so_far order last ends stage)

  -- The list is full just where the lists of its state are.
  pub is_full_state : is_full plan (stages_behind (state_of plan so_far)) ≡ is_full plan so_far
  is_full_state = by_state (λ a b. is_full plan a ≡ is_full plan b) refl (full_same plan fit so_far order)
