-- What the code makes of a run that takes an event is what the definitions say: the label, the next digit, the state and the bump.
use Rattle.std.proofs.Common.{◌≡◌, refl, sym, ◌∙◌, ap, ℕ, zero, suc, ◌+◌, arith, Bool, true, false, cond, ◌&&◌, List, [], ◌∷◌, ◌++◌, length, length-append, take, drop, Some, None}
use Rattle.std.specs.Prelude.{slice_get, count_by}
use Rattle.std.specs.List.{range_with_len, last_or}
use Rattle.std.proofs.lemmas.List.Sums.{sum_by-append}
use Rattle.cep_event.specs.declared.event.Event.{Event}
use Rattle.cep_plan.specs.declared.plan.Plan.{Plan}
use Rattle.cep_plan.specs.Entry.{Entry, taken_of, stages_of}
use Rattle.cep_plan.specs.Partial.{is_partial, waits}
use Rattle.cep_plan.proofs.LocalLaws.{AreAmong, AreAmong-push, is_partial-append}
use Rattle.nfa_compile.specs.Automaton.{is_chaining, mode_behind, wait_for, waits_of}
use Rattle.live_laws.specs.Survival.{takes}
use Rattle.live_laws.proofs.GrowthLaws.{is_partial-grow}
use Rattle.match_labels.specs.Label.{Mark, stays, earlier_takes, mark_behind, mark_of, label_of}
use Rattle.match_labels.proofs.PathLaws.{counts-same, mark_of-push, mark_of-append}
use Rattle.match_labels.proofs.WaitLaws.{branches_in-waits, branches_below-waits}
use Rattle.run_step.specs.Runs.{takes_so_far}
use Rattle.run_step.specs.Taking.{label_after, digit_after}

-- ---- counts over a range

range-last : (from n : ℕ) → range_with_len from (suc n) ≡ range_with_len from n ++ (from + n) ∷ []
range-last from zero = ap (λ k. k ∷ []) (let same : from ≡ from + 0 = omega arith in same)
range-last from (suc n) =
    ap (λ l. from ∷ l) (range-last (from + 1) n
    ∙ ap (λ k. range_with_len (from + 1) n ++ k ∷ []) (let same : from + 1 + n ≡ from + suc n = omega arith in same))

count-last : (test : ℕ → Bool) (n : ℕ) → count_by test (range_with_len 0 (n + 1)) ≡ count_by test (range_with_len 0 n) + cond (test n) 1 0
count-last test n =
    let one : n + 1 ≡ suc n = omega arith in
    let same : 0 + n ≡ n = omega arith in
    ap (λ k. count_by test (range_with_len 0 k)) one
    ∙ ap (count_by test) (range-last 0 n)
    ∙ sum_by-append (λ k. cond (test k) 1 0) (range_with_len 0 n) ((0 + n) ∷ [])
    ∙ ap (λ k. count_by test (range_with_len 0 n) + (0 + cond (test k) 1 0)) same
    ∙ (let plus : count_by test (range_with_len 0 n) + (0 + cond (test n) 1 0) ≡ count_by test (range_with_len 0 n) + cond (test n) 1 0 = omega arith in plus)

-- ---- a list that takes the event

-- the place of an element parts a list
parted_at : {X : Type 0} (xs : List X) (i : ℕ) (x : X) → slice_get xs i ≡ Some x → xs ≡ take i xs ++ x ∷ drop (suc i) xs
parted_at [] i x is = absurd cc
parted_at (y ∷ xs) zero x is = let same : y ≡ x = cc in ap (λ z. z ∷ xs) same
parted_at (y ∷ xs) (suc i) x is = ap (λ l. y ∷ l) (parted_at xs i x is)

abbrev mark_with : List ℕ → ℕ → Mark
mark_with label next = record { label = label; next = next }

one_mark : (b : Bool) (l m : List ℕ) (x y : ℕ) → cond b (mark_with l x) (mark_with m y) ≡ mark_with (cond b l m) (cond b x y)
one_mark true l m x y = refl
one_mark false l m x y = refl

module _ (plan : Plan) (events : List Event) (event : Event) (list : List Entry) (among : AreAmong events list) (stage : ℕ) where
  abbrev whole : List Event
  whole = events ++ event ∷ []

  abbrev next : Entry
  next = record { stage = stage; position = length events }

  -- the takes before the event are those so far
  earlier_is : earlier_takes plan whole list next ≡ takes_so_far plan events list stage
  unfolding earlier_takes
  earlier_is =
      counts-same _ _ 0 (length events) (λ k above below.
      is_partial-append plan events (event ∷ []) (list ++ record { stage = stage; position = k } ∷ [])
      (AreAmong-push events list (record { stage = stage; position = k }) among (omega (arith, below))))

  mark_before : mark_of plan whole list ≡ mark_of plan events list
  mark_before = mark_of-append plan events (event ∷ []) list among

  pub mark_after : (number : ℕ) → slice_get (waits_of plan (stages_of list)) number ≡ Some (wait_for plan (stages_of list) stage)
      → mark_of plan whole (list ++ next ∷ []) ≡ record {
        label =
            label_after (waits_of plan (stages_of list)) number (wait_for plan (stages_of list) stage) (label_of plan events list)
            (mark_of plan events list).next (takes_so_far plan events list stage);
        next = digit_after (waits_of plan (stages_of list)) (wait_for plan (stages_of list) stage) (mark_of plan events list).next;
      }
  unfolding mark_behind wait_for
  mark_after number is =
      let so_far = stages_of list in
      let waits = waits_of plan so_far in
      let wait = wait_for plan so_far stage in
      let parts = parted_at waits number wait is in
      let below = branches_below-waits plan so_far (take number waits) (drop (suc number) waits) wait parts in
      let all = branches_in-waits plan so_far in
      mark_of-push plan whole list next
      ∙ ap (λ (m : Mark). mark_behind plan whole list m next) mark_before
      ∙ (λ i. made (sym below i) (sym all i) (earlier_is i))
      ∙ one_mark (stays plan (stages_of list) stage) _ _ _ _ where
        made : ℕ → ℕ → ℕ → Mark
        made before many bump =
            cond (stays plan (stages_of list) stage)
            (record { label = label_of plan events list; next = (mark_of plan events list).next + many })
            (record {
              label =
                  label_of plan events list
                  ++ ((mark_of plan events list).next + before) ∷ cond (is_chaining (mode_behind plan (last_or None (stages_of list)) stage)) []
                  (bump ∷ []);
              next = 0;
            })

  -- one more take, where the event is taken
  pub takes-later : waits plan events list stage ≡ true
      → takes_so_far plan whole list stage
      ≡ takes_so_far plan events list stage + cond (takes plan (taken_of events list) stage event (length events)) 1 0
  takes-later h =
      let n : length whole ≡ length events + 1 = omega (arith, length-append events (event ∷ [])) in
      let test = λ (k : ℕ). is_partial plan whole (list ++ record { stage = stage; position = k } ∷ []) in
      let last : is_partial plan whole (list ++ next ∷ []) ≡ takes plan (taken_of events list) stage event (length events) =
      is_partial-grow plan events event list among stage ∙ ap (λ b. b && takes plan (taken_of events list) stage event (length events)) h in
      ap (λ k. count_by test (range_with_len 0 k)) n
      ∙ count-last test (length events)
      ∙ (λ i. counts-same test (λ k. is_partial plan events (list ++ record { stage = stage; position = k } ∷ [])) 0 (length events) (λ k above below.
      is_partial-append plan events (event ∷ []) (list ++ record { stage = stage; position = k } ∷ [])
      (AreAmong-push events list (record { stage = stage; position = k }) among (omega (arith, below)))) i
      + cond (last i) 1 0)
