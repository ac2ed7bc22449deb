-- Lists that may grow have their stages in order, and each is one of the plan's.
use Rattle.std.proofs.Common.{◌≡◌, refl, sym, ◌∙◌, ap, subst, ℕ, ◌+◌, ◌≤◌, ◌<◌, arith, Bool, true, false, ◌&&◌, cond, List, [], ◌∷◌, ◌++◌, length, nat_lt}
use Rattle.std.specs.Prelude.{Option, Some, None, ◌==◌}
use Rattle.std.specs.List.{last_or}
use Rattle.std.proofs.lemmas.Bool.{and_parts, eqb-true, ne_eqb, ltb-true}
use Rattle.std.proofs.lemmas.List.{append-nil}
use Rattle.cep_event.specs.declared.event.Event.{Event}
use Rattle.cep_plan.specs.declared.plan.Plan.{Plan}
use Rattle.cep_plan.specs.Entry.{Entry, stages_of, taken_of, event_at}
use Rattle.cep_plan.specs.Follow.{count_for, may_come, may_follow, may_follow_last, has_room, has_enough, all_optional}
use Rattle.cep_plan.specs.Candidate.{fits}
use Rattle.cep_plan.specs.Gap.{gap_holds}
use Rattle.cep_plan.specs.Limit.{are_in_time}
use Rattle.cep_plan.specs.Partial.{comes_later, extends, extends_all, may_grow}
use Rattle.nfa_compile.proofs.CountLaws.{counted, count_for-push}
use Rattle.nfa_compile.proofs.EndLaws.{stage_fitted, follows_inside}

pub last_or-push : {X : Type 0} (o : Option X) (xs : List X) (x : X) → last_or o (xs ++ x ∷ []) ≡ Some x
last_or-push o [] x = refl
last_or-push o (y ∷ xs) x = last_or-push (Some y) xs x

-- where there is no last stage, the list is empty
pub none_last : (xs : List ℕ) → last_or None xs ≡ None → xs ≡ []
none_last [] h = refl
none_last (x ∷ xs) h = absurd (some_last x xs h) where
  some_last : (x : ℕ) (xs : List ℕ) → last_or (Some x) xs ≡ None → ⊥
  some_last x [] h = cc
  some_last x (y ∷ xs) h = some_last y xs h

pub some_same : {a b : ℕ} → Some a ≡ Some b → a ≡ b
some_same h = cc

-- The stages are in order, and each is one of the plan's: behind the last one no later stage was met.
pub record IsInOrder (plan : Plan) (so_far : List ℕ) : Type 0 where
  pub none_later : (last later : ℕ) → last_or None so_far ≡ Some last → last < later → count_for later so_far ≡ 0
  pub known : (last : ℕ) → last_or None so_far ≡ Some last → last < length plan.stages

pub order-nil : (plan : Plan) → IsInOrder plan []
order-nil plan = record {
  none_later = λ last later h k. refl;
  known = λ last h. absurd (cc);
}

-- a stage that follows stands no earlier than the last one
pub not_earlier : (plan : Plan) (so_far : List ℕ) (next last : ℕ) → may_follow_last plan so_far next (Some last) ≡ true → last ≤ next
not_earlier plan so_far next last h = by_test (next == last) refl h where
  by_test : (b : Bool) → (next == last) ≡ b
      → cond b (has_room plan so_far next) (nat_lt last next && has_enough plan so_far last && all_optional plan (last + 1) next) ≡ true → last ≤ next
  by_test true is h = let same = eqb-true next last is in omega (arith, same)
  by_test false is h =
      let first = and_parts (nat_lt last next && has_enough plan so_far last) (all_optional plan (last + 1) next) h in
      let less = ltb-true last next (and_parts (nat_lt last next) (has_enough plan so_far last) first.0).0 in
      omega (arith, less)

-- behind the last stage so far, and so behind what follows it, no later one was met
none_behind : (plan : Plan) (so_far : List ℕ) (next : ℕ) (last : Option ℕ) → IsInOrder plan so_far → last_or None so_far ≡ last
    → may_follow_last plan so_far next last ≡ true → (later : ℕ) → next < later → count_for later so_far ≡ 0
none_behind plan so_far next None before is h later above = ap (count_for later) (none_last so_far is)
none_behind plan so_far next (Some last) before is h later above =
    let reached = not_earlier plan so_far next last h in
    before.none_later last later is (omega (arith, reached, above))

pub order-push : (plan : Plan) (so_far : List ℕ) (next : ℕ) → IsInOrder plan so_far → may_come plan so_far next ≡ true → IsInOrder plan (so_far ++ next ∷ [])
order-push plan so_far next before follows =
    let both = and_parts (nat_lt next (length plan.stages)) (may_follow_last plan so_far next (last_or None so_far)) follows in
    record {
      none_later = λ last later h k.
          let same : next ≡ last = some_same (sym (last_or-push None so_far next) ∙ h) in
          let above : next < later = omega (arith, same, k) in
          count_for-push later so_far next ∙ ap (λ b. counted b (count_for later so_far)) (ne_eqb next later (λ e. omega (arith, e, above)))
          ∙ none_behind plan so_far next (last_or None so_far) before refl both.1 later above;
      known = λ last h.
          let same : next ≡ last = some_same (sym (last_or-push None so_far next) ∙ h) in
          let inside : next < length plan.stages = ltb-true next (length plan.stages) both.0 in
          omega (arith, same, inside);
    }

module _ (plan : Plan) (events : List Event) where
  comes_first : (list : List Entry) (next : Entry) → extends plan events list next ≡ true → may_come plan (stages_of list) next.stage ≡ true
  comes_first list next h =
      let three = and_parts (may_follow plan (stages_of list) next.stage && comes_later events list next.position && fits plan (taken_of events list) next.stage (event_at events next.position) next.position) (gap_holds plan events list next.stage next.position) h in
      let two = and_parts (may_follow plan (stages_of list) next.stage && comes_later events list next.position) (fits plan (taken_of events list) next.stage (event_at events next.position) next.position) three.0 in
      let inside = stage_fitted plan (taken_of events list) next.stage (event_at events next.position) next.position two.1 in
      sym (follows_inside plan (stages_of list) next.stage inside)
      ∙ (and_parts (may_follow plan (stages_of list) next.stage) (comes_later events list next.position) two.0).0

  stages_of-push : (list : List Entry) (next : Entry) → stages_of (list ++ next ∷ []) ≡ stages_of list ++ next.stage ∷ []
  stages_of-push [] next = refl
  stages_of-push (e ∷ list) next = λ i. e.stage ∷ stages_of-push list next i

  order-all : (before later : List Entry) → IsInOrder plan (stages_of before) → extends_all plan events before later ≡ true
      → IsInOrder plan (stages_of before ++ stages_of later)
  order-all before [] order h = subst (IsInOrder plan) (sym (append-nil (stages_of before))) order
  order-all before (next ∷ later) order h =
      let both = and_parts (extends plan events before next) (extends_all plan events (before ++ next ∷ []) later) h in
      let pushed = subst (IsInOrder plan) (sym (stages_of-push before next))
      (order-push plan (stages_of before) next.stage order (comes_first before next both.0)) in
      subst (IsInOrder plan) (joined before next later) (order-all (before ++ next ∷ []) later pushed both.1) where
        joined : (before : List Entry) (next : Entry) (later : List Entry)
            → stages_of (before ++ next ∷ []) ++ stages_of later ≡ stages_of before ++ stages_of (next ∷ later)
        joined [] next later = refl
        joined (e ∷ before) next later = λ i. e.stage ∷ joined before next later i

  -- the stages of a list that may grow are in order
  pub order-grows : (list : List Entry) → may_grow plan events list ≡ true → IsInOrder plan (stages_of list)
  unfolding may_grow
  order-grows list h = order-all [] list (order-nil plan) (and_parts (extends_all plan events [] list) (are_in_time plan (taken_of events list)) h).0
