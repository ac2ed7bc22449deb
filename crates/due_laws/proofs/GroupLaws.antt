-- The lists that the dues of a tick tell, put in order, are its timeouts and its closed matches whose starts are alive.
use Rattle.std.proofs.Common.{zero-add, ◌≡◌, refl, sym, ◌∙◌, ap, subst, ℕ, Bool, true, false, not, ◌&&◌, List, [], ◌∷◌, length, map}
use Rattle.std.specs.Prelude.{filter, Option, None, Contains}
use Rattle.std.specs.List.{list_any, AllByRecursion as Each}
use Rattle.std.specs.List.Sorted.{IsStrictlySortedBy, IsPermutation, IsSortedBy}
use Rattle.std.proofs.lemmas.Bool.{and_parts, and_from}
use Rattle.std.proofs.lemmas.List.Sorted.{Contains-permutation, IsPermutation-sym}
use Rattle.cep_event.specs.declared.event.Event.{Event}
use Rattle.cep_event.specs.declared.record.Moment.{Moment}
use Rattle.cep_plan.specs.declared.plan.Plan.{Plan}
use Rattle.cep_plan.specs.declared.item.Taken.{Taken}
use Rattle.cep_plan.specs.declared.item.Due.{Due}
use Rattle.cep_plan.specs.Entry.{Entry, taken_of, entries_in, stages_of}
use Rattle.cep_plan.specs.Order.{list_cmp}
use Rattle.cep_plan.specs.Follow.{end_stage, is_full}
use Rattle.cep_plan.specs.Limit.{limit_of, is_due}
use Rattle.cep_plan.specs.Partial.{is_partial, is_open_for, is_live}
use Rattle.cep_plan.specs.History.{lists_within, timeouts_at, closed_at}
use Rattle.std.specs.declared.cmp.Ordering.TheVariants.{Less}
use Rattle.cep_plan.proofs.OrderLaws.{list_cmp-asymmetric}
use Rattle.cep_plan.proofs.RisingLaws.{rising_lists-sorted, Contains-rising_lists}
use Rattle.live_laws.specs.Starts.{AllApart, begins_in, is_open, is_due_of, is_unfinished, is_closing_list, waiting_at, closing_at, comes_earlier}
use Rattle.live_laws.proofs.LastLaws.{entries_in-taken_of}
use Rattle.live_laws.proofs.MemberLaws.{Contains-map, Contains-from_map, Each-from_contains, AllApart-map}
use Rattle.live_laws.proofs.LiveLaws.{waits-is_live}
use Rattle.live_laws.proofs.OrderLaws.{strict_from_sort}
use Rattle.live_laws.proofs.PartialLaws.{may_grow-among, is_partial-may_grow, is_partial-rising}
use Rattle.live_laws.proofs.TimeoutLaws.{timeouts_at-unique, closed_at-unique}
use Rattle.due_laws.specs.Due.{told_along, dues_of, saved_for}
use Rattle.due_laws.proofs.OpenLaws.{scope_of, told_as_due}
use Rattle.due_laws.proofs.ToldLaws.{tells, IsTold, told_sound, told_complete, told_apart}

-- ---- sorting lists that are apart

-- the sorted lists are just those, strictly in order
pub record IsSortOf (events : List Event) (told : List (List Entry)) (made : List (List Taken)) : Type 0 where
  pub strict : IsStrictlySortedBy list_cmp (map entries_in made)
  pub sound : (z : List Entry) → Contains (map entries_in made) z → Contains told z
  pub complete : (z : List Entry) → Contains told z → Contains (map entries_in made) z
  pub back : map (taken_of events) (map entries_in made) ≡ made

pub sort_of : (events : List Event) (told : List (List Entry)) → AllApart told → (made : List (List Taken)) → IsPermutation (map (taken_of events) told) made
    → IsSortedBy comes_earlier made → IsSortOf events told made
sort_of events told apart made moved sorted = record {
  strict = strict_from_sort (map (taken_of events) told) made
      (λ a b p q e. let x = Contains-from_map (taken_of events) told a p in let y = Contains-from_map (taken_of events) told b q in
      sym x.2 ∙ ap (taken_of events) (sym (entries_in-taken_of events x.0) ∙ ap entries_in x.2 ∙ e ∙ sym (ap entries_in y.2)
      ∙ entries_in-taken_of events y.0) ∙ y.2)
      (AllApart-map (taken_of events) told
      (λ a b p q e. sym (entries_in-taken_of events a) ∙ ap entries_in e ∙ entries_in-taken_of events b) apart)
      moved sorted;
  sound = λ z q. let t = Contains-from_map entries_in made z q in let l = list_for t.0 t.1 in
      subst (Contains told) (sym (entries_in-taken_of events l.0) ∙ ap entries_in l.2 ∙ t.2) l.1;
  complete = λ z q. subst (Contains (map entries_in made)) (entries_in-taken_of events z)
      (Contains-map entries_in made (taken_of events z) (Contains-permutation (map (taken_of events) told) made (taken_of events z) moved
      (Contains-map (taken_of events) told z q)));
  back = all_back made (Each-from_contains (λ t. taken_of events (entries_in t) ≡ t) made
      (λ t q. let l = list_for t q in ap (λ x. taken_of events (entries_in x)) (sym l.2) ∙ ap (taken_of events) (entries_in-taken_of events l.0) ∙ l.2));
} where
  list_for : (t : List Taken) → Contains made t → (l : List Entry) × Contains told l × (taken_of events l ≡ t)
  list_for t q = Contains-from_map (taken_of events) told t
      (Contains-permutation made (map (taken_of events) told) t (IsPermutation-sym (map (taken_of events) told) made moved) q)

  all_back : (ts : List (List Taken)) → Each (λ t. taken_of events (entries_in t) ≡ t) ts → map (taken_of events) (map entries_in ts) ≡ ts
  all_back [] h = refl
  all_back (t ∷ ts) h = λ i. h.0 i ∷ all_back ts h.1 i

-- ---- the groups

-- lists in order are different
sorted_apart : (lists : List (List Entry)) → IsStrictlySortedBy list_cmp lists → AllApart lists
unfolding IsStrictlySortedBy
sorted_apart [] sorted = tt
sorted_apart (list ∷ lists) sorted = (differ lists sorted.0, sorted_apart lists sorted.1) where
  differ : (others : List (List Entry)) → Each (λ other. list_cmp list other ≡ Less) others → Each (λ other. list ≡ other → ⊥) others
  differ [] less = tt
  differ (other ∷ others) less = (
    (λ same.
        let before : list_cmp list list ≡ Less = ap (list_cmp list) same ∙ less.0 in
        list_cmp-asymmetric list list before before),
    differ others less.1,
  )

-- a test by a list that isn't empty
partial_some : (plan : Plan) (events : List Event) → is_partial plan events [] ≡ true → ⊥
unfolding is_partial
partial_some plan events h = let no : false ≡ true = h in cc

due_order : (d l f o : Bool) → (((d && l) && f) && o) ≡ (d && ((l && f) && o))
due_order true l f o = refl
due_order false l f o = refl

close_order : (d p o : Bool) → ((d && p) && o) ≡ (d && (p && o))
close_order true p o = refl
close_order false p o = refl

module _ (plan : Plan) (events : List Event) (alive : ℕ → Bool) (before : Option Moment) (now : Moment) (first_tick : before ≡ None → events ≡ []) where
  abbrev dues : List Due
  dues = dues_of (saved_for plan events (scope_of plan events alive before)) now

  abbrev all : List (List Entry)
  all = lists_within plan (length events)

  all_apart : AllApart (lists_within plan (length events))
  all_apart = sorted_apart (lists_within plan (length events)) (rising_lists-sorted (length plan.stages) 0 (length events))

  -- a list is told where it passes, its start is alive, and its limit is reached now and wasn't before
  module _ (passes : List Entry → Bool) (partial : (z : List Entry) → passes z ≡ true → is_partial plan events z ≡ true) where
    told_from : (z : List Entry) → IsTold passes (lists_within plan (length events)) (scope_of plan events alive before)
        (dues_of (saved_for plan events (scope_of plan events alive before)) now) z
        → (begins_in alive z ≡ true) × (is_due (limit_of plan (taken_of events z)) before now ≡ true)
    told_from [] told = absurd (partial_some plan events (partial [] told.passes_it))
    told_from (first ∷ later) told =
        let among = may_grow-among plan events (first ∷ later) (is_partial-may_grow plan events (first ∷ later) (partial (first ∷ later) told.passes_it)) in
        and_parts (alive first.position) (is_due (limit_of plan (taken_of events (first ∷ later))) before now)
        (sym (told_as_due plan events alive before now first_tick first later among) ∙ and_from _ _ told.opens told.some_due)

    told_to : (z : List Entry) → passes z ≡ true → begins_in alive z ≡ true → is_due (limit_of plan (taken_of events z)) before now ≡ true
        → IsTold passes (lists_within plan (length events)) (scope_of plan events alive before)
        (dues_of (saved_for plan events (scope_of plan events alive before)) now) z
    told_to [] h begins due = absurd (partial_some plan events (partial [] h))
    told_to (first ∷ later) h begins due =
        let is = partial (first ∷ later) h in
        let among = may_grow-among plan events (first ∷ later) (is_partial-may_grow plan events (first ∷ later) is) in
        let both = and_parts (is_open (scope_of plan events alive before) (first ∷ later))
        (list_any (λ d. is_due_of d (first ∷ later)) (dues_of (saved_for plan events (scope_of plan events alive before)) now))
        (told_as_due plan events alive before now first_tick first later among ∙ and_from _ _ begins due) in
        record {
          listed = Contains-rising_lists (length plan.stages) 0 (length events) (length events) (zero-add (length events)) (first ∷ later)
              (is_partial-rising plan events (first ∷ later) is);
          passes_it = h;
          opens = both.0;
          some_due = both.1;
        }

  module _ (made : List (List Taken)) (sorted : IsSortedBy comes_earlier made) where
    -- the timeouts
    pub timeouts_told :
        IsPermutation (map (taken_of events) (told_along (waiting_at plan events) (scope_of plan events alive before)
        (dues_of (saved_for plan events (scope_of plan events alive before)) now))) made
        → made ≡ map (taken_of events) (filter (begins_in alive) (timeouts_at plan events before now))
    unfolding waiting_at
    timeouts_told moved =
        let told = told_along (tells all (is_unfinished plan events)) (scope_of plan events alive before) dues in
        let is = sort_of events told (told_apart all (is_unfinished plan events) all_apart (scope_of plan events alive before) dues) made moved sorted in
        sym is.back
        ∙ ap (map (taken_of events)) (timeouts_at-unique plan events before now (begins_in alive) (map entries_in made) is.strict
        (λ z q. let known = told_sound all (is_unfinished plan events) (scope_of plan events alive before) dues z (is.sound z q) in
        let facts = told_from (is_unfinished plan events) unfinished_partial z known in (
          due_order (is_due (limit_of plan (taken_of events z)) before now) (is_live plan events z) (not (is_full plan (stages_of z)))
              (not (is_open_for plan events z (end_stage plan))) ∙ and_from _ _ facts.1 known.passes_it,
          facts.0,
        ))
        (λ z out begins. let both = and_parts (is_due (limit_of plan (taken_of events z)) before now) (is_unfinished plan events z)
        (sym (due_order (is_due (limit_of plan (taken_of events z)) before now) (is_live plan events z) (not (is_full plan (stages_of z)))
        (not (is_open_for plan events z (end_stage plan)))) ∙ out) in
        is.complete z (told_complete all (is_unfinished plan events) (scope_of plan events alive before) dues z
        (told_to (is_unfinished plan events) unfinished_partial z both.1 begins both.0)))) where
          unfinished_partial : (z : List Entry) → is_unfinished plan events z ≡ true → is_partial plan events z ≡ true
          unfinished_partial z h = (waits-is_live plan events z (and_parts _ _ (and_parts _ _ h).0).0).0

    -- the closed matches
    pub closed_told :
        IsPermutation (map (taken_of events) (told_along (closing_at plan events) (scope_of plan events alive before)
        (dues_of (saved_for plan events (scope_of plan events alive before)) now))) made
        → made ≡ map (taken_of events) (filter (begins_in alive) (closed_at plan events before now))
    unfolding closing_at
    closed_told moved =
        let told = told_along (tells all (is_closing_list plan events)) (scope_of plan events alive before) dues in
        let is = sort_of events told (told_apart all (is_closing_list plan events) all_apart (scope_of plan events alive before) dues) made moved sorted in
        sym is.back
        ∙ ap (map (taken_of events)) (closed_at-unique plan events before now (begins_in alive) (map entries_in made) is.strict
        (λ z q. let known = told_sound all (is_closing_list plan events) (scope_of plan events alive before) dues z (is.sound z q) in
        let facts = told_from (is_closing_list plan events) closing_partial z known in (
          close_order (is_due (limit_of plan (taken_of events z)) before now) (is_partial plan events z) (is_open_for plan events z (end_stage plan))
              ∙ and_from _ _ facts.1 known.passes_it,
          facts.0,
        ))
        (λ z out begins. let both = and_parts (is_due (limit_of plan (taken_of events z)) before now) (is_closing_list plan events z)
        (sym (close_order (is_due (limit_of plan (taken_of events z)) before now) (is_partial plan events z) (is_open_for plan events z (end_stage plan)))
        ∙ out) in
        is.complete z (told_complete all (is_closing_list plan events) (scope_of plan events alive before) dues z
        (told_to (is_closing_list plan events) closing_partial z both.1 begins both.0)))) where
          closing_partial : (z : List Entry) → is_closing_list plan events z ≡ true → is_partial plan events z ≡ true
          closing_partial z h = (and_parts _ _ h).0
