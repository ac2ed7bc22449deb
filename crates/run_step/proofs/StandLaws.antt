-- The whole step: from what its parts leave to what runs and buffer stand for.
use Rattle.std.proofs.Common.{◌≡◌, refl, sym, ◌∙◌, ap, subst, ℕ, ◌+◌, arith, Bool, true, false, cond, not, List, [], ◌∷◌, ◌++◌, length, length-append, map, set, get_or}
use Rattle.std.specs.Prelude.{filter, flat_map}
use Rattle.std.specs.List.Sorted.{IsPermutation, IsSortedBy}
use Rattle.std.proofs.lemmas.List.{map-append, append-nil}
use Rattle.cep_event.specs.declared.event.Event.{Event}
use Rattle.cep_plan.specs.declared.plan.Plan.{Plan}
use Rattle.cep_plan.specs.Entry.{Entry, taken_of}
use Rattle.cep_plan.specs.declared.item.Taken.{Taken}
use Rattle.cep_plan.specs.History.{matches_at}
use Rattle.live_laws.specs.Starts.{Scope, begins_in, comes_earlier}
use Rattle.list_runs.specs.Runs.{StandsFor, Admits, runs_of}
use Rattle.shared_buffer.specs.Content.{Content as BufferContent}
use Rattle.list_buffer.specs.Held.{Holder, has, held_by, both_hold}
use Rattle.list_buffer.specs.Listed.{HoldsLists}
use Rattle.list_buffer.proofs.HeldLaws.{held_by-cons, held_by-append}
use Rattle.list_buffer.proofs.LaterLaws.{HoldsLists-same}
use Rattle.run_judge.specs.Fate.{AreSumsOf}
use Rattle.run_step.specs.declared.runs.Run.{Run}
use Rattle.run_step.specs.declared.runs.Tip.{Tip}
use Rattle.run_step.specs.declared.passing.Grown.{Grown}
use Rattle.run_step.specs.declared.begun.Fresh.{Fresh}
use Rattle.run_step.specs.Content.{Content, Staged}
use Rattle.run_step.specs.Runs.{Waiter, holder_of, seen, bumps_of, IsRunOf, AreRunsOf}
use Rattle.run_step.specs.Taking.{taking}
use Rattle.run_step.specs.Passing.{first_waiters, goes_on, is_taking}
use Rattle.run_step.specs.Putting.{HasPutAll, AreHeldRuns, CanEndAll}
use Rattle.run_step.specs.Beginning.{waiters_of, full_ones, fresh_run, HasBegunAll}
use Rattle.run_step.specs.Stepping.{HasStepped}
use Rattle.std.proofs.lemmas.List.Sorted.{IsPermutation-refl, IsPermutation-trans, IsPermutation-swap, IsPermutation-keeps, IsPermutation-append_right, IsPermutation-map, sum_by-IsPermutation}
use Rattle.std.specs.List.{swap}
use Rattle.std.proofs.lemmas.List.{map-set}
use Rattle.std.proofs.Math.ListN.{get_or-map}
use Rattle.run_step.proofs.TakeLaws.{length-mapped}
use Rattle.list_runs.proofs.RunLaws.{StandsFor-moved}
use Rattle.run_step.proofs.StepLaws.{all_waiters, all-stand, completed-are, stands-stepped}
use Rattle.list_runs.proofs.SortLaws.{matches_at-completed}

-- the holds of those that pass a test, and of those that don't
pub held-split : (test : Waiter → Bool) (waiters : List Waiter) (list : List Entry) (key : ℕ)
    → held_by (map holder_of waiters) list key
    ≡ held_by (map holder_of (filter test waiters)) list key + held_by (map holder_of (filter (λ w. not (test w)) waiters)) list key
held-split test [] list key = omega arith
held-split test (w ∷ waiters) list key = by_test (test w) (held-split test waiters list key) where
  by_test : (b : Bool)
      → held_by (map holder_of waiters) list key
      ≡ held_by (map holder_of (filter test waiters)) list key + held_by (map holder_of (filter (λ w. not (test w)) waiters)) list key
      → held_by (holder_of w ∷ map holder_of waiters) list key
      ≡ held_by (map holder_of (cond b (w ∷ filter test waiters) (filter test waiters))) list key + held_by
      (map holder_of (cond (not b) (w ∷ filter (λ w. not (test w)) waiters) (filter (λ w. not (test w)) waiters))) list key
  by_test true rest =
      omega (
        arith,
        rest,
        held_by-cons (holder_of w) (map holder_of waiters) list key,
        held_by-cons (holder_of w)
            (map holder_of (filter test waiters)) list key,
      )
  by_test false rest =
      omega (
        arith,
        rest,
        held_by-cons (holder_of w) (map holder_of waiters) list key,
        held_by-cons (holder_of w)
            (map holder_of (filter (λ w. not (test w)) waiters)) list key,
      )

pub AreRunsOf-append : (plan : Plan) (events : List Event) (ws vs : List Waiter) (runs more : List Staged) → AreRunsOf plan events ws runs
    → AreRunsOf plan events vs more → AreRunsOf plan events (ws ++ vs) (runs ++ more)
AreRunsOf-append plan events [] vs [] more are also = also
AreRunsOf-append plan events [] vs (r ∷ runs) more are also = absurd are
AreRunsOf-append plan events (w ∷ ws) vs [] more are also = absurd are
AreRunsOf-append plan events (w ∷ ws) vs (r ∷ runs) more are also = (are.0, AreRunsOf-append plan events ws vs runs more are.1 also)

-- a waiter with its run
record Pair (plan : Plan) (events : List Event) : Type 0 where
  waiter : Waiter
  staged : Staged
  is : (staged.stage ≡ waiter.stage) × IsRunOf plan events waiter staged.run

zip : (plan : Plan) (events : List Event) (ws : List Waiter) (runs : List Staged) → AreRunsOf plan events ws runs
    → (zs : List (Pair plan events)) × (map (λ z. z.waiter) zs ≡ ws) × (map (λ z. z.staged) zs ≡ runs)
zip plan events [] [] are = ([], refl, refl)
zip plan events [] (r ∷ runs) are = absurd are
zip plan events (w ∷ ws) [] are = absurd are
zip plan events (w ∷ ws) (r ∷ runs) are =
    let rest = zip plan events ws runs are.1 in
    (record { waiter = w; staged = r; is = are.0 } ∷ rest.0, ap (λ l. w ∷ l) rest.1, ap (λ l. r ∷ l) rest.2)

unzip : (plan : Plan) (events : List Event) (zs : List (Pair plan events)) → AreRunsOf plan events (map (λ z. z.waiter) zs) (map (λ z. z.staged) zs)
unzip plan events [] = tt
unzip plan events (z ∷ zs) = (z.is, unzip plan events zs)

-- pairs in another order, with these runs
abbrev Zipped : (plan : Plan) (events : List Event) → List (Pair plan events) → List Staged → Type 0
Zipped plan events zs runs = (others : List (Pair plan events)) × IsPermutation zs others × (map (λ z. z.staged) others ≡ runs)

map-swap : {X Y : Type 0} (f : X → Y) (xs : List X) (i j : ℕ) → map f (swap xs i j) ≡ swap (map f xs) i j
map-swap f [] i j = refl
map-swap f (d ∷ ys) i j =
    let xs = d ∷ ys in
    map-set f (set xs i (get_or xs j d)) j (get_or xs i d)
    ∙ ap (λ l. set l j (f (get_or xs i d))) (map-set f xs i (get_or xs j d))
    ∙ (λ k. set (set (map f xs) i (sym (get_or-map f xs j d) k)) j (sym (get_or-map f xs i d) k))

-- runs in another order are those of the waiters in another order
record Reordered (plan : Plan) (events : List Event) (waiters : List Waiter) (runs : List Staged) : Type 0 where
  others : List Waiter
  moved : IsPermutation waiters others
  are : AreRunsOf plan events others runs

reordered : (plan : Plan) (events : List Event) (waiters : List Waiter) (runs others : List Staged) → AreRunsOf plan events waiters runs
    → IsPermutation runs others → Reordered plan events waiters others
reordered plan events waiters runs others are moved =
    let zipped = zip plan events waiters runs are in
    let found = IsPermutation-keeps runs (λ l. Zipped plan events zipped.0 l) (zipped.0, IsPermutation-refl zipped.0, zipped.2)
    (λ l i j p q so_far.
    let long : length so_far.0 ≡ length l = sym (length-mapped (λ (z : Pair plan events). z.staged) so_far.0) ∙ ap length so_far.2 in (
      swap so_far.0 i j,
      IsPermutation-trans zipped.0 so_far.0 (swap so_far.0 i j) so_far.1
          (IsPermutation-swap so_far.0 (swap so_far.0 i j) i j (omega (arith, long, p)) (omega (arith, long, q)) refl),
      map-swap (λ (z : Pair plan events). z.staged) so_far.0 i j ∙ ap (λ (m : List Staged). swap m i j) so_far.2,
    )) others moved in
    record {
      others = map (λ (z : Pair plan events). z.waiter) found.0;
      moved =
          subst (λ (ws : List Waiter). IsPermutation ws (map (λ (z : Pair plan events). z.waiter) found.0)) zipped.1
          (IsPermutation-map (λ (z : Pair plan events). z.waiter) zipped.0 found.0 found.1);
      are = subst (AreRunsOf plan events (map (λ (z : Pair plan events). z.waiter) found.0)) found.2 (unzip plan events found.0);
    }

stand-reordered : (plan : Plan) (events : List Event) (scope : Scope) (waiters others : List Waiter) → IsPermutation waiters others
    → StandsFor plan events scope (runs_of plan [] ++ map (seen events) waiters) → StandsFor plan events scope (runs_of plan [] ++ map (seen events) others)
stand-reordered plan events scope waiters others moved stand =
    StandsFor-moved plan events scope (runs_of plan [] ++ map (seen events) waiters) (runs_of plan [] ++ map (seen events) others)
    (IsPermutation-append_right (runs_of plan []) (map (seen events) waiters) (map (seen events) others)
    (IsPermutation-map (seen events) waiters others moved)) stand

held-reordered : (waiters others : List Waiter) → IsPermutation waiters others → (list : List Entry) (key : ℕ)
    → held_by (map holder_of waiters) list key ≡ held_by (map holder_of others) list key
held-reordered waiters others moved list key =
    sym (sum_by-IsPermutation (λ h. cond (has list key h) 1 0) (map holder_of waiters) (map holder_of others)
    (IsPermutation-map holder_of waiters others moved))

module _ (plan : Plan) (events : List Event) (event : Event) (scope : Scope) (admits : Admits plan events scope event) (waiters : List Waiter)
    (stand : StandsFor plan events scope (runs_of plan [] ++ map (seen events) waiters)) where
  abbrev whole : List Event
  whole = events ++ event ∷ []

  abbrev staying : List Waiter
  staying = filter (goes_on plan events event) waiters

  abbrev ending : List Waiter
  ending = filter (λ w. not (goes_on plan events event w)) waiters

  abbrev takers : List Waiter
  takers = filter (is_taking plan events event) (first_waiters plan ++ waiters)

  -- after the puts the runs that end can end
  pub ends-can : (grown : List Grown) (ended : List Run) (buffer : BufferContent)
      → (put : HasPutAll plan whole (length events) takers (held_by (map holder_of waiters)) grown buffer)
      → AreHeldRuns plan whole (map holder_of ending) ended
      → CanEndAll plan whole (map holder_of ending) (both_hold (held_by (map holder_of staying)) (held_by put.holders)) ended buffer
  ends-can grown ended buffer put are = record {
    has = HoldsLists-same plan whole _ (both_hold (both_hold (held_by (map holder_of staying)) (held_by put.holders)) (held_by (map holder_of ending))) buffer
        (λ list key. let split = held-split (goes_on plan events event) waiters list key in omega (arith, split)) put.has;
    runs_are = are;
  }

  module _ (holders : List Holder) (lists : map (λ holder. holder.list) holders ≡ map (λ w. taking w (length events)) takers)
      (fresh_runs : List Fresh) (tips : List Tip) (buffer : BufferContent)
      (begun : HasBegunAll plan whole holders (held_by (map holder_of staying)) fresh_runs tips buffer) where
    abbrev after : List Waiter
    after = staying ++ flat_map (waiters_of plan) holders

    -- put in order, the lists of the tips are the matches that end at the event
    matches-are : (made : List (List Taken)) → IsPermutation (map (λ holder. taken_of whole holder.list) (full_ones plan holders)) made
        → IsSortedBy comes_earlier made
        → made ≡ map (taken_of whole) (filter (begins_in scope.starts) (matches_at plan events event))
    matches-are made moved sorted =
        matches_at-completed plan events event scope admits (map (seen events) (all_waiters plan events event scope admits waiters stand))
        (all-stand plan events event scope admits waiters stand) made
        (subst (λ (l : List (List Taken)). IsPermutation l made) (sym (completed-are plan events event scope admits waiters stand holders lists)) moved) sorted

    -- all that is held: the waiters after the step, and the tips
    held-after : HoldsLists plan whole (both_hold (held_by (map holder_of after)) (held_by (full_ones plan holders))) buffer
    held-after =
        HoldsLists-same plan whole _ (both_hold (held_by (map holder_of after)) (held_by (full_ones plan holders))) buffer
        (λ list key.
        let split = ap (λ (hs : List Holder). held_by hs list key) (map-append holder_of staying (flat_map (waiters_of plan) holders)) ∙ held_by-append (map holder_of staying) (map holder_of (flat_map (waiters_of plan) holders)) list key in
        omega (arith, split)) begun.has

    -- The step as a whole.
    pub has-stepped : (content : Content) (runs : List Staged) → AreRunsOf plan whole staying runs → content.position ≡ length events + 1
        → content.bumps ≡ bumps_of plan whole → AreSumsOf plan [] content.empty
        → IsPermutation (runs ++ map fresh_run fresh_runs) content.runs → HasStepped plan events event scope [] tips content buffer
    has-stepped content runs are counted bumps empty moved =
        let all = AreRunsOf-append plan whole staying (flat_map (waiters_of plan) holders) runs (map fresh_run fresh_runs) are begun.runs in
        let order = reordered plan whole after (runs ++ map fresh_run fresh_runs) content.runs all moved in
        let full = full_ones plan holders in
        record {
          holders = full;
          matches = matches-are;
          shown_are = begun.shown;
          stands = record {
            counted = omega (arith, counted, length-append events (event ∷ []));
            bumps = bumps;
            empty = empty;
            waiters = order.others;
            stand =
                stand-reordered plan whole scope after order.others order.moved
                (stands-stepped plan events event scope admits waiters stand holders lists);
            runs = order.are;
            ahead = [];
            one_ahead = omega arith;
            held =
                subst (λ (es : List Event). HoldsLists plan es (both_hold (held_by (map holder_of order.others)) (held_by (full ++ []))) buffer)
                (sym (append-nil whole))
                (HoldsLists-same plan whole _ (both_hold (held_by (map holder_of order.others)) (held_by (full ++ []))) buffer
                (λ list key. let same = held-reordered after order.others order.moved list key in
                let none = ap (λ (hs : List Holder). held_by hs list key) (append-nil full) in omega (arith, same, none)) held-after);
          };
          none_ahead = refl;
        }
