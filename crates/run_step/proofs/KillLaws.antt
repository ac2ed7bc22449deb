-- Runs go whose lists pass a test, and their holds: those that start in a range, and those of a due.
use Rattle.std.proofs.Common.{◌≡◌, refl, sym, ◌∙◌, ap, subst, ℕ, ◌+◌, arith, Bool, true, false, cond, not, ◌==◌, List, [], ◌∷◌, ◌++◌, map}
use Rattle.std.specs.Prelude.{filter, Option}
use Rattle.std.specs.Option.{option_map_or}
use Rattle.std.specs.List.{range_with_len, AllByRecursion as Each}
use Rattle.cep_event.specs.declared.event.Event.{Event}
use Rattle.cep_plan.specs.declared.plan.Plan.{Plan}
use Rattle.cep_plan.specs.declared.item.Taken.{Taken}
use Rattle.cep_plan.specs.declared.item.Due.{Due}
use Rattle.cep_plan.specs.declared.item.Due.TheVariants.{Start, Last}
use Rattle.cep_plan.specs.Entry.{Entry, taken_of, entries_in}
use Rattle.cep_plan.specs.Follow.{end_stage, may_follow}
use Rattle.cep_plan.specs.Partial.{waits}
use Rattle.cep_plan.proofs.LocalLaws.{AreAmong}
use Rattle.live_laws.specs.Starts.{Scope, starts_in, is_from, is_due_of, without_due, without_range}
use Rattle.live_laws.proofs.MemberLaws.{filter-map, Each-from_contains, Contains-map}
use Rattle.live_laws.proofs.LastLaws.{entries_in-taken_of}
use Rattle.live_laws.proofs.WaitLaws.{waits-among}
use Rattle.std.proofs.lemmas.List.Elements.{Contains-append_right}
use Rattle.match_labels.specs.Label.{Mark}
use Rattle.match_labels.proofs.PathLaws.{mark_of-append}
use Rattle.list_runs.specs.Runs.{ListRun, StandsFor, runs_of}
use Rattle.list_runs.proofs.RunLaws.{StandsFor-killed, StandsFor-expired}
use Rattle.shared_buffer.specs.Content.{Content as BufferContent}
use Rattle.list_buffer.specs.Held.{Holder, Holds, held_by, both_hold}
use Rattle.list_buffer.specs.Listed.{HoldsLists}
use Rattle.list_buffer.proofs.LaterLaws.{HoldsLists-same}
use Rattle.run_step.specs.declared.runs.Run.{Run}
use Rattle.run_step.specs.Content.{Content, Staged, is_in_due}
use Rattle.run_step.specs.Runs.{Waiter, holder_of, seen, IsRunOf, AreRunsOf, Stands, StandsNow}
use Rattle.run_step.specs.Putting.{AreHeldRuns, CanEndAll, CanEndAllSome}
use Rattle.run_step.proofs.StepLaws.{filter-of_append, filter-all}
use Rattle.run_step.proofs.StandLaws.{held-split}

-- Which lists go, and by what their runs are known. Without them less is open. The empty list stays.
pub record Cut (plan : Plan) (events : List Event) (scope : Scope) : Type 0 where
  pub gone : List Taken → Bool
  pub cuts : Run → Bool
  pub same : (w : Waiter) (run : Run) → IsRunOf plan events w run → gone (taken_of events w.list) ≡ cuts run
  pub none : gone [] ≡ false
  pub less : Scope
  pub left : (runs : List ListRun) → StandsFor plan events scope runs → StandsFor plan events less (filter (λ run. not (gone run.list)) runs)

-- the lists that start in a range
abbrev pub range_cut : (plan : Plan) (events : List Event) (scope : Scope) (from to : ℕ) → Cut plan events scope
range_cut plan events scope from to = record {
  gone = starts_in (is_from from to);
  cuts = λ run. is_from from to run.start;
  same = λ w run is. ap (λ l. starts_in (is_from from to) (taken_of events l)) is.begins.parts ∙ sym (ap (is_from from to) is.begins.start_is);
  none = refl;
  less = without_range scope from to;
  left = λ runs stand. StandsFor-killed plan events scope runs stand from to;
}

pub due-same : (plan : Plan) (events : List Event) (due : Due) (w : Waiter) (run : Run) → IsRunOf plan events w run
    → is_due_of due (entries_in (taken_of events w.list)) ≡ is_in_due due run
due-same plan events (Start position) w run is =
    ap (λ l. is_due_of (Start position) (entries_in (taken_of events l))) is.begins.parts ∙ ap (λ p. p == position) (sym is.begins.start_is)
due-same plan events (Last position) w run is =
    ap (is_due_of (Last position)) (entries_in-taken_of events w.list)
    ∙ ap (λ (o : Option Entry). option_map_or (λ (e : Entry). e.position == position) o false) is.ends.entry_is

pub due-none : (due : Due) → is_due_of due [] ≡ false
due-none (Start position) = refl
due-none (Last position) = refl

-- the lists of a due
abbrev pub due_cut : (plan : Plan) (events : List Event) (scope : Scope) (due : Due) → Cut plan events scope
due_cut plan events scope due = record {
  gone = λ list. is_due_of due (entries_in list);
  cuts = is_in_due due;
  same = due-same plan events due;
  none = due-none due;
  less = without_due scope due;
  left = λ runs stand. StandsFor-expired plan events scope runs stand due;
}

module _ (plan : Plan) (events : List Event) (scope : Scope) (cut : Cut plan events scope) where
  abbrev is_cut : Waiter → Bool
  is_cut waiter = cut.gone (taken_of events waiter.list)

  abbrev stays : Waiter → Bool
  stays waiter = not (is_cut waiter)

  abbrev run_cut : Staged → Bool
  run_cut staged = cut.cuts staged.run

  -- the runs that stay are those of the waiters that stay
  stay-are : (ws : List Waiter) (runs : List Staged) → AreRunsOf plan events ws runs
      → AreRunsOf plan events (filter stays ws) (filter (λ r. not (run_cut r)) runs)
  stay-are [] [] are = tt
  stay-are [] (r ∷ runs) are = absurd are
  stay-are (w ∷ ws) [] are = absurd are
  stay-are (w ∷ ws) (r ∷ runs) are = by_test (is_cut w) (run_cut r) (cut.same w r.run are.0.1) (stay-are ws runs are.1) where
    by_test : (b c : Bool) → b ≡ c → AreRunsOf plan events (filter stays ws) (filter (λ r. not (run_cut r)) runs)
        → AreRunsOf plan events (cond (not b) (w ∷ filter stays ws) (filter stays ws))
        (cond (not c) (r ∷ filter (λ r. not (run_cut r)) runs) (filter (λ r. not (run_cut r)) runs))
    by_test true true e rest = rest
    by_test true false e rest = absurd cc
    by_test false true e rest = absurd cc
    by_test false false e rest = (are.0, rest)

  -- and those that go
  cut-are : (more : List Event) (ws : List Waiter) (runs : List Staged) → Each (λ w. AreAmong events w.list) ws → AreRunsOf plan events ws runs
      → AreHeldRuns plan (events ++ more) (map holder_of (filter (λ w. not (stays w)) ws)) (map (λ (r : Staged). r.run) (filter run_cut runs))
  cut-are more [] [] among are = tt
  cut-are more [] (r ∷ runs) among are = absurd are
  cut-are more (w ∷ ws) [] among are = absurd are
  cut-are more (w ∷ ws) (r ∷ runs) among are = by_test (is_cut w) (run_cut r) (cut.same w r.run are.0.1) (cut-are more ws runs among.1 are.1) where
    by_test : (b c : Bool) → b ≡ c
        → AreHeldRuns plan (events ++ more) (map holder_of (filter (λ w. not (stays w)) ws)) (map (λ (r : Staged). r.run) (filter run_cut runs))
        → AreHeldRuns plan (events
        ++ more) (map holder_of (cond (not (not b)) (w ∷ filter (λ w. not (stays w)) ws) (filter (λ w. not (stays w)) ws)))
        (map (λ (r : Staged). r.run) (cond c (r ∷ filter run_cut runs) (filter run_cut runs)))
    by_test true true e rest = (
      record {
        node_is = are.0.1.node_is;
        version_is = are.0.1.version_is
            ∙ sym (ap (λ (m : Mark). m.label) (mark_of-append plan events more w.list among.0));
      },
      rest,
    )
    by_test true false e rest = absurd cc
    by_test false true e rest = absurd cc
    by_test false false e rest = rest

  stand-cut : (ws : List Waiter) → StandsFor plan events scope (runs_of plan [] ++ map (seen events) ws)
      → StandsFor plan events cut.less (runs_of plan [] ++ map (seen events) (filter stays ws))
  stand-cut ws stand =
      let kept = λ (r : ListRun). not (cut.gone r.list) in
      subst (StandsFor plan events cut.less)
      (filter-of_append kept (runs_of plan []) (map (seen events) ws)
      ∙ (λ i. filter-all kept (runs_of plan []) (empty_kept (filter (may_follow plan []) (range_with_len 0 (end_stage plan + 1)))) i
      ++ filter-map kept (seen events) ws i))
      (cut.left (runs_of plan [] ++ map (seen events) ws) stand) where
        empty_kept : (stages : List ℕ)
            → Each (λ (r : ListRun). not (cut.gone r.list) ≡ true) (map (λ (stage : ℕ). record { stage = stage; list = [] }) stages)
        empty_kept [] = tt
        empty_kept (stage ∷ stages) = (ap not cut.none, empty_kept stages)

module _ (plan : Plan) (events : List Event) (scope : Scope) (tips : List Holder) (content : Content) (old : BufferContent)
    (stands : Stands plan events scope tips content old) where
  abbrev staying : Cut plan events scope → List Waiter
  staying cut = filter (stays plan events scope cut) stands.waiters

  abbrev going : Cut plan events scope → List Waiter
  going cut = filter (λ w. not (stays plan events scope cut w)) stands.waiters

  -- each of the waiters waits
  pub waiters-wait : Each (λ w. waits plan events w.list w.stage ≡ true) stands.waiters
  waiters-wait =
      Each-from_contains (λ (w : Waiter). waits plan events w.list w.stage ≡ true) stands.waiters (λ w p.
      let known = stands.stand.sound (seen events w) (Contains-append_right (runs_of plan []) (map (seen events) stands.waiters) (seen events w) (Contains-map (seen events) stands.waiters w p)) in
      let same : w.list ≡ known.0 = sym (entries_in-taken_of events w.list) ∙ ap (λ (r : ListRun). entries_in r.list) known.1 ∙ entries_in-taken_of events known.0 in
      ap (λ l. waits plan events l w.stage) same ∙ known.2)

  pub among : Each (λ w. AreAmong events w.list) stands.waiters
  among = all-among stands.waiters waiters-wait where
    all-among : (ws : List Waiter) → Each (λ (w : Waiter). waits plan events w.list w.stage ≡ true) ws → Each (λ (w : Waiter). AreAmong events w.list) ws
    all-among [] h = tt
    all-among (w ∷ ws) h = (waits-among plan events w.list w.stage h.0, all-among ws h.1)

  -- The runs that go can end.
  pub kill-can : (cut : Cut plan events scope)
      → CanEndAll plan (events ++ stands.ahead) (map holder_of (going cut)) (both_hold (held_by (map holder_of (staying cut))) (held_by tips))
      (map (λ (r : Staged). r.run) (filter (λ r. cut.cuts r.run) content.runs)) old
  kill-can cut = record {
    has =
        HoldsLists-same plan (events ++ stands.ahead) _
        (both_hold (both_hold (held_by (map holder_of (staying cut))) (held_by tips)) (held_by (map holder_of (going cut)))) old
        (λ list key. let split = held-split (stays plan events scope cut) stands.waiters list key in omega (arith, split)) stands.held;
    runs_are = cut-are plan events scope cut stands.ahead stands.waiters content.runs among stands.runs;
  }

  -- Without them the runs and the buffer stand for what is left open.
  pub kill-after : (cut : Cut plan events scope) (new : BufferContent)
      → HoldsLists plan (events ++ stands.ahead) (both_hold (held_by (map holder_of (staying cut))) (held_by tips)) new
      → Stands plan events cut.less tips (record content { runs = filter (λ r. not (cut.cuts r.run)) content.runs }) new
  kill-after cut new held = record {
    counted = stands.counted;
    bumps = stands.bumps;
    empty = stands.empty;
    waiters = staying cut;
    stand = stand-cut plan events scope cut stands.waiters stands.stand;
    runs = stay-are plan events scope cut stands.waiters content.runs stands.runs;
    ahead = stands.ahead;
    one_ahead = stands.one_ahead;
    held = held;
  }

  -- the same for runs that are these
  pub kill-some : (cut : Cut plan events scope) (runs : List Staged) → runs ≡ content.runs
      → CanEndAllSome (map (λ (r : Staged). r.run) (filter (λ r. cut.cuts r.run) runs)) old
  kill-some cut runs is = subst (λ (l : List Staged). CanEndAllSome (map (λ (r : Staged). r.run) (filter (λ r. cut.cuts r.run) l)) old) (sym is) (record {
    plan = plan;
    events = events ++ stands.ahead;
    holders = map holder_of (going cut);
    held = both_hold (held_by (map holder_of (staying cut))) (held_by tips);
    can = kill-can cut;
  })

  -- what the end of the runs that go leaves of the buffer, and of the set of runs
  pub record Ended (cut : Cut plan events scope) (runs : List Staged) (new : BufferContent) (left : Content) : Type 0 where
    pub runs_are : runs ≡ content.runs
    pub told : (p : Plan) (es : List Event) (holders : List Holder) (held : Holds)
        → CanEndAll p es holders held (map (λ (r : Staged). r.run) (filter (λ r. cut.cuts r.run) runs)) old → HoldsLists p es held new
    pub left_runs : left.runs ≡ filter (λ (r : Staged). not (cut.cuts r.run)) runs
    pub left_bumps : left.bumps ≡ content.bumps
    pub left_position : left.position ≡ content.position
    pub left_empty : left.empty ≡ content.empty

  -- and no event is ahead where none was
  abbrev LeftAfter : Cut plan events scope → Content → BufferContent → Type 0
  LeftAfter cut left new = (after : Stands plan events cut.less tips left new) × (after.ahead ≡ stands.ahead)

  kill-left : (cut : Cut plan events scope) (runs : List Staged) (new : BufferContent) (left : Content) → Ended cut runs new left → LeftAfter cut left new
  unfolding kill-after
  kill-left cut runs new left ended =
      let can = subst (λ (l : List Staged). CanEndAll plan (events ++ stands.ahead) (map holder_of (going cut))
      (both_hold (held_by (map holder_of (staying cut))) (held_by tips))
      (map (λ (r : Staged). r.run) (filter (λ r. cut.cuts r.run) l)) old) (sym ended.runs_are) (kill-can cut) in
      let after = kill-after cut new
      (ended.told plan (events ++ stands.ahead) (map holder_of (going cut)) (both_hold (held_by (map holder_of (staying cut))) (held_by tips)) can) in
      subst (λ (v : Content). LeftAfter cut v new)
      (λ i. record {
        runs = sym (ended.left_runs ∙ ap (filter (λ (r : Staged). not (cut.cuts r.run))) ended.runs_are) i;
        bumps = sym ended.left_bumps i;
        position = sym ended.left_position i;
        empty = sym ended.left_empty i;
      }) (after, refl)

  pub kill-all : (cut : Cut plan events scope) (runs : List Staged) (new : BufferContent) (left : Content) → Ended cut runs new left
      → Stands plan events cut.less tips left new
  kill-all cut runs new left ended = (kill-left cut runs new left ended).0

  pub kill-now : stands.ahead ≡ [] → (cut : Cut plan events scope) (runs : List Staged) (new : BufferContent) (left : Content) → Ended cut runs new left
      → StandsNow plan events cut.less tips left new
  kill-now none cut runs new left ended =
      let after = kill-left cut runs new left ended in
      record { stands = after.0; none_ahead = after.1 ∙ none }
