-- A group of runs passes an event: run by run, part by part.
use Rattle.std.proofs.Common.{◌≡◌, refl, sym, ◌∙◌, ap, subst, ℕ, zero, suc, ◌+◌, ◌<◌, ◌≤◌, arith, add-one, Bool, true, false, cond, not, List, [], ◌∷◌, ◌++◌, append_assoc, length, map, get_or, set, take, drop}
use Rattle.std.specs.Prelude.{filter, Some}
use Rattle.std.specs.List.{AllByRecursion as Each}
use Rattle.std.proofs.lemmas.List.{append-nil, map-append, take-append-drop, get_or-drop, take_more_set}
use Rattle.cep_event.specs.declared.event.Event.{Event}
use Rattle.cep_plan.specs.declared.plan.Plan.{Plan}
use Rattle.cep_plan.specs.declared.item.Taken.{Taken}
use Rattle.cep_plan.specs.Entry.{taken_of}
use Rattle.cep_plan.specs.Partial.{waits}
use Rattle.live_laws.specs.Survival.{survives, takes}
use Rattle.cond_sums.specs.Questions.{IsWantedBy}
use Rattle.cond_sums.specs.Kept.{wanted_in}
use Rattle.run_judge.specs.Fate.{IsKeptOf}
use Rattle.nfa_compile.specs.declared.nfa.Nfa.{Nfa}
use Rattle.list_buffer.specs.Held.{Holder}
use Rattle.run_step.specs.declared.runs.Run.{Run}
use Rattle.run_step.specs.declared.passing.Take.{Take}
use Rattle.run_step.specs.declared.passing.Passing.{Passing as PassingRow}
use Rattle.run_step.specs.Content.{Staged, staged}
use Rattle.run_step.specs.Runs.{Waiter, holder_of, IsRunOf, AreRunsOf}
use Rattle.run_step.specs.Taking.{AreTakesOf}
use Rattle.run_step.specs.Passing.{goes_on, is_taking}
use Rattle.run_step.specs.Putting.{AreHeldRuns}
use Rattle.run_step.specs.Noting.{IsNoted, CanNote, CanNoteSome, CanPassGroup, GroupPassed, TailPassed, PassingTail}
use Rattle.run_step.proofs.StepLaws.{filter-of_append}
use Rattle.run_step.proofs.StandLaws.{AreRunsOf-append}
use Rattle.run_step.proofs.SumsLaws.{run-keeps}
use Rattle.run_step.proofs.PassLaws.{run_later}
use Rattle.run_step.proofs.WaitsLaws.{take-all}
use Rattle.run_step.proofs.CutLaws.{take-none}

pub AreTakesOf-append : (plan : Plan) (events : List Event) (position : ℕ) (ws vs : List Waiter) (takes more : List Take)
    → AreTakesOf plan events position ws takes → AreTakesOf plan events position vs more → AreTakesOf plan events position (ws ++ vs) (takes ++ more)
AreTakesOf-append plan events position [] vs [] more are also = also
AreTakesOf-append plan events position [] vs (t ∷ takes) more are also = absurd are
AreTakesOf-append plan events position (w ∷ ws) vs [] more are also = absurd are
AreTakesOf-append plan events position (w ∷ ws) vs (t ∷ takes) more are also = (are.0, AreTakesOf-append plan events position ws vs takes more are.1 also)

pub AreHeldRuns-append : (plan : Plan) (events : List Event) (hs gs : List Holder) (runs more : List Run) → AreHeldRuns plan events hs runs
    → AreHeldRuns plan events gs more → AreHeldRuns plan events (hs ++ gs) (runs ++ more)
AreHeldRuns-append plan events [] gs [] more are also = also
AreHeldRuns-append plan events [] gs (r ∷ runs) more are also = absurd are
AreHeldRuns-append plan events (h ∷ hs) gs [] more are also = absurd are
AreHeldRuns-append plan events (h ∷ hs) gs (r ∷ runs) more are also = (are.0, AreHeldRuns-append plan events hs gs runs more are.1 also)

module _ (plan : Plan) (events : List Event) (event : Event) (stage : ℕ) where
  abbrev whole : List Event
  whole = events ++ event ∷ []

  abbrev goes : Waiter → Bool
  goes = goes_on plan events event

  abbrev ends : Waiter → Bool
  ends w = not (goes_on plan events event w)

  -- one part after the other
  pub passed_join : (ws vs : List Waiter) (runs more : List Run) (old mid new : PassingRow) → GroupPassed plan events event stage ws runs old mid
      → GroupPassed plan events event stage vs more mid new → GroupPassed plan events event stage (ws ++ vs) (runs ++ more) old new
  passed_join ws vs runs more old mid new a b = record {
    runs_are = subst (λ (l : List Waiter). AreRunsOf plan whole l (map (staged stage) (runs ++ more))) (sym (filter-of_append goes ws vs))
        (subst (λ (l : List Staged). AreRunsOf plan whole (filter goes ws ++ filter goes vs) l) (sym (map-append (staged stage) runs more))
        (AreRunsOf-append plan whole (filter goes ws) (filter goes vs) (map (staged stage) runs) (map (staged stage) more) a.runs_are b.runs_are));
    takes = a.takes ++ b.takes;
    takes_are =
        subst (λ (l : List Waiter). AreTakesOf plan whole (length events) l (a.takes ++ b.takes))
        (sym (filter-of_append (is_taking plan events event) ws vs))
        (AreTakesOf-append plan whole (length events) (filter (is_taking plan events event) ws) (filter (is_taking plan events event) vs) a.takes
        b.takes a.takes_are b.takes_are);
    takes_added = b.takes_added ∙ ap (λ l. l ++ b.takes) a.takes_added ∙ append_assoc old.takes.items a.takes b.takes;
    ended = a.ended ++ b.ended;
    ended_are =
        subst (λ (l : List Holder). AreHeldRuns plan whole l (a.ended ++ b.ended))
        (sym (ap (map holder_of) (filter-of_append ends ws vs) ∙ map-append holder_of (filter ends ws) (filter ends vs)))
        (AreHeldRuns-append plan whole (map holder_of (filter ends ws)) (map holder_of (filter ends vs)) a.ended b.ended a.ended_are b.ended_are);
    ended_added = b.ended_added ∙ ap (λ l. l ++ b.ended) a.ended_added ∙ append_assoc old.ended.items a.ended b.ended;
  }

  pub passed_none : (passing : PassingRow) → GroupPassed plan events event stage [] [] passing passing
  passed_none passing = record {
    runs_are = tt;
    takes = [];
    takes_are = tt;
    takes_added = sym (append-nil passing.takes.items);
    ended = [];
    ended_are = tt;
    ended_added = sym (append-nil passing.ended.items);
  }

  -- one run
  pub passed_one : (w : Waiter) → stage ≡ w.stage → (run : Run) (old new : PassingRow) (lives : Bool) → lives ≡ goes w
      → IsNoted plan events event w run old.takes.items new.takes.items
      → new.ended.items ≡ old.ended.items ++ cond lives [] (run ∷ []) → GroupPassed plan events event stage (w ∷ []) (cond lives (run ∷ []) []) old new
  passed_one w named run old new lives is noted added = record {
    runs_are = subst (λ (b : Bool). AreRunsOf plan whole (cond b (w ∷ []) []) (map (staged stage) (cond lives (run ∷ []) []))) is (kept lives);
    takes = noted.more;
    takes_are = noted.takes_are;
    takes_added = noted.added;
    ended = cond lives [] (run ∷ []);
    ended_are = subst (λ (b : Bool). AreHeldRuns plan whole (map holder_of (cond (not b) (w ∷ []) [])) (cond lives [] (run ∷ []))) is (gone lives);
    ended_added = added;
  } where
    kept : (b : Bool) → AreRunsOf plan whole (cond b (w ∷ []) []) (map (staged stage) (cond b (run ∷ []) []))
    kept true = ((named, noted.run_is), tt)
    kept false = tt

    gone : (b : Bool) → AreHeldRuns plan whole (map holder_of (cond (not b) (w ∷ []) [])) (cond b [] (run ∷ []))
    gone true = tt
    gone false = (record { node_is = noted.run_is.node_is; version_is = noted.run_is.version_is }, tt)

  -- ---- what is known of one run

  -- what is judged of a run, by what it keeps of its list, holds of each list of which it keeps this
  abbrev pub IsJudged : Run → (List Taken → Bool) → Bool → Type 0
  IsJudged run test answer = (list : List Taken) → IsKeptOf plan event list run.sums (Some run.last) run.start_ts → answer ≡ test list

  pub takes_same : (w : Waiter) (run : Run) (position : ℕ) (taken : Bool) → stage ≡ w.stage → position ≡ length events → IsRunOf plan events w run
      → IsJudged run (λ list. takes plan list stage event position) taken → taken ≡ is_taking plan events event w
  takes_same w run position taken named at is judged =
      judged (taken_of events w.list) (run-keeps plan events event w run is) ∙ (λ i. takes plan (taken_of events w.list) (named i) event (at i))

  pub lives_same : (w : Waiter) (run : Run) (position : ℕ) (lives : Bool) → stage ≡ w.stage → position ≡ length events → IsRunOf plan events w run
      → IsJudged run (λ list. survives plan list stage event position) lives → lives ≡ goes w
  lives_same w run position lives named at is judged =
      judged (taken_of events w.list) (run-keeps plan events event w run is) ∙ (λ i. survives plan (taken_of events w.list) (named i) event (at i))

  -- ---- a group of which the event changes nothing

  pub passed_all : (ws : List Waiter) (runs : List Run) → Each (λ w. waits plan events w.list w.stage ≡ true) ws
      → AreRunsOf plan events ws (map (staged stage) runs)
      → ((list : List Taken) (position : ℕ) → takes plan list stage event position ≡ false)
      → ((list : List Taken) (position : ℕ) → survives plan list stage event position ≡ true)
      → (passing : PassingRow) → GroupPassed plan events event stage ws runs passing passing
  passed_all [] [] waiting are never always passing = passed_none passing
  passed_all [] (r ∷ runs) waiting are never always passing = absurd are
  passed_all (w ∷ ws) [] waiting are never always passing = absurd are
  passed_all (w ∷ ws) (r ∷ runs) waiting are never always passing =
      let named : stage ≡ w.stage = are.0.0 in
      let none : is_taking plan events event w ≡ false = ap (λ s. takes plan (taken_of events w.list) s event (length events)) (sym named) ∙ never (taken_of events w.list) (length events) in
      let stays : goes w ≡ true = ap (λ s. survives plan (taken_of events w.list) s event (length events)) (sym named) ∙ always (taken_of events w.list) (length events) in
      let noted : IsNoted plan events event w r passing.takes.items passing.takes.items = record {
        run_is =
            run_later plan events event w waiting.0 r r are.0.1 refl refl refl refl
            (let plus : r.bump ≡ r.bump + 0 = omega arith in plus ∙ ap (λ b. r.bump + cond b 1 0) (sym none)) refl refl refl refl;
        more = [];
        takes_are = subst (λ (b : Bool). AreTakesOf plan whole (length events) (cond b (w ∷ []) []) []) (sym none) tt;
        added = sym (append-nil passing.takes.items);
      } in
      passed_join (w ∷ []) ws (r ∷ []) runs passing passing passing
      (passed_one w named r passing passing true (sym stays) noted (sym (append-nil passing.ended.items)))
      (passed_all ws runs waiting.1 are.1 never always passing)

  -- ---- the tail of a group

  module _ (position : ℕ) (nfa : Nfa) (waiters : List Waiter) (all : List Run) (can : CanPassGroup plan events position stage waiters nfa all) where
    pub tail_none : (runs : List Run) (passing : PassingRow) → PassingTail plan events event stage waiters all runs runs passing passing
    tail_none runs passing = record {
      done = [];
      rest = waiters;
      parts = refl;
      waiting = can.waiting;
      rest_are = can.runs_are;
      kept = [];
      runs_is = sym (append-nil runs);
      passed = passed_none passing;
    }

    pub record TailOne (run : Run) (items before runs : List Run) (old mid : PassingRow) : Type 0 where
      pub waiter : Waiter
      pub waiting : waits plan events waiter.list waiter.stage ≡ true
      pub named : stage ≡ waiter.stage
      pub run_is : IsRunOf plan events waiter run
      pub after : (later : Run) (lives : Bool) → lives ≡ goes waiter → (new : PassingRow)
          → IsNoted plan events event waiter later mid.takes.items new.takes.items → new.ended.items ≡ mid.ended.items ++ cond lives [] (later ∷ [])
          → (runs_new : List Run) → runs_new ≡ runs ++ cond lives (later ∷ []) [] → PassingTail plan events event stage waiters items before runs_new old new

    tail_first : (run : Run) (items before runs : List Run) (old mid : PassingRow) (done rest : List Waiter) → waiters ≡ done ++ rest
        → Each (λ w. waits plan events w.list w.stage ≡ true) rest
        → AreRunsOf plan events rest (map (staged stage) (run ∷ items)) → (kept : List Run) → runs ≡ before ++ kept
        → GroupPassed plan events event stage done kept old mid → TailOne run items before runs old mid
    tail_first run items before runs old mid done [] parts waiting are kept is passed = absurd are
    tail_first run items before runs old mid done (w ∷ rest) parts waiting are kept is passed = record {
      waiter = w;
      waiting = waiting.0;
      named = are.0.0;
      run_is = are.0.1;
      after = λ later lives same new noted added runs_new put. record {
        done = done ++ w ∷ [];
        rest = rest;
        parts = parts ∙ sym (append_assoc done (w ∷ []) rest);
        waiting = waiting.1;
        rest_are = are.1;
        kept = kept ++ cond lives (later ∷ []) [];
        runs_is = put ∙ ap (λ l. l ++ cond lives (later ∷ []) []) is ∙ append_assoc before kept (cond lives (later ∷ []) []);
        passed = passed_join done (w ∷ []) kept (cond lives (later ∷ []) []) old mid new passed (passed_one w are.0.0 later mid new lives same noted added);
      };
    }

    pub tail_one : (run : Run) (items left before runs : List Run) (old mid : PassingRow) → left ≡ run ∷ items
        → PassingTail plan events event stage waiters left before runs old mid → TailOne run items before runs old mid
    tail_one run items left before runs old mid is so_far =
        tail_first run items before runs old mid so_far.done so_far.rest so_far.parts so_far.waiting
        (subst (λ (l : List Run). AreRunsOf plan events so_far.rest (map (staged stage) l)) is so_far.rest_are) so_far.kept so_far.runs_is
        so_far.passed

    none_left : (rest : List Waiter) → AreRunsOf plan events rest [] → rest ≡ []
    none_left [] are = refl
    none_left (w ∷ rest) are = absurd are

    pub tail_all : (left before runs : List Run) (old new : PassingRow) → length left ≡ 0
        → PassingTail plan events event stage waiters left before runs old new → (front : List Waiter)
        → AreRunsOf plan (events ++ event ∷ []) front (map (staged stage) before) → TailPassed plan events event stage front waiters runs old new
    tail_all [] before runs old new none so_far front are =
        let whole_of : so_far.done ≡ waiters = sym (append-nil so_far.done) ∙ sym (ap (λ l. so_far.done ++ l) (none_left so_far.rest so_far.rest_are)) ∙ sym so_far.parts in
        record {
          front_runs = before;
          tail_runs = so_far.kept;
          parts = so_far.runs_is;
          front_are = are;
          tail = subst (λ (ws : List Waiter). GroupPassed plan events event stage ws so_far.kept old new) whole_of so_far.passed;
        }
    tail_all (r ∷ left) before runs old new none so_far front are = absurd (omega (arith, none))

    -- ---- a run, judged and noted

    pub can_note : (w : Waiter) (run : Run) → waits plan events w.list w.stage ≡ true → stage ≡ w.stage → IsRunOf plan events w run
        → (taken : Bool) → IsJudged run (λ list. takes plan list stage event position) taken → CanNote plan events event position w run nfa taken
    can_note w run waiting named is taken judged = record {
      can = record { fit = can.fit; automaton = can.automaton; at = can.at; small = can.small; waiting = waiting; run_is = is };
      taken_is = takes_same w run position taken named can.at is judged;
    }

    -- ---- a turn of the loop over the tail

    module _ (run : Run) (items left before runs : List Run) (old mid : PassingRow) (is : left ≡ run ∷ items)
        (so_far : PassingTail plan events event stage waiters left before runs old mid) where
      first : TailOne run items before runs old mid
      first = tail_one run items left before runs old mid is so_far

      pub turn_asked : IsWantedBy plan (wanted_in run.sums)
      turn_asked = first.run_is.sums.asked

      pub turn_note : (taken : Bool) → IsJudged run (λ list. takes plan list stage event position) taken → CanNoteSome plan event position run nfa taken
      turn_note taken judged =
          record { events = events; waiter = first.waiter; can = can_note first.waiter run first.waiting first.named first.run_is taken judged }

      pub turn_done : (taken lives : Bool) → IsJudged run (λ list. takes plan list stage event position) taken
          → IsJudged run (λ list. survives plan list stage event position) lives
          → (later : Run) (noted new : PassingRow)
          → ((es : List Event) (w : Waiter) → CanNote plan es event position w run nfa taken → IsNoted plan es event w later mid.takes.items noted.takes.items)
          → noted.ended ≡ mid.ended → new.takes ≡ noted.takes → new.ended.items ≡ noted.ended.items ++ cond lives [] (later ∷ [])
          → (runs_new : List Run) → runs_new ≡ runs ++ cond lives (later ∷ []) []
          → PassingTail plan events event stage waiters items before runs_new old new
      turn_done taken lives judged living later noted new told same takes_same_as ends_added runs_new put =
          let one = told events first.waiter (can_note first.waiter run first.waiting first.named first.run_is taken judged) in
          first.after later lives (lives_same first.waiter run position lives first.named can.at first.run_is living) new
          (subst (λ (t : List Take). IsNoted plan events event first.waiter later mid.takes.items t) (sym (λ i. (takes_same_as i).items)) one)
          (ends_added ∙ (λ i. (same i).items ++ cond lives [] (later ∷ []))) runs_new put

    -- ---- the front of a group

    pub record Picked (ws : List Waiter) (place : ℕ) (run : Run) : Type 0 where
      pub waiter : Waiter
      pub waiting : waits plan events waiter.list waiter.stage ≡ true
      pub named : stage ≡ waiter.stage
      pub run_is : IsRunOf plan events waiter run
      pub more : take (suc place) ws ≡ take place ws ++ waiter ∷ []

    pick : (ws : List Waiter) (rs : List Run) (place : ℕ) (run : Run) → Each (λ w. waits plan events w.list w.stage ≡ true) ws
        → AreRunsOf plan events ws (map (staged stage) rs) → place < length rs → run ≡ get_or rs place run → Picked ws place run
    pick [] [] place run waiting are lt is = absurd (omega (arith, lt))
    pick [] (r ∷ rs) place run waiting are lt is = absurd are
    pick (w ∷ ws) [] place run waiting are lt is = absurd are
    pick (w ∷ ws) (r ∷ rs) zero run waiting are lt is = record {
      waiter = w;
      waiting = waiting.0;
      named = are.0.0;
      run_is = subst (IsRunOf plan events w) (sym is) are.0.1;
      more = ap (λ l. w ∷ l) (take-none ws 0 refl);
    }
    pick (w ∷ ws) (r ∷ rs) (suc place) run waiting are lt is =
        let later = pick ws rs place run waiting.1 are.1 (omega (arith, lt)) is in
        record { waiter = later.waiter; waiting = later.waiting; named = later.named; run_is = later.run_is; more = ap (λ l. w ∷ l) later.more }

    module _ (runs : List Run) (place : ℕ) (run : Run) (sized : length runs ≡ length all) (rest : drop place runs ≡ drop place all)
        (within : place < length all) (at : run ≡ get_or runs place run) where
      here : Picked waiters place run
      here =
          let zero_more : place + 0 ≡ place = omega arith in
          let in_all = at ∙ sym (get_or-drop place runs 0 run ∙ ap (λ k. get_or runs k run) zero_more) ∙ ap (λ l. get_or l 0 run) rest ∙ get_or-drop place all 0 run ∙ ap (λ k. get_or all k run) zero_more in
          pick waiters all place run can.waiting can.runs_are within in_all

      pub front_asked : IsWantedBy plan (wanted_in run.sums)
      front_asked = here.run_is.sums.asked

      pub front_note : (taken : Bool) → IsJudged run (λ list. takes plan list stage event position) taken → CanNoteSome plan event position run nfa taken
      front_note taken judged =
          record { events = events; waiter = here.waiter; can = can_note here.waiter run here.waiting here.named here.run_is taken judged }

      pub front_done : (taken lives : Bool) → IsJudged run (λ list. takes plan list stage event position) taken
          → IsJudged run (λ list. survives plan list stage event position) lives
          → lives ≡ true → (later : Run) (old mid new : PassingRow)
          → ((es : List Event) (w : Waiter) → CanNote plan es event position w run nfa taken → IsNoted plan es event w later mid.takes.items new.takes.items)
          → new.ended ≡ mid.ended → GroupPassed plan events event stage (take place waiters) (take place runs) old mid
          → GroupPassed plan events event stage (take (place + 1) waiters) (take (place + 1) (set runs place later)) old new
      front_done taken lives judged living yes_lives later old mid new told same passed =
          let one = told events here.waiter (can_note here.waiter run here.waiting here.named here.run_is taken judged) in
          let goes_here : true ≡ goes here.waiter = sym yes_lives ∙ lives_same here.waiter run position lives here.named can.at here.run_is living in
          let step = passed_join (take place waiters) (here.waiter ∷ []) (take place runs) (later ∷ []) old mid new passed
          (passed_one here.waiter here.named later mid new true goes_here one ((λ i. (same i).items) ∙ sym (append-nil mid.ended.items))) in
          subst (λ (ws : List Waiter). GroupPassed plan events event stage ws (take (place + 1) (set runs place later)) old new)
          (sym (ap (λ k. take k waiters) (add-one place) ∙ here.more))
          (subst (λ (rs : List Run). GroupPassed plan events event stage (take place waiters ++ here.waiter ∷ []) rs old new)
          (sym (take_more_set runs place later (omega (arith, within, sized)))) step)

    pub front_none : (runs : List Run) (passing : PassingRow) → GroupPassed plan events event stage (take 0 waiters) (take 0 runs) passing passing
    front_none runs passing =
        subst (λ (ws : List Waiter). GroupPassed plan events event stage ws (take 0 runs) passing passing) (sym (take-none waiters 0 refl))
        (subst (λ (rs : List Run). GroupPassed plan events event stage [] rs passing passing) (sym (take-none runs 0 refl)) (passed_none passing))

    -- ---- the whole group

    sized_of : (ws : List Waiter) (rs : List Run) → AreRunsOf plan events ws (map (staged stage) rs) → length ws ≡ length rs
    sized_of [] [] are = refl
    sized_of [] (r ∷ rs) are = absurd are
    sized_of (w ∷ ws) [] are = absurd are
    sized_of (w ∷ ws) (r ∷ rs) are = let more = sized_of ws rs are.1 in omega (arith, more)

    dropped : (ws : List Waiter) (rs : List Run) (k : ℕ) → AreRunsOf plan events ws (map (staged stage) rs)
        → AreRunsOf plan events (drop k ws) (map (staged stage) (drop k rs))
    dropped [] [] zero are = tt
    dropped [] [] (suc k) are = tt
    dropped [] (r ∷ rs) k are = absurd are
    dropped (w ∷ ws) [] k are = absurd are
    dropped (w ∷ ws) (r ∷ rs) zero are = are
    dropped (w ∷ ws) (r ∷ rs) (suc k) are = dropped ws rs k are.1

    each_dropped : (P : Waiter → Type 0) (ws : List Waiter) (k : ℕ) → Each P ws → Each P (drop k ws)
    each_dropped P [] zero h = tt
    each_dropped P [] (suc k) h = tt
    each_dropped P (w ∷ ws) zero h = h
    each_dropped P (w ∷ ws) (suc k) h = each_dropped P ws k h.1

    pub tail_can : (k : ℕ) (tail : List Run) → tail ≡ drop k all → CanPassGroup plan events position stage (drop k waiters) nfa tail
    tail_can k tail is = subst (CanPassGroup plan events position stage (drop k waiters) nfa) (sym is) (record {
      fit = can.fit;
      automaton = can.automaton;
      at = can.at;
      small = can.small;
      waiting = each_dropped (λ (w : Waiter). waits plan events w.list w.stage ≡ true) waiters k can.waiting;
      runs_are = dropped waiters all k can.runs_are;
    })

    -- all of the runs are the front
    pub whole_front : (k : ℕ) (runs : List Run) → length runs ≡ length all → length runs ≤ k → (old new : PassingRow)
        → GroupPassed plan events event stage (take k waiters) (take k runs) old new → GroupPassed plan events event stage waiters runs old new
    whole_front k runs sized le old new passed =
        subst (λ (ws : List Waiter). GroupPassed plan events event stage ws runs old new)
        (take-all waiters k (let same = sized_of waiters all can.runs_are in omega (arith, same, sized, le)))
        (subst (λ (rs : List Run). GroupPassed plan events event stage (take k waiters) rs old new) (take-all runs k le) passed)

    pub both_parts : (k : ℕ) (runs after : List Run) (old mid new : PassingRow) → GroupPassed plan events event stage (take k waiters) (take k runs) old mid
        → ((front : List Waiter) → AreRunsOf plan (events ++ event ∷ []) front (map (staged stage) (take k runs))
        → TailPassed plan events event stage front (drop k waiters) after mid new) → GroupPassed plan events event stage waiters after old new
    both_parts k runs after old mid new a told =
        let b = told (filter goes (take k waiters)) a.runs_are in
        let first : GroupPassed plan events event stage (take k waiters) b.front_runs old mid = record { runs_are = b.front_are; takes = a.takes; takes_are = a.takes_are; takes_added = a.takes_added; ended = a.ended; ended_are = a.ended_are; ended_added = a.ended_added } in
        subst (λ (ws : List Waiter). GroupPassed plan events event stage ws after old new) (take-append-drop k waiters)
        (subst (λ (rs : List Run). GroupPassed plan events event stage (take k waiters ++ drop k waiters) rs old new) (sym b.parts)
        (passed_join (take k waiters) (drop k waiters) b.front_runs b.tail_runs old mid new first b.tail))

    pub no_runs : length all ≡ 0 → (passing : PassingRow) → GroupPassed plan events event stage waiters all passing passing
    no_runs none passing = whole_front 0 all refl (omega (arith, none)) passing passing (front_none all passing)
