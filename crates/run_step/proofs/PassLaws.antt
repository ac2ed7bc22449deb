-- A run after an event that it lets pass or takes.
use Rattle.std.proofs.Common.{◌≡◌, refl, sym, ◌∙◌, ap, subst, ℕ, ◌+◌, ◌<◌, ◌≤◌, ◌^◌, arith, Bool, true, false, cond, List, [], ◌∷◌, ◌++◌, length}
use Rattle.std.specs.List.{range_with_len}
use Rattle.cep_event.specs.declared.event.Event.{Event}
use Rattle.cep_plan.specs.declared.plan.Plan.{Plan}
use Rattle.cep_plan.specs.Entry.{taken_of, stages_of}
use Rattle.std.specs.Prelude.{slice_get}
use Rattle.nfa_compile.specs.Automaton.{waits_of}
use Rattle.cep_plan.specs.Partial.{is_partial, waits}
use Rattle.cep_plan.proofs.LocalLaws.{AreAmong, event_at-append}
use Rattle.live_laws.proofs.WaitLaws.{waits-among}
use Rattle.match_labels.specs.Label.{Mark}
use Rattle.match_labels.proofs.PathLaws.{mark_of-append}
use Rattle.run_step.specs.declared.runs.Run.{Run}
use Rattle.run_step.specs.declared.runs.WaitKey.{WaitKey}
use Rattle.run_judge.specs.Fate.{AreSumsOf}
use Rattle.run_step.specs.Runs.{Waiter, holder_of, EndsWith, IsRunOf}
use Rattle.run_step.specs.Passing.{is_taking}
use Rattle.std.proofs.lemmas.List.{append-nil}
use Rattle.nfa_compile.specs.declared.nfa.Nfa.{Nfa}
use Rattle.run_step.specs.declared.passing.Take.{Take}
use Rattle.run_step.specs.Taking.{IsTakeOf, AreTakesOf}
use Rattle.run_step.specs.Noting.{CanNote, IsNoted}
use Rattle.run_step.specs.Putting.{IsHeldRun}
use Rattle.run_step.proofs.DigitLaws.{takes-later}
use Rattle.run_step.proofs.SumsLaws.{sums-later, ends-later}
use Rattle.run_step.proofs.TakeLaws.{count_by-all, length-range}

module _ (plan : Plan) (events : List Event) (event : Event) (waiter : Waiter) (waiting : waits plan events waiter.list waiter.stage ≡ true) where
  abbrev whole : List Event
  whole = events ++ event ∷ []

  among : AreAmong events waiter.list
  among = waits-among plan events waiter.list waiter.stage waiting

  -- The run after the event is that of the same waiter, with one more take where it took the event.
  pub run_later : (run after : Run) → IsRunOf plan events waiter run → after.wait ≡ run.wait → after.node ≡ run.node → after.version ≡ run.version
      → after.next_digit ≡ run.next_digit
      → after.bump ≡ run.bump + cond (is_taking plan events event waiter) 1 0 → after.start ≡ run.start → after.start_ts ≡ run.start_ts
      → after.last ≡ run.last → after.sums ≡ run.sums → IsRunOf plan whole waiter after
  run_later run after of wait node version digit bump start time ends sums =
      let mark = mark_of-append plan events (event ∷ []) waiter.list among in
      let inside : of.begins.first.position < length events = (subst (AreAmong events) of.begins.parts among).0 in
      record {
        waits =
            record {
              state_is = ap (λ (k : WaitKey). k.state) wait
                  ∙ of.waits.state_is;
              number_is = ap (λ (k : WaitKey). slice_get (waits_of plan (stages_of waiter.list)) k.number) wait
                  ∙ of.waits.number_is;
            };
        node_is = node ∙ of.node_is;
        version_is = version ∙ of.version_is ∙ sym (ap (λ (m : Mark). m.label) mark);
        digit_is = digit ∙ of.digit_is ∙ sym (ap (λ (m : Mark). m.next) mark);
        bump_is = bump ∙ ap (λ n. n + cond (is_taking plan events event waiter) 1 0) of.bump_is
            ∙ sym (takes-later plan events event waiter.list among waiter.stage waiting);
        begins = record {
          first = of.begins.first;
          later = of.begins.later;
          parts = of.begins.parts;
          start_is = start ∙ of.begins.start_is;
          time_is = time ∙ of.begins.time_is ∙ sym (ap (λ (e : Event). e.ts) (event_at-append events (event ∷ []) of.begins.first.position inside));
        };
        ends = subst (EndsWith whole waiter.list) (sym ends) (ends-later events (event ∷ []) waiter.list run.last among of.ends);
        sums = subst (AreSumsOf plan (taken_of whole waiter.list)) (sym sums) (sums-later plan events (event ∷ []) waiter.list run.sums among of.sums);
      }

  -- a run that ends still has the node and the version of its list
  pub ended_later : (run : Run) → IsRunOf plan events waiter run → IsHeldRun plan whole (holder_of waiter) run
  ended_later run of =
      record {
        node_is = of.node_is;
        version_is = of.version_is
            ∙ sym (ap (λ (m : Mark). m.label) (mark_of-append plan events (event ∷ []) waiter.list among));
      }

  -- a wait was taken no more often than there were events
  pub bump_few : (run : Run) → IsRunOf plan events waiter run → run.bump ≤ length events
  bump_few run of =
      let most = count_by-all (λ (p : ℕ). is_partial plan events (waiter.list ++ record { stage = waiter.stage; position = p } ∷ [])) (range_with_len 0 (length events)) in
      omega (arith, of.bump_is, most, length-range 0 (length events))

-- ---- one run

module _ (plan : Plan) (events : List Event) (event : Event) (position : ℕ) (waiter : Waiter) (run : Run) (nfa : Nfa) (taken : Bool)
    (can : CanNote plan events event position waiter run nfa taken) where
  -- the event isn't taken
  pub noted_none : taken ≡ false → (takes : List Take) → IsNoted plan events event waiter run takes takes
  noted_none not_taken takes =
      let none : is_taking plan events event waiter ≡ false = sym can.taken_is ∙ not_taken in
      record {
        run_is = run_later plan events event waiter can.can.waiting run run can.can.run_is refl refl refl refl
            (let plus : run.bump ≡ run.bump + 0 = omega arith in plus ∙ ap (λ b. run.bump + cond b 1 0) (sym none)) refl refl refl refl;
        more = [];
        takes_are = subst (λ (b : Bool). AreTakesOf plan (events ++ event ∷ []) (length events) (cond b (waiter ∷ []) []) []) (sym none) tt;
        added = sym (append-nil takes);
      }

  -- the event is taken
  pub noted_one : taken ≡ true → (before after : List Take) (made : Take) → IsTakeOf plan (events ++ event ∷ []) position waiter made
      → after ≡ before ++ made ∷ []
      → (later : Run) → later.wait ≡ run.wait → later.node ≡ run.node → later.version ≡ run.version → later.next_digit ≡ run.next_digit
      → later.bump ≡ run.bump + 1
      → later.start ≡ run.start → later.start_ts ≡ run.start_ts → later.last ≡ run.last → later.sums ≡ run.sums
      → IsNoted plan events event waiter later before after
  noted_one is_taken before after made is added later wait node version digit bump start time ends sums =
      let yes_taken : is_taking plan events event waiter ≡ true = sym can.taken_is ∙ is_taken in
      record {
        run_is = run_later plan events event waiter can.can.waiting run later can.can.run_is wait node version digit
            (bump ∙ ap (λ b. run.bump + cond b 1 0) (sym yes_taken)) start time ends sums;
        more = made ∷ [];
        takes_are = subst (λ (b : Bool). AreTakesOf plan (events ++ event ∷ []) (length events) (cond b (waiter ∷ []) []) (made ∷ [])) (sym yes_taken)
            (subst (λ (p : ℕ). IsTakeOf plan (events ++ event ∷ []) p waiter made) can.can.at is, tt);
        added = added;
      }

  pub bump_fits : run.bump + 1 < 2 ^ 64
  bump_fits = let few = bump_few plan events event waiter can.can.waiting run can.can.run_is in omega (arith, few, can.can.at, can.can.small)
