-- Before the first event.
use Rattle.std.proofs.Common.{◌≡◌, refl, sym, ◌∙◌, ap, subst, ℕ, zero, suc, ◌+◌, ◌<◌, ◌≤◌, arith, List, [], ◌∷◌, ◌++◌, length, map, get_or, take, Some}
use Rattle.std.proofs.lemmas.List.{append-nil, map-append, take_more}
use Rattle.cep_plan.specs.declared.plan.Plan.{Plan}
use Rattle.nfa_compile.specs.declared.nfa.Wait.{Wait}
use Rattle.nfa_compile.specs.declared.nfa.Nfa.{Nfa}
use Rattle.nfa_compile.specs.Automaton.{automaton_of, waits_of}
use Rattle.live_laws.specs.Starts.{Scope}
use Rattle.list_runs.specs.Runs.{StandsFor, runs_of}
use Rattle.list_runs.proofs.StartLaws.{StandsFor-start}
use Rattle.shared_buffer.specs.Slots.{slot_at}
use Rattle.cond_sums.specs.Kept.{Summed}
use Rattle.run_judge.specs.Fate.{AreSumsOf}
use Rattle.run_step.proofs.WaitsLaws.{take-all}
use Rattle.run_step.specs.Runs.{takes_so_far, Stands, StandsNow}

no_slot : {T : Type 0} (key : ℕ) (x : T) → slot_at {T = T} [] key ≡ Some x → ⊥
no_slot zero x is = absurd cc
no_slot (suc key) x is = absurd cc

start_waits : (plan : Plan) → (automaton_of plan).start ≡ waits_of plan []
unfolding automaton_of
start_waits plan = refl

no_takes : (plan : Plan) (waits : List Wait) → map (λ (w : Wait). 0) waits ≡ map (λ (w : Wait). takes_so_far plan [] [] w.stage) waits
no_takes plan [] = refl
no_takes plan (w ∷ waits) = ap (λ l. 0 ∷ l) (no_takes plan waits)

stands_new : (plan : Plan) (scope : Scope) (nfa : Nfa) → nfa ≡ automaton_of plan → (bumps : List ℕ) → bumps ≡ map (λ (w : Wait). 0) nfa.start
    → (empty : Summed) → AreSumsOf plan [] empty
    → Stands plan [] scope [] (record { runs = []; bumps = bumps; position = 0; empty = empty }) (record { events = []; nodes = [] })
stands_new plan scope nfa made bumps is empty none = record {
  counted = refl;
  empty = none;
  bumps = is ∙ ap (map (λ (w : Wait). 0)) (ap (λ (n : Nfa). n.start) made ∙ start_waits plan) ∙ no_takes plan (waits_of plan []);
  waiters = [];
  stand = subst (StandsFor plan [] scope) (sym (append-nil (runs_of plan []))) (StandsFor-start plan scope);
  runs = tt;
  ahead = [];
  one_ahead = omega arith;
  held = record {
    event_is = λ key row found. absurd (no_slot key row found);
    one_event = λ key other row another found. absurd (no_slot key row found);
    listed = λ key edge there. absurd (no_slot key there.node there.found);
    stands = λ list key held. absurd (omega (arith, held));
  };
}

pub stands_now : (plan : Plan) (scope : Scope) (nfa : Nfa) → nfa ≡ automaton_of plan → (bumps : List ℕ) → bumps ≡ map (λ (w : Wait). 0) nfa.start
    → (empty : Summed) → AreSumsOf plan [] empty
    → StandsNow plan [] scope [] (record { runs = []; bumps = bumps; position = 0; empty = empty }) (record { events = []; nodes = [] })
unfolding stands_new
stands_now plan scope nfa made bumps is empty none = record { stands = stands_new plan scope nfa made bumps is empty none; none_ahead = refl }

pub zeros_more : (waits : List Wait) (i : ℕ) (wait : Wait) (before after : List ℕ) → i < length waits → before ≡ map (λ (w : Wait). 0) (take i waits)
    → after ≡ before ++ 0 ∷ [] → after ≡ map (λ (w : Wait). 0) (take (i + 1) waits)
zeros_more waits i wait before after within so_far added =
    added ∙ ap (λ l. l ++ 0 ∷ []) so_far
    ∙ sym (ap (map (λ (w : Wait). 0)) (take_more waits i wait within) ∙ map-append (λ (w : Wait). 0) (take i waits) (get_or waits i wait ∷ []))

pub zeros_all : (waits : List Wait) (i : ℕ) (all : List ℕ) → length waits ≤ i → all ≡ map (λ (w : Wait). 0) (take i waits) → all ≡ map (λ (w : Wait). 0) waits
zeros_all waits i all le so_far = so_far ∙ ap (map (λ (w : Wait). 0)) (take-all waits i le)
