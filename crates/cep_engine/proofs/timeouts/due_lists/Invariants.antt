-- What was told so far, and what is owed.
use Rattle.std.proofs.Common.{◌≡◌, List, length}
use Rattle.cep_event.specs.declared.event.Event.{Event}
use Rattle.cep_plan.specs.declared.plan.Plan.{Plan}
use Rattle.nfa_compile.specs.State.{IsCompilable}
use Rattle.nfa_compile.specs.Automaton.{automaton_of}
use Rattle.live_laws.specs.Starts.{Scope}
use Rattle.due_laws.specs.Due.{dues_of, left_of}
use Rattle.cep_engine.specs.Running.{RunsStand, CanShow}
use Rattle.cep_engine.proofs.TellLaws.{Owes}
use Rattle.cep_engine.proofs.timeouts.due_lists.Given as goal

abbrev pub invariant-loop-due : goal.invariant-loop-due
invariant-loop-due l = record {
  owes :
      (plan : Plan) (events : List Event) (scope : Scope) → IsCompilable plan → l.nfa ≡ automaton_of plan
      → RunsStand plan events scope l.initial.runs l.initial.buffer
      → Owes plan events scope (dues_of l.initial.limits l.now) l.lists.timeouts l.lists.closed l.runs l.buffer (dues_of l.limits l.now);
  left : left_of l.initial.limits l.now ≡ left_of l.limits l.now;
  position : l.runs.position ≡ l.initial.runs.position;
  can : CanShow l.nfa l.runs l.buffer;
}

abbrev pub decreases-loop-due : goal.decreases-loop-due
decreases-loop-due l = length (dues_of l.limits l.now)
