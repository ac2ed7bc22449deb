use Rattle.std.proofs.Common.{◌≡◌, refl, sym, ◌∙◌, ap, subst, ℕ, true, []}
use Rattle.std.specs.Prelude.{Option, Some, None}
use Rattle.cep_plan.specs.declared.plan.Plan.{Plan}
use Rattle.cep_plan.specs.Skipping.{kept}
use Rattle.cep_plan.specs.History.{history}
use Rattle.live_laws.specs.Starts.{Scope, open_scope}
use Rattle.shared_buffer.specs.Content.{Content as BufferContent}
use Rattle.run_step.specs.Content.{Content}
use Rattle.run_step.specs.Runs.{StandsNow}
use Rattle.time_limit.specs.Limits.{Kept, limited}
use Rattle.cep_engine.specs.Running.{RunsStand}
use Rattle.cep_engine.specs.Standing.{PartsStand}
use Rattle.cep_engine.proofs.engine.Engine.new.Goals as goal

none_kept : (limit : Option ℕ) → [] ≡ limited limit []
none_kept None = refl
none_kept (Some l) = refl

-- before the first tick
first_parts : (plan : Plan) (content : Content) (buffer : BufferContent) (saved : Kept)
    → ((scope : Scope) → StandsNow plan [] scope [] content (record { events = []; nodes = [] })) → buffer ≡ record { events = []; nodes = [] }
    → saved ≡ record { within = plan.within; gap = plan.within_gap; starts = []; lasts = [] } → PartsStand plan [] content buffer saved
unfolding kept history
first_parts plan content buffer saved now empty none = record {
  runs =
      subst (λ (b : BufferContent). RunsStand plan [] (open_scope plan [] [] None) content b) (sym empty)
      (record { now = now (open_scope plan [] [] None); settled = λ key row found. let no : None ≡ Some row = found in absurd cc });
  limits = none
      ∙ (λ i. record { within = plan.within; gap = plan.within_gap; starts = none_kept plan.within i; lasts = none_kept plan.within_gap i });
  below = tt;
  first = λ _. refl;
}

pub invariant_of-result : goal.invariant_of-result
invariant_of-result c = record {
  plan = c.requires.plan;
  nfa = c.in_ok-nfa.ensures;
  room = c.requires.within;
  behind = λ _. (ap (λ (k : Kept). k.starts) c.new-limits.ensures, ap (λ (k : Kept). k.lasts) c.new-limits.ensures);
  stands = λ _. record {
    ticks = [];
    stands = record {
      parts =
          first_parts c.args.plan c.in_ok-runs.runs c.new-buffer.result c.new-limits.result
          (λ scope. c.in_ok-runs.ensures.now c.args.plan scope c.in_ok-nfa.ensures c.in_ok-asked.ensures) c.new-buffer.ensures.empty
          c.new-limits.ensures;
      last = refl;
    };
  };
}

pub returns-clause-stands : goal.returns-clause-stands
returns-clause-stands c = record {
  parts =
      first_parts c.args.plan c.in_ok-runs.runs c.new-buffer.result c.new-limits.result
      (λ scope. c.in_ok-runs.ensures.now c.args.plan scope c.in_ok-nfa.ensures c.in_ok-asked.ensures) c.new-buffer.ensures.empty
      c.new-limits.ensures;
  last = refl;
}

pub returns-clause-fresh : goal.returns-clause-fresh
returns-clause-fresh c = (
  refl,
  refl,
  (c.in_ok-runs.ensures.now c.args.plan (record { starts = λ _. true; lasts = λ _. true }) c.in_ok-nfa.ensures c.in_ok-asked.ensures).stands.counted,
  c.new-items.ensures,
  refl,
)
