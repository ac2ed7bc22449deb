-- The runs of a list that took an event.
use Rattle.std.proofs.Common.{◌≡◌, refl, sym, ◌∙◌, ap, subst, ℕ, zero, suc, ◌+◌, ◌^◌, ◌<◌, ◌≤◌, arith, Bool, false, cond, List, [], ◌∷◌, ◌++◌, length, Some, inl, inr}
use Rattle.std.specs.Prelude.{count_by}
use Rattle.std.specs.List.{range_with_len}
use Rattle.std.proofs.lemmas.Bool.{cases_Bool}
use Rattle.std.proofs.lemmas.List.Sums.{sum_by-cons}
use Rattle.cep_event.specs.declared.event.Event.{Event}
use Rattle.cep_plan.specs.declared.plan.Plan.{Plan}
use Rattle.cep_plan.specs.Entry.{Entry, taken_of, last_entry}
use Rattle.cep_plan.specs.Partial.{is_partial}
use Rattle.match_labels.specs.Label.{label_of}
use Rattle.shared_buffer.specs.Graph.{edge_total}
use Rattle.shared_buffer.specs.Content.{Content as BufferContent}
use Rattle.shared_buffer.specs.Nodes.{CanHold}
use Rattle.shared_buffer.specs.Exact.{AddsOneHold}
use Rattle.shared_buffer.specs.Facts.{IsConsistent}
use Rattle.list_buffer.specs.Held.{Holder, Holds}
use Rattle.list_buffer.specs.Listed.{HasEdgeOf}
use Rattle.list_buffer.proofs.HoldLaws.{HoldsLists-hold}
use Rattle.list_buffer.proofs.PutLaws.{can_hold}
use Rattle.list_buffer.proofs.StateLaws.{front_lower}
use Rattle.run_step.specs.declared.runs.WaitKey.{WaitKey}
use Rattle.run_step.specs.declared.passing.Grown.{Grown}
use Rattle.run_step.specs.declared.begun.Fresh.{Fresh}
use Rattle.run_judge.specs.Fate.{AreSumsOf}
use Rattle.run_step.specs.Runs.{IsKeyOf, EndsWith, takes_so_far}
use Rattle.run_step.specs.Beginning.{CanBegin, HasBegun}

none-below : (test : ℕ → Bool) (from n : ℕ) → ((k : ℕ) → k < from + n → test k ≡ false) → count_by test (range_with_len from n) ≡ 0
none-below test from zero none = refl
none-below test from (suc n) none =
    let rest = none-below test (from + 1) n (λ k lt. none k (omega (arith, lt))) in
    let here = ap {B = ℕ} (λ b. cond b 1 0) (none from (omega arith)) in
    omega (arith, rest, here, sum_by-cons (λ k. cond (test k) 1 0) from (range_with_len (from + 1) n))

-- no event up to the last one can be taken next
none_so_far : (plan : Plan) (events : List Event) (list : List Entry) (end : Entry) (stage : ℕ) → last_entry list ≡ Some end
    → end.position + 1 ≡ length events → takes_so_far plan events list stage ≡ 0
none_so_far plan events list end stage last top =
    none-below (λ k. is_partial plan events (list ++ record { stage = stage; position = k } ∷ [])) 0 (length events) (λ k lt.
    elim (cases_Bool (is_partial plan events (list ++ record { stage = stage; position = k } ∷ []))) [
      | inl taken ↦ let lower = front_lower plan events (list ++ record { stage = stage; position = k } ∷ []) list end (record { stage = stage; position = k }) taken refl last in absurd (omega (arith, lower, lt, top))
      | inr not ↦ not
    ])

module _ (plan : Plan) (events : List Event) (holder : Holder) (held : Holds) (grown : Grown) (stage : ℕ) (key : WaitKey) (buffer : BufferContent)
    (can : CanBegin plan events holder held grown stage key buffer) (sound : IsConsistent buffer) where
  edge : HasEdgeOf plan events buffer.nodes holder.list holder.node
  edge = can.has.stands holder.list holder.node can.is_held

  pub begin_can : edge_total buffer.nodes ≤ 2 ^ 63 → CanHold buffer.nodes grown.node grown.version
  begin_can few =
      subst (λ (k : ℕ). CanHold buffer.nodes k grown.version) (sym can.grown_is.node_is)
      (subst (CanHold buffer.nodes holder.node) (sym can.grown_is.version_is)
      (can_hold plan events held buffer can.has sound few holder.list holder.node edge can.few))

  pub begin_after : (new : BufferContent) → IsConsistent new → new.events ≡ buffer.events
      → AddsOneHold buffer.nodes new.nodes grown.node grown.version → (fresh : Fresh) → fresh.stage ≡ stage
      → fresh.run.wait ≡ key → fresh.run.node ≡ grown.node → fresh.run.version ≡ grown.version → fresh.run.next_digit ≡ grown.next_digit → fresh.run.bump ≡ 0
      → fresh.run.start ≡ grown.start → fresh.run.start_ts ≡ grown.start_ts → fresh.run.last ≡ grown.last → fresh.run.sums ≡ grown.sums
      → HasBegun plan events holder held stage fresh new
  begin_after new sound_new same adds fresh is wait node version digit bump start time ends sums = record {
    has =
        HoldsLists-hold plan events held buffer new can.has sound_new same holder edge
        (subst (λ (k : ℕ). AddsOneHold buffer.nodes new.nodes k (label_of plan events holder.list)) can.grown_is.node_is
        (subst (AddsOneHold buffer.nodes new.nodes grown.node) can.grown_is.version_is adds));
    stage_is = is;
    run_is = record {
      waits = subst (IsKeyOf plan holder.list stage) (sym wait) can.key_is;
      node_is = node ∙ can.grown_is.node_is;
      version_is = version ∙ can.grown_is.version_is;
      digit_is = digit ∙ can.grown_is.digit_is;
      bump_is = bump ∙ sym (none_so_far plan events holder.list can.end stage can.last can.top);
      begins = record {
        first = can.grown_is.first;
        later = can.grown_is.later;
        parts = can.grown_is.parts;
        start_is = start ∙ can.grown_is.start_is;
        time_is = time ∙ can.grown_is.time_is;
      };
      ends = subst (EndsWith events holder.list) (sym ends) can.grown_is.ends;
      sums = subst (AreSumsOf plan (taken_of events holder.list)) (sym sums) can.grown_is.sums;
    };
  }
