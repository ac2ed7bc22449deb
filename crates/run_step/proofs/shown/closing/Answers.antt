use Rattle.std.proofs.Common.{◌≡◌, sym, ap, subst, List, Result, Ok, Err}
use Rattle.std.specs.Prelude.{IfOk, flat_map}
use Rattle.std.specs.List.Sorted.{IsPermutation}
use Rattle.run_step.specs.Content.{Content, in_groups}
use Rattle.run_step.specs.declared.runs.Tip.{Tip}
use Rattle.run_step.specs.Showing.{shown_for, end_in}
use Rattle.run_step.proofs.WaitingLaws.{shows-closing}
use Rattle.run_step.proofs.shown.closing.Goals as goal

ok_then : {A E : Type 0} (r : Result A E) (P Q : A → Type 0) → ((x : A) → P x → Q x) → IfOk r P → IfOk r Q
ok_then (Ok x) P Q f p = f x p
ok_then (Err e) P Q f p = tt

pub returns : goal.returns
returns c = record {
  shown = λ plan events scope tips fit automaton stands.
      let groups = c.runs.inside.groups.items in
      let nfa = c.args.nfa.now in
      let runs_are : c.args.runs.now.runs ≡ in_groups groups = sym (ap (λ (v : Content). v.runs) c.runs.view_is) in
      let moved : IsPermutation (flat_map (shown_for nfa c.args.due (end_in nfa)) groups) c.in_ok-tips.tips =
      subst (λ (l : List Tip). IsPermutation l c.in_ok-tips.tips) c.in_ok-closing_tips.ensures c.in_ok-tips.ensures.permutation in
      ok_then c.without_repeats.result _ _
      (λ made is. shows-closing plan fit events scope tips c.args.runs.now c.args.buffer.now stands c.facts.ensures nfa automaton
      c.args.due groups runs_are c.in_ok-tips.tips moved c.in_ok-tips.ensures.sorted made is)
      c.without_repeats.ensures;
}
