use Rattle.std.proofs.Common.{◌≡◌, sym, ◌∙◌, ap, arith, ◌<◌, [], ◌∷◌, cond, ◌++◌, map, take, List, length}
use Rattle.std.specs.Prelude.{filter}
use Rattle.std.proofs.lemmas.List.{append-nil}
use Rattle.list_runs.proofs.PartLaws.{shown-more}
use Rattle.run_step.specs.declared.runs.Run.{Run}
use Rattle.run_step.specs.declared.runs.Tip.{Tip}
use Rattle.run_step.specs.Content.{Grouped}
use Rattle.run_step.specs.Showing.{is_shown, tip_of}
use Rattle.run_step.proofs.TipLaws.{shown-before, shown-front}
use Rattle.run_step.proofs.group.Group.add_shown.Goals as goal

pub loop-place-init : goal.loop-place-init
loop-place-init c =
    sym (append-nil c.args.tips.now)
    ∙ ap (λ (l : List Run). c.args.tips.now ++ map tip_of l)
    (sym (shown-before c.args.nfa.now c.args.due (take c.range_of-first.result.0 c.self.inside.runs.items) c.range_of-first.ensures.before))

pub loop-place-preserved : goal.loop-place-preserved
loop-place-preserved c =
    let within : c.loop-place.place < length c.self.inside.runs.items = omega (arith, c.loop-place-test.true, c.range_of-first.ensures.bound) in
    c.in_ok-add_shown.ensures
    ∙ ap (λ (l : List Tip). l ++ cond (is_shown c.args.nfa.now c.args.due c.index.result.now) (tip_of c.index.result.now ∷ []) [])
    c.loop-place.invariant
    ∙ shown-more (is_shown c.args.nfa.now c.args.due) tip_of c.self.inside.runs.items c.loop-place.place c.index.result.now c.args.tips.now within
    c.index.ensures

pub returns : goal.returns
returns c =
    let order = c.range_of-first.ensures.order in
    let at_end : c.loop-place.place ≡ c.range_of-first.result.1 = omega (arith, order, c.loop-place-test.false, c.loop-place.auto.place-end order) in
    c.loop-place.invariant
    ∙ ap (λ (l : List Run). c.args.tips.now ++ map tip_of l)
    (ap (λ n. filter (is_shown c.args.nfa.now c.args.due) (take n c.self.inside.runs.items)) at_end
    ∙ shown-front c.args.nfa.now c.args.due c.self.inside.runs.items c.range_of-first.result.1 c.range_of-first.ensures.behind)
    ∙ ap (λ (v : Grouped). c.args.tips.now ++ map tip_of (filter (is_shown c.args.nfa.now c.args.due) v.runs)) c.self.view_is
