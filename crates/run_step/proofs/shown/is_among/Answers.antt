use Rattle.std.proofs.Common.{◌≡◌, sym, subst, rules, ◌<◌, length, List}
use Rattle.std.specs.List.{HoldsAt}
use Rattle.std.specs.List.Sorted.{IsSortedBy, IsPartitionPoint}
use Rattle.std.specs.declared.cmp.Ordering.TheVariants.{Less, Equal, Greater}
use Rattle.std.proofs.lemmas.List.Sorted.{searchable_from_sorted}
use Rattle.std.proofs.lemmas.Fn.{always_returns_same}
use Rattle.run_step.specs.declared.runs.Tip.{Tip}
use Rattle.run_step.specs.Showing.{tip_cmp, comes_before}
use Rattle.run_step.proofs.TipLaws.{tip_cmp-total, among-found, among-none}
use Rattle.run_step.proofs.shown.is_among.Goals as goal

pub returns-in-Ok : goal.returns-in-Ok
returns-in-Ok c =
    let tips = c.args.tips.now in
    let tip = c.args.tip.now in
    let i = c.in-Ok.field-0 in
    let found = c.in-Ok.ensures.position (λ (other : Tip). tip_cmp other tip) (always_returns_same _ _ _ (λ a r f called. search rules)) in
    sym (among-found tips tip i (subst (λ (l : List Tip). i < length l) c.as_slice.ensures c.in-Ok.ensures.bound)
    (subst (λ (l : List Tip). HoldsAt (λ (other : Tip). tip_cmp other tip ≡ Equal) l i) c.as_slice.ensures found))

pub returns-in_default : goal.returns-in_default
returns-in_default c =
    let tips = c.args.tips.now in
    let tip = c.args.tip.now in
    let i = c.in_default.field-0 in
    let found = c.in_default.ensures.position (λ (other : Tip). tip_cmp other tip) (always_returns_same _ _ _ (λ a r f called. search rules)) in
    let rises = searchable_from_sorted tip_cmp-total (λ (t : Tip). t) c.as_slice.result.now tip
    (subst (IsSortedBy comes_before) (sym c.as_slice.ensures) c.requires) in
    sym (among-none tips tip i
    (subst (λ (l : List Tip). IsPartitionPoint (λ (other : Tip). tip_cmp other tip ≡ Less) (λ other. tip_cmp other tip ≡ Greater) l i)
    c.as_slice.ensures (found rises)))
