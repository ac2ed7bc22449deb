use Rattle.std.proofs.Common.{sym, ◌∙◌, ap, ◌++◌, append_assoc}
use Rattle.std.specs.Prelude.{string_bytes}
use Rattle.std.specs.List.{flat_map, range_with_len}
use Rattle.nfa_compile.specs.Explained.{lines_at}
use Rattle.nfa_compile.proofs.StateListLaws.{flat_from_zero}
use Rattle.nfa_compile.proofs.explained.put_states.Goals as goal

pub loop-place-preserved : goal.loop-place-preserved
loop-place-preserved c =
    let lines = lines_at c.args.plan.now c.args.took.now in
    let old = string_bytes c.args.out.now in
    let place = c.loop-place.place in
    c.in_ok-put_took_at.ensures
    ∙ ap (λ text. text ++ lines place) c.loop-place.invariant
    ∙ append_assoc old (flat_map lines (range_with_len 0 place)) (lines place)
    ∙ ap (λ text. old ++ text) (sym (flat_from_zero lines place))
