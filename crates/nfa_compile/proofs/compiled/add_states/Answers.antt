use Rattle.std.proofs.Common.{sym, ◌∙◌, ap, ◌++◌, ◌∷◌, [], ◌+◌, append_assoc, map}
use Rattle.std.specs.List.{range_with_len}
use Rattle.nfa_compile.specs.declared.nfa.Took.{Took}
use Rattle.nfa_compile.specs.Automaton.{took_of}
use Rattle.nfa_compile.proofs.StateListLaws.{counts_more}
use Rattle.nfa_compile.proofs.compiled.add_states.Goals as goal

pub loop-before-preserved : goal.loop-before-preserved
loop-before-preserved c =
    let plan = c.args.plan.now in
    let stage = c.args.stage in
    let old = c.args.took.now in
    let before = c.loop-before.before in
    let new : Took = took_of plan (record { stage = stage; count = before + 1 }) in
    let so_far = map (took_of plan) (map (λ count. record { stage = stage; count = count }) (range_with_len 1 before)) in
    c.in_ok-push.ensures.ok
    ∙ ap (λ x. c.loop-before.took ++ x ∷ []) c.in_ok-took_of.ensures
    ∙ ap (λ xs. xs ++ new ∷ []) c.loop-before.invariant
    ∙ append_assoc old so_far (new ∷ [])
    ∙ ap (λ xs. old ++ xs) (sym (counts_more plan stage before))
