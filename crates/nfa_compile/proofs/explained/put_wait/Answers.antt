use Rattle.std.proofs.Common.{◌∙◌, ap, ◌++◌}
use Rattle.std.specs.Prelude.{string_bytes, codes}
use Rattle.std.specs.List.{flat_map}
use Rattle.nfa_compile.specs.Explained.{aim_text, negation_at, wait_line}
use Rattle.nfa_compile.proofs.TextLaws.{four_parts}
use Rattle.nfa_compile.proofs.explained.put_wait.Goals as goal

pub returns : goal.returns
unfolding wait_line
returns c =
    let plan = c.args.plan.now in
    let wait = c.args.wait.now in
    c.in_ok-push_str-2.ensures.bytes
    ∙ ap (λ text. text ++ codes "\n") (c.in_ok-put_negations.ensures
    ∙ ap (λ numbers. string_bytes c.put_aim.new.out ++ flat_map (negation_at plan) numbers) c.as_slice.ensures
    ∙ ap (λ text. text ++ flat_map (negation_at plan) wait.negations)
    (c.in_ok-put_aim.ensures ∙ ap (λ text. text ++ aim_text plan wait) c.in_ok-push_str.ensures.bytes))
    ∙ four_parts (string_bytes c.args.out.now) (codes "  proceed ") (aim_text plan wait) (flat_map (negation_at plan) wait.negations) (codes "\n")
