use Rattle.std.proofs.Common.{◌≡◌, ◌↔◌, ◌∙◌, ◌++◌, ap, subst, length, ℕ, List}
use Rattle.std.specs.List.{flat_map, range_with_len, Contains}
use Rattle.cond_sums.specs.Questions.{questions_asked, stages_counted, pair_of, pair_in, stage_of, stage_in}
use Rattle.cond_sums.proofs.GatherLaws.{pairs-found, stages-found}
use Rattle.cond_sums.proofs.asked.Asked.of.Goals as goal

pub returns : goal.returns
returns c =
    let questions = questions_asked c.args.plan.now in
    let pairs : c.in_ok-pairs.pairs.items ≡ flat_map pair_of questions = c.in_ok-pairs.ensures ∙ ap (flat_map pair_in) (c.as_slice.ensures.value ∙ c.in_ok-found.ensures) ∙ pairs-found questions in
    let counted : c.in_ok-counted.counted.items ≡ flat_map stage_of questions = c.in_ok-counted.ensures ∙ ap (flat_map stage_in) (c.as_slice-2.ensures.value ∙ c.in_ok-found.ensures) ∙ stages-found questions in
    let all : c.add_each_stage.new.counted.items ≡ stages_counted c.args.plan.now = c.in_ok-add_each_stage.ensures ∙ (λ i. counted i ++ range_with_len 0 (length (c.as_slice-3.ensures i))) in
    record {
      pairs_rise = c.put_in_order.ensures.rising;
      pairs_are = λ p. let Same : List (ℕ × ℕ) → Type 0 = λ xs. Contains c.put_in_order.new.pairs.items p ↔ Contains xs p in
          subst Same pairs (c.put_in_order.ensures.same p);
      counted_rise = c.put_stages_in_order.ensures.rising;
      counted_are = λ n. let Same : List ℕ → Type 0 = λ xs. Contains c.put_stages_in_order.new.stages.items n ↔ Contains xs n in
          subst Same all (c.put_stages_in_order.ensures.same n);
    }
