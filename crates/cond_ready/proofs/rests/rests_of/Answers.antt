use Rattle.std.proofs.Common.{arith, ◌∙◌, sym, subst, Bool, List, Some}
use Rattle.std.specs.List.{Contains, flat_map}
use Rattle.std.proofs.lemmas.List.Elements.{All-nil, All-contains_itself}
use Rattle.std.proofs.lemmas.Option.{IfSome_then}
use Rattle.cep_plan.specs.declared.condition.Part.{Part}
use Rattle.cep_plan.specs.Answer.{is_true}
use Rattle.cep_plan.specs.Value.{value_of}
use Rattle.cep_plan.specs.Condition.{condition_holds}
use Rattle.cond_eval.proofs.PartLaws.{can-others, holds-none, holds-all}
use Rattle.cond_eval.specs.Asked.{questions_of, questions_in}
use Rattle.cond_eval.proofs.QuestionLaws.{can-one}
use Rattle.cond_ready.specs.Rest.{rests_hold, AsksOf}
use Rattle.cond_ready.proofs.rests.rests_of.Goals as goal

pub returns-in-empty : goal.returns-in-empty
unfolding condition_holds
returns-in-empty c = record {
  asks = c.one_rest.ensures.asks (questions_in c.args.cond.now) (All-nil (Contains (questions_in c.args.cond.now)));
  holds = λ list. c.one_rest.ensures.holds c.args.plan.now.types c.args.event.now list
      ∙ holds-none (λ part. is_true (value_of c.args.plan.now.types (Some c.args.event.now) list part.expr)) c.args.cond.now.parts
      c.as_slice.result.now c.as_slice.ensures c.in-empty.len_below;
}

pub returns-in-Some : goal.returns-in-Some
unfolding condition_holds
returns-in-Some c =
    let qs = questions_in c.args.cond.now in
    let asks : AsksOf qs qs = All-contains_itself qs in
    let AsksIn : List Part → Type 0 = λ parts. AsksOf qs (flat_map (λ part. questions_of part.expr) parts) in
    let first : AsksOf qs (questions_of c.first-item.result.expr) =
    can-one (Contains qs) (λ part. questions_of part.expr) c.as_slice.result.now 0 c.first-item.result
    (omega (arith, c.in-len1-up.len_at_least)) c.first-item.is (subst AsksIn (sym c.as_slice.ensures) asks) in
    record {
      asks = IfSome_then c.with_parts.result c.with_parts.ensures.asks
          (λ made h. h qs (c.in-Some.ensures.asks qs first)
          (can-others (Contains qs) c.args.cond.now.parts c.as_slice.result.now c.first-item.result c.as_slice.ensures c.in-len1-up.len_at_least
          c.first-item.is asks));
      holds = IfSome_then c.with_parts.result c.with_parts.ensures.holds
          (λ made h. λ list.
          let holds : Part → Bool = λ part. is_true (value_of c.args.plan.now.types (Some c.args.event.now) list part.expr) in
          holds-all holds c.args.cond.now.parts c.as_slice.result.now c.first-item.result
          (rests_hold c.args.plan.now.types c.args.event.now list c.in-Some.so_far) (rests_hold c.args.plan.now.types c.args.event.now list made)
          c.as_slice.ensures c.in-len1-up.len_at_least c.first-item.is (c.in-Some.ensures.holds list) (h list));
    }
