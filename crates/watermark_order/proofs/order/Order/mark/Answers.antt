use Rattle.std.proofs.Common.{◌∙◌, sym, ap, subst, [], ◌∷◌, ◌++◌, to_z-of_z}
use Rattle.cep_event.specs.declared.record.Moment.TheVariants.{At}
use Rattle.cep_plan.specs.EventTime.{marked, released}
use Rattle.watermark_order.specs.Reached.{is_above}
use Rattle.watermark_order.specs.Order.{HandsOut, order_of, with_mark}
use Rattle.watermark_order.proofs.OrderLaws.{rises_of, stays_of, HandsOut-low, HandsOut-high}
use Rattle.watermark_order.proofs.order.Order.mark.Goals as goal

pub returns-then-not-is_above-clause-rises : goal.returns-then-not-is_above-clause-rises
returns-then-not-is_above-clause-rises c = λ lag arrivals is.
    sym
    (rises_of lag arrivals c.args.time _ is ∙ ap (λ o. is_above o.mark c.args.time) (sym c.self.view_is)
    ∙ ap (is_above c.self.inside.mark) (sym (to_z-of_z c.ranges.time)) ∙ sym c.is_above.ensures ∙ c.if-not-is_above.true)

pub returns-then-not-is_above-clause-hands : goal.returns-then-not-is_above-clause-hands
returns-then-not-is_above-clause-hands c = λ lag arrivals is.
    HandsOut-low lag arrivals c.args.time _ is
    (ap (λ o. is_above o.mark c.args.time) (sym c.self.view_is) ∙ ap (is_above c.self.inside.mark) (sym (to_z-of_z c.ranges.time))
    ∙ sym c.is_above.ensures ∙ c.if-not-is_above.true)

pub returns-clause-rises : goal.returns-clause-rises
returns-clause-rises c = λ lag arrivals is.
    sym
    (rises_of lag arrivals c.args.time _ is ∙ ap (λ o. is_above o.mark c.args.time) (sym c.self.view_is)
    ∙ ap (is_above c.self.inside.mark) (sym (to_z-of_z c.ranges.time)) ∙ sym c.is_above.ensures ∙ c.if-not-is_above.false)

pub returns-clause-hands : goal.returns-clause-hands
returns-clause-hands c = λ lag arrivals is.
    subst (λ o. HandsOut o (released arrivals (At c.args.time)) (order_of lag (arrivals ++ marked c.args.time ∷ [])))
    (λ i. with_mark (sym c.self.view_is i) (At (sym (to_z-of_z c.ranges.time) i)))
    (HandsOut-high lag arrivals c.args.time _ is
    (ap (λ o. is_above o.mark c.args.time) (sym c.self.view_is) ∙ ap (is_above c.self.inside.mark) (sym (to_z-of_z c.ranges.time))
    ∙ sym c.is_above.ensures ∙ c.if-not-is_above.false))

pub returns-then-not-is_above-clause-stays : goal.returns-then-not-is_above-clause-stays
returns-then-not-is_above-clause-stays c = λ lag arrivals is.
    stays_of lag arrivals c.args.time _ is
    (ap (λ o. is_above o.mark c.args.time) (sym c.self.view_is) ∙ ap (is_above c.self.inside.mark) (sym (to_z-of_z c.ranges.time))
    ∙ sym c.is_above.ensures ∙ c.if-not-is_above.true)
