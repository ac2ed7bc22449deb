use Rattle.std.proofs.Common.{◌≡◌, ◌++◌, refl, sym, ◌∙◌, ap, subst, arith, [], ◌∷◌, length, map, append_assoc}
use Rattle.std.specs.Prelude.{option_to_list, Ok, Err}
use Rattle.std.proofs.lemmas.Result.{err_from_is_err_and}
use Rattle.cep_engine.specs.State.{IsNotBefore}
use Rattle.cep_plan.specs.Tick.{event_tick}
use Rattle.watermark_order.specs.Order.{OrderState, ready}
use Rattle.cep_engine.proofs.LoopLaws.{map-push}
use Rattle.sharing_laws.specs.Sizes.{sizes_from}
use Rattle.event_pipeline.specs.Shown.{Shows}
use Rattle.event_pipeline.specs.Ticks.{HasTaken}
use Rattle.event_pipeline.proofs.RunningLaws.{takes-next, later-next, reached-next}
use Rattle.event_pipeline.proofs.ShownLaws.{shows-nothing, shows-then, shows-part, shows-more}
use Rattle.event_pipeline.proofs.TickLaws.{taken-nothing, takes-next as one-more, ready-cut, map-split}
use Rattle.event_pipeline.proofs.ticks.take_ready.Goals as goal

pub loop-event-init : goal.loop-event-init
loop-event-init g c = record {
  settles = refl;
  plan = refl;
  takes = c.requires.takes;
  kept = refl;
  last = λ time mark before. before;
  taken = λ ticks stands. (
    [],
    refl,
    taken-nothing (g.O.Outputs.tells c.args.engine.now.plan) c.args.engine.now.plan ticks c.args.engine.now
        (c.args.outputs.now, c.args.to.now) stands,
    shows-nothing (g.G.Gauge.seen c.args.gauge.now),
  );
}

pub loop-event-smaller : goal.loop-event-smaller
loop-event-smaller g c =
    let is = c.next_ready.ensures.waiting ∙ ap (λ r. option_to_list r ++ c.next_ready.new.self.waiting) c.in-Some.is in
    omega (arith, ap length is)

pub take_event-requires-clause-room : goal.take_event-requires-clause-room
take_event-requires-clause-room g c =
    let is = c.next_ready.ensures.waiting ∙ ap (λ r. option_to_list r ++ c.next_ready.new.self.waiting) c.in-Some.is in
    omega (arith, ap length is, c.loop-event.invariant.kept, c.requires.room)

pub take_event-requires-clause-time : goal.take_event-requires-clause-time
take_event-requires-clause-time g c =
    let rest = c.next_ready.new.self.waiting in
    let is = c.next_ready.ensures.waiting ∙ ap (λ r. option_to_list r ++ rest) c.in-Some.is in
    later-next c.in-Some.event c.loop-event.order.waiting rest c.loop-event.engine is c.loop-event.invariant.takes

pub take_event-requires-clause-stands : goal.take_event-requires-clause-stands
take_event-requires-clause-stands g c =
    let i = c.loop-event.invariant.taken c.requires.stands.0 c.requires.stands.1 in
    (c.requires.stands.0 ++ map event_tick i.0, i.2.stands)

pub loop-event-preserved : goal.loop-event-preserved
loop-event-preserved g c =
    let event = c.in-Some.event in
    let next = c.next_ready.new.self in
    let now : ready c.loop-event.order ≡ event ∷ ready next = c.next_ready.ensures.handed ∙ ap (λ r. option_to_list r ++ ready next) c.in-Some.is in
    let is : c.loop-event.order.waiting ≡ event ∷ next.waiting = c.next_ready.ensures.waiting ∙ ap (λ r. option_to_list r ++ next.waiting) c.in-Some.is in
    let first = c.args.engine.now in
    let last = c.loop-event.engine in
    let held = c.loop-event.invariant in
    let fed = c.in_ok-held.ensures in
    record {
      settles = c.next_ready.ensures.rest ∙ held.settles;
      plan = c.take_event.ensures.plan ∙ held.plan;
      takes = takes-next event c.loop-event.order.waiting next.waiting last c.take_event.new.engine is held.takes fed.ready fed.last;
      kept = omega (arith, ap length is, fed.position, held.kept);
      last = λ time mark before.
          subst (λ l. IsNotBefore l time) (sym fed.last)
          (reached-next c.loop-event.order event (ready next) time now (ap (λ (o : OrderState). o.mark) held.settles ∙ mark));
      taken = λ ticks stands.
          let i = held.taken ticks stands in (
            i.0 ++ event ∷ [],
            i.1 ∙ ap (λ r. i.0 ++ r) now ∙ sym (append_assoc i.0 (event ∷ []) (ready next)),
            subst (λ more. HasTaken (g.O.Outputs.tells first.plan) first.plan ticks more c.take_event.new.engine (c.args.outputs.now, c.args.to.now)
                (c.take_event.new.outputs, c.take_event.new.to)) (sym (map-push event_tick i.0 event))
                (one-more g.O.Outputs.tells g.O.Outputs.stops last.plan first.plan held.plan ticks (map event_tick i.0)
                (event_tick event ∷ []) last c.take_event.new.engine (c.args.outputs.now, c.args.to.now) (c.loop-event.outputs, c.loop-event.to)
                (c.take_event.new.outputs, c.take_event.new.to) (Ok c.in_ok-held.held) i.2 (fed.taken (ticks ++ map event_tick i.0) i.2.stands)),
            subst (λ more. Shows (g.G.Gauge.seen c.args.gauge.now) (g.G.Gauge.seen c.take_event.new.gauge) (sizes_from first.plan ticks more)
                (Ok c.greater-greatest.result)) (sym (map-push event_tick i.0 event))
                (shows-then last.plan first.plan held.plan ticks (map event_tick i.0) (event_tick event ∷ []) (g.G.Gauge.seen c.args.gauge.now)
                (g.G.Gauge.seen c.loop-event.gauge) (g.G.Gauge.seen c.take_event.new.gauge)
                c.loop-event.greatest c.in_ok-held.held c.greater-greatest.result c.greater-greatest.ensures i.3
                (fed.shown (ticks ++ map event_tick i.0) i.2.stands)),
          );
    }

pub returns-in_err-held-clause-taken : goal.returns-in_err-held-clause-taken
returns-in_err-held-clause-taken g c = λ ticks stands.
    let event = c.in-Some.event in
    let next = c.next_ready.new.self in
    let now : ready c.loop-event.order ≡ event ∷ ready next = c.next_ready.ensures.handed ∙ ap (λ r. option_to_list r ++ ready next) c.in-Some.is in
    let first = c.args.engine.now in
    let last = c.loop-event.engine in
    let held = c.loop-event.invariant in
    let i = held.taken ticks stands in
    let p = err_from_is_err_and c.from_residual.result c.from_residual.ensures.1 in
    rw (p.1, p.2) (ready-cut g.O.Outputs.tells g.O.Outputs.stops last.plan first.plan held.plan ticks i.0 (ready next)
    (ready c.args.order.now) event last c.take_event.new.engine (c.args.outputs.now, c.args.to.now) (c.loop-event.outputs, c.loop-event.to)
    (c.take_event.new.outputs, c.take_event.new.to) c.in_err-held.field-0.0 (i.1 ∙ ap (λ r. i.0 ++ r) now) i.2
    (c.in_err-held.ensures.taken (ticks ++ map event_tick i.0) i.2.stands))

pub returns-in_err-held-clause-shown : goal.returns-in_err-held-clause-shown
returns-in_err-held-clause-shown g c = λ ticks stands.
    let event = c.in-Some.event in
    let next = c.next_ready.new.self in
    let now : ready c.loop-event.order ≡ event ∷ ready next = c.next_ready.ensures.handed ∙ ap (λ r. option_to_list r ++ ready next) c.in-Some.is in
    let first = c.args.engine.now in
    let last = c.loop-event.engine in
    let held = c.loop-event.invariant in
    let i = held.taken ticks stands in
    let p = err_from_is_err_and c.from_residual.result c.from_residual.ensures.1 in
    let all : map event_tick (ready c.args.order.now) ≡ (map event_tick i.0 ++ event_tick event ∷ []) ++ map event_tick (ready next) =
    ap (map event_tick) (i.1 ∙ ap (λ r. i.0 ++ r) now) ∙ map-split i.0 (ready next) event in
    subst (λ more. Shows (g.G.Gauge.seen c.args.gauge.now) (g.G.Gauge.seen c.take_event.new.gauge) (sizes_from first.plan ticks more) c.from_residual.result)
    (sym all)
    (shows-more first.plan ticks (map event_tick i.0 ++ event_tick event ∷ []) (map event_tick (ready next)) (g.G.Gauge.seen c.args.gauge.now)
    (g.G.Gauge.seen c.take_event.new.gauge) p.0 p.0 c.from_residual.result
    (shows-part last.plan first.plan held.plan ticks (map event_tick i.0) (event_tick event ∷ []) (g.G.Gauge.seen c.args.gauge.now)
    (g.G.Gauge.seen c.loop-event.gauge) (g.G.Gauge.seen c.take_event.new.gauge)
    c.loop-event.greatest c.in_err-held.field-0.0 p.0 (Err p.0) i.3 (c.in_err-held.ensures.shown (ticks ++ map event_tick i.0) i.2.stands) refl) p.1)
