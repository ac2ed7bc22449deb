use Rattle.std.proofs.Common.{◌≡◌, sym, ◌∙◌, subst, arith, not}
use Rattle.std.specs.Prelude.{filter}
use Rattle.live_laws.specs.Starts.{is_from}
use Rattle.time_limit.specs.declared.queue.Place.{Place}
use Rattle.time_limit.specs.Limits.{AreInOrder}
use Rattle.time_limit.proofs.LimitLaws.{AreInOrder-filter}
use Rattle.time_limit.proofs.RangeLaws.{places-order, range-between, range-empty}
use Rattle.time_limit.proofs.queue.drop_places.Goals as goal

pub drop_between-requires-clause-order : goal.drop_between-requires-clause-order
drop_between-requires-clause-order c =
    places-order c.args.places.now.items c.place_of-first.result c.place_of-end.result c.args.from c.args.to (omega (arith, c.if-from-to.true))
    c.place_of-first.ensures.bound c.place_of-first.ensures.before c.place_of-end.ensures.behind

pub returns-then-from-to : goal.returns-then-from-to
returns-then-from-to c =
    let test = λ (s : Place). not (is_from c.args.from c.args.to s.position) in
    let is : c.drop_between.new.places.items ≡ filter test c.args.places.now.items =
    c.drop_between.ensures
    ∙ sym (range-between c.args.from c.args.to (omega (arith, c.if-from-to.true)) c.args.places.now.items c.place_of-first.result
    c.place_of-end.result c.place_of-first.ensures.before c.place_of-first.ensures.behind c.place_of-end.ensures.before
    c.place_of-end.ensures.behind) in
    record {
      left = is;
      order = subst AreInOrder (sym is) (AreInOrder-filter test c.args.places.now.items c.requires);
    }

pub returns-else-from-to-clause-left : goal.returns-else-from-to-clause-left
returns-else-from-to-clause-left c = sym (range-empty c.args.from c.args.to c.if-from-to.false c.args.places.now.items)
