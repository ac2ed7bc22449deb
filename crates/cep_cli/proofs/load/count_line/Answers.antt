use Rattle.std.proofs.Common.{◌≡◌, sym, ◌∙◌, ap, subst, ◌+◌, ◌++◌, ◌∷◌, [], length, arith}
use Rattle.std.specs.Prelude.{Ok, IsOk, false}
use Rattle.std.proofs.lemmas.Result.{err_from_is_err_and}
use Rattle.cep_records.specs.Numbered.{AreNumbered}
use Rattle.event_pipeline.specs.Told.{told_of}
use Rattle.sharing_laws.specs.Sizes.{greatest_held}
use Rattle.told_list.specs.Grows.{Grows, GrowsPart}
use Rattle.cep_cli.specs.Records.{record_in, records_of}
use Rattle.cep_cli.proofs.RowLaws.{comes_behind}
use Rattle.cep_cli.proofs.BegunLaws.{numbered, records-length}
use Rattle.cep_cli.proofs.LoadLaws.{counted-line, told-counted, line-sizes, none-shown}
use Rattle.cep_cli.proofs.load.count_line.Goals as goal

pub read_next-requires-clause-numbered : goal.read_next-requires-clause-numbered
read_next-requires-clause-numbered g c =
    let r = c.requires.ready in subst (λ p. AreNumbered p.types) (sym (c.plan.ensures r.0 r.1 _ r.3.passed)) (numbered r.1 r.4)

pub read_next-requires-clause-accepted : goal.read_next-requires-clause-accepted
read_next-requires-clause-accepted g c =
    let r = c.requires.ready in subst (λ p. IsOk (record_in false p.types c.args.row c.args.line.now)) (sym (c.plan.ensures r.0 r.1 _ r.3.passed)) r.6

pub take-requires : goal.take-requires
take-requires g c =
    let r = c.requires.ready in
    let plan = c.plan.ensures r.0 r.1 _ r.3.passed in
    let read : record_in false r.1.types (length r.2 + 1) c.args.line.now ≡ Ok c.in_ok-next.next =
    (λ i. record_in false (sym plan i).types (sym r.5 i) c.args.line.now) ∙ c.in_ok-next.ensures in (
      r.0,
      r.1,
      records_of false r.1.types r.2,
      r.3.passed,
      comes_behind false r.1.types r.2 c.args.line.now c.in_ok-next.next read,
      omega
          (arith, records-length false r.1.types r.2, r.5, c.ranges.row),
    )

pub returns-in-Ok-clause-counted : goal.returns-in-Ok-clause-counted
returns-in-Ok-clause-counted g c = λ lag plan lines h is.
    let same = c.plan.ensures lag plan _ h.passed in
    let read : record_in false plan.types (length lines + 1) c.args.line.now ≡ Ok c.in_ok-next.next =
    (λ i. record_in false (sym same i).types (sym is i) c.args.line.now) ∙ c.in_ok-next.ensures in
    let handled = c.in-Ok.ensures.handled lag plan (records_of false plan.types lines) h.passed in
    counted-line lag plan c.args.pipeline.now c.take.new.self c.args.counts.now c.take.new.to lines c.args.line.now c.in_ok-next.next h read handled.0
    (told-counted _ _ (told_of lag plan (records_of false plan.types lines) c.in_ok-next.next) handled.1)

pub returns-in-Ok-clause-shown : goal.returns-in-Ok-clause-shown
returns-in-Ok-clause-shown g c = λ lag plan lines h is.
    let same = c.plan.ensures lag plan _ h.passed in
    let read : record_in false plan.types (length lines + 1) c.args.line.now ≡ Ok c.in_ok-next.next =
    (λ i. record_in false (sym same i).types (sym is i) c.args.line.now) ∙ c.in_ok-next.ensures in
    line-sizes lag plan lines c.args.line.now c.in_ok-next.next read (λ l. Grows (g.G.Gauge.seen c.args.gauge.now) (g.G.Gauge.seen c.take.new.gauge) l
    × (c.in-Ok.held ≡ greatest_held l))
    (c.in-Ok.ensures.shown lag plan (records_of false plan.types lines) h.passed)

pub returns-in-Err-clause-shown : goal.returns-in-Err-clause-shown
returns-in-Err-clause-shown g c = λ lag plan lines h is.
    let same = c.plan.ensures lag plan _ h.passed in
    let read : record_in false plan.types (length lines + 1) c.args.line.now ≡ Ok c.in_ok-next.next =
    (λ i. record_in false (sym same i).types (sym is i) c.args.line.now) ∙ c.in_ok-next.ensures in
    line-sizes lag plan lines c.args.line.now c.in_ok-next.next read (λ l. GrowsPart (g.G.Gauge.seen c.args.gauge.now) (g.G.Gauge.seen c.take.new.gauge) l)
    (c.in-Err.ensures.shown lag plan (records_of false plan.types lines) h.passed)

pub returns-in_err-next-clause-shown : goal.returns-in_err-next-clause-shown
returns-in_err-next-clause-shown g c = λ lag plan lines h is.
    none-shown _ _ c.from_residual.result (err_from_is_err_and c.from_residual.result c.from_residual.ensures.1).1
