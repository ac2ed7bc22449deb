use Rattle.std.proofs.Common.{refl, sym, subst, false}
use Rattle.std.proofs.lemmas.Result.{err_from_is_err_and}
use Rattle.told_list.proofs.GrowsLaws.{GrowsPart-nil, GrowsPart-more, GrowsPart-later}
use Rattle.cep_session.specs.Meaning.{sofar, whole}
use Rattle.cep_cli.specs.Meaning.{sizes_of_lines}
use Rattle.cep_cli.proofs.LoadLaws.{counted-nothing, sizes-end}
use Rattle.cep_cli.proofs.WrittenLaws.{shown-part}
use Rattle.cep_cli.proofs.load.count_run.Goals as goal

pub count_lines-requires-clause-ready : goal.count_lines-requires-clause-ready
count_lines-requires-clause-ready g c =
    (c.args.lag, c.args.plan, counted-nothing c.args.lag c.args.plan _ _ refl c.in_ok-pipeline.ensures, c.requires.usable, c.requires.accepted)

pub count_end-requires : goal.count_end-requires
count_end-requires g c =
    let nothing = counted-nothing c.args.lag c.args.plan _ _ refl c.in_ok-pipeline.ensures in
    (c.args.lag, c.args.plan, c.args.lines.now, c.in_ok-before.ensures.counted c.args.lag c.args.plan nothing, c.requires.few)

pub returns-clause-counts : goal.returns-clause-counts
returns-clause-counts g c =
    let nothing = counted-nothing c.args.lag c.args.plan _ _ refl c.in_ok-pipeline.ensures in
    c.in_ok-at_end.ensures.counted c.args.lag c.args.plan c.args.lines.now (c.in_ok-before.ensures.counted c.args.lag c.args.plan nothing)

pub returns-clause-greatest : goal.returns-clause-greatest
returns-clause-greatest g c =
    let nothing = counted-nothing c.args.lag c.args.plan _ _ refl c.in_ok-pipeline.ensures in
    let flow = sizes_of_lines false c.args.lag c.args.plan in
    let first = c.in_ok-before.ensures.shown c.args.lag c.args.plan nothing in
    let last = c.in_ok-at_end.ensures.shown c.args.lag c.args.plan c.args.lines.now (c.in_ok-before.ensures.counted c.args.lag c.args.plan nothing) in
    (sizes-end flow c.args.lines.now (g.G.Gauge.seen c.args.gauge.now) (g.G.Gauge.seen c.count_lines.new.gauge)
    (g.G.Gauge.seen c.count_end.new.gauge) _ _ c.greater.result first last c.greater.ensures).1

pub returns-clause-shown : goal.returns-clause-shown
returns-clause-shown g c =
    let nothing = counted-nothing c.args.lag c.args.plan _ _ refl c.in_ok-pipeline.ensures in
    let flow = sizes_of_lines false c.args.lag c.args.plan in
    let first = c.in_ok-before.ensures.shown c.args.lag c.args.plan nothing in
    let last = c.in_ok-at_end.ensures.shown c.args.lag c.args.plan c.args.lines.now (c.in_ok-before.ensures.counted c.args.lag c.args.plan nothing) in
    (sizes-end flow c.args.lines.now (g.G.Gauge.seen c.args.gauge.now) (g.G.Gauge.seen c.count_lines.new.gauge)
    (g.G.Gauge.seen c.count_end.new.gauge) _ _ c.greater.result first last c.greater.ensures).0

pub returns-in_err-pipeline-clause-shown : goal.returns-in_err-pipeline-clause-shown
returns-in_err-pipeline-clause-shown g c =
    shown-part _ _ (whole (sizes_of_lines false c.args.lag c.args.plan) c.args.lines.now) c.from_residual.result
    (err_from_is_err_and c.from_residual.result c.from_residual.ensures.1).1 (GrowsPart-nil _ _)

pub returns-in_err-before-clause-shown : goal.returns-in_err-before-clause-shown
returns-in_err-before-clause-shown g c =
    let nothing = counted-nothing c.args.lag c.args.plan _ _ refl c.in_ok-pipeline.ensures in
    let flow = sizes_of_lines false c.args.lag c.args.plan in
    shown-part _ _ (whole flow c.args.lines.now) c.from_residual-in_err-before.result
    (err_from_is_err_and c.from_residual-in_err-before.result c.from_residual-in_err-before.ensures.1).1
    (GrowsPart-more _ _ (sofar flow c.args.lines.now) (flow.owed c.args.lines.now) (c.in_err-before.ensures.shown c.args.lag c.args.plan nothing))

pub returns-in_err-at_end-clause-shown : goal.returns-in_err-at_end-clause-shown
returns-in_err-at_end-clause-shown g c =
    let nothing = counted-nothing c.args.lag c.args.plan _ _ refl c.in_ok-pipeline.ensures in
    let flow = sizes_of_lines false c.args.lag c.args.plan in
    let first = c.in_ok-before.ensures.shown c.args.lag c.args.plan nothing in
    let last = c.in_err-at_end.ensures.shown c.args.lag c.args.plan c.args.lines.now (c.in_ok-before.ensures.counted c.args.lag c.args.plan nothing) in
    shown-part _ _ (whole flow c.args.lines.now) c.from_residual-in_err-at_end.result
    (err_from_is_err_and c.from_residual-in_err-at_end.result c.from_residual-in_err-at_end.ensures.1).1
    (GrowsPart-later _ _ _ (sofar flow c.args.lines.now) (flow.owed c.args.lines.now) first.0 last)
