use Rattle.std.proofs.Common.{◌≡◌, refl, sym, ◌∙◌, ap, subst, [], ◌∷◌, ◌++◌, ◌+◌, length, length-append, append_assoc, append-nil, arith}
use Rattle.std.specs.Prelude.{IsOk, false}
use Rattle.std.specs.Option.{option_to_list}
use Rattle.std.proofs.lemmas.Result.{err_from_is_err_and}
use Rattle.cep_session.specs.Meaning.{sofar}
use Rattle.sharing_laws.specs.Sizes.{greatest_held}
use Rattle.told_list.specs.Grows.{Grows, GrowsPart}
use Rattle.told_list.proofs.GrowsLaws.{Grows-nil}
use Rattle.cep_cli.specs.Counted.{ShowsMost}
use Rattle.cep_cli.specs.Meaning.{sizes_of_lines}
use Rattle.cep_cli.specs.Records.{record_in}
use Rattle.cep_cli.proofs.LoadLaws.{sizes-next, sizes-stopped, sizes-part}
use Rattle.cep_cli.proofs.load.count_lines.Goals as goal

pub loop-line-init : goal.loop-line-init
loop-line-init g c = ([], refl, refl, λ lag plan h. h, λ lag plan h. (Grows-nil (g.G.Gauge.seen c.args.gauge.now), refl))

pub count_line-requires : goal.count_line-requires
count_line-requires g c =
    let r = c.requires.ready in
    let before = c.loop-line.invariant in
    let line = c.in-Some.line in
    let left = c.next_line.new.self in
    let is = before.1 ∙ ap (λ l. before.0 ++ l) (c.in_ok-line.ensures.next ∙ ap (λ o. option_to_list o ++ left) c.in-Some.is) in
    record {
      ready = (
        r.0,
        r.1,
        before.0,
        before.3 r.0 r.1 r.2,
        r.3,
        ap (λ n. n + 1) before.2,
        subst
            (λ n. IsOk (record_in false r.1.types (n + 1) line)) (sym before.2) (r.4 before.0 left line is),
      );
    }

pub loop-line-preserved : goal.loop-line-preserved
loop-line-preserved g c =
    let before = c.loop-line.invariant in
    let line = c.in-Some.line in
    let left = c.next_line.new.self in (
      before.0 ++ line ∷ [],
      before.1 ∙ ap (λ l. before.0 ++ l) (c.in_ok-line.ensures.next ∙ ap (λ o. option_to_list o ++ left) c.in-Some.is)
          ∙ sym (append_assoc before.0 (line ∷ []) left),
      ap (λ n. n + 1) before.2 ∙ sym (length-append before.0 (line ∷ [])),
      λ lag plan h. c.in_ok-held.ensures.counted lag plan before.0 (before.3 lag plan h) (ap (λ n. n + 1) before.2),
      λ lag plan h.
          let flow = sizes_of_lines false lag plan in
          let so_far = before.4 lag plan h in
          let more = c.in_ok-held.ensures.shown lag plan before.0 (before.3 lag plan h) (ap (λ n. n + 1) before.2) in
          sizes-next flow before.0 line (g.G.Gauge.seen c.args.gauge.now) (g.G.Gauge.seen c.loop-line.gauge)
          (g.G.Gauge.seen c.count_line.new.gauge) c.loop-line.greatest c.in_ok-held.held c.greater-greatest.result
          so_far more c.greater-greatest.ensures,
    )

pub returns-in_err-line-clause-shown : goal.returns-in_err-line-clause-shown
returns-in_err-line-clause-shown g c = λ lag plan h.
    let before = c.loop-line.invariant in
    let flow = sizes_of_lines false lag plan in
    let at = g.G.Gauge.seen c.loop-line.gauge in
    subst (ShowsMost (g.G.Gauge.seen c.args.gauge.now) at (sofar flow c.args.lines.now))
    (sym (err_from_is_err_and c.from_residual.result c.from_residual.ensures.1).1)
    (subst (λ l. GrowsPart (g.G.Gauge.seen c.args.gauge.now) at (sofar flow l)) (sym before.1)
    (sizes-stopped flow before.0 (g.G.Gauge.seen c.args.gauge.now) at c.loop-line.lines (before.4 lag plan h).0))

pub returns-in_err-held-clause-shown : goal.returns-in_err-held-clause-shown
returns-in_err-held-clause-shown g c = λ lag plan h.
    let before = c.loop-line.invariant in
    let line = c.in-Some.line in
    let left = c.next_line.new.self in
    let is = before.1 ∙ ap (λ l. before.0 ++ l) (c.in_ok-line.ensures.next ∙ ap (λ o. option_to_list o ++ left) c.in-Some.is) in
    let flow = sizes_of_lines false lag plan in
    let first = g.G.Gauge.seen c.args.gauge.now in
    let at = g.G.Gauge.seen c.count_line.new.gauge in
    let more = c.in_err-held.ensures.shown lag plan before.0 (before.3 lag plan h) (ap (λ n. n + 1) before.2) in
    subst (ShowsMost first at (sofar flow c.args.lines.now))
    (sym (err_from_is_err_and c.from_residual-in_err-held.result c.from_residual-in_err-held.ensures.1).1)
    (subst (λ l. GrowsPart first at (sofar flow l)) (sym is) (sizes-part flow before.0 line first (g.G.Gauge.seen c.loop-line.gauge) at left
    (before.4 lag plan h).0 more))
