use Rattle.std.proofs.Common.{◌≡◌, sym, ◌∙◌, ap, ◌++◌, take, drop, arith}
use Rattle.std.proofs.lemmas.List.{take-append-drop}
use Rattle.time_limit.proofs.queue.drop_between.Goals as goal

pub returns-else-first-end : goal.returns-else-first-end
returns-else-first-end c =
    let same : c.args.first ≡ c.args.end = omega (arith, c.requires.order, c.if-first-end.false) in
    sym (take-append-drop c.args.first c.args.places.now.items) ∙ ap (λ n. take c.args.first c.args.places.now.items ++ drop n c.args.places.now.items) same
