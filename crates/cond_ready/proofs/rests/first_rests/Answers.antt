use Rattle.std.specs.List.{Contains}
use Rattle.std.proofs.lemmas.Option.{IfSome_then}
use Rattle.std.proofs.lemmas.List.Elements.{All-nil}
use Rattle.cond_ready.proofs.rests.first_rests.Goals as goal

pub returns-clause-asks : goal.returns-clause-asks
returns-clause-asks c =
    IfSome_then c.with_expr.result c.with_expr.ensures.asks (λ made h. λ qs asks. h qs (c.one_rest.ensures.asks qs (All-nil (Contains qs))) asks)
