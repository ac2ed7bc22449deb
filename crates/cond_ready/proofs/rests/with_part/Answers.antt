use Rattle.std.proofs.lemmas.Option.{IfSome_then}
use Rattle.cond_ready.proofs.rests.with_part.Goals as goal

pub returns-in-Either-clause-asks : goal.returns-in-Either-clause-asks
returns-in-Either-clause-asks c =
    IfSome_then c.or_rest.result c.or_rest.ensures.asks (λ made h. λ qs rests asks. h qs rests (c.rest_of.ensures.asks qs asks))
