use Rattle.cep_token.proofs.ContentLemmas.{after_open}
use Rattle.cep_token.proofs.content.inside.Goals as goal

pub range-requires-clause-start_boundary : goal.range-requires-clause-start_boundary
range-requires-clause-start_boundary c = λ some. after_open c.args.literal.now c.utf8.literal c.requires
