use Rattle.cep_print.proofs.LiteralLemmas.{escaped_utf8}
use Rattle.cep_print.proofs.literal.put_literal.Goals as goal

pub unwrap-content-requires : goal.unwrap-content-requires
unwrap-content-requires c = c.from_utf8.ensures.succeeds (rw c.in_ok-bytes.ensures (escaped_utf8 c.as_bytes.result.now c.as_bytes.ensures.utf8))
