use Rattle.cep_token.proofs.ContentLemmas.{unescaped_utf8}
use Rattle.cep_token.proofs.content.content_of.Goals as goal

pub unwrap-text-requires : goal.unwrap-text-requires
unwrap-text-requires c = c.from_utf8.ensures.succeeds (rw c.in_ok-bytes.ensures (unescaped_utf8 c.as_bytes.result.now c.as_bytes.ensures.utf8))
