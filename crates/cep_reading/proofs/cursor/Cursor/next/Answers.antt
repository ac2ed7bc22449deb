use Rattle.std.proofs.Common.{arith}
use Rattle.std.specs.Prelude.{slice_index_or}
use Rattle.cep_token.specs.declared.token.Token.{Token}
use Rattle.cep_token.specs.declared.token.TokenKind.TheVariants as kind
use Rattle.cep_reading.proofs.Cuts.{starts_at, ends_at}
use Rattle.cep_reading.proofs.cursor.Cursor.next.Goals as goal

-- what the code reads where there is no token
abbrev none : Token
none = record { kind = kind.Word; start = 0; end = 0 }

pub range-requires-clause-start_boundary : goal.range-requires-clause-start_boundary
range-requires-clause-start_boundary c = λ some.
    starts_at c.self.inside.source.now (slice_index_or c.self.inside.left.now 0 none) (c.self.invariant.within 0 none (omega arith)) c.self.invariant.text

pub range-requires-clause-end_boundary : goal.range-requires-clause-end_boundary
range-requires-clause-end_boundary c =
    ends_at c.self.inside.source.now (slice_index_or c.self.inside.left.now 0 none) (c.self.invariant.within 0 none (omega arith)) c.self.invariant.text
