use Rattle.std.proofs.Common.{◌++◌, ◌∷◌, []}
use Rattle.line_fields.specs.Pieces.{Within}
use Rattle.line_fields.proofs.QuotedLaws.{Reads}
use Rattle.line_fields.proofs.quoted.split_quoted.Given as goal

abbrev pub invariant-loop-place : goal.invariant-loop-place
invariant-loop-place l = record {
  reads : Reads l.line l.ends.items l.place l.state;
  within : Within 0 (l.ends.items ++ l.place ∷ []) l.place;
}
