use Rattle.std.proofs.Common.{◌∙◌, ap, inl, inr, length, sym}
use Rattle.std.proofs.lemmas.List.{length-map}
use Rattle.line_fields.specs.Pieces.{unquoted, pieces}
use Rattle.line_fields.proofs.PieceLaws.{length-pieces}
use Rattle.line_fields.proofs.reading.Fields.len.Goals as goal

pub returns-in-Line : goal.returns-in-Line
returns-in-Line c =
    let places = c.self.inside.ends.items in
    rw (← c.self.view_is) (elim c.in-Line.is [
      | inl plain ↦ rw plain.1 (ap length c.as_slice.ensures ∙ sym (length-pieces 0 places plain.0.now))
      | inr quoted ↦ rw quoted.1 (ap length c.as_slice.ensures ∙ sym (length-map (pieces 0 places quoted.0.now) unquoted ∙ length-pieces 0 places quoted.0.now))
    ])
