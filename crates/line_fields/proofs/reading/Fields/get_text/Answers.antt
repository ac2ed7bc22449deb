use Rattle.line_fields.proofs.TextLaws.{field-text}
use Rattle.line_fields.proofs.reading.Fields.get_text.Goals as goal

pub from_utf8_unchecked-requires : goal.from_utf8_unchecked-requires
from_utf8_unchecked-requires c = field-text c.args.self.now c.args.place _ c.requires c.in_ok-field.ensures
