use Rattle.std.proofs.Common.{refl}
use Rattle.cep_rows.proofs.Cuts.{raw_lines-line, raw_lines-rest, whole_lines-split, after_whole_lines-split}
use Rattle.cep_rows.proofs.laws.lines_from_the_front.Goals as goal

pub returns : goal.returns
returns c = record { none = refl; line = raw_lines-line; rest = raw_lines-rest; whole = whole_lines-split; after = after_whole_lines-split }
