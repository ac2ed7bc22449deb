use Rattle.std.proofs.Common.{not, arith}
use Rattle.std.specs.Str.{bytes_eq}
use Rattle.std.proofs.lemmas.List.Sums.{prefix_len-le-length}
use Rattle.pattern_check.proofs.number.of_number.Goals as goal

pub overflow_cast-result : goal.overflow_cast-result
overflow_cast-result c = omega (arith, c.type_number.ensures, prefix_len-le-length (λ d. not (bytes_eq d.name.text c.in-Some.name.text)) c.args.types.now)
