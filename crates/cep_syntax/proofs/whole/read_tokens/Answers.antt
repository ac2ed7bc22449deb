use Rattle.std.proofs.Common.{◌≡◌, ◌+◌, ◌<◌, length, arith, rules, ap, sym, ◌∙◌, []}
use Rattle.std.specs.Prelude.{map, Ok, ◌≢◌}
use Rattle.std.proofs.lemmas.Grind.{common_steps}
use Rattle.std.proofs.lemmas.List.{length-map}
use Rattle.cep_reading.specs.Lexeme.{lexeme_of}
use Rattle.cep_syntax.specs.Reader.{file}
use Rattle.cep_reading.proofs.Gives.{all_formed, few_tokens}
use Rattle.cep_syntax.proofs.WellFormedLaws.{is_well_formed}
use Rattle.cep_syntax.proofs.Answering.{are_file, answers_stop, answers_behind}
use Rattle.cep_syntax.proofs.whole.read_tokens.Goals as goal

pub returns-then-is_empty-clause-read : goal.returns-then-is_empty-clause-read
returns-then-is_empty-clause-read c =
    let ts = map (lexeme_of c.args.source.now) c.args.tokens.now in
    let n = length c.args.tokens.now + 1 in
    let enough : length ts < n = omega (arith, length-map c.args.tokens.now (lexeme_of c.args.source.now)) in
    let none : c.file.new.cursor ≡ [] = first_of (search rules, grind (arith, common_steps)) in
    are_file n ts enough c.in-Ok.file (sym (ap (file n) c.new-cursor.ensures) ∙ c.in-Ok.ensures ∙ ap (λ l. Ok (c.in-Ok.file, l)) none)

pub returns-else-is_empty-clause-read : goal.returns-else-is_empty-clause-read
returns-else-is_empty-clause-read c =
    let ts = map (lexeme_of c.args.source.now) c.args.tokens.now in
    let n = length c.args.tokens.now + 1 in
    let enough : length ts < n = omega (arith, length-map c.args.tokens.now (lexeme_of c.args.source.now)) in
    let some : c.file.new.cursor ≢ [] = first_of (search rules, grind (arith, common_steps)) in
    rw c.fault_of.ensures (answers_behind n ts enough c.in-Ok.file c.file.new.cursor (length c.args.source.now) some
    (sym (ap (file n) c.new-cursor.ensures) ∙ c.in-Ok.ensures))

pub returns-in-Err-clause-read : goal.returns-in-Err-clause-read
returns-in-Err-clause-read c =
    let ts = map (lexeme_of c.args.source.now) c.args.tokens.now in
    let n = length c.args.tokens.now + 1 in
    let enough : length ts < n = omega (arith, length-map c.args.tokens.now (lexeme_of c.args.source.now)) in
    rw c.fault_of-in-Err.ensures
    (answers_stop n ts enough c.in-Err.stop c.file.new.cursor (length c.args.source.now)
    (λ some. sym (ap (file n) c.new-cursor.ensures) ∙ c.in-Err.ensures some))

pub returns-then-is_empty-clause-formed : goal.returns-then-is_empty-clause-formed
returns-then-is_empty-clause-formed c =
    let ts = map (lexeme_of c.args.source.now) c.args.tokens.now in
    let n = length c.args.tokens.now + 1 in
    let same = length-map c.args.tokens.now (lexeme_of c.args.source.now) in
    let enough : length ts < n = omega (arith, same) in
    let none : c.file.new.cursor ≡ [] = first_of (search rules, grind (arith, common_steps)) in
    let file_is = are_file n ts enough c.in-Ok.file (sym (ap (file n) c.new-cursor.ensures) ∙ c.in-Ok.ensures ∙ ap (λ l. Ok (c.in-Ok.file, l)) none) in
    let few = few_tokens c.args.source.now 0 c.args.tokens.now c.requires.order c.requires.within (omega arith) in
    is_well_formed ts c.in-Ok.file file_is.is (all_formed c.args.source.now c.args.tokens.now c.requires.within) (omega (arith, few, same, c.requires.short))
