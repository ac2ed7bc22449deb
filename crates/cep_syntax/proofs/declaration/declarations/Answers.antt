use Rattle.std.proofs.Common.{◌≡◌, false, true, sym, ◌∙◌, arith, rules}
use Rattle.std.specs.Prelude.{codes, Err}
use Rattle.std.proofs.lemmas.Grind.{common_steps}
use Rattle.cep_reading.specs.declared.stop.Stop.{Stop}
use Rattle.cep_reading.specs.Terminal.{word}
use Rattle.cep_reading.specs.Reading.{Left, next_is}
use Rattle.cep_reading.proofs.ManyLemmas.{many_step, many_ends, many_fails, many_spent}
use Rattle.cep_syntax.specs.Reader.{declarations, declaration}
use Rattle.cep_syntax.proofs.declaration.declarations.Goals as goal

pub returns-then-not-sees_word : goal.returns-then-not-sees_word
returns-then-not-sees_word c =
    let sees : next_is (word (codes "event")) c.loop-turn.cursor ≡ false = first_of (cc, grind (arith, common_steps)) in
    sym c.loop-turn.invariant ∙ many_ends (word (codes "event")) (declaration c.args.room) c.args.room c.loop-turn._turn c.loop-turn.found c.loop-turn.cursor c.loop-turn-test.true sees

pub returns-in_err-declaration : goal.returns-in_err-declaration
returns-in_err-declaration c =
    let sees : next_is (word (codes "event")) c.loop-turn.cursor ≡ true = first_of (cc, grind (arith, common_steps)) in
    let fails : (why : Stop) (rest : Left) → (declaration c.args.room) c.loop-turn.cursor ≡ Err (why, rest) → declarations c.args.room c.args.cursor.now ≡ Err (why, rest)
    = λ why rest h. sym c.loop-turn.invariant ∙ many_fails (word (codes "event")) (declaration c.args.room) c.args.room c.loop-turn._turn c.loop-turn.found c.loop-turn.cursor why rest c.loop-turn-test.true sees h in
    first_of (search (rules, fails), grind (arith, common_steps, fails))

pub loop-turn-preserved : goal.loop-turn-preserved
loop-turn-preserved c =
    let sees : next_is (word (codes "event")) c.loop-turn.cursor ≡ true = first_of (cc, grind (arith, common_steps)) in
    let step = many_step (word (codes "event")) (declaration c.args.room) c.args.room c.loop-turn._turn c.loop-turn.found c.loop-turn.cursor c.in_ok-declaration.field-0 c.declaration.new.cursor c.loop-turn-test.true sees (search rules) in
    rw c.in_ok-push.ensures.ok (sym step ∙ c.loop-turn.invariant)

pub returns : goal.returns
returns c = λ some. sym c.loop-turn.invariant ∙ many_spent (word (codes "event")) (declaration c.args.room) c.args.room c.loop-turn._turn c.loop-turn.found c.loop-turn.cursor c.loop-turn-test.false
