use Rattle.std.proofs.Common.{◌≡◌, false, true, sym, ◌∙◌, arith, rules}
use Rattle.std.specs.Prelude.{Err}
use Rattle.std.proofs.lemmas.Grind.{common_steps}
use Rattle.cep_reading.specs.declared.stop.Stop.{Stop}
use Rattle.cep_expression.specs.Terminal.{is_factor_sign}
use Rattle.cep_reading.specs.Reading.{Left, next_is}
use Rattle.cep_reading.proofs.ManyLemmas.{many_step, many_ends, many_fails, many_spent}
use Rattle.cep_expression.specs.Reader.{expression, next_factor, factors}
use Rattle.cep_expression.proofs.grammar.Grammar.factors.Goals as goal

pub returns-then-not-sees_factor_sign : goal.returns-then-not-sees_factor_sign
returns-then-not-sees_factor_sign g c =
    let sees : next_is is_factor_sign c.loop-turn.cursor ≡ false = first_of (cc, grind (arith, common_steps)) in
    sym c.loop-turn.invariant
    ∙ many_ends is_factor_sign (next_factor (expression c.args.self.now.room)) c.args.self.now.room c.loop-turn._turn c.loop-turn.found
    c.loop-turn.cursor c.loop-turn-test.true sees

pub returns-in_err-next_factor : goal.returns-in_err-next_factor
returns-in_err-next_factor g c =
    let sees : next_is is_factor_sign c.loop-turn.cursor ≡ true = first_of (cc, grind (arith, common_steps)) in
    let fails : (why : Stop) (rest : Left) → (next_factor (expression c.args.self.now.room)) c.loop-turn.cursor ≡ Err (why, rest) → factors (expression c.args.self.now.room) c.args.self.now.room c.args.cursor.now ≡ Err (why, rest)
    = λ why rest h. sym c.loop-turn.invariant
    ∙ many_fails is_factor_sign (next_factor (expression c.args.self.now.room)) c.args.self.now.room c.loop-turn._turn c.loop-turn.found
    c.loop-turn.cursor why rest c.loop-turn-test.true sees h in
    first_of (search (rules, fails), grind (arith, common_steps, fails))

pub loop-turn-preserved : goal.loop-turn-preserved
loop-turn-preserved g c =
    let sees : next_is is_factor_sign c.loop-turn.cursor ≡ true = first_of (cc, grind (arith, common_steps)) in
    let step = many_step is_factor_sign (next_factor (expression c.args.self.now.room)) c.args.self.now.room c.loop-turn._turn c.loop-turn.found c.loop-turn.cursor c.in_ok-next_factor.field-0 c.next_factor.new.cursor c.loop-turn-test.true sees (search rules) in
    rw c.in_ok-push.ensures.ok (sym step ∙ c.loop-turn.invariant)

pub returns : goal.returns
returns g c = λ some. sym c.loop-turn.invariant
    ∙ many_spent is_factor_sign (next_factor (expression c.args.self.now.room)) c.args.self.now.room c.loop-turn._turn c.loop-turn.found
    c.loop-turn.cursor c.loop-turn-test.false
