use Rattle.std.proofs.Common.{◌≡◌, false, true, sym, ◌∙◌, arith, rules}
use Rattle.std.specs.Prelude.{codes, Ok, Err}
use Rattle.std.proofs.lemmas.Grind.{common_steps}
use Rattle.cep_reading.specs.declared.stop.Stop.{Stop}
use Rattle.cep_reading.specs.Terminal.{symbol}
use Rattle.cep_reading.specs.Reading.{Left, next_is, sign}
use Rattle.cep_syntax.specs.Terminal.{is_limit}
use Rattle.cep_syntax.specs.Links.{started}
use Rattle.cep_syntax.specs.Reader.{any_link, ending, chain}
use Rattle.cep_syntax.proofs.ChainLemmas.{chain_ends, chain_no_dot, chain_limit, chain_no_limit, chain_step, chain_no_link, chain_spent}
use Rattle.cep_syntax.proofs.pattern.chain.Goals as goal

pub returns-then-not-sees_symbol : goal.returns-then-not-sees_symbol
returns-then-not-sees_symbol c =
    let sees : next_is (symbol (codes ".")) c.loop-turn.cursor ≡ false = first_of (cc, grind (arith, common_steps)) in
    sym c.loop-turn.invariant ∙ chain_ends c.args.room c.loop-turn._turn c.loop-turn.building c.loop-turn.cursor c.loop-turn.cursor c.loop-turn-test.true sees

pub returns-in_err-expect_symbol : goal.returns-in_err-expect_symbol
returns-in_err-expect_symbol c =
    let sees : next_is (symbol (codes ".")) c.loop-turn.cursor ≡ true = first_of (cc, grind (arith, common_steps)) in
    let fails : (why : Stop) (rest : Left) → sign (codes ".") c.loop-turn.cursor ≡ Err (why, rest) → chain c.args.room (started c.args.name) c.args.cursor.now ≡ Err (why, rest)
    = λ why rest h. sym c.loop-turn.invariant
    ∙ chain_no_dot c.args.room c.loop-turn._turn c.loop-turn.building c.loop-turn.cursor c.loop-turn.cursor c.loop-turn-test.true sees why rest h
    in
    first_of (search (rules, fails), grind (arith, common_steps, fails))

pub returns-in_err-limits : goal.returns-in_err-limits
returns-in_err-limits c =
    let sees : next_is (symbol (codes ".")) c.loop-turn.cursor ≡ true = first_of (cc, grind (arith, common_steps)) in
    let dot : sign (codes ".") c.loop-turn.cursor ≡ Ok (tt, c.expect_symbol.new.self) = first_of (search rules, grind (arith, common_steps)) in
    let within : next_is is_limit c.expect_symbol.new.self ≡ true = first_of (cc, grind (arith, common_steps)) in
    let fails : (why : Stop) (rest : Left) → ending c.expect_symbol.new.self ≡ Err (why, rest)
    → chain c.args.room (started c.args.name) c.args.cursor.now ≡ Err (why, rest)
    = λ why rest h. sym c.loop-turn.invariant
    ∙ chain_no_limit c.args.room c.loop-turn._turn c.loop-turn.building c.loop-turn.cursor c.expect_symbol.new.self c.loop-turn-test.true sees
    dot why rest within h in
    first_of (search (rules, fails), grind (arith, common_steps, fails))

pub returns-then-sees_limit : goal.returns-then-sees_limit
returns-then-sees_limit c =
    let sees : next_is (symbol (codes ".")) c.loop-turn.cursor ≡ true = first_of (cc, grind (arith, common_steps)) in
    let dot : sign (codes ".") c.loop-turn.cursor ≡ Ok (tt, c.expect_symbol.new.self) = first_of (search rules, grind (arith, common_steps)) in
    let within : next_is is_limit c.expect_symbol.new.self ≡ true = first_of (cc, grind (arith, common_steps)) in
    sym c.loop-turn.invariant
    ∙ chain_limit c.args.room c.loop-turn._turn c.loop-turn.building c.loop-turn.cursor c.expect_symbol.new.self c.loop-turn-test.true sees dot
    c.in_ok-limits.limits c.ending.new.cursor within (search rules)

pub returns-in_err-link : goal.returns-in_err-link
returns-in_err-link c =
    let sees : next_is (symbol (codes ".")) c.loop-turn.cursor ≡ true = first_of (cc, grind (arith, common_steps)) in
    let dot : sign (codes ".") c.loop-turn.cursor ≡ Ok (tt, c.expect_symbol.new.self) = first_of (search rules, grind (arith, common_steps)) in
    let within : next_is is_limit c.expect_symbol.new.self ≡ false = first_of (cc, grind (arith, common_steps)) in
    let fails : (why : Stop) (rest : Left) → any_link c.args.room c.loop-turn.building.fresh c.expect_symbol.new.self ≡ Err (why, rest) → chain c.args.room (started c.args.name) c.args.cursor.now ≡ Err (why, rest)
    = λ why rest h. sym c.loop-turn.invariant
    ∙ chain_no_link c.args.room c.loop-turn._turn c.loop-turn.building c.loop-turn.cursor c.expect_symbol.new.self c.loop-turn-test.true sees dot
    why rest within h in
    first_of (search (rules, fails), grind (arith, common_steps, fails))

pub loop-turn-preserved : goal.loop-turn-preserved
loop-turn-preserved c =
    let sees : next_is (symbol (codes ".")) c.loop-turn.cursor ≡ true = first_of (cc, grind (arith, common_steps)) in
    let dot : sign (codes ".") c.loop-turn.cursor ≡ Ok (tt, c.expect_symbol.new.self) = first_of (search rules, grind (arith, common_steps)) in
    let within : next_is is_limit c.expect_symbol.new.self ≡ false = first_of (cc, grind (arith, common_steps)) in
    let step = chain_step c.args.room c.loop-turn._turn c.loop-turn.building c.loop-turn.cursor c.expect_symbol.new.self c.loop-turn-test.true sees dot c.in_ok-link.link c.any_link.new.cursor within (search rules) in
    rw c.in_ok-building.ensures (sym step ∙ c.loop-turn.invariant)

pub returns : goal.returns
returns c = λ some. sym c.loop-turn.invariant
    ∙ chain_spent c.args.room c.loop-turn._turn c.loop-turn.building c.loop-turn.cursor c.loop-turn.cursor c.loop-turn-test.false
