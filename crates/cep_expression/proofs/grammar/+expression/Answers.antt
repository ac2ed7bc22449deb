use Rattle.std.proofs.Common.{◌≡◌, ◌-◌, suc, ap, arith}
use Rattle.cep_expression.specs.Reader.{expression}
use Rattle.cep_expression.proofs.grammar.+expression.Goals as goal

pub returns-then-room-eq0 : goal.returns-then-room-eq0
unfolding expression
returns-then-room-eq0 t c _ = let none : c.args.room ≡ 0 = omega arith in ap (λ n. expression n c.args.cursor.now) none

pub returns : goal.returns
unfolding expression
returns t c =
    let one_more : c.args.room ≡ suc (c.args.room - 1) = omega arith in
    let e = ap (λ n. expression n c.args.cursor.now) one_more in
    rw e c.any.ensures
