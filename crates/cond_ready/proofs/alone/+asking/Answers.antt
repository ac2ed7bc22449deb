use Rattle.cond_ready.proofs.AloneLaws.{asks-Any, asks-All, asks-Add, asks-Mul, asks-Compare, asks-Not, asks-Neg}
use Rattle.cond_ready.proofs.alone.+asking.Goals as goal

pub asks_nothing-returns-in-Any : goal.asks_nothing-returns-in-Any
asks_nothing-returns-in-Any t c =
    λ yes_it_is. asks-Any c.args.expr.now c.in-Any.parts c.as_slice.result.now c.in-Any.is c.as_slice.ensures (c.parts_ask_nothing.ensures yes_it_is)

pub asks_nothing-returns-in-All : goal.asks_nothing-returns-in-All
asks_nothing-returns-in-All t c =
    λ yes_it_is. asks-All c.args.expr.now c.in-All.parts c.as_slice-in-All.result.now c.in-All.is c.as_slice-in-All.ensures
    (c.parts_ask_nothing-in-All.ensures yes_it_is)

pub asks_nothing-returns-then-left : goal.asks_nothing-returns-then-left
asks_nothing-returns-then-left t c = λ yes_it_is.
    asks-Compare c.args.expr.now c.in-Compare.field-0 c.in-Compare.x c.in-Compare.y c.get.result.now c.get-in-Compare.result.now c.in-Compare.is
    c.get.ensures c.get-in-Compare.ensures (c.asks_nothing-left.ensures c.if-left.true) (c.asks_nothing-right.ensures yes_it_is)

pub asks_nothing-returns-in-Add : goal.asks_nothing-returns-in-Add
asks_nothing-returns-in-Add t c =
    λ yes_it_is. asks-Add c.args.expr.now c.in-Add.terms c.as_slice-in-Add.result.now c.in-Add.is c.as_slice-in-Add.ensures
    (c.terms_ask_nothing.ensures yes_it_is)

pub asks_nothing-returns-in-Mul : goal.asks_nothing-returns-in-Mul
asks_nothing-returns-in-Mul t c =
    λ yes_it_is. asks-Mul c.args.expr.now c.in-Mul.factors c.as_slice-in-Mul.result.now c.in-Mul.is c.as_slice-in-Mul.ensures
    (c.factors_ask_nothing.ensures yes_it_is)

pub asks_nothing-returns-in-Not : goal.asks_nothing-returns-in-Not
asks_nothing-returns-in-Not t c =
    λ yes_it_is. asks-Not c.args.expr.now c.in-Not.x c.get-in-Not.result.now c.in-Not.is c.get-in-Not.ensures (c.asks_nothing.ensures yes_it_is)

pub asks_nothing-returns-in-Neg : goal.asks_nothing-returns-in-Neg
asks_nothing-returns-in-Neg t c =
    λ yes_it_is. asks-Neg c.args.expr.now c.in-Neg.x c.get-in-Neg.result.now c.in-Neg.is c.get-in-Neg.ensures
    (c.asks_nothing-in-Neg.ensures yes_it_is)
