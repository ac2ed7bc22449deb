use Rattle.std.proofs.Common.{◌≡◌, ◌++◌, take}
use Rattle.csv.specs.Writing.{default_writer, fields_text}
use Rattle.cep_select.specs.Output.{selected}
use Rattle.cep_select.proofs.selected.push_selected.Given as goal

abbrev pub invariant-loop-expr : goal.invariant-loop-expr
invariant-loop-expr l = l.text ≡ l.initial.text ++ fields_text default_writer (selected l.plan.types l.list (take l.expr-index l.exprs))
