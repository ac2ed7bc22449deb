use Rattle.std.proofs.Common.{◌≡◌, ◌++◌, take}
use Rattle.csv.specs.Writing.{default_writer, fields_text}
use Rattle.cep_select.specs.Output.{stages_from}
use Rattle.cep_select.proofs.named.push_stages.Given as goal

abbrev pub invariant-loop-number : goal.invariant-loop-number
invariant-loop-number l = l.text ≡ l.initial.text ++ fields_text default_writer (stages_from 0 (take l.number l.stages) l.list)
