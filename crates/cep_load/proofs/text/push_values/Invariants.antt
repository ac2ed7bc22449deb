use Rattle.std.proofs.Common.{◌≡◌, ◌++◌, length, drop}
use Rattle.cep_load.specs.Draw.{behind}
use Rattle.cep_load.specs.Records.{values_by}
use Rattle.cep_load.specs.Lines.{values_text}
use Rattle.cep_load.proofs.text.push_values.Given as goal

abbrev pub invariant-loop-field : goal.invariant-loop-field
invariant-loop-field l = record {
  text : l.initial.text ++ values_text (values_by l.fields l.state) ≡ l.text ++ values_text (values_by (drop l.field-index l.fields) l.left);
  state : behind (length l.fields) l.state ≡ behind (length (drop l.field-index l.fields)) l.left;
}
