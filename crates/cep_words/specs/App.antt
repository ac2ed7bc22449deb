-- What clap is told of the words, and what its matches say.
use Rattle.std.specs.Prelude.{true, false, List, codes, Some, None}
use Rattle.std.specs.Option.{option_map_or}
use Rattle.std.specs.Str.{bytes_eq}
use Rattle.clap.specs.Words.{App, Row, Rule, Shape, new_app, new_rule, with_rule}
use Rattle.clap.specs.Walk.{first_of}
use Rattle.clap.specs.Simple.{on_top}
use Rattle.clap.specs.declared.builder.action.ArgAction.TheVariants.{Set, SetTrue}
use Rattle.cep_words.specs.Reading.{Said, Text}

-- an option with a value
abbrev pub valued_arg : Text → Rule
valued_arg id = record (new_rule id) { long = Some id; action = Some Set }

abbrev pub header_arg : Rule
header_arg = record (new_rule (codes "header")) { long = Some (codes "header"); action = Some SetTrue }

abbrev pub position_arg : Text → Rule
position_arg id = record (new_rule id) { required = true }

-- all words are arguments, and there is no help and no version
abbrev pub cep_shape : Shape → Shape
cep_shape s = record s { no_binary_name = true; disable_help_flag = true; disable_version_flag = true }

abbrev pub cep_app : App
cep_app =
    with_rule (with_rule (with_rule (with_rule (with_rule (with_rule (with_rule (on_top cep_shape (new_app (codes "cep")))
    (valued_arg (codes "lag"))) (valued_arg (codes "rows"))) header_arg) (valued_arg (codes "seed"))) (valued_arg (codes "count")))
    (position_arg (codes "mode"))) (position_arg (codes "file"))

-- what the rows of the matches say
abbrev pub said_of_rows : List Row → Said
said_of_rows rows = record {
  lag = first_of (codes "lag") rows;
  rows = first_of (codes "rows") rows;
  seed = first_of (codes "seed") rows;
  count = first_of (codes "count") rows;
  header = option_map_or (λ text. bytes_eq text (codes "true")) (first_of (codes "header") rows) false;
  mode = first_of (codes "mode") rows;
  file = first_of (codes "file") rows;
  waiting = None;
  is_over = false;
}
