-- What the code has read, as the rule has it.
use Rattle.std.specs.Prelude.{false, None, option_map}
use Rattle.cep_words.specs.declared.said.Said.{Said as Read}
use Rattle.cep_words.specs.Reading.{Said}

abbrev pub said_of : Read → Said
said_of read = record {
  lag = option_map (λ text. text.now) read.lag;
  rows = option_map (λ text. text.now) read.rows;
  seed = option_map (λ text. text.now) read.seed;
  count = option_map (λ text. text.now) read.count;
  header = read.header;
  mode = option_map (λ text. text.now) read.mode;
  file = option_map (λ text. text.now) read.file;
  waiting = None;
  is_over = false;
}
