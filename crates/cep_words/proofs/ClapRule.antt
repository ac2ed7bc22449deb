-- The rule, where a value may be a dash alone: it is refused as a number instead.
use Rattle.std.proofs.Common.{Bool, List, [], ◌∷◌, codes, Option, Some, None, is_some}
use Rattle.std.specs.Prelude.{option_and_then, if◌then◌else◌}
use Rattle.cep_words.specs.Reading.{Valued, Lag, Rows, Seed, Count}
use Rattle.cep_words.specs.Reading.{Text, Said, is_option, with_first, with_position, with_value}
use Rattle.cep_words.proofs.ClapRows.{Use, lookup}

abbrev pub with_next_word : Option Valued → Text → Said → Option Said
with_next_word None word said = with_first word said
with_next_word (Some option) word said = if is_option word then None else with_value option word (record said { waiting = None })

abbrev pub with_any_word : Text → Said → Option Said
with_any_word word said = if said.is_over then with_position word said else with_next_word said.waiting word said

abbrev pub said_with : List Text → Said → Option Said
said_with [] said = Some said
said_with (word ∷ words) said = option_and_then (said_with words) (with_any_word word said)

abbrev pub id_of : Valued → Text
id_of Lag = codes "lag"
id_of Rows = codes "rows"
id_of Seed = codes "seed"
id_of Count = codes "count"

-- what the uses say
abbrev pub said_from : List Use → Option Valued → Bool → Said
said_from us waiting over = record {
  lag = lookup (codes "lag") us;
  rows = lookup (codes "rows") us;
  seed = lookup (codes "seed") us;
  count = lookup (codes "count") us;
  header = is_some (lookup (codes "header") us);
  mode = lookup (codes "mode") us;
  file = lookup (codes "file") us;
  waiting = waiting;
  is_over = over;
}
