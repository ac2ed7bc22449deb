-- How the words are read, from the left (this project's own).
use Rattle.std.specs.Prelude.{ℕ, Bool, true, false, not, ◌==◌, if◌then◌else◌, List, [], ◌∷◌, codes, Option, Some, None, is_some, option_and_then}
use Rattle.std.specs.List.{list_any, before_first, after_first}
use Rattle.std.specs.Str.{bytes_eq}

-- a word, as its bytes
abbrev pub Text : Type 0
Text = List ℕ

-- an option that has a value
pub data Valued : Type 0 where
  Lag : Valued
  Rows : Valued
  Seed : Valued
  Count : Valued

-- What the words say so far: the text of each option's value, and the positions.
pub record Said : Type 0 where
  pub lag : Option Text
  pub rows : Option Text
  pub seed : Option Text
  pub count : Option Text
  pub header : Bool
  pub mode : Option Text
  pub file : Option Text
  -- the option whose value is the next word
  pub waiting : Option Valued
  -- `--` has stood, so that every word is a position
  pub is_over : Bool

abbrev pub nothing_said : Said
nothing_said = record {
  lag = None;
  rows = None;
  seed = None;
  count = None;
  header = false;
  mode = None;
  file = None;
  waiting = None;
  is_over = false;
}

-- ---- the form of a word

abbrev pub begins_with_dash : Text → Bool
begins_with_dash [] = false
begins_with_dash (byte ∷ bytes) = byte == 45

-- the word begins with `-` and isn't `-` alone
abbrev pub is_option : Text → Bool
is_option [] = false
is_option (byte ∷ []) = false
is_option (byte ∷ other ∷ bytes) = byte == 45

-- what follows a first `-`
abbrev pub without_dash : Text → Option Text
without_dash [] = None
without_dash (byte ∷ bytes) = if byte == 45 then Some bytes else None

-- what follows `--` at the front of a word
abbrev pub without_dashes : Text → Option Text
without_dashes word = option_and_then without_dash (without_dash word)

abbrev pub is_equals : ℕ → Bool
is_equals byte = byte == 61

-- what stands before the first `=`, or the whole text
abbrev pub name_in : Text → Text
name_in = before_first is_equals

-- what stands after the first `=`, if there is one
abbrev pub value_in : Text → Option Text
value_in text = if list_any is_equals text then Some (after_first is_equals text) else None

-- the option with a value that has this name, in full
abbrev pub option_named : Text → Option Valued
option_named name =
    if bytes_eq name (codes "lag") then Some Lag
    else if bytes_eq name (codes "rows") then Some Rows
    else if bytes_eq name (codes "seed") then Some Seed
    else if bytes_eq name (codes "count") then Some Count
    else None

-- ---- one more word; nothing where it is refused

-- the option has this value, and had none before
abbrev pub with_value : Valued → Text → Said → Option Said
with_value Lag text said = if is_some said.lag then None else Some (record said { lag = Some text })
with_value Rows text said = if is_some said.rows then None else Some (record said { rows = Some text })
with_value Seed text said = if is_some said.seed then None else Some (record said { seed = Some text })
with_value Count text said = if is_some said.count then None else Some (record said { count = Some text })

-- the header, which takes no value
abbrev pub with_header : Option Text → Said → Option Said
with_header None said = if said.header then None else Some (record said { header = true })
with_header (Some text) said = None

-- the first position is the mode, the second the pattern file, and there is no third
abbrev pub with_position : Text → Said → Option Said
with_position word said =
    if not (is_some said.mode) then Some (record said { mode = Some word })
    else if not (is_some said.file) then Some (record said { file = Some word })
    else None

-- an option with a value, which stands in the same word or is the next one
abbrev pub with_valued : Option Valued → Option Text → Said → Option Said
with_valued None text said = None
with_valued (Some option) None said = Some (record said { waiting = Some option })
with_valued (Some option) (Some text) said = with_value option text said

-- an option by its name, with the text after `=` if there is one
abbrev pub with_named : Text → Option Text → Said → Option Said
with_named name text said =
    if bytes_eq name (codes "header") then with_header text said else with_valued (option_named name) text said

-- an option by what follows its two dashes; a short option has no two
abbrev pub with_option : Option Text → Said → Option Said
with_option None said = None
with_option (Some text) said = with_named (name_in text) (value_in text) said

-- a word where no option waits for its value
abbrev pub with_first : Text → Said → Option Said
with_first word said =
    if bytes_eq word (codes "--") then Some (record said { is_over = true })
    else if is_option word then with_option (without_dashes word) said
    else with_position word said

-- a word before `--`, which is the value of the option that waits for one
abbrev pub with_next : Option Valued → Text → Said → Option Said
with_next None word said = with_first word said
with_next (Some option) word said =
    if begins_with_dash word then None else with_value option word (record said { waiting = None })

abbrev pub with_word : Text → Said → Option Said
with_word word said = if said.is_over then with_position word said else with_next said.waiting word said

-- ---- all words, after what was said before them
abbrev pub said_by : List Text → Said → Option Said
said_by [] said = Some said
said_by (word ∷ words) said = option_and_then (said_by words) (with_word word said)
