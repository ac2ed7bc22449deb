-- What the words say: the options of the program and the name of the pattern file (this project's own).
use Rattle.std.specs.Prelude.{ℕ, ◌^◌, Bool, if◌then◌else◌, List, codes, Option, Some, None, is_some, option_map, option_and_then}
use Rattle.std.specs.Str.{bytes_eq}
use Rattle.cep_words.specs.declared.options.Mode.{Mode}
use Rattle.cep_words.specs.declared.options.Mode.TheVariants.{Run, Check, Explain, Load}
use Rattle.cep_words.specs.declared.options.Options.{Options}
use Rattle.cep_words.specs.Number.{number_within}
use Rattle.cep_words.specs.Reading.{Text, Said, nothing_said, said_by}

abbrev pub mode_named : Text → Option Mode
mode_named word =
    if bytes_eq word (codes "run") then Some Run
    else if bytes_eq word (codes "check") then Some Check
    else if bytes_eq word (codes "explain") then Some Explain
    else if bytes_eq word (codes "load") then Some Load
    else None

-- the number of an option from `least` to `most`, or the default where the option is left out
abbrev pub number_or : ℕ → ℕ → ℕ → Option Text → Option ℕ
number_or least most default None = Some default
number_or least most default (Some text) = number_within least most text

-- the lag from 0 to 2^62, and none where it is left out
abbrev pub lag_of : Option Text → Option (Option ℕ)
lag_of None = Some None
lag_of (Some text) = option_map Some (number_within 0 (2 ^ 62) text)

-- from 1 to 2^32 - 1, which is the default
abbrev pub rows_of : Option Text → Option ℕ
rows_of = number_or 1 4294967295 4294967295

-- any number of 64 bits, and 0 by default
abbrev pub seed_of : Option Text → Option ℕ
seed_of = number_or 0 18446744073709551615 0

-- from 1 to 2^32 - 1, and 1000 by default
abbrev pub count_of : Option Text → Option ℕ
count_of = number_or 1 4294967295 1000

-- the options, where the mode and each number is one that may stand
abbrev pub options_with : Option Mode → Option (Option ℕ) → Option ℕ → Bool → Option ℕ → Option ℕ → Option Options
options_with (Some mode) (Some lag) (Some rows) header (Some seed) (Some count) =
    Some (record { mode = mode; lag = lag; rows = rows; header = header; seed = seed; count = count })
options_with _ _ _ _ _ _ = None

abbrev pub options_in : Said → Option Options
options_in said =
    options_with (option_and_then mode_named said.mode) (lag_of said.lag) (rows_of said.rows) said.header (seed_of said.seed) (count_of said.count)

-- both positions stand, and no option waits for its value
abbrev pub command_in : Said → Option (Options × Text)
command_in said =
    if is_some said.waiting then None
    else option_and_then (λ name. option_map (λ options. (options, name)) (options_in said)) said.file

-- The options and the pattern file that the words name; nothing where the words are refused.
abbrev pub command_of : List Text → Option (Options × Text)
command_of words = option_and_then command_in (said_by words nothing_said)
