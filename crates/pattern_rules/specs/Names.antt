-- An index of a list of names. This is this project's own.
use Rattle.std.specs.Prelude.{◌≡◌, ℕ, Bool, false, nat_lt, List, Option, Some, None}
use Rattle.std.specs.BTreeMap.{get_by_text}
use Rattle.std.specs.List.{position}
use Rattle.std.specs.Str.{bytes_eq}
use Rattle.pattern_rules.specs.declared.names.Names.{Names}

-- what the index has of a name
abbrev pub number_in : Names → List ℕ → Option ℕ
number_in index name = get_by_text index.numbers name

-- it has of each name the number of its first place in the list
abbrev pub IsIndexOf : Names → List (List ℕ) → Type 0
IsIndexOf index names = (name : List ℕ) → number_in index name ≡ position (λ other. bytes_eq other name) names

-- a number that is there is below the bound
abbrev pub is_below : Option ℕ → ℕ → Bool
is_below None bound = false
is_below (Some number) bound = nat_lt number bound
