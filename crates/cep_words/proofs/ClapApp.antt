-- The command that clap is given, as it is built.
use Rattle.std.proofs.Common.{◌≡◌, ℕ, true, List, [], ◌∷◌, codes, Some, None, refl}
use Rattle.clap.specs.Walk.{Text, Rule}
use Rattle.clap.specs.Simple.{Shape, built, filled}
use Rattle.clap.specs.Faults.{is_simple_and_free}
use Rattle.clap.specs.Walk.{arg_by_id, arg_by_index, arg_by_long}
use Rattle.cep_words.specs.App.{cep_app, header_arg, position_arg, valued_arg}

abbrev pub top : Shape
top = (built cep_app).top

abbrev pub rules : List Rule
rules = top.rules

-- the arguments as they are built
abbrev pub valued : Text → Rule
valued id = filled (valued_arg id)

abbrev pub header : Rule
header = filled header_arg

abbrev pub position : ℕ → Text → Rule
position i id = record (filled (position_arg id)) { index = Some i }

rules_are : rules ≡ valued (codes "lag") ∷ valued (codes "rows") ∷ header ∷ valued (codes "seed") ∷ valued (codes "count") ∷ position 1 (codes "mode") ∷ position 2 (codes "file") ∷ []
rules_are = refl

pub is_simple : is_simple_and_free cep_app ≡ true
is_simple = refl

lag_by_id : arg_by_id rules (codes "lag") ≡ Some (valued (codes "lag"))
lag_by_id = refl

lag_by_long : arg_by_long rules (codes "count") ≡ Some (valued (codes "count"))
lag_by_long = refl

mode_by_index : arg_by_index rules 1 ≡ Some (position 1 (codes "mode"))
mode_by_index = refl

none_by_index : arg_by_index rules 3 ≡ None
none_by_index = refl
