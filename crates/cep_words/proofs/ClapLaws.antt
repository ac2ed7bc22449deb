-- clap accepts the words that the rule accepts, with the same values.
use Rattle.std.proofs.Common.{◌≡◌, ◌∙◌, Bool, true, false, cond, List, [], ◌∷◌, map, codes, Option, Some, None, is_some, option_map, Bor, refl, sym, ap, string_bytes, true≢false}
use Rattle.std.specs.Prelude.{String, ◌≢◌, option_and_then, slice_get}
use Rattle.std.specs.Option.{option_map_or}
use Rattle.std.specs.Str.{bytes_eq}
use Rattle.std.proofs.lemmas.Str.{IsUtf8-string_bytes}
use Rattle.clap.specs.Faults.{fault_of}
use Rattle.clap.specs.Simple.{matches_of}
use Rattle.clap.specs.Walk.{Row, Text, first_of}
use Rattle.cep_words.specs.App.{cep_app, said_of_rows}
use Rattle.cep_words.specs.declared.options.Options.{Options}
use Rattle.cep_words.specs.declared.said.Said.{Said as Texts}
use Rattle.cep_words.specs.Read.{said_of}
use Rattle.cep_words.specs.Reading.{Said, nothing_said}
use Rattle.cep_words.specs.Words.{command_in, command_of}
use Rattle.cep_words.proofs.ClapDash.{same_command}
use Rattle.cep_words.proofs.ClapLost.{AreTexts}
use Rattle.cep_words.proofs.ClapRows.{first_seen, lookup, marked}
use Rattle.cep_words.proofs.ClapRule.{said_with}
use Rattle.cep_words.proofs.ClapRun.{Found, accepts, fault_is, judged, refuses}
use Rattle.cep_words.proofs.ClapSteps.{fails}

are_texts : {Z : Type 0} (words : List (String Z)) → AreTexts (map string_bytes words)
are_texts [] = tt
are_texts (word ∷ words) = (IsUtf8-string_bytes word, are_texts words)

first_value : (o : Option Text) → option_and_then (λ (p : List Text × Option _). slice_get p.0 0) (option_map marked o) ≡ o
first_value None = refl
first_value (Some v) = refl

first_is : (rows : List Row) (o : Option Said) (found : Found rows o) (id : Text) → bytes_eq (codes "header") id ≡ false → first_of id rows ≡ lookup id found.us
first_is rows o found id other = first_seen id rows ∙ ap (option_and_then (λ p. slice_get p.0 0)) (found.values id other) ∙ first_value (lookup id found.us)

header_is : (b : Bool) → bytes_eq (cond b (codes "true") (codes "false")) (codes "true") ≡ b
header_is true = refl
header_is false = refl

found_command : (rows : List Row) (o : Option Said) → Found rows o → option_and_then command_in o ≡ command_in (said_of_rows rows)
found_command rows o found =
    let lag = first_is rows o found (codes "lag") refl in
    let most = first_is rows o found (codes "rows") refl in
    let seed = first_is rows o found (codes "seed") refl in
    let count = first_is rows o found (codes "count") refl in
    let mode = first_is rows o found (codes "mode") refl in
    let file = first_is rows o found (codes "file") refl in
    let header : option_map_or (λ t. bytes_eq t (codes "true")) (first_of (codes "header") rows) false ≡ is_some (lookup (codes "header") found.us) =
    ap (λ t. option_map_or (λ t. bytes_eq t (codes "true")) t false) found.header ∙ header_is (is_some (lookup (codes "header") found.us)) in
    ap (option_and_then command_in) found.said
    ∙ (λ i. command_in (record {
      lag = sym lag i;
      rows = sym most i;
      seed = sym seed i;
      count = sym count i;
      header = sym header i;
      mode = sym mode i;
      file = sym file i;
      waiting = None;
      is_over = found.over;
    }))

-- where clap finds no fault, its matches say what the rule says
pub accepted : {Z : Type 0} (words : List (String Z)) → fault_of cep_app (map string_bytes words) ≡ []
    → command_of (map string_bytes words) ≡ command_in (said_of_rows (matches_of cep_app (map string_bytes words)))
accepted words none =
    let texts = map string_bytes words in
    elim (judged texts (are_texts words)) [
      | refuses fault nothing ↦
          let bad : false ≡ true = sym (ap fails none) ∙ ap fails (fault_is texts) ∙ fault in
          absurd (true≢false (sym bad))
      | accepts fine found ↦ same_command texts nothing_said ∙ found_command (matches_of cep_app texts) (said_with texts nothing_said) found
    ]

-- where clap finds a fault, the rule refuses
pub refused : {Z : Type 0} (words : List (String Z)) → fault_of cep_app (map string_bytes words) ≢ [] → command_of (map string_bytes words) ≡ None
refused words some =
    let texts = map string_bytes words in
    elim (judged texts (are_texts words)) [
      | refuses fault nothing ↦ same_command texts nothing_said ∙ nothing
      | accepts fine found ↦ absurd (some (fault_is texts ∙ fine))
    ]

abbrev pub named : Options × Bor Text → Options × Text
named read = (read.0, read.1.now)

-- what the code reads of the matches
pub read_of : {Z : Type 0} (words : List (String Z)) (rows : List Row) (said : Texts) (read : Option (Options × Bor Text))
    → fault_of cep_app (map string_bytes words) ≡ []
    → rows ≡ matches_of cep_app (map string_bytes words) → said_of said ≡ said_of_rows rows → option_map named read ≡ command_in (said_of said)
    → command_of (map string_bytes words) ≡ option_map named read
read_of words rows said read none same is gives =
    accepted words none ∙ ap (λ r. command_in (said_of_rows r)) (sym same) ∙ ap command_in (sym is) ∙ sym gives
