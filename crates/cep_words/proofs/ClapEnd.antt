-- What clap makes of the rows at the end of the words.
use Rattle.std.proofs.Common.{◌≡◌, ◌∙◌, Bool, true, false, cond, not, List, [], ◌∷◌, ◌++◌, take, drop, codes, Option, Some, None, is_some, option_map, refl, ap}
use Rattle.std.proofs.Math.Bool.{or-true}
use Rattle.std.specs.Prelude.{◌||◌, ⊤, fold, option_and_then, find, slice_get}
use Rattle.std.specs.Option.{option_map_or}
use Rattle.std.specs.Str.{bytes_eq}
use Rattle.clap.specs.Facts.{explicit_source}
use Rattle.clap.specs.Faults.{check_fault, defaults_fault, given_default_fault}
use Rattle.clap.specs.Kinds.{Kinds, check_kinds, or_else}
use Rattle.clap.specs.Takes.{is_given}
use Rattle.clap.specs.Walk.{Text, Row, Rule, default_rows, first_of, has_row, is_empty, reading_by, with_default}
use Rattle.clap.specs.declared.builder.value_parser.Reading.{Reading}
use Rattle.clap.specs.declared.parser.matches.ValueSource.{ValueSource}
use Rattle.clap.specs.declared.parser.matches.ValueSource.TheVariants.{DefaultValue}
use Rattle.cep_words.specs.Words.{command_in, options_in}
use Rattle.cep_words.proofs.ClapApp.{header, rules, top, valued}
use Rattle.cep_words.proofs.ClapRows.{Use, Shows, absent, defaulted, first_added, first_seen, has_row_used, lookup, marked, seen, shown, shown_before}
use Rattle.cep_words.proofs.ClapRule.{said_from}

abbrev pub string : Reading
string = reading_by (valued [])

abbrev pub bool_reading : Reading
bool_reading = reading_by header

-- ---- defaults

unchanged : {X : Type 0} (b : Bool) (x : X) → cond b x x ≡ x
unchanged true x = refl
unchanged false x = refl

abbrev Defaultless : List Rule → Type 0
Defaultless [] = ⊤
Defaultless (a ∷ rest) = (a.defaults ≡ []) × Defaultless rest

defaultless_row : (rows : List Row) (a : Rule) → a.defaults ≡ [] → with_default rows a ≡ rows
defaultless_row rows a none = ap (λ defaults. cond (has_row a.id rows) rows (default_rows a.id (reading_by a) defaults rows)) none
    ∙ unchanged (has_row a.id rows) rows

defaultless_rows : (rest : List Rule) (rows : List Row) → Defaultless rest → fold with_default rows rest ≡ rows
defaultless_rows [] rows none = refl
defaultless_rows (a ∷ rest) rows none = ap (λ r. fold with_default r rest) (defaultless_row rows a none.0) ∙ defaultless_rows rest rows none.1

defaultless_fault : (rest more : List Rule) (rows : List Row) → Defaultless rest → defaults_fault rows (rest ++ more) ≡ defaults_fault rows more
unfolding defaults_fault
defaultless_fault [] more rows none = refl
defaultless_fault (a ∷ rest) more rows none =
    ap (λ defaults. or_else (cond (has_row a.id rows || is_empty defaults) [] (given_default_fault a defaults))
    (defaults_fault (with_default rows a) (rest ++ more))) none.0
    ∙ ap (λ b. or_else (cond b [] (given_default_fault a [])) (defaults_fault (with_default rows a) (rest ++ more))) (or-true (has_row a.id rows))
    ∙ ap (λ r. defaults_fault r (rest ++ more)) (defaultless_row rows a none.0) ∙ defaultless_fault rest more rows none.1

-- only the header has a default, and it is in order
defaults_pass : (rows : List Row) → defaults_fault rows rules ≡ []
unfolding defaults_fault
defaults_pass rows =
    defaultless_fault (take 2 rules) (drop 2 rules) rows (refl, (refl, tt))
    ∙ ap (λ (k : Kinds). or_else k (defaults_fault (with_default rows header) (drop 3 rules))) (unchanged (has_row (codes "header") rows || false) [])
    ∙ defaultless_fault (drop 3 rules) [] (with_default rows header) (refl, (refl, (refl, (refl, tt))))

finished_rows : (rows : List Row) → fold with_default rows rules ≡ with_default rows header
finished_rows rows =
    ap (λ r. fold with_default r (drop 2 rules)) (defaultless_rows (take 2 rules) rows (refl, (refl, tt)))
    ∙ defaultless_rows (drop 3 rules) (with_default rows header) (refl, (refl, (refl, (refl, tt))))

-- clap wants both positions
abbrev pub wanted_kinds : Option Text → Option Text → Kinds
wanted_kinds mode file = check_kinds false false (not (is_some mode) || (not (is_some file) || false))

-- ---- the rows, where they show the uses

module _ (rows : List Row) (us : List Use) (shows : Shows rows us) where
  abbrev with_header : Bool → List Row
  with_header given = cond given rows (default_rows (codes "header") bool_reading (codes "false" ∷ []) rows)

  pub values_after : (id : Text) → bytes_eq (codes "header") id ≡ false → seen id (fold with_default rows rules) ≡ option_map marked (lookup id us)
  values_after id other = ap (seen id) (finished_rows rows) ∙ go (has_row (codes "header") rows) refl
    where
      go : (b : Bool) → has_row (codes "header") rows ≡ b → seen id (with_header b) ≡ option_map marked (lookup id us)
      go true e = shows id
      go false e = ap (seen id) (defaulted (codes "header") (codes "false") bool_reading DefaultValue rows e)
          ∙ shown_before (codes "header") id (codes "false") bool_reading DefaultValue rows other ∙ shows id

  pub header_after : lookup (codes "header") us ≡ cond (is_some (lookup (codes "header") us)) (Some (codes "true")) None
      → first_of (codes "header") (fold with_default rows rules) ≡ Some (cond (is_some (lookup (codes "header") us)) (codes "true") (codes "false"))
  header_after kept = ap (first_of (codes "header")) (finished_rows rows) ∙ go (lookup (codes "header") us) refl
    where
      go : (o : Option Text) → lookup (codes "header") us ≡ o
          → first_of (codes "header") (with_header (has_row (codes "header") rows)) ≡ Some (cond (is_some o) (codes "true") (codes "false"))
      go None e =
          let gone = absent (codes "header") rows us shows e in
          ap (λ b. first_of (codes "header") (with_header b)) gone
          ∙ ap (first_of (codes "header")) (defaulted (codes "header") (codes "false") bool_reading DefaultValue rows gone)
          ∙ first_added (codes "header") (codes "false") bool_reading DefaultValue rows gone
      go (Some x) e =
          ap (λ b. first_of (codes "header") (with_header b)) (has_row_used (codes "header") rows us shows ∙ ap is_some e)
          ∙ first_seen (codes "header") rows
          ∙ ap (option_and_then (λ p. slice_get p.0 0)) (shows (codes "header") ∙ ap (option_map marked) (kept ∙ ap (λ o. cond (is_some o) (Some (codes "true")) None) e))

  abbrev is_explicit : Option (List Text × Option ValueSource) → Bool
  is_explicit o = option_map_or (λ p. explicit_source p.1) o false

  given_used : (id : Text) → bytes_eq (codes "header") id ≡ false → is_given id (fold with_default rows rules) ≡ is_some (lookup id us)
  given_used id other = row_given (find (λ (r : Row). bytes_eq r.id id) (fold with_default rows rules)) ∙ ap is_explicit (values_after id other)
      ∙ use_given (lookup id us)
    where
      row_given : (o : Option Row) → option_map_or (λ (r : Row). explicit_source r.source) o false ≡ is_explicit (option_map shown o)
      row_given None = refl
      row_given (Some r) = refl

      use_given : (o : Option Text) → is_explicit (option_map marked o) ≡ is_some o
      use_given None = refl
      use_given (Some v) = refl

  pub after_fault : or_else (defaults_fault rows rules) (check_fault top (fold with_default rows rules) false) ≡ wanted_kinds (lookup (codes "mode") us) (lookup (codes "file") us)
  after_fault =
      ap (λ k. or_else k (check_fault top (fold with_default rows rules) false)) (defaults_pass rows)
      ∙ (λ i. check_kinds false false (not (given_used (codes "mode") refl i) || (not (given_used (codes "file") refl i) || false)))

pub no_command : (us : List Use) (over : Bool) → lookup (codes "file") us ≡ None → command_in (said_from us None over) ≡ None
no_command us over none = ap (λ l. option_and_then (λ name. option_map (λ options. (options, name)) (options_in (said_from us None over))) l) none
