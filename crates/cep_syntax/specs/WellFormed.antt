-- Whether a file is well formed, as each file is that is read. The rules are this project's own.
-- The parts of an expression stand in rows: `end_of-SynExpr` is the empty row, `more_of-SynExpr place node parts` has an expression before the
-- others, and the sign `_` before a row is its shape, which says nothing of the parts.
use Rattle.std.specs.Prelude.{◌≡◌, ℕ, ◌≤◌, Bool, true, false, not, ◌&&◌, nat_le, List, [], ◌∷◌, length, map, codes, Option, Some, None}
use Rattle.std.specs.List.{list_all, sum_by}
use Rattle.std.specs.Str.{bytes_eq}
use Rattle.cep_token.specs.declared.token.TheConstants.{GREATEST_NUMBER}
use Rattle.cep_token.specs.Form.{is_word}
use Rattle.cep_reading.specs.Terminal.{is_name}
use Rattle.cep_expression.specs.declared.expr.How.{How}
use Rattle.cep_expression.specs.declared.expr.How.TheVariants as how
use Rattle.cep_expression.specs.declared.expr.SynExpr.{SynExpr}
use Rattle.cep_expression.specs.declared.expr.SynNode.{SynNode, Int, Text, Bool as Truth, Field, Count, Of, Any', All', Compare', Add', Mul', Not', Neg', Row_of-SynExpr, end_of-SynExpr, more_of-SynExpr, Row_of-SynTerm, end_of-SynTerm, more_of-SynTerm, Row_of-SynFactor, end_of-SynFactor, more_of-SynFactor}
use Rattle.cep_syntax.specs.declared.file.TypeDecl.{TypeDecl}
use Rattle.cep_syntax.specs.declared.file.OpenKind.{OpenKind}
use Rattle.cep_syntax.specs.declared.file.OpenKind.TheVariants.{Begin}
use Rattle.cep_syntax.specs.declared.file.ModKind.{ModKind}
use Rattle.cep_syntax.specs.declared.file.ModKind.TheVariants.{Filter, Until, Times, TimesOrMore}
use Rattle.cep_syntax.specs.declared.file.Opener.{Opener}
use Rattle.cep_syntax.specs.declared.file.SkipDecl.{SkipDecl}
use Rattle.cep_syntax.specs.declared.file.SkipDecl.TheVariants.{ToFirst, ToLast}
use Rattle.cep_syntax.specs.declared.file.File.{File}

-- ---- expressions

-- a field that stands by itself has the form of a Word and is no truth value's word
abbrev pub is_field : List ℕ → Bool
is_field text = is_word text && (not (bytes_eq text (codes "true")) && not (bytes_eq text (codes "false")))

abbrev pub is_number : ℕ → Bool
is_number n = nat_le n GREATEST_NUMBER

-- a chain has two parts or more, each well formed
abbrev pub is_chain : List Bool → Bool
is_chain parts = nat_le 2 (length parts) && list_all (λ part. part) parts

-- the one part of a row
abbrev pub only : List Bool → Bool
only [] = false
only (part ∷ _) = part

-- a sum, whose first term has no minus
abbrev pub is_sum : List (Bool × Bool) → Bool
is_sum [] = false
is_sum ((minus, first) ∷ terms) = not minus && is_chain (first ∷ map (λ term. term.1) terms)

abbrev pub is_times : How → Bool
is_times how.Times = true
is_times _ = false

-- a product, whose first factor is multiplied
abbrev pub is_product : List (How × Bool) → Bool
is_product [] = false
is_product ((way, first) ∷ factors) = is_times way && is_chain (first ∷ map (λ factor. factor.1) factors)

abbrev mutual
  pub is_formed_node : SynNode → Bool
  is_formed_node (Int n) = is_number n
  is_formed_node (Text t) = true
  is_formed_node (Truth b) = true
  is_formed_node (Field name) = is_field name.text
  is_formed_node (Count name) = is_name name.text
  is_formed_node (Of agg name field) = is_name name.text && is_word field.text
  is_formed_node (Any' _ parts) = is_chain (formed_parts parts)
  is_formed_node (All' _ parts) = is_chain (formed_parts parts)
  is_formed_node (Compare' c _ x _ y) = only (formed_parts x) && only (formed_parts y)
  is_formed_node (Add' _ terms) = is_sum (formed_terms terms)
  is_formed_node (Mul' _ factors) = is_product (formed_factors factors)
  is_formed_node (Not' _ x) = only (formed_parts x)
  is_formed_node (Neg' _ x) = only (formed_parts x)

  pub formed_parts : {n : _} → Row_of-SynExpr n → List Bool
  formed_parts end_of-SynExpr = []
  formed_parts (more_of-SynExpr place node parts) = is_formed_node node ∷ formed_parts parts

  pub formed_terms : {n : _} → Row_of-SynTerm n → List (Bool × Bool)
  formed_terms end_of-SynTerm = []
  formed_terms (more_of-SynTerm minus place node terms) = (minus, is_formed_node node) ∷ formed_terms terms

  pub formed_factors : {n : _} → Row_of-SynFactor n → List (How × Bool)
  formed_factors end_of-SynFactor = []
  formed_factors (more_of-SynFactor way place node factors) = (way, is_formed_node node) ∷ formed_factors factors

abbrev pub is_formed : SynExpr → Bool
is_formed e = is_formed_node e.node

-- ---- files

-- nothing, or something that passes
abbrev pub of_some : {A : Type 0} → (A → Bool) → Option A → Bool
of_some p None = true
of_some p (Some a) = p a

abbrev pub is_formed_type : TypeDecl → Bool
is_formed_type d = is_word d.name.text && list_all (λ field. is_word field.name.text) d.fields

abbrev pub is_formed_modifier : ModKind → Bool
is_formed_modifier (Filter join e) = is_formed e
is_formed_modifier (Until e) = is_formed e
is_formed_modifier (Times from to) = is_number from && of_some is_number to
is_formed_modifier (TimesOrMore from) = is_number from
is_formed_modifier _ = true

abbrev pub is_formed_opener : Opener → Bool
is_formed_opener o = is_name o.name.text && (of_some (λ name. is_word name.text) o.of && list_all (λ m. is_formed_modifier m.what) o.mods)

abbrev pub is_begin : OpenKind → Bool
is_begin Begin = true
is_begin _ = false

-- the first opener and no other is `begin`
abbrev pub begins_once : List Opener → Bool
begins_once [] = false
begins_once (first ∷ more) = is_begin first.how && list_all (λ o. not (is_begin o.how)) more

abbrev pub is_formed_skip : SkipDecl → Bool
is_formed_skip (ToFirst name) = is_name name.text
is_formed_skip (ToLast name) = is_name name.text
is_formed_skip _ = true

abbrev pub is_formed_select : List SynExpr → Bool
is_formed_select shown = nat_le 1 (length shown) && list_all is_formed shown

-- What a checker of the file may rely on. That the printed text has at most 32 open parentheses is left out.
pub record IsWellFormed (f : File) : Type 0 where
  pub types : list_all is_formed_type f.types ≡ true
  pub few_types : length f.types ≤ 65535
  pub few_fields : sum_by (λ d. length d.fields) f.types ≤ 65535
  pub begins : begins_once f.openers ≡ true
  pub openers : list_all is_formed_opener f.openers ≡ true
  pub limit : of_some (λ n. is_number n.value) f.within ≡ true
  pub gap : of_some (λ n. is_number n.value) f.within_gap ≡ true
  pub skips : of_some is_formed_skip f.skip ≡ true
  pub shows : of_some is_formed_select f.select ≡ true
