-- The grammar of pattern files, by its productions. Quoted words are Words with that text.
use Rattle.std.specs.Prelude.{ℕ, List, [], ◌∷◌, ◌++◌, Some, None, codes}
use Rattle.cep_reading.specs.declared.name.Name.{Name}
use Rattle.cep_expression.specs.declared.expr.SynExpr.{SynExpr}
use Rattle.cep_syntax.specs.declared.file.FieldDecl.{FieldDecl}
use Rattle.cep_syntax.specs.declared.file.TypeDecl.{TypeDecl}
use Rattle.cep_syntax.specs.declared.file.OpenKind.{OpenKind}
use Rattle.cep_syntax.specs.declared.file.OpenKind.TheVariants.{Begin}
use Rattle.cep_syntax.specs.declared.file.Join.TheVariants.{Both, Either}
use Rattle.cep_syntax.specs.declared.file.ModKind.{ModKind}
use Rattle.cep_syntax.specs.declared.file.ModKind.TheVariants.{Filter, Until, Times, TimesOrMore, OneOrMore, Optional, Consecutive, AllowCombinations}
use Rattle.cep_syntax.specs.declared.file.Modifier.{Modifier}
use Rattle.cep_syntax.specs.declared.file.Opener.{Opener}
use Rattle.cep_syntax.specs.declared.file.PlacedNumber.{PlacedNumber}
use Rattle.cep_syntax.specs.declared.limit.Limits.{Limits}
use Rattle.cep_syntax.specs.declared.file.SkipDecl.{SkipDecl}
use Rattle.cep_syntax.specs.declared.file.SkipDecl.TheVariants.{No, ToNext, PastLast, ToFirst, ToLast}
use Rattle.cep_syntax.specs.declared.file.File.{File}
use Rattle.cep_reading.specs.Lexeme.{Lexeme}
use Rattle.cep_reading.specs.Terminal.{any_word, stage_name, number}
use Rattle.cep_reading.specs.Rule.{Rule, ◌>>=◌, ◌>>◌, pure, ◌or◌, one, sign, keyword, maybe, many, placed}
use Rattle.cep_expression.specs.Grammar.{expression_within}
use Rattle.cep_syntax.specs.Terminal.{kind_of, opener}

-- ---- types

-- field = Word ( "int" | "text" )
unfoldable pub field : Rule FieldDecl
field = do
  name ← one any_word
  kind ← one kind_of
  pure (record { name = name; kind = kind })

-- [ field { "," field } ]
unfoldable pub fields : Rule (List FieldDecl)
fields = (do first ← field; more ← many (sign (codes ",") >> field); pure (first ∷ more)) or pure []

-- type = "event" Word "(" [ field { "," field } ] ")" ";"
unfoldable pub declaration : Rule TypeDecl
declaration = do
  keyword (codes "event")
  name ← one any_word
  sign (codes "(")
  found ← fields
  sign (codes ")")
  sign (codes ";")
  pure (record { name = name; fields = found })

-- ---- the pattern

-- "(" Name ")"
abbrev pub named : Rule Name
named = do
  sign (codes "(")
  name ← one stage_name
  sign (codes ")")
  pure name

-- "of" "(" Word ")"
unfoldable pub of_name : Rule Name
of_name = do
  keyword (codes "of")
  sign (codes "(")
  name ← one any_word
  sign (codes ")")
  pure name

-- opener "(" Name ")"
unfoldable pub opener_named : Rule (OpenKind × Name)
opener_named = do
  how ← one opener
  sign (codes "(")
  name ← one stage_name
  sign (codes ")")
  pure (how, name)

abbrev pub placed_number : ℕ × ℕ → PlacedNumber
placed_number (place, value) = record { value = value; place = place }

-- the word and "(" Number ")"
unfoldable pub limited : List ℕ → Rule PlacedNumber
limited text = do
  keyword text
  sign (codes "(")
  found ← placed (one number)
  sign (codes ")")
  pure (placed_number found)

-- [ "." "within" "(" Number ")" ] [ "." "withinGap" "(" Number ")" ]
abbrev pub limits : Rule Limits
limits = do
  within ← maybe (sign (codes ".") >> limited (codes "within"))
  gap ← maybe (sign (codes ".") >> limited (codes "withinGap"))
  pure (record { within = within; within_gap = gap })

-- "(" Number [ "," Number ] ")"
unfoldable pub times : Rule ModKind
times = do
  sign (codes "(")
  from ← one number
  to ← maybe (sign (codes ",") >> one number)
  sign (codes ")")
  pure (Times from to)

-- "(" Number ")"
unfoldable pub times_or_more : Rule ModKind
times_or_more = do
  sign (codes "(")
  from ← one number
  sign (codes ")")
  pure (TimesOrMore from)

-- "(" ")"
unfoldable pub bare : ModKind → Rule ModKind
bare what = do
  sign (codes "(")
  sign (codes ")")
  pure what

abbrev pub placed_modifier : ℕ × ModKind → Modifier
placed_modifier (place, what) = record { what = what; place = place }

-- ---- the skip

-- skip = "skip" ( "none" | "to_next" | "past_last" | "to_first" "(" Name ")" | "to_last" "(" Name ")" ) ";"
abbrev pub skip_kind : Rule SkipDecl
skip_kind =
    (keyword (codes "none") >> pure No)
    or (keyword (codes "to_next") >> pure ToNext)
    or (keyword (codes "past_last") >> pure PastLast)
    or (keyword (codes "to_first") >> (do name ← named; pure (ToFirst name)))
    or (keyword (codes "to_last") >> (do name ← named; pure (ToLast name)))

unfoldable pub skip : Rule SkipDecl
skip = do
  keyword (codes "skip")
  what ← skip_kind
  sign (codes ";")
  pure what

module _ (expr : Rule SynExpr) where
  -- "(" expr ")"
  unfoldable pub condition : Rule SynExpr
  condition = do
    sign (codes "(")
    e ← expr
    sign (codes ")")
    pure e

  -- modifier = "where" "(" expr ")" | "or" "(" expr ")" | "times" "(" Number [ "," Number ] ")" | "timesOrMore" "(" Number ")"
  --     | "oneOrMore" "(" ")" | "optional" "(" ")" | "consecutive" "(" ")" | "allowCombinations" "(" ")" | "until" "(" expr ")"
  abbrev pub modifier_kind : Rule ModKind
  modifier_kind =
      (keyword (codes "where") >> (do e ← condition; pure (Filter Both e)))
      or (keyword (codes "or") >> (do e ← condition; pure (Filter Either e)))
      or (keyword (codes "times") >> times)
      or (keyword (codes "timesOrMore") >> times_or_more)
      or (keyword (codes "oneOrMore") >> bare OneOrMore)
      or (keyword (codes "optional") >> bare Optional)
      or (keyword (codes "consecutive") >> bare Consecutive)
      or (keyword (codes "allowCombinations") >> bare AllowCombinations)
      or (keyword (codes "until") >> (do e ← condition; pure (Until e)))

  -- a modifier stands at its word
  unfoldable pub modifier : Rule Modifier
  modifier = do
    found ← placed modifier_kind
    pure (placed_modifier found)

  -- stage = [ "." "of" "(" Word ")" ] { "." modifier }
  abbrev pub stage : OpenKind → Name → Rule Opener
  stage how name = do
    of ← (do sign (codes "."); name ← of_name; pure (Some name)) or pure None
    mods ← many (sign (codes ".") >> modifier)
    pure (record { how = how; name = name; of = of; mods = mods })

  -- "." opener "(" Name ")" stage
  abbrev pub next_stage : Rule Opener
  next_stage = do
    sign (codes ".")
    opened ← opener_named
    stage opened.0 opened.1

  -- stage { "." opener "(" Name ")" stage }
  abbrev pub stages : Name → Rule (List Opener)
  stages name = do
    first ← stage Begin name
    more ← many next_stage
    pure (first ∷ more)

  -- pattern = "pattern" "begin" "(" Name ")" stage { "." opener "(" Name ")" stage } limits ";"
  unfoldable pub pattern : Rule (List Opener × Limits)
  pattern = do
    keyword (codes "pattern")
    keyword (codes "begin")
    sign (codes "(")
    name ← one stage_name
    sign (codes ")")
    openers ← stages name
    bounds ← limits
    sign (codes ";")
    pure (openers, bounds)

  -- select = "select" expr { "," expr } ";"
  unfoldable pub select : Rule (List SynExpr)
  select = do
    keyword (codes "select")
    first ← expr
    more ← many (sign (codes ",") >> expr)
    sign (codes ";")
    pure (first ∷ more)

  -- file = { type } pattern [ skip ] [ select ]
  unfoldable pub file : Rule File
  file = do
    types ← many declaration
    found ← pattern
    after ← maybe skip
    shown ← maybe select
    pure (record { types = types; openers = found.0; within = found.1.within; within_gap = found.1.within_gap; skip = after; select = shown })

  -- the tokens of a file up to a place where a modifier may stand: behind a dot that comes behind a stage
  unfoldable pub before_modifier : Rule (Unit {0})
  before_modifier = do
    many declaration
    keyword (codes "pattern")
    keyword (codes "begin")
    sign (codes "(")
    name ← one stage_name
    sign (codes ")")
    stages name
    sign (codes ".")

-- The tokens are a file, in which parentheses of expressions nest to some depth.
abbrev pub IsFile : Rule File
IsFile = λ used f. (n : ℕ) × file (expression_within n) used f

-- the tokens are the front of some file
abbrev pub BeginsFile : List Lexeme → Type 0
BeginsFile used = (more : List Lexeme) × (f : File) × IsFile (used ++ more) f

-- behind the tokens a modifier may stand
abbrev pub MayModify : List Lexeme → Type 0
MayModify used = (n : ℕ) × before_modifier (expression_within n) used tt
