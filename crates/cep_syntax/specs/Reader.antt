-- How a file is read, token by token. The number bounds how deep parentheses nest and how long lists are.
use Rattle.std.specs.Prelude.{ℕ, Bool, true, false, List, [], ◌∷◌, Option, Some, None, codes}
use Rattle.cep_reading.specs.declared.name.Name.{Name}
use Rattle.cep_reading.specs.declared.stop.Stop.TheVariants.{Greedy}
use Rattle.cep_expression.specs.declared.expr.SynExpr.{SynExpr}
use Rattle.cep_expression.specs.Reader.{expression}
use Rattle.cep_syntax.specs.declared.file.FieldDecl.{FieldDecl}
use Rattle.cep_syntax.specs.declared.file.TypeDecl.{TypeDecl}
use Rattle.cep_syntax.specs.declared.file.OpenKind.{OpenKind}
use Rattle.cep_syntax.specs.declared.file.Join.TheVariants.{Both, Either}
use Rattle.cep_syntax.specs.declared.file.ModKind.{ModKind}
use Rattle.cep_syntax.specs.declared.file.ModKind.TheVariants.{Filter, Until, Times, TimesOrMore, OneOrMore, Optional, Consecutive, AllowCombinations}
use Rattle.cep_syntax.specs.declared.file.Modifier.{Modifier}
use Rattle.cep_syntax.specs.declared.file.Opener.{Opener}
use Rattle.cep_syntax.specs.declared.file.PlacedNumber.{PlacedNumber}
use Rattle.cep_syntax.specs.declared.limit.Limits.{Limits}
use Rattle.cep_syntax.specs.declared.file.SkipDecl.{SkipDecl}
use Rattle.cep_syntax.specs.declared.file.SkipDecl.TheVariants.{No, ToNext, PastLast, ToFirst, ToLast}
use Rattle.cep_syntax.specs.declared.file.File.{File}
use Rattle.cep_syntax.specs.declared.link.Building.{Building}
use Rattle.cep_syntax.specs.declared.link.Link.{Link}
use Rattle.cep_syntax.specs.declared.link.Link.TheVariants.{Of, Mod, Open}
use Rattle.cep_reading.specs.Terminal.{symbol, word, any_word, is_any_word, stage_name, number}
use Rattle.cep_reading.specs.Reading.{Reader, ◌>>=◌, ◌>>◌, pure, one, sign, keyword, choose, unless, branch, many, links, placed}
use Rattle.cep_syntax.specs.Terminal.{kind_of, opener, is_opener, is_limit}
use Rattle.cep_syntax.specs.Grammar.{placed_modifier, placed_number}
use Rattle.cep_syntax.specs.Links.{started, added, limits_of, openers_of}

-- ---- types

unfoldable pub field : Reader FieldDecl
field = do
  name ← one any_word
  kind ← one kind_of
  pure (record { name = name; kind = kind })

unfoldable pub next_field : Reader FieldDecl
next_field = sign (codes ",") >> field

abbrev pub more_fields : ℕ → Reader (List FieldDecl)
more_fields room = many room (symbol (codes ",")) next_field

unfoldable pub fields : ℕ → Reader (List FieldDecl)
fields room = choose is_any_word (do first ← field; more ← more_fields room; pure (first ∷ more)) (pure [])

unfoldable pub declaration : ℕ → Reader TypeDecl
declaration room = do
  keyword (codes "event")
  name ← one any_word
  sign (codes "(")
  found ← fields room
  sign (codes ")")
  sign (codes ";")
  pure (record { name = name; fields = found })

abbrev pub declarations : ℕ → Reader (List TypeDecl)
declarations room = many room (word (codes "event")) (declaration room)

-- ---- names and numbers in parentheses

unfoldable pub named : Reader Name
named = do
  sign (codes "(")
  name ← one stage_name
  sign (codes ")")
  pure name

unfoldable pub of_name : Reader Name
of_name = do
  keyword (codes "of")
  sign (codes "(")
  name ← one any_word
  sign (codes ")")
  pure name

unfoldable pub opener_named : Reader (OpenKind × Name)
opener_named = do
  how ← one opener
  sign (codes "(")
  name ← one stage_name
  sign (codes ")")
  pure (how, name)

unfoldable pub limited : List ℕ → Reader PlacedNumber
limited text = do
  keyword text
  sign (codes "(")
  found ← placed (one number)
  sign (codes ")")
  pure (placed_number found)

unfoldable pub gap_behind : Reader (Option PlacedNumber)
gap_behind = choose (symbol (codes ".")) ((sign (codes ".") >> limited (codes "withinGap")) >>= (λ gap. pure (Some gap))) (pure None)

unfoldable pub ending : Reader Limits
ending =
    choose (word (codes "within"))
    (limited (codes "within") >>= (λ within. gap_behind >>= (λ gap. pure (record { within = Some within; within_gap = gap }))))
    (limited (codes "withinGap") >>= (λ gap. pure (record { within = None; within_gap = Some gap })))

unfoldable pub upper : Reader (Option ℕ)
upper = choose (symbol (codes ",")) ((sign (codes ",") >> one number) >>= (λ n. pure (Some n))) (pure None)

unfoldable pub times : Reader ModKind
times = do
  sign (codes "(")
  from ← one number
  to ← upper
  sign (codes ")")
  pure (Times from to)

unfoldable pub times_or_more : Reader ModKind
times_or_more = do
  sign (codes "(")
  from ← one number
  sign (codes ")")
  pure (TimesOrMore from)

unfoldable pub bare : ModKind → Reader ModKind
bare what = do
  sign (codes "(")
  sign (codes ")")
  pure what

unfoldable pub condition : ℕ → Reader SynExpr
condition room = do
  sign (codes "(")
  e ← expression room
  sign (codes ")")
  pure e

-- ---- modifiers

-- each of these reads its own words, and leaves the others to the next

unfoldable pub until_kind : ℕ → Reader ModKind
until_kind room = keyword (codes "until") >> (condition room >>= (λ e. pure (Until e)))

unfoldable pub mode_kind : ℕ → Reader ModKind
mode_kind room =
    branch (codes "consecutive") (bare Consecutive)
    (branch (codes "allowCombinations") (bare AllowCombinations) (until_kind room))

unfoldable pub bare_kind : ℕ → Reader ModKind
bare_kind room =
    branch (codes "oneOrMore") (bare OneOrMore)
    (branch (codes "optional") (bare Optional) (mode_kind room))

unfoldable pub counted_kind : ℕ → Reader ModKind
counted_kind room = branch (codes "times") times (branch (codes "timesOrMore") times_or_more (bare_kind room))

unfoldable pub modifier_kind : ℕ → Reader ModKind
modifier_kind room =
    branch (codes "where") (condition room >>= (λ e. pure (Filter Both e)))
    (branch (codes "or") (condition room >>= (λ e. pure (Filter Either e))) (counted_kind room))

unfoldable pub modifier : ℕ → Reader Modifier
modifier room = do
  found ← placed (modifier_kind room)
  pure (placed_modifier found)

-- ---- links

unfoldable pub of_link : Reader Link
of_link = do
  name ← of_name
  pure (Of name)

unfoldable pub open_link : Reader Link
open_link = do
  found ← opener_named
  pure (Open found.0 found.1)

unfoldable pub modifier_link : ℕ → Reader Link
modifier_link room = do
  m ← modifier room
  pure (Mod m)

unfoldable pub plain_link : ℕ → Reader Link
plain_link room = unless (word (codes "greedy")) Greedy (choose is_opener open_link (modifier_link room))

abbrev pub any_link : ℕ → Bool → Reader Link
any_link room true = choose (word (codes "of")) of_link (plain_link room)
any_link room false = plain_link room

abbrev pub chain : ℕ → Building → Reader (Building × Option Limits)
chain room = links room (codes ".") is_limit added (λ b. any_link room b.fresh) ending

unfoldable pub pattern : ℕ → Reader (List Opener × Limits)
pattern room = do
  keyword (codes "pattern")
  keyword (codes "begin")
  sign (codes "(")
  name ← one stage_name
  sign (codes ")")
  built ← chain room (started name)
  sign (codes ";")
  pure (openers_of built.0, limits_of built.1)

-- ---- the skip and the select

unfoldable pub skip_name : Reader SkipDecl
skip_name = branch (codes "to_first") (named >>= (λ name. pure (ToFirst name))) (keyword (codes "to_last") >> (named >>= (λ name. pure (ToLast name))))

unfoldable pub skip_kind : Reader SkipDecl
skip_kind = branch (codes "none") (pure No) (branch (codes "to_next") (pure ToNext) (branch (codes "past_last") (pure PastLast) skip_name))

unfoldable pub skip : Reader SkipDecl
skip = do
  keyword (codes "skip")
  what ← skip_kind
  sign (codes ";")
  pure what

unfoldable pub maybe_skip : Reader (Option SkipDecl)
maybe_skip = choose (word (codes "skip")) (skip >>= (λ a. pure (Some a))) (pure None)

unfoldable pub next_shown : ℕ → Reader SynExpr
next_shown room = sign (codes ",") >> expression room

abbrev pub more_shown : ℕ → Reader (List SynExpr)
more_shown room = many room (symbol (codes ",")) (next_shown room)

unfoldable pub select : ℕ → Reader (List SynExpr)
select room = do
  keyword (codes "select")
  first ← expression room
  more ← more_shown room
  sign (codes ";")
  pure (first ∷ more)

unfoldable pub maybe_select : ℕ → Reader (Option (List SynExpr))
maybe_select room = choose (word (codes "select")) (select room >>= (λ a. pure (Some a))) (pure None)

unfoldable pub file : ℕ → Reader File
file room = do
  types ← declarations room
  found ← pattern room
  after ← maybe_skip
  shown ← maybe_select room
  pure (record { types = types; openers = found.0; within = found.1.within; within_gap = found.1.within_gap; skip = after; select = shown })
