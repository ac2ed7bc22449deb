-- The reader of files against the grammar.
use Rattle.std.proofs.Common.{◌≡◌, ℕ, Bool, true, false, ◌||◌, cond, inl, inr, List, [], ◌∷◌, ◌++◌, refl, sym, ◌∙◌, ap, subst, append_assoc}
use Rattle.std.specs.Prelude.{codes, Option, Some, None}
use Rattle.cep_event.specs.declared.value.Kind.TheVariants as kind
use Rattle.cep_token.specs.declared.token.TokenKind.TheVariants as token
use Rattle.cep_reading.specs.Lexeme.{Lexeme}
use Rattle.cep_reading.specs.Terminal.{only, symbol, word, is_any_word, number}
use Rattle.cep_reading.specs.Reading.{Left, Reader, next_is}
use Rattle.cep_reading.specs.Reading as read
use Rattle.cep_reading.specs.Rule.{Rule}
use Rattle.cep_reading.specs.Rule as rule
use Rattle.cep_reading.proofs.Laws.{Stops, StartsWith}
use Rattle.cep_reading.proofs.Starts.{Avoids, avoids_by, starts-symbol, starts-word, starts-any_word, starts-then, starts-placed, starts-branch, starts-last, starts-or, starts-wider, either, takes-one, takes-then, takes-starts, one_of, has_text, same_one_of, same_symbol, same_word, neither, or_false, symbol_is_not_any_word}
use Rattle.cep_reading.proofs.Exact.{Exact, nothing, stops_nothing, Exact-pure, Exact-one, exact-symbol, exact-word, Exact-then, Exact-last, Exact-before, Exact-made, Exact-choose, Exact-branch, Exact-maybe, Exact-placed, Exact-narrower, Exact-many}
use Rattle.cep_expression.specs.declared.expr.SynExpr.{SynExpr}
use Rattle.cep_expression.specs.Grammar.{expression_within}
use Rattle.cep_expression.proofs.Expressions.{exact-expression, exact-any_word, exact-stage_name, goes_on, close_ends, comma_ends, semicolon_ends}
use Rattle.cep_syntax.specs.declared.file.OpenKind.{OpenKind}
use Rattle.cep_syntax.specs.declared.file.OpenKind.TheVariants.{Next, FollowedBy, FollowedByAny, NotNext, NotFollowedBy}
use Rattle.cep_syntax.specs.declared.file.Join.TheVariants.{Both, Either}
use Rattle.cep_syntax.specs.declared.file.ModKind.{ModKind}
use Rattle.cep_syntax.specs.declared.file.ModKind.TheVariants.{Filter, Until, Times, TimesOrMore, OneOrMore, Optional, Consecutive, AllowCombinations}
use Rattle.cep_syntax.specs.declared.file.PlacedNumber.{PlacedNumber}
use Rattle.cep_syntax.specs.declared.limit.Limits.{Limits}
use Rattle.cep_syntax.specs.declared.file.SkipDecl.{SkipDecl}
use Rattle.cep_syntax.specs.declared.file.SkipDecl.TheVariants.{No, ToNext, PastLast, ToFirst, ToLast}
use Rattle.cep_syntax.specs.declared.link.Link.TheVariants.{Of, Mod, Open}
use Rattle.cep_syntax.specs.Terminal.{kind_of, opener, is_opener, is_limit}
use Rattle.cep_syntax.specs.Grammar as grammar
use Rattle.cep_syntax.specs.Reader as reader
use Rattle.cep_syntax.proofs.Stages.{of_link, open_link, modifier_link}

abbrev comma : Lexeme → Bool
comma = symbol (codes ",")

abbrev close : Lexeme → Bool
close = symbol (codes ")")

starts-close : {B : Type 0} (s : Unit {0} → Rule B) → StartsWith (rule.◌>>=◌ (rule.sign (codes ")")) s) close
starts-close s = starts-then (rule.sign (codes ")")) s close (starts-symbol (codes ")"))

pub starts-semicolon : {B : Type 0} (s : Unit {0} → Rule B) → StartsWith (rule.◌>>=◌ (rule.sign (codes ";")) s) (symbol (codes ";"))
starts-semicolon s = starts-then (rule.sign (codes ";")) s (symbol (codes ";")) (starts-symbol (codes ";"))

-- an alternative of which each word begins with one of these begins with no other
pub avoids-words : {A : Type 0} (texts : List (List ℕ)) (other : List ℕ) (r : Rule A) → has_text texts other ≡ false → StartsWith r (one_of texts)
    → Avoids r (word other)
avoids-words texts other r apart starts = avoids_by r (one_of texts) (word other) starts (λ t e. same_one_of texts other t apart e)

-- ---- single tokens

pub opener_is : (t : Lexeme) (o : OpenKind) → opener t ≡ Some o → is_opener t ≡ true
unfolding opener
opener_is t o e = cases (word (codes "next") t) (word (codes "followedBy") t) (word (codes "followedByAny") t) (word (codes "notNext") t) (word (codes "notFollowedBy") t) e where
  cases : (a b c d f : Bool)
      → cond a (Some Next) (cond b (Some FollowedBy) (cond c (Some FollowedByAny) (cond d (Some NotNext) (cond f (Some NotFollowedBy) None))))
      ≡ Some o → a || (b || (c || (d || f))) ≡ true
  cases true b c d f h = refl
  cases false true c d f h = refl
  cases false false true d f h = refl
  cases false false false true f h = refl
  cases false false false false true h = refl
  cases false false false false false h = cc

abbrev pub opener_words : List (List ℕ)
opener_words = codes "next" ∷ codes "followedBy" ∷ codes "followedByAny" ∷ codes "notNext" ∷ codes "notFollowedBy" ∷ []

pub is_opener_word : (t : Lexeme) → is_opener t ≡ true → one_of opener_words t ≡ true
is_opener_word t e = cases (word (codes "next") t) (word (codes "followedBy") t) (word (codes "followedByAny") t) (word (codes "notNext") t) (word (codes "notFollowedBy") t) e where
  cases : (a b c d f : Bool) → a || (b || (c || (d || f))) ≡ true → a || (b || (c || (d || (f || false)))) ≡ true
  cases true b c d f h = refl
  cases false true c d f h = refl
  cases false false true d f h = refl
  cases false false false true f h = refl
  cases false false false false true h = refl
  cases false false false false false h = cc

-- ---- the skip

abbrev to_last : Rule SkipDecl
to_last = rule.◌>>◌ (rule.keyword (codes "to_last")) (rule.◌>>=◌ grammar.named (λ name. rule.pure (ToLast name)))

abbrev to_name : Rule SkipDecl
to_name = rule.branch (codes "to_first") (rule.◌>>=◌ grammar.named (λ name. rule.pure (ToFirst name))) to_last

abbrev last_two : List (List ℕ)
last_two = codes "to_first" ∷ codes "to_last" ∷ []

starts-two : StartsWith to_name (one_of last_two)
starts-two = starts-branch (codes "to_first") (codes "to_last" ∷ []) (rule.◌>>=◌ grammar.named (λ name. rule.pure (ToFirst name))) to_last (starts-last (codes "to_last") (rule.◌>>=◌ grammar.named (λ name. rule.pure (ToLast name))))

-- ---- the limits

abbrev pub dot : Lexeme → Bool
dot = symbol (codes ".")

pub starts-limited : (text : List ℕ) → StartsWith (grammar.limited text) (word text)
unfolding grammar.limited
starts-limited text = starts-then _ _ (word text) (starts-word text)

abbrev pub both_limits : PlacedNumber → Option PlacedNumber → Limits
both_limits within gap = record { within = Some within; within_gap = gap }

abbrev pub gap_alone : PlacedNumber → Limits
gap_alone gap = record { within = None; within_gap = Some gap }

abbrev pub gap_behind : Rule (Option PlacedNumber)
gap_behind = rule.maybe (rule.◌>>◌ (rule.sign (codes ".")) (grammar.limited (codes "withinGap")))

abbrev within_first : Rule Limits
within_first = rule.◌>>=◌ (grammar.limited (codes "within")) (λ within. rule.◌>>=◌ gap_behind (λ gap. rule.pure (both_limits within gap)))

abbrev gap_first : Rule Limits
gap_first = rule.◌>>=◌ (grammar.limited (codes "withinGap")) (λ gap. rule.pure (gap_alone gap))

-- what may stand behind a dot at the end of a pattern
abbrev pub ending : Rule Limits
ending = rule.◌or◌ within_first gap_first

pub starts-ending : StartsWith ending is_limit
starts-ending =
    starts-or _ _ is_limit
    (starts-wider _ (word (codes "within")) is_limit (starts-then _ _ _ (starts-limited (codes "within")))
    (λ t e. either (word (codes "within") t) (word (codes "withinGap") t) (inl e)))
    (starts-wider _ (word (codes "withinGap")) is_limit (starts-then _ _ _ (starts-limited (codes "withinGap")))
    (λ t e. either (word (codes "within") t) (word (codes "withinGap") t) (inr e)))

ending_no_within : Avoids gap_first (word (codes "within"))
ending_no_within =
    avoids_by _ (word (codes "withinGap")) (word (codes "within")) (starts-then _ _ _ (starts-limited (codes "withinGap")))
    (λ t e. same_word (codes "withinGap") (codes "within") t e)

module _ {q : Bool} {n l : ℕ} where
  exact-kind_of : Exact q n l (λ _. rule.one kind_of) (λ _. read.one kind_of) nothing
  unfolding kind_of
  exact-kind_of = Exact-one kind_of (record { kind = token.Word; text = codes "int"; place = 0 }) kind.Int nothing refl

  exact-opener : Exact q n l (λ _. rule.one opener) (λ _. read.one opener) nothing
  unfolding opener
  exact-opener = Exact-one opener (record { kind = token.Word; text = codes "next"; place = 0 }) Next nothing refl

  exact-number : Exact q n l (λ _. rule.one number) (λ _. read.one number) nothing
  unfolding number
  exact-number = Exact-one number (record { kind = token.Number; text = codes "0"; place = 0 }) 0 nothing refl

  -- ---- in parentheses

  exact-named : Exact q n l (λ _. grammar.named) (λ _. reader.named) nothing
  unfolding reader.named
  exact-named =
      Exact-last _ _ _ _ nothing (exact-symbol (codes "(") nothing refl) (λ _.
      Exact-last _ _ _ _ nothing exact-stage_name (λ name.
      Exact-last _ _ _ _ nothing (exact-symbol (codes ")") nothing refl) (λ _. Exact-pure name nothing)))

  exact-of_name : Exact q n l (λ _. grammar.of_name) (λ _. reader.of_name) nothing
  unfolding grammar.of_name reader.of_name
  exact-of_name =
      Exact-last _ _ _ _ nothing (exact-word (codes "of") nothing refl) (λ _.
      Exact-last _ _ _ _ nothing (exact-symbol (codes "(") nothing refl) (λ _.
      Exact-last _ _ _ _ nothing exact-any_word (λ name.
      Exact-last _ _ _ _ nothing (exact-symbol (codes ")") nothing refl) (λ _. Exact-pure name nothing))))

  exact-opener_named : Exact q n l (λ _. grammar.opener_named) (λ _. reader.opener_named) nothing
  unfolding grammar.opener_named reader.opener_named
  exact-opener_named =
      Exact-last _ _ _ _ nothing exact-opener (λ how.
      Exact-last _ _ _ _ nothing (exact-symbol (codes "(") nothing refl) (λ _.
      Exact-last _ _ _ _ nothing exact-stage_name (λ name.
      Exact-last _ _ _ _ nothing (exact-symbol (codes ")") nothing refl) (λ _. Exact-pure (how, name) nothing))))

  exact-limited : (text : List ℕ) → only (word text) (record { kind = token.Word; text = text; place = 0 }) ≡ Some tt
      → Exact q n l (λ _. grammar.limited text) (λ _. reader.limited text) nothing
  unfolding grammar.limited reader.limited
  exact-limited text is =
      Exact-last _ _ _ _ nothing (exact-word text nothing is) (λ _.
      Exact-last _ _ _ _ nothing (exact-symbol (codes "(") nothing refl) (λ _.
      Exact-last _ _ _ _ nothing (Exact-placed _ _ nothing (λ k. takes-one number) exact-number) (λ found.
      Exact-last _ _ _ _ nothing (exact-symbol (codes ")") nothing refl) (λ _. Exact-pure (grammar.placed_number found) nothing))))

  exact-gap_behind : Exact q n l (λ _. gap_behind) (λ _. reader.gap_behind) dot
  unfolding reader.gap_behind
  exact-gap_behind =
      Exact-maybe dot _ _ dot
      (Exact-narrower _ _ nothing dot (Exact-last _ _ _ _ nothing (exact-symbol (codes ".") nothing refl)
      (λ _. exact-limited (codes "withinGap") refl)) (λ ts e. stops_nothing ts))
      (λ k. starts-then _ _ dot (starts-symbol (codes "."))) (λ ts e. e)

  pub exact-ending : Exact q n l (λ _. ending) (λ _. reader.ending) dot
  unfolding reader.ending
  exact-ending =
      Exact-choose (word (codes "within")) _ _ _ _ dot
      (Exact-last _ _ _ _ dot (exact-limited (codes "within") refl) (λ within. Exact-made (both_limits within) _ _ dot exact-gap_behind))
      (Exact-made gap_alone _ _ dot (Exact-narrower _ _ nothing dot (exact-limited (codes "withinGap") refl) (λ ts e. stops_nothing ts)))
      (λ k. starts-then _ _ (word (codes "within")) (starts-limited (codes "within")))
      (λ k used rest a h stops. ending_no_within.stops used rest a h)

  exact-upper : Exact q n l (λ _. rule.maybe (rule.◌>>◌ (rule.sign (codes ",")) (rule.one number))) (λ _. reader.upper) comma
  unfolding reader.upper
  exact-upper =
      Exact-maybe comma _ _ comma
      (Exact-narrower _ _ nothing comma (Exact-last _ _ _ _ nothing (exact-symbol (codes ",") nothing refl) (λ _. exact-number)) (λ ts e. stops_nothing ts))
      (λ k. starts-then _ _ comma (starts-symbol (codes ","))) (λ ts e. e)

  exact-times : Exact q n l (λ _. grammar.times) (λ _. reader.times) nothing
  unfolding grammar.times reader.times
  exact-times =
      Exact-last _ _ _ _ nothing (exact-symbol (codes "(") nothing refl) (λ _.
      Exact-last _ _ _ _ nothing exact-number (λ from.
      Exact-before _ _ _ _ comma nothing close exact-upper
      (λ to. Exact-last _ _ _ _ nothing (exact-symbol (codes ")") nothing refl) (λ _. Exact-pure (Times from to) nothing))
      (λ k to. starts-close _) (λ t e. same_symbol (codes ")") (codes ",") t e)))

  exact-times_or_more : Exact q n l (λ _. grammar.times_or_more) (λ _. reader.times_or_more) nothing
  unfolding grammar.times_or_more reader.times_or_more
  exact-times_or_more =
      Exact-last _ _ _ _ nothing (exact-symbol (codes "(") nothing refl) (λ _.
      Exact-last _ _ _ _ nothing exact-number (λ from.
      Exact-last _ _ _ _ nothing (exact-symbol (codes ")") nothing refl) (λ _. Exact-pure (TimesOrMore from) nothing)))

  exact-bare : (what : ModKind) → Exact q n l (λ _. grammar.bare what) (λ _. reader.bare what) nothing
  unfolding grammar.bare reader.bare
  exact-bare what =
      Exact-last _ _ _ _ nothing (exact-symbol (codes "(") nothing refl) (λ _.
      Exact-last _ _ _ _ nothing (exact-symbol (codes ")") nothing refl) (λ _. Exact-pure what nothing))

  exact-skip_name : Exact q n l (λ _. to_name) (λ _. reader.skip_name) nothing
  unfolding reader.skip_name
  exact-skip_name =
      Exact-branch (codes "to_first") _ _ _ _ nothing refl
      (Exact-made ToFirst _ _ nothing exact-named)
      (Exact-last _ _ _ _ nothing (exact-word (codes "to_last") nothing refl) (λ _. Exact-made ToLast _ _ nothing exact-named))
      (λ k. avoids-words (codes "to_last" ∷ []) (codes "to_first") _ refl (starts-last (codes "to_last") _))

  exact-skip_kind : Exact q n l (λ _. grammar.skip_kind) (λ _. reader.skip_kind) nothing
  unfolding reader.skip_kind
  exact-skip_kind =
      Exact-branch (codes "none") _ _ _ _ nothing refl (Exact-pure No nothing)
      (Exact-branch (codes "to_next") _ _ _ _ nothing refl (Exact-pure ToNext nothing)
      (Exact-branch (codes "past_last") _ _ _ _ nothing refl (Exact-pure PastLast nothing) exact-skip_name
      (λ k. avoids-words last_two (codes "past_last") _ refl starts-two))
      (λ k. avoids-words (codes "past_last" ∷ last_two) (codes "to_next") _ refl (starts-branch (codes "past_last") last_two _ _ starts-two)))
      (λ k. avoids-words (codes "to_next" ∷ codes "past_last" ∷ last_two) (codes "none") _ refl
      (starts-branch (codes "to_next") (codes "past_last" ∷ last_two) _ _ (starts-branch (codes "past_last") last_two _ _ starts-two)))

  exact-skip : Exact q n l (λ _. grammar.skip) (λ _. reader.skip) nothing
  unfolding grammar.skip reader.skip
  exact-skip =
      Exact-last _ _ _ _ nothing (exact-word (codes "skip") nothing refl) (λ _.
      Exact-last _ _ _ _ nothing exact-skip_kind (λ what.
      Exact-last _ _ _ _ nothing (exact-symbol (codes ";") nothing refl) (λ _. Exact-pure what nothing)))

pub starts-skip : StartsWith grammar.skip (word (codes "skip"))
unfolding grammar.skip
starts-skip = starts-then _ _ (word (codes "skip")) (starts-word (codes "skip"))

-- ---- expressions in parentheses

abbrev pub deep : ℕ → Rule SynExpr
deep = expression_within

module _ {q : Bool} {n : ℕ} where
  exact-condition : Exact q n n (λ k. grammar.condition (deep k)) reader.condition nothing
  unfolding grammar.condition reader.condition
  exact-condition =
      Exact-last _ _ _ _ nothing (exact-symbol (codes "(") nothing refl) (λ _.
      Exact-before _ _ _ _ goes_on nothing close (exact-expression n)
      (λ e. Exact-last _ _ _ _ nothing (exact-symbol (codes ")") nothing refl) (λ _. Exact-pure e nothing))
      (λ k e. starts-close _) close_ends)

-- ---- modifiers: the words of each group, with those of the groups behind it

abbrev pub until_words : List (List ℕ)
until_words = codes "until" ∷ []

abbrev pub mode_words : List (List ℕ)
mode_words = codes "consecutive" ∷ codes "allowCombinations" ∷ until_words

abbrev pub bare_words : List (List ℕ)
bare_words = codes "oneOrMore" ∷ codes "optional" ∷ mode_words

abbrev pub counted_words : List (List ℕ)
counted_words = codes "times" ∷ codes "timesOrMore" ∷ bare_words

abbrev pub modifier_words : List (List ℕ)
modifier_words = codes "where" ∷ codes "or" ∷ counted_words

module _ (e : Rule SynExpr) where
  abbrev until_rule : Rule ModKind
  until_rule = rule.◌>>◌ (rule.keyword (codes "until")) (rule.◌>>=◌ (grammar.condition e) (λ x. rule.pure (Until x)))

  abbrev combinations_rule : Rule ModKind
  combinations_rule = rule.branch (codes "allowCombinations") (grammar.bare AllowCombinations) until_rule

  abbrev mode_rule : Rule ModKind
  mode_rule = rule.branch (codes "consecutive") (grammar.bare Consecutive) combinations_rule

  abbrev optional_rule : Rule ModKind
  optional_rule = rule.branch (codes "optional") (grammar.bare Optional) mode_rule

  abbrev bare_rule : Rule ModKind
  bare_rule = rule.branch (codes "oneOrMore") (grammar.bare OneOrMore) optional_rule

  abbrev or_more_rule : Rule ModKind
  or_more_rule = rule.branch (codes "timesOrMore") grammar.times_or_more bare_rule

  abbrev counted_rule : Rule ModKind
  counted_rule = rule.branch (codes "times") grammar.times or_more_rule

  abbrev or_rule : Rule ModKind
  or_rule = rule.branch (codes "or") (rule.◌>>=◌ (grammar.condition e) (λ x. rule.pure (Filter Either x))) counted_rule

  starts-until : StartsWith until_rule (one_of until_words)
  starts-until = starts-last (codes "until") _

  starts-combinations : StartsWith combinations_rule (one_of (codes "allowCombinations" ∷ until_words))
  starts-combinations = starts-branch (codes "allowCombinations") until_words _ _ starts-until

  starts-mode : StartsWith mode_rule (one_of mode_words)
  starts-mode = starts-branch (codes "consecutive") (codes "allowCombinations" ∷ until_words) _ _ starts-combinations

  starts-optional : StartsWith optional_rule (one_of (codes "optional" ∷ mode_words))
  starts-optional = starts-branch (codes "optional") mode_words _ _ starts-mode

  starts-bare : StartsWith bare_rule (one_of bare_words)
  starts-bare = starts-branch (codes "oneOrMore") (codes "optional" ∷ mode_words) _ _ starts-optional

  starts-or_more : StartsWith or_more_rule (one_of (codes "timesOrMore" ∷ bare_words))
  starts-or_more = starts-branch (codes "timesOrMore") bare_words _ _ starts-bare

  starts-counted : StartsWith counted_rule (one_of counted_words)
  starts-counted = starts-branch (codes "times") (codes "timesOrMore" ∷ bare_words) _ _ starts-or_more

  starts-or_rule : StartsWith or_rule (one_of (codes "or" ∷ counted_words))
  starts-or_rule = starts-branch (codes "or") counted_words _ _ starts-counted

  starts-modifier_kind : StartsWith (grammar.modifier_kind e) (one_of modifier_words)
  starts-modifier_kind = starts-branch (codes "where") (codes "or" ∷ counted_words) _ _ starts-or_rule

  pub starts-modifier : StartsWith (grammar.modifier e) (one_of modifier_words)
  unfolding grammar.modifier
  starts-modifier = starts-then _ _ (one_of modifier_words) (starts-placed _ (one_of modifier_words) starts-modifier_kind)

module _ {q : Bool} {n : ℕ} where
  exact-until : Exact q n n (λ k. until_rule (deep k)) reader.until_kind nothing
  unfolding reader.until_kind
  exact-until = Exact-last _ _ _ _ nothing (exact-word (codes "until") nothing refl) (λ _. Exact-made Until _ _ nothing exact-condition)

  exact-mode : Exact q n n (λ k. mode_rule (deep k)) reader.mode_kind nothing
  unfolding reader.mode_kind
  exact-mode =
      Exact-branch (codes "consecutive") _ _ _ _ nothing refl (exact-bare Consecutive)
      (Exact-branch (codes "allowCombinations") _ _ _ _ nothing refl (exact-bare AllowCombinations) exact-until
      (λ k. avoids-words until_words (codes "allowCombinations") _ refl (starts-until (deep k))))
      (λ k. avoids-words (codes "allowCombinations" ∷ until_words) (codes "consecutive") _ refl (starts-combinations (deep k)))

  exact-bare_kind : Exact q n n (λ k. bare_rule (deep k)) reader.bare_kind nothing
  unfolding reader.bare_kind
  exact-bare_kind =
      Exact-branch (codes "oneOrMore") _ _ _ _ nothing refl (exact-bare OneOrMore)
      (Exact-branch (codes "optional") _ _ _ _ nothing refl (exact-bare Optional) exact-mode
      (λ k. avoids-words mode_words (codes "optional") _ refl (starts-mode (deep k))))
      (λ k. avoids-words (codes "optional" ∷ mode_words) (codes "oneOrMore") _ refl (starts-optional (deep k)))

  exact-counted : Exact q n n (λ k. counted_rule (deep k)) reader.counted_kind nothing
  unfolding reader.counted_kind
  exact-counted =
      Exact-branch (codes "times") _ _ _ _ nothing refl exact-times
      (Exact-branch (codes "timesOrMore") _ _ _ _ nothing refl exact-times_or_more exact-bare_kind
      (λ k. avoids-words bare_words (codes "timesOrMore") _ refl (starts-bare (deep k))))
      (λ k. avoids-words (codes "timesOrMore" ∷ bare_words) (codes "times") _ refl (starts-or_more (deep k)))

  exact-modifier_kind : Exact q n n (λ k. grammar.modifier_kind (deep k)) reader.modifier_kind nothing
  unfolding reader.modifier_kind
  exact-modifier_kind =
      Exact-branch (codes "where") _ _ _ _ nothing refl (Exact-made (Filter Both) _ _ nothing exact-condition)
      (Exact-branch (codes "or") _ _ _ _ nothing refl (Exact-made (Filter Either) _ _ nothing exact-condition) exact-counted
      (λ k. avoids-words counted_words (codes "or") _ refl (starts-counted (deep k))))
      (λ k. avoids-words (codes "or" ∷ counted_words) (codes "where") _ refl (starts-or_rule (deep k)))

  exact-modifier : Exact q n n (λ k. grammar.modifier (deep k)) reader.modifier nothing
  unfolding grammar.modifier reader.modifier
  exact-modifier =
      Exact-made grammar.placed_modifier _ _ nothing
      (Exact-placed _ _ nothing (λ k. takes-starts _ (one_of modifier_words) (starts-modifier_kind (deep k))) exact-modifier_kind)

  pub exact-modifier_link : Exact q n n (λ k. modifier_link (deep k)) reader.modifier_link nothing
  unfolding reader.modifier_link
  exact-modifier_link = Exact-made Mod _ _ nothing exact-modifier

  pub exact-open_link : Exact q n n (λ _. open_link) (λ _. reader.open_link) nothing
  unfolding reader.open_link
  exact-open_link = Exact-made (λ found. Open found.0 found.1) _ _ nothing exact-opener_named

  pub exact-of_link : Exact q n n (λ _. of_link) (λ _. reader.of_link) nothing
  unfolding reader.of_link
  exact-of_link = Exact-made Of _ _ nothing exact-of_name

-- ---- types

abbrev goes_on_fields : Lexeme → Bool
goes_on_fields t = comma t || is_any_word t

field_parts : (ts : Left) → Stops goes_on_fields ts → (Stops comma ts) × (Stops is_any_word ts)
field_parts [] e = (refl, refl)
field_parts (t ∷ ts) e = or_false (comma t) (is_any_word t) e

starts-field : StartsWith grammar.field is_any_word
unfolding grammar.field
starts-field = starts-then _ _ is_any_word starts-any_word

module _ {q : Bool} {n : ℕ} where
  exact-field : Exact q n n (λ _. grammar.field) (λ _. reader.field) nothing
  unfolding grammar.field reader.field
  exact-field = Exact-last _ _ _ _ nothing exact-any_word (λ name. Exact-made (λ kind. record { name = name; kind = kind }) _ _ nothing exact-kind_of)

  exact-next_field : Exact q n n (λ _. rule.◌>>◌ (rule.sign (codes ",")) grammar.field) (λ _. reader.next_field) nothing
  unfolding reader.next_field
  exact-next_field = Exact-last _ _ _ _ nothing (exact-symbol (codes ",") nothing refl) (λ _. exact-field)

  exact-more_fields : Exact q n n (λ _. rule.many (rule.◌>>◌ (rule.sign (codes ",")) grammar.field)) reader.more_fields comma
  exact-more_fields =
      Exact-many comma _ _ nothing comma exact-next_field
      (λ k. takes-then _ _ (takes-one (only comma))) (λ k. starts-then _ _ comma (starts-symbol (codes ",")))
      (λ ts e. stops_nothing ts) (λ ts e. stops_nothing ts) (λ ts e. e)

  exact-fields : Exact q n n (λ _. grammar.fields) reader.fields goes_on_fields
  unfolding grammar.fields reader.fields
  exact-fields =
      Exact-choose is_any_word _ _ _ _ goes_on_fields
      (Exact-last _ _ _ _ goes_on_fields exact-field
      (λ first. Exact-made (λ more. first ∷ more) _ _ goes_on_fields
      (Exact-narrower _ _ comma goes_on_fields exact-more_fields (λ ts e. (field_parts ts e).0))))
      (Exact-pure [] goes_on_fields)
      (λ k. starts-then _ _ is_any_word starts-field)
      (λ k used rest a h stops. subst (λ ts. Stops is_any_word (ts ++ rest)) (sym h.0) (field_parts rest stops).1)

  exact-declaration : Exact q n n (λ _. grammar.declaration) reader.declaration nothing
  unfolding grammar.declaration reader.declaration
  exact-declaration =
      Exact-last _ _ _ _ nothing (exact-word (codes "event") nothing refl) (λ _.
      Exact-last _ _ _ _ nothing exact-any_word (λ name.
      Exact-last _ _ _ _ nothing (exact-symbol (codes "(") nothing refl) (λ _.
      Exact-before _ _ _ _ goes_on_fields nothing close exact-fields
      (λ found.
      Exact-last _ _ _ _ nothing (exact-symbol (codes ")") nothing refl) (λ _.
      Exact-last _ _ _ _ nothing (exact-symbol (codes ";") nothing refl) (λ _. Exact-pure (record { name = name; fields = found }) nothing)))
      (λ k found. starts-close _) (λ t e. neither (comma t) (is_any_word t) (same_symbol (codes ")") (codes ",") t e) (symbol_is_not_any_word (codes ")") t e)))))

pub starts-declaration : StartsWith grammar.declaration (word (codes "event"))
unfolding grammar.declaration
starts-declaration = starts-then _ _ (word (codes "event")) (starts-word (codes "event"))

module _ {q : Bool} {n : ℕ} where
  pub exact-declarations : Exact q n n (λ _. rule.many grammar.declaration) reader.declarations (word (codes "event"))
  exact-declarations =
      Exact-many (word (codes "event")) _ _ nothing (word (codes "event")) exact-declaration (λ k. takes-starts _ (word (codes "event")) starts-declaration) (λ k. starts-declaration)
      (λ ts e. stops_nothing ts) (λ ts e. stops_nothing ts) (λ ts e. e)

  -- ---- the select

  exact-next_shown : Exact q n n (λ k. rule.◌>>◌ (rule.sign (codes ",")) (deep k)) reader.next_shown goes_on
  unfolding reader.next_shown
  exact-next_shown = Exact-last _ _ _ _ goes_on (exact-symbol (codes ",") nothing refl) (λ _. exact-expression n)

abbrev goes_on_shown : Lexeme → Bool
goes_on_shown t = comma t || goes_on t

shown_parts : (ts : Left) → Stops goes_on_shown ts → (Stops comma ts) × (Stops goes_on ts)
shown_parts [] e = (refl, refl)
shown_parts (t ∷ ts) e = or_false (comma t) (goes_on t) e

comma_stops : (ts : Left) → next_is comma ts ≡ true → Stops goes_on ts
comma_stops [] e = refl
comma_stops (t ∷ ts) e = comma_ends t e

-- behind an expression of a list an expression's own signs do not come
more_shown-stops : (k : ℕ) (back rest : Left) (all : List SynExpr) → rule.many (rule.◌>>◌ (rule.sign (codes ",")) (deep k)) back all → Stops goes_on_shown rest → Stops goes_on (back ++ rest)
more_shown-stops k back rest [] h stops = subst (λ ts. Stops goes_on (ts ++ rest)) (sym h) (shown_parts rest stops).1
more_shown-stops k back rest (a ∷ all) h stops =
    let e : back ++ rest ≡ h.0 ++ (h.1 ++ rest) = ap (λ ts. ts ++ rest) h.2 ∙ append_assoc h.0 h.1 rest in
    comma_stops (back ++ rest) (ap (next_is comma) e ∙ (starts-then (rule.sign (codes ",")) _ comma (starts-symbol (codes ","))).begins h.0 (h.1 ++ rest) a h.3)

pub starts-select : (e : Rule SynExpr) → StartsWith (grammar.select e) (word (codes "select"))
unfolding grammar.select
starts-select e = starts-then _ _ (word (codes "select")) (starts-word (codes "select"))

semicolon_behind : (ts : Left) → next_is (symbol (codes ";")) ts ≡ true → Stops goes_on_shown ts
semicolon_behind [] e = refl
semicolon_behind (t ∷ ts) e = neither (comma t) (goes_on t) (same_symbol (codes ";") (codes ",") t e) (semicolon_ends t e)

module _ {q : Bool} {n : ℕ} where
  exact-more_shown : Exact q n n (λ k. rule.many (rule.◌>>◌ (rule.sign (codes ",")) (deep k))) reader.more_shown goes_on_shown
  exact-more_shown =
      Exact-many comma _ _ goes_on goes_on_shown exact-next_shown
      (λ k. takes-then _ _ (takes-one (only comma))) (λ k. starts-then _ _ comma (starts-symbol (codes ",")))
      comma_stops (λ ts e. (shown_parts ts e).1) (λ ts e. (shown_parts ts e).0)

  exact-select : Exact q n n (λ k. grammar.select (deep k)) reader.select nothing
  unfolding grammar.select reader.select
  exact-select =
      Exact-last _ _ _ _ nothing (exact-word (codes "select") nothing refl) (λ _.
      Exact-then _ _ _ _ goes_on nothing (exact-expression n)
      (λ first.
      Exact-before _ _ _ _ goes_on_shown nothing (symbol (codes ";")) exact-more_shown
      (λ more. Exact-last _ _ _ _ nothing (exact-symbol (codes ";") nothing refl) (λ _. Exact-pure (first ∷ more) nothing))
      (λ k more. starts-semicolon _) (λ t e. neither (comma t) (goes_on t) (same_symbol (codes ";") (codes ",") t e) (semicolon_ends t e)))
      (λ k first all back rest h stops.
      let is : back ++ rest ≡ h.front ++ (h.back ++ rest) = ap (λ ts. ts ++ rest) h.is ∙ append_assoc h.front h.back rest in
      subst (Stops goes_on) (sym is) (more_shown-stops k h.front (h.back ++ rest) h.value h.first
      (semicolon_behind (h.back ++ rest) ((starts-semicolon _).begins h.back rest all h.second)))))

  pub exact-maybe_skip : Exact q n n (λ _. rule.maybe grammar.skip) (λ _. reader.maybe_skip) (word (codes "skip"))
  unfolding reader.maybe_skip
  exact-maybe_skip =
      Exact-maybe (word (codes "skip")) _ _ (word (codes "skip")) (Exact-narrower _ _ nothing (word (codes "skip")) exact-skip (λ ts e. stops_nothing ts)) (λ k. starts-skip) (λ ts e. e)

  pub exact-maybe_select : Exact q n n (λ k. rule.maybe (grammar.select (deep k))) reader.maybe_select (word (codes "select"))
  unfolding reader.maybe_select
  exact-maybe_select =
      Exact-maybe (word (codes "select")) _ _ (word (codes "select")) (Exact-narrower _ _ nothing (word (codes "select")) exact-select (λ ts e. stops_nothing ts)) (λ k. starts-select (deep k)) (λ ts e. e)
