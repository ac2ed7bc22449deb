-- What one token of an expression can stand for.
use Rattle.std.specs.Prelude.{ℕ, Bool, true, false, ◌||◌, if◌then◌else◌, List, [], ◌∷◌, codes, Option, Some, None}
use Rattle.std.specs.Str.{bytes_eq}
use Rattle.cep_token.specs.declared.token.TokenKind.{TokenKind}
use Rattle.cep_token.specs.declared.token.TokenKind.TheVariants as token
use Rattle.cep_token.specs.Piece.{value_of}
use Rattle.cep_token.specs.Content.{content_of}
use Rattle.cep_reading.specs.Lexeme.{Lexeme}
use Rattle.cep_reading.specs.Terminal.{symbol}
use Rattle.cep_expression.specs.declared.aggregate.Call.{Call}
use Rattle.cep_expression.specs.declared.aggregate.Call.TheVariants.{Count as CountOf, Edge, Total}
use Rattle.cep_expression.specs.declared.expr.Agg.TheVariants as agg
use Rattle.cep_expression.specs.declared.expr.Cmp.{Cmp}
use Rattle.cep_expression.specs.declared.expr.Cmp.TheVariants as cmp
use Rattle.cep_expression.specs.declared.expr.How.{How}
use Rattle.cep_expression.specs.declared.expr.How.TheVariants as how
use Rattle.cep_expression.specs.declared.expr.SynNode.{SynNode}
use Rattle.cep_expression.specs.declared.expr.SynNode.TheVariants as node
use Rattle.cep_expression.specs.declared.sign.Prefix.{Prefix}
use Rattle.cep_expression.specs.declared.sign.Prefix.TheVariants as prefix

-- ---- constants and words

abbrev pub constant_by : TokenKind → List ℕ → Option SynNode
constant_by token.Number text = Some (node.Int (value_of text))
constant_by token.Literal text = Some (node.Text (content_of text))
constant_by _ text = None

-- a Number or a Literal
unfoldable pub constant : Lexeme → Option SynNode
constant t = constant_by t.kind t.text

-- the Words `true` and `false` are the truth values, and every other Word is a field
abbrev pub plain_word : List ℕ → ℕ → SynNode
plain_word text place =
    if bytes_eq text (codes "true") then node.Bool true
    else (if bytes_eq text (codes "false") then node.Bool false
    else node.Field (record { text = text; place = place }))

abbrev pub plain_by : TokenKind → List ℕ → ℕ → Option SynNode
plain_by token.Word text place = Some (plain_word text place)
plain_by _ text place = None

unfoldable pub plain : Lexeme → Option SynNode
plain t = plain_by t.kind t.text t.place

-- "count"; "first" and "last"; "sum", "min" and "max"
abbrev pub call_of : List ℕ → Option Call
call_of text =
    if bytes_eq text (codes "count") then Some CountOf
    else (if bytes_eq text (codes "first") then Some (Edge agg.First)
    else (if bytes_eq text (codes "last") then Some (Edge agg.Last)
    else (if bytes_eq text (codes "sum") then Some (Total agg.Sum)
    else (if bytes_eq text (codes "min") then Some (Total agg.Min)
    else (if bytes_eq text (codes "max") then Some (Total agg.Max)
    else None)))))

abbrev pub call_by : TokenKind → List ℕ → Option Call
call_by token.Word text = call_of text
call_by _ text = None

-- the word of an aggregate
unfoldable pub call : Lexeme → Option Call
call t = call_by t.kind t.text

-- what a Word says by itself, and as an aggregate's
abbrev pub meaning_by : TokenKind → List ℕ → ℕ → Option (Option Call × SynNode)
meaning_by token.Word text place = Some (call_of text, plain_word text place)
meaning_by _ text place = None

unfoldable pub meaning : Lexeme → Option (Option Call × SynNode)
meaning t = meaning_by t.kind t.text t.place

-- ---- signs

-- one of the symbols with these texts
abbrev pub some_symbol : List (List ℕ) → Lexeme → Bool
some_symbol [] t = false
some_symbol (text ∷ texts) t = symbol text t || some_symbol texts t

-- "!" and "-"
unfoldable pub prefix_sign : Lexeme → Option Prefix
prefix_sign t = if symbol (codes "!") t then Some prefix.Not else (if symbol (codes "-") t then Some prefix.Neg else None)

abbrev pub is_prefix_sign : Lexeme → Bool
is_prefix_sign = some_symbol (codes "!" ∷ codes "-" ∷ [])

-- "*", "/" and "%"
unfoldable pub factor_sign : Lexeme → Option How
factor_sign t =
    if symbol (codes "*") t then Some how.Times else (if symbol (codes "/") t then Some how.Over else (if symbol (codes "%") t then Some how.Rest else None))

abbrev pub is_factor_sign : Lexeme → Bool
is_factor_sign = some_symbol (codes "*" ∷ codes "/" ∷ codes "%" ∷ [])

-- "+" and "-", which is a minus
unfoldable pub term_sign : Lexeme → Option Bool
term_sign t = if symbol (codes "+") t then Some false else (if symbol (codes "-") t then Some true else None)

abbrev pub is_term_sign : Lexeme → Bool
is_term_sign = some_symbol (codes "+" ∷ codes "-" ∷ [])

-- "==", "!=", "<", "<=", ">" and ">="
unfoldable pub comparator : Lexeme → Option Cmp
comparator t =
    if symbol (codes "==") t then Some cmp.Eq
    else (if symbol (codes "!=") t then Some cmp.Ne
    else (if symbol (codes "<") t then Some cmp.Lt
    else (if symbol (codes "<=") t then Some cmp.Le
    else (if symbol (codes ">") t then Some cmp.Gt
    else (if symbol (codes ">=") t then Some cmp.Ge
    else None)))))

abbrev pub is_comparator : Lexeme → Bool
is_comparator = some_symbol (codes "==" ∷ codes "!=" ∷ codes "<" ∷ codes "<=" ∷ codes ">" ∷ codes ">=" ∷ [])
