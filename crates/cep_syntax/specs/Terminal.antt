-- What one token of a file can stand for.
use Rattle.std.specs.Prelude.{Bool, ◌||◌, if◌then◌else◌, codes, Option, Some, None}
use Rattle.cep_event.specs.declared.value.Kind.{Kind}
use Rattle.cep_event.specs.declared.value.Kind.TheVariants as kind
use Rattle.cep_reading.specs.Lexeme.{Lexeme}
use Rattle.cep_reading.specs.Terminal.{word}
use Rattle.cep_syntax.specs.declared.file.OpenKind.{OpenKind}
use Rattle.cep_syntax.specs.declared.file.OpenKind.TheVariants.{Next, FollowedBy, FollowedByAny, NotNext, NotFollowedBy}

-- "int" and "text"
unfoldable pub kind_of : Lexeme → Option Kind
kind_of t = if word (codes "int") t then Some kind.Int else (if word (codes "text") t then Some kind.Text else None)

-- opener = "next" | "followedBy" | "followedByAny" | "notNext" | "notFollowedBy"
unfoldable pub opener : Lexeme → Option OpenKind
opener t =
    if word (codes "next") t then Some Next
    else (if word (codes "followedBy") t then Some FollowedBy
    else (if word (codes "followedByAny") t then Some FollowedByAny
    else (if word (codes "notNext") t then Some NotNext
    else (if word (codes "notFollowedBy") t then Some NotFollowedBy
    else None))))

-- a limit is "within" or "withinGap"
abbrev pub is_limit : Lexeme → Bool
is_limit t = word (codes "within") t || word (codes "withinGap") t

abbrev pub is_opener : Lexeme → Bool
is_opener t =
    word (codes "next") t || (word (codes "followedBy") t || (word (codes "followedByAny") t || (word (codes "notNext") t || word (codes "notFollowedBy") t)))
