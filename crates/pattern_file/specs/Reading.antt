-- What the bytes of a pattern file are read as, by the grammar (this project's own).
use Rattle.std.specs.Prelude.{◌≤◌, ◌<◌, ℕ, List, length, Result, Ok, Err}
use Rattle.std.specs.Str.{IsUtf8}
use Rattle.std.specs.Str.Lossy.{utf8_valid_len}
use Rattle.cep_syntax.specs.declared.fault.SyntaxFault.{SyntaxFault}
use Rattle.cep_syntax.specs.declared.fault.SyntaxFault.TheVariants.{Bad}
use Rattle.cep_syntax.specs.declared.fault.TheConstants.{TOO_LONG, NOT_UTF8}
use Rattle.cep_syntax.specs.declared.file.File.{File}
use Rattle.cep_syntax.specs.Whole.{IsRefused, IsRead}

-- the bytes are read so: too long a file is refused first, then one that isn't UTF-8, and any other is read by its tokens
pub record AreReadAs (bytes : List ℕ) (answer : Result File SyntaxFault) : Type 0 where
  pub long : 65536 < length bytes → IsRefused 65536 TOO_LONG answer
  pub not_text : length bytes ≤ 65536 → (IsUtf8 bytes → ⊥) → IsRefused (utf8_valid_len bytes) NOT_UTF8 answer
  pub text : length bytes ≤ 65536 → IsUtf8 bytes → IsRead bytes answer

-- the bytes are a pattern file of the grammar, and this is what it says
abbrev pub IsFileIn : List ℕ → File → Type 0
IsFileIn bytes file = AreReadAs bytes (Ok file)

-- the bytes are no pattern file of the grammar, for this code and at this place
abbrev pub IsNoFile : List ℕ → ℕ → ℕ → Type 0
IsNoFile bytes code place = AreReadAs bytes (Err (Bad place code))
