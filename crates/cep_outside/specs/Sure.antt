-- What the source and the files in memory answer that never fail (this project's own).
use Rattle.std.specs.Prelude.{ℕ, min, List, [], length, drop, unwrap_or}
use Rattle.cep_outside.specs.Memory.{gives}
use Rattle.cep_outside.specs.Named.{content_of}
use Rattle.cep_outside.specs.declared.named.Named.{Named}
use Rattle.cep_outside.specs.declared.source.Take.{Take}

-- a source that never fails: the bytes left, and the most that a read gives
pub record Flowing : Type 0 where
  pub left : List ℕ
  pub piece : ℕ

-- the answer to a read into a room of this length
abbrev pub sure_take : Flowing → ℕ → Take
sure_take source room = gives (min (min source.piece room) (length source.left))

-- what the source is when so many bytes were taken
abbrev pub flowing_after : Flowing → ℕ → Flowing
flowing_after source count = record { left = drop count source.left; piece = source.piece }

-- what the first file of a name holds, nothing where none has it
abbrev pub sure_content : List Named → List ℕ → List ℕ
sure_content files name = unwrap_or (content_of files name) []
