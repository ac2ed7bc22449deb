-- What the calls of sources, sinks and files do to the bytes that these tell, and when they may fail (this project's own).
use Rattle.std.specs.Prelude.{◌≡◌, ℕ, ◌+◌, ◌-◌, ◌^◌, ◌<◌, ◌≤◌, min, List, ◌++◌, length, take, Option, Some, None}
use Rattle.std.specs.Io.KnownBytes.{Keeps, Appends, Consumes, IsAtEnd}
use Rattle.cep_outside.specs.declared.source.Take.{Take}
use Rattle.cep_outside.specs.declared.source.Take.TheVariants.{Got, End, Failed}

-- A count of faults is greater than before. A count at the greatest u64 stays there and counts as risen.
abbrev pub Rose : ℕ → ℕ → Type 0
Rose before now = min (before + 1) (2 ^ 64 - 1) ≤ now

-- no fault was counted
abbrev pub DidNotRise : ℕ → ℕ → Type 0
DidNotRise before now = Rose before now → ⊥

-- what a read does to the bytes left: it takes those that it gives, and the end comes only where none is left
abbrev pub Takes : Option (List ℕ) → Option (List ℕ) → Take → List ℕ → Type 0
Takes before now (Got count) room = (0 < count) × (count ≤ length room) × Consumes before now (take count room)
Takes before now End room = Keeps before now × IsAtEnd now
Takes before now Failed room = Keeps before now

-- the front of a room holds as much of a file as there is, or as fits
abbrev pub IsLoaded : Option (List ℕ) → ℕ → List ℕ → Type 0
IsLoaded None count room = count ≤ length room
IsLoaded (Some bytes) count room = (count ≡ min (length bytes) (length room)) × (take count room ≡ take count bytes)

-- known bytes grow by a front of these, all of them or fewer
pub record AppendsPart (before now : Option (List ℕ)) (bytes : List ℕ) : Type 0 where
  pub front : List ℕ
  pub back : List ℕ
  pub is : bytes ≡ front ++ back
  pub appends : Appends before now front
