-- What the rows that were handled leave.
use Rattle.std.specs.Prelude.{◌≡◌, ◌⊎◌, ℕ, ◌+◌, List, [], ◌∷◌, ◌++◌, length, Some, None, Result, Ok, Err}
use Rattle.cep_session.specs.Handling.{Given, Adds, AddsPart, IsPartAdded}
use Rattle.cep_session.specs.Meaning.{Meaning}
use Rattle.cep_session.specs.declared.rows.Rows.{Rows}
use Rattle.cep_session.specs.declared.ending.Ending.{Ending}
use Rattle.cep_session.specs.declared.ending.Ending.TheVariants.{Done, NoMemory, BadRow, TooManyRows, ReadFault, WriteFault}

-- with this meaning, these lines were handled
pub record Stands {H U : Type 0} (stands : H → Meaning U → List (List ℕ) → Type 0) (m : Meaning U) (lines : List (List ℕ)) (rows : Rows H) : Type 0 where
  pub handler : stands rows.handler m lines
  pub count : rows.handled ≡ length lines

-- the answer to a line that comes after these, and what was given
abbrev pub IsTaken : {U : Type 0} → Meaning U → List (List ℕ) → List ℕ → (List (List ℕ) → Type 0) → Given U → Given U → Result Unit Ending → Type 0
IsTaken m lines line stands_now before now (Ok done) =
    (m.refusal lines line ≡ None)
    × stands_now (lines ++ line ∷ [])
    × Adds before now (m.text.caused lines line) (m.shown.caused lines line)
IsTaken m lines line stands_now before now (Err (BadRow row cause)) =
    (row ≡ length lines + 1) × (m.refusal lines line ≡ Some cause) × (now ≡ before)
IsTaken m lines line stands_now before now (Err WriteFault) = IsPartAdded m lines line before now
IsTaken m lines line stands_now before now (Err NoMemory) = (now ≡ before) ⊎ IsPartAdded m lines line before now
IsTaken m lines line stands_now before now (Err Done) = ⊥
IsTaken m lines line stands_now before now (Err TooManyRows) = ⊥
IsTaken m lines line stands_now before now (Err ReadFault) = ⊥

-- the answer to the end of the lines, and what was given
abbrev pub IsFinished : {U : Type 0} → Meaning U → List (List ℕ) → Given U → Given U → Ending → Type 0
IsFinished m lines before now Done = Adds before now (m.text.owed lines) (m.shown.owed lines)
IsFinished m lines before now WriteFault = AddsPart before now (m.text.owed lines) (m.shown.owed lines)
IsFinished m lines before now NoMemory = AddsPart before now (m.text.owed lines) (m.shown.owed lines)
IsFinished m lines before now (BadRow row cause) = ⊥
IsFinished m lines before now TooManyRows = ⊥
IsFinished m lines before now ReadFault = ⊥
