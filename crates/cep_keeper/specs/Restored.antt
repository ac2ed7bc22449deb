-- What rows state, or the first of them that breaks a rule.
use Rattle.std.specs.Prelude.{◌≡◌, ℕ, ◌+◌, ◌==◌, if◌then◌else◌, List, [], ◌∷◌, ◌++◌, count_by, bytes_eq, Result, Ok, Err}
use Rattle.std.specs.Option.{option_map_or}
use Rattle.cep_plan.specs.declared.plan.Plan.{Plan}
use Rattle.cep_keeper.specs.declared.row.SavedRow.{SavedRow}
use Rattle.cep_keeper.specs.declared.saved.Saved.{Saved}
use Rattle.cep_keeper.specs.declared.saved.LoadFault.{LoadFault}
use Rattle.cep_keeper.specs.declared.saved.LoadFault.TheVariants as fault
use Rattle.cep_keeper.specs.declared.reading.Reading.{Reading}
use Rattle.cep_keeper.specs.Said.{text_of}
use Rattle.cep_keeper.specs.Rules.{no_lines, no_rows, next}

-- a row that breaks a rule, by its table and its number in that table
abbrev pub refused : List SavedRow → SavedRow → LoadFault
refused before row = fault.Unreadable row.table (count_by (λ r. r.table == row.table) before + 1)

-- the rows behind others, which state this
abbrev pub read_on : Plan → List SavedRow → Reading → List SavedRow → Result Saved LoadFault
read_on plan before r [] = Ok r.saved
read_on plan before r (row ∷ later) = option_map_or (λ now. read_on plan (before ++ row ∷ []) now later) (next plan r row) (Err (refused before row))

-- the rows behind the first one, if it is of this plan
abbrev pub read_own : Plan → List ℕ → SavedRow → List SavedRow → Reading → Result Saved LoadFault
read_own plan text first later r =
    if bytes_eq (text_of first) text then read_on plan (first ∷ []) r later else Err (fault.OtherPlan (text_of first) text)

-- What all rows state. The first row comes before the text of the plan, and that before the others.
abbrev pub restored : Plan → List ℕ → List SavedRow → Result Saved LoadFault
restored plan text [] = Ok no_lines
restored plan text (first ∷ later) = option_map_or (read_own plan text first later) (next plan no_rows first) (Err (refused [] first))

-- the answer is this one, or want of memory
abbrev pub Answers : Result Saved LoadFault → Result Saved LoadFault → Type 0
Answers told (Ok saved) = told ≡ Ok saved
Answers told (Err fault.NoMemory) = Unit {0}
Answers told (Err (fault.Unreadable table row)) = told ≡ Err (fault.Unreadable table row)
Answers told (Err (fault.OtherPlan saved now)) = told ≡ Err (fault.OtherPlan saved now)
