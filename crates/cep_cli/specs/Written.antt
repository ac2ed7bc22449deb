-- The rows of what is told, and what a writer makes of them: it gathers them and writes what it gathered.
use Rattle.std.specs.Prelude.{◌≡◌, ◌≤◌, ℕ, List, ◌++◌, length, flat_map, Option, Result, Ok, Err}
use Rattle.std.specs.Io.KnownBytes.{Appends}
use Rattle.cep_outside.specs.Outside.{AppendsPart, Rose}
use Rattle.cep_plan.specs.declared.plan.Plan.{Plan}
use Rattle.cep_select.specs.Output.{row_of, late_row}
use Rattle.event_pipeline.specs.declared.outputs.TellFault.{TellFault}
use Rattle.event_pipeline.specs.declared.outputs.TellFault.TheVariants.{Failed}
use Rattle.event_pipeline.specs.Told.{Told, late_told, item_told}
use Rattle.cep_cli.specs.declared.written.RowWriter.{RowWriter}

abbrev pub row_told : Plan → Told → List ℕ
row_told plan (late_told row) = late_row row
row_told plan (item_told item) = row_of plan item

abbrev pub rows_told : Plan → List Told → List ℕ
rows_told plan told = flat_map (row_told plan) told

-- A row was gathered: the output took some of what was gathered with the row behind it, and the rest is gathered, at most 65,536 bytes.
pub record Gathers {K : Type 0} (taken : K → Option (List ℕ)) (faults : K → ℕ) (a b : RowWriter × K) (row : List ℕ) : Type 0 where
  pub moved : List ℕ
  pub wrote : Appends (taken a.1) (taken b.1) moved
  pub is : a.0.gathered ++ row ≡ moved ++ b.0.gathered
  pub few : length a.0.gathered ≤ 65536 → length b.0.gathered ≤ 65536
  pub later : faults a.1 ≤ faults b.1

-- It wasn't: the output took a front of what was gathered with the row behind it.
pub record IsCut {K : Type 0} (taken : K → Option (List ℕ)) (faults : K → ℕ) (fault : TellFault) (a b : RowWriter × K) (row : List ℕ) : Type 0 where
  pub part : AppendsPart (taken a.1) (taken b.1) (a.0.gathered ++ row)
  pub later : faults a.1 ≤ faults b.1
  pub cause : fault ≡ Failed → Rose (faults a.1) (faults b.1)

abbrev pub IsAdded : {K : Type 0} → (K → Option (List ℕ)) → (K → ℕ) → RowWriter × K → RowWriter × K → List ℕ → Result Unit TellFault → Type 0
IsAdded taken faults a b row (Ok done) = Gathers taken faults a b row
IsAdded taken faults a b row (Err fault) = IsCut taken faults fault a b row
