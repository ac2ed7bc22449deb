-- What rows give, row by row.
use Rattle.std.proofs.Common.{◌≡◌, sym, ◌∙◌, ap, ℕ, ◌+◌, ◌<◌, List, [], ◌∷◌, ◌++◌, length, get_or, take, drop}
use Rattle.std.specs.Prelude.{Some, None, Result, Ok, Err}
use Rattle.std.specs.Option.{option_map_or}
use Rattle.std.proofs.lemmas.List.{drop_more, take_more}
use Rattle.cep_plan.specs.declared.plan.Plan.{Plan}
use Rattle.cep_keeper.specs.declared.row.SavedRow.{SavedRow}
use Rattle.cep_keeper.specs.declared.saved.Saved.{Saved}
use Rattle.cep_keeper.specs.declared.saved.LoadFault.{LoadFault}
use Rattle.cep_keeper.specs.declared.saved.LoadFault.TheVariants as fault
use Rattle.cep_keeper.specs.declared.reading.Reading.{Reading}
use Rattle.cep_keeper.specs.Rules.{next}
use Rattle.cep_keeper.specs.Restored.{refused, read_on, Answers}

pub Answers-from : (told r : Result Saved LoadFault) → told ≡ r → Answers told r
Answers-from told (Ok saved) h = h
Answers-from told (Err fault.NoMemory) h = tt
Answers-from told (Err (fault.Unreadable table row)) h = h
Answers-from told (Err (fault.OtherPlan saved now)) h = h

pub Answers-along : (one two r : Result Saved LoadFault) → one ≡ two → Answers two r → Answers one r
Answers-along one two (Ok saved) e h = e ∙ h
Answers-along one two (Err fault.NoMemory) e h = tt
Answers-along one two (Err (fault.Unreadable table row)) e h = e ∙ h
Answers-along one two (Err (fault.OtherPlan saved now)) e h = e ∙ h

pub read_next : (plan : Plan) (before : List SavedRow) (r now : Reading) (row : SavedRow) (later : List SavedRow) → next plan r row ≡ Some now
    → read_on plan before r (row ∷ later) ≡ read_on plan (before ++ row ∷ []) now later
read_next plan before r now row later h = ap (λ o. option_map_or (λ now. read_on plan (before ++ row ∷ []) now later) o (Err (refused before row))) h

pub read_broken : (plan : Plan) (before : List SavedRow) (r : Reading) (row : SavedRow) (later : List SavedRow) → next plan r row ≡ None
    → read_on plan before r (row ∷ later) ≡ Err (refused before row)
read_broken plan before r row later h = ap (λ o. option_map_or (λ now. read_on plan (before ++ row ∷ []) now later) o (Err (refused before row))) h

module _ (plan : Plan) (rows : List SavedRow) (place : ℕ) (row : SavedRow) (lt : place < length rows) (is : row ≡ get_or rows place row) where
  behind : drop place rows ≡ row ∷ drop (place + 1) rows
  behind = drop_more rows place row lt ∙ ap (λ x. x ∷ drop (place + 1) rows) (sym is)

  pub read_turn : (r now : Reading) → next plan r row ≡ Some now → read_on plan (take place rows) r (drop place rows)
      ≡ read_on plan (take (place + 1) rows) now (drop (place + 1) rows)
  read_turn r now h =
      ap (read_on plan (take place rows) r) behind ∙ read_next plan (take place rows) r now row (drop (place + 1) rows) h
      ∙ ap (λ l. read_on plan l now (drop (place + 1) rows)) (sym (take_more rows place row lt ∙ ap (λ x. take place rows ++ x ∷ []) (sym is)))

  pub read_stop : (r : Reading) → next plan r row ≡ None → read_on plan (take place rows) r (drop place rows) ≡ Err (refused (take place rows) row)
  read_stop r h = ap (read_on plan (take place rows) r) behind ∙ read_broken plan (take place rows) r row (drop (place + 1) rows) h
