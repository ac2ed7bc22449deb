-- What stands under a name after more rows were saved.
use Rattle.std.proofs.Common.{◌≡◌, refl, sym, ◌∙◌, ap, ℕ, Bool, true, false, if◌then◌else◌, List, [], ◌∷◌, ◌++◌}
use Rattle.std.specs.Prelude.{bytes_eq}
use Rattle.std.proofs.lemmas.List.Sums.{fold-append}
use Rattle.std.proofs.lemmas.Slice.Eq.{bytes_eq-Decides}
use Rattle.cep_keeper.specs.declared.row.SavedRow.{SavedRow}
use Rattle.cep_keeper.specs.declared.memory.Stored.{Stored}
use Rattle.cep_keeper.specs.Stored.{rows_under}

pub rows_under-same : (stores : List Stored) (name : List ℕ) (rows : List SavedRow)
    → rows_under (stores ++ record { name = name; rows = rows } ∷ []) name ≡ rows
rows_under-same stores name rows =
    fold-append (λ found store. if bytes_eq store.name name then store.rows else found) [] stores (record { name = name; rows = rows } ∷ [])
    ∙ ap (λ b. if b then rows else rows_under stores name) ((bytes_eq-Decides name name).1 refl)

pub rows_under-other : (stores : List Stored) (name other : List ℕ) (rows : List SavedRow) → (other ≡ name → ⊥)
    → rows_under (stores ++ record { name = name; rows = rows } ∷ []) other ≡ rows_under stores other
rows_under-other stores name other rows differ =
    fold-append (λ found store. if bytes_eq store.name other then store.rows else found) [] stores (record { name = name; rows = rows } ∷ [])
    ∙ ap (λ b. if b then rows else rows_under stores other) (decided (bytes_eq name other) refl) where
      decided : (b : Bool) → bytes_eq name other ≡ b → b ≡ false
      decided true is = absurd (differ (sym ((bytes_eq-Decides name other).0 is)))
      decided false is = refl
