-- The rows of contents may be saved: each has a cell, and none is damaged.
use Rattle.std.proofs.Common.{◌≡◌, refl, ◌∙◌, ℕ, ℤ, true, List, [], ◌∷◌, ◌++◌, map}
use Rattle.std.specs.Prelude.{Option, Some, None}
use Rattle.std.specs.List.{list_all}
use Rattle.std.proofs.lemmas.Bool.{and_from}
use Rattle.std.proofs.lemmas.List.Folds.{list_all-append}
use Rattle.cep_event.specs.declared.event.Event.{Event}
use Rattle.cep_event.specs.declared.value.Value.{Value}
use Rattle.cep_event.specs.declared.value.Value.TheVariants as value
use Rattle.cep_keeper.specs.declared.row.SavedRow.{SavedRow}
use Rattle.cep_keeper.specs.declared.recent.Tick.{Tick}
use Rattle.cep_keeper.specs.declared.recent.Tick.TheVariants as tick
use Rattle.cep_keeper.specs.declared.saved.Saved.{Saved}
use Rattle.cep_keeper.specs.Rows.{value_cell, number_cell, head_row, key_row, tick_row, pending_row, saved_rows}
use Rattle.cep_keeper.specs.Stored.{is_intact, is_storable}

value_intact : (v : Value) → is_intact (value_cell v) ≡ true
value_intact (value.Int n) = refl
value_intact (value.Text t) = refl

number_intact : (n : Option ℤ) → is_intact (number_cell n) ≡ true
number_intact None = refl
number_intact (Some n) = refl

values_intact : (vs : List Value) → list_all is_intact (map value_cell vs) ≡ true
values_intact [] = refl
values_intact (v ∷ vs) = and_from _ _ (value_intact v) (values_intact vs)

all : {X : Type 0} (f : X → SavedRow) → ((x : X) → is_storable (f x) ≡ true) → (xs : List X) → list_all is_storable (map f xs) ≡ true
all f each [] = refl
all f each (x ∷ xs) = and_from _ _ (each x) (all f each xs)

head_storable : (text : List ℕ) (saved : Saved) → is_storable (head_row text saved) ≡ true
head_storable text saved = and_from _ _ (number_intact saved.mark) (and_from _ _ (number_intact saved.greatest) refl)

key_storable : (key : Value) → is_storable (key_row key) ≡ true
key_storable key = and_from _ _ (value_intact key) refl

tick_storable : (t : Tick) → is_storable (tick_row t) ≡ true
tick_storable (tick.Event event position) = and_from _ _ refl (values_intact event.values)
tick_storable (tick.Mark time) = refl

pending_storable : (event : Event) → is_storable (pending_row event) ≡ true
pending_storable event = and_from _ _ refl (values_intact event.values)

pub rows_storable : (text : List ℕ) (saved : Saved) → list_all is_storable (saved_rows text saved) ≡ true
rows_storable text saved =
    let heads = head_row text saved ∷ [] in
    let keys = map key_row saved.keys in
    let ticks = map tick_row saved.recent in
    let waiting = map pending_row saved.pending in
    list_all-append is_storable (heads ++ keys ++ ticks) waiting
    ∙ and_from _ _
    (list_all-append is_storable (heads ++ keys) ticks
    ∙ and_from _ _ (list_all-append is_storable heads keys ∙ and_from _ _ (and_from _ _ (head_storable text saved) refl)
    (all key_row key_storable saved.keys)) (all tick_row tick_storable saved.recent))
    (all pending_row pending_storable saved.pending)
