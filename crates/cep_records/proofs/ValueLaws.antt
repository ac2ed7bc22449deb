-- Values read one after the other.
use Rattle.std.proofs.Common.{◌≡◌, ◌<◌, ◌+◌, ◌++◌, ◌∙◌, ℕ, zero, suc, List, [], ◌∷◌, add-one, refl, sym, ap, arith, append_assoc, length, get_or, drop, Some}
use Rattle.std.specs.Prelude.{Option, Result, Ok, Err}
use Rattle.std.proofs.lemmas.List.{append-nil}
use Rattle.cep_event.specs.declared.event.Field.{Field}
use Rattle.cep_event.specs.declared.value.Value.{Value}
use Rattle.cep_rows.specs.declared.cause.RowCause.{RowCause}
use Rattle.cep_records.specs.Record.{field_at, value_in, value_and_values, values_in}

-- values, with these before them
abbrev pub behind : List Value → Result (List Value) RowCause → Result (List Value) RowCause
behind front (Ok values) = Ok (front ++ values)
behind front (Err cause) = Err cause

behind-more : (front : List Value) (number : ℕ) (v : Value) (rest : Result (List Value) RowCause)
    → behind front (value_and_values number (Some v) rest) ≡ behind (front ++ v ∷ []) rest
behind-more front number v (Ok values) = ap Ok (sym (append_assoc front (v ∷ []) values))
behind-more front number v (Err cause) = refl

pub behind-all : (front : List Value) (number : ℕ) (fields : List Field) (texts : List (List ℕ)) → fields ≡ []
    → behind front (values_in number fields texts) ≡ Ok front
behind-all front number [] texts e = ap Ok (append-nil front)
behind-all front number (field ∷ fields) texts e = cc e

field-drop : (fields : List (List ℕ)) (j : ℕ) → field_at (drop j fields) 0 ≡ field_at fields j
field-drop [] zero = refl
field-drop [] (suc j) = refl
field-drop (field ∷ fields) zero = refl
field-drop (field ∷ fields) (suc j) = field-drop fields j

drop-next : (fields : List (List ℕ)) (j : ℕ) → drop 1 (drop j fields) ≡ drop (suc j) fields
drop-next [] zero = refl
drop-next [] (suc j) = refl
drop-next (field ∷ fields) zero = refl
drop-next (field ∷ fields) (suc j) = drop-next fields j

step : (number i j : ℕ) (declared : List Field) (fields : List (List ℕ)) (f : Field) → i < length declared → f ≡ get_or declared i f
    → values_in number (drop i declared) (drop j fields)
    ≡ value_and_values number (value_in f.kind (field_at fields j)) (values_in (number + 1) (drop (suc i) declared) (drop (suc j) fields))
step number i j [] fields f here is = absurd (omega arith)
step number zero j (field ∷ declared) fields f here is =
    rw (is, field-drop fields j, drop-next fields j) refl
step number (suc i) j (field ∷ declared) fields f here is = step number i j declared fields f (omega arith) is

-- the values from a place on
pub values_in-step : (number i j k : ℕ) (declared : List Field) (fields : List (List ℕ)) (f : Field) → k ≡ j + 1 → i < length declared → f ≡ get_or declared i f
    → values_in number (drop i declared) (drop j fields)
    ≡ value_and_values number (value_in f.kind (field_at fields j)) (values_in (number + 1) (drop (i + 1) declared) (drop k fields))
values_in-step number i j k declared fields f next here is = rw (next, add-one i, add-one j) (step number i j declared fields f here is)

-- one value more before the others
pub behind-next : (whole rest left : Result (List Value) RowCause) (front more : List Value) (number : ℕ) (o : Option Value) (v : Value)
    → whole ≡ behind front left → left ≡ value_and_values number o rest → o ≡ Some v → more ≡ front ++ v ∷ [] → whole ≡ behind more rest
behind-next whole rest left front more number o v so_far next is pushed =
    so_far ∙ ap (behind front) (next ∙ ap (λ (x : Option Value). value_and_values number x rest) is) ∙ behind-more front number v rest
    ∙ ap (λ (values : List Value). behind values rest) (sym pushed)
