-- The text of a line, piece by piece.
use Rattle.std.proofs.Common.{◌≡◌, ◌==◌, ◌<◌, ◌++◌, ◌∷◌, ◌∙◌, [], ℕ, zero, suc, List, true, false, map, codes, decimal, refl, sym, ap, arith, length, get_or}
use Rattle.std.specs.List.{join_with_byte}
use Rattle.std.proofs.lemmas.List.{append-nil}
use Rattle.cep_event.specs.declared.event.EventType.{EventType}
use Rattle.cep_event.specs.declared.value.Value.{Value}
use Rattle.cep_records.specs.Record.{no_type}
use Rattle.cep_load.specs.Draw.{step}
use Rattle.cep_load.specs.Records.{record_by, type_by, values_by}
use Rattle.cep_load.specs.Lines.{event_text, line_of, text_of, values_text}

-- fields behind a first one, each behind a comma
joined-values : (front : List ℕ) (values : List Value) → join_with_byte 44 (front ∷ map text_of values) ≡ front ++ values_text values
joined-values front [] = sym (append-nil front)
joined-values front (v ∷ values) = ap (λ (t : List ℕ). front ++ 44 ∷ t) (joined-values (text_of v) values)

-- the type at a place, whatever stands for one that isn't there
pub type-at : (types : List EventType) (i : ℕ) (a b : EventType) → i < length types → get_or types i a ≡ get_or types i b
type-at [] i a b here = absurd (omega arith)
type-at (t ∷ types) zero a b here = refl
type-at (t ∷ types) (suc i) a b here = type-at types i a b (omega arith)

pub mark-line : (types : List EventType) (number x : ℕ) → (length types == 0) ≡ true → line_of types (record_by types number x) ≡ codes "@," ++ decimal number
unfolding line_of
mark-line types number x none = rw none refl

pub event-line : (types : List EventType) (number x : ℕ) (t : EventType) (i : ℕ)
    → (length types == 0) ≡ false → i ≡ type_by types x → i < length types → t ≡ get_or types i t
    → line_of types (record_by types number x) ≡ event_text t.name number (values_by t.fields (step x))
unfolding line_of
event-line types number x t i some chosen here is =
    let declared : get_or types (type_by types x) no_type ≡ t = ap (λ (k : ℕ). get_or types k no_type) (sym chosen) ∙ type-at types i no_type t here ∙ sym is in
    rw (some, declared) (ap (λ (s : List ℕ). t.name ++ 44 ∷ s) (joined-values (decimal number) (values_by t.fields (step x))))
