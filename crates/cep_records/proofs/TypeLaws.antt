-- Where a name stands among those of types.
use Rattle.std.proofs.Common.{◌≡◌, ◌<◌, List, [], ◌∷◌, ℕ, zero, suc, Bool, true, false, cond, ltb, length, get_or, Some, None, refl, sym, ap, ◌∙◌, arith, rules, tests}
use Rattle.std.specs.Str.{bytes_eq}
use Rattle.std.proofs.lemmas.List.Sums.{position_or_len_is}
use Rattle.cep_event.specs.declared.event.EventType.{EventType}
use Rattle.cep_records.specs.Record.{no_type, type_named}

same-at : (types : List EventType) (place : ℕ) (a b : EventType) → place < length types → get_or types place a ≡ get_or types place b
same-at [] place a b here = absurd (omega arith)
same-at (t ∷ types) zero a b here = refl
same-at (t ∷ types) (suc place) a b here = same-at types place a b (omega arith)

-- the test of a type that stands at a place
pub named : (types : List EventType) (place : ℕ) (t : EventType) (name : List ℕ) (b : Bool)
    → place < length types → t ≡ get_or types place t → b ≡ bytes_eq t.name name → bytes_eq (get_or types place no_type).name name ≡ b
named types place t name b here is test =
    ap (λ (x : EventType). bytes_eq x.name name) (same-at types place no_type t here ∙ sym is) ∙ sym test

below : (i n : ℕ) → i < n → ltb i n ≡ true
below i n h = search (rules, tests)

not-below : (n : ℕ) → ltb n n ≡ false
not-below n = search (rules, tests)

abbrev is_named : List ℕ → EventType → Bool
is_named name declared = bytes_eq declared.name name

pub type_named-found : (name : List ℕ) (types : List EventType) (i : ℕ)
    → i < length types → ((k : ℕ) → k < i → bytes_eq (get_or types k no_type).name name ≡ false) → bytes_eq (get_or types i no_type).name name ≡ true
    → type_named name types ≡ Some i
type_named-found name types i here before at =
    let e = position_or_len_is (is_named name) types i no_type (omega arith) before (λ _. at) in
    ap (λ (k : ℕ). cond (ltb k (length types)) (Some k) None) e ∙ ap (λ (b : Bool). cond b (Some i) None) (below i (length types) here)

pub type_named-none : (name : List ℕ) (types : List EventType)
    → ((k : ℕ) → k < length types → bytes_eq (get_or types k no_type).name name ≡ false)
    → type_named name types ≡ None
type_named-none name types before =
    let n = length types in
    let e = position_or_len_is (is_named name) types n no_type (omega arith) before (λ h. absurd (omega arith)) in
    ap (λ (k : ℕ). cond (ltb k n) (Some k) None) e ∙ ap (λ (b : Bool). cond b (Some n) None) (not-below n)
