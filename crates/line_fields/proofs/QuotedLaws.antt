-- A line whose fields are plain or in quotes reads as its pieces without their quotes.
use Rattle.std.proofs.Common.{◌≡◌, ◌==◌, ◌<◌, ◌+◌, ◌-◌, ◌++◌, ◌∷◌, ◌∙◌, ◌≢◌, [], ℕ, List, Option, Some, refl, sym, ap, subst, arith, true, false, inl, inr, length, get_or, map, drop}
use Rattle.std.specs.Prelude.{◌||◌, nat_lt}
use Rattle.std.proofs.lemmas.Bool.{and_right, cases_Bool, eqb-true, lt-ltb, or_parts}
use Rattle.std.proofs.lemmas.Option.{none-some, same_Some}
use Rattle.std.proofs.lemmas.List.{drop_all, drop_more, length-append, map-append, take_at}
use Rattle.csv.specs.Machine.{next_record}
use Rattle.csv.specs.Reading.{default_config}
use Rattle.csv.specs.declared.parser.State as csv
use Rattle.csv.specs.declared.parser.State.TheVariants as st
use Rattle.line_fields.specs.declared.quoted.State.{State}
use Rattle.line_fields.specs.declared.quoted.State.TheVariants.{StartField, InField, InQuoted, AfterQuote}
use Rattle.line_fields.specs.Line.{fields_from_field, fields_read}
use Rattle.line_fields.specs.Pieces.{Within, unquoted, pieces}
use Rattle.line_fields.specs.Quoted.{next_state}
use Rattle.line_fields.proofs.PieceLaws.{pieces-comma, pieces-grow}
use Rattle.line_fields.proofs.SplitLaws.{grow}

-- csv's state
abbrev pub machine : State → csv.State
machine StartField = st.StartField
machine InField = st.InField
machine InQuoted = st.InQuoted
machine AfterQuote = st.AfterQuote

-- a piece that begins with no quote
abbrev pub IsPlain : List ℕ → Type 0
IsPlain [] = ⊥
IsPlain (b ∷ rest) = (b == 34) ≡ false

-- a piece so far, and the field that is read of it
abbrev pub Stands : State → List ℕ → List ℕ → Type 0
Stands StartField piece field = (piece ≡ []) × (field ≡ [])
Stands InField piece field = (piece ≡ field) × IsPlain piece
Stands InQuoted piece field = piece ≡ 34 ∷ field
Stands AfterQuote piece field = piece ≡ 34 ∷ (field ++ 34 ∷ [])

plain-more : (piece more : List ℕ) → IsPlain piece → IsPlain (piece ++ more)
plain-more [] more h = absurd h
plain-more (b ∷ rest) more h = h

unquoted-plain : (piece : List ℕ) → IsPlain piece → unquoted piece ≡ piece
unquoted-plain [] h = absurd h
unquoted-plain (b ∷ rest) h = rw (and_right (nat_lt 1 (length (b ∷ rest))) (b == 34) h) refl

unquoted-quoted : (field : List ℕ) → unquoted (34 ∷ (field ++ 34 ∷ [])) ≡ field
unquoted-quoted field =
    let size : length (34 ∷ (field ++ 34 ∷ [])) ≡ length field + 2 = omega (arith, length-append field (34 ∷ [])) in
    let long : nat_lt 1 (length field + 2) ≡ true = lt-ltb 1 (length field + 2) (omega arith) in
    let less : (length field + 2) - 2 ≡ length field = omega arith in
    rw (size, long, less) (take_at field (34 ∷ []) (length field) refl)

-- the piece is its field, or its field in quotes
unquoted-stands : (state : State) (piece field : List ℕ) → state ≢ InQuoted → Stands state piece field → unquoted piece ≡ field
unquoted-stands StartField piece field ends h = rw h.0 (sym h.1)
unquoted-stands InField piece field ends h = unquoted-plain piece h.1 ∙ h.0
unquoted-stands InQuoted piece field ends h = absurd (ends refl)
unquoted-stands AfterQuote piece field ends h = rw h (unquoted-quoted field)

grow-last : (b : ℕ) (done : List (List ℕ)) (piece : List ℕ) → grow b (done ++ piece ∷ []) ≡ done ++ (piece ++ b ∷ []) ∷ []
unfolding grow
grow-last b [] piece = refl
grow-last b (part ∷ []) piece = refl
grow-last b (part ∷ next ∷ done) piece = ap (λ (t : List (List ℕ)). part ∷ t) (grow-last b (next ∷ done) piece)

-- what csv reads, from a state on
abbrev Reading : Type 0
Reading = Option (List (List ℕ) × csv.State × List ℕ)

abbrev from_state : State → List (List ℕ) → List ℕ → List ℕ → Reading
from_state state fields field rest = next_record default_config (machine state) fields field rest

-- the byte ends the piece
abbrev Ends : State → List ℕ → List ℕ → ℕ → Type 0
Ends state piece field b =
    (unquoted piece ≡ field)
    × ((fields : List (List ℕ)) (rest : List ℕ) → from_state state fields field (b ∷ rest) ≡ from_state StartField (fields ++ field ∷ []) [] rest)

-- the byte belongs to the piece
abbrev Grows : State → State → List ℕ → List ℕ → ℕ → Type 0
Grows state next piece field b =
    (more : List ℕ) × Stands next (piece ++ b ∷ []) more
    × ((fields : List (List ℕ)) (rest : List ℕ) → from_state state fields field (b ∷ rest) ≡ from_state next fields more rest)

abbrev Goes : State → State → List ℕ → List ℕ → ℕ → Type 0
Goes state StartField piece field b = Ends state piece field b
Goes state InField piece field b = Grows state InField piece field b
Goes state InQuoted piece field b = Grows state InQuoted piece field b
Goes state AfterQuote piece field b = Grows state AfterQuote piece field b

ends : (state : State) (piece field : List ℕ) (b : ℕ) → (b == 44) ≡ true → state ≢ InQuoted → Stands state piece field → Ends state piece field b
unfolding next_record
ends StartField piece field b comma other h = (unquoted-stands StartField piece field other h, λ fields rest. rw (eqb-true b 44 comma) refl)
ends InField piece field b comma other h = (unquoted-stands InField piece field other h, λ fields rest. rw (eqb-true b 44 comma) refl)
ends InQuoted piece field b comma other h = absurd (other refl)
ends AfterQuote piece field b comma other h = (unquoted-stands AfterQuote piece field other h, λ fields rest. rw (eqb-true b 44 comma) refl)

opens : (piece field : List ℕ) (b : ℕ) → (b == 34) ≡ true → Stands StartField piece field → Grows StartField InQuoted piece field b
unfolding next_record
opens piece field b quote h =
    let same = eqb-true b 34 quote in
    ([], rw (same, h.0) refl, λ fields rest. rw (same, h.1) refl)

begins : (piece field : List ℕ) (b : ℕ) → (b == 44) ≡ false → (b == 34) ≡ false → ((b == 13) || (b == 10)) ≡ false → Stands StartField piece field
    → Grows StartField InField piece field b
unfolding next_record
begins piece field b comma quote end h = (b ∷ [], (rw h.0 refl, rw h.0 quote), λ fields rest. rw (quote, comma, end, h.1) refl)

goes_on : (piece field : List ℕ) (b : ℕ) → (b == 44) ≡ false → ((b == 34) || (b == 13) || (b == 10)) ≡ false → Stands InField piece field
    → Grows InField InField piece field b
unfolding next_record
goes_on piece field b comma other h =
    let parts = or_parts ((b == 34) || (b == 13)) (b == 10) other in
    let first = or_parts (b == 34) (b == 13) parts.0 in
    (field ++ b ∷ [], (rw h.0 refl, plain-more piece (b ∷ []) h.1), λ fields rest. rw (comma, first.1, parts.1) refl)

closes : (piece field : List ℕ) (b : ℕ) → (b == 34) ≡ true → Stands InQuoted piece field → Grows InQuoted AfterQuote piece field b
unfolding next_record
closes piece field b quote h =
    let same = eqb-true b 34 quote in
    (field, rw (same, h) refl, λ fields rest. rw same refl)

stays : (piece field : List ℕ) (b : ℕ) → (b == 34) ≡ false → Stands InQuoted piece field → Grows InQuoted InQuoted piece field b
unfolding next_record
stays piece field b quote h = (field ++ b ∷ [], rw h refl, λ fields rest. rw quote refl)

turned : (state next found : State) (piece field : List ℕ) (b : ℕ) → Some next ≡ Some found → Goes state found piece field b → Goes state next piece field b
turned state next found piece field b e h = subst (λ (n : State). Goes state n piece field b) (sym (same_Some next found e)) h

goes : (state next : State) (piece field : List ℕ) (b : ℕ) → Some next ≡ next_state state b → Stands state piece field → Goes state next piece field b
goes StartField next piece field b e h = elim (cases_Bool (b == 44)) [
  | inl comma ↦ turned StartField next StartField piece field b (rw comma at e) (ends StartField piece field b comma (λ p. cc p) h)
  | inr inside ↦ elim (cases_Bool (b == 34)) [
    | inl quote ↦ turned StartField next InQuoted piece field b (rw (inside, quote) at e) (opens piece field b quote h)
    | inr plain ↦ elim (cases_Bool ((b == 13) || (b == 10))) [
      | inl end ↦ absurd (none-some next (sym (rw (inside, plain, end) at e)))
      | inr none ↦ turned StartField next InField piece field b (rw (inside, plain, none) at e) (begins piece field b inside plain none h)
    ]
  ]
]
goes InField next piece field b e h = elim (cases_Bool (b == 44)) [
  | inl comma ↦ turned InField next StartField piece field b (rw comma at e) (ends InField piece field b comma (λ p. cc p) h)
  | inr inside ↦ elim (cases_Bool ((b == 34) || (b == 13) || (b == 10))) [
    | inl end ↦ absurd (none-some next (sym (rw (inside, end) at e)))
    | inr none ↦ turned InField next InField piece field b (rw (inside, none) at e) (goes_on piece field b inside none h)
  ]
]
goes InQuoted next piece field b e h = elim (cases_Bool (b == 34)) [
  | inl quote ↦ turned InQuoted next AfterQuote piece field b (rw quote at e) (closes piece field b quote h)
  | inr other ↦ turned InQuoted next InQuoted piece field b (rw other at e) (stays piece field b other h)
]
goes AfterQuote next piece field b e h = elim (cases_Bool (b == 44)) [
  | inl comma ↦ turned AfterQuote next StartField piece field b (rw comma at e) (ends AfterQuote piece field b comma (λ p. cc p) h)
  | inr other ↦ absurd (none-some next (sym (rw other at e)))
]

-- reading the line equals going on at a place, with the fields that are behind it and the piece at hand
pub record Reads (line places : List ℕ) (place : ℕ) (state : State) : Type 0 where
  piece : List ℕ
  field : List ℕ
  cut : pieces 0 (places ++ place ∷ []) line ≡ pieces 0 places line ++ piece ∷ []
  stands : Stands state piece field
  same : from_state StartField [] [] line ≡ from_state state (map unquoted (pieces 0 places line)) field (drop place line)

pub reads-start : (line : List ℕ) → Reads line [] 0 StartField
unfolding pieces
reads-start line = record { piece = []; field = []; cut = refl; stands = (refl, refl); same = refl }

-- a comma ends the piece at hand
pub reads-comma : (line places : List ℕ) (place : ℕ) (state next : State) → place < length line → next ≡ StartField
    → Some next ≡ next_state state (get_or line place 0)
    → Reads line places place state → Reads line (places ++ place ∷ []) (place + 1) next
reads-comma line places place state InField lt start e reads = cc start
reads-comma line places place state InQuoted lt start e reads = cc start
reads-comma line places place state AfterQuote lt start e reads = cc start
reads-comma line places place state StartField lt start e reads =
    let ends = goes state StartField reads.piece reads.field (get_or line place 0) e reads.stands in
    let front = map unquoted (pieces 0 places line) in
    let more : map unquoted (pieces 0 (places ++ place ∷ []) line) ≡ front ++ reads.field ∷ [] =
    rw (reads.cut, map-append unquoted (pieces 0 places line) (reads.piece ∷ []), ends.0) refl in
    record {
      piece = [];
      field = [];
      cut = pieces-comma 0 places line place;
      stands = (refl, refl);
      same = reads.same ∙ rw (drop_more line place 0 lt, more) (ends.1 front (drop (place + 1) line));
    }

-- another byte belongs to it
reads-grows : (line places : List ℕ) (place : ℕ) (state next : State) → place < length line → Within 0 (places ++ place ∷ []) place
    → (reads : Reads line places place state) → Grows state next reads.piece reads.field (get_or line place 0) → Reads line places (place + 1) next
reads-grows line places place state next lt within reads grows =
    let b = get_or line place 0 in
    record {
      piece = reads.piece ++ b ∷ [];
      field = grows.0;
      cut = pieces-grow 0 places line place lt within ∙ ap (grow b) reads.cut ∙ grow-last b (pieces 0 places line) reads.piece;
      stands = grows.1;
      same = reads.same ∙ rw (drop_more line place 0 lt) (grows.2 (map unquoted (pieces 0 places line)) (drop (place + 1) line));
    }

pub reads-more : (line places : List ℕ) (place : ℕ) (state next : State) → place < length line → Within 0 (places ++ place ∷ []) place
    → Some next ≡ next_state state (get_or line place 0) → next ≢ StartField → Reads line places place state → Reads line places (place + 1) next
reads-more line places place state StartField lt within e other reads = absurd (other refl)
reads-more line places place state InField lt within e other reads =
    reads-grows line places place state InField lt within reads (goes state InField reads.piece reads.field (get_or line place 0) e reads.stands)
reads-more line places place state InQuoted lt within e other reads =
    reads-grows line places place state InQuoted lt within reads (goes state InQuoted reads.piece reads.field (get_or line place 0) e reads.stands)
reads-more line places place state AfterQuote lt within e other reads =
    reads-grows line places place state AfterQuote lt within reads (goes state AfterQuote reads.piece reads.field (get_or line place 0) e reads.stands)

-- the end of the line ends a field that is not open
at-end : (state : State) (fields : List (List ℕ)) (field : List ℕ) → state ≢ InQuoted → fields_read (from_state state fields field []) ≡ fields ++ field ∷ []
unfolding next_record
at-end StartField fields field ends = refl
at-end InField fields field ends = refl
at-end InQuoted fields field ends = absurd (ends refl)
at-end AfterQuote fields field ends = refl

pub reads-end : (line places : List ℕ) (place : ℕ) (state : State) → place ≡ length line → state ≢ InQuoted → Reads line places place state
    → map unquoted (pieces 0 (places ++ length line ∷ []) line) ≡ fields_from_field line
reads-end line places place state size ends reads =
    let front = map unquoted (pieces 0 places line) in
    let none : drop place line ≡ [] = drop_all place line (omega arith) in
    let read : fields_from_field line ≡ front ++ reads.field ∷ [] = ap fields_read reads.same ∙ rw none (at-end state front reads.field ends) in
    rw (
      ← size,
      reads.cut,
      map-append unquoted (pieces 0 places line) (reads.piece ∷ []),
      unquoted-stands state reads.piece reads.field ends
          reads.stands,
    ) (sym read)
