-- What generated lines are read as.
use Rattle.std.proofs.Common.{◌++◌, IsOk, ◌≡◌, ◌≢◌, ◌==◌, ◌<◌, ◌≤◌, ◌%◌, ◌^◌, ◌+◌, ◌-◌, ◌∷◌, ◌∙◌, [], ℕ, zero, suc, pos, List, true, false, decimal, map, length, get_or, drop, inl, inr, Some, Ok, refl, sym, ap, subst, arith}
use Rattle.std.specs.List.{join_with_byte, list_all, list_any}
use Rattle.std.specs.Str.{bytes_eq, all_ascii_digits}
use Rattle.std.specs.Str.Parse.{AllDigits, digits_value}
use Rattle.std.proofs.lemmas.Bool.{and_from, and_left, and_parts, and_right, cases_Bool, lt-ltb, ne_eqb, not-true, not_from_false, or_parts}
use Rattle.std.proofs.lemmas.Bool.Decides.{nat_tests}
use Rattle.std.proofs.lemmas.Fmt.{decimal_is_IsNumeral}
use Rattle.std.proofs.lemmas.Nat.{mod_below}
use Rattle.std.proofs.lemmas.Slice.Eq.{bytes_eq-Decides}
use Rattle.std.proofs.lemmas.Str.{IsUtf8-from_ascii, is_utf8-from_IsUtf8}
use Rattle.std.proofs.lemmas.Str.Parse.{digit_from_value}
use Rattle.cep_event.specs.declared.event.EventType.{EventType}
use Rattle.cep_event.specs.declared.event.Field.{Field}
use Rattle.cep_event.specs.declared.record.LineRecord.{LineRecord}
use Rattle.cep_event.specs.declared.record.LineRecord.TheVariants.{Mark, Row}
use Rattle.cep_event.specs.declared.value.Kind.{Kind}
use Rattle.cep_event.specs.declared.value.Kind.TheVariants as kind
use Rattle.cep_plan.specs.Answer.{fits_word}
use Rattle.cep_records.specs.Bare.{bare_line, begins_with_mark, has_open_quote, is_quote, is_return, is_text, without_mark, without_return}
use Rattle.cep_records.specs.Number.{number_in, word_if}
use Rattle.cep_records.specs.Record.{no_type, record_of_bare, record_of_fields, record_of_line, type_named, value_in, values_in}
use Rattle.cep_records.proofs.TypeLaws.{type_named-found}
use Rattle.line_fields.specs.Line.{fields_of_line}
use Rattle.line_fields.specs.Plain.{sets_apart}
use Rattle.line_fields.proofs.LineLaws.{fields_of_line-plain, strip_bom-other}
use Rattle.cep_token.specs.Form.{is_word}
use Rattle.cep_load.specs.Draw.{drawn, step}
use Rattle.cep_load.specs.Lines.{line_of, lines_from, text_of}
use Rattle.cep_load.specs.Named.{AreNamed, are_distinct}
use Rattle.cep_load.specs.Read.{read_from}
use Rattle.cep_load.specs.Records.{fields_by, left_by, record_by, records_from, type_by, value_by, values_by}
use Rattle.cep_load.proofs.ByteLaws.{ArePlain, AreWithin, ascii-within, count-within, decimal-digits, decimal-within, joined-first, none-within, split-joined, values-plain, within-drop, within-joined, word-led}

-- ---- a line of plain fields is cut into them

other-than : (b n : ℕ) → (b ≡ n → ⊥) → (b == n) ≡ false
other-than b n other = ne_eqb b n other

no-return : (b : ℕ) → 44 ≤ b → b ≤ 122 → is_return b ≡ false
no-return b low high = ne_eqb b 13 (λ e. omega (arith, e, low))

no-quote : (b : ℕ) → 44 ≤ b → b ≤ 122 → is_quote b ≡ false
no-quote b low high = ne_eqb b 34 (λ e. omega (arith, e, low))

none-apart : (b : ℕ) → 44 ≤ b → b ≤ 122 → sets_apart b ≡ false
none-apart b low high = grind (arith, nat_tests)

no-mark : (b : ℕ) (rest : List ℕ) → b ≤ 122 → begins_with_mark (b ∷ rest) ≡ false
no-mark b rest high = and_left (b == 239) _ (ne_eqb b 239 (λ e. omega (arith, e, high)))

no-return-behind : (bytes : List ℕ) → AreWithin 44 bytes → bytes_eq bytes (13 ∷ []) ≡ false
no-return-behind [] h = refl
no-return-behind (b ∷ bytes) h = and_left (b == 13) _ (no-return b h.0 h.1)

bare-within : (row b : ℕ) (rest : List ℕ) → AreWithin 44 (b ∷ rest) → bare_line row (b ∷ rest) ≡ b ∷ rest
bare-within row b rest h =
    let whole = b ∷ rest in
    let front : without_mark row whole ≡ whole = rw (and_right (row == 1) _ (no-mark b rest h.1)) refl in
    let back : without_return whole ≡ whole = rw (no-return-behind (drop (length whole - 1) whole) (within-drop 44 (length whole - 1) whole h)) refl in
    ap without_return front ∙ back

text-within : (b : ℕ) (rest : List ℕ) → AreWithin 44 (b ∷ rest) → is_text (b ∷ rest) ≡ true
text-within b rest h =
    let utf8 = is_utf8-from_IsUtf8 (b ∷ rest) (IsUtf8-from_ascii (b ∷ rest) (ascii-within (b ∷ rest) h)) in
    and_from _ _ (and_from _ _ utf8 (not_from_false _ (none-within is_return no-return (b ∷ rest) h))) (not_from_false _ (no-mark b rest h.1))

quotes-within : (bytes : List ℕ) → AreWithin 44 bytes → has_open_quote bytes ≡ false
quotes-within bytes h = rw (count-within is_quote no-quote bytes h) refl

bare-read : (types : List EventType) (row b : ℕ) (rest : List ℕ) → AreWithin 44 (b ∷ rest)
    → record_of_bare types row (b ∷ rest) ≡ record_of_fields types row (fields_of_line (b ∷ rest))
bare-read types row b rest h =
    let some : (length (b ∷ rest) == 0) ≡ false = ne_eqb (suc (length rest)) 0 (λ e. cc e) in
    rw (some, text-within b rest h, quotes-within (b ∷ rest) h) refl

line-read : (types : List EventType) (row b : ℕ) (rest : List ℕ) → AreWithin 44 (b ∷ rest)
    → record_of_line types row (b ∷ rest) ≡ record_of_fields types row (fields_of_line (b ∷ rest))
unfolding record_of_line
line-read types row b rest h = ap (record_of_bare types row) (bare-within row b rest h) ∙ bare-read types row b rest h

fields-read : (b : ℕ) (bytes : List ℕ) (fields : List (List ℕ)) → AreWithin 48 (b ∷ bytes) → ArePlain fields
    → fields_of_line (join_with_byte 44 ((b ∷ bytes) ∷ fields)) ≡ (b ∷ bytes) ∷ fields
fields-read b bytes fields h hs =
    let whole = join_with_byte 44 ((b ∷ bytes) ∷ fields) in
    let begins = joined-first b bytes fields in
    let some : whole ≢ [] = λ none. cc (sym begins ∙ none) in
    let apart = none-within sets_apart none-apart whole (within-joined (b ∷ bytes) fields h hs) in
    let first : get_or whole 0 0 ≡ b = ap (λ (t : List ℕ). get_or t 0 0) begins in
    let other : (get_or whole 0 0 == 239) ≡ false = ne_eqb _ 239 (λ e. omega (arith, e, first, h.1)) in
    fields_of_line-plain whole some apart (strip_bom-other whole other) ∙ split-joined (b ∷ bytes) fields h hs

joined-read : (types : List EventType) (row b : ℕ) (bytes : List ℕ) (fields : List (List ℕ)) → AreWithin 48 (b ∷ bytes) → ArePlain fields
    → record_of_line types row (join_with_byte 44 ((b ∷ bytes) ∷ fields)) ≡ record_of_fields types row ((b ∷ bytes) ∷ fields)
joined-read types row b bytes fields h hs =
    let begins = joined-first b bytes fields in
    let within : AreWithin 44 (b ∷ join_with_byte 44 (bytes ∷ fields)) = subst (AreWithin 44) begins (within-joined (b ∷ bytes) fields h hs) in
    ap (record_of_line types row) begins
    ∙ line-read types row b (join_with_byte 44 (bytes ∷ fields)) within
    ∙ ap (λ (t : List ℕ). record_of_fields types row (fields_of_line t)) (sym begins)
    ∙ ap (record_of_fields types row) (fields-read b bytes fields h hs)

-- ---- numbers and values are read as they were written

digits-read : (ds : List ℕ) → 0 < length ds → AllDigits 10 ds → all_ascii_digits ds ≡ true → number_in ds ≡ word_if (pos (digits_value 10 ds))
digits-read [] some h test = absurd (omega arith)
digits-read (c ∷ cs) some h test =
    let in_range = digit_from_value c h.0 in
    let minus : (c == 45) ≡ false = ne_eqb c 45 (λ e. omega (arith, e, in_range.0)) in
    let plus : (c == 43) ≡ false = ne_eqb c 43 (λ e. omega (arith, e, in_range.0)) in
    rw (minus, plus, lt-ltb 0 (length (c ∷ cs)) some, test) refl

number-read : (n : ℕ) → n < 2 ^ 63 → number_in (decimal n) ≡ Some (pos n)
number-read n small =
    let numeral = decimal_is_IsNumeral n (omega arith) in
    let fits : fits_word (pos n) ≡ true = lt-ltb n (2 ^ 63) small in
    digits-read (decimal n) numeral.0.0 numeral.0.1 (decimal-digits n small)
    ∙ ap (λ (k : ℕ). word_if (pos k)) numeral.1
    ∙ rw fits refl

value-read : (k : Kind) (draw : ℕ) → value_in k (text_of (value_by k draw)) ≡ Some (value_by k draw)
value-read kind.Int draw = rw (number-read (draw % 1000) (omega (arith, mod_below draw 1000 (omega arith)))) refl
value-read kind.Text draw = refl

values-read : (number : ℕ) (fields : List Field) (x : ℕ) → values_in number fields (map text_of (values_by fields x)) ≡ Ok (values_by fields x)
values-read number [] x = refl
values-read number (field ∷ fields) x = rw (value-read field.kind (drawn x), values-read (number + 1) fields (step x)) refl

length-values : (fields : List Field) (x : ℕ) → length (map text_of (values_by fields x)) ≡ length fields
length-values [] x = refl
length-values (field ∷ fields) x = ap suc (length-values fields (step x))

-- ---- the type of a name

word-at : (types : List EventType) (i : ℕ) (d : EventType) → list_all (λ (t : EventType). is_word t.name) types ≡ true → i < length types → is_word (get_or types i d).name ≡ true
word-at [] i d all here = absurd (omega arith)
word-at (t ∷ types) zero d all here = (and_parts _ _ all).0
word-at (t ∷ types) (suc i) d all here = word-at types i d (and_parts _ _ all).1 (omega arith)

other-at : (types : List EventType) (name : List ℕ) (i : ℕ) (d : EventType)
    → list_any (bytes_eq name) (map (λ (t : EventType). t.name) types) ≡ false → i < length types → bytes_eq name (get_or types i d).name ≡ false
other-at [] name i d none here = absurd (omega arith)
other-at (t ∷ types) name zero d none here = (or_parts _ _ none).0
other-at (t ∷ types) name (suc i) d none here = other-at types name i d (or_parts _ _ none).1 (omega arith)

distinct-at : (types : List EventType) (k i : ℕ) (d : EventType) → are_distinct (map (λ (t : EventType). t.name) types) ≡ true
    → k < i → i < length types → bytes_eq (get_or types k d).name (get_or types i d).name ≡ false
distinct-at [] k i d distinct before here = absurd (omega arith)
distinct-at (t ∷ types) k zero d distinct before here = absurd (omega arith)
distinct-at (t ∷ types) zero (suc i) d distinct before here = other-at types t.name i d (not-true _ (and_parts _ _ distinct).0) (omega arith)
distinct-at (t ∷ types) (suc k) (suc i) d distinct before here = distinct-at types k i d (and_parts _ _ distinct).1 (omega arith) (omega arith)

name-read : (types : List EventType) (i : ℕ) → AreNamed types → i < length types → type_named (get_or types i no_type).name types ≡ Some i
name-read types i named here =
    let name = (get_or types i no_type).name in
    type_named-found name types i here (λ k before. distinct-at types k i no_type named.distinct before here) ((bytes_eq-Decides name name).1 refl)

-- ---- the record of a line

mark-read : (types : List EventType) (row n : ℕ) → n < 2 ^ 63 → record_of_fields types row ((64 ∷ []) ∷ decimal n ∷ []) ≡ Ok (Mark (pos n))
mark-read types row n small = rw (number-read n small) refl

-- the event of a name, a time and values
event-told : (types : List EventType) (row n i : ℕ) (x : ℕ) (b : ℕ) (bytes : List ℕ) → 65 ≤ b → n < 2 ^ 63
    → type_named (b ∷ bytes) types ≡ Some i
    → let fields = (get_or types i no_type).fields in
    record_of_fields types row ((b ∷ bytes) ∷ decimal n ∷ map text_of (values_by fields x))
    ≡ Ok (Row (record { row = row; ts = pos n; type_no = i; values = values_by fields x }))
event-told types row n i x b bytes above small named =
    let fields = (get_or types i no_type).fields in
    let event : bytes_eq (b ∷ bytes) (64 ∷ []) ≡ false = and_left (b == 64) _ (ne_eqb b 64 (λ e. omega (arith, e, above))) in
    let texts = map text_of (values_by fields x) in
    let whole : (length ((b ∷ bytes) ∷ decimal n ∷ texts) == length fields + 2) ≡ true = grind (arith, nat_tests, length-values fields x) in
    rw (event, named, whole, number-read n small, values-read 1 fields x) refl

-- an event of a type that is drawn
event-read : (types : List EventType) (n x : ℕ) → AreNamed types → n < 2 ^ 63 → (length types == 0) ≡ false
    → record_of_line types n (line_of types (Row (record { row = n; ts = pos n; type_no = type_by types x; values = values_by (fields_by types x) (step x) })))
    ≡ Ok (Row (record { row = n; ts = pos n; type_no = type_by types x; values = values_by (fields_by types x) (step x) }))
unfolding line_of
event-read types n x named small some =
    let i = type_by types x in
    let positive : 0 < length types = grind (arith, nat_tests) in
    let here : i < length types = mod_below (drawn x) (length types) positive in
    let name = (get_or types i no_type).name in
    let led = word-led name (word-at types i no_type named.words here) in
    let texts = map text_of (values_by (fields_by types x) (step x)) in
    let plain : AreWithin 48 (led.first ∷ led.rest) = subst (AreWithin 48) led.is led.within in
    let told = event-told types n n i (step x) led.first led.rest led.above small (ap (λ (z : List ℕ). type_named z types) (sym led.is) ∙ name-read types i named here) in
    ap (λ (z : List ℕ). record_of_line types n (join_with_byte 44 (z ∷ decimal n ∷ texts))) led.is
    ∙ joined-read types n led.first led.rest (decimal n ∷ texts) plain (decimal-within n small, values-plain (fields_by types x) (step x))
    ∙ told

record-read : (types : List EventType) (n x : ℕ) → AreNamed types → n < 2 ^ 63
    → record_of_line types n (line_of types (record_by types n x)) ≡ Ok (record_by types n x)
unfolding line_of
record-read types n x named small = elim (cases_Bool (length types == 0)) [
  | inl none ↦
      let is : record_by types n x ≡ Mark (pos n) = rw none refl in
      rw is (joined-read types n 64 [] (decimal n ∷ []) (omega arith, omega arith, tt) (decimal-within n small, tt) ∙ mark-read types n n small)
  | inr some ↦ rw some (event-read types n x named small some)
]

pub read-lines : (types : List EventType) (count n x : ℕ) → AreNamed types → n + count ≤ 2 ^ 63
    → read_from types n (lines_from types count n x) ≡ map Ok (records_from types count n x)
unfolding records_from
read-lines types zero n x named small = refl
read-lines types (suc count) n x named small =
    rw (record-read types n x named (omega arith), read-lines types count (n + 1) (left_by types x) named (omega arith)) refl

pub length-lines : (types : List EventType) (count n x : ℕ) → length (lines_from types count n x) ≡ count
unfolding records_from
length-lines types zero n x = refl
length-lines types (suc count) n x = ap suc (length-lines types count (n + 1) (left_by types x))

-- none of these lines is refused
pub read-each : (types : List EventType) (row k : ℕ) (before : List (List ℕ)) (line : List ℕ) (after : List (List ℕ)) (records : List LineRecord)
    → k ≡ length before + row → read_from types row (before ++ line ∷ after) ≡ map Ok records → IsOk (record_of_line types k line)
read-each types row k [] line after [] at read = cc read
read-each types row k [] line after (r ∷ records) at read =
    let here : k ≡ row = omega (arith, at) in
    let told : record_of_line types row line ≡ Ok r = cc read in
    rw (here, told) refl
read-each types row k (b ∷ before) line after [] at read = cc read
read-each types row k (b ∷ before) line after (r ∷ records) at read =
    let later : read_from types (row + 1) (before ++ line ∷ after) ≡ map Ok records = cc read in
    read-each types (row + 1) k before line after records (omega (arith, at)) later
