-- The known fields of a file: their names are the distinct names in order, their numbers count up, and each declared name is among them.
use Rattle.std.proofs.Common.{◌≡◌, ℕ, suc, ◌+◌, ◌≤◌, Bool, true, false, cond, not, ◌||◌, List, [], ◌∷◌, ◌++◌, length, map, fold, refl, sym, ap, ◌∙◌, arith}
use Rattle.std.specs.Prelude.{Option, Some, None}
use Rattle.std.specs.Str.{bytes_eq}
use Rattle.std.specs.List.{list_all, list_any, sum_by}
use Rattle.std.specs.Option.{is_some}
use Rattle.std.proofs.lemmas.Slice.Eq.{bytes_eq-Decides}
use Rattle.std.proofs.lemmas.List.{map-append, length-append}
use Rattle.std.proofs.lemmas.List.Sums.{fold-append, sum_by-cons}
use Rattle.std.proofs.lemmas.List.Folds.{list_any-append}
use Rattle.cep_event.specs.declared.event.Field.{Field}
use Rattle.cep_event.specs.declared.value.Kind.{Kind}
use Rattle.cep_syntax.specs.declared.file.FieldDecl.{FieldDecl}
use Rattle.cep_syntax.specs.declared.file.TypeDecl.{TypeDecl}
use Rattle.pattern_rules.specs.First.{or_else}
use Rattle.pattern_rules.specs.Named.{meaning}
use Rattle.pattern_rules.specs.Fields.{is_known, with_field, with_fields}
use Rattle.pattern_check.specs.Numbers.{number_in}
use Rattle.pattern_check.specs.Plan.{fields_of, types_of}
use Rattle.pattern_check.specs.Names.{is_among}
use Rattle.pattern_check.specs.FieldNumbers.{all_fields, with_name, number_of}
use Rattle.pattern_check.proofs.ListLaws.{both}
use Rattle.pattern_check.proofs.NameLaws.{same_text}

-- the fields that more types make of known ones
abbrev pub more_known : List Field → List TypeDecl → List Field
more_known known types = fold (λ fields d. with_fields fields d.fields) known types

abbrev more_names : List (List ℕ) → List Field → List (List ℕ)
more_names names fields = fold (λ all f. with_name all f.name) names fields

-- ---- their names

pub known_among : (known : List Field) (name : List ℕ) → is_known known name ≡ is_among (map (λ f. f.name) known) name
known_among [] name = refl
known_among (f ∷ known) name = (λ i. same_text f.name name i || known_among known name i)

name_step : (b c : Bool) (known : List Field) (f : Field) → b ≡ c
    → map (λ x. x.name) (cond b known (known ++ f ∷ [])) ≡ cond c (map (λ x. x.name) known) (map (λ x. x.name) known ++ f.name ∷ [])
name_step true c known f e = ap (λ x. cond x (map (λ x. x.name) known) (map (λ x. x.name) known ++ f.name ∷ [])) e
name_step false c known f e = map-append (λ x. x.name) known (f ∷ []) ∙ ap (λ x. cond x (map (λ x. x.name) known) (map (λ x. x.name) known ++ f.name ∷ [])) e

module _ (fields : List Field) where
  names_of_type : (ds : List FieldDecl) (known : List Field)
      → map (λ f. f.name) (fold with_field known ds) ≡ more_names (map (λ f. f.name) known) (fields_of fields ds)
  names_of_type [] known = refl
  names_of_type (d ∷ ds) known =
      names_of_type ds (with_field known d)
      ∙ ap (λ names. more_names names (fields_of fields ds))
      (name_step (is_known known d.name.text) (is_among (map (λ f. f.name) known) d.name.text) known
      (record { name = d.name.text; number = length known; kind = d.kind }) (known_among known d.name.text))

  pub names_known : (types : List TypeDecl) (known : List Field)
      → map (λ f. f.name) (more_known known types) ≡ more_names (map (λ f. f.name) known) (all_fields (types_of fields types))
  names_known [] known = refl
  names_known (d ∷ types) known =
      names_known types (with_fields known d.fields)
      ∙ ap (λ names. more_names names (all_fields (types_of fields types))) (names_of_type d.fields known)
      ∙ sym (fold-append (λ all f. with_name all f.name) (map (λ f. f.name) known) (fields_of fields d.fields) (all_fields (types_of fields types)))

-- ---- how many there are

longer : (b : Bool) (known : List Field) (f : Field) → length (cond b known (known ++ f ∷ [])) ≤ length known + 1
longer true known f = omega arith
longer false known f = omega (arith, length-append known (f ∷ []))

few_more : (ds : List FieldDecl) (known : List Field) → length (fold with_field known ds) ≤ length known + length ds
few_more [] known = omega arith
few_more (d ∷ ds) known =
    let later = few_more ds (with_field known d) in
    let here = longer (is_known known d.name.text) known (record { name = d.name.text; number = length known; kind = d.kind }) in
    let whole : length (fold with_field (with_field known d) ds) ≤ length known + suc (length ds) = omega arith in whole

pub few_known : (types : List TypeDecl) (known : List Field) → length (more_known known types) ≤ length known + sum_by (λ d. length d.fields) types
few_known [] known = omega arith
few_known (d ∷ types) known =
    let later = few_known types (with_fields known d.fields) in
    let here = few_more d.fields known in
    let sum = sum_by-cons (λ (t : TypeDecl). length t.fields) d types in
    let whole : length (more_known (with_fields known d.fields) types) ≤ length known + sum_by (λ t. length t.fields) (d ∷ types) = omega arith in whole

-- ---- their numbers

-- the numbers count up from n
abbrev pub Counted : ℕ → List Field → Type 0
Counted n [] = Unit {0}
Counted n (f ∷ known) = (f.number ≡ n) × Counted (suc n) known

counted_more : (known : List Field) (n : ℕ) (f : Field) → f.number ≡ n + length known → Counted n known → Counted n (known ++ f ∷ [])
counted_more [] n f e h = (omega (arith, e), tt)
counted_more (g ∷ known) n f e h = (h.0, counted_more known (suc n) f (omega (arith, e)) h.1)

counted_step : (b : Bool) (known : List Field) (name : List ℕ) (kind : Kind) → Counted 0 known
    → Counted 0 (cond b known (known ++ record { name = name; number = length known; kind = kind } ∷ []))
counted_step true known name kind h = h
counted_step false known name kind h = counted_more known 0 (record { name = name; number = length known; kind = kind }) (omega arith) h

counted_type : (ds : List FieldDecl) (known : List Field) → Counted 0 known → Counted 0 (fold with_field known ds)
counted_type [] known h = h
counted_type (d ∷ ds) known h = counted_type ds (with_field known d) (counted_step (is_known known d.name.text) known d.name.text d.kind h)

pub counted_known : (types : List TypeDecl) (known : List Field) → Counted 0 known → Counted 0 (more_known known types)
counted_known [] known h = h
counted_known (d ∷ types) known h = counted_known types (with_fields known d.fields) (counted_type d.fields known h)

number_step : (b c rest : Bool) (v : ℕ × Kind) (later : Option (ℕ × Kind)) (n m : ℕ) → b ≡ c → v.0 ≡ n → (b || rest) ≡ true
    → (rest ≡ true → number_in later ≡ suc n + m) → number_in (or_else (cond b (Some v) None) later) ≡ n + cond (not c) (1 + m) 0
number_step true true rest v later n m same first e more = omega (arith, first)
number_step false false rest v later n m same first e more = let h = more e in omega (arith, h)
number_step true false rest v later n m same first e more = absurd (cc)
number_step false true rest v later n m same first e more = absurd (cc)

-- the number of a known name is its place among the names
pub number_place : (known : List Field) (n : ℕ) (name : List ℕ) → Counted n known → is_known known name ≡ true
    → number_in (meaning known name) ≡ n + number_of (map (λ f. f.name) known) name
number_place [] n name h e = absurd (cc)
number_place (f ∷ known) n name h e =
    number_step (bytes_eq f.name name) (bytes_eq name f.name) (is_known known name) (f.number, f.kind) (meaning known name) n
    (number_of (map (λ g. g.name) known) name) (same_text f.name name) h.0 e
    (number_place known (suc n) name h.1)

-- ---- what is declared is known

stays : (b : Bool) (known : List Field) (f : Field) (name : List ℕ) → is_known known name ≡ true → is_known (cond b known (known ++ f ∷ [])) name ≡ true
stays true known f name e = e
stays false known f name e = list_any-append (λ g. bytes_eq g.name name) known (f ∷ []) ∙ ap (λ b. b || list_any (λ g. bytes_eq g.name name) (f ∷ [])) e

comes : (known : List Field) (name : List ℕ) (number : ℕ) (kind : Kind) (b : Bool) → is_known known name ≡ b
    → is_known (cond b known (known ++ record { name = name; number = number; kind = kind } ∷ [])) name ≡ true
comes known name number kind true e = e
comes known name number kind false e =
    list_any-append (λ g. bytes_eq g.name name) known (record { name = name; number = number; kind = kind } ∷ [])
    ∙ ap (λ b. b || (bytes_eq name name || false)) e ∙ ap (λ b. b || false) ((bytes_eq-Decides name name).1 refl)

stays_type : (ds : List FieldDecl) (known : List Field) (name : List ℕ) → is_known known name ≡ true → is_known (fold with_field known ds) name ≡ true
stays_type [] known name e = e
stays_type (d ∷ ds) known name e =
    stays_type ds (with_field known d) name (stays (is_known known d.name.text) known
    (record { name = d.name.text; number = length known; kind = d.kind }) name e)

stays_known : (types : List TypeDecl) (known : List Field) (name : List ℕ) → is_known known name ≡ true → is_known (more_known known types) name ≡ true
stays_known [] known name e = e
stays_known (d ∷ types) known name e = stays_known types (with_fields known d.fields) name (stays_type d.fields known name e)

declared_type : (ds : List FieldDecl) (known : List Field) (later : List Field)
    → ((name : List ℕ) → is_known (fold with_field known ds) name ≡ true → is_known later name ≡ true)
    → list_all (λ d. is_known later d.name.text) ds ≡ true
declared_type [] known later on = refl
declared_type (d ∷ ds) known later on =
    both (is_known later d.name.text) (list_all (λ x. is_known later x.name.text) ds)
    (on d.name.text (stays_type ds (with_field known d) d.name.text (comes known d.name.text (length known) d.kind (is_known known d.name.text) refl)))
    (declared_type ds (with_field known d) later on)

pub declared_known : (types : List TypeDecl) (known : List Field)
    → list_all (λ t. list_all (λ d. is_known (more_known known types) d.name.text) t.fields) types ≡ true
declared_known types known = each types known (more_known known types) (λ name e. e)
  where
    each : (ts : List TypeDecl) (known later : List Field)
        → ((name : List ℕ) → is_known (more_known known ts) name ≡ true → is_known later name ≡ true)
        → list_all (λ t. list_all (λ d. is_known later d.name.text) t.fields) ts ≡ true
    each [] known later on = refl
    each (t ∷ ts) known later on =
        both (list_all (λ d. is_known later d.name.text) t.fields) (list_all (λ u. list_all (λ d. is_known later d.name.text) u.fields) ts)
        (declared_type t.fields known later (λ name e. on name (stays_known ts (with_fields known t.fields) name e)))
        (each ts (with_fields known t.fields) later on)

some_step : (b any : Bool) (v : ℕ × Kind) (rest : Option (ℕ × Kind)) → any ≡ is_some rest → (b || any) ≡ is_some (or_else (cond b (Some v) None) rest)
some_step true any v rest e = refl
some_step false any v rest e = e

pub known_some : (known : List Field) (name : List ℕ) → is_known known name ≡ is_some (meaning known name)
known_some [] name = refl
known_some (f ∷ known) name = some_step (bytes_eq f.name name) (is_known known name) (f.number, f.kind) (meaning known name) (known_some known name)
