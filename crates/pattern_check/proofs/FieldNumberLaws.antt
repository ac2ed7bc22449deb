-- The fields of the plan of a file without a fault are numbered in the order of first declaration, one number for one name and one kind.
use Rattle.std.proofs.Common.{◌≡◌, ℕ, suc, ◌+◌, ◌≤◌, Bool, true, false, cond, not, ◌&&◌, ◌||◌, List, [], ◌∷◌, length, map, take, refl, sym, ap, ◌∙◌, arith, eq-eqb}
use Rattle.std.specs.Prelude.{◌==◌, Option, Some, None}
use Rattle.std.specs.Str.{bytes_eq}
use Rattle.std.specs.List.{list_all}
use Rattle.std.specs.Option.{is_some}
use Rattle.std.proofs.lemmas.Bool.Decides.{nat_tests}
use Rattle.std.proofs.lemmas.Slice.Eq.{bytes_eq-Decides}
use Rattle.std.proofs.lemmas.List.{length-map}
use Rattle.std.proofs.lemmas.List.Folds.{list_all-append, list_all-map}
use Rattle.cep_event.specs.declared.event.Field.{Field}
use Rattle.cep_event.specs.declared.value.Kind.{Kind}
use Rattle.cep_event.specs.declared.value.Kind.TheVariants as kind
use Rattle.cep_syntax.specs.declared.file.FieldDecl.{FieldDecl}
use Rattle.cep_syntax.specs.declared.file.TypeDecl.{TypeDecl}
use Rattle.cep_syntax.specs.declared.file.File.{File}
use Rattle.cep_syntax.specs.WellFormed.{IsWellFormed}
use Rattle.pattern_rules.specs.First.{or_else, first_some, first_from, place_if}
use Rattle.pattern_rules.specs.Named.{is_declared, meaning}
use Rattle.pattern_rules.specs.Fields.{is_known, known_fields}
use Rattle.pattern_rules.specs.Declarations.{same_kind, is_other, clash_in_type, field_kinds}
use Rattle.pattern_rules.specs.Rules.{fault_with}
use Rattle.pattern_check.specs.Numbers.{field_number}
use Rattle.pattern_check.specs.Plan.{field_of, fields_of, type_of, types_of, plan_with}
use Rattle.pattern_check.specs.Names.{is_among, are_distinct}
use Rattle.pattern_check.specs.FieldNumbers.{all_fields, field_names, number_of, one_meaning, HasNumberedFields}
use Rattle.pattern_check.proofs.KeptRules.{first_none, second_none, kept}
use Rattle.pattern_check.proofs.ListLaws.{both, left_of, right_of, all_kept, all_so}
use Rattle.pattern_check.proofs.BoundLaws.{not_broken}
use Rattle.pattern_check.proofs.AfterLaws.{first_false, second_false}
use Rattle.pattern_check.proofs.NameLaws.{apart_of, distinct_of}
use Rattle.pattern_check.proofs.KnownLaws.{known_among, names_known, few_known, counted_known, number_place, declared_known, known_some}

-- ---- two rules in one

two_left : (a b : Bool) (place : ℕ) → place_if (a || b) place ≡ None → place_if a place ≡ None
two_left a b place e = ap (λ x. place_if x place) (first_false a b (not_broken (a || b) place e))

first_rule : {A : Type 0} (a b : ℕ → A → Bool) (place : A → ℕ) (n : ℕ) (xs : List A)
    → first_from (λ k x. place_if (a k x || b k x) (place x)) n xs ≡ None → first_from (λ k x. place_if (a k x) (place x)) n xs ≡ None
first_rule a b place n [] e = refl
first_rule a b place n (x ∷ xs) e =
    none_both (place_if (a n x) (place x)) (first_from (λ k y. place_if (a k y) (place y)) (suc n) xs)
    (two_left (a n x) (b n x) (place x) (first_none (place_if (a n x || b n x) (place x))
    (first_from (λ k y. place_if (a k y || b k y) (place y)) (suc n) xs) e))
    (first_rule a b place (suc n) xs (second_none (place_if (a n x || b n x) (place x)) (first_from (λ k y. place_if (a k y || b k y) (place y)) (suc n) xs) e))
  where
    none_both : (o p : Option ℕ) → o ≡ None → p ≡ None → or_else o p ≡ None
    none_both None p e h = h
    none_both (Some n) p e h = absurd (cc)

second_rule : {A : Type 0} (a : ℕ → A → Bool) (b : A → Bool) (place : A → ℕ) (n : ℕ) (xs : List A)
    → first_from (λ k x. place_if (a k x || b x) (place x)) n xs ≡ None → list_all (λ x. not (b x)) xs ≡ true
second_rule a b place n [] e = refl
second_rule a b place n (x ∷ xs) e =
    both (not (b x)) (list_all (λ y. not (b y)) xs)
    (ap not (second_false (a n x) (b x) (not_broken (a n x || b x) (place x)
    (first_none (place_if (a n x || b x) (place x)) (first_from (λ k y. place_if (a k y || b y) (place y)) (suc n) xs) e))))
    (second_rule a b place (suc n) xs (second_none (place_if (a n x || b x) (place x)) (first_from (λ k y. place_if (a k y || b y) (place y)) (suc n) xs) e))

all_two : {A : Type 0} (p q : A → Bool) (xs : List A) → list_all p xs ≡ true → list_all q xs ≡ true → list_all (λ x. p x && q x) xs ≡ true
all_two p q [] e h = refl
all_two p q (x ∷ xs) e h =
    both (p x && q x) (list_all (λ y. p y && q y) xs) (both (p x) (q x) (left_of (p x) (list_all p xs) e) (left_of (q x) (list_all q xs) h))
    (all_two p q xs (right_of (p x) (list_all p xs) e) (right_of (q x) (list_all q xs) h))

all_in_two : {A B : Type 0} (of : A → List B) (p q : B → Bool) (xs : List A) → list_all (λ x. list_all p (of x)) xs ≡ true
    → list_all (λ x. list_all q (of x)) xs ≡ true → list_all (λ x. list_all (λ y. p y && q y) (of x)) xs ≡ true
all_in_two of p q [] e h = refl
all_in_two of p q (x ∷ xs) e h =
    both (list_all (λ y. p y && q y) (of x)) (list_all (λ z. list_all (λ y. p y && q y) (of z)) xs)
    (all_two p q (of x) (left_of (list_all p (of x)) (list_all (λ z. list_all p (of z)) xs) e)
    (left_of (list_all q (of x)) (list_all (λ z. list_all q (of z)) xs) h))
    (all_in_two of p q xs (right_of (list_all p (of x)) (list_all (λ z. list_all p (of z)) xs) e)
    (right_of (list_all q (of x)) (list_all (λ z. list_all q (of z)) xs) h))

-- ---- one place of two names

place_step : {C : Type 0} (p q : Bool) (m n : ℕ) → cond (not p) (1 + m) 0 ≡ cond (not q) (1 + n) 0 → (p ≡ true → q ≡ true → C)
    → (p ≡ false → q ≡ false → m ≡ n → C) → C
place_step true true m n e here later = here refl refl
place_step false false m n e here later = later refl refl (omega (arith, e))
place_step true false m n e here later = absurd (omega (arith, e))
place_step false true m n e here later = absurd (omega (arith, e))

pub one_place : (names : List (List ℕ)) (a b : List ℕ) → number_of names a ≡ number_of names b → is_among names a ≡ true → is_among names b ≡ true → a ≡ b
one_place [] a b e h k = absurd (cc)
one_place (x ∷ names) a b e h k =
    place_step (bytes_eq a x) (bytes_eq b x) (number_of names a) (number_of names b) e
    (λ p q. (bytes_eq-Decides a x).0 p ∙ sym ((bytes_eq-Decides b x).0 q))
    (λ p q same. one_place names a b same (later (bytes_eq a x) (is_among names a) p h) (later (bytes_eq b x) (is_among names b) q k))
  where
    later : (p rest : Bool) → p ≡ false → (p || rest) ≡ true → rest ≡ true
    later false rest e h = h
    later true rest e h = absurd (cc)

-- ---- one kind of a name

fits_kind : (a b : Kind) → not (not (same_kind a b)) ≡ true → a ≡ b
fits_kind kind.Int kind.Int e = refl
fits_kind kind.Text kind.Text e = refl
fits_kind kind.Int kind.Text e = absurd (cc)
fits_kind kind.Text kind.Int e = absurd (cc)

same_itself : (a : Kind) → same_kind a a ≡ true
same_itself kind.Int = refl
same_itself kind.Text = refl

one_kind : (m : Option (ℕ × Kind)) (a b : Kind) → is_some m ≡ true → not (is_other m a) ≡ true → not (is_other m b) ≡ true → same_kind a b ≡ true
one_kind None a b e h k = absurd (cc)
one_kind (Some (n, first)) a b e h k = ap (same_kind a) (sym (fits_kind first b k) ∙ fits_kind first a h) ∙ same_itself a

-- ---- each declared field

pub number_so : (m n : ℕ) → (m == n) ≡ true → m ≡ n
number_so m n e = grind (arith, nat_tests)

module _ (known : List Field) where
  -- the name of a declared field is known, and has its kind
  abbrev pub good : FieldDecl → Bool
  good d = is_known known d.name.text && not (is_other (meaning known d.name.text) d.kind)

  pub every_field : (p : Field → Bool) → ((d : FieldDecl) → good d ≡ true → p (field_of known d) ≡ true) → (types : List TypeDecl)
      → list_all (λ t. list_all good t.fields) types ≡ true → list_all p (all_fields (types_of known types)) ≡ true
  every_field p each [] e = refl
  every_field p each (t ∷ types) e =
      list_all-append p (fields_of known t.fields) (all_fields (types_of known types))
      ∙ both (list_all p (fields_of known t.fields)) (list_all p (all_fields (types_of known types)))
      (list_all-map p (field_of known) t.fields
      ∙ all_so good (λ d. p (field_of known d)) each t.fields (left_of (list_all good t.fields) (list_all (λ u. list_all good u.fields) types) e))
      (every_field p each types (right_of (list_all good t.fields) (list_all (λ u. list_all good u.fields) types) e))

  module _ (place : (name : List ℕ) → is_known known name ≡ true → field_number known name ≡ number_of (map (λ f. f.name) known) name) where
    same_name : (d e : FieldDecl) → good d ≡ true → good e ≡ true → field_number known d.name.text ≡ field_number known e.name.text → d.name.text ≡ e.name.text
    same_name d e g h same =
        let left = left_of (is_known known d.name.text) (not (is_other (meaning known d.name.text) d.kind)) g in
        let right = left_of (is_known known e.name.text) (not (is_other (meaning known e.name.text) e.kind)) h in
        one_place (map (λ f. f.name) known) d.name.text e.name.text (sym (place d.name.text left) ∙ same ∙ place e.name.text right)
        (sym (known_among known d.name.text) ∙ left) (sym (known_among known e.name.text) ∙ right)

    same_kinds : (d e : FieldDecl) → good d ≡ true → good e ≡ true → d.name.text ≡ e.name.text → same_kind d.kind e.kind ≡ true
    same_kinds d e g h same =
        one_kind (meaning known d.name.text) d.kind e.kind
        (sym (known_some known d.name.text) ∙ left_of (is_known known d.name.text) (not (is_other (meaning known d.name.text) d.kind)) g)
        (right_of (is_known known d.name.text) (not (is_other (meaning known d.name.text) d.kind)) g)
        (ap (λ text. not (is_other (meaning known text) e.kind)) same
        ∙ right_of (is_known known e.name.text) (not (is_other (meaning known e.name.text) e.kind)) h)

    by_case : (b c k : Bool) → (b ≡ true → c ≡ true) → (c ≡ true → k ≡ true) → (c ≡ true → b ≡ true) → cond b (c && k) (not c) ≡ true
    by_case true c k f g h = both c k (f refl) (g (f refl))
    by_case false true k f g h = h refl
    by_case false false k f g h = refl

    two_fields : (d e : FieldDecl) → good d ≡ true → good e ≡ true → one_meaning (field_of known d) (field_of known e) ≡ true
    two_fields d e g h =
        by_case (field_number known d.name.text == field_number known e.name.text) (bytes_eq d.name.text e.name.text) (same_kind d.kind e.kind)
        (λ same. (bytes_eq-Decides d.name.text e.name.text).1
        (same_name d e g h (number_so (field_number known d.name.text) (field_number known e.name.text) same)))
        (λ same. same_kinds d e g h ((bytes_eq-Decides d.name.text e.name.text).0 same))
        (λ same. eq-eqb (field_number known d.name.text) (field_number known e.name.text)
        (ap (field_number known) ((bytes_eq-Decides d.name.text e.name.text).0 same)))

    numbered_one : (names : List (List ℕ)) → map (λ f. f.name) known ≡ names → (d : FieldDecl) → good d ≡ true
        → (field_number known d.name.text == number_of names d.name.text) ≡ true
    numbered_one names is d g =
        eq-eqb (field_number known d.name.text) (number_of names d.name.text)
        (place d.name.text (left_of (is_known known d.name.text) (not (is_other (meaning known d.name.text) d.kind)) g)
        ∙ ap (λ all. number_of all d.name.text) is)

-- ---- the plan

module _ (file : File) (well : IsWellFormed file) (sound : fault_with (known_fields file.types) file ≡ None) where
  abbrev known : List Field
  known = known_fields file.types

  clash_rule : first_some (λ (d : TypeDecl). clash_in_type known d.fields) file.types ≡ None
  unfolding field_kinds
  clash_rule = kept known file sound 1 (omega arith)

  kinds_kept : list_all (λ t. list_all (λ d. not (is_other (meaning known d.name.text) d.kind)) t.fields) file.types ≡ true
  kinds_kept = all_kept (λ (t : TypeDecl). clash_in_type known t.fields) (λ t. list_all (λ d. not (is_other (meaning known d.name.text) d.kind)) t.fields)
      (λ t e. second_rule (λ k d. is_declared (take k t.fields) d.name.text) (λ d. is_other (meaning known d.name.text) d.kind) (λ d. d.name.place) 0
      t.fields e) file.types clash_rule

  field_names_of : (fields : List Field) (ds : List FieldDecl) → map (λ f. f.name) (fields_of fields ds) ≡ map (λ d. d.name.text) ds
  field_names_of fields [] = refl
  field_names_of fields (d ∷ ds) = ap (λ names. d.name.text ∷ names) (field_names_of fields ds)

  type_once : (t : TypeDecl) → clash_in_type known t.fields ≡ None → are_distinct (map (λ f. f.name) (fields_of known t.fields)) ≡ true
  type_once t e =
      ap are_distinct (field_names_of known t.fields)
      ∙ distinct_of (λ (d : FieldDecl). d.name.text) t.fields (apart_of (λ (d : FieldDecl). d.name.text) (λ d. d.name.place) t.fields
      (first_rule (λ k d. is_declared (take k t.fields) d.name.text) (λ k d. is_other (meaning known d.name.text) d.kind) (λ d. d.name.place) 0 t.fields e))

  pub all_known : list_all (λ t. list_all (λ d. is_known known d.name.text) t.fields) file.types ≡ true
  unfolding known_fields
  all_known = declared_known file.types []

  pub all_good : list_all (λ t. list_all (good known) t.fields) file.types ≡ true
  all_good =
      all_in_two (λ (t : TypeDecl). t.fields) (λ d. is_known known d.name.text) (λ d. not (is_other (meaning known d.name.text) d.kind)) file.types
      all_known kinds_kept

  pub place_known : (name : List ℕ) → is_known known name ≡ true → field_number known name ≡ number_of (map (λ f. f.name) known) name
  unfolding known_fields
  place_known name e = let h = number_place known 0 name (counted_known file.types [] tt) e in omega (arith, h)

  names_are : map (λ f. f.name) known ≡ field_names (types_of known file.types)
  unfolding known_fields field_names
  names_are = names_known known file.types []

  few_fields : length known ≤ 65535
  unfolding known_fields
  few_fields = let h = few_known file.types [] in omega (arith, h, well.few_fields)

  pub plan_numbered : HasNumberedFields (plan_with known file)
  plan_numbered = record {
    few = omega (arith, few_fields, length-map known (λ (f : Field). f.name), ap length names_are);
    numbers =
        every_field known (λ f. f.number == number_of (field_names (types_of known file.types)) f.name)
        (numbered_one known place_known (field_names (types_of known file.types)) names_are) file.types all_good;
    meanings = every_field known (λ f. list_all (one_meaning f) (all_fields (types_of known file.types)))
        (λ d g. every_field known (one_meaning (field_of known d)) (λ e h. two_fields known place_known d e g h) file.types all_good) file.types all_good;
    once = list_all-map (λ t. are_distinct (map (λ f. f.name) t.fields)) (type_of known) file.types
        ∙ all_kept (λ (t : TypeDecl). clash_in_type known t.fields) (λ t. are_distinct (map (λ f. f.name) (fields_of known t.fields))) type_once
        file.types clash_rule;
  }
