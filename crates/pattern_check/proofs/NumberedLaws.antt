-- What the expressions of a file without a fault mention has numbers that its plan has.
use Rattle.std.proofs.Common.{◌≡◌, ℕ, ◌<◌, Bool, true, false, cond, not, ◌&&◌, ◌||◌, List, [], ◌∷◌, ◌++◌, length, fold, refl, sym, ap, subst, ◌∙◌, eq-eqb}
use Rattle.std.specs.Prelude.{nat_lt, ◌==◌, Option, Some, None}
use Rattle.std.specs.Str.{bytes_eq}
use Rattle.std.specs.List.{list_any, filter, slice_get}
use Rattle.std.proofs.lemmas.Slice.Eq.{bytes_eq-Decides}
use Rattle.std.proofs.lemmas.List.Folds.{list_any-append}
use Rattle.cep_event.specs.declared.event.Field.{Field}
use Rattle.cep_reading.specs.declared.name.Name.{Name}
use Rattle.cep_syntax.specs.declared.file.FieldDecl.{FieldDecl}
use Rattle.cep_syntax.specs.declared.file.TypeDecl.{TypeDecl}
use Rattle.cep_syntax.specs.declared.file.Opener.{Opener}
use Rattle.cep_syntax.specs.declared.file.File.{File}
use Rattle.pattern_rules.specs.declared.site.Site.{Site}
use Rattle.pattern_rules.specs.declared.site.Site.TheVariants as site
use Rattle.pattern_rules.specs.declared.mention.MentionRule.TheVariants as rule
use Rattle.pattern_rules.specs.Named.{is_declared, opener_number}
use Rattle.pattern_rules.specs.Fields.{is_known, with_field, with_fields, known_fields}
use Rattle.pattern_rules.specs.Mention.{Mention, a_field, a_stage, a_stage_field}
use Rattle.pattern_rules.specs.Mentioned.{may_have, type_of, type_taken, is_unknown_field, is_none, is_negated_one, bad_name, bad_mention}
use Rattle.pattern_rules.specs.Whole.{is_positive_one}
use Rattle.pattern_check.specs.Numbers.{is_positive, stages_before, field_number}
use Rattle.pattern_check.specs.Plan.{fields_of, types_of}
use Rattle.pattern_check.specs.Sound.{has_field}
use Rattle.pattern_check.proofs.ListLaws.{both, right_of}
use Rattle.pattern_check.proofs.BoundLaws.{not_broken}
use Rattle.pattern_check.proofs.StageLaws.{double_not, below, found_positive}
use Rattle.pattern_check.proofs.SoundLaws.{is_numbered}
use Rattle.pattern_check.proofs.KeepLaws.{Keeps}

or_so : (a b c d : Bool) → (a ≡ true → c ≡ true) → (b ≡ true → d ≡ true) → (a || b) ≡ true → (c || d) ≡ true
or_so true b c d f g e = ap (λ x. x || d) (f refl)
or_so false b true d f g e = refl
or_so false b false d f g e = g e

or_left : (a b : Bool) → a ≡ true → (a || b) ≡ true
or_left a b e = ap (λ x. x || b) e

or_assoc : (a b c : Bool) → ((a || b) || c) ≡ (a || (b || c))
or_assoc true b c = refl
or_assoc false b c = refl

or_false : (a : Bool) → (a || false) ≡ a
or_false true = refl
or_false false = refl

any_so : {A : Type 0} (p q : A → Bool) → ((x : A) → p x ≡ true → q x ≡ true) → (xs : List A) → list_any p xs ≡ true → list_any q xs ≡ true
any_so p q each [] e = e
any_so p q each (x ∷ xs) e = or_so (p x) (list_any p xs) (q x) (list_any q xs) (each x) (any_so p q each xs) e

-- some type declares a field of the name
abbrev pub is_somewhere : List TypeDecl → List ℕ → Bool
is_somewhere types name = list_any (λ d. is_declared d.fields name) types

-- ---- the known fields are declared somewhere

grown : {A : Type 0} (p : A → Bool) (b : Bool) (xs : List A) (x : A) → list_any p (cond b xs (xs ++ x ∷ [])) ≡ true → (list_any p xs || p x) ≡ true
grown p true xs x e = or_left (list_any p xs) (p x) e
grown p false xs x e = ap (λ b. list_any p xs || b) (sym (or_false (p x))) ∙ sym (list_any-append p xs (x ∷ [])) ∙ e

module _ (name : List ℕ) where
  known_more : (ds : List FieldDecl) (fields : List Field) → is_known (fold with_field fields ds) name ≡ true
      → (is_known fields name || is_declared ds name) ≡ true
  known_more [] fields e = or_left (is_known fields name) false e
  known_more (d ∷ ds) fields e =
      let later = known_more ds (with_field fields d) e in
      sym (or_assoc (is_known fields name) (bytes_eq d.name.text name) (is_declared ds name))
      ∙ or_so (is_known (with_field fields d) name) (is_declared ds name) (is_known fields name || bytes_eq d.name.text name) (is_declared ds name)
      (grown (λ f. bytes_eq f.name name) (is_known fields d.name.text) fields (record { name = d.name.text; number = length fields; kind = d.kind }))
      (λ h. h) later

  known_types : (types : List TypeDecl) (fields : List Field) → is_known (fold (λ known d. with_fields known d.fields) fields types) name ≡ true
      → (is_known fields name || is_somewhere types name) ≡ true
  known_types [] fields e = or_left (is_known fields name) false e
  known_types (d ∷ types) fields e =
      let later = known_types types (with_fields fields d.fields) e in
      sym (or_assoc (is_known fields name) (is_declared d.fields name) (is_somewhere types name))
      ∙ or_so (is_known (with_fields fields d.fields) name) (is_somewhere types name) (is_known fields name || is_declared d.fields name)
      (is_somewhere types name)
      (known_more d.fields fields) (λ h. h) later

  pub known_somewhere : (types : List TypeDecl) → is_known (known_fields types) name ≡ true → is_somewhere types name ≡ true
  unfolding known_fields
  known_somewhere types e = known_types types [] e

-- ---- what is declared somewhere has its number in the plan

module _ (fields : List Field) (name : List ℕ) where
  same_number : (d : FieldDecl) → bytes_eq d.name.text name ≡ true → (field_number fields d.name.text == field_number fields name) ≡ true
  same_number d e = eq-eqb (field_number fields d.name.text) (field_number fields name) (ap (field_number fields) ((bytes_eq-Decides d.name.text name).0 e))

  in_type : (ds : List FieldDecl) → is_declared ds name ≡ true → list_any (λ f. f.number == field_number fields name) (fields_of fields ds) ≡ true
  in_type [] e = e
  in_type (d ∷ ds) e =
      or_so (bytes_eq d.name.text name) (is_declared ds name) (field_number fields d.name.text == field_number fields name)
      (list_any (λ f. f.number == field_number fields name) (fields_of fields ds))
      (same_number d) (in_type ds) e

  pub numbered_field : (types : List TypeDecl) → is_somewhere types name ≡ true → has_field (types_of fields types) (field_number fields name) ≡ true
  numbered_field [] e = e
  numbered_field (d ∷ types) e =
      or_so (is_declared d.fields name) (is_somewhere types name) (list_any (λ f. f.number == field_number fields name) (fields_of fields d.fields))
      (has_field (types_of fields types) (field_number fields name))
      (in_type d.fields) (numbered_field types) e

-- ---- what is mentioned

module _ (file : File) where
  abbrev fields : List Field
  fields = known_fields file.types

  pub had_somewhere : (of : Option Name) (name : List ℕ) → may_have file.types fields of name ≡ true → is_somewhere file.types name ≡ true
  had_somewhere None name e = known_somewhere name file.types e
  had_somewhere (Some type) name e =
      any_so (λ d. bytes_eq d.name.text type.text && is_declared d.fields name) (λ d. is_declared d.fields name)
      (λ d h. right_of (bytes_eq d.name.text type.text) (is_declared d.fields name) h) file.types e

  pub field_somewhere : (spot : Site) (name : List ℕ) → is_unknown_field file fields spot name ≡ false → is_somewhere file.types name ≡ true
  field_somewhere (site.Condition k) name e =
      had_somewhere (type_of (slice_get file.openers k)) name (double_not (may_have file.types fields (type_of (slice_get file.openers k)) name) e)
  field_somewhere (site.Until k) name e = known_somewhere name file.types (double_not (is_known fields name) e)
  field_somewhere site.Select name e = absurd (cc)

  positive_found : (found : Option Opener) → is_none found ≡ false → is_negated_one found ≡ false → is_positive_one found ≡ true
  positive_found None e h = absurd (cc)
  positive_found (Some o) e h = ap not h

  pub positive_name : (spot : Site) (name : Name) → bad_name rule.UnknownName file.openers spot name ≡ None
      → bad_name rule.NegatedName file.openers spot name ≡ None
      → is_positive_one (slice_get file.openers (opener_number file.openers name.text)) ≡ true
  positive_name spot name e h =
      positive_found (slice_get file.openers (opener_number file.openers name.text))
      (not_broken (is_none (slice_get file.openers (opener_number file.openers name.text))) name.place e)
      (not_broken (is_negated_one (slice_get file.openers (opener_number file.openers name.text))) name.place h)

  pub stage_numbered : (n : ℕ) → length (filter is_positive file.openers) ≡ n → (spot : Site) (name : Name)
      → bad_name rule.UnknownName file.openers spot name ≡ None → bad_name rule.NegatedName file.openers spot name ≡ None
      → nat_lt (stages_before file.openers name.text) n ≡ true
  stage_numbered n count spot name e h =
      below (stages_before file.openers name.text) n
      (subst (λ (m : ℕ). stages_before file.openers name.text < m) count
      (found_positive file.openers (opener_number file.openers name.text) (positive_name spot name e h)))

  field_numbered : (name : List ℕ) → is_somewhere file.types name ≡ true → has_field (types_of fields file.types) (field_number fields name) ≡ true
  field_numbered name e = numbered_field fields name file.types e

  -- where the names of stages have numbers below the bound, what is mentioned has numbers that the plan has
  pub mention_numbered : (n : ℕ) (spot : Site)
      → ((name : Name) → Keeps (λ r. bad_name r file.openers spot name) → nat_lt (stages_before file.openers name.text) n ≡ true)
      → (m : Mention) → Keeps (λ r. bad_mention r file fields spot m) → is_numbered n (types_of fields file.types) fields file.openers m ≡ true
  mention_numbered n spot stage (a_field name) h =
      field_numbered name.text (field_somewhere spot name.text (not_broken (is_unknown_field file fields spot name.text) name.place h.fields_known))
  mention_numbered n spot stage (a_stage name) h =
      stage name (record { fields_known = h.fields_known; names_known = h.names_known; names_positive = h.names_positive; none_later = h.none_later })
  mention_numbered n spot stage (a_stage_field name field) h =
      both (nat_lt (stages_before file.openers name.text) n) (has_field (types_of fields file.types) (field_number fields field.text))
      (stage name (record { fields_known = refl; names_known = h.names_known; names_positive = h.names_positive; none_later = h.none_later }))
      (field_numbered field.text (had_somewhere (type_taken (slice_get file.openers (opener_number file.openers name.text))) field.text
      (double_not (may_have file.types fields (type_taken (slice_get file.openers (opener_number file.openers name.text))) field.text)
      (not_broken (not (may_have file.types fields (type_taken (slice_get file.openers (opener_number file.openers name.text))) field.text))
      field.place h.fields_known))))
