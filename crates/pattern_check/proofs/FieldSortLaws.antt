-- A field that a file without a fault mentions has in the plan the kind that it has in the file.
use Rattle.std.proofs.Common.{◌≡◌, ℕ, Bool, true, false, cond, not, ◌||◌, List, [], ◌∷◌, map, refl, sym, ap, ◌∙◌}
use Rattle.std.specs.Prelude.{◌==◌, Option, Some, None}
use Rattle.std.specs.Str.{bytes_eq}
use Rattle.std.specs.List.{list_all, list_any, slice_get}
use Rattle.std.specs.Option.{is_some}
use Rattle.std.proofs.lemmas.Slice.Eq.{bytes_eq-Decides}
use Rattle.std.proofs.lemmas.List.Folds.{list_any-append}
use Rattle.cep_event.specs.declared.event.Field.{Field}
use Rattle.cep_event.specs.declared.event.EventType.{EventType}
use Rattle.cep_event.specs.declared.value.Kind.{Kind}
use Rattle.cep_event.specs.declared.value.Kind.TheVariants as kind
use Rattle.cep_syntax.specs.declared.file.FieldDecl.{FieldDecl}
use Rattle.cep_syntax.specs.declared.file.TypeDecl.{TypeDecl}
use Rattle.cep_syntax.specs.declared.file.File.{File}
use Rattle.cep_syntax.specs.WellFormed.{IsWellFormed}
use Rattle.pattern_rules.specs.declared.site.Site.{Site}
use Rattle.pattern_rules.specs.declared.mention.MentionRule.TheVariants as rule
use Rattle.pattern_rules.specs.First.{or_else, first_some}
use Rattle.pattern_rules.specs.Named.{is_declared, opener_number, meaning}
use Rattle.pattern_rules.specs.Fields.{is_known, known_fields}
use Rattle.pattern_rules.specs.Declarations.{is_other}
use Rattle.pattern_rules.specs.Mention.{Mention, a_field, a_stage, a_stage_field}
use Rattle.pattern_rules.specs.Mentioned.{may_have, type_taken, is_unknown_field, bad_mention}
use Rattle.pattern_rules.specs.Kinds.{same_sort, field_sort}
use Rattle.pattern_rules.specs.Rules.{fault_with}
use Rattle.pattern_check.specs.Numbers.{field_number}
use Rattle.pattern_check.specs.Plan.{field_of, types_of}
use Rattle.pattern_check.specs.Sound.{has_field}
use Rattle.pattern_check.specs.FieldNumbers.{all_fields}
use Rattle.pattern_check.specs.Sorts.{kind_if, sort_of_kind, sort_of_field}
use Rattle.pattern_check.proofs.ListLaws.{left_of, right_of}
use Rattle.pattern_check.proofs.BoundLaws.{not_broken}
use Rattle.pattern_check.proofs.StageLaws.{double_not}
use Rattle.pattern_check.proofs.NumberedLaws.{is_somewhere, numbered_field, had_somewhere, field_somewhere}
use Rattle.pattern_check.proofs.KnownLaws.{known_among, known_some}
use Rattle.pattern_check.proofs.FieldNumberLaws.{good, every_field, one_place, number_so, all_known, all_good, place_known}
use Rattle.pattern_check.proofs.SortLaws.{keeps_sort}

-- the field has not the number, or has this kind
abbrev agrees : Option (ℕ × Kind) → ℕ → Field → Bool
agrees meant number f = not (f.number == number) || same_sort (field_sort meant) (sort_of_kind (Some f.kind))

found_step : (b any : Bool) (k : Kind) (meant : Option (ℕ × Kind)) (rest : Option Kind) → (b || any) ≡ true
    → (not b || same_sort (field_sort meant) (sort_of_kind (Some k))) ≡ true
    → (any ≡ true → same_sort (field_sort meant) (sort_of_kind rest) ≡ true)
    → same_sort (field_sort meant) (sort_of_kind (or_else (cond b (Some k) None) rest)) ≡ true
found_step true any k meant rest e h later = h
found_step false any k meant rest e h later = later e

first_found : (meant : Option (ℕ × Kind)) (number : ℕ) (fs : List Field) → list_any (λ f. f.number == number) fs ≡ true
    → list_all (agrees meant number) fs ≡ true → same_sort (field_sort meant) (sort_of_kind (first_some (kind_if number) fs)) ≡ true
first_found meant number [] e h = absurd (cc)
first_found meant number (f ∷ fs) e h =
    found_step (f.number == number) (list_any (λ g. g.number == number) fs) f.kind meant (first_some (kind_if number) fs) e
    (left_of (agrees meant number f) (list_all (agrees meant number) fs) h)
    (λ more. first_found meant number fs more (right_of (agrees meant number f) (list_all (agrees meant number) fs) h))

any_flat : (number : ℕ) (types : List EventType) → list_any (λ f. f.number == number) (all_fields types) ≡ has_field types number
any_flat number [] = refl
any_flat number (t ∷ types) = list_any-append (λ f. f.number == number) t.fields (all_fields types)
    ∙ ap (λ b. list_any (λ f. f.number == number) t.fields || b) (any_flat number types)

kind_so : (meant : Option (ℕ × Kind)) (k : Kind) → is_some meant ≡ true → not (is_other meant k) ≡ true
    → same_sort (field_sort meant) (sort_of_kind (Some k)) ≡ true
kind_so None k e h = absurd (cc)
kind_so (Some (n, kind.Int)) kind.Int e h = refl
kind_so (Some (n, kind.Text)) kind.Text e h = refl
kind_so (Some (n, kind.Int)) kind.Text e h = absurd (cc)
kind_so (Some (n, kind.Text)) kind.Int e h = absurd (cc)

if_equal : (b c : Bool) → (b ≡ true → c ≡ true) → (not b || c) ≡ true
if_equal true c f = f refl
if_equal false c f = refl

-- ---- a name that is declared is known

either_known : (p any rest other : Bool) → (p || any) ≡ true → (p ≡ true → rest ≡ true) → (any ≡ true → rest ≡ true) → rest ≡ true
either_known true any rest other e here later = here refl
either_known false any rest other e here later = later e

known_declared : (known : List Field) (name : List ℕ) (ds : List FieldDecl) → is_declared ds name ≡ true
    → list_all (λ d. is_known known d.name.text) ds ≡ true → is_known known name ≡ true
known_declared known name [] e h = absurd (cc)
known_declared known name (d ∷ ds) e h =
    either_known (bytes_eq d.name.text name) (is_declared ds name) (is_known known name) true e
    (λ same. ap (is_known known) (sym ((bytes_eq-Decides d.name.text name).0 same))
    ∙ left_of (is_known known d.name.text) (list_all (λ x. is_known known x.name.text) ds) h)
    (λ more. known_declared known name ds more (right_of (is_known known d.name.text) (list_all (λ x. is_known known x.name.text) ds) h))

known_if : (known : List Field) (name : List ℕ) (types : List TypeDecl) → is_somewhere types name ≡ true
    → list_all (λ t. list_all (λ d. is_known known d.name.text) t.fields) types ≡ true → is_known known name ≡ true
known_if known name [] e h = absurd (cc)
known_if known name (t ∷ types) e h =
    either_known (is_declared t.fields name) (is_somewhere types name) (is_known known name) true e
    (λ here. known_declared known name t.fields here
    (left_of (list_all (λ d. is_known known d.name.text) t.fields) (list_all (λ u. list_all (λ d. is_known known d.name.text) u.fields) types) h))
    (λ more. known_if known name types more (right_of (list_all (λ d. is_known known d.name.text) t.fields)
    (list_all (λ u. list_all (λ d. is_known known d.name.text) u.fields) types) h))

-- ---- what is mentioned

module _ (file : File) (well : IsWellFormed file) (sound : fault_with (known_fields file.types) file ≡ None) where
  abbrev fields : List Field
  fields = known_fields file.types

  kind_kept : (name : List ℕ) → is_known fields name ≡ true → (d : FieldDecl) → good fields d ≡ true
      → agrees (meaning fields name) (field_number fields name) (field_of fields d) ≡ true
  kind_kept name known d g =
      let here = left_of (is_known fields d.name.text) (not (is_other (meaning fields d.name.text) d.kind)) g in
      if_equal (field_number fields d.name.text == field_number fields name) (same_sort (field_sort (meaning fields name)) (sort_of_kind (Some d.kind))) (λ e.
      (let same : d.name.text ≡ name
      = one_place (map (λ f. f.name) fields) d.name.text name
      (sym (place_known file well sound d.name.text here) ∙ number_so (field_number fields d.name.text) (field_number fields name) e
      ∙ place_known file well sound name known)
      (sym (known_among fields d.name.text) ∙ here) (sym (known_among fields name) ∙ known) in
      kind_so (meaning fields name) d.kind (sym (known_some fields name) ∙ known)
      (ap (λ text. not (is_other (meaning fields text) d.kind)) (sym same)
      ∙ right_of (is_known fields d.name.text) (not (is_other (meaning fields d.name.text) d.kind)) g)))

  sort_kept : (name : List ℕ) → is_somewhere file.types name ≡ true
      → same_sort (field_sort (meaning fields name)) (sort_of_field (types_of fields file.types) (field_number fields name)) ≡ true
  sort_kept name e =
      first_found (meaning fields name) (field_number fields name) (all_fields (types_of fields file.types))
      (any_flat (field_number fields name) (types_of fields file.types) ∙ numbered_field fields name file.types e)
      (every_field fields (agrees (meaning fields name) (field_number fields name))
      (kind_kept name (known_if fields name file.types e (all_known file well sound))) file.types (all_good file well sound))

  pub mention_kept : (spot : Site) (m : Mention) → bad_mention rule.UnknownField file fields spot m ≡ None
      → keeps_sort (types_of fields file.types) fields m ≡ true
  mention_kept spot (a_field name) e =
      sort_kept name.text (field_somewhere file spot name.text (not_broken (is_unknown_field file fields spot name.text) name.place e))
  mention_kept spot (a_stage name) e = refl
  mention_kept spot (a_stage_field name field) e =
      sort_kept field.text (had_somewhere file (type_taken (slice_get file.openers (opener_number file.openers name.text))) field.text
      (double_not (may_have file.types fields (type_taken (slice_get file.openers (opener_number file.openers name.text))) field.text)
      (not_broken (not (may_have file.types fields (type_taken (slice_get file.openers (opener_number file.openers name.text))) field.text))
      field.place e)))
