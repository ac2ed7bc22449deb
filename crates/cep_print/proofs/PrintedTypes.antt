-- The tokens of printed lists, and of printed types.
use Rattle.std.proofs.Common.{◌≡◌, Bool, true, List, [], ◌∷◌, ◌++◌, map, refl}
use Rattle.std.specs.Prelude.{codes, flat_map}
use Rattle.std.specs.List.{list_all}
use Rattle.cep_event.specs.declared.value.Kind.{Kind}
use Rattle.cep_event.specs.declared.value.Kind.TheVariants as event
use Rattle.cep_token.specs.declared.token.TokenKind.TheVariants as kind
use Rattle.cep_token.specs.Form.{is_word}
use Rattle.cep_reading.specs.Terminal.{any_word}
use Rattle.cep_reading.specs.Rule.{Rule}
use Rattle.cep_reading.specs.Rule as rule
use Rattle.cep_syntax.specs.declared.file.FieldDecl.{FieldDecl}
use Rattle.cep_syntax.specs.declared.file.TypeDecl.{TypeDecl}
use Rattle.cep_syntax.specs.Terminal.{kind_of}
use Rattle.cep_syntax.specs.Grammar as grammar
use Rattle.cep_syntax.specs.WellFormed.{is_formed_type}
use Rattle.cep_print.specs.Literal.{Text}
use Rattle.cep_print.specs.Expression.{chained}
use Rattle.cep_print.specs.File.{kind_text, field_text, field_part, type_text, types_text}
use Rattle.cep_print.specs.Same.{unplaced_name}
use Rattle.cep_print.specs.SameFile.{unplaced_field, unplaced_type}
use Rattle.cep_print.proofs.Scanned.{soft, hard, hard_is_soft, and_parts}
use Rattle.cep_print.proofs.Marks.{is_token-word}
use Rattle.cep_print.proofs.Prints.{Prints, Printed, Prints-then, Prints-made, Prints-left, Prints-right, Prints-pure, Prints-one, Prints-more, Prints-no_more, Prints-blank_before, Prints-blank_behind, soft_stays, sign_then, sign_last, word_then, Prints-any_word}
use Rattle.cep_print.proofs.PrintedParts.{Rest, rest_none, rest_more}

-- ---- lists

-- a fact of each element
abbrev pub Each : {A : Type 0} → (A → Type 0) → List A → Type 0
Each P [] = Unit {0}
Each P (x ∷ xs) = P x × Each P xs

pub each_of : {A : Type 0} (p : A → Bool) (P : A → Type 0) → ((x : A) → p x ≡ true → P x) → (xs : List A) → list_all p xs ≡ true → Each P xs
each_of p P so [] e = tt
each_of p P so (x ∷ xs) e = let k = and_parts (p x) (list_all p xs) e in (so x k.0, each_of p P so xs k.1)

abbrev with_sign : Text × Text → Text
with_sign part = part.0 ++ part.1

module _ {A V : Type 0} (r : Rule A) (see : A → V) (text : A → Text) where
  abbrev pub comma_part : A → Text × Text
  comma_part x = (codes ", ", text x)

  abbrev pub ShownItem : A → Type 0
  ShownItem x = Printed r see (see x) hard (text x)

  -- the items behind the first, each behind a comma
  pub rest_items : (xs : List A) → Each ShownItem xs → Rest (rule.◌>>◌ (rule.sign (codes ",")) r) see (map see xs) (flat_map with_sign (map comma_part xs))
  rest_items [] each = rest_none (rule.◌>>◌ (rule.sign (codes ",")) r) see
  rest_items (x ∷ xs) each =
      rest_more (rule.◌>>◌ (rule.sign (codes ",")) r) see (see x) (map see xs) (codes ", ") (text x) (flat_map with_sign (map comma_part xs)) (λ rest. refl)
      (_, sign_then 44 r see (see x) hard (32 ∷ text x) each.0.0 refl refl (Prints-blank_before r see (see x) hard (text x) each.0.0 each.0.1))
      (rest_items xs each.1)

  -- one item or more
  pub some_items : (x : A) (xs : List A) → Each ShownItem (x ∷ xs)
      → Printed (rule.◌>>=◌ r (λ first. rule.◌>>=◌ (rule.many (rule.◌>>◌ (rule.sign (codes ",")) r)) (λ more. rule.pure (first ∷ more)))) (map see) (map see (x ∷ xs)) hard (chained (map comma_part (x ∷ xs)))
  some_items x xs each =
      let rest = rest_items xs each.1 in
      let w = flat_map with_sign (map comma_part xs) in (
        _,
        Prints-then r _ see (map see) x (see x) (map see (x ∷ xs)) hard hard (text x) w each.0.0 rest.found.0 refl each.0.1
            (λ y is. Prints-made (rule.many (rule.◌>>◌ (rule.sign (codes ",")) r)) (λ ys. y ∷ ys) (map see) (map see) (map see xs) (map see (x ∷ xs)) hard w rest.found.0 rest.found.1 (λ ys same i. is i ∷ same i))
            rest.begins,
      )

-- a semicolon and a line end
pub line_end : {B W : Type 0} (b : B) (see : B → W) (goal : W) → see b ≡ goal → Prints (rule.◌>>◌ (rule.sign (codes ";")) (rule.pure b)) see goal soft (codes ";\n") ((kind.Symbol, codes ";") ∷ [])
line_end b see goal is = Prints-blank_behind (rule.◌>>◌ (rule.sign (codes ";")) (rule.pure b)) see goal soft 10 (codes ";") ((kind.Symbol, codes ";") ∷ []) refl refl refl (sign_last 59 b see goal refl refl is)

-- ---- types

kind_shown : (k : Kind) → Printed (rule.one kind_of) (λ x. x) k hard (kind_text k)
unfolding kind_of
kind_shown event.Int = (_, Prints-one kind_of (λ x. x) event.Int kind.Word (codes "int") hard hard_is_soft (is_token-word (codes "int") refl) (λ rest may. refl) (λ place. (event.Int, refl, refl)))
kind_shown event.Text = (_, Prints-one kind_of (λ x. x) event.Text kind.Word (codes "text") hard hard_is_soft (is_token-word (codes "text") refl) (λ rest may. refl) (λ place. (event.Text, refl, refl)))

field_shown : (f : FieldDecl) → is_word f.name.text ≡ true → Printed grammar.field unplaced_field (unplaced_field f) hard (field_text f)
unfolding grammar.field
field_shown f e =
    let k = kind_shown f.kind in
    let goal = unplaced_field f in (
      _,
      Prints-then (rule.one any_word) _ unplaced_name unplaced_field f.name (unplaced_name f.name) goal hard hard f.name.text (32 ∷ kind_text f.kind)
          _ k.0 refl (Prints-any_word f.name e)
          (λ y is. Prints-made (rule.one kind_of) _ (λ x. x) unplaced_field f.kind goal hard (32 ∷ kind_text f.kind) k.0
          (Prints-blank_before (rule.one kind_of) (λ x. x) f.kind hard (kind_text f.kind) k.0 k.1)
          (λ x same i. record { name = is i; kind = same i }))
          (λ rest may. refl),
    )

fields_shown : (fields : List FieldDecl) → list_all (λ field. is_word field.name.text) fields ≡ true
    → Printed grammar.fields (map unplaced_field) (map unplaced_field fields) hard (chained (map field_part fields))
unfolding grammar.fields
fields_shown [] e = (_, Prints-right _ (rule.pure []) (map unplaced_field) [] hard [] _ (Prints-pure [] (map unplaced_field) hard hard_is_soft))
fields_shown (f ∷ fields) e =
    let each = each_of (λ field. is_word field.name.text) (ShownItem grammar.field unplaced_field field_text) field_shown (f ∷ fields) e in
    let p = some_items grammar.field unplaced_field field_text f fields each in
    (p.0, Prints-left _ (rule.pure []) (map unplaced_field) (map unplaced_field (f ∷ fields)) hard _ p.0 p.1)

type_shown : (d : TypeDecl) → is_formed_type d ≡ true → Printed grammar.declaration unplaced_type (unplaced_type d) soft (type_text d)
unfolding grammar.declaration
type_shown d e =
    let k = and_parts (is_word d.name.text) (list_all (λ field. is_word field.name.text) d.fields) e in
    let fields = fields_shown d.fields k.1 in
    let goal = unplaced_type d in
    let w = chained (map field_part d.fields) in (
      _,
      word_then (codes "event") _ unplaced_type goal soft (32 ∷ (d.name.text ++ (40 ∷ (w ++ codes ");\n")))) _ refl (λ rest may. refl)
          (Prints-blank_before _ unplaced_type goal soft (d.name.text ++ (40 ∷ (w ++ codes ");\n"))) _
          (Prints-then (rule.one any_word) _ unplaced_name unplaced_type d.name (unplaced_name d.name) goal hard soft d.name.text (40 ∷ (w ++ codes ");\n")) _ _ refl (Prints-any_word d.name k.0)
          (λ y is. sign_then 40 _ unplaced_type goal soft (w ++ codes ");\n") _ refl refl
          (Prints-then grammar.fields _ (map unplaced_field) unplaced_type d.fields (map unplaced_field d.fields) goal hard soft w (codes ");\n") fields.0 _ refl fields.1
          (λ found same. sign_then 41 _ unplaced_type goal soft (codes ";\n") _ refl refl (line_end (record { name = y; fields = found }) unplaced_type goal (λ i. record { name = is i; fields = same i })))
          (λ rest may. refl)))
          (λ rest may. refl))),
    )

pub types_shown : (types : List TypeDecl) → list_all is_formed_type types ≡ true
    → Printed (rule.many grammar.declaration) (map unplaced_type) (map unplaced_type types) soft (types_text types)
types_shown [] e = (_, Prints-no_more grammar.declaration unplaced_type soft soft_stays)
types_shown (d ∷ types) e =
    let k = and_parts (is_formed_type d) (list_all is_formed_type types) e in
    let p = type_shown d k.0 in
    let more = types_shown types k.1 in (
      _,
      Prints-more grammar.declaration unplaced_type (unplaced_type d) (map unplaced_type types) soft soft (type_text d) (types_text types) p.0
          more.0 p.1 more.1 more.1.begins,
    )
