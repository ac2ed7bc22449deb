-- What an index of fields finds, and what it finds once there is one field more.
use Rattle.std.proofs.Common.{◌≡◌, ℕ, Bool, true, false, cond, ◌||◌, List, [], ◌∷◌, ◌++◌, length, refl, sym, ap, ◌∙◌}
use Rattle.std.specs.Prelude.{Option, Some, None}
use Rattle.std.specs.Option.{is_some}
use Rattle.std.specs.Str.{bytes_eq}
use Rattle.std.specs.Map.{update}
use Rattle.std.proofs.lemmas.Slice.Eq.{bytes_eq-Decides}
use Rattle.cep_event.specs.declared.event.Field.{Field}
use Rattle.cep_event.specs.declared.value.Kind.{Kind}
use Rattle.cep_syntax.specs.declared.file.FieldDecl.{FieldDecl}
use Rattle.pattern_rules.specs.First.{or_else}
use Rattle.pattern_rules.specs.Named.{meaning, meaning_if}
use Rattle.pattern_rules.specs.Fields.{is_known, with_field}
use Rattle.pattern_rules.proofs.MentionLaws.{or_else_none, or_else_assoc}

known_step : (b any : Bool) (v : ℕ × Kind) (rest : Option (ℕ × Kind)) → any ≡ is_some rest → (b || any) ≡ is_some (or_else (cond b (Some v) None) rest)
known_step true any v rest e = refl
known_step false any v rest e = e

pub known_is : (fields : List Field) (name : List ℕ) → is_known fields name ≡ is_some (meaning fields name)
known_is [] name = refl
known_is (f ∷ fields) name = known_step (bytes_eq f.name name) (is_known fields name) (f.number, f.kind) (meaning fields name) (known_is fields name)

pub with_known : (fields : List Field) (d : FieldDecl) → is_known fields d.name.text ≡ true → fields ≡ with_field fields d
with_known fields d e = sym (ap (λ b. cond b fields (fields ++ record { name = d.name.text; number = length fields; kind = d.kind } ∷ [])) e)

pub with_new : (fields : List Field) (d : FieldDecl) → is_known fields d.name.text ≡ false
    → fields ++ record { name = d.name.text; number = length fields; kind = d.kind } ∷ [] ≡ with_field fields d
with_new fields d e = sym (ap (λ b. cond b fields (fields ++ record { name = d.name.text; number = length fields; kind = d.kind } ∷ [])) e)

meaning_more : (fields : List Field) (f : Field) (q : List ℕ) → meaning (fields ++ f ∷ []) q ≡ or_else (meaning fields q) (meaning_if q f)
meaning_more [] f q = or_else_none (meaning_if q f)
meaning_more (g ∷ fields) f q = ap (or_else (meaning_if q g)) (meaning_more fields f q)
    ∙ sym (or_else_assoc (meaning_if q g) (meaning fields q) (meaning_if q f))

nothing : (o : Option (ℕ × Kind)) → is_some o ≡ false → o ≡ None
nothing None e = refl
nothing (Some v) e = absurd (cc)

by_case : (b : Bool) (o : Option (ℕ × Kind)) (v : ℕ × Kind) → (b ≡ true → o ≡ None) → cond b (Some v) o ≡ or_else o (cond b (Some v) None)
by_case true o v none = sym (ap (λ p. or_else p (Some v)) (none refl))
by_case false o v none = sym (or_else_none o)

pub more_indexed : (fields : List Field) (f : Field) (get : List ℕ → Option (ℕ × Kind)) → ((q : List ℕ) → get q ≡ meaning fields q)
    → is_known fields f.name ≡ false
    → (q : List ℕ) → update bytes_eq get f.name (Some (f.number, f.kind)) q ≡ meaning (fields ++ f ∷ []) q
more_indexed fields f get indexed new q =
    let absent : bytes_eq f.name q ≡ true → meaning fields q ≡ None
    = λ e. nothing (meaning fields q) (sym (known_is fields q) ∙ ap (is_known fields) (sym ((bytes_eq-Decides f.name q).0 e)) ∙ new) in
    ap (cond (bytes_eq f.name q) (Some (f.number, f.kind))) (indexed q) ∙ by_case (bytes_eq f.name q) (meaning fields q) (f.number, f.kind) absent
    ∙ sym (meaning_more fields f q)
