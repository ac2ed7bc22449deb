-- An index of the fields of types, with one type more.
use Rattle.std.proofs.Common.{◌≡◌, ℕ, Bool, true, false, cond, ◌||◌, ◌&&◌, List, [], ◌∷◌, ◌++◌, refl, sym, ap, ◌∙◌}
use Rattle.std.specs.Prelude.{Option, Some, None, String}
use Rattle.std.specs.Global.{Global}
use Rattle.std.specs.BTreeSet.{BTreeSet, contains_text}
use Rattle.std.specs.Map.{update}
use Rattle.std.specs.Str.{bytes_eq}
use Rattle.std.proofs.lemmas.List.Folds.{list_any-append}
use Rattle.std.proofs.lemmas.Slice.Eq.{bytes_eq-Decides}
use Rattle.cep_syntax.specs.declared.file.TypeDecl.{TypeDecl}
use Rattle.pattern_rules.specs.Mentioned.{has_field}
use Rattle.pattern_rules.specs.Named.{is_declared}
use Rattle.pattern_rules.specs.TypeFields.{holds}

or_false : (b : Bool) → (b || false) ≡ b
or_false true = refl
or_false false = refl

more_types : (types : List TypeDecl) (d : TypeDecl) (type name : List ℕ)
    → has_field (types ++ d ∷ []) type name ≡ (has_field types type name || (bytes_eq d.name.text type && is_declared d.fields name))
more_types types d type name =
    list_any-append (λ e. bytes_eq e.name.text type && is_declared e.fields name) types (d ∷ [])
    ∙ ap (λ b. has_field types type name || b) (or_false (bytes_eq d.name.text type && is_declared d.fields name))

by_case : (b : Bool) (set : BTreeSet (String Global)) (o : Option (BTreeSet (String Global))) (name : List ℕ) (held more : Bool)
    → (b ≡ true → contains_text set name ≡ (held || more)) → holds o name ≡ held
    → holds (cond b (Some set) (cond b None o)) name ≡ (held || (b && more))
by_case true set o name held more here there = here refl
by_case false set o name held more here there = there ∙ sym (or_false held)

pub with_type : (types : List TypeDecl) (d : TypeDecl) (get : List ℕ → Option (BTreeSet (String Global))) (set : BTreeSet (String Global))
    → ((type name : List ℕ) → holds (get type) name ≡ has_field types type name)
    → ((name : List ℕ) → contains_text set name ≡ (holds (get d.name.text) name || is_declared d.fields name))
    → (type name : List ℕ)
    → holds (update bytes_eq (update bytes_eq get d.name.text None) d.name.text (Some set) type) name ≡ has_field (types ++ d ∷ []) type name
with_type types d get set is made type name =
    let here : bytes_eq d.name.text type ≡ true → contains_text set name ≡ (has_field types type name || is_declared d.fields name)
    = λ e. made name ∙ ap (λ b. b || is_declared d.fields name) (ap (λ t. holds (get t) name) ((bytes_eq-Decides d.name.text type).0 e) ∙ is type name) in
    by_case (bytes_eq d.name.text type) set (get type) name (has_field types type name) (is_declared d.fields name) here (is type name)
    ∙ sym (more_types types d type name)

pub set_case : (b held : Bool) → cond b true held ≡ (held || b)
set_case true true = refl
set_case true false = refl
set_case false true = refl
set_case false false = refl
