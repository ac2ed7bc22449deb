-- Rows, from their fields.
use Rattle.std.proofs.Common.{◌≡◌, ◌<◌, ◌+◌, ◌++◌, ◌∷◌, ◌∙◌, [], ℕ, List, refl, sym, ap, false, append_assoc, length, take, get_or, eqb, None}
use Rattle.std.specs.Prelude.{codes, decimal}
use Rattle.std.proofs.lemmas.List.{append-nil, map-append, take_more}
use Rattle.csv.specs.Writing.{default_writer, fields_text, is_blank, needs_quotes, row_text}
use Rattle.cep_event.specs.declared.event.EventType.{EventType}
use Rattle.cep_plan.specs.declared.condition.Expr.{Expr}
use Rattle.cep_plan.specs.declared.item.Taken.{Taken}
use Rattle.cep_plan.specs.Value.{value_of}
use Rattle.cep_select.specs.Output.{answer_text, late_row, selected}
use Rattle.cep_select.specs.Pieces.{next_field}
use Rattle.cep_select.proofs.QuoteLaws.{next_field-plain, plain-decimal}

pub fields_text-append : (xs ys : List (List ℕ)) → fields_text default_writer (xs ++ ys) ≡ fields_text default_writer xs ++ fields_text default_writer ys
unfolding fields_text
fields_text-append [] ys = refl
fields_text-append (x ∷ xs) ys =
    ap (λ (t : List ℕ). next_field x ++ t) (fields_text-append xs ys)
    ∙ sym (append_assoc (next_field x) (fields_text default_writer xs) (fields_text default_writer ys))

pub fields_text-one : (field : List ℕ) → fields_text default_writer (field ∷ []) ≡ next_field field
unfolding fields_text
fields_text-one field = append-nil (next_field field)

pub base-none : (base : List ℕ) → base ≡ base ++ fields_text default_writer []
unfolding fields_text
base-none base = sym (append-nil base)

pub fields_text-none : fields_text default_writer [] ≡ []
unfolding fields_text
fields_text-none = refl

-- a row whose first field needs no quotes and has something to show
row-from : (kind : List ℕ) (fields : List (List ℕ)) → needs_quotes default_writer kind ≡ false → eqb (length kind) 0 ≡ false
    → row_text default_writer (kind ∷ fields) ≡ kind ++ (fields_text default_writer fields ++ 10 ∷ [])
unfolding is_blank
row-from kind [] plain some = rw (plain, some) (append_assoc kind (fields_text default_writer []) (10 ∷ []))
row-from kind (field ∷ fields) plain some = rw plain (append_assoc kind (fields_text default_writer (field ∷ fields)) (10 ∷ []))

-- a row, from the three pieces that are appended
pub row-is : (base kind first second third : List ℕ) (fields : List (List ℕ)) → needs_quotes default_writer kind ≡ false → eqb (length kind) 0 ≡ false
    → first ≡ base ++ kind → second ≡ first ++ fields_text default_writer fields → third ≡ second ++ 10 ∷ []
    → third ≡ base ++ row_text default_writer (kind ∷ fields)
row-is base kind first second third fields plain some a b c =
    c
    ∙ ap (λ (t : List ℕ). t ++ 10 ∷ []) (b ∙ ap (λ (t : List ℕ). t ++ fields_text default_writer fields) a
    ∙ append_assoc base kind (fields_text default_writer fields))
    ∙ append_assoc base (kind ++ fields_text default_writer fields) (10 ∷ [])
    ∙ ap (λ (t : List ℕ). base ++ t) (append_assoc kind (fields_text default_writer fields) (10 ∷ []))
    ∙ ap (λ (t : List ℕ). base ++ t) (sym (row-from kind fields plain some))

-- the row of a late event, from its pieces
pub late-is : (row : ℕ) (first second third : List ℕ) → first ≡ [] ++ codes "late," → second ≡ first ++ decimal row → third ≡ second ++ 10 ∷ [] → third ≡ late_row row
late-is row first second third a b c =
    c ∙ ap (λ (t : List ℕ). t ++ 10 ∷ []) (b ∙ ap (λ (t : List ℕ). t ++ decimal row) a)
    ∙ ap (λ (t : List ℕ). codes "late" ++ (t ++ 10 ∷ [])) (sym (fields_text-one (decimal row) ∙ next_field-plain (decimal row) (plain-decimal row)))
    ∙ sym (row-from (codes "late") (decimal row ∷ []) refl refl)

-- ---- the values that are selected, one after another

pub selected-more : (base text new : List ℕ) (types : List EventType) (list : List Taken) (exprs : List Expr) (i : ℕ) (expr : Expr)
    → i < length exprs → expr ≡ get_or exprs i expr
    → text ≡ base ++ fields_text default_writer (selected types list (take i exprs)) → new ≡ text ++ next_field (answer_text (value_of types None list expr))
    → new ≡ base ++ fields_text default_writer (selected types list (take (i + 1) exprs))
selected-more base text new types list exprs i expr here is so_far pushed =
    let shown : Expr → List ℕ = λ x. answer_text (value_of types None list x) in
    let more : take (i + 1) exprs ≡ take i exprs ++ expr ∷ [] = take_more exprs i expr here ∙ ap (λ (x : Expr). take i exprs ++ x ∷ []) (sym is) in
    let before = selected types list (take i exprs) in
    let e : selected types list (take (i + 1) exprs) ≡ before ++ shown expr ∷ [] = ap (selected types list) more ∙ map-append shown (take i exprs) (expr ∷ []) in
    pushed
    ∙ ap (λ (t : List ℕ). t ++ next_field (shown expr)) so_far
    ∙ append_assoc base (fields_text default_writer before) (next_field (shown expr))
    ∙ ap (λ (t : List ℕ). base ++ (fields_text default_writer before ++ t)) (sym (fields_text-one (shown expr)))
    ∙ ap (λ (t : List ℕ). base ++ t) (sym (fields_text-append before (shown expr ∷ [])))
    ∙ ap (λ (l : List (List ℕ)). base ++ fields_text default_writer l) (sym e)
