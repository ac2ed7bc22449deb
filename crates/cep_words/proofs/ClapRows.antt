-- The rows of clap's matches, as what was used.
use Rattle.std.proofs.Common.{◌≡◌, ◌∙◌, Bool, true, false, cond, List, [], ◌∷◌, ◌++◌, Option, Some, None, is_some, option_map, refl, sym, ap, true≢false}
use Rattle.std.specs.Prelude.{◌||◌, option_and_then, find, slice_get}
use Rattle.std.specs.List.{list_any}
use Rattle.std.specs.Option.{option_or}
use Rattle.std.specs.Str.{bytes_eq}
use Rattle.std.proofs.lemmas.List.{append-nil}
use Rattle.std.proofs.lemmas.List.Folds.{find-append}
use Rattle.std.proofs.lemmas.Slice.Eq.{bytes_eq-Decides}
use Rattle.clap.specs.Walk.{Text, Row, at_row, first_of, has_row, more_values, with_values, without}
use Rattle.clap.specs.declared.builder.value_parser.Reading.{Reading}
use Rattle.clap.specs.declared.parser.matches.ValueSource.{ValueSource}
use Rattle.clap.specs.declared.parser.matches.ValueSource.TheVariants.{CommandLine}

-- an argument's id, and the value that it was used with
abbrev pub Use : Type 0
Use = Text × Text

abbrev pub lookup : Text → List Use → Option Text
lookup id [] = None
lookup id (u ∷ us) = cond (bytes_eq u.0 id) (Some u.1) (lookup id us)

abbrev pub shown : Row → List Text × Option ValueSource
shown r = (r.values, r.source)

abbrev pub seen : Text → List Row → Option (List Text × Option ValueSource)
seen id rows = option_map shown (find (λ r. bytes_eq r.id id) rows)

abbrev pub marked : Text → List Text × Option ValueSource
marked v = (v ∷ [], Some CommandLine)

-- the rows show the uses
abbrev pub Shows : List Row → List Use → Type 0
Shows rows us = (id : Text) → seen id rows ≡ option_map marked (lookup id us)

abbrev pub row_with : Text → Reading → ValueSource → Text → Row
row_with id how source v = record { id = id; values = v ∷ []; count = None; source = Some source; reading = how }

or_none : {X : Type 0} (o : Option X) → option_or o None ≡ o
or_none None = refl
or_none (Some x) = refl

unmapped : {X Y : Type 0} (f : X → Y) (o : Option X) → option_map f o ≡ None → o ≡ None
unmapped f None e = refl
unmapped f (Some x) e = cc

-- one more use, of an argument that was not used
pub shows_more : (id v : Text) (how : Reading) (rows : List Row) (us : List Use) → Shows rows us → lookup id us ≡ None
    → Shows (rows ++ row_with id how CommandLine v ∷ []) ((id, v) ∷ us)
shows_more id v how rows us shows unused j =
    ap (option_map shown) (find-append (λ (r : Row). bytes_eq r.id j) rows (row_with id how CommandLine v ∷ [])) ∙ go (bytes_eq id j) refl
  where
    go : (b : Bool) → bytes_eq id j ≡ b
        → option_map shown (option_or (find (λ r. bytes_eq r.id j) rows) (cond b (Some (row_with id how CommandLine v)) None))
        ≡ option_map marked (cond b (Some v) (lookup j us))
    go false e = ap (option_map shown) (or_none (find (λ (r : Row). bytes_eq r.id j) rows)) ∙ shows j
    go true e =
        let same : id ≡ j = (bytes_eq-Decides id j).0 e in
        let absent : find (λ (r : Row). bytes_eq r.id j) rows ≡ None =
        unmapped shown _ (shows j ∙ ap (option_map marked) (ap (λ i. lookup i us) (sym same) ∙ unused)) in
        ap (λ o. option_map shown (option_or o (Some (row_with id how CommandLine v)))) absent

any_found : {X : Type 0} (p : X → Bool) (xs : List X) → list_any p xs ≡ is_some (find p xs)
any_found p [] = refl
any_found p (x ∷ xs) = go (p x) (any_found p xs)
  where
    go : (b : Bool) → list_any p xs ≡ is_some (find p xs) → (b || list_any p xs) ≡ is_some (cond b (Some x) (find p xs))
    go true e = refl
    go false e = e

is_some_map : {X Y : Type 0} (f : X → Y) (o : Option X) → is_some (option_map f o) ≡ is_some o
is_some_map f None = refl
is_some_map f (Some x) = refl

-- an argument has a row where it was used
pub has_row_used : (id : Text) (rows : List Row) (us : List Use) → Shows rows us → has_row id rows ≡ is_some (lookup id us)
has_row_used id rows us shows =
    any_found (λ (r : Row). bytes_eq r.id id) rows
    ∙ sym (is_some_map shown (find (λ (r : Row). bytes_eq r.id id) rows))
    ∙ ap is_some (shows id) ∙ is_some_map marked (lookup id us)

pub absent : (id : Text) (rows : List Row) (us : List Use) → Shows rows us → lookup id us ≡ None → has_row id rows ≡ false
absent id rows us shows unused = has_row_used id rows us shows ∙ ap is_some unused

at_absent : (id : Text) (change : Row → List Row) (missing rows : List Row) → has_row id rows ≡ false → at_row id change missing rows ≡ rows ++ missing
at_absent id change missing [] e = refl
at_absent id change missing (r ∷ rs) e = go (bytes_eq r.id id) (at_absent id change missing rs) e
  where
    go : (b : Bool) → (has_row id rs ≡ false → at_row id change missing rs ≡ rs ++ missing) → (b || has_row id rs) ≡ false
        → cond b (change r ++ rs) (r ∷ at_row id change missing rs) ≡ r ∷ (rs ++ missing)
    go true rest e = absurd (true≢false e)
    go false rest e = ap (λ l. r ∷ l) (rest e)

-- the first use of an argument is one more row
pub added : (id v : Text) (how : Reading) (source : ValueSource) (rows : List Row) → has_row id rows ≡ false
    → with_values id how source (v ∷ []) (without id rows) ≡ rows ++ row_with id how source v ∷ []
added id v how source rows e =
    let bare : without id rows ≡ rows = at_absent id (λ _. []) [] rows e ∙ append-nil rows in
    ap (with_values id how source (v ∷ [])) bare ∙ at_absent id (more_values source (v ∷ [])) _ rows e

pub defaulted : (id v : Text) (how : Reading) (source : ValueSource) (rows : List Row) → has_row id rows ≡ false
    → with_values id how source (v ∷ []) rows ≡ rows ++ row_with id how source v ∷ []
defaulted id v how source rows e = at_absent id (more_values source (v ∷ [])) _ rows e

-- what is shown of another argument stays
pub shown_before : (id j v : Text) (how : Reading) (source : ValueSource) (rows : List Row) → bytes_eq id j ≡ false
    → seen j (rows ++ row_with id how source v ∷ []) ≡ seen j rows
shown_before id j v how source rows e =
    ap (option_map shown) (find-append (λ (r : Row). bytes_eq r.id j) rows (row_with id how source v ∷ [])
    ∙ ap (λ b. option_or (find (λ (r : Row). bytes_eq r.id j) rows) (cond b (Some (row_with id how source v)) None)) e
    ∙ or_none _)

pub first_seen : (id : Text) (rows : List Row) → first_of id rows ≡ option_and_then (λ p. slice_get p.0 0) (seen id rows)
first_seen id rows = go (find (λ (r : Row). bytes_eq r.id id) rows)
  where
    go : (o : Option Row)
        → option_and_then (λ (r : Row). slice_get r.values 0) o
        ≡ option_and_then (λ (p : List Text × Option ValueSource). slice_get p.0 0) (option_map shown o)
    go None = refl
    go (Some r) = refl

-- the first value of an argument that had no row
pub first_added : (id v : Text) (how : Reading) (source : ValueSource) (rows : List Row) → has_row id rows ≡ false
    → first_of id (rows ++ row_with id how source v ∷ []) ≡ Some v
first_added id v how source rows e =
    ap (option_and_then (λ (r : Row). slice_get r.values 0)) (find-append (λ (r : Row). bytes_eq r.id id) rows (row_with id how source v ∷ [])
    ∙ ap (λ o. option_or o (cond (bytes_eq id id) (Some (row_with id how source v)) None)) nothing
    ∙ ap (λ (b : Bool). cond b (Some (row_with id how source v)) None) ((bytes_eq-Decides id id).1 refl))
  where
    gone : (o : Option Row) → is_some o ≡ false → o ≡ None
    gone None e = refl
    gone (Some r) e = absurd (true≢false e)

    nothing : find (λ (r : Row). bytes_eq r.id id) rows ≡ None
    nothing = gone _ (sym (any_found (λ (r : Row). bytes_eq r.id id) rows) ∙ e)
