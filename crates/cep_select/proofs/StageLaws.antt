-- The stages of a row, one event and one stage after another.
use Rattle.std.proofs.Common.{◌≡◌, ◌<◌, ◌+◌, ℕ, List, [], ◌∷◌, ◌++◌, Bool, true, false, refl, sym, ap, ◌∙◌, append_assoc, map, length, take, get_or, arith}
use Rattle.std.specs.Prelude.{decimal, if◌then◌else◌, filter, ◌==◌, ◌||◌}
use Rattle.std.specs.List.{join_with_byte}
use Rattle.std.proofs.lemmas.List.{append-nil, map-append, take_more, length-take-le}
use Rattle.csv.specs.Writing.{default_writer, escaped, fields_text, needs_quotes}
use Rattle.cep_event.specs.declared.event.Event.{Event}
use Rattle.cep_plan.specs.declared.item.Taken.{Taken}
use Rattle.cep_plan.specs.declared.plan.Stage.{Stage}
use Rattle.cep_plan.specs.Aggregate.{taken_for}
use Rattle.cep_select.specs.Output.{rows_text, named_rows, stages_from}
use Rattle.cep_select.specs.Pieces.{has_events, lead_text, next_field, opened, stage_back, stage_front}
use Rattle.cep_select.proofs.QuoteLaws.{escaped-append, escaped-plain, needs-append, next_field-plain, next_field-quoted, plain-rows}
use Rattle.cep_select.proofs.RowLaws.{fields_text-append, fields_text-none, fields_text-one}

join-more : (c : ℕ) (x : List ℕ) (xs : List (List ℕ)) (y : List ℕ) → join_with_byte c (x ∷ xs ++ y ∷ []) ≡ join_with_byte c (x ∷ xs) ++ c ∷ y
join-more c x [] y = refl
join-more c x (z ∷ xs) y = ap (λ (t : List ℕ). x ++ c ∷ t) (join-more c z xs y) ∙ sym (append_assoc x (c ∷ join_with_byte c (z ∷ xs)) (c ∷ y))

rows_text-more : (x : Event) (xs : List Event) (event : Event) → rows_text (x ∷ xs ++ event ∷ []) ≡ rows_text (x ∷ xs) ++ 32 ∷ decimal event.row
rows_text-more x xs event =
    ap (λ (t : List (List ℕ)). join_with_byte 32 (decimal x.row ∷ t)) (map-append (λ (e : Event). decimal e.row) xs (event ∷ []))
    ∙ join-more 32 (decimal x.row) (map (λ (e : Event). decimal e.row) xs) (decimal event.row)

stage_front-more : (quoted : Bool) (name : List ℕ) (events : List Event) (event : Event)
    → stage_front quoted name (events ++ event ∷ []) ≡ stage_front quoted name events ++ (lead_text (has_events events) quoted name ++ decimal event.row)
stage_front-more quoted name [] event = sym (append_assoc (opened quoted name) (61 ∷ []) (decimal event.row))
stage_front-more quoted name (x ∷ xs) event =
    ap (λ (t : List ℕ). opened quoted name ++ 61 ∷ t) (rows_text-more x xs event)
    ∙ sym (append_assoc (opened quoted name) (61 ∷ rows_text (x ∷ xs)) (32 ∷ decimal event.row))

has_events-more : (events : List Event) (event : Event) → has_events (events ++ event ∷ []) ≡ true
has_events-more [] event = refl
has_events-more (x ∷ xs) event = refl

-- ---- the events of a stage, one entry after another

taken_for-yes : (stage : ℕ) (list : List Taken) (t : Taken) → (t.stage == stage) ≡ true
    → taken_for stage (list ++ t ∷ []) ≡ taken_for stage list ++ t.event ∷ []
taken_for-yes stage [] t h = ap (λ (b : Bool). map (λ (t : Taken). t.event) (if b then t ∷ [] else [])) h
taken_for-yes stage (x ∷ list) t h = go (x.stage == stage) (taken_for-yes stage list t h) where
  go : (b : Bool) → taken_for stage (list ++ t ∷ []) ≡ taken_for stage list ++ t.event ∷ []
      → map (λ (t : Taken). t.event) (if b then x ∷ filter (λ (t : Taken). t.stage == stage) (list ++ t ∷ []) else filter
      (λ (t : Taken). t.stage == stage) (list ++ t ∷ []))
      ≡ map (λ (t : Taken). t.event) (if b then x ∷ filter (λ (t : Taken). t.stage == stage) list else filter (λ (t : Taken). t.stage == stage) list)
      ++ t.event ∷ []
  go true later = ap (λ (l : List Event). x.event ∷ l) later
  go false later = later

taken_for-no : (stage : ℕ) (list : List Taken) (t : Taken) → (t.stage == stage) ≡ false → taken_for stage (list ++ t ∷ []) ≡ taken_for stage list
taken_for-no stage [] t h = ap (λ (b : Bool). map (λ (t : Taken). t.event) (if b then t ∷ [] else [])) h
taken_for-no stage (x ∷ list) t h = go (x.stage == stage) (taken_for-no stage list t h) where
  go : (b : Bool) → taken_for stage (list ++ t ∷ []) ≡ taken_for stage list
      → map (λ (t : Taken). t.event) (if b then x ∷ filter (λ (t : Taken). t.stage == stage) (list ++ t ∷ []) else filter
      (λ (t : Taken). t.stage == stage) (list ++ t ∷ []))
      ≡ map (λ (t : Taken). t.event) (if b then x ∷ filter (λ (t : Taken). t.stage == stage) list else filter (λ (t : Taken). t.stage == stage) list)
  go true later = ap (λ (l : List Event). x.event ∷ l) later
  go false later = later

item-more : (list : List Taken) (i : ℕ) (t : Taken) → i < length list → t ≡ get_or list i t → take (i + 1) list ≡ take i list ++ t ∷ []
item-more list i t here is = take_more list i t here ∙ ap (λ (x : Taken). take i list ++ x ∷ []) (sym is)

-- an entry of the stage adds its row
pub entry-yes : (base text new name : List ℕ) (stage i : ℕ) (list : List Taken) (t : Taken) (behind quoted : Bool)
    → i < length list → t ≡ get_or list i t → (t.stage == stage) ≡ true
    → text ≡ base ++ stage_front quoted name (taken_for stage (take i list)) → behind ≡ has_events (taken_for stage (take i list))
    → new ≡ text ++ (lead_text behind quoted name ++ decimal t.event.row)
    → (new ≡ base ++ stage_front quoted name (taken_for stage (take (i + 1) list))) × (true ≡ has_events (taken_for stage (take (i + 1) list)))
entry-yes base text new name stage i list t behind quoted here is of text_is behind_is new_is =
    let before = taken_for stage (take i list) in
    let e : taken_for stage (take (i + 1) list) ≡ before ++ t.event ∷ [] =
    ap (taken_for stage) (item-more list i t here is) ∙ taken_for-yes stage (take i list) t of in (
      new_is
          ∙ ap (λ (x : List ℕ). x ++ (lead_text behind quoted name ++ decimal t.event.row)) text_is
          ∙ append_assoc base (stage_front quoted name before) (lead_text behind quoted name ++ decimal t.event.row)
          ∙ ap (λ (b : Bool). base ++ (stage_front quoted name before ++ (lead_text b quoted name ++ decimal t.event.row))) behind_is
          ∙ ap (λ (x : List ℕ). base ++ x) (sym (stage_front-more quoted name before t.event))
          ∙ ap (λ (events : List Event). base ++ stage_front quoted name events) (sym e),
      sym (has_events-more before t.event) ∙ ap has_events (sym e),
    )

-- an entry of another stage adds nothing
pub entry-no : (base text name : List ℕ) (stage i : ℕ) (list : List Taken) (t : Taken) (behind quoted : Bool)
    → i < length list → t ≡ get_or list i t → (t.stage == stage) ≡ false
    → text ≡ base ++ stage_front quoted name (taken_for stage (take i list)) → behind ≡ has_events (taken_for stage (take i list))
    → (text ≡ base ++ stage_front quoted name (taken_for stage (take (i + 1) list))) × (behind ≡ has_events (taken_for stage (take (i + 1) list)))
entry-no base text name stage i list t behind quoted here is of text_is behind_is =
    let e : taken_for stage (take (i + 1) list) ≡ taken_for stage (take i list) =
    ap (taken_for stage) (item-more list i t here is) ∙ taken_for-no stage (take i list) t of in
    (text_is ∙ ap (λ (events : List Event). base ++ stage_front quoted name events) (sym e), behind_is ∙ ap has_events (sym e))

-- ---- a stage as a field

field-front : (quoted : Bool) (name rows : List ℕ) → quoted ≡ needs_quotes default_writer name → needs_quotes default_writer rows ≡ false
    → next_field (name ++ 61 ∷ rows) ≡ (opened quoted name ++ 61 ∷ rows) ++ stage_back true quoted
field-front false name rows is plain =
    next_field-plain (name ++ 61 ∷ rows) (needs-append name (61 ∷ rows) ∙ ap (λ (b : Bool). b || needs_quotes default_writer (61 ∷ rows)) (sym is) ∙ plain)
    ∙ sym (append-nil (44 ∷ name ++ 61 ∷ rows))
field-front true name rows is plain =
    next_field-quoted (name ++ 61 ∷ rows) (needs-append name (61 ∷ rows) ∙ ap (λ (b : Bool). b || needs_quotes default_writer (61 ∷ rows)) (sym is))
    ∙ ap (λ (t : List ℕ). 44 ∷ 34 ∷ t ++ 34 ∷ [])
    (escaped-append name (61 ∷ rows) ∙ ap (λ (t : List ℕ). escaped default_writer name ++ t) (escaped-plain (61 ∷ rows) plain))

-- a stage, from its front and the quote behind it
stage-is : (quoted : Bool) (name : List ℕ) (events : List Event) → quoted ≡ needs_quotes default_writer name
    → fields_text default_writer (named_rows name events) ≡ stage_front quoted name events ++ stage_back (has_events events) quoted
stage-is quoted name [] is = fields_text-none
stage-is quoted name (event ∷ events) is =
    fields_text-one (name ++ 61 ∷ rows_text (event ∷ events)) ∙ field-front quoted name (rows_text (event ∷ events)) is (plain-rows (event ∷ events))

-- a stage behind other text
pub stage-behind : (base first last name : List ℕ) (events : List Event) (quoted behind : Bool) → quoted ≡ needs_quotes default_writer name
    → behind ≡ has_events events
    → first ≡ base ++ stage_front quoted name events → last ≡ first ++ stage_back behind quoted
    → last ≡ base ++ fields_text default_writer (named_rows name events)
stage-behind base first last name events quoted behind is some front back =
    back ∙ ap (λ (t : List ℕ). t ++ stage_back behind quoted) front ∙ append_assoc base (stage_front quoted name events) (stage_back behind quoted)
    ∙ ap (λ (b : Bool). base ++ (stage_front quoted name events ++ stage_back b quoted)) some
    ∙ ap (λ (t : List ℕ). base ++ t) (sym (stage-is quoted name events is))

-- ---- stages, one after another

stages_from-push : (n : ℕ) (stages : List Stage) (s : Stage) (list : List Taken)
    → stages_from n (stages ++ s ∷ []) list ≡ stages_from n stages list ++ named_rows s.name (taken_for (n + length stages) list)
stages_from-push n [] s list = append-nil (named_rows s.name (taken_for n list)) ∙ ap (λ (k : ℕ). named_rows s.name (taken_for k list)) (omega arith)
stages_from-push n (x ∷ stages) s list =
    let first = named_rows x.name (taken_for n list) in
    ap (λ (l : List (List ℕ)). first ++ l) (stages_from-push (n + 1) stages s list)
    ∙ ap (λ (k : ℕ). first ++ (stages_from (n + 1) stages list ++ named_rows s.name (taken_for k list))) (omega arith)
    ∙ sym (append_assoc first (stages_from (n + 1) stages list) (named_rows s.name (taken_for (n + length (x ∷ stages)) list)))

-- one more stage
pub stage-more : (base text new : List ℕ) (i : ℕ) (stages : List Stage) (s : Stage) (list : List Taken)
    → i < length stages → s ≡ get_or stages i s
    → text ≡ base ++ fields_text default_writer (stages_from 0 (take i stages) list)
    → new ≡ text ++ fields_text default_writer (named_rows s.name (taken_for i list))
    → new ≡ base ++ fields_text default_writer (stages_from 0 (take (i + 1) stages) list)
stage-more base text new i stages s list here is text_is new_is =
    let more : take (i + 1) stages ≡ take i stages ++ s ∷ [] = take_more stages i s here ∙ ap (λ (x : Stage). take i stages ++ x ∷ []) (sym is) in
    let before = stages_from 0 (take i stages) list in
    let last = named_rows s.name (taken_for i list) in
    let size : 0 + length (take i stages) ≡ i = omega (arith, length-take-le i stages (omega arith)) in
    let e : stages_from 0 (take (i + 1) stages) list ≡ before ++ last =
    ap (λ (l : List Stage). stages_from 0 l list) more ∙ stages_from-push 0 (take i stages) s list
    ∙ ap (λ (k : ℕ). before ++ named_rows s.name (taken_for k list)) size in
    new_is
    ∙ ap (λ (x : List ℕ). x ++ fields_text default_writer last) text_is
    ∙ append_assoc base (fields_text default_writer before) (fields_text default_writer last)
    ∙ ap (λ (x : List ℕ). base ++ x) (sym (fields_text-append before last))
    ∙ ap (λ (l : List (List ℕ)). base ++ fields_text default_writer l) (sym e)
