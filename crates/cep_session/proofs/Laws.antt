-- Laws of what lines mean, by a first part and the lines behind it.
use Rattle.std.proofs.Common.{◌≡◌, ℕ, zero, suc, ◌+◌, ◌<◌, ◌≤◌, Bool, true, false, if◌then◌else◌, List, [], ◌∷◌, ◌++◌, length, take, Option, Some, None, refl, sym, ◌∙◌, ap, arith, append_assoc, length-append}
use Rattle.std.specs.Prelude.{nat_lt}
use Rattle.std.proofs.lemmas.List.{append-nil, take_all, take_at}
use Rattle.std.proofs.lemmas.Bool.Decides.{nat_tests}
use Rattle.cep_session.specs.Meaning.{Flow, Meaning, line_refusal, first_of_two, with_row, first_refused, front_if, sound_front, sofar_from, sofar, verdict_by, verdict}
use Rattle.cep_rows.specs.declared.cause.RowCause.{RowCause}
use Rattle.cep_session.specs.declared.status.Status.TheVariants.{Done, BadRow, TooManyRows}

both_none : {A : Type 0} (first second : Option A) → first_of_two first second ≡ None → (first ≡ None) × (second ≡ None)
both_none None second none = (refl, none)
both_none (Some first) second none = absurd (cc)

no_row : (row : ℕ) (refusal : Option RowCause) → with_row row refusal ≡ None → refusal ≡ None
no_row row None none = refl
no_row row (Some cause) none = absurd (cc)

-- the lines before, one by one
push_before : (before : List (List ℕ)) (line : List ℕ) (lines : List (List ℕ)) → (before ++ line ∷ []) ++ lines ≡ before ++ line ∷ lines
push_before before line lines = append_assoc before (line ∷ []) lines

pub first_refused-append : {U : Type 0} (m : Meaning U) (before xs ys : List (List ℕ)) → first_refused m before xs ≡ None
    → first_refused m before (xs ++ ys) ≡ first_refused m (before ++ xs) ys
first_refused-append m before [] ys none = ap (λ (b : List (List ℕ)). first_refused m b ys) (sym (append-nil before))
first_refused-append m before (line ∷ xs) ys none =
    let parts = both_none _ _ none in
    ap (λ (first : Option (ℕ × RowCause)). first_of_two first (first_refused m (before ++ line ∷ []) (xs ++ ys))) parts.0
    ∙ first_refused-append m (before ++ line ∷ []) xs ys parts.1
    ∙ ap (λ (b : List (List ℕ)). first_refused m b ys) (push_before before line xs)

pub sound_front-append : {U : Type 0} (m : Meaning U) (before xs ys : List (List ℕ)) → first_refused m before xs ≡ None
    → sound_front m before (xs ++ ys) ≡ xs ++ sound_front m (before ++ xs) ys
sound_front-append m before [] ys none = ap (λ (b : List (List ℕ)). sound_front m b ys) (sym (append-nil before))
sound_front-append m before (line ∷ xs) ys none =
    let parts = both_none _ _ none in
    let sound = no_row _ _ parts.0 in
    ap (λ (r : Option RowCause). front_if r line (sound_front m (before ++ line ∷ []) (xs ++ ys))) sound
    ∙ ap (λ (ls : List (List ℕ)). line ∷ ls) (sound_front-append m (before ++ line ∷ []) xs ys parts.1)
    ∙ ap (λ (b : List (List ℕ)). line ∷ xs ++ sound_front m b ys) (push_before before line xs)

pub sofar_from-append : {A : Type 0} (flow : Flow A) (before xs ys : List (List ℕ))
    → sofar_from flow before (xs ++ ys) ≡ sofar_from flow before xs ++ sofar_from flow (before ++ xs) ys
sofar_from-append flow before [] ys = ap (λ (b : List (List ℕ)). sofar_from flow b ys) (sym (append-nil before))
sofar_from-append flow before (line ∷ xs) ys =
    ap (λ l. flow.caused before line ++ l) (sofar_from-append flow (before ++ line ∷ []) xs ys)
    ∙ sym (append_assoc (flow.caused before line) (sofar_from flow (before ++ line ∷ []) xs) (sofar_from flow ((before ++ line ∷ []) ++ xs) ys))
    ∙ ap (λ (b : List (List ℕ)). (flow.caused before line ++ sofar_from flow (before ++ line ∷ []) xs) ++ sofar_from flow b ys) (push_before before line xs)

module _ {U : Type 0} (m : Meaning U) (lines : List (List ℕ)) (sound : first_refused m [] lines ≡ None) where
  -- a sound line more
  pub sound-push : (line : List ℕ) → line_refusal m lines line ≡ None → first_refused m [] (lines ++ line ∷ []) ≡ None
  sound-push line none =
      first_refused-append m [] lines (line ∷ []) sound
      ∙ ap (λ (r : Option RowCause). first_of_two (with_row (length lines + 1) r) None) none

  -- a refused line is the first one
  pub first_refused-at : (line : List ℕ) (others : List (List ℕ)) (cause : RowCause) → line_refusal m lines line ≡ Some cause
      → first_refused m [] (lines ++ line ∷ others) ≡ Some (length lines + 1, cause)
  first_refused-at line others cause refused =
      first_refused-append m [] lines (line ∷ others) sound
      ∙ ap (λ (r : Option RowCause). first_of_two (with_row (length lines + 1) r) (first_refused m (lines ++ line ∷ []) others)) refused

  -- the sound front of these lines and others
  pub sound_front-at : (line : List ℕ) (others : List (List ℕ)) → line_refusal m lines line ≡ None
      → sound_front m [] (lines ++ line ∷ others) ≡ lines ++ line ∷ sound_front m (lines ++ line ∷ []) others
  sound_front-at line others none =
      sound_front-append m [] lines (line ∷ others) sound
      ∙ ap (λ (r : Option RowCause). lines ++ front_if r line (sound_front m (lines ++ line ∷ []) others)) none

pub sofar-push : {A : Type 0} (flow : Flow A) (lines : List (List ℕ)) (line : List ℕ)
    → sofar flow (lines ++ line ∷ []) ≡ sofar flow lines ++ flow.caused lines line
sofar-push flow lines line =
    sofar_from-append flow [] lines (line ∷ []) ∙ ap (λ l. sofar flow lines ++ l) (append-nil (flow.caused lines line))

-- a front of some lines that reaches past these
pub take_past : (lines : List (List ℕ)) (line : List ℕ) (others : List (List ℕ)) (n : ℕ) → length lines < n
    → (more : List (List ℕ)) × (take n (lines ++ line ∷ others) ≡ lines ++ line ∷ more)
take_past [] line others zero past = absurd (omega arith)
take_past [] line others (suc n) past = (take n others, refl)
take_past (first ∷ lines) line others zero past = absurd (omega arith)
take_past (first ∷ lines) line others (suc n) past =
    let later = take_past lines line others n (omega arith) in
    (later.0, ap (λ (ls : List (List ℕ)). first ∷ ls) later.1)

pub take_past_some : (lines others : List (List ℕ)) (n : ℕ) → length lines ≤ n → (more : List (List ℕ)) × (take n (lines ++ others) ≡ lines ++ more)
take_past_some [] others n past = (take n others, refl)
take_past_some (first ∷ lines) others zero past = absurd (omega arith)
take_past_some (first ∷ lines) others (suc n) past =
    let later = take_past_some lines others n (omega arith) in
    (later.0, ap (λ (ls : List (List ℕ)). first ∷ ls) later.1)

is_below : (a b : ℕ) → a < b → nat_lt a b ≡ true
is_below a b below = grind (arith, nat_tests)

not_below : (a b : ℕ) → b ≤ a → nat_lt a b ≡ false
not_below a b above = grind (arith, nat_tests)

-- a refused line is the verdict
pub verdict-refused : {U : Type 0} (m : Meaning U) (allowed : ℕ) (all lines : List (List ℕ)) (line : List ℕ) (others : List (List ℕ)) (cause : RowCause)
    → all ≡ lines ++ line ∷ others → first_refused m [] lines ≡ None → length lines < allowed → line_refusal m lines line ≡ Some cause
    → verdict m allowed all ≡ BadRow (length lines + 1) cause
verdict-refused m allowed all lines line others cause is sound few refused =
    let front = take_past lines line others allowed few in
    let first : first_refused m [] (take allowed all) ≡ Some (length lines + 1, cause) =
    ap (λ (ls : List (List ℕ)). first_refused m [] (take allowed ls)) is ∙ ap (first_refused m []) front.1 ∙ first_refused-at m lines sound line front.0 cause refused in
    ap (λ (f : Option (ℕ × RowCause)). verdict_by f (nat_lt allowed (length all))) first

-- sound lines, and one past those that are allowed
pub verdict-many : {U : Type 0} (m : Meaning U) (allowed : ℕ) (all lines : List (List ℕ)) (line : List ℕ) (others : List (List ℕ))
    → all ≡ lines ++ line ∷ others → first_refused m [] lines ≡ None → length lines ≡ allowed → verdict m allowed all ≡ TooManyRows
verdict-many m allowed all lines line others is sound many =
    let front : take allowed all ≡ lines = ap (take allowed) is ∙ take_at lines (line ∷ others) allowed many in
    let more : nat_lt allowed (length all) ≡ true = is_below _ _ (omega (arith, ap length is, length-append lines (line ∷ others))) in
    ap (λ (ls : List (List ℕ)). verdict_by (first_refused m [] ls) (nat_lt allowed (length all))) front
    ∙ ap (λ (f : Option (ℕ × RowCause)). verdict_by f (nat_lt allowed (length all))) sound
    ∙ ap (λ (t : Bool). if t then TooManyRows else Done) more

-- sound lines, not more than are allowed
pub verdict-done : {U : Type 0} (m : Meaning U) (allowed : ℕ) (all : List (List ℕ)) → first_refused m [] all ≡ None → length all ≤ allowed
    → verdict m allowed all ≡ Done
verdict-done m allowed all sound few =
    ap (λ (ls : List (List ℕ)). verdict_by (first_refused m [] ls) (nat_lt allowed (length all))) (take_all allowed all few)
    ∙ ap (λ (f : Option (ℕ × RowCause)). verdict_by f (nat_lt allowed (length all))) sound
    ∙ ap (λ (t : Bool). if t then TooManyRows else Done) (not_below _ _ few)
