-- What the lines of an input mean: which are refused, and what the others cause: text, and besides a list of whatever is shown (this project's own).
use Rattle.std.specs.Prelude.{ℕ, ◌+◌, List, [], ◌∷◌, ◌++◌, length, take, Option, Some, None, if◌then◌else◌, nat_lt, Bool}
use Rattle.cep_rows.specs.Lines.{is_too_long}
use Rattle.cep_rows.specs.declared.cause.RowCause.{RowCause}
use Rattle.cep_session.specs.declared.status.Status.{Status}
use Rattle.cep_session.specs.declared.status.Status.TheVariants.{Done, BadRow, TooManyRows}

-- A list that lines cause, one after another. Each function is told the lines before.
pub record Flow (A : Type 0) : Type 0 where
  -- what a line adds
  pub caused : List (List ℕ) → List ℕ → List A
  -- what is owed once these lines are all
  pub owed : List (List ℕ) → List A

-- Each function is told the lines before.
pub record Meaning (U : Type 0) : Type 0 where
  -- why a line that is too long is refused
  pub too_long : RowCause
  -- why another line is refused, if it is
  pub refusal : List (List ℕ) → List ℕ → Option RowCause
  -- the text that is caused and owed
  pub text : Flow ℕ
  -- what is shown besides
  pub shown : Flow U

-- why a line after these is refused
abbrev pub line_refusal : {U : Type 0} → Meaning U → List (List ℕ) → List ℕ → Option RowCause
line_refusal m before line = if is_too_long line then Some m.too_long else m.refusal before line

-- the first of two that is there
abbrev pub first_of_two : {A : Type 0} → Option A → Option A → Option A
first_of_two None second = second
first_of_two (Some first) second = Some first

-- with its row
abbrev pub with_row : ℕ → Option RowCause → Option (ℕ × RowCause)
with_row row None = None
with_row row (Some cause) = Some (row, cause)

-- the first of some lines that is refused, by its row from 1, where those lines stand before them
abbrev pub first_refused : {U : Type 0} → Meaning U → List (List ℕ) → List (List ℕ) → Option (ℕ × RowCause)
first_refused m before [] = None
first_refused m before (line ∷ lines) =
    first_of_two (with_row (length before + 1) (line_refusal m before line)) (first_refused m (before ++ line ∷ []) lines)

-- the lines before that
abbrev pub front_if : Option RowCause → List ℕ → List (List ℕ) → List (List ℕ)
front_if None line lines = line ∷ lines
front_if (Some cause) line lines = []

abbrev pub sound_front : {U : Type 0} → Meaning U → List (List ℕ) → List (List ℕ) → List (List ℕ)
sound_front m before [] = []
sound_front m before (line ∷ lines) = front_if (line_refusal m before line) line (sound_front m (before ++ line ∷ []) lines)

-- what some lines cause, in order, where those lines stand before them
abbrev pub sofar_from : {A : Type 0} → Flow A → List (List ℕ) → List (List ℕ) → List A
sofar_from flow before [] = []
sofar_from flow before (line ∷ lines) = flow.caused before line ++ sofar_from flow (before ++ line ∷ []) lines

-- what lines cause
abbrev pub sofar : {A : Type 0} → Flow A → List (List ℕ) → List A
sofar flow lines = sofar_from flow [] lines

-- what lines cause, and what is owed then
abbrev pub whole : {A : Type 0} → Flow A → List (List ℕ) → List A
whole flow lines = sofar flow lines ++ flow.owed lines

-- the answer to these lines, of which so many are allowed
abbrev pub verdict_by : Option (ℕ × RowCause) → Bool → Status
verdict_by (Some refused) more = BadRow refused.0 refused.1
verdict_by None more = if more then TooManyRows else Done

abbrev pub verdict : {U : Type 0} → Meaning U → ℕ → List (List ℕ) → Status
verdict m allowed lines = verdict_by (first_refused m [] (take allowed lines)) (nat_lt allowed (length lines))
