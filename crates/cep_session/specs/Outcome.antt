-- The table of outcomes: what holds at each status (this project's own).
use Rattle.std.specs.Prelude.{◌≡◌, ◌⊎◌, ℕ, ◌-◌, ◌≤◌, List, [], ◌++◌, length, take, None}
use Rattle.cep_rows.specs.Lines.{raw_lines, whole_lines, after_whole_lines}
use Rattle.cep_session.specs.Meaning.{Flow, Meaning, first_refused, sound_front, sofar, whole, verdict}
use Rattle.cep_session.specs.declared.status.Status.{Status}
use Rattle.cep_session.specs.declared.status.Status.TheVariants.{Done, NoMemory, BadWords, PatternFault, PatternRefused, BadRow, TooManyRows, ReadFault, WriteFault}

-- the list is a front of this one
abbrev pub IsFrontOf : {A : Type 0} → List A → List A → Type 0
IsFrontOf {A} list owed = (back : List A) × (owed ≡ list ++ back)

-- no byte stands past so many lines
abbrev pub HasNoByteAfter : ℕ → List ℕ → Type 0
HasNoByteAfter allowed bytes = length (raw_lines bytes) ≤ allowed

-- The list is a front of what is owed for the bytes that were taken: of what their whole lines cause, up to the first that
-- is refused and the last that is allowed; or, where all were taken and none is refused, of all that is owed.
abbrev pub IsOwed : {U A : Type 0} → Meaning U → Flow A → ℕ → List ℕ → List ℕ → List A → Type 0
IsOwed m flow allowed all taken list =
    IsFrontOf list (sofar flow (sound_front m [] (take allowed (whole_lines taken))))
    ⊎ ((taken ≡ all) × (verdict m allowed (raw_lines all) ≡ Done) × IsFrontOf list (whole flow (raw_lines all)))

-- Of all bytes that were left these were taken, and what lines cause by this flow grew by this list: the output by its text,
-- and what is shown besides. Before the pattern is accepted nothing is read, written or shown.
abbrev pub Outcome : {U A : Type 0} → Meaning U → Flow A → ℕ → Status → List ℕ → List ℕ → List A → Type 0
Outcome m flow allowed Done all taken list =
    (taken ≡ all) × (verdict m allowed (raw_lines all) ≡ Done) × (list ≡ whole flow (raw_lines all))
Outcome m flow allowed (BadRow row cause) all taken list =
    (verdict m allowed (raw_lines all) ≡ BadRow row cause) × (list ≡ sofar flow (take (row - 1) (raw_lines all)))
Outcome m flow allowed TooManyRows all taken list =
    (verdict m allowed (raw_lines all) ≡ TooManyRows) × (list ≡ sofar flow (take allowed (raw_lines all)))
Outcome m flow allowed ReadFault all taken list =
    (first_refused m [] (whole_lines taken) ≡ None)
    × (length (after_whole_lines taken) ≤ 65536)
    × HasNoByteAfter allowed taken
    × (list ≡ sofar flow (whole_lines taken))
Outcome m flow allowed WriteFault all taken list = IsOwed m flow allowed all taken list
Outcome m flow allowed NoMemory all taken list = IsOwed m flow allowed all taken list
Outcome m flow allowed BadWords all taken list = (taken ≡ []) × (list ≡ [])
Outcome m flow allowed PatternFault all taken list = (taken ≡ []) × (list ≡ [])
Outcome m flow allowed (PatternRefused code place) all taken list = (taken ≡ []) × (list ≡ [])
