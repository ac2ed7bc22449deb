-- How far a session has come.
use Rattle.std.specs.Prelude.{ℕ, ◌+◌, ◌*◌, ◌<◌, ◌≤◌, List, length, Option, None, Result, Ok, Err}
use Rattle.cep_rows.specs.Feed.{HasNoFeed}
use Rattle.cep_session.specs.Handling.{Given, given}
use Rattle.cep_session.specs.Meaning.{Meaning}
use Rattle.cep_session.specs.Progress.{Progress, AllTaken, Ends}
use Rattle.cep_session.specs.Rows.{Stands}
use Rattle.cep_session.specs.declared.rows.Rows.{Rows}
use Rattle.cep_session.specs.declared.session.Session.{Session}
use Rattle.cep_session.specs.Ending.{status_of}
use Rattle.cep_session.specs.declared.ending.Ending.{Ending}

-- with this meaning it has come so far
pub record Going {H U : Type 0} (stands : H → Meaning U → List (List ℕ) → Type 0) (m : Meaning U)
    (start left : Option (List ℕ)) (base now : Given U) (session : Session H) : Type 0 where
  pub handled : List (List ℕ)
  pub rows : Stands stands m handled session.rows
  pub progress : Progress m session.rows.allowed start left base now handled session.lines

-- it goes on with some meaning
abbrev pub CanGo : {H U : Type 0} → (H → Meaning U → List (List ℕ) → Type 0) → Session H → Type 0
CanGo {H} {U} stands session = (m : Meaning U) × Going stands m None None (given None None) (given None None) session

-- it waits for more bytes: what is kept is no whole line, and there is room for what it begins
pub record Waits {H : Type 0} (session : Session H) : Type 0 where
  pub open_line : HasNoFeed session.lines
  pub short : length session.lines ≤ 65536
  pub room : 0 < length session.lines → session.rows.handled < session.rows.allowed
  pub few : session.rows.handled ≤ session.rows.allowed

-- how many bytes it may have taken at most, by what it has handled
abbrev pub weight : {H : Type 0} → Session H → ℕ
weight session = session.rows.handled * 65537 + length session.lines

-- where it goes on, and where it ends
abbrev pub GoesOn : {H U : Type 0} → (H → Meaning U → List (List ℕ) → Type 0) → Meaning U → ℕ
    → Option (List ℕ) → Option (List ℕ) → Given U → Given U → Session H → {T : Type 0} → Result T Ending → Type 0
GoesOn stands m allowed start left base now session (Ok value) = Going stands m start left base now session
GoesOn stands m allowed start left base now session (Err ending) = Ends m allowed (status_of ending) start left base now

-- all lines of the input were handled, with this meaning
pub record AllHandled {H U : Type 0} (stands : H → Meaning U → List (List ℕ) → Type 0) (m : Meaning U) (allowed : ℕ)
    (start left : Option (List ℕ)) (base now : Given U) (rows : Rows H) : Type 0 where
  pub handled : List (List ℕ)
  pub stand : Stands stands m handled rows
  pub over : AllTaken m allowed start left base now handled

-- where all are handled, and where the run ends
abbrev pub Closes : {H U : Type 0} → (H → Meaning U → List (List ℕ) → Type 0) → Meaning U → ℕ
    → Option (List ℕ) → Option (List ℕ) → Given U → Given U → Result (Rows H) Ending → Type 0
Closes stands m allowed start left base now (Ok rows) = AllHandled stands m allowed start left base now rows
Closes stands m allowed start left base now (Err ending) = Ends m allowed (status_of ending) start left base now
