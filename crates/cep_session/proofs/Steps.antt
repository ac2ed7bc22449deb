-- How a session goes on by one line.
use Rattle.std.proofs.Common.{inl, inr, ◌⊎◌, ◌≡◌, ◌≢◌, ◌↔◌, ℕ, ◌+◌, ◌<◌, ◌≤◌, Bool, true, false, IsTrue, if◌then◌else◌, List, [], ◌∷◌, ◌++◌, length, take, Option, Some, None, Ok, Err, refl, sym, ◌∙◌, ap, subst, arith, append_assoc, length-append}
use Rattle.std.specs.Prelude.{nat_lt}
use Rattle.std.proofs.lemmas.List.{append-nil, take-append-le}
use Rattle.std.proofs.lemmas.Bool.Decides.{nat_tests}
use Rattle.std.specs.Io.KnownBytes.{Keeps, Consumes, IsAtEnd}
use Rattle.std.proofs.KnownBytes.{Appends-nil, Consumes-nil, Consumes-trans, Consumes-kept}
use Rattle.told_list.proofs.GrowsLaws.{Grows-nil}
use Rattle.cep_rows.specs.Feed.{HasNoFeed}
use Rattle.cep_rows.specs.Lines.{raw_lines, joined, Gives}
use Rattle.cep_rows.specs.declared.line.Next.TheVariants.{Line}
use Rattle.cep_rows.proofs.Cuts.{raw_lines-line, raw_lines-rest, joined-push, AreLines-push, first_line}
use Rattle.cep_session.specs.Ending.{status_of}
use Rattle.cep_session.specs.Handling.{Given, given, Adds, AddsPart, IsPartAdded}
use Rattle.cep_session.specs.Meaning.{Meaning, line_refusal}
use Rattle.cep_session.specs.Progress.{Ends}
use Rattle.cep_session.specs.Rows.{Stands, IsTaken, IsFinished}
use Rattle.cep_session.specs.Session.{Going, Waits, AllHandled}
use Rattle.cep_session.specs.declared.rows.Rows.{Rows}
use Rattle.cep_session.specs.declared.session.Session.{Session}
use Rattle.cep_rows.specs.declared.cause.RowCause.{RowCause}
use Rattle.cep_session.specs.declared.ending.Ending.{Ending}
use Rattle.cep_session.specs.declared.ending.Ending.TheVariants as ending
use Rattle.cep_session.specs.declared.status.Status.{Status}
use Rattle.cep_session.specs.declared.status.Status.TheVariants.{NoMemory, BadRow, TooManyRows, ReadFault, WriteFault}
use Rattle.cep_session.proofs.Laws.{sound-push}
use Rattle.cep_session.proofs.Endings.{one_line, ends_refused, ends_many, ends_unread, ends_unstored, ends_unwritten, adds-line, all_taken, all_taken_with, ends_unwritten_last, ends_done, ends_undone}

some_byte : (bytes : List ℕ) → bytes ≢ [] → (b : ℕ) × (more : List ℕ) × (bytes ≡ b ∷ more)
some_byte [] some = absurd (some refl)
some_byte (b ∷ more) some = (b, more, refl)

-- of a line that isn't too long the meaning decides
refusal_by_meaning : {U : Type 0} (m : Meaning U) (before : List (List ℕ)) (line : List ℕ) → length line ≤ 65536
    → line_refusal m before line ≡ m.refusal before line
refusal_by_meaning m before line short =
    let test : nat_lt 65536 (length line) ≡ false = grind (arith, nat_tests) in
    ap (λ (t : Bool). if t then Some m.too_long else m.refusal before line) test

refused_as_long : {U : Type 0} (m : Meaning U) (before : List (List ℕ)) (line : List ℕ) → 65537 ≤ length line → line_refusal m before line ≡ Some m.too_long
refused_as_long m before line long =
    let test : nat_lt 65536 (length line) ≡ true = grind (arith, nat_tests) in
    ap (λ (t : Bool). if t then Some m.too_long else m.refusal before line) test

-- the first line of bytes that begin so is too long
long_line : {U : Type 0} (m : Meaning U) (before : List (List ℕ)) (kept rest : List ℕ) → 65536 < length kept → HasNoFeed (take 65537 kept)
    → (line : List ℕ) × (others : List (List ℕ)) × (raw_lines (kept ++ rest) ≡ line ∷ others) × (line_refusal m before line ≡ Some m.too_long)
long_line m before [] rest long none = absurd (omega arith)
long_line m before (b ∷ more) rest long none =
    let front = take-append-le 65537 (b ∷ more) rest (omega arith) in
    let first = first_line 65537 b (more ++ rest) (omega (arith, length-append (b ∷ more) rest)) (subst HasNoFeed (sym front) none) in
    (first.line, first.lines, first.is, refused_as_long m before first.line first.long)

pub has_room : (full : Bool) (handled allowed n : ℕ) → (IsTrue full ↔ (handled ≡ allowed)) → full ≡ false → handled ≡ n → n ≤ allowed → handled < allowed
has_room true handled allowed n tells not_full is few = absurd (cc)
has_room false handled allowed n tells not_full is few =
    let other : handled ≢ allowed = λ same. cc (tells.1 same) in omega arith

module _ {H U : Type 0} (stands : H → Meaning U → List (List ℕ) → Type 0) (m : Meaning U) (start left : Option (List ℕ)) (base made : Given U) (session : Session H) (going : Going stands m start left base made session) where
  abbrev Stops : Status → Given U → Type 0
  Stops status now = Ends m session.rows.allowed status start left base now

  -- in place of the number of lines that were handled
  row_is : (cause : RowCause) → Stops (BadRow (length going.handled + 1) cause) made → Stops (BadRow (session.rows.handled + 1) cause) made
  row_is cause = subst (λ (n : ℕ). Stops (BadRow (n + 1) cause) made) (sym going.rows.count)

  pub stops_many : session.lines ≢ [] → session.rows.handled ≡ session.rows.allowed → Stops TooManyRows made
  stops_many some full =
      let first = some_byte session.lines some in
      ends_many m session.rows.allowed start left base made going.handled session.lines going.progress first.0 first.1 first.2 (sym going.rows.count ∙ full)

  pub stops_no_memory : Stops NoMemory made
  stops_no_memory = ends_unstored m session.rows.allowed start left base made going.handled session.lines going.progress

  pub stops_long : session.rows.handled < session.rows.allowed → 65536 < length session.lines → HasNoFeed (take 65537 session.lines)
      → Stops (BadRow (session.rows.handled + 1) m.too_long) made
  stops_long room long none =
      row_is m.too_long
      (ends_refused m session.rows.allowed start left base made going.handled session.lines going.progress m.too_long (omega (arith, going.rows.count))
      (λ rest left_is. long_line m going.handled session.lines rest long none))

  module _ (line now : List ℕ) (gives : Gives session.lines now (Line line)) (room : session.rows.handled < session.rows.allowed) where
    few : length going.handled < session.rows.allowed
    few = omega (arith, going.rows.count)

    by_meaning : line_refusal m going.handled line ≡ m.refusal going.handled line
    by_meaning = refusal_by_meaning m going.handled line gives.2

    -- the line was refused, or its text wasn't written
    pub line_stops : (stands_now : List (List ℕ) → Type 0) (later : Given U) (end : Ending)
        → IsTaken m going.handled line stands_now made later (Err end) → Stops (status_of end) later
    line_stops stands_now later ending.Done is = absurd is
    line_stops stands_now later ending.TooManyRows is = absurd is
    line_stops stands_now later ending.ReadFault is = absurd is
    line_stops stands_now later ending.NoMemory (inl is) = subst (Stops NoMemory) (sym is) stops_no_memory
    line_stops stands_now later ending.NoMemory (inr is) =
        ends_unwritten m session.rows.allowed start left base made going.handled session.lines going.progress NoMemory
        (inr refl) later line now gives.0 gives.1 (by_meaning ∙ is.0) few is.1
    line_stops stands_now later (ending.BadRow row cause) is =
        let next : (rest : List ℕ) → left ≡ Some rest → (first : List ℕ) × (others : List (List ℕ)) × (raw_lines (session.lines ++ rest) ≡ first ∷ others) × (line_refusal m going.handled first ≡ Some cause) =
        λ rest left_is. (
          line,
          raw_lines (now ++ rest),
          ap (λ (kept : List ℕ). raw_lines (kept ++ rest)) gives.0 ∙ ap raw_lines (append_assoc line (10 ∷ now) rest) ∙ raw_lines-line line (now ++ rest) gives.1,
          by_meaning ∙ is.1,
        ) in
        let at_length = ends_refused m session.rows.allowed start left base made going.handled session.lines going.progress cause few next in
        let at_row = subst (λ (n : ℕ). Stops (BadRow n cause) made) (sym is.0) at_length in
        subst (Stops (BadRow row cause)) (sym is.2) at_row
    line_stops stands_now later ending.WriteFault is =
        ends_unwritten m session.rows.allowed start left base made going.handled session.lines going.progress WriteFault
        (inl refl) later line now gives.0 gives.1 (by_meaning ∙ is.0) few is.1

    -- its text was written
    pub line_goes : (rows : Rows H) (later : Given U) → rows.allowed ≡ session.rows.allowed
        → IsTaken m going.handled line (λ lines. Stands stands m lines rows) made later (Ok tt)
        → Going stands m start left base later (record { rows = rows; lines = now })
    line_goes rows later same is =
        let progress = going.progress in
        record {
          handled = going.handled ++ line ∷ [];
          rows = is.1;
          progress = record {
            took = subst (Consumes start left) (ap (λ (kept : List ℕ). joined going.handled ++ kept) gives.0 ∙ joined-push going.handled line now) progress.took;
            added = adds-line m session.rows.allowed start left base made going.handled session.lines progress later line is.2;
            cut = AreLines-push going.handled line progress.cut gives.1;
            sound = sound-push m going.handled progress.sound line (by_meaning ∙ is.0);
            few = omega (arith, length-append going.handled (line ∷ []), same, few);
          };
        }

module _ {H U : Type 0} (stands : H → Meaning U → List (List ℕ) → Type 0) (m : Meaning U) where
  -- where nothing is asked of the bytes and of what was shown, it goes on from anywhere
  pub from_anywhere : (left left' : Option (List ℕ)) (made made' : Given U) (session : Session H) → Going stands m None left (given None None) made session
      → Going stands m None left' (given None None) made' session
  from_anywhere left left' made made' session going =
      let progress = going.progress in
      record {
        handled = going.handled;
        rows = going.rows;
        progress = record { took = tt; added = record { wrote = tt; showed = tt }; cut = progress.cut; sound = progress.sound; few = progress.few };
      }

  -- a piece came
  pub fed : (start left left' : Option (List ℕ)) (base made : Given U) (session : Session H) (piece : List ℕ) → Going stands m start left base made session
      → Consumes left left' piece
      → Going stands m start left' base made (record { rows = session.rows; lines = session.lines ++ piece })
  fed start left left' base made session piece going came =
      let progress = going.progress in
      record {
        handled = going.handled;
        rows = going.rows;
        progress = record {
          took = subst (Consumes start left') (append_assoc (joined going.handled) session.lines piece) (Consumes-trans _ _ _ _ _ progress.took came);
          added = progress.added;
          cut = progress.cut;
          sound = progress.sound;
          few = progress.few;
        };
      }

  -- no piece came
  pub unfed : (start left left' : Option (List ℕ)) (base made : Given U) (session : Session H) → Going stands m start left base made session → Keeps left left'
      → Going stands m start left' base made session
  unfed start left left' base made session going keeps =
      let progress = going.progress in
      record {
        handled = going.handled;
        rows = going.rows;
        progress = record { took = Consumes-kept _ _ _ _ progress.took keeps; added = progress.added; cut = progress.cut; sound = progress.sound; few = progress.few };
      }

  -- what is kept is at most one line more
  room_for : (handled : List (List ℕ)) (kept : List ℕ) (allowed : ℕ) → HasNoFeed kept → length handled ≤ allowed → (0 < length kept → length handled < allowed)
      → length (handled ++ raw_lines kept) ≤ allowed
  room_for handled [] allowed none few room = omega (arith, length-append handled (raw_lines []))
  room_for handled (b ∷ more) allowed none few room =
      omega (arith, length-append handled (raw_lines (b ∷ more)), ap length (raw_lines-rest b more none), room (omega arith))

  -- a read failed
  pub stops_unread : (start left : Option (List ℕ)) (base made : Given U) (session : Session H) → Going stands m start left base made session → Waits session
      → Ends m session.rows.allowed ReadFault start left base made
  stops_unread start left base made session going waits =
      ends_unread m session.rows.allowed start left base made going.handled session.lines going.progress waits.open_line waits.short
      (room_for going.handled session.lines session.rows.allowed waits.open_line going.progress.few
      (λ some. let below = waits.room some in omega (arith, below, going.rows.count)))

  module _ (start left : Option (List ℕ)) (base made : Given U) (session : Session H) (going : Going stands m start left base made session) (waits : Waits session) (over : IsAtEnd left) where
    -- no line stands behind the last line feed
    pub closes_empty : session.lines ≡ [] → AllHandled stands m session.rows.allowed start left base made session.rows
    closes_empty none = record {
      handled = going.handled;
      stand = going.rows;
      over = all_taken m session.rows.allowed start left base made going.handled session.lines going.progress over none;
    }

    module _ (line : List ℕ) (line_is : line ≡ session.lines) (some : session.lines ≢ []) where
      last_few : length going.handled < session.rows.allowed
      last_few = let first = some_byte session.lines some in
          let long : 0 < length session.lines = omega (arith, ap length first.2) in omega (arith, waits.room long, going.rows.count)

      last_by_meaning : line_refusal m going.handled session.lines ≡ m.refusal going.handled line
      last_by_meaning = refusal_by_meaning m going.handled session.lines waits.short ∙ ap (m.refusal going.handled) (sym line_is)

      -- a last line was handled
      pub closes_with : (rows : Rows H) (later : Given U) → IsTaken m going.handled line (λ lines. Stands stands m lines rows) made later (Ok tt)
          → AllHandled stands m session.rows.allowed start left base later rows
      closes_with rows later is =
          let first = some_byte session.lines some in
          record {
            handled = going.handled ++ session.lines ∷ [];
            stand = subst (λ (l : List ℕ). Stands stands m (going.handled ++ l ∷ []) rows) line_is is.1;
            over = all_taken_with m session.rows.allowed start left base made going.handled session.lines going.progress later first.0 first.1 over first.2 waits.open_line (last_by_meaning ∙ is.0) last_few
                (subst (λ (l : List ℕ). Adds made later (m.text.caused going.handled l) (m.shown.caused going.handled l)) line_is is.2);
          }

      -- a front of its text was written
      last_unwritten : (status : Status) → (status ≡ WriteFault) ⊎ (status ≡ NoMemory) → (later : Given U) → IsPartAdded m going.handled line made later
          → Ends m session.rows.allowed status start left base later
      last_unwritten status which later is =
          let first = some_byte session.lines some in
          ends_unwritten_last m session.rows.allowed start left base made going.handled session.lines going.progress status which later first.0 first.1 over first.2 waits.open_line (last_by_meaning ∙ is.0) last_few
          (subst (λ (l : List ℕ). AddsPart made later (m.text.caused going.handled l) (m.shown.caused going.handled l)) line_is is.1)

      -- or it was refused, or its text wasn't written
      pub last_stops : (stands_now : List (List ℕ) → Type 0) (later : Given U) (end : Ending) → IsTaken m going.handled line stands_now made later (Err end)
          → Ends m session.rows.allowed (status_of end) start left base later
      last_stops stands_now later ending.Done is = absurd is
      last_stops stands_now later ending.TooManyRows is = absurd is
      last_stops stands_now later ending.ReadFault is = absurd is
      last_stops stands_now later ending.NoMemory (inl is) =
          subst (λ (t : Given U). Ends m session.rows.allowed NoMemory start left base t) (sym is) (stops_no_memory stands m start left base made session going)
      last_stops stands_now later ending.NoMemory (inr is) = last_unwritten NoMemory (inr refl) later is
      last_stops stands_now later (ending.BadRow row cause) is =
          let first = some_byte session.lines some in
          let at_end : (rest : List ℕ) → left ≡ Some rest → session.lines ++ rest ≡ session.lines =
          λ rest left_is. let empty : rest ≡ [] = subst IsAtEnd left_is over in ap (λ (l : List ℕ). session.lines ++ l) empty ∙ append-nil session.lines in
          let next : (rest : List ℕ) → left ≡ Some rest → (found : List ℕ) × (others : List (List ℕ)) × (raw_lines (session.lines ++ rest) ≡ found ∷ others) × (line_refusal m going.handled found ≡ Some cause) =
          λ rest left_is. (session.lines, [], ap raw_lines (at_end rest left_is) ∙ one_line session.lines first.0 first.1 first.2 waits.open_line, last_by_meaning ∙ is.1) in
          let at_length = ends_refused m session.rows.allowed start left base made going.handled session.lines going.progress cause last_few next in
          let at_row = subst (λ (n : ℕ). Ends m session.rows.allowed (BadRow n cause) start left base made) (sym is.0) at_length in
          subst (λ (t : Given U). Ends m session.rows.allowed (BadRow row cause) start left base t) (sym is.2) at_row
      last_stops stands_now later ending.WriteFault is = last_unwritten WriteFault (inl refl) later is

  -- what is owed at the end was written, or a front of it
  pub finished : (allowed : ℕ) (start left : Option (List ℕ)) (base made later : Given U) (rows : Rows H) (end : Ending)
      (all : AllHandled stands m allowed start left base made rows)
      → IsFinished m all.handled made later end → Ends m allowed (status_of end) start left base later
  finished allowed start left base made later rows ending.Done all is = ends_done m allowed start left base made all.handled all.over later is
  finished allowed start left base made later rows ending.WriteFault all is = ends_undone m allowed start left base made all.handled all.over WriteFault later
      (inl refl) is
  finished allowed start left base made later rows ending.NoMemory all is = ends_undone m allowed start left base made all.handled all.over NoMemory later
      (inr refl) is
  finished allowed start left base made later rows (ending.BadRow row cause) all is = absurd is
  finished allowed start left base made later rows ending.TooManyRows all is = absurd is
  finished allowed start left base made later rows ending.ReadFault all is = absurd is

  -- a session that begins
  pub started : (start : Option (List ℕ)) (made : Given U) (session : Session H) → stands session.rows.handler m [] → session.rows.handled ≡ 0
      → session.lines ≡ [] → Going stands m start start made made session
  started start made session stand none empty = record {
    handled = [];
    rows = record { handler = stand; count = none };
    progress = record {
      took = subst (Consumes start start) (sym empty) (Consumes-nil start);
      added = record { wrote = Appends-nil made.taken; showed = Grows-nil made.shown };
      cut = tt;
      sound = refl;
      few = omega arith;
    };
  }
