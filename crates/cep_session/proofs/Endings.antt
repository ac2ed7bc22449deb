-- How a run ends, from how far it has come.
use Rattle.std.proofs.Common.{◌≡◌, ◌≢◌, ◌⊎◌, inl, inr, ℕ, ◌+◌, ◌-◌, ◌<◌, ◌≤◌, List, [], ◌∷◌, ◌++◌, length, take, Option, Some, None, refl, sym, ◌∙◌, ap, subst, arith, append_assoc, length-append}
use Rattle.std.proofs.lemmas.List.{append-nil, take_at}
use Rattle.std.specs.Io.KnownBytes.{Appends, Consumes, IsAtEnd}
use Rattle.std.proofs.KnownBytes.{Appends-trans}
use Rattle.cep_outside.proofs.Known.{Consumes-known}
use Rattle.cep_rows.specs.Feed.{HasNoFeed, AreLines}
use Rattle.cep_rows.specs.Lines.{raw_lines, whole_lines, joined}
use Rattle.cep_rows.proofs.Cuts.{raw_lines-joined, raw_lines-rest, whole_lines-joined, whole_lines-line, whole_lines-split, after_whole_lines-split, some_line}
use Rattle.told_list.specs.Grows.{Grows}
use Rattle.told_list.proofs.GrowsLaws.{Grows-trans}
use Rattle.cep_session.specs.Ending.{status_of}
use Rattle.cep_session.specs.Handling.{Given, Adds, AddsPart}
use Rattle.cep_session.specs.Meaning.{Flow, Meaning, line_refusal, first_refused, sound_front, sofar_from, sofar, whole, verdict}
use Rattle.cep_session.specs.Outcome.{IsOwed, Outcome}
use Rattle.cep_session.specs.Progress.{Progress, AllTaken, Ended, Ends}
use Rattle.cep_rows.specs.declared.cause.RowCause.{RowCause}
use Rattle.cep_session.specs.declared.ending.Ending.{Ending}
use Rattle.cep_session.specs.declared.ending.Ending.TheVariants as ending
use Rattle.cep_session.specs.declared.status.Status.{Status}
use Rattle.cep_session.specs.declared.status.Status.TheVariants.{Done, NoMemory, BadRow, TooManyRows, ReadFault, WriteFault}
use Rattle.cep_session.proofs.Laws.{sound_front-append, sofar_from-append, sound-push, sound_front-at, sofar-push, take_past, take_past_some, verdict-refused, verdict-many, verdict-done}

pub one_line : (kept : List ℕ) (b : ℕ) (more : List ℕ) → kept ≡ b ∷ more → HasNoFeed kept → raw_lines kept ≡ kept ∷ []
one_line kept b more is none =
    ap raw_lines is ∙ raw_lines-rest b more (subst HasNoFeed is none) ∙ ap (λ (l : List ℕ). l ∷ []) (sym is)

adds-then : {U : Type 0} (a b c : Given U) (text more : List ℕ) (list others : List U) → Adds a b text list → Adds b c more others
    → Adds a c (text ++ more) (list ++ others)
adds-then a b c text more list others first second = record {
  wrote = Appends-trans a.taken b.taken c.taken text more first.wrote second.wrote;
  showed = Grows-trans a.shown b.shown c.shown list others first.showed second.showed;
}

module _ {U : Type 0} (m : Meaning U) (allowed : ℕ) where
  -- a run that took these bytes, wrote this text and showed this list has ended so
  ended : (status : Status) (start left : Option (List ℕ)) (base now : Given U) (bytes text : List ℕ) (list : List U) → Consumes start left bytes
      → Adds base now text list
      → ((all rest : List ℕ) → left ≡ Some rest → all ≡ bytes ++ rest
      → Outcome m m.text allowed status all bytes text × Outcome m m.shown allowed status all bytes list)
      → Ends m allowed status start left base now
  ended status start left base now bytes text list took added outcome =
      λ all start_is.
      let known = Consumes-known start left all bytes start_is took in
      let both = outcome all known.rest known.known known.is in
      record {
        bytes = bytes;
        rest = known.rest;
        text = text;
        list = list;
        input = known.is;
        left_is = known.known;
        added = added;
        written = both.0;
        shown = both.1;
      }

  -- what the lines cause was given, by each flow
  ended_sofar : (status : Status) (start left : Option (List ℕ)) (base now : Given U) (bytes : List ℕ) (lines : List (List ℕ)) → Consumes start left bytes
      → Adds base now (sofar m.text lines) (sofar m.shown lines)
      → ((all rest : List ℕ) → left ≡ Some rest → all ≡ bytes ++ rest → (A : Type 0) (flow : Flow A) → Outcome m flow allowed status all bytes
      (sofar flow lines))
      → Ends m allowed status start left base now
  ended_sofar status start left base now bytes lines took added outcome =
      ended status start left base now bytes (sofar m.text lines) (sofar m.shown lines) took added
      (λ all rest left_is is. (outcome all rest left_is is ℕ m.text, outcome all rest left_is is U m.shown))

  -- the lines of all bytes are those handled, and then those of what is kept and what is left
  all_lines : (lines : List (List ℕ)) (kept all rest : List ℕ) → AreLines lines → all ≡ (joined lines ++ kept) ++ rest → raw_lines all ≡ lines ++ raw_lines (kept ++ rest)
  all_lines lines kept all rest cut is =
      ap raw_lines (is ∙ append_assoc (joined lines) kept rest) ∙ raw_lines-joined lines (kept ++ rest) cut

  -- want of memory and a failed write leave a front of what is owed
  outcome_of : {A : Type 0} (flow : Flow A) (status : Status) (all taken : List ℕ) (list : List A) → (status ≡ WriteFault) ⊎ (status ≡ NoMemory)
      → IsOwed m flow allowed all taken list
      → Outcome m flow allowed status all taken list
  outcome_of flow status all taken list (inl is) owed = subst (λ (s : Status). Outcome m flow allowed s all taken list) (sym is) owed
  outcome_of flow status all taken list (inr is) owed = subst (λ (s : Status). Outcome m flow allowed s all taken list) (sym is) owed

  module _ (start left : Option (List ℕ)) (base now : Given U) (lines : List (List ℕ)) (kept : List ℕ) (so_far : Progress m allowed start left base now lines kept) where
    -- the next line is refused
    pub ends_refused : (cause : RowCause) → length lines < allowed
        → ((rest : List ℕ) → left ≡ Some rest → (line : List ℕ) × (others : List (List ℕ)) × (raw_lines (kept ++ rest) ≡ line ∷ others) × (line_refusal m lines line ≡ Some cause))
        → Ends m allowed (BadRow (length lines + 1) cause) start left base now
    ends_refused cause few next =
        ended_sofar _ _ _ _ _ _ lines so_far.took so_far.added (λ all rest left_is is A flow.
        let found = next rest left_is in
        let are : raw_lines all ≡ lines ++ found.0 ∷ found.1 = all_lines lines kept all rest so_far.cut is ∙ ap (λ (ls : List (List ℕ)). lines ++ ls) found.2 in
        let front : take (length lines + 1 - 1) (raw_lines all) ≡ lines = ap (take (length lines + 1 - 1)) are ∙ take_at lines (found.0 ∷ found.1) (length lines + 1 - 1) (omega arith) in
        (verdict-refused m allowed (raw_lines all) lines found.0 found.1 cause are so_far.sound few found.3, sym (ap (sofar flow) front)))

    -- a byte stands past the lines that are allowed
    pub ends_many : (b : ℕ) (more : List ℕ) → kept ≡ b ∷ more → length lines ≡ allowed → Ends m allowed TooManyRows start left base now
    ends_many b more kept_is many =
        ended_sofar _ _ _ _ _ _ lines so_far.took so_far.added (λ all rest left_is is A flow.
        let next = some_line b (more ++ rest) in
        let are : raw_lines all ≡ lines ++ next.line ∷ next.lines =
        all_lines lines kept all rest so_far.cut is ∙ ap (λ (k : List ℕ). lines ++ raw_lines (k ++ rest)) kept_is ∙ ap (λ (ls : List (List ℕ)). lines ++ ls) next.is in
        let front : take allowed (raw_lines all) ≡ lines = ap (take allowed) are ∙ take_at lines (next.line ∷ next.lines) allowed many in
        (verdict-many m allowed (raw_lines all) lines next.line next.lines are so_far.sound many, sym (ap (sofar flow) front)))

    -- a read failed where no more lines can be made of what is kept
    pub ends_unread : HasNoFeed kept → length kept ≤ 65536 → length (lines ++ raw_lines kept) ≤ allowed → Ends m allowed ReadFault start left base now
    ends_unread none short few =
        ended_sofar _ _ _ _ _ _ lines so_far.took so_far.added (λ all rest left_is is A flow.
        let are = whole_lines-split lines kept so_far.cut none in (
          ap (first_refused m []) are ∙ so_far.sound,
          omega (arith, ap length (after_whole_lines-split lines kept so_far.cut none), short),
          omega (arith, ap length (raw_lines-joined lines kept so_far.cut), few),
          sym (ap (sofar flow) are),
        ))

    -- what was given is owed, whatever was kept
    pub owed_so_far : {A : Type 0} (flow : Flow A) (all : List ℕ) → IsOwed m flow allowed all (joined lines ++ kept) (sofar flow lines)
    owed_so_far flow all =
        let whole_is = whole_lines-joined lines kept so_far.cut in
        let front = take_past_some lines (whole_lines kept) allowed so_far.few in
        let sound : sound_front m [] (take allowed (whole_lines (joined lines ++ kept))) ≡ lines ++ sound_front m lines front.0 =
        ap (λ (ls : List (List ℕ)). sound_front m [] (take allowed ls)) whole_is ∙ ap (sound_front m []) front.1 ∙ sound_front-append m [] lines front.0 so_far.sound in
        inl (sofar_from flow lines (sound_front m lines front.0), ap (sofar flow) sound ∙ sofar_from-append flow [] lines (sound_front m lines front.0))

    pub ends_unstored : Ends m allowed NoMemory start left base now
    ends_unstored = ended_sofar _ _ _ _ _ _ lines so_far.took so_far.added (λ all rest left_is is A flow. owed_so_far flow all)

    module _ (status : Status) (which : (status ≡ WriteFault) ⊎ (status ≡ NoMemory)) (later : Given U) where
      module _ (line more : List ℕ) (kept_is : kept ≡ line ++ 10 ∷ more) (none : HasNoFeed line) (sound : line_refusal m lines line ≡ None) (few : length lines < allowed) where
        -- a front of what the next line causes was given
        owed_to_line : {A : Type 0} (flow : Flow A) (all : List ℕ) (front back : List A) → flow.caused lines line ≡ front ++ back
            → Outcome m flow allowed status all (joined lines ++ kept) (sofar flow lines ++ front)
        owed_to_line flow all front back is =
            let whole_is : whole_lines (joined lines ++ kept) ≡ lines ++ line ∷ whole_lines more =
            whole_lines-joined lines kept so_far.cut ∙ ap (λ (k : List ℕ). lines ++ whole_lines k) kept_is ∙ ap (λ (ls : List (List ℕ)). lines ++ ls)
            (whole_lines-line line more none) in
            let past = take_past lines line (whole_lines more) allowed few in
            let others = sound_front m (lines ++ line ∷ []) past.0 in
            let sound_lines : sound_front m [] (take allowed (whole_lines (joined lines ++ kept))) ≡ lines ++ line ∷ others =
            ap (λ (ls : List (List ℕ)). sound_front m [] (take allowed ls)) whole_is ∙ ap (sound_front m []) past.1
            ∙ sound_front-at m lines so_far.sound line past.0 sound in
            outcome_of flow status all (joined lines ++ kept) (sofar flow lines ++ front) which
            (inl (
              back ++ sofar_from flow (lines ++ line ∷ []) others,
              ap (sofar flow) sound_lines
                  ∙ sofar_from-append flow [] lines (line ∷ others)
                  ∙ ap (λ l. sofar flow lines ++ (l ++ sofar_from flow (lines ++ line ∷ []) others)) is
                  ∙ ap (λ l. sofar flow lines ++ l) (append_assoc front back (sofar_from flow (lines ++ line ∷ []) others))
                  ∙ sym (append_assoc (sofar flow lines) front (back ++ sofar_from flow (lines ++ line ∷ []) others)),
            ))

        pub ends_unwritten : AddsPart now later (m.text.caused lines line) (m.shown.caused lines line) → Ends m allowed status start left base later
        ends_unwritten part =
            ended _ _ _ _ _ _ _ _ so_far.took (adds-then base now later _ _ _ _ so_far.added
            (record { wrote = part.wrote.appends; showed = part.showed.grows }))
            (λ all rest left_is is.
            (owed_to_line m.text all part.wrote.front part.wrote.back part.wrote.is, owed_to_line m.shown all part.showed.front part.showed.back part.showed.is))

      module _ (b : ℕ) (more : List ℕ) (over : IsAtEnd left) (kept_is : kept ≡ b ∷ more) (none : HasNoFeed kept) (sound : line_refusal m lines kept ≡ None) (few : length lines < allowed) where
        -- a front of what the last line causes was given
        owed_to_last : {A : Type 0} (flow : Flow A) (all rest : List ℕ) → left ≡ Some rest → all ≡ (joined lines ++ kept) ++ rest → (front back : List A)
            → flow.caused lines kept ≡ front ++ back
            → Outcome m flow allowed status all (joined lines ++ kept) (sofar flow lines ++ front)
        owed_to_last flow all rest left_is all_is front back is =
            let empty : rest ≡ [] = subst IsAtEnd left_is over in
            let whole_is : joined lines ++ kept ≡ all = sym (all_is ∙ ap (λ (l : List ℕ). (joined lines ++ kept) ++ l) empty ∙ append-nil
            (joined lines ++ kept)) in
            let are : raw_lines all ≡ lines ++ kept ∷ [] =
            ap raw_lines (sym whole_is) ∙ raw_lines-joined lines kept so_far.cut ∙ ap (λ (ls : List (List ℕ)). lines ++ ls)
            (one_line kept b more kept_is none) in
            let sound_all = sound-push m lines so_far.sound kept sound in
            let done = verdict-done m allowed (lines ++ kept ∷ []) sound_all (omega (arith, length-append lines (kept ∷ []), few)) in
            let owed = flow.owed (lines ++ kept ∷ []) in
            outcome_of flow status all (joined lines ++ kept) (sofar flow lines ++ front) which
            (inr (
              whole_is,
              ap (verdict m allowed) are ∙ done,
              (
                back ++ owed,
                ap (whole flow) are
                    ∙ ap (λ l. l ++ owed) (sofar-push flow lines kept ∙ ap (λ l. sofar flow lines ++ l) is ∙ sym (append_assoc (sofar flow lines) front back))
                    ∙ append_assoc (sofar flow lines ++ front) back owed,
              ),
            ))

        pub ends_unwritten_last : AddsPart now later (m.text.caused lines kept) (m.shown.caused lines kept) → Ends m allowed status start left base later
        ends_unwritten_last part =
            ended _ _ _ _ _ _ _ _ so_far.took (adds-then base now later _ _ _ _ so_far.added
            (record { wrote = part.wrote.appends; showed = part.showed.grows }))
            (λ all rest left_is is. (
              owed_to_last m.text all rest left_is is part.wrote.front part.wrote.back part.wrote.is,
              owed_to_last m.shown all rest left_is is part.showed.front part.showed.back part.showed.is,
            ))

    -- the input is at its end, and nothing is kept
    pub all_taken : IsAtEnd left → kept ≡ [] → AllTaken m allowed start left base now lines
    all_taken over none =
        record {
          bytes = joined lines ++ kept;
          took = so_far.took;
          over = over;
          are = raw_lines-joined lines kept so_far.cut ∙ ap (λ (k : List ℕ). lines ++ raw_lines k) none ∙ append-nil lines;
          added = so_far.added;
          sound = so_far.sound;
          few = so_far.few;
        }

    -- what the lines and one more cause was given
    pub adds-line : (later : Given U) (line : List ℕ) → Adds now later (m.text.caused lines line) (m.shown.caused lines line)
        → Adds base later (sofar m.text (lines ++ line ∷ [])) (sofar m.shown (lines ++ line ∷ []))
    adds-line later line added =
        let both = adds-then base now later _ _ _ _ so_far.added added in record {
          wrote = subst (Appends base.taken later.taken) (sym (sofar-push m.text lines line)) both.wrote;
          showed = subst (Grows base.shown later.shown) (sym (sofar-push m.shown lines line)) both.showed;
        }

    -- what is kept is a last line
    pub all_taken_with : (later : Given U) (b : ℕ) (more : List ℕ) → IsAtEnd left → kept ≡ b ∷ more → HasNoFeed kept → line_refusal m lines kept ≡ None
        → length lines < allowed
        → Adds now later (m.text.caused lines kept) (m.shown.caused lines kept) → AllTaken m allowed start left base later (lines ++ kept ∷ [])
    all_taken_with later b more over kept_is none sound few added =
        record {
          bytes = joined lines ++ kept;
          took = so_far.took;
          over = over;
          are = raw_lines-joined lines kept so_far.cut ∙ ap (λ (ls : List (List ℕ)). lines ++ ls) (one_line kept b more kept_is none);
          added = adds-line later kept added;
          sound = sound-push m lines so_far.sound kept sound;
          few = omega (arith, length-append lines (kept ∷ []), few);
        }

  module _ (start left : Option (List ℕ)) (base now : Given U) (lines : List (List ℕ)) (over : AllTaken m allowed start left base now lines) where
    -- all bytes were taken
    all_bytes : (all rest : List ℕ) → left ≡ Some rest → all ≡ over.bytes ++ rest → over.bytes ≡ all
    all_bytes all rest left_is is =
        let empty : rest ≡ [] = subst IsAtEnd left_is over.over in
        sym (is ∙ ap (λ (l : List ℕ). over.bytes ++ l) empty ∙ append-nil over.bytes)

    done : (all : List ℕ) → over.bytes ≡ all → (raw_lines all ≡ lines) × (verdict m allowed (raw_lines all) ≡ Done)
    done all is =
        let are : raw_lines all ≡ lines = ap raw_lines (sym is) ∙ over.are in
        (are, ap (verdict m allowed) are ∙ verdict-done m allowed lines over.sound over.few)

    done_by : {A : Type 0} (flow : Flow A) (all rest : List ℕ) → left ≡ Some rest → all ≡ over.bytes ++ rest
        → Outcome m flow allowed Done all over.bytes (whole flow lines)
    done_by flow all rest left_is is =
        let whole_is = all_bytes all rest left_is is in
        let facts = done all whole_is in
        (whole_is, facts.1, sym (ap (whole flow) facts.0))

    -- what is owed was given
    pub ends_done : (later : Given U) → Adds now later (m.text.owed lines) (m.shown.owed lines) → Ends m allowed Done start left base later
    ends_done later added =
        ended _ _ _ _ _ _ _ _ over.took (adds-then base now later _ _ _ _ over.added added)
        (λ all rest left_is is. (done_by m.text all rest left_is is, done_by m.shown all rest left_is is))

    undone_by : {A : Type 0} (flow : Flow A) (status : Status) → (status ≡ WriteFault) ⊎ (status ≡ NoMemory) → (all rest : List ℕ) → left ≡ Some rest
        → all ≡ over.bytes ++ rest
        → (front back : List A) → flow.owed lines ≡ front ++ back → Outcome m flow allowed status all over.bytes (sofar flow lines ++ front)
    undone_by flow status which all rest left_is all_is front back is =
        let whole_is = all_bytes all rest left_is all_is in
        let facts = done all whole_is in
        let owed : IsOwed m flow allowed all over.bytes (sofar flow lines ++ front) =
        inr (whole_is, facts.1, (back, ap (whole flow) facts.0 ∙ ap (λ l. sofar flow lines ++ l) is ∙ sym (append_assoc (sofar flow lines) front back))) in
        outcome_of flow status all over.bytes (sofar flow lines ++ front) which owed

    -- a front of it was given
    pub ends_undone : (status : Status) (later : Given U) → (status ≡ WriteFault) ⊎ (status ≡ NoMemory)
        → AddsPart now later (m.text.owed lines) (m.shown.owed lines) → Ends m allowed status start left base later
    ends_undone status later which part =
        ended _ _ _ _ _ _ _ _ over.took (adds-then base now later _ _ _ _ over.added (record { wrote = part.wrote.appends; showed = part.showed.grows }))
        (λ all rest left_is is. (
          undone_by m.text status which all rest left_is is part.wrote.front part.wrote.back part.wrote.is,
          undone_by m.shown status which all rest left_is is part.showed.front part.showed.back part.showed.is,
        ))

-- where no count of faults rose and there was memory, the answer is the verdict
pub complete : {U : Type 0} (m : Meaning U) (allowed : ℕ) (end : Ending) (all : List ℕ) (left : Option (List ℕ)) (base now : Given U) (read write : Type 0)
    → Ended m allowed (status_of end) all left base now → (end ≡ ending.ReadFault → read) → (end ≡ ending.WriteFault → write) → (read → ⊥) → (write → ⊥) → end ≢ ending.NoMemory
    → status_of end ≡ verdict m allowed (raw_lines all)
complete m allowed ending.Done all left base now read write is reads writes no_read no_write memory = sym is.written.1
complete m allowed (ending.BadRow row cause) all left base now read write is reads writes no_read no_write memory = sym is.written.0
complete m allowed ending.TooManyRows all left base now read write is reads writes no_read no_write memory = sym is.written.0
complete m allowed ending.ReadFault all left base now read write is reads writes no_read no_write memory = absurd (no_read (reads refl))
complete m allowed ending.WriteFault all left base now read write is reads writes no_read no_write memory = absurd (no_write (writes refl))
complete m allowed ending.NoMemory all left base now read write is reads writes no_read no_write memory = absurd (memory refl)
