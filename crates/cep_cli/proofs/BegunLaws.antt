-- A run before its first line, one line more, and the end.
use Rattle.std.proofs.Common.{◌≡◌, refl, sym, ◌∙◌, ap, subst, ℕ, suc, ◌+◌, ◌≤◌, ◌<◌, ◌^◌, ◌-◌, arith, Bool, true, false, ◌&&◌, List, [], ◌∷◌, ◌++◌, length, length-append, Option, Some, None}
use Rattle.std.specs.Prelude.{Result, Ok, Err, nat_le, IfSome}
use Rattle.std.proofs.lemmas.Bool.Decides.{nat_tests}
use Rattle.std.specs.Io.KnownBytes.{Appends}
use Rattle.cep_event.specs.declared.event.EventType.{EventType}
use Rattle.cep_event.specs.declared.record.LineRecord.{LineRecord}
use Rattle.cep_outside.specs.Outside.{AppendsPart}
use Rattle.cep_plan.specs.declared.plan.Plan.{Plan}
use Rattle.cep_engine.specs.State.{HasRoom}
use Rattle.cep_engine.proofs.LoopLaws.{Each-get}
use Rattle.cep_records.specs.Numbered.{AreNumbered}
use Rattle.cep_records.specs.Record.{no_type}
use Rattle.cep_rows.specs.declared.cause.RowCause.{RowCause}
use Rattle.cep_session.specs.Handling.{Adds, AddsPart, Given, IsPartAdded}
use Rattle.cep_session.specs.Meaning.{Meaning}
use Rattle.event_pipeline.specs.declared.pipeline.Pipeline.{Pipeline}
use Rattle.event_pipeline.specs.Handled.{HasHandled}
use Rattle.event_pipeline.specs.Shown.{sizes_added, sizes_at_end}
use Rattle.pattern_check.specs.Checked.{is_limit}
use Rattle.pattern_file.specs.Usable.{IsUsable}
use Rattle.shared_buffer.specs.declared.buffer.Held.{Held}
use Rattle.told_list.specs.Grows.{Grows, GrowsPart}
use Rattle.cep_cli.specs.Meaning.{meaning_of, refusal_of, caused_text, owed_text}
use Rattle.cep_cli.specs.Records.{record_in, record_or_blank, record_at, records_from, records_of}
use Rattle.cep_cli.specs.Run.{HasRun}

-- ---- what a usable plan allows

pub few_stages : (plan : Plan) → IsUsable plan → length plan.stages ≤ 64
few_stages plan u = omega (arith, u.checked.few_stages)

room-within : (within : Option ℕ) → is_limit within ≡ true → IfSome within (λ w. 0 < w)
room-within None h = tt
room-within (Some w) h = inner w h where
  first_is : (a b : Bool) → (a && b) ≡ true → a ≡ true
  first_is true b h = refl
  first_is false b h = cc

  inner : (w : ℕ) → (nat_le 1 w && nat_le w 4611686018427387904) ≡ true → 0 < w
  inner w h = let one = first_is (nat_le 1 w) (nat_le w 4611686018427387904) h in grind (arith, nat_tests, one)

pub has_room : (plan : Plan) → IsUsable plan → HasRoom plan
has_room plan u = (room-within plan.within u.checked.limit, room-within plan.within_gap u.checked.gap)

pub numbered : (plan : Plan) → IsUsable plan → AreNumbered plan.types
numbered plan u = record {
  few = u.checked.few_types;
  fields = λ place within. Each-get (λ (t : EventType). length t.fields ≤ 65535) plan.types place no_type within u.fields;
}

-- ---- no line

pub begun : (header : Bool) (lag : Option ℕ) (plan : Plan) (pipeline : Pipeline) (gathered : List ℕ) → IsUsable plan → HasHandled lag plan [] pipeline
    → gathered ≡ []
    → HasRun (meaning_of header lag plan) header pipeline gathered 0 []
begun header lag plan pipeline gathered usable passed empty =
    record { lag = lag; plan = plan; means = refl; passed = passed; written = empty; counted = refl; room = omega arith; usable = usable }

-- ---- one line more

records_from-push : (header : Bool) (types : List EventType) (row : ℕ) (lines : List (List ℕ)) (line : List ℕ)
    → records_from header types row (lines ++ line ∷ []) ≡ records_from header types row lines ++ record_at header types (row + length lines) line ∷ []
records_from-push header types row [] line = ap (λ (k : ℕ). record_at header types k line ∷ []) (omega arith)
records_from-push header types row (first ∷ lines) line =
    ap (λ (l : List LineRecord). record_at header types row first ∷ l) (records_from-push header types (row + 1) lines line)
    ∙ ap (λ (k : ℕ). record_at header types row first ∷ (records_from header types (row + 1) lines ++ record_at header types k line ∷ [])) (omega arith)

pub records-push : (header : Bool) (types : List EventType) (lines : List (List ℕ)) (line : List ℕ) (next : LineRecord)
    → record_in header types (length lines + 1) line ≡ Ok next
    → records_of header types (lines ++ line ∷ []) ≡ records_of header types lines ++ next ∷ []
records-push header types lines line next is =
    records_from-push header types 1 lines line
    ∙ ap (λ (k : ℕ). records_of header types lines ++ record_at header types k line ∷ []) (omega arith)
    ∙ ap (λ r. records_of header types lines ++ record_or_blank r ∷ []) is

records_from-length : (header : Bool) (types : List EventType) (row : ℕ) (lines : List (List ℕ)) → length (records_from header types row lines) ≡ length lines
records_from-length header types row [] = refl
records_from-length header types row (line ∷ lines) = ap suc (records_from-length header types (row + 1) lines)

pub records-length : (header : Bool) (types : List EventType) (lines : List (List ℕ)) → length (records_of header types lines) ≡ length lines
records-length header types lines = records_from-length header types 1 lines

module _ (m : Meaning Held) (header : Bool) (p : Pipeline) (gathered : List ℕ) (handled : ℕ) (lines : List (List ℕ)) (line : List ℕ)
    (run : HasRun m header p gathered handled lines) where
  here : (r : Result LineRecord RowCause) → record_in header run.plan.types (handled + 1) line ≡ r
      → record_in header run.plan.types (length lines + 1) line ≡ r
  here r read = ap (λ (k : ℕ). record_in header run.plan.types (k + 1) line) (sym run.counted) ∙ read

  -- the line is refused
  pub refused : (cause : RowCause) → record_in header run.plan.types (handled + 1) line ≡ Err cause → m.refusal lines line ≡ Some cause
  refused cause read = ap (λ (x : Meaning Held). x.refusal lines line) run.means ∙ ap refusal_of (here (Err cause) read)

  module _ (next : LineRecord) (read : record_in header run.plan.types (handled + 1) line ≡ Ok next) where
    pub read-here : record_in header run.plan.types (length lines + 1) line ≡ Ok next
    read-here = here (Ok next) read

    pub accepted : m.refusal lines line ≡ None
    accepted = ap (λ (x : Meaning Held). x.refusal lines line) run.means ∙ ap refusal_of read-here

    text-is : caused_text run.lag run.plan (records_of header run.plan.types lines) next ≡ m.text.caused lines line
    text-is = ap (caused_text run.lag run.plan (records_of header run.plan.types lines)) (sym (ap record_or_blank read-here))
        ∙ sym (ap (λ (x : Meaning Held). x.text.caused lines line) run.means)

    sizes-are : sizes_added run.lag run.plan (records_of header run.plan.types lines) next ≡ m.shown.caused lines line
    sizes-are = ap (sizes_added run.lag run.plan (records_of header run.plan.types lines)) (sym (ap record_or_blank read-here))
        ∙ sym (ap (λ (x : Meaning Held). x.shown.caused lines line) run.means)

    -- it was handled, its text was written, and the sizes were shown
    pub goes-on : (q : Pipeline) (rest : List ℕ) (before after : Given Held) → length lines < 2 ^ 32 - 1 → rest ≡ []
        → HasHandled run.lag run.plan (records_of header run.plan.types lines ++ next ∷ []) q
        × Appends before.taken after.taken (caused_text run.lag run.plan (records_of header run.plan.types lines) next)
        → Grows before.shown after.shown (sizes_added run.lag run.plan (records_of header run.plan.types lines) next)
        → (m.refusal lines line ≡ None) × HasRun m header q rest (handled + 1) (lines ++ line ∷ [])
        × Adds before after (m.text.caused lines line) (m.shown.caused lines line)
    goes-on q rest before after few empty (passed, wrote) showed = (
      accepted,
      record {
        lag = run.lag;
        plan = run.plan;
        means = run.means;
        passed = subst (λ r. HasHandled run.lag run.plan r q) (sym (records-push header run.plan.types lines line next read-here)) passed;
        written = empty;
        counted = omega (arith, run.counted, length-append lines (line ∷ []));
        room = omega (arith, few, length-append lines (line ∷ []));
        usable = run.usable;
      },
      record { wrote = subst (Appends before.taken after.taken) text-is wrote; showed = subst (Grows before.shown after.shown) sizes-are showed },
    )

    -- a front of its text was written, and a front of the sizes shown
    pub part-written : (before after : Given Held) → AppendsPart before.taken after.taken
        (caused_text run.lag run.plan (records_of header run.plan.types lines) next)
        → GrowsPart before.shown after.shown (sizes_added run.lag run.plan (records_of header run.plan.types lines) next)
        → IsPartAdded m lines line before after
    part-written before after part showed = (
      accepted,
      record {
        wrote = subst (AppendsPart before.taken after.taken) text-is part;
        showed = subst
            (GrowsPart before.shown after.shown) sizes-are showed;
      },
    )

-- ---- the end

module _ (m : Meaning Held) (header : Bool) (p : Pipeline) (gathered : List ℕ) (handled : ℕ) (lines : List (List ℕ))
    (run : HasRun m header p gathered handled lines) where
  owed-is : owed_text run.lag run.plan (records_of header run.plan.types lines) ≡ m.text.owed lines
  owed-is = sym (ap (λ (x : Meaning Held). x.text.owed lines) run.means)

  at-end-are : sizes_at_end run.lag run.plan (records_of header run.plan.types lines) ≡ m.shown.owed lines
  at-end-are = sym (ap (λ (x : Meaning Held). x.shown.owed lines) run.means)

  pub owed-whole : (before after : Given Held) → Appends before.taken after.taken (owed_text run.lag run.plan (records_of header run.plan.types lines))
      → Grows before.shown after.shown (sizes_at_end run.lag run.plan (records_of header run.plan.types lines))
      → Adds before after (m.text.owed lines) (m.shown.owed lines)
  owed-whole before after wrote showed =
      record { wrote = subst (Appends before.taken after.taken) owed-is wrote; showed = subst (Grows before.shown after.shown) at-end-are showed }

  pub owed-part : (before after : Given Held) → AppendsPart before.taken after.taken (owed_text run.lag run.plan (records_of header run.plan.types lines))
      → GrowsPart before.shown after.shown (sizes_at_end run.lag run.plan (records_of header run.plan.types lines))
      → AddsPart before after (m.text.owed lines) (m.shown.owed lines)
  owed-part before after wrote showed =
      record { wrote = subst (AppendsPart before.taken after.taken) owed-is wrote; showed = subst (GrowsPart before.shown after.shown) at-end-are showed }
