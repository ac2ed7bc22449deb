-- The rows of what is told were written.
use Rattle.std.proofs.Common.{◌≡◌, refl, sym, ◌∙◌, ap, subst, inl, inr, ℕ, ◌+◌, ◌≤◌, arith, length-append, List, [], ◌∷◌, ◌++◌, length, map, append_assoc, append-nil, Option, Some, None}
use Rattle.std.specs.Prelude.{OnOk, OnErr, Result, Ok, Err}
use Rattle.std.specs.Option.{option_to_list}
use Rattle.std.specs.Io.KnownBytes.{Appends}
use Rattle.std.proofs.KnownBytes.{Appends-nil, Appends-trans}
use Rattle.cep_event.specs.declared.record.LineRecord.{LineRecord}
use Rattle.cep_outside.specs.Outside.{AppendsPart, Rose}
use Rattle.cep_plan.specs.declared.item.Item.{Item}
use Rattle.cep_plan.specs.declared.plan.Plan.{Plan}
use Rattle.cep_plan.specs.EventTime.{ticks_of, all_ticks}
use Rattle.cep_select.specs.Output.{rows_of, row_of}
use Rattle.event_pipeline.specs.declared.outputs.TellFault.{TellFault}
use Rattle.event_pipeline.specs.declared.outputs.TellFault.TheVariants.{NoMemory, Failed}
use Rattle.event_pipeline.specs.Telling.{IsTold, AreTold, StopsBefore, StopsAmong}
use Rattle.event_pipeline.specs.Told.{Told, late_told, item_told, late_in, added_items, told_of, told_at_end}
use Rattle.event_pipeline.proofs.TickLaws.{same-fault}
use Rattle.cep_cli.specs.declared.written.RowWriter.{RowWriter}
use Rattle.event_pipeline.specs.declared.pipeline.Pipeline.{Pipeline}
use Rattle.event_pipeline.specs.Handled.{HasHandled}
use Rattle.cep_cli.specs.Meaning.{late_text, caused_text, owed_text}
use Rattle.shared_buffer.specs.declared.buffer.Held.{Held}
use Rattle.told_list.specs.Grows.{Grows, GrowsPart}
use Rattle.told_list.proofs.GrowsLaws.{GrowsPart-whole}
use Rattle.cep_cli.specs.Run.{IsCaused, IsShown, IsWritten}
use Rattle.cep_cli.specs.Written.{Gathers, IsCut, IsAdded, row_told, rows_told}

-- ---- texts

rows_told-append : (plan : Plan) (xs ys : List Told) → rows_told plan (xs ++ ys) ≡ rows_told plan xs ++ rows_told plan ys
rows_told-append plan [] ys = refl
rows_told-append plan (x ∷ xs) ys =
    ap (λ l. row_told plan x ++ l) (rows_told-append plan xs ys) ∙ sym (append_assoc (row_told plan x) (rows_told plan xs) (rows_told plan ys))

rows_told-items : (plan : Plan) (items : List Item) → rows_told plan (map item_told items) ≡ rows_of plan items
rows_told-items plan [] = refl
rows_told-items plan (item ∷ items) = ap (λ l. row_of plan item ++ l) (rows_told-items plan items)

rows_told-late : (plan : Plan) (late : Option ℕ) → rows_told plan (map late_told (option_to_list late)) ≡ late_text late
rows_told-late plan None = refl
rows_told-late plan (Some row) = append-nil (late_text (Some row))

pub text-caused : (lag : Option ℕ) (plan : Plan) (records : List LineRecord) (next : LineRecord)
    → rows_told plan (told_of lag plan records next) ≡ caused_text lag plan records next
text-caused lag plan records next =
    let late = late_in lag records next in
    let items = added_items plan (ticks_of lag records) (ticks_of lag (records ++ next ∷ [])) in
    rows_told-append plan (map late_told (option_to_list late)) (map item_told items)
    ∙ (λ i. rows_told-late plan late i ++ rows_told-items plan items i)

pub text-owed : (lag : Option ℕ) (plan : Plan) (records : List LineRecord) → rows_told plan (told_at_end lag plan records) ≡ owed_text lag plan records
text-owed lag plan records = rows_told-items plan (added_items plan (ticks_of lag records) (all_ticks lag records))

-- ---- fronts of texts

-- a count that rose behind others has risen
pub rose-behind : (a b c : ℕ) → a ≤ b → Rose b c → Rose a c
rose-behind a b c le rose = omega (arith, le, rose)

-- a front of a text behind what was moved
part-behind : (before at after : Option (List ℕ)) (moved gathered text : List ℕ) → Appends before at moved → text ≡ moved ++ gathered
    → AppendsPart at after gathered → AppendsPart before after text
part-behind before at after moved gathered text wrote is part =
    record {
      front = moved ++ part.front;
      back = part.back;
      is = is ∙ ap (λ l. moved ++ l) part.is ∙ sym (append_assoc moved part.front part.back);
      appends = Appends-trans _ _ _ _ _ wrote part.appends;
    }

-- more would have come
part-more : (before after : Option (List ℕ)) (text more : List ℕ) → AppendsPart before after text → AppendsPart before after (text ++ more)
part-more before after text more part =
    record { front = part.front; back = part.back ++ more; is = ap (λ l. l ++ more) part.is ∙ append_assoc part.front part.back more; appends = part.appends }

nothing-more : (at : Option (List ℕ)) (text : List ℕ) → AppendsPart at at text
nothing-more at text = record { front = []; back = text; is = refl; appends = Appends-nil at }

no_memory-no_fault : NoMemory ≡ Failed → ⊥
no_memory-no_fault is = cc

-- ---- one row

module _ {K : Type 0} (taken : K → Option (List ℕ)) (faults : K → ℕ) where
  -- it was written, where nothing was gathered
  pub written-added : (a b : RowWriter × K) (row : List ℕ) (r : Result Unit TellFault) → a.0.gathered ≡ [] → b.0.gathered ≡ []
      → OnOk r (Appends (taken a.1) (taken b.1) row) → AppendsPart (taken a.1) (taken b.1) row
      → faults a.1 ≤ faults b.1 → (r ≡ Err Failed → Rose (faults a.1) (faults b.1)) → IsAdded taken faults a b row r
  written-added a b row (Ok done) none empty wrote part later cause =
      record {
        moved = row;
        wrote = wrote;
        is = ap (λ l. l ++ row) none ∙ sym (append-nil row) ∙ ap (λ l. row ++ l) (sym empty);
        few = λ few. omega (arith, ap length empty);
        later = later;
      }
  written-added a b row (Err fault) none empty wrote part later cause =
      record {
        part = subst (AppendsPart (taken a.1) (taken b.1)) (ap (λ l. l ++ row) (sym none)) part;
        later = later;
        cause = λ failed. cause
            (ap (λ e. Err e) failed);
      }

  -- it was gathered
  pub gather-added : (v w : RowWriter) (k : K) (row : List ℕ) (r : Result Unit TellFault) → OnOk r (w.gathered ≡ v.gathered ++ row)
      → OnErr r (r ≡ Err NoMemory)
      → (length v.gathered ≤ 65536 → length v.gathered + length row ≤ 65536) → IsAdded taken faults (v, k) (w, k) row r
  gather-added v w k row (Ok done) is short fits =
      record {
        moved = [];
        wrote = Appends-nil (taken k);
        is = sym is;
        few = λ few. omega
            (arith, ap length is, length-append v.gathered row, fits few);
        later = omega arith;
      }
  gather-added v w k row (Err fault) is short fits =
      record {
        part = nothing-more (taken k) (v.gathered ++ row);
        later = omega arith;
        cause = λ failed. absurd
            (no_memory-no_fault (sym (same-fault fault NoMemory short) ∙ failed));
      }

  -- what was gathered was written before
  pub flush-added : (a m b : RowWriter × K) (row : List ℕ) (r : Result Unit TellFault) → Appends (taken a.1) (taken m.1) a.0.gathered
      → m.0.gathered ≡ [] → faults a.1 ≤ faults m.1 → IsAdded taken faults m b row r → IsAdded taken faults a b row r
  flush-added a m b row (Ok done) wrote none later rest =
      record {
        moved = a.0.gathered ++ rest.moved;
        wrote = Appends-trans _ _ _ _ _ wrote rest.wrote;
        is = ap (λ l. a.0.gathered ++ (l ++ row)) (sym none) ∙ ap (λ l. a.0.gathered ++ l) rest.is ∙ sym (append_assoc a.0.gathered rest.moved b.0.gathered);
        few = λ few. rest.few (omega (arith, ap length none));
        later = omega (arith, later, rest.later);
      }
  flush-added a m b row (Err fault) wrote none later cut =
      record {
        part = part-behind (taken a.1) (taken m.1) (taken b.1) a.0.gathered (m.0.gathered ++ row) (a.0.gathered ++ row) wrote
            (ap (λ l. a.0.gathered ++ (l ++ row)) (sym none)) cut.part;
        later = omega (arith, later, cut.later);
        cause = λ failed. rose-behind (faults a.1) (faults m.1) (faults b.1) later (cut.cause failed);
      }

  -- and that failed
  pub flush-cut : (fault : TellFault) (a b : RowWriter × K) (row : List ℕ) → AppendsPart (taken a.1) (taken b.1) a.0.gathered
      → faults a.1 ≤ faults b.1 → (fault ≡ Failed → Rose (faults a.1) (faults b.1)) → IsCut taken faults fault a b row
  flush-cut fault a b row part later cause = record { part = part-more (taken a.1) (taken b.1) a.0.gathered row part; later = later; cause = cause }

  -- what isn't gathered means nothing
  pub added-from : (v w : RowWriter) (k : K) (b : RowWriter × K) (row : List ℕ) (r : Result Unit TellFault) → w.gathered ≡ v.gathered
      → IsAdded taken faults (w, k) b row r → IsAdded taken faults (v, k) b row r
  added-from v w k b row (Ok done) same x =
      record {
        moved = x.moved;
        wrote = x.wrote;
        is = ap (λ l. l ++ row) (sym same) ∙ x.is;
        few = λ few. x.few
            (omega (arith, ap length same, few));
        later = x.later;
      }
  added-from v w k b row (Err fault) same x =
      record { part = subst (λ l. AppendsPart (taken k) (taken b.1) (l ++ row)) same x.part; later = x.later; cause = x.cause }

  pub added-to : (a : RowWriter × K) (v w : RowWriter) (k : K) (row : List ℕ) (r : Result Unit TellFault) → w.gathered ≡ v.gathered
      → IsAdded taken faults a (v, k) row r → IsAdded taken faults a (w, k) row r
  added-to a v w k row (Ok done) same x =
      record {
        moved = x.moved;
        wrote = x.wrote;
        is = x.is ∙ ap (λ l. x.moved ++ l) (sym same);
        few = λ few. omega
            (arith, ap length same, x.few few);
        later = x.later;
      }
  added-to a v w k row (Err fault) same x = record { part = x.part; later = x.later; cause = x.cause }

  -- memory was wanted before
  pub short-told : (plan : Plan) (one : Told) (v w : RowWriter) (k : K) → w.gathered ≡ v.gathered
      → IsCut taken faults NoMemory (v, k) (w, k) (row_told plan one)
  short-told plan one v w k same =
      record { part = nothing-more (taken k) (v.gathered ++ row_told plan one); later = omega arith; cause = λ failed. absurd (no_memory-no_fault failed) }

  pub told-added : (plan : Plan) (one : Told) (a b : RowWriter × K) (r : Result Unit TellFault) → IsAdded taken faults a b (row_told plan one) r
      → IsTold (λ s t x. Gathers taken faults s t (row_told plan x)) (λ fault s t x. IsCut taken faults fault s t (row_told plan x)) a b one r
  told-added plan one a b (Ok done) x = x
  told-added plan one a b (Err fault) x = x

-- ---- one row after another

module _ {K : Type 0} (taken : K → Option (List ℕ)) (faults : K → ℕ) (plan : Plan) where
  abbrev tells : RowWriter × K → RowWriter × K → Told → Type 0
  tells a b one = Gathers taken faults a b (row_told plan one)

  abbrev stops : TellFault → RowWriter × K → RowWriter × K → Told → Type 0
  stops fault a b one = IsCut taken faults fault a b (row_told plan one)

  pub gathered-all : (a b : RowWriter × K) (told : List Told) → AreTold tells a b told → Gathers taken faults a b (rows_told plan told)
  gathered-all a b [] is =
      subst (λ s. Gathers taken faults a s []) (sym is)
      (record { moved = []; wrote = Appends-nil (taken a.1); is = append-nil a.0.gathered; few = λ few. few; later = omega arith })
  gathered-all a b (x ∷ xs) (now, first, more) =
      let rest = gathered-all now b xs more in
      record {
        moved = first.moved ++ rest.moved;
        wrote = Appends-trans _ _ _ _ _ first.wrote rest.wrote;
        is =
            sym (append_assoc a.0.gathered (row_told plan x) (rows_told plan xs))
            ∙ ap (λ l. l ++ rows_told plan xs) first.is
            ∙ append_assoc first.moved now.0.gathered (rows_told plan xs)
            ∙ ap (λ l. first.moved ++ l) rest.is
            ∙ sym (append_assoc first.moved rest.moved b.0.gathered);
        few = λ few. rest.few (first.few few);
        later = omega (arith, first.later, rest.later);
      }

  pub cut-among : (fault : TellFault) (a b : RowWriter × K) (all : List Told) → StopsAmong tells stops fault a b all
      → IsCut taken faults fault a b (rows_told plan all)
  cut-among fault a b all s =
      let before = gathered-all a s.at s.front s.told in
      let text : a.0.gathered ++ rows_told plan all ≡ before.moved ++ (s.at.0.gathered ++ rows_told plan s.back) =
      ap (λ l. a.0.gathered ++ rows_told plan l) s.is
      ∙ ap (λ l. a.0.gathered ++ l) (rows_told-append plan s.front s.back)
      ∙ sym (append_assoc a.0.gathered (rows_told plan s.front) (rows_told plan s.back))
      ∙ ap (λ l. l ++ rows_told plan s.back) before.is
      ∙ append_assoc before.moved s.at.0.gathered (rows_told plan s.back) in
      by_stop before text s.stopped
    where
      by_stop : (before : Gathers taken faults a s.at (rows_told plan s.front)) → a.0.gathered ++ rows_told plan all ≡ before.moved ++
          (s.at.0.gathered ++ rows_told plan s.back)
          → StopsBefore stops fault s.at b s.back → IsCut taken faults fault a b (rows_told plan all)
      by_stop before text (inl (short, same)) =
          subst (λ t. IsCut taken faults fault a t (rows_told plan all)) (sym same) (record {
            part = part-behind (taken a.1) (taken s.at.1) (taken s.at.1) before.moved (s.at.0.gathered ++ rows_told plan s.back)
                (a.0.gathered ++ rows_told plan all) before.wrote text
                (nothing-more (taken s.at.1) (s.at.0.gathered ++ rows_told plan s.back));
            later = before.later;
            cause = λ failed. absurd (no_memory-no_fault (sym short ∙ failed));
          })
      by_stop before text (inr (next, rest, is, cut)) =
          let behind : s.at.0.gathered ++ rows_told plan s.back ≡ (s.at.0.gathered ++ row_told plan next) ++ rows_told plan rest =
          ap (λ l. s.at.0.gathered ++ rows_told plan l) is ∙ sym (append_assoc s.at.0.gathered (row_told plan next) (rows_told plan rest)) in
          record {
            part = part-behind (taken a.1) (taken s.at.1) (taken b.1) before.moved ((s.at.0.gathered ++ row_told plan next) ++ rows_told plan rest)
                (a.0.gathered ++ rows_told plan all) before.wrote (text ∙ ap (λ l. before.moved ++ l) behind)
                (part-more (taken s.at.1) (taken b.1) (s.at.0.gathered ++ row_told plan next) (rows_told plan rest) cut.part);
            later = omega (arith, before.later, cut.later);
            cause = λ failed. rose-behind (faults a.1) (faults s.at.1) (faults b.1) before.later (cut.cause failed);
          }

  -- ---- from nothing gathered

  -- the rest was written, or a front of it
  pub written-whole : (a m : RowWriter × K) (after : Option (List ℕ)) (told : List Told) (text : List ℕ) (r : Result Unit TellFault)
      → AreTold tells a m told → a.0.gathered ≡ [] → rows_told plan told ≡ text
      → OnOk r (Appends (taken m.1) after m.0.gathered) → AppendsPart (taken m.1) after m.0.gathered → IsWritten text (taken a.1) after r
  written-whole a m after told text r are empty is whole part =
      by_result r whole
    where
      all : Gathers taken faults a m (rows_told plan told)
      all = gathered-all a m told are

      text_is : text ≡ all.moved ++ m.0.gathered
      text_is = sym is ∙ ap (λ l. l ++ rows_told plan told) (sym empty) ∙ all.is

      by_result : (q : Result Unit TellFault) → OnOk q (Appends (taken m.1) after m.0.gathered) → IsWritten text (taken a.1) after q
      by_result (Ok done) wrote = subst (Appends (taken a.1) after) (sym text_is) (Appends-trans _ _ _ _ _ all.wrote wrote)
      by_result (Err fault) wrote = part-behind (taken a.1) (taken m.1) after all.moved m.0.gathered text all.wrote text_is part

  -- telling stopped
  pub written-cut : (fault : TellFault) (a b : RowWriter × K) (told : List Told) (text : List ℕ) → StopsAmong tells stops fault a b told
      → a.0.gathered ≡ [] → rows_told plan told ≡ text → AppendsPart (taken a.1) (taken b.1) text
  written-cut fault a b told text cut empty is =
      subst (AppendsPart (taken a.1) (taken b.1)) (ap (λ l. l ++ rows_told plan told) empty ∙ is) (cut-among fault a b told cut).part

-- a record was handled, and its text written
pub caused : (lag : Option ℕ) (plan : Plan) (records : List LineRecord) (next : LineRecord) (now : Pipeline) (before after : Option (List ℕ))
    (r : Result Unit TellFault) → HasHandled lag plan (records ++ next ∷ []) now
    → IsWritten (caused_text lag plan records next) before after r → IsCaused lag plan records next now before after r
caused lag plan records next now before after (Ok done) passed wrote = (passed, wrote)
caused lag plan records next now before after (Err fault) passed wrote = wrote

-- the sizes were all shown, whatever became of the rest
pub shown-whole : {T E : Type 0} (before after : Option (List Held)) (sizes : List Held) (r : Result T E) → Grows before after sizes
    → IsShown before after sizes r
shown-whole before after sizes (Ok done) grows = grows
shown-whole before after sizes (Err fault) grows = GrowsPart-whole before after sizes grows

-- a front of them was
pub shown-part : {T E : Type 0} {e : E} (before after : Option (List Held)) (sizes : List Held) (r : Result T E) → r ≡ Err e
    → GrowsPart before after sizes → IsShown before after sizes r
shown-part before after sizes r is part = subst (IsShown before after sizes) (sym is) part
