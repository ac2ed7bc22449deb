-- What a load run has counted, one record after another.
use Rattle.std.proofs.Common.{◌≡◌, refl, sym, ◌∙◌, ap, subst, ℕ, ◌+◌, ◌≤◌, ◌<◌, ◌-◌, ◌^◌, append-nil, append_assoc, map, Bool, false, not, ◌&&◌, List, [], ◌∷◌, ◌++◌, length, length-append, Option, None, arith}
use Rattle.std.specs.Prelude.{Result, Ok, Err, max}
use Rattle.std.specs.List.{count_by, list_any}
use Rattle.std.specs.Option.{option_to_list}
use Rattle.std.specs.Str.{bytes_eq}
use Rattle.std.proofs.lemmas.List.Sums.{sum_by-append}
use Rattle.cep_event.specs.declared.event.EventType.{EventType}
use Rattle.cep_event.specs.declared.record.LineRecord.{LineRecord}
use Rattle.cep_event.specs.declared.record.LineRecord.TheVariants.{Blank, Mark, Row}
use Rattle.cep_load.specs.Named.{AreNamed, are_distinct}
use Rattle.cep_plan.specs.declared.item.Item.{Item}
use Rattle.cep_plan.specs.declared.item.Item.TheVariants.{Match, Timeout}
use Rattle.cep_plan.specs.declared.plan.Plan.{Plan}
use Rattle.cep_plan.specs.EventTime.{arrived, marked, arrivals_of, marks_behind, ticks_after, ticks_of_arrival, ticks_of, ticks_of_end, all_ticks}
use Rattle.cep_plan.specs.History.{history}
use Rattle.cep_plan.specs.Skipping.{kept}
use Rattle.cep_plan.specs.Tick.{Tick}
use Rattle.event_pipeline.specs.declared.pipeline.Pipeline.{Pipeline}
use Rattle.event_pipeline.specs.Handled.{HasHandled}
use Rattle.event_pipeline.specs.Telling.{AreTold}
use Rattle.event_pipeline.specs.Told.{Told, late_told, item_told, late_in, kept_items, added_items, told_of, told_at_end}
use Rattle.event_pipeline.proofs.TickLaws.{added-more, kept_items-append}
use Rattle.event_pipeline.specs.Shown.{sizes_added}
use Rattle.event_pipeline.proofs.ShownLaws.{greatest_held-append}
use Rattle.cep_session.specs.Meaning.{Flow, sofar, sofar_from, whole}
use Rattle.cep_session.proofs.Laws.{sofar-push, sofar_from-append}
use Rattle.shared_buffer.specs.declared.buffer.Held.{Held}
use Rattle.sharing_laws.specs.Sizes.{greatest_held}
use Rattle.told_list.specs.Grows.{Grows, GrowsPart}
use Rattle.told_list.proofs.GrowsLaws.{Grows-trans, GrowsPart-nil, GrowsPart-whole, GrowsPart-more, GrowsPart-later}
use Rattle.pattern_check.specs.Names.{are_distinct as differ}
use Rattle.pattern_file.specs.Usable.{IsUsable}
use Rattle.watermark_order.specs.Order.{event_times}
use Rattle.watermark_order.proofs.RecordLaws.{ticks_of-nothing, ticks_of-blank, ticks_of-mark, ticks_of-row}
use Rattle.cep_cli.specs.declared.load.Counts.{Counts}
use Rattle.cep_cli.specs.Counted.{HasCounted, ShowsMost, counted_more, counted_all, counts_before_end}
use Rattle.cep_cli.specs.Load.{counts_of, is_match, is_timeout, late_rows, whole_counts}
use Rattle.cep_cli.specs.Meaning.{sizes_of_lines}
use Rattle.cep_cli.specs.Records.{record_in, record_or_blank, records_of}
use Rattle.cep_cli.proofs.BegunLaws.{records-push}

-- ---- counts of what is told

pub told-counted : {C : Type 0} (a b : C × Counts) (told : List Told) → AreTold (λ (s t : C × Counts) one. t.1 ≡ counted_more s.1 one) a b told
    → b.1 ≡ counted_all a.1 told
told-counted a b [] is = ap (λ s. s.1) is
told-counted a b (x ∷ xs) (now, first, more) = told-counted now b xs more ∙ ap (λ c. counted_all c xs) first

counted_all-append : (c : Counts) (xs ys : List Told) → counted_all c (xs ++ ys) ≡ counted_all (counted_all c xs) ys
counted_all-append c [] ys = refl
counted_all-append c (x ∷ xs) ys = counted_all-append (counted_more c x) xs ys

count-append : (p : Item → Bool) (xs ys : List Item) → count_by p (xs ++ ys) ≡ count_by p xs + count_by p ys
count-append p xs ys = sum_by-append _ xs ys

counted-late : (rows more : List ℕ) (items : List Item) → counted_all (counts_of rows items) (map late_told more) ≡ counts_of (rows ++ more) items
counted-late rows [] items = ap (λ l. counts_of l items) (sym (append-nil rows))
counted-late rows (row ∷ more) items =
    ap (λ (n : ℕ). counted_all (record { late = n; matches = count_by is_match items; timeouts = count_by is_timeout items }) (map late_told more))
    (sym (length-append rows (row ∷ [])))
    ∙ counted-late (rows ++ row ∷ []) more items
    ∙ ap (λ l. counts_of l items) (append_assoc rows (row ∷ []) more)

as_many : (n : ℕ) → n ≡ n + 0
as_many n = omega arith

counted-items : (rows : List ℕ) (items more : List Item) → counted_all (counts_of rows items) (map item_told more) ≡ counts_of rows (items ++ more)
counted-items rows items [] = ap (counts_of rows) (sym (append-nil items))
counted-items rows items (item ∷ more) =
    ap (λ c. counted_all c (map item_told more)) (one item)
    ∙ counted-items rows (items ++ item ∷ []) more
    ∙ ap (counts_of rows) (append_assoc items (item ∷ []) more)
  where
    one : (x : Item) → counted_more (counts_of rows items) (item_told x) ≡ counts_of rows (items ++ x ∷ [])
    one (Match list) = λ i. record {
      late = length rows;
      matches = sym (count-append is_match items (Match list ∷ [])) i;
      timeouts = (as_many (count_by is_timeout items) ∙ sym (count-append is_timeout items (Match list ∷ []))) i;
    }
    one (Timeout list) = λ i. record {
      late = length rows;
      matches = (as_many (count_by is_match items) ∙ sym (count-append is_match items (Timeout list ∷ []))) i;
      timeouts = sym (count-append is_timeout items (Timeout list ∷ [])) i;
    }

late_rows-push : (lag : Option ℕ) (before records : List LineRecord) (next : LineRecord)
    → late_rows lag before (records ++ next ∷ []) ≡ late_rows lag before records ++ option_to_list (late_in lag (before ++ records) next)
late_rows-push lag before [] next =
    append-nil (option_to_list (late_in lag before next)) ∙ ap (λ l. option_to_list (late_in lag l next)) (sym (append-nil before))
late_rows-push lag before (x ∷ records) next =
    let first = option_to_list (late_in lag before x) in
    let later = late_rows lag (before ++ x ∷ []) records in
    ap (λ l. first ++ l) (late_rows-push lag (before ++ x ∷ []) records next)
    ∙ ap (λ l. first ++ (later ++ option_to_list (late_in lag l next))) (append_assoc before (x ∷ []) records)
    ∙ sym (append_assoc first later (option_to_list (late_in lag (before ++ x ∷ records) next)))

-- ---- items of more ticks

kept-behind : (plan : Plan) (ticks all more : List Tick) → all ≡ ticks ++ more → kept_items plan all ≡ kept_items plan ticks ++ added_items plan ticks all
kept-behind plan ticks all more is =
    ap (kept_items plan) is
    ∙ kept_items-append plan ticks more
    ∙ ap (λ l. kept_items plan ticks ++ l) (sym (added-more plan ticks more) ∙ ap (added_items plan ticks) (sym is))

kept-next : (plan : Plan) (lag : Option ℕ) (records : List LineRecord) (next : LineRecord)
    → kept_items plan (ticks_of lag (records ++ next ∷ [])) ≡ kept_items plan (ticks_of lag records) ++ added_items plan (ticks_of lag records)
    (ticks_of lag (records ++ next ∷ []))
kept-next plan lag records Blank =
    kept-behind plan (ticks_of lag records) (ticks_of lag (records ++ Blank ∷ [])) [] (ticks_of-blank lag records ∙ sym (append-nil (ticks_of lag records)))
kept-next plan lag records (Mark time) = kept-behind plan (ticks_of lag records) (ticks_of lag (records ++ Mark time ∷ []))
    (ticks_of_arrival (arrivals_of lag records) (marked time)) (ticks_of-mark lag records time)
kept-next plan lag records (Row event) =
    kept-behind plan (ticks_of lag records) (ticks_of lag (records ++ Row event ∷ []))
    (ticks_after (arrivals_of lag records ++ arrived event ∷ []) (marks_behind lag (event_times (arrivals_of lag records)) event.ts))
    (ticks_of-row lag records event)

-- ---- one line more, and the end

counts-next : (lag : Option ℕ) (plan : Plan) (records : List LineRecord) (next : LineRecord)
    → counted_all (counts_before_end lag plan records) (told_of lag plan records next) ≡ counts_before_end lag plan (records ++ next ∷ [])
counts-next lag plan records next =
    let rows = late_rows lag [] records in
    let late = option_to_list (late_in lag records next) in
    let items = kept_items plan (ticks_of lag records) in
    let more = added_items plan (ticks_of lag records) (ticks_of lag (records ++ next ∷ [])) in
    counted_all-append (counts_of rows items) (map late_told late) (map item_told more)
    ∙ ap (λ c. counted_all c (map item_told more)) (counted-late rows late items)
    ∙ counted-items (rows ++ late) items more
    ∙ (λ i. counts_of (sym (late_rows-push lag [] records next) i) (sym (kept-next plan lag records next) i))

counts-whole : (lag : Option ℕ) (plan : Plan) (records : List LineRecord) → counted_all (counts_before_end lag plan records)
    (told_at_end lag plan records) ≡ whole_counts lag plan records
counts-whole lag plan records =
    counted-items (late_rows lag [] records) (kept_items plan (ticks_of lag records)) (added_items plan (ticks_of lag records) (all_ticks lag records))
    ∙ ap (counts_of (late_rows lag [] records)) (sym (kept-behind plan (ticks_of lag records) (all_ticks lag records) (ticks_of_end lag records) refl))

pub counted-line : (lag : Option ℕ) (plan : Plan) (p q : Pipeline) (c d : Counts) (lines : List (List ℕ)) (line : List ℕ) (next : LineRecord)
    → HasCounted lag plan p c lines
    → record_in false plan.types (length lines + 1) line ≡ Ok next → HasHandled lag plan (records_of false plan.types lines ++ next ∷ []) q
    → d ≡ counted_all c (told_of lag plan (records_of false plan.types lines) next) → HasCounted lag plan q d (lines ++ line ∷ [])
counted-line lag plan p q c d lines line next h read passed told =
    let records = records_of false plan.types lines in
    let all = records-push false plan.types lines line next read in
    record {
      passed = subst (λ r. HasHandled lag plan r q) (sym all) passed;
      counted = told ∙ ap (λ k. counted_all k (told_of lag plan records next)) h.counted ∙ counts-next lag plan records next
          ∙ ap (counts_before_end lag plan) (sym all);
    }

nothing-kept : (plan : Plan) → kept_items plan [] ≡ []
unfolding kept history
nothing-kept plan = refl

pub counted-nothing : (lag : Option ℕ) (plan : Plan) (p : Pipeline) (c : Counts) → c ≡ counts_of [] [] → HasHandled lag plan [] p → HasCounted lag plan p c []
counted-nothing lag plan p c is passed = record {
  passed = passed;
  counted = is ∙ ap (counts_of []) (sym (nothing-kept plan) ∙ ap (kept_items plan) (sym (ticks_of-nothing lag)));
}

pub counted-end : (lag : Option ℕ) (plan : Plan) (p : Pipeline) (c d : Counts) (lines : List (List ℕ)) → HasCounted lag plan p c lines
    → d ≡ counted_all c (told_at_end lag plan (records_of false plan.types lines)) → d ≡ whole_counts lag plan (records_of false plan.types lines)
counted-end lag plan p c d lines h told =
    told ∙ ap (λ k. counted_all k (told_at_end lag plan (records_of false plan.types lines))) h.counted
    ∙ counts-whole lag plan (records_of false plan.types lines)

-- ---- the types of a usable plan

same_test : (names : List (List ℕ)) → are_distinct names ≡ differ names
same_test [] = refl
same_test (name ∷ names) = ap (λ b. not (list_any (bytes_eq name) names) && b) (same_test names)

pub named_types : (plan : Plan) → IsUsable plan → AreNamed plan.types
named_types plan u = record { words = u.words; distinct = same_test (map (λ (t : EventType). t.name) plan.types) ∙ u.named.types }

-- ---- what the gauge of a load is shown

module _ (lag : Option ℕ) (plan : Plan) (lines : List (List ℕ)) (line : List ℕ) (next : LineRecord)
    (read : record_in false plan.types (length lines + 1) line ≡ Ok next) where
  -- a fact of the sizes that a line's record adds is one of those that the line adds
  pub line-sizes : (P : List Held → Type 0) → P (sizes_added lag plan (records_of false plan.types lines) next)
      → P ((sizes_of_lines false lag plan).caused lines line)
  line-sizes P holds = subst (λ r. P (sizes_added lag plan (records_of false plan.types lines) r)) (sym (ap record_or_blank read)) holds

-- nothing was shown
pub none-shown : {E : Type 0} {e : E} (at : Option (List Held)) (sizes : List Held) (r : Result ℕ E) → r ≡ Err e → ShowsMost at at sizes r
none-shown at sizes r is = subst (ShowsMost at at sizes) (sym is) (GrowsPart-nil at sizes)

module _ (flow : Flow Held) (lines : List (List ℕ)) (line : List ℕ) (a m b : Option (List Held)) where
  -- one line more
  pub sizes-next : (greatest held most : ℕ) → Grows a m (sofar flow lines) × (greatest ≡ greatest_held (sofar flow lines))
      → Grows m b (flow.caused lines line) × (held ≡ greatest_held (flow.caused lines line))
      → most ≡ max greatest held → Grows a b (sofar flow (lines ++ line ∷ [])) × (most ≡ greatest_held (sofar flow (lines ++ line ∷ [])))
  sizes-next greatest held most first second is =
      subst (λ l. Grows a b l × (most ≡ greatest_held l)) (sym (sofar-push flow lines line)) (
        Grows-trans a m b (sofar flow lines) (flow.caused lines line) first.0 second.0,
        omega
            (arith, is, first.1, second.1, greatest_held-append (sofar flow lines) (flow.caused lines line)),
      )

  -- a front of what the next line adds, before others
  pub sizes-part : (others : List (List ℕ)) → Grows a m (sofar flow lines) → GrowsPart m b (flow.caused lines line)
      → GrowsPart a b (sofar flow (lines ++ line ∷ others))
  sizes-part others first part =
      subst (GrowsPart a b) (sym (sofar_from-append flow [] lines (line ∷ others)))
      (subst (GrowsPart a b) (append_assoc (sofar flow lines) (flow.caused lines line) (sofar_from flow (lines ++ line ∷ []) others))
      (GrowsPart-more a b (sofar flow lines ++ flow.caused lines line) (sofar_from flow (lines ++ line ∷ []) others)
      (GrowsPart-later a m b (sofar flow lines) (flow.caused lines line) first part)))

module _ (flow : Flow Held) (lines : List (List ℕ)) (a m : Option (List Held)) where
  -- no other line was handled
  pub sizes-stopped : (others : List (List ℕ)) → Grows a m (sofar flow lines) → GrowsPart a m (sofar flow (lines ++ others))
  sizes-stopped others first =
      subst (GrowsPart a m) (sym (sofar_from-append flow [] lines others))
      (GrowsPart-more a m (sofar flow lines) (sofar_from flow lines others) (GrowsPart-whole a m (sofar flow lines) first))

  -- the end, with those of all lines before
  pub sizes-end : (b : Option (List Held)) (greatest held most : ℕ) → Grows a m (sofar flow lines) × (greatest ≡ greatest_held (sofar flow lines))
      → Grows m b (flow.owed lines) × (held ≡ greatest_held (flow.owed lines))
      → most ≡ max greatest held → Grows a b (whole flow lines) × (most ≡ greatest_held (whole flow lines))
  sizes-end b greatest held most first second is = (
    Grows-trans a m b (sofar flow lines) (flow.owed lines) first.0 second.0,
    omega (
      arith,
      is,
      first.1,
      second.1,
      greatest_held-append
          (sofar flow lines) (flow.owed lines),
    ),
  )
