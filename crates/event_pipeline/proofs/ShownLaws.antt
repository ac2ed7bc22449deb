-- The sizes that a gauge is shown, one tick after another, and the greatest of them.
use Rattle.std.proofs.Common.{◌≡◌, refl, sym, ◌∙◌, ap, subst, ℕ, max, List, [], ◌∷◌, ◌++◌, length, drop, arith, append-nil}
use Rattle.std.specs.Prelude.{Option, Result, Ok, Err}
use Rattle.std.proofs.Math.Seq.{drop-append_seam}
use Rattle.cep_event.specs.declared.record.LineRecord.{LineRecord}
use Rattle.cep_event.specs.declared.record.LineRecord.TheVariants.{Blank, Mark, Row}
use Rattle.cep_plan.specs.declared.plan.Plan.{Plan}
use Rattle.cep_plan.specs.EventTime.{ticks_of}
use Rattle.cep_plan.specs.Tick.{Tick}
use Rattle.shared_buffer.specs.declared.buffer.Held.{Held}
use Rattle.sharing_laws.specs.Sizes.{sizes_from, sizes_of, greatest_held}
use Rattle.sharing_laws.proofs.SizesLaws.{sizes_from-append, sizes_from-length}
use Rattle.told_list.specs.Grows.{Grows, GrowsPart}
use Rattle.told_list.proofs.GrowsLaws.{Grows-nil, Grows-trans, GrowsPart-same, GrowsPart-whole, GrowsPart-more, GrowsPart-later}
use Rattle.watermark_order.proofs.RecordLaws.{ticks_of-blank, ticks_of-mark, ticks_of-row}
use Rattle.event_pipeline.specs.declared.outputs.TellFault.{TellFault}
use Rattle.event_pipeline.specs.Shown.{Shows, sizes_added}

-- the greatest of sizes that come in two parts
pub greatest_held-append : (xs ys : List Held) → greatest_held (xs ++ ys) ≡ max (greatest_held xs) (greatest_held ys)
greatest_held-append [] ys = omega arith
greatest_held-append (x ∷ xs) ys = omega (arith, greatest_held-append xs ys)

-- ---- one after another

pub shows-nothing : (a : Option (List Held)) → Shows a a [] (Ok 0)
shows-nothing a = (Grows-nil a, refl)

-- what is held was shown
pub shows-one : (a b : Option (List Held)) (one other held : Held) → Grows a b (one ∷ []) → held ≡ one → held ≡ other → Shows a b (other ∷ []) (Ok held.events)
shows-one a b one other held grows is same =
    let greatest : held.events ≡ max other.events 0 = omega (arith, ap (λ (h : Held). h.events) same) in
    (subst (λ (h : Held). Grows a b (h ∷ [])) (sym is ∙ same) grows, greatest)

-- nothing was shown
pub shows-none : (a b : Option (List Held)) (sizes : List Held) (fault : TellFault) (r : Result ℕ TellFault) → b ≡ a → r ≡ Err fault → Shows a b sizes r
shows-none a b sizes fault r same is = subst (Shows a b sizes) (sym is) (GrowsPart-same a b sizes same)

-- all of them were, and then something failed
pub shows-whole : (a b : Option (List Held)) (sizes : List Held) (fault : TellFault) (r : Result ℕ TellFault) → Grows a b sizes → r ≡ Err fault
    → Shows a b sizes r
shows-whole a b sizes fault r grows is = subst (Shows a b sizes) (sym is) (GrowsPart-whole a b sizes grows)

-- the answer is that of the part that failed
pub shows-err : (a b : Option (List Held)) (sizes : List Held) (first fault : TellFault) (r : Result ℕ TellFault) → Shows a b sizes (Err first) → r ≡ Err fault
    → Shows a b sizes r
shows-err a b sizes first fault r shown is = subst (Shows a b sizes) (sym is) shown

module _ (shown plan : Plan) (same : shown ≡ plan) (ticks xs ys : List Tick) (a m b : Option (List Held)) where
  -- more ticks behind some
  pub shows-then : (p q n : ℕ) → n ≡ max p q → Shows a m (sizes_from plan ticks xs) (Ok p) → Shows m b (sizes_from shown (ticks ++ xs) ys) (Ok q)
      → Shows a b (sizes_from plan ticks (xs ++ ys)) (Ok n)
  shows-then p q n is first second =
      let later = subst (λ l. Shows m b (sizes_from l (ticks ++ xs) ys) (Ok q)) same second in
      let first_sizes = sizes_from plan ticks xs in
      let later_sizes = sizes_from plan (ticks ++ xs) ys in
      subst (λ l. Shows a b l (Ok n)) (sym (sizes_from-append plan ticks xs ys))
      (Grows-trans a m b first_sizes later_sizes first.0 later.0, omega (arith, is, first.1, later.1, greatest_held-append first_sizes later_sizes))

  -- not all of them
  pub shows-part : (p : ℕ) (first fault : TellFault) (r : Result ℕ TellFault) → Shows a m (sizes_from plan ticks xs) (Ok p)
      → Shows m b (sizes_from shown (ticks ++ xs) ys) (Err first)
      → r ≡ Err fault → Shows a b (sizes_from plan ticks (xs ++ ys)) r
  shows-part p first fault r before part is =
      let later = subst (λ l. GrowsPart m b (sizes_from l (ticks ++ xs) ys)) same part in
      subst (Shows a b (sizes_from plan ticks (xs ++ ys))) (sym is)
      (subst (GrowsPart a b) (sym (sizes_from-append plan ticks xs ys))
      (GrowsPart-later a m b (sizes_from plan ticks xs) (sizes_from plan (ticks ++ xs) ys) before.0 later))

-- more ticks would have come
pub shows-more : (plan : Plan) (ticks xs ys : List Tick) (a b : Option (List Held)) (first fault : TellFault) (r : Result ℕ TellFault)
    → Shows a b (sizes_from plan ticks xs) (Err first) → r ≡ Err fault → Shows a b (sizes_from plan ticks (xs ++ ys)) r
shows-more plan ticks xs ys a b first fault r part is =
    subst (Shows a b (sizes_from plan ticks (xs ++ ys))) (sym is)
    (subst (GrowsPart a b) (sym (sizes_from-append plan ticks xs ys)) (GrowsPart-more a b (sizes_from plan ticks xs) (sizes_from plan (ticks ++ xs) ys) part))

-- ---- the sizes that a record adds

-- they are those after the ticks that it adds
pub sizes_added-is : (lag : Option ℕ) (plan : Plan) (records : List LineRecord) (next : LineRecord) (more : List Tick)
    → ticks_of lag (records ++ next ∷ []) ≡ ticks_of lag records ++ more → sizes_from plan (ticks_of lag records) more ≡ sizes_added lag plan records next
sizes_added-is lag plan records next more is =
    let ticks = ticks_of lag records in
    sym (ap (λ l. drop (length ticks) (sizes_of plan l)) is
    ∙ ap (drop (length ticks)) (sizes_from-append plan [] ticks more)
    ∙ ap (λ n. drop n (sizes_of plan ticks ++ sizes_from plan ticks more)) (sym (sizes_from-length plan [] ticks))
    ∙ drop-append_seam (sizes_of plan ticks) (sizes_from plan ticks more))

-- the ticks that a record adds
added_ticks : (lag : Option ℕ) (records : List LineRecord) (next : LineRecord)
    → (more : List Tick) × (ticks_of lag (records ++ next ∷ []) ≡ ticks_of lag records ++ more)
added_ticks lag records Blank = ([], ticks_of-blank lag records ∙ sym (append-nil (ticks_of lag records)))
added_ticks lag records (Mark time) = (_, ticks_of-mark lag records time)
added_ticks lag records (Row event) = (_, ticks_of-row lag records event)

-- the sizes after the ticks of records are those of the records before, and then those that the last one adds
pub sizes_of-push : (lag : Option ℕ) (plan : Plan) (records : List LineRecord) (next : LineRecord)
    → sizes_of plan (ticks_of lag (records ++ next ∷ [])) ≡ sizes_of plan (ticks_of lag records) ++ sizes_added lag plan records next
sizes_of-push lag plan records next =
    let more = added_ticks lag records next in
    ap (sizes_of plan) more.1
    ∙ sizes_from-append plan [] (ticks_of lag records) more.0
    ∙ ap (λ l. sizes_of plan (ticks_of lag records) ++ l) (sizes_added-is lag plan records next more.0 more.1)
