-- One thing told after another, and where telling stops.
use Rattle.std.proofs.Common.{◌≡◌, refl, sym, ◌∙◌, ap, subst, inl, inr, ℕ, ◌+◌, ◌<◌, List, [], ◌∷◌, ◌++◌, length, map, take, drop, get_or, append_assoc}
use Rattle.std.specs.Prelude.{Result, Ok, Err, if◌then◌else◌, Bool, true, false, Some, None}
use Rattle.std.specs.Option.{option_to_list}
use Rattle.std.proofs.lemmas.List.{take_more, drop_more, take-append-drop}
use Rattle.cep_event.specs.declared.event.Event.{Event}
use Rattle.cep_plan.specs.declared.item.Item.{Item}
use Rattle.cep_plan.specs.EventTime.{Arrival, is_late}
use Rattle.watermark_order.specs.declared.order.Arrived.TheVariants.{Kept, Late}
use Rattle.event_pipeline.specs.declared.outputs.TellFault.{TellFault}
use Rattle.event_pipeline.specs.declared.outputs.TellFault.TheVariants.{NoMemory}
use Rattle.event_pipeline.specs.Told.{Told, late_told, item_told}
use Rattle.event_pipeline.specs.Ticks.{told_late}
use Rattle.event_pipeline.specs.Telling.{IsTold, AreTold, StopsBefore, StopsAmong, Tells}

pub told-then : {S : Type 0} (tells : S → S → Told → Type 0) (a m b : S) (xs ys : List Told) → AreTold tells a m xs → AreTold tells m b ys
    → AreTold tells a b (xs ++ ys)
told-then tells a m b [] ys is more = subst (λ s. AreTold tells s b ys) is more
told-then tells a m b (x ∷ xs) ys (now, first, rest) more = (now, first, told-then tells now m b xs ys rest more)

pub told-one : {S : Type 0} (tells : S → S → Told → Type 0) (a b : S) (one : Told) → tells a b one → AreTold tells a b (one ∷ [])
told-one tells a b one told = (b, told, refl)

before-more : {S : Type 0} (stops : TellFault → S → S → Told → Type 0) (fault : TellFault) (a b : S) (back ys : List Told)
    → StopsBefore stops fault a b back → StopsBefore stops fault a b (back ++ ys)
before-more stops fault a b back ys (inl short) = inl short
before-more stops fault a b back ys (inr (next, rest, is, stopped)) = inr (next, rest ++ ys, ap (λ l. l ++ ys) is, stopped)

module _ {S : Type 0} (tells : S → S → Told → Type 0) (stops : TellFault → S → S → Told → Type 0) where
  -- it stops among later ones
  pub cut-later : (fault : TellFault) (a m b : S) (xs ys : List Told) → AreTold tells a m xs → StopsAmong tells stops fault m b ys
      → StopsAmong tells stops fault a b (xs ++ ys)
  cut-later fault a m b xs ys told s =
      record {
        front = xs ++ s.front;
        back = s.back;
        is = ap (λ l. xs ++ l) s.is ∙ sym (append_assoc xs s.front s.back);
        at = s.at;
        told = told-then tells a m s.at xs s.front told s.told;
        stopped = s.stopped;
      }

  -- more would have come
  pub cut-more : (fault : TellFault) (a b : S) (xs ys : List Told) → StopsAmong tells stops fault a b xs → StopsAmong tells stops fault a b (xs ++ ys)
  cut-more fault a b xs ys s =
      record {
        front = s.front;
        back = s.back ++ ys;
        is = ap (λ l. l ++ ys) s.is ∙ append_assoc s.front s.back ys;
        at = s.at;
        told = s.told;
        stopped = before-more stops fault s.at b s.back ys s.stopped;
      }

  -- memory was wanted before the first
  pub cut-first : (a : S) (all : List Told) → StopsAmong tells stops NoMemory a a all
  cut-first a all = record { front = []; back = all; is = refl; at = a; told = refl; stopped = inl (refl, refl) }

  -- it stops at one of them
  pub cut-at : (fault : TellFault) (a m b : S) (xs rest : List Told) (next : Told) → AreTold tells a m xs → stops fault m b next
      → StopsAmong tells stops fault a b (xs ++ next ∷ rest)
  cut-at fault a m b xs rest next told stopped =
      record { front = xs; back = next ∷ rest; is = refl; at = m; told = told; stopped = inr (next, rest, refl, stopped) }

  -- they were told some, and then more or not all of them
  pub tells-then : (a m b : S) (xs ys : List Told) (r : Result Unit TellFault) → AreTold tells a m xs → Tells tells stops m b ys r
      → Tells tells stops a b (xs ++ ys) r
  tells-then a m b xs ys (Ok done) told more = told-then tells a m b xs ys told more
  tells-then a m b xs ys (Err fault) told more = cut-later fault a m b xs ys told more

  -- they stopped, whatever would have been answered
  pub tells-err : {T : Type 0} (a b : S) (all : List Told) (fault : TellFault) (r : Result T TellFault) → StopsAmong tells stops fault a b all → r ≡ Err fault
      → Tells tells stops a b all r
  tells-err a b all fault r stopped is = subst (Tells tells stops a b all) (sym is) stopped

  -- memory was wanted before all of them
  pub told-none : {T : Type 0} (a : S) (all : List Told) (r : Result T TellFault) → r ≡ Err NoMemory → Tells tells stops a a all r
  told-none a all r is = tells-err a a all NoMemory r (cut-first a all) is

-- ---- items told one after another

pub items-append : (xs ys : List Item) → map item_told (xs ++ ys) ≡ map item_told xs ++ map item_told ys
items-append [] ys = refl
items-append (x ∷ xs) ys = ap (λ l. item_told x ∷ l) (items-append xs ys)

module _ {S : Type 0} (tells : S → S → Told → Type 0) (a m b : S) (items : List Item) (i : ℕ) (x : Item) (within : i < length items)
    (is : x ≡ get_or items i x) (so_far : AreTold tells a m (map item_told (take i items))) where
  -- one item more was told
  pub items-told : tells m b (item_told x) → AreTold tells a b (map item_told (take (i + 1) items))
  items-told told =
      subst (λ l. AreTold tells a b (map item_told l)) (ap (λ y. take i items ++ y ∷ []) is ∙ sym (take_more items i x within))
      (subst (AreTold tells a b) (sym (items-append (take i items) (x ∷ [])))
      (told-then tells a m b (map item_told (take i items)) (item_told x ∷ []) so_far (told-one tells m b (item_told x) told)))

  -- it stopped at the next item
  pub items-cut : (stops : TellFault → S → S → Told → Type 0) (fault : TellFault) → stops fault m b (item_told x)
      → StopsAmong tells stops fault a b (map item_told items)
  items-cut stops fault stopped =
      let whole : items ≡ take i items ++ x ∷ drop (i + 1) items =
      sym (take-append-drop i items) ∙ ap (λ l. take i items ++ l) (drop_more items i x within ∙ ap (λ y. y ∷ drop (i + 1) items) (sym is)) in
      subst (StopsAmong tells stops fault a b) (sym (ap (map item_told) whole ∙ items-append (take i items) (x ∷ drop (i + 1) items)))
      (cut-at tells stops fault a m b (map item_told (take i items)) (map item_told (drop (i + 1) items)) (item_told x) so_far stopped)

-- ---- a late event

module _ {S : Type 0} (tells : S → S → Told → Type 0) (stops : TellFault → S → S → Told → Type 0) (arrivals : List Arrival) (event : Event) where
  by_lateness : (late : Bool) (row : ℕ) (a b : S) (r : Result Unit TellFault) → Late row ≡ (if late then Late event.row else Kept)
      → IsTold tells stops a b (late_told row) r
      → Tells tells stops a b (map late_told (option_to_list (if late then Some event.row else None))) r
  by_lateness true row a b r is told = whole r (subst (λ n. IsTold tells stops a b (late_told n) r) (same is) told)
    where
      same : Late row ≡ Late event.row → row ≡ event.row
      same h = cc

      whole : (q : Result Unit TellFault) → IsTold tells stops a b (late_told event.row) q → Tells tells stops a b (late_told event.row ∷ []) q
      whole (Ok done) h = told-one tells a b (late_told event.row) h
      whole (Err fault) h = cut-at tells stops fault a a b [] [] (late_told event.row) refl h
  by_lateness false row a b r is told = cc

  -- a late event is told
  pub late-told : (row : ℕ) (a b : S) (r : Result Unit TellFault) → Late row ≡ (if is_late arrivals event then Late event.row else Kept)
      → IsTold tells stops a b (late_told row) r
      → Tells tells stops a b (told_late arrivals event) r
  late-told row a b r is told = by_lateness (is_late arrivals event) row a b r is told

-- and no other
pub not-late : {S : Type 0} (tells : S → S → Told → Type 0) (arrivals : List Arrival) (event : Event) (a : S)
    → Kept ≡ (if is_late arrivals event then Late event.row else Kept) → AreTold tells a a (told_late arrivals event)
not-late tells arrivals event a is = by_lateness (is_late arrivals event) is where
  by_lateness : (late : Bool) → Kept ≡ (if late then Late event.row else Kept)
      → AreTold tells a a (map late_told (option_to_list (if late then Some event.row else None)))
  by_lateness true is = cc
  by_lateness false is = refl
