-- The kept items of ticks, one tick after another.
use Rattle.std.proofs.Common.{◌≡◌, sym, ◌∙◌, ap, subst, refl, List, [], ◌∷◌, ◌++◌, length, drop, map, append_assoc, append-nil}
use Rattle.std.specs.Prelude.{ℤ, Result, Ok, Err}
use Rattle.std.proofs.Math.Seq.{drop-append_seam}
use Rattle.cep_plan.specs.declared.item.Item.{Item}
use Rattle.cep_plan.specs.declared.plan.Plan.{Plan}
use Rattle.cep_plan.specs.EventTime.{Arrival, marked, ticks_after, ticks_of_arrival}
use Rattle.cep_plan.specs.History.{history, items_at}
use Rattle.cep_plan.specs.Skipping.{kept, kept_after}
use Rattle.cep_plan.specs.Tick.{Tick, event_tick}
use Rattle.cep_event.specs.declared.event.Event.{Event}
use Rattle.cep_plan.proofs.HistoryLaws.{history-push, kept_after-append}
use Rattle.cep_plan.specs.Keys.{kept_at}
use Rattle.cep_engine.specs.State.{State, StandsFor}
use Rattle.event_pipeline.specs.declared.outputs.TellFault.{TellFault}
use Rattle.event_pipeline.specs.declared.outputs.TellFault.TheVariants.{NoMemory}
use Rattle.event_pipeline.specs.Told.{Told, item_told, kept_items, added_items}
use Rattle.event_pipeline.specs.Telling.{AreTold, StopsAmong, Tells}
use Rattle.event_pipeline.specs.Ticks.{kept_more, told_more, HasTaken, Takes}
use Rattle.event_pipeline.proofs.TellLaws.{items-append, told-then, cut-later, cut-more, cut-first}

kept_items-push : (plan : Plan) (ticks : List Tick) (tick : Tick) → kept_items plan (ticks ++ tick ∷ []) ≡ kept_items plan ticks ++ kept_at plan ticks tick
unfolding kept
kept_items-push plan ticks tick =
    ap (kept_after plan.skip []) (history-push plan ticks tick) ∙ kept_after-append plan.skip [] (history plan ticks) (items_at plan ticks tick)

pub kept_more-append : (plan : Plan) (before xs ys : List Tick) → kept_more plan before (xs ++ ys)
    ≡ kept_more plan before xs ++ kept_more plan (before ++ xs) ys
kept_more-append plan before [] ys = ap (λ l. kept_more plan l ys) (sym (append-nil before))
kept_more-append plan before (x ∷ xs) ys =
    ap (λ l. kept_at plan before x ++ l) (kept_more-append plan (before ++ x ∷ []) xs ys)
    ∙ ap (λ l. kept_at plan before x ++ (kept_more plan (before ++ x ∷ []) xs ++ kept_more plan l ys)) (append_assoc before (x ∷ []) xs)
    ∙ sym (append_assoc (kept_at plan before x) (kept_more plan (before ++ x ∷ []) xs) (kept_more plan (before ++ x ∷ xs) ys))

pub kept_items-append : (plan : Plan) (before more : List Tick) → kept_items plan (before ++ more) ≡ kept_items plan before ++ kept_more plan before more
kept_items-append plan before [] = ap (kept_items plan) (append-nil before) ∙ sym (append-nil (kept_items plan before))
kept_items-append plan before (x ∷ more) =
    ap (kept_items plan) (sym (append_assoc before (x ∷ []) more))
    ∙ kept_items-append plan (before ++ x ∷ []) more
    ∙ ap (λ l. l ++ kept_more plan (before ++ x ∷ []) more) (kept_items-push plan before x)
    ∙ append_assoc (kept_items plan before) (kept_at plan before x) (kept_more plan (before ++ x ∷ []) more)

-- the items that more ticks add are those of the ticks, one after another
pub added-more : (plan : Plan) (before more : List Tick) → added_items plan before (before ++ more) ≡ kept_more plan before more
added-more plan before more =
    ap (drop (length (kept_items plan before))) (kept_items-append plan before more)
    ∙ drop-append_seam (kept_items plan before) (kept_more plan before more)

pub ticks_after-one : (before : List Arrival) (time : ℤ) → ticks_after before (marked time ∷ []) ≡ ticks_of_arrival before (marked time)
ticks_after-one before time = append-nil (ticks_of_arrival before (marked time))

-- ---- what ticks make known

pub told_more-append : (plan : Plan) (before xs ys : List Tick) → told_more plan before (xs ++ ys)
    ≡ told_more plan before xs ++ told_more plan (before ++ xs) ys
told_more-append plan before xs ys = ap (map item_told) (kept_more-append plan before xs ys)
    ∙ items-append (kept_more plan before xs) (kept_more plan (before ++ xs) ys)

pub told_more-one : (plan : Plan) (before : List Tick) (tick : Tick) → told_more plan before (tick ∷ []) ≡ map item_told (kept_at plan before tick)
told_more-one plan before tick = ap (map item_told) (append-nil (kept_at plan before tick))

-- ---- ticks taken one after another

pub taken-nothing : {S : Type 0} (tells : S → S → Told → Type 0) (plan : Plan) (ticks : List Tick) (now : State) (a : S) → StandsFor ticks now
    → HasTaken tells plan ticks [] now a a
taken-nothing tells plan ticks now a stands = record { stands = subst (λ l. StandsFor l now) (sym (append-nil ticks)) stands; told = refl }

module _ {S : Type 0} (tells : S → S → Told → Type 0) (stops : TellFault → S → S → Told → Type 0) (plan : Plan) (before xs ys : List Tick) where
  pub takes-then : {T : Type 0} (mid now : State) (a m b : S) (r : Result T TellFault) → HasTaken tells plan before xs mid a m
      → Takes tells stops plan (before ++ xs) ys now m b r → Takes tells stops plan before (xs ++ ys) now a b r
  takes-then mid now a m b (Ok done) x y = record {
    stands = subst (λ l. StandsFor l now) (append_assoc before xs ys) y.stands;
    told = subst (AreTold tells a b) (sym (told_more-append plan before xs ys))
        (told-then tells a m b (told_more plan before xs) (told_more plan (before ++ xs) ys) x.told y.told);
  }
  takes-then mid now a m b (Err fault) x y =
      subst (StopsAmong tells stops fault a b) (sym (told_more-append plan before xs ys))
      (cut-later tells stops fault a m b (told_more plan before xs) (told_more plan (before ++ xs) ys) x.told y)

  pub takes-cut : (a b : S) (fault : TellFault) → StopsAmong tells stops fault a b (told_more plan before xs)
      → StopsAmong tells stops fault a b (told_more plan before (xs ++ ys))
  takes-cut a b fault x = subst (StopsAmong tells stops fault a b) (sym (told_more-append plan before xs ys))
      (cut-more tells stops fault a b (told_more plan before xs) (told_more plan (before ++ xs) ys) x)

-- ---- one tick

pub same-fault : {X : Type 0} (x y : TellFault) → ◌≡◌ {A = Result X TellFault} (Err x) (Err y) → x ≡ y
same-fault x y is = cc

-- its items were told, or telling stopped among them
pub takes-one : {S T : Type 0} (tells : Plan → S → S → Told → Type 0) (stops : Plan → TellFault → S → S → Told → Type 0) (shown plan : Plan)
    (ticks : List Tick) (tick : Tick) (now : State) (a b : S) (items : List Item) (r : Result T TellFault)
    → shown ≡ plan → StandsFor (ticks ++ tick ∷ []) now → items ≡ kept_at plan ticks tick → Tells (tells shown) (stops shown) a b (map item_told items) r
    → Takes (tells plan) (stops plan) plan ticks (tick ∷ []) now a b r
takes-one {T = T} tells stops shown plan ticks tick now a b items r same stands is told =
    whole r (subst (λ l. Tells (tells plan) (stops plan) a b l r) (ap (map item_told) is ∙ sym (told_more-one plan ticks tick))
    (subst (λ p. Tells (tells p) (stops p) a b (map item_told items) r) same told))
  where
    whole : (q : Result T TellFault) → Tells (tells plan) (stops plan) a b (told_more plan ticks (tick ∷ [])) q
        → Takes (tells plan) (stops plan) plan ticks (tick ∷ []) now a b q
    whole (Ok done) h = record { stands = stands; told = h }
    whole (Err fault) h = h

-- memory was wanted before it
pub takes-none : {S T : Type 0} (tells : S → S → Told → Type 0) (stops : TellFault → S → S → Told → Type 0) (plan : Plan) (ticks more : List Tick)
    (now : State) (a : S) (r : Result T TellFault) → r ≡ Err NoMemory → Takes tells stops plan ticks more now a a r
takes-none tells stops plan ticks more now a r is = subst (Takes tells stops plan ticks more now a a) (sym is)
    (cut-first tells stops a (told_more plan ticks more))

pub map-split : (handed rest : List Event) (event : Event) → map event_tick (handed ++ event ∷ rest) ≡
    (map event_tick handed ++ event_tick event ∷ []) ++ map event_tick rest
map-split [] rest event = refl
map-split (x ∷ handed) rest event = ap (λ l. event_tick x ∷ l) (map-split handed rest event)

module _ {S : Type 0} (tells : Plan → S → S → Told → Type 0) (stops : Plan → TellFault → S → S → Told → Type 0) (shown plan : Plan) (same : shown ≡ plan)
    (ticks : List Tick) where
  -- one tick more behind some
  pub takes-next : {T : Type 0} (xs ys : List Tick) (mid now : State) (a m b : S) (r : Result T TellFault) → HasTaken (tells plan) plan ticks xs mid a m
      → Takes (tells shown) (stops shown) shown (ticks ++ xs) ys now m b r
      → Takes (tells plan) (stops plan) plan ticks (xs ++ ys) now a b r
  takes-next xs ys mid now a m b r x y =
      takes-then (tells plan) (stops plan) plan ticks xs ys mid now a m b r x (subst (λ p. Takes (tells p) (stops p) p (ticks ++ xs) ys now m b r) same y)

  -- telling stopped at one of the events that were ready
  pub ready-cut : (handed rest whole : List Event) (event : Event) (mid now : State) (a m b : S) (fault : TellFault) → whole ≡ handed ++ event ∷ rest
      → HasTaken (tells plan) plan ticks (map event_tick handed) mid a m
      → StopsAmong (tells shown) (stops shown) fault m b (told_more shown (ticks ++ map event_tick handed) (event_tick event ∷ []))
      → StopsAmong (tells plan) (stops plan) fault a b (told_more plan ticks (map event_tick whole))
  ready-cut handed rest whole event mid now a m b fault is x y =
      subst (λ l. StopsAmong (tells plan) (stops plan) fault a b (told_more plan ticks l)) (sym (ap (map event_tick) is ∙ map-split handed rest event))
      (takes-cut (tells plan) (stops plan) plan ticks (map event_tick handed ++ event_tick event ∷ []) (map event_tick rest) a b fault
      (takes-next {T = Unit} (map event_tick handed) (event_tick event ∷ []) mid now a m b (Err fault) x y))

-- all events that were ready were taken
pub ready-all : {S : Type 0} (tells : S → S → Told → Type 0) (plan : Plan) (ticks : List Tick) (handed rest whole : List Event) (now : State) (a b : S)
    → whole ≡ handed ++ rest → rest ≡ [] → HasTaken tells plan ticks (map event_tick handed) now a b
    → HasTaken tells plan ticks (map event_tick whole) now a b
ready-all tells plan ticks handed rest whole now a b is none x =
    subst (λ l. HasTaken tells plan ticks (map event_tick l) now a b) (sym (is ∙ ap (λ l. handed ++ l) none ∙ append-nil handed)) x
