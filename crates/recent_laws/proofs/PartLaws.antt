-- The recent ticks of a key: the early ones are left out, but for some marks, and the later ones stay.
use Rattle.std.proofs.Common.{◌≡◌, refl, sym, ◌∙◌, ap, subst, ℕ, ◌+◌, ◌-◌, ◌≤◌, ◌<◌, Bool, true, false, cond, List, [], ◌∷◌, ◌++◌, length, arith}
use Rattle.std.specs.Prelude.{⊤, nat_le, if◌then◌else◌, Option, Some, None}
use Rattle.std.specs.Option.{option_map_or}
use Rattle.std.proofs.lemmas.Bool.{leb-true, leb-false, le-leb}
use Rattle.cep_event.specs.declared.event.Event.{Event}
use Rattle.cep_event.specs.declared.record.Moment.{Moment}
use Rattle.cep_event.specs.declared.value.Value.{Value}
use Rattle.cep_plan.specs.declared.plan.Plan.{Plan}
use Rattle.cep_plan.specs.Tick.{Tick, event_tick, mark_tick, events_of}
use Rattle.cep_plan.specs.Keys.{key_of, same_key, ticks_of_key}
use Rattle.recent_laws.specs.Recent.{oldest, place_after, is_recent, recent_events, from_event, recent}
use Rattle.recent_laws.specs.Law.{left_out}
use Rattle.recent_laws.proofs.KeyLaws.{same_key-equal, place-own, place-other, place-mark}

-- an event of the key stays, from the oldest start and its place
abbrev pub stays : Option ℕ → ℕ → Bool
stays start place = option_map_or (λ s. nat_le s place) start false

-- the ticks of one key without the events before the oldest start, where the first one has this place
abbrev pub kept_from : Option ℕ → ℕ → List Tick → List Tick
kept_from start place [] = []
kept_from start place (event_tick event ∷ ticks) = if stays start place then event_tick event ∷ kept_from start (place + 1) ticks else kept_from start
    (place + 1) ticks
kept_from start place (mark_tick moment ∷ ticks) = mark_tick moment ∷ kept_from start place ticks

module _ (plan : Plan) (all : List Tick) (key : Option Value) where
  abbrev start : Option ℕ
  start = oldest plan (ticks_of_key plan key all)

  own : (event : Event) (xs rest : List Tick) (b s s' : Bool) (place : ℕ) → s ≡ s' → b ≡ true → stays start place ≡ s'
      → ticks_of_key plan key xs ≡ kept_from start (place + 1) rest → same_key (key_of plan event) key ≡ b
      → ticks_of_key plan key (if s then event_tick event ∷ xs else xs) ≡ kept_from start place (cond b (event_tick event ∷ rest) rest)
  own event xs rest b true s' place se be st h is =
      ap (λ c. cond c (event_tick event ∷ ticks_of_key plan key xs) (ticks_of_key plan key xs)) (is ∙ be) ∙ ap (λ l. event_tick event ∷ l) h
      ∙ sym (ap (λ c. if c then event_tick event ∷ kept_from start (place + 1) rest else kept_from start (place + 1) rest) (st ∙ sym se))
      ∙ sym (ap (λ c. kept_from start place (cond c (event_tick event ∷ rest) rest)) be)
  own event xs rest b false s' place se be st h is =
      h ∙ sym (ap (λ c. if c then event_tick event ∷ kept_from start (place + 1) rest else kept_from start (place + 1) rest) (st ∙ sym se))
      ∙ sym (ap (λ c. kept_from start place (cond c (event_tick event ∷ rest) rest)) be)

  other : (event : Event) (xs : List Tick) (rest : List Tick) (s : Bool) (place : ℕ) → ticks_of_key plan key xs ≡ kept_from start place rest
      → same_key (key_of plan event) key ≡ false
      → ticks_of_key plan key (if s then event_tick event ∷ xs else xs) ≡ kept_from start place rest
  other event xs rest true place h is = ap (λ c. cond c (event_tick event ∷ ticks_of_key plan key xs) (ticks_of_key plan key xs)) is ∙ h
  other event xs rest false place h is = h

  pub recent_of_key : (before rest : List Tick) → ticks_of_key plan key (recent_events plan all before rest)
      ≡ kept_from start (place_after plan before key) (ticks_of_key plan key rest)
  recent_of_key before [] = refl
  recent_of_key before (event_tick event ∷ rest) = decided (same_key (key_of plan event) key) refl (recent_of_key (before ++ event_tick event ∷ []) rest) where
    xs : List Tick
    xs = recent_events plan all (before ++ event_tick event ∷ []) rest

    decided : (b : Bool) → same_key (key_of plan event) key ≡ b → ticks_of_key plan key xs
        ≡ kept_from start (place_after plan (before ++ event_tick event ∷ []) key) (ticks_of_key plan key rest)
        → ticks_of_key plan key (if is_recent plan all before event then event_tick event ∷ xs else xs)
        ≡ kept_from start (place_after plan before key) (cond (same_key (key_of plan event) key) (event_tick event ∷ ticks_of_key plan key rest)
        (ticks_of_key plan key rest))
    decided true is h =
        own event xs (ticks_of_key plan key rest) (same_key (key_of plan event) key) (is_recent plan all before event)
        (stays start (place_after plan before key)) (place_after plan before key)
        (λ i. stays (oldest plan (ticks_of_key plan (same_key-equal (key_of plan event) key is i) all))
        (place_after plan before (same_key-equal (key_of plan event) key is i))) is refl
        (h ∙ ap (λ n. kept_from start n (ticks_of_key plan key rest)) (place-own plan key before event is)) refl
    decided false is h =
        other event xs (ticks_of_key plan key rest) (is_recent plan all before event) (place_after plan before key)
        (h ∙ ap (λ n. kept_from start n (ticks_of_key plan key rest)) (place-other plan key before event is)) is
        ∙ sym (ap (λ c. kept_from start (place_after plan before key) (cond c (event_tick event ∷ ticks_of_key plan key rest) (ticks_of_key plan key rest))) is)
  recent_of_key before (mark_tick moment ∷ rest) =
      ap (λ l. mark_tick moment ∷ l) (recent_of_key (before ++ mark_tick moment ∷ []) rest
      ∙ ap (λ n. kept_from start n (ticks_of_key plan key rest)) (place-mark plan key before moment))

-- ---- early ticks and later ones

abbrev pub Begins : List Tick → Type 0
Begins [] = ⊤
Begins (event_tick event ∷ _) = ⊤
Begins (mark_tick moment ∷ _) = ⊥

-- Of the whole ticks some stay: the later ones, which begin with an event, and of the early ones some marks.
pub record Parts (whole some : List Tick) (dropped : ℕ) : Type 0 where
  pub early : List Tick
  pub marks : List Tick
  pub later : List Tick
  pub whole_is : whole ≡ early ++ later
  pub some_is : some ≡ marks ++ later
  pub count : length (events_of early) ≡ dropped
  pub no_events : events_of marks ≡ []
  begins : Begins later

kept_all : (start place : ℕ) (ticks : List Tick) → start ≤ place → kept_from (Some start) place ticks ≡ ticks
kept_all start place [] le = refl
kept_all start place (event_tick event ∷ ticks) le =
    ap (λ b. if b then event_tick event ∷ kept_from (Some start) (place + 1) ticks else kept_from (Some start) (place + 1) ticks) (le-leb start place le)
    ∙ ap (λ l. event_tick event ∷ l) (kept_all start (place + 1) ticks (omega (arith, le)))
kept_all start place (mark_tick moment ∷ ticks) le = ap (λ l. mark_tick moment ∷ l) (kept_all start place ticks le)

with_mark : (moment : Moment) (whole some : List Tick) (dropped : ℕ) → Parts whole some dropped
    → Parts (mark_tick moment ∷ whole) (mark_tick moment ∷ some) dropped
with_mark moment whole some dropped p = record {
  early = mark_tick moment ∷ p.early;
  marks = mark_tick moment ∷ p.marks;
  later = p.later;
  whole_is = ap (λ l. mark_tick moment ∷ l) p.whole_is;
  some_is = ap (λ l. mark_tick moment ∷ l) p.some_is;
  count = p.count;
  no_events = p.no_events;
  begins = p.begins;
}

with_event : (event : Event) (whole some : List Tick) (dropped more : ℕ) → dropped + 1 ≡ more → Parts whole some dropped
    → Parts (event_tick event ∷ whole) some more
with_event event whole some dropped more e p = record {
  early = event_tick event ∷ p.early;
  marks = p.marks;
  later = p.later;
  whole_is = ap (λ l. event_tick event ∷ l) p.whole_is;
  some_is = p.some_is;
  count = omega (arith, p.count, e);
  no_events = p.no_events;
  begins = p.begins;
}

parts_none : (place : ℕ) (ticks : List Tick) → Parts ticks (kept_from None place ticks) (length (events_of ticks))
parts_none place [] = record { early = []; marks = []; later = []; whole_is = refl; some_is = refl; count = refl; no_events = refl; begins = tt }
parts_none place (event_tick event ∷ ticks) = with_event event ticks (kept_from None (place + 1) ticks) (length (events_of ticks))
    (length (events_of (event_tick event ∷ ticks))) (omega arith) (parts_none (place + 1) ticks)
parts_none place (mark_tick moment ∷ ticks) = with_mark moment ticks (kept_from None place ticks) (length (events_of ticks)) (parts_none place ticks)

parts_some : (start place : ℕ) (ticks : List Tick) → place ≤ start → start ≤ place + length (events_of ticks)
    → Parts ticks (kept_from (Some start) place ticks) (start - place)
parts_some start place [] above below = record {
  early = [];
  marks = [];
  later = [];
  whole_is = refl;
  some_is = refl;
  count = omega
      (arith, above, below);
  no_events = refl;
  begins = tt;
}
parts_some start place (mark_tick moment ∷ ticks) above below = with_mark moment ticks (kept_from (Some start) place ticks) (start - place)
    (parts_some start place ticks above below)
parts_some start place (event_tick event ∷ ticks) above below =
    decided (nat_le start place) refl (λ lt. parts_some start (place + 1) ticks (omega (arith, lt)) (omega (arith, below))) where
      decided : (b : Bool) → nat_le start place ≡ b → (place < start → Parts ticks (kept_from (Some start) (place + 1) ticks) (start - (place + 1)))
          → Parts (event_tick event ∷ ticks) (if b then event_tick event ∷ kept_from (Some start) (place + 1) ticks else kept_from (Some start)
          (place + 1) ticks) (start - place)
      decided true is rest = let le = leb-true start place is in record {
        early = [];
        marks = [];
        later = event_tick event ∷ ticks;
        whole_is = refl;
        some_is = ap (λ l. event_tick event ∷ l) (kept_all start (place + 1) ticks (omega (arith, le)));
        count = omega (arith, le);
        no_events = refl;
        begins = tt;
      }
      decided false is rest = let lt = leb-false start place is in with_event event ticks (kept_from (Some start) (place + 1) ticks) (start - (place + 1))
          (start - place) (omega (arith, lt)) (rest lt)

-- ---- the marks at the front

abbrev tail_of : List Tick → List Tick
tail_of [] = []
tail_of (_ ∷ ticks) = ticks

rest_no_events : (tick : Tick) (ticks : List Tick) → events_of (tick ∷ ticks) ≡ [] → events_of ticks ≡ []
rest_no_events (event_tick event) ticks h = let one : length (events_of (event_tick event ∷ ticks)) ≡ 0 = ap length h in absurd (omega (arith, one))
rest_no_events (mark_tick moment) ticks h = h

without_mark : (moment : Moment) (whole some early marks later : List Tick) (dropped : ℕ) → whole ≡ early ++ later
    → mark_tick moment ∷ some ≡ marks ++ later → length (events_of early) ≡ dropped → events_of marks ≡ [] → Begins later → Parts whole some dropped
without_mark moment whole some early [] later dropped w s c n b = absurd (subst Begins (sym s) b)
without_mark moment whole some early (tick ∷ marks) later dropped w s c n b =
    record { early = early; marks = marks; later = later; whole_is = w; some_is = ap tail_of s; count = c; no_events = rest_no_events tick marks n; begins = b }

from_event_parts : (plan : Plan) (key : Option Value) (whole ticks : List Tick) (dropped : ℕ) → Parts whole (ticks_of_key plan key ticks) dropped
    → Parts whole (ticks_of_key plan key (from_event ticks)) dropped
from_event_parts plan key whole [] dropped p = p
from_event_parts plan key whole (event_tick event ∷ ticks) dropped p = p
from_event_parts plan key whole (mark_tick moment ∷ ticks) dropped p =
    from_event_parts plan key whole ticks dropped (without_mark moment whole
    (ticks_of_key plan key ticks) p.early p.marks p.later dropped p.whole_is p.some_is p.count p.no_events p.begins)

-- The recent ticks of a key, where its oldest start is that of an event.
pub recent_parts : (plan : Plan) (ticks : List Tick) (key : Option Value) → left_out plan ticks key ≤ length (events_of (ticks_of_key plan key ticks))
    → Parts (ticks_of_key plan key ticks) (ticks_of_key plan key (recent plan ticks)) (left_out plan ticks key)
unfolding recent
recent_parts plan ticks key le =
    from_event_parts plan key (ticks_of_key plan key ticks) (recent_events plan ticks [] ticks) (left_out plan ticks key)
    (subst (λ l. Parts (ticks_of_key plan key ticks) l (left_out plan ticks key)) (sym (recent_of_key plan ticks key [] ticks))
    (by_start (oldest plan (ticks_of_key plan key ticks)) le)) where
      by_start : (o : Option ℕ) → option_map_or (λ s. s) o (length (events_of (ticks_of_key plan key ticks))) ≤ length (events_of (ticks_of_key plan key ticks))
          → Parts (ticks_of_key plan key ticks) (kept_from o 0 (ticks_of_key plan key ticks))
          (option_map_or (λ s. s) o (length (events_of (ticks_of_key plan key ticks))))
      by_start None le = parts_none 0 (ticks_of_key plan key ticks)
      by_start (Some s) le = let same : s - 0 ≡ s = omega arith in subst (Parts (ticks_of_key plan key ticks)
          (kept_from (Some s) 0 (ticks_of_key plan key ticks))) same (parts_some s 0 (ticks_of_key plan key ticks) (omega arith) (omega (arith, le)))
