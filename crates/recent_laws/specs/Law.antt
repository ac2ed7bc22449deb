-- The law of the recent ticks: a stream that has taken them alone goes on as one that has taken all.
use Rattle.std.specs.Prelude.{ℕ, ◌≤◌, ◌≡◌, ⊤, List, [], ◌∷◌, ◌++◌, length, map, Option}
use Rattle.std.specs.List.{AllByRecursion as Each}
use Rattle.std.specs.Option.{option_map_or}
use Rattle.cep_event.specs.declared.value.Value.{Value}
use Rattle.cep_plan.specs.declared.plan.Plan.{Plan}
use Rattle.cep_plan.specs.Entry.{Entry}
use Rattle.cep_plan.specs.Tick.{Tick, time_of, last_time, events_of}
use Rattle.cep_plan.specs.Living.{living}
use Rattle.cep_plan.specs.Keys.{kept_at, kept_of, told_at, keys_after, ticks_of_key}
use Rattle.recent_laws.specs.Moved.{moved, moved_item, unplaced_item}
use Rattle.recent_laws.specs.Recent.{oldest, recent}
use Rattle.live_laws.specs.Starts.{is_start_alive}
use Rattle.std.specs.Prelude.{IfSome, ℤ, true}
use Rattle.cep_event.specs.declared.record.Moment.{Moment}
use Rattle.cep_event.specs.Moment.{has_reached}

-- the moment isn't before that of the last tick
abbrev pub ComesLater : List Tick → Moment → Type 0
ComesLater ticks now = IfSome (last_time ticks) (λ earlier. (t : ℤ) → has_reached earlier t ≡ true → has_reached now t ≡ true)

-- the times of the later ticks, which come after others, never fall
abbrev pub NeverFall : List Tick → List Tick → Type 0
NeverFall before [] = ⊤
NeverFall before (tick ∷ later) = ComesLater before (time_of tick) × NeverFall (before ++ tick ∷ []) later

-- ---- one key

-- a list starts at the position or behind it
abbrev pub StartsFrom : ℕ → List Entry → Type 0
StartsFrom from [] = ⊤
StartsFrom from (first ∷ _) = from ≤ first.position

-- The young ticks are the old ones without their first events, `dropped` of them, and without some marks before the others.
-- No list is living after the old ones that starts at an event which was dropped, and no kept match of theirs kills the lists that start at the first
-- event which wasn't.
pub record IsCut (plan : Plan) (old young : List Tick) (dropped : ℕ) : Type 0 where
  pub early : List Tick
  pub marks : List Tick
  pub later : List Tick
  pub old_is : old ≡ early ++ later
  pub young_is : young ≡ marks ++ later
  pub dropped_is : length (events_of early) ≡ dropped
  pub no_events : events_of marks ≡ []
  pub living_from : Each (StartsFrom dropped) (living plan old)
  pub is_open : is_start_alive plan.skip (kept_of plan old) dropped ≡ true

-- After the young ticks a further tick gives the kept items that it gives after the old ones, and the living lists are the same, with positions that
-- count from the events that were dropped.
pub record GoesOnAlike (plan : Plan) (old young : List Tick) (dropped : ℕ) : Type 0 where
  pub items : (between : List Tick) (tick : Tick) → NeverFall [] (old ++ between ++ tick ∷ [])
      → map (moved_item dropped) (kept_at plan (young ++ between) tick) ≡ kept_at plan (old ++ between) tick
  pub lists : (between : List Tick) → NeverFall [] (old ++ between) → map (moved dropped) (living plan (young ++ between)) ≡ living plan (old ++ between)

-- the law of one key's ticks
abbrev pub CutLaw : Type 0
CutLaw = (plan : Plan) (old young : List Tick) (dropped : ℕ) → NeverFall [] old → IsCut plan old young dropped → GoesOnAlike plan old young dropped

-- ---- all keys

-- how many events of the key the recent ticks leave out: those before its oldest start, or all where no list is living
abbrev pub left_out : Plan → List Tick → Option Value → ℕ
left_out plan ticks key = option_map_or (λ start. start) (oldest plan (ticks_of_key plan key ticks)) (length (events_of (ticks_of_key plan key ticks)))

-- What the recent ticks of ticks are for. A further tick tells the same after them as after all, where the same keys were there before, positions
-- aside. The living lists of each key are the same, with positions that count from the events that were left out. And the recent ticks are the same
-- later on.
pub record GoesOn (plan : Plan) (ticks : List Tick) : Type 0 where
  pub items : (between : List Tick) (tick : Tick) → NeverFall [] (ticks ++ between ++ tick ∷ [])
      → map unplaced_item (told_at plan (keys_after plan [] ticks) (recent plan ticks ++ between) tick)
      ≡ map unplaced_item (told_at plan [] (ticks ++ between) tick)
  pub lists : (between : List Tick) (key : Option Value) → NeverFall [] (ticks ++ between)
      → map (moved (left_out plan ticks key)) (living plan (ticks_of_key plan key (recent plan ticks ++ between)))
      ≡ living plan (ticks_of_key plan key (ticks ++ between))
  pub recents : (between : List Tick) → NeverFall [] (ticks ++ between) → recent plan (recent plan ticks ++ between) ≡ recent plan (ticks ++ between)

-- the law of the recent ticks
abbrev pub RecentLaw : Type 0
RecentLaw = (plan : Plan) (ticks : List Tick) → NeverFall [] ticks → GoesOn plan ticks
