-- The law of the recent ticks, key by key and over all keys.
use Rattle.std.proofs.Common.{◌≡◌, refl, sym, ◌∙◌, ap, subst, ℕ, ℤ, Bool, true, false, cond, List, [], ◌∷◌, ◌++◌, map, fold}
use Rattle.std.specs.Prelude.{flat_map, if◌then◌else◌, IfSome, Option, Some, None, option_and_then}
use Rattle.std.specs.List.{list_any, AllByRecursion as Each}
use Rattle.std.specs.Option.{option_map_or}
use Rattle.std.proofs.lemmas.List.{map-append}
use Rattle.std.proofs.lemmas.Bool.{or_left, or_right}
use Rattle.std.proofs.lemmas.List.Folds.{list_any-append}
use Rattle.cep_plan.proofs.RisingLaws.{Each-map}
use Rattle.std.proofs.lemmas.List.Sums.{fold-append}
use Rattle.std.proofs.lemmas.List.Elements.{filter_map-append}
use Rattle.cep_event.specs.declared.event.Event.{Event}
use Rattle.cep_event.specs.declared.record.Moment.{Moment}
use Rattle.cep_event.specs.declared.value.Value.{Value}
use Rattle.cep_event.specs.Moment.{has_reached}
use Rattle.cep_plan.specs.declared.plan.Plan.{Plan}
use Rattle.cep_plan.specs.declared.item.Taken.{Taken}
use Rattle.cep_plan.specs.declared.item.Item.{Item}
use Rattle.cep_plan.specs.declared.item.Item.TheVariants.{Match, Timeout}
use Rattle.cep_plan.specs.Aggregate.{field_of}
use Rattle.cep_plan.specs.Tick.{Tick, event_tick, mark_tick, event_in, time_of, events_of, last_time}
use Rattle.cep_plan.specs.Living.{living}
use Rattle.cep_plan.specs.Keys.{key_of, same_key, is_of_key, ticks_of_key, with_key, keys_after, kept_at, kept_for, keyed_at, told_at}
use Rattle.recent_laws.specs.Moved.{unplaced, unplaced_item, moved, moved_taken, moved_item}
use Rattle.recent_laws.specs.Recent.{is_recent, recent_events, from_event, recent}
use Rattle.recent_laws.specs.Law.{ComesLater, NeverFall, GoesOnAlike, left_out}
use Rattle.recent_laws.proofs.CutLaws.{cut_law}
use Rattle.recent_laws.proofs.KeyLaws.{same_key-itself, ticks_of_key-append}
use Rattle.recent_laws.proofs.NextLaws.{last_time-push}
use Rattle.recent_laws.proofs.OldestLaws.{recent_cut}

-- ---- the times of a key's ticks

abbrev IsAfter : Moment → Moment → Type 0
IsAfter earlier now = (t : ℤ) → has_reached earlier t ≡ true → has_reached now t ≡ true

later_than : (last : Option Moment) (between now : Moment) → IfSome last (λ earlier. IsAfter earlier between) → IsAfter between now
    → IfSome last (λ earlier. IsAfter earlier now)
later_than None between now h k = tt
later_than (Some earlier) between now h k = λ t r. k t (h t r)

never_key : (plan : Plan) (key : Option Value) (before own rest : List Tick) → NeverFall before rest
    → ((now : Moment) → ComesLater before now → ComesLater own now) → NeverFall own (ticks_of_key plan key rest)
never_key plan key before own [] h later = tt
never_key plan key before own (tick ∷ rest) h later =
    decided (is_of_key plan key tick) (never_key plan key (before ++ tick ∷ []) (own ++ tick ∷ []) rest h.1 both)
    (never_key plan key (before ++ tick ∷ []) own rest h.1 one) where
      both : (now : Moment) → ComesLater (before ++ tick ∷ []) now → ComesLater (own ++ tick ∷ []) now
      both now c = subst (λ o. IfSome o (λ earlier. IsAfter earlier now)) (last_time-push before tick ∙ sym (last_time-push own tick)) c

      one : (now : Moment) → ComesLater (before ++ tick ∷ []) now → ComesLater own now
      one now c = later_than (last_time own) (time_of tick) now (later (time_of tick) h.0)
          (subst (λ o. IfSome o (λ earlier. IsAfter earlier now)) (last_time-push before tick) c)

      decided : (b : Bool) → NeverFall (own ++ tick ∷ []) (ticks_of_key plan key rest) → NeverFall own (ticks_of_key plan key rest)
          → NeverFall own (cond b (tick ∷ ticks_of_key plan key rest) (ticks_of_key plan key rest))
      decided true with_it without = (later (time_of tick) h.0, with_it)
      decided false with_it without = without

pub NeverFall-key : (plan : Plan) (key : Option Value) (ticks : List Tick) → NeverFall [] ticks → NeverFall [] (ticks_of_key plan key ticks)
NeverFall-key plan key ticks h = never_key plan key [] [] ticks h (λ now c. c)

-- ---- one key

module _ (plan : Plan) (ticks : List Tick) (key : Option Value) (never : NeverFall [] ticks) where
  goes : GoesOnAlike plan (ticks_of_key plan key ticks) (ticks_of_key plan key (recent plan ticks)) (left_out plan ticks key)
  goes = cut_law plan (ticks_of_key plan key ticks) (ticks_of_key plan key (recent plan ticks)) (left_out plan ticks key)
      (NeverFall-key plan key ticks never) (recent_cut plan ticks key)

  pub key_lists : (between : List Tick) → NeverFall [] (ticks ++ between)
      → map (moved (left_out plan ticks key)) (living plan (ticks_of_key plan key (recent plan ticks ++ between)))
      ≡ living plan (ticks_of_key plan key (ticks ++ between))
  key_lists between times =
      ap (λ l. map (moved (left_out plan ticks key)) (living plan l)) (ticks_of_key-append plan key (recent plan ticks) between)
      ∙ goes.lists (ticks_of_key plan key between) (subst (NeverFall []) (ticks_of_key-append plan key ticks between)
      (NeverFall-key plan key (ticks ++ between) times))
      ∙ sym (ap (living plan) (ticks_of_key-append plan key ticks between))

  pub key_items : (between : List Tick) (tick : Tick) → is_of_key plan key tick ≡ true → NeverFall [] (ticks ++ between ++ tick ∷ [])
      → map (moved_item (left_out plan ticks key)) (kept_for plan (recent plan ticks ++ between) tick key) ≡ kept_for plan (ticks ++ between) tick key
  key_items between tick own times =
      ap (λ l. map (moved_item (left_out plan ticks key)) (kept_at plan l tick)) (ticks_of_key-append plan key (recent plan ticks) between)
      ∙ goes.items (ticks_of_key plan key between) tick (subst (NeverFall []) same (NeverFall-key plan key (ticks ++ between ++ tick ∷ []) times))
      ∙ sym (ap (λ l. kept_at plan l tick) (ticks_of_key-append plan key ticks between)) where
        same : ticks_of_key plan key (ticks ++ between ++ tick ∷ []) ≡ ticks_of_key plan key ticks ++ ticks_of_key plan key between ++ tick ∷ []
        same =
            ticks_of_key-append plan key (ticks ++ between) (tick ∷ [])
            ∙ (λ i. ticks_of_key-append plan key ticks between i ++ cond (own i) (tick ∷ []) [])

-- ---- positions aside

unplaced-moved : (by : ℕ) (taken : List Taken) → map unplaced (moved_taken by taken) ≡ map unplaced taken
unplaced-moved by [] = refl
unplaced-moved by (t ∷ taken) = ap (λ l. unplaced t ∷ l) (unplaced-moved by taken)

unplaced_item-moved : (by : ℕ) (item : Item) → unplaced_item (moved_item by item) ≡ unplaced_item item
unplaced_item-moved by (Match list) = ap Match (unplaced-moved by list)
unplaced_item-moved by (Timeout list) = ap Timeout (unplaced-moved by list)

unplaced_items-moved : (by : ℕ) (items : List Item) → map unplaced_item (map (moved_item by) items) ≡ map unplaced_item items
unplaced_items-moved by [] = refl
unplaced_items-moved by (item ∷ items) = λ i. unplaced_item-moved by item i ∷ unplaced_items-moved by items i

aside : (by : ℕ) (some all : List Item) → map (moved_item by) some ≡ all → map unplaced_item some ≡ map unplaced_item all
aside by some all h = sym (unplaced_items-moved by some) ∙ ap (map unplaced_item) h

flat_map-aside : (f g : Option Value → List Item) → ((key : Option Value) → map unplaced_item (f key) ≡ map unplaced_item (g key))
    → (keys : List (Option Value)) → map unplaced_item (flat_map f keys) ≡ map unplaced_item (flat_map g keys)
flat_map-aside f g same [] = refl
flat_map-aside f g same (key ∷ keys) = map-append unplaced_item (f key) (flat_map f keys) ∙ (λ i. same key i ++ flat_map-aside f g same keys i)
    ∙ sym (map-append unplaced_item (g key) (flat_map g keys))

-- ---- the keys

any_more : (key : Option Value) (xs ys : List (Option Value)) → list_any (same_key key) xs ≡ true → list_any (same_key key) (xs ++ ys) ≡ true
any_more key xs ys h = list_any-append (same_key key) xs ys ∙ or_left (list_any (same_key key) xs) (list_any (same_key key) ys) h

known_stays : (key x : Option Value) (keys : List (Option Value)) → list_any (same_key key) keys ≡ true → list_any (same_key key) (with_key keys x) ≡ true
known_stays key x keys h = decided (list_any (same_key x) keys) where
  decided : (b : Bool) → list_any (same_key key) (if b then keys else keys ++ x ∷ []) ≡ true
  decided true = h
  decided false = any_more key keys (x ∷ []) h

known_self : (key : Option Value) (keys : List (Option Value)) → list_any (same_key key) (with_key keys key) ≡ true
known_self key keys = decided (list_any (same_key key) keys) refl where
  decided : (b : Bool) → list_any (same_key key) keys ≡ b → list_any (same_key key) (if b then keys else keys ++ key ∷ []) ≡ true
  decided true is = is
  decided false is = list_any-append (same_key key) keys (key ∷ []) ∙ or_right (list_any (same_key key) keys) (list_any (same_key key) (key ∷ []))
      (or_left (same_key key key) false (same_key-itself key))

fold_stays : (key : Option Value) (keys more : List (Option Value)) → list_any (same_key key) keys ≡ true
    → list_any (same_key key) (fold with_key keys more) ≡ true
fold_stays key keys [] h = h
fold_stays key keys (x ∷ more) h = fold_stays key (with_key keys x) more (known_stays key x keys h)

pub fold_knows : (keys more : List (Option Value)) → Each (λ key. list_any (same_key key) (fold with_key keys more) ≡ true) more
fold_knows keys [] = tt
fold_knows keys (x ∷ more) = (fold_stays x (with_key keys x) more (known_self x keys), fold_knows (with_key keys x) more)

fold_known : (keys more : List (Option Value)) → Each (λ key. list_any (same_key key) keys ≡ true) more → fold with_key keys more ≡ keys
fold_known keys [] h = refl
fold_known keys (x ∷ more) h = ap (λ l. fold with_key l more) (ap (λ b. if b then keys else keys ++ x ∷ []) h.0) ∙ fold_known keys more h.1

pub Each-unmap : {X Y : Type 0} (P : Y → Type 0) (f : X → Y) (xs : List X) → Each P (map f xs) → Each (λ x. P (f x)) xs
Each-unmap P f [] h = tt
Each-unmap P f (x ∷ xs) h = (h.0, Each-unmap P f xs h.1)

-- what holds of each event holds of each recent one
module _ (P : Event → Type 0) (plan : Plan) (all : List Tick) where
  each_recent_event : (before rest : List Tick) → Each P (events_of rest) → Each P (events_of (recent_events plan all before rest))
  each_recent_event before [] h = tt
  each_recent_event before (event_tick event ∷ rest) h = decided (is_recent plan all before event)
      (each_recent_event (before ++ event_tick event ∷ []) rest h.1) where
        decided : (b : Bool) → Each P (events_of (recent_events plan all (before ++ event_tick event ∷ []) rest))
            → Each P (events_of (if b then event_tick event ∷ recent_events plan all (before ++ event_tick event ∷ []) rest else recent_events plan all
            (before ++ event_tick event ∷ []) rest))
        decided true k = (h.0, k)
        decided false k = k
  each_recent_event before (mark_tick moment ∷ rest) h = each_recent_event (before ++ mark_tick moment ∷ []) rest h

  each_from_event : (ticks : List Tick) → Each P (events_of ticks) → Each P (events_of (from_event ticks))
  each_from_event [] h = h
  each_from_event (event_tick event ∷ ticks) h = h
  each_from_event (mark_tick moment ∷ ticks) h = each_from_event ticks h

each_recent : (P : Event → Type 0) (plan : Plan) (ticks : List Tick) → Each P (events_of ticks) → Each P (events_of (recent plan ticks))
unfolding recent
each_recent P plan ticks h = each_from_event P plan ticks (recent_events plan ticks [] ticks) (each_recent_event P plan ticks [] ticks h)

keys_after-append : (plan : Plan) (keys : List (Option Value)) (xs ys : List Tick)
    → keys_after plan keys (xs ++ ys) ≡ keys_after plan (keys_after plan keys xs) ys
keys_after-append plan keys xs ys =
    ap (λ l. fold with_key keys (map (key_of plan) l)) (filter_map-append event_in xs ys)
    ∙ ap (fold with_key keys) (map-append (key_of plan) (events_of xs) (events_of ys))
    ∙ fold-append with_key keys (map (key_of plan) (events_of xs)) (map (key_of plan) (events_of ys))

-- the keys that were there, and those of the recent ticks: these are known
pub keys_alike : (plan : Plan) (ticks between : List Tick) → keys_after plan (keys_after plan [] ticks) (recent plan ticks ++ between)
    ≡ keys_after plan [] (ticks ++ between)
keys_alike plan ticks between =
    let keys = keys_after plan [] ticks in
    let known = Each-unmap (λ key. list_any (same_key key) keys ≡ true) (key_of plan) (events_of ticks) (fold_knows [] (map (key_of plan) (events_of ticks))) in
    let still = each_recent (λ e. list_any (same_key (key_of plan e)) keys ≡ true) plan ticks known in
    keys_after-append plan keys (recent plan ticks) between
    ∙ ap (λ l. keys_after plan l between) (fold_known keys (map (key_of plan) (events_of (recent plan ticks)))
    (Each-map (λ key. list_any (same_key key) keys ≡ true) (key_of plan) (events_of (recent plan ticks)) still))
    ∙ sym (keys_after-append plan [] ticks between)

-- ---- without keys

no_key : (plan : Plan) (tick : Tick) → plan.by ≡ None → is_of_key plan None tick ≡ true
no_key plan (event_tick event) h = ap (λ o. same_key (option_and_then (λ field. field_of plan.types field event) o) None) h
no_key plan (mark_tick moment) h = refl

all_ticks : (plan : Plan) (ticks : List Tick) → plan.by ≡ None → ticks_of_key plan None ticks ≡ ticks
all_ticks plan [] h = refl
all_ticks plan (tick ∷ ticks) h = ap (λ b. cond b (tick ∷ ticks_of_key plan None ticks) (ticks_of_key plan None ticks)) (no_key plan tick h)
    ∙ ap (λ l. tick ∷ l) (all_ticks plan ticks h)

-- ---- what a further tick tells

pub told_alike : (plan : Plan) (ticks between : List Tick) (tick : Tick) → NeverFall [] ticks → NeverFall [] (ticks ++ between ++ tick ∷ [])
    → map unplaced_item (told_at plan (keys_after plan [] ticks) (recent plan ticks ++ between) tick)
    ≡ map unplaced_item (told_at plan [] (ticks ++ between) tick)
unfolding told_at
told_alike plan ticks between tick never times = by_field plan.by refl where
  one : (key : Option Value) → is_of_key plan key tick ≡ true → map unplaced_item (kept_for plan (recent plan ticks ++ between) tick key)
      ≡ map unplaced_item (kept_for plan (ticks ++ between) tick key)
  one key own = aside (left_out plan ticks key) (kept_for plan (recent plan ticks ++ between) tick key) (kept_for plan (ticks ++ between) tick key)
      (key_items plan ticks key never between tick own times)

  keyed : (t : Tick) → ((key : Option Value) → is_of_key plan key t ≡ true
      → map unplaced_item (kept_for plan (recent plan ticks ++ between) t key) ≡ map unplaced_item (kept_for plan (ticks ++ between) t key))
      → map unplaced_item (keyed_at plan (keys_after plan [] ticks) (recent plan ticks ++ between) t)
      ≡ map unplaced_item (keyed_at plan [] (ticks ++ between) t)
  keyed (event_tick event) each = each (key_of plan event) (same_key-itself (key_of plan event))
  keyed (mark_tick moment) each =
      ap (λ keys. map unplaced_item (flat_map (kept_for plan (recent plan ticks ++ between) (mark_tick moment)) keys)) (keys_alike plan ticks between)
      ∙ flat_map-aside (kept_for plan (recent plan ticks ++ between) (mark_tick moment)) (kept_for plan (ticks ++ between) (mark_tick moment))
      (λ key. each key refl) (keys_after plan [] (ticks ++ between))

  by_field : (o : Option ℕ) → plan.by ≡ o
      → map unplaced_item (option_map_or (λ field. keyed_at plan (keys_after plan [] ticks) (recent plan ticks ++ between) tick) o
      (kept_at plan (recent plan ticks ++ between) tick))
      ≡ map unplaced_item (option_map_or (λ field. keyed_at plan [] (ticks ++ between) tick) o (kept_at plan (ticks ++ between) tick))
  by_field None is =
      sym (ap (λ l. map unplaced_item (kept_at plan l tick)) (all_ticks plan (recent plan ticks ++ between) is)) ∙ one None (no_key plan tick is)
      ∙ ap (λ l. map unplaced_item (kept_at plan l tick)) (all_ticks plan (ticks ++ between) is)
  by_field (Some field) is = keyed tick one
