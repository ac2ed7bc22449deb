-- The recent ticks of recent ticks and further ones are those of all ticks.
use Rattle.std.proofs.Common.{◌≡◌, refl, sym, ◌∙◌, ap, subst, ℕ, ◌+◌, ◌-◌, ◌≤◌, ◌<◌, Bool, true, false, cond, List, [], ◌∷◌, ◌++◌, map, fold, length, length-append, append_assoc, arith}
use Rattle.std.specs.Prelude.{filter_map, nat_lt, if◌then◌else◌, Option, Some, None, option_map}
use Rattle.std.specs.Option.{option_map_or}
use Rattle.std.proofs.lemmas.Bool.{leb-true, leb-false, lt-leb}
use Rattle.std.proofs.lemmas.List.{append-nil}
use Rattle.std.proofs.lemmas.List.Elements.{filter_map-append}
use Rattle.cep_event.specs.declared.event.Event.{Event}
use Rattle.cep_event.specs.declared.value.Value.{Value}
use Rattle.cep_plan.specs.declared.plan.Plan.{Plan}
use Rattle.cep_plan.specs.Entry.{Entry}
use Rattle.cep_plan.specs.Tick.{Tick, event_tick, mark_tick, event_in, events_of}
use Rattle.cep_plan.specs.Living.{living}
use Rattle.cep_plan.specs.Keys.{key_of, same_key, ticks_of_key}
use Rattle.recent_laws.specs.Moved.{moved}
use Rattle.recent_laws.specs.Recent.{start_in, least, oldest, place_after, is_recent, recent_events, from_event, recent}
use Rattle.recent_laws.specs.Law.{NeverFall, left_out}
use Rattle.recent_laws.proofs.NumberLaws.{ltb-moved, leb-moved}
use Rattle.recent_laws.proofs.KeyLaws.{same_key-equal, same_key-itself, ticks_of_key-append, place-own, place-other, place-mark}
use Rattle.recent_laws.proofs.PartLaws.{stays, recent_parts}
use Rattle.recent_laws.proofs.OldestLaws.{oldest_start}
use Rattle.recent_laws.proofs.KeyedLaws.{key_lists}

-- ---- the oldest start, moved

starts-moved : (by : ℕ) (lists : List (List Entry)) → filter_map start_in (map (moved by) lists) ≡ map (λ n. by + n) (filter_map start_in lists)
starts-moved by [] = refl
starts-moved by ([] ∷ lists) = starts-moved by lists
starts-moved by ((first ∷ rest) ∷ lists) = ap (λ l. (by + first.position) ∷ l) (starts-moved by lists)

pick-moved : (by a b : ℕ) → (if nat_lt (by + b) (by + a) then by + b else by + a) ≡ by + (if nat_lt b a then b else a)
pick-moved by a b = ap (λ t. if t then by + b else by + a) (ltb-moved by b a) ∙ decided (nat_lt b a) where
  decided : (t : Bool) → (if t then by + b else by + a) ≡ by + (if t then b else a)
  decided true = refl
  decided false = refl

fold-moved : (by x : ℕ) (xs : List ℕ) → fold (λ a b. if nat_lt b a then b else a) (by + x) (map (λ n. by + n) xs)
    ≡ by + fold (λ a b. if nat_lt b a then b else a) x xs
fold-moved by x [] = refl
fold-moved by x (y ∷ xs) = ap (λ s. fold (λ a b. if nat_lt b a then b else a) s (map (λ n. by + n) xs)) (pick-moved by x y)
    ∙ fold-moved by (if nat_lt y x then y else x) xs

least-moved : (by : ℕ) (xs : List ℕ) → least (map (λ n. by + n) xs) ≡ option_map (λ n. by + n) (least xs)
least-moved by [] = refl
least-moved by (x ∷ xs) = ap Some (fold-moved by x xs)

stays-moved : (by : ℕ) (o : Option ℕ) (place : ℕ) → stays (option_map (λ n. by + n) o) (by + place) ≡ stays o place
stays-moved by None place = refl
stays-moved by (Some n) place = leb-moved by n place

-- ---- the events before

-- an event moves the place of its own key
place-event : (plan : Plan) (key : Option Value) (one two : List Tick) (by : ℕ) (event : Event) → place_after plan one key ≡ by + place_after plan two key
    → place_after plan (one ++ event_tick event ∷ []) key ≡ by + place_after plan (two ++ event_tick event ∷ []) key
place-event plan key one two by event h = decided (same_key (key_of plan event) key) refl where
  decided : (b : Bool) → same_key (key_of plan event) key ≡ b → place_after plan (one ++ event_tick event ∷ []) key
      ≡ by + place_after plan (two ++ event_tick event ∷ []) key
  decided true is = let p = place-own plan key one event is in let q = place-own plan key two event is in omega (arith, p, q, h)
  decided false is = place-other plan key one event is ∙ h ∙ sym (ap (λ n. by + n) (place-other plan key two event is))

recent_events-append : (plan : Plan) (all before xs ys : List Tick) → recent_events plan all before (xs ++ ys)
    ≡ recent_events plan all before xs ++ recent_events plan all (before ++ xs) ys
recent_events-append plan all before [] ys = ap (λ l. recent_events plan all l ys) (sym (append-nil before))
recent_events-append plan all before (event_tick event ∷ xs) ys =
    decided (is_recent plan all before event) (recent_events-append plan all (before ++ event_tick event ∷ []) xs ys
    ∙ ap (λ l. recent_events plan all (before ++ event_tick event ∷ []) xs ++ recent_events plan all l ys)
    (append_assoc before (event_tick event ∷ []) xs)) where
      decided : (b : Bool) → recent_events plan all (before ++ event_tick event ∷ []) (xs ++ ys)
          ≡ recent_events plan all (before ++ event_tick event ∷ []) xs ++ recent_events plan all (before ++ event_tick event ∷ xs) ys
          → (if b then event_tick event ∷ recent_events plan all (before ++ event_tick event ∷ []) (xs ++ ys) else recent_events plan all
          (before ++ event_tick event ∷ []) (xs ++ ys))
          ≡ (if b then event_tick event ∷ recent_events plan all (before ++ event_tick event ∷ []) xs else recent_events plan all
          (before ++ event_tick event ∷ []) xs) ++ recent_events plan all (before ++ event_tick event ∷ xs) ys
      decided true h = ap (λ l. event_tick event ∷ l) h
      decided false h = h
recent_events-append plan all before (mark_tick moment ∷ xs) ys =
    ap (λ l. mark_tick moment ∷ l) (recent_events-append plan all (before ++ mark_tick moment ∷ []) xs ys
    ∙ ap (λ l. recent_events plan all (before ++ mark_tick moment ∷ []) xs ++ recent_events plan all l ys) (append_assoc before (mark_tick moment ∷ []) xs))

-- the places of the keys decide
same_places : (plan : Plan) (all one two rest : List Tick) → ((key : Option Value) → place_after plan one key ≡ 0 + place_after plan two key)
    → recent_events plan all one rest ≡ recent_events plan all two rest
same_places plan all one two [] h = refl
same_places plan all one two (event_tick event ∷ rest) h =
    let zero_more : 0 + place_after plan two (key_of plan event) ≡ place_after plan two (key_of plan event) = omega arith in
    λ i. let more = same_places plan all (one ++ event_tick event ∷ []) (two ++ event_tick event ∷ []) rest
    (λ key. place-event plan key one two 0 event (h key)) i in
    if stays (oldest plan (ticks_of_key plan (key_of plan event) all)) ((h (key_of plan event) ∙ zero_more) i) then event_tick event ∷ more else more
same_places plan all one two (mark_tick moment ∷ rest) h =
    ap (λ l. mark_tick moment ∷ l) (same_places plan all (one ++ mark_tick moment ∷ []) (two ++ mark_tick moment ∷ []) rest
    (λ key. place-mark plan key one moment ∙ h key ∙ sym (ap (λ n. 0 + n) (place-mark plan key two moment))))

module _ (plan : Plan) (ticks between : List Tick) (never : NeverFall [] ticks) (times : NeverFall [] (ticks ++ between)) where
  abbrev whole : List Tick
  whole = ticks ++ between

  abbrev young : List Tick
  young = recent plan ticks ++ between

  oldest-moved : (key : Option Value) → oldest plan (ticks_of_key plan key whole)
      ≡ option_map (λ n. left_out plan ticks key + n) (oldest plan (ticks_of_key plan key young))
  oldest-moved key =
      let by = left_out plan ticks key in
      let lists = living plan (ticks_of_key plan key young) in
      sym (ap (λ l. least (filter_map start_in l)) (key_lists plan ticks key never between times)) ∙ ap least (starts-moved by lists)
      ∙ least-moved by (filter_map start_in lists)

  -- the further ticks
  further_same : (before own rest : List Tick) → ((key : Option Value) → place_after plan before key ≡ left_out plan ticks key + place_after plan own key)
      → recent_events plan whole before rest ≡ recent_events plan young own rest
  further_same before own [] h = refl
  further_same before own (event_tick event ∷ rest) h =
      let key = key_of plan event in
      let test : is_recent plan whole before event ≡ is_recent plan young own event =
      (λ i. stays (oldest-moved key i) (h key i)) ∙ stays-moved (left_out plan ticks key) (oldest plan (ticks_of_key plan key young))
      (place_after plan own key) in
      λ i. let more = further_same (before ++ event_tick event ∷ []) (own ++ event_tick event ∷ []) rest
      (λ k. place-event plan k before own (left_out plan ticks k) event (h k)) i in
      if test i then event_tick event ∷ more else more
  further_same before own (mark_tick moment ∷ rest) h =
      ap (λ l. mark_tick moment ∷ l) (further_same (before ++ mark_tick moment ∷ []) (own ++ mark_tick moment ∷ []) rest
      (λ k. place-mark plan k before moment ∙ h k ∙ sym (ap (λ n. left_out plan ticks k + n) (place-mark plan k own moment))))

  -- behind all of the ticks
  place_behind : (key : Option Value) → place_after plan ticks key ≡ left_out plan ticks key + place_after plan (recent plan ticks) key
  place_behind key =
      let parts = recent_parts plan ticks key (oldest_start plan (ticks_of_key plan key ticks)).among in
      let old = ap (λ l. length (events_of l)) parts.whole_is ∙ ap length (filter_map-append event_in parts.early parts.later)
      ∙ length-append (events_of parts.early) (events_of parts.later) in
      let new = ap (λ l. length (events_of l)) parts.some_is ∙ ap length (filter_map-append event_in parts.marks parts.later
      ∙ ap (λ l. l ++ events_of parts.later) parts.no_events) in
      omega (arith, old, new, parts.count)

  -- an event among the ticks stands before the number of its key's events
  place_among : (before rest : List Tick) (event : Event) → before ++ event_tick event ∷ rest ≡ ticks
      → place_after plan before (key_of plan event) < length (events_of (ticks_of_key plan (key_of plan event) ticks))
  place_among before rest event is =
      let key = key_of plan event in
      let front = ticks_of_key plan key before in
      let behind = ticks_of_key plan key rest in
      let same : ticks_of_key plan key ticks ≡ front ++ event_tick event ∷ behind =
      sym (ap (ticks_of_key plan key) is) ∙ ticks_of_key-append plan key before (event_tick event ∷ rest)
      ∙ ap (λ b. front ++ cond b (event_tick event ∷ behind) behind) (same_key-itself key) in
      let count = ap (λ l. length (events_of l)) same ∙ ap length (filter_map-append event_in front (event_tick event ∷ behind))
      ∙ length-append (events_of front) (event ∷ events_of behind) in
      omega (arith, count)

  -- Of the recent ones of the ticks, those that are recent later on are those of all the ticks that are.
  chosen_again : (before own rest : List Tick) → before ++ rest ≡ ticks →
      ((key : Option Value) → place_after plan own key ≡ place_after plan before key - left_out plan ticks key)
      → recent_events plan young own (recent_events plan ticks before rest) ≡ recent_events plan whole before rest
  chosen_again before own [] is h = refl
  chosen_again before own (mark_tick moment ∷ rest) is h =
      ap (λ l. mark_tick moment ∷ l)
      (chosen_again (before ++ mark_tick moment ∷ []) (own ++ mark_tick moment ∷ []) rest (append_assoc before (mark_tick moment ∷ []) rest ∙ is)
      (λ k. place-mark plan k own moment ∙ h k ∙ sym (ap (λ n. n - left_out plan ticks k) (place-mark plan k before moment))))
  chosen_again before own (event_tick event ∷ rest) is h =
      decided (stays (oldest plan (ticks_of_key plan key ticks)) place) refl
      (λ le. chosen_again (before ++ event_tick event ∷ []) (own ++ event_tick event ∷ []) rest (append_assoc before (event_tick event ∷ []) rest ∙ is)
      (both le))
      (λ lt. chosen_again (before ++ event_tick event ∷ []) own rest (append_assoc before (event_tick event ∷ []) rest ∙ is) (one lt)) where
        key : Option Value
        key = key_of plan event

        by : ℕ
        by = left_out plan ticks key

        place : ℕ
        place = place_after plan before key

        own_key : (k : Option Value) → same_key (key_of plan event) k ≡ true → key_of plan event ≡ k
        own_key k same = same_key-equal (key_of plan event) k same

        both : left_out plan ticks (key_of plan event) ≤ place_after plan before (key_of plan event) → (k : Option Value)
            → place_after plan (own ++ event_tick event ∷ []) k ≡ place_after plan (before ++ event_tick event ∷ []) k - left_out plan ticks k
        both le k = by_key (same_key (key_of plan event) k) refl where
          by_key : (b : Bool) → same_key (key_of plan event) k ≡ b → place_after plan (own ++ event_tick event ∷ []) k
              ≡ place_after plan (before ++ event_tick event ∷ []) k - left_out plan ticks k
          by_key true same =
              let le' = subst (λ x. left_out plan ticks x ≤ place_after plan before x) (own_key k same) le in
              let p = place-own plan k own event same in
              let q = place-own plan k before event same in
              omega (arith, p, q, h k, le')
          by_key false same = place-other plan k own event same ∙ h k ∙ sym (ap (λ n. n - left_out plan ticks k) (place-other plan k before event same))

        one : place_after plan before (key_of plan event) < left_out plan ticks (key_of plan event) → (k : Option Value)
            → place_after plan own k ≡ place_after plan (before ++ event_tick event ∷ []) k - left_out plan ticks k
        one lt k = by_key (same_key (key_of plan event) k) refl where
          by_key : (b : Bool) → same_key (key_of plan event) k ≡ b → place_after plan own k
              ≡ place_after plan (before ++ event_tick event ∷ []) k - left_out plan ticks k
          by_key true same =
              let lt' = subst (λ x. place_after plan before x < left_out plan ticks x) (own_key k same) lt in
              let q = place-own plan k before event same in
              omega (arith, q, h k, lt')
          by_key false same = h k ∙ sym (ap (λ n. n - left_out plan ticks k) (place-other plan k before event same))

        from_oldest : (o : Option ℕ) (n : ℕ) → stays o place ≡ true → option_map_or (λ s. s) o n ≤ place
        from_oldest None n st = let wrong : false ≡ true = st in absurd cc
        from_oldest (Some c) n st = leb-true c place st

        before_oldest : (o : Option ℕ) (n : ℕ) → place < n → stays o place ≡ false → place < option_map_or (λ s. s) o n
        before_oldest None n lt st = lt
        before_oldest (Some c) n lt st = leb-false c place st

        shut : (o : Option ℕ) (d : ℕ) → place < d → stays (option_map (λ n. d + n) o) place ≡ false
        shut None d lt = refl
        shut (Some n) d lt = lt-leb (d + n) place (omega (arith, lt))

        rest_of : List Tick
        rest_of = recent_events plan ticks (before ++ event_tick event ∷ []) rest

        after : List Tick
        after = recent_events plan whole (before ++ event_tick event ∷ []) rest

        decided : (s : Bool) → stays (oldest plan (ticks_of_key plan key ticks)) place ≡ s
            → (by ≤ place → recent_events plan young (own ++ event_tick event ∷ []) rest_of ≡ after)
            → (place < by → recent_events plan young own rest_of ≡ after)
            → recent_events plan young own (if s then event_tick event ∷ rest_of else rest_of)
            ≡ (if is_recent plan whole before event then event_tick event ∷ after else after)
        decided true st keeps drops =
            let le = from_oldest (oldest plan (ticks_of_key plan key ticks)) (length (events_of (ticks_of_key plan key ticks))) st in
            let moved_place : by + place_after plan own key ≡ place = omega (arith, h key, le) in
            let test : is_recent plan young own event ≡ is_recent plan whole before event =
            sym (stays-moved by (oldest plan (ticks_of_key plan key young)) (place_after plan own key))
            ∙ (λ i. stays (sym (oldest-moved key) i) (moved_place i)) in
            λ i. if test i then event_tick event ∷ keeps le i else keeps le i
        decided false st keeps drops =
            let lt = before_oldest (oldest plan (ticks_of_key plan key ticks)) (length (events_of (ticks_of_key plan key ticks)))
            (place_among before rest event is) st in
            let test : is_recent plan whole before event ≡ false =
            ap (λ o. stays o place) (oldest-moved key) ∙ shut (oldest plan (ticks_of_key plan key young)) by lt in
            drops lt ∙ sym (ap (λ b. if b then event_tick event ∷ after else after) test)

-- marks at the front don't matter
front_marks : (plan : Plan) (all before xs more : List Tick) → from_event (recent_events plan all before xs ++ more)
    ≡ from_event (recent_events plan all before (from_event xs) ++ more)
front_marks plan all before [] more = refl
front_marks plan all before (event_tick event ∷ xs) more = refl
front_marks plan all before (mark_tick moment ∷ xs) more =
    let none : (key : Option Value) → place_after plan (before ++ mark_tick moment ∷ []) key ≡ 0 + place_after plan before key =
    λ key. let p = place-mark plan key before moment in omega (arith, p) in
    ap (λ l. from_event (l ++ more)) (same_places plan all (before ++ mark_tick moment ∷ []) before xs none) ∙ front_marks plan all before xs more

-- The recent ticks are the same later on.
pub recent_again : (plan : Plan) (ticks between : List Tick) → NeverFall [] ticks → NeverFall [] (ticks ++ between)
    → recent plan (recent plan ticks ++ between) ≡ recent plan (ticks ++ between)
unfolding recent
recent_again plan ticks between never times =
    let whole = ticks ++ between in
    let young = recent plan ticks ++ between in
    let chosen = recent_events plan ticks [] ticks in
    ap from_event (recent_events-append plan young [] (recent plan ticks) between)
    ∙ sym (front_marks plan young [] chosen (recent_events plan young (recent plan ticks) between))
    ∙ (λ i. from_event (chosen_again plan ticks between never times [] [] ticks refl (λ key. none_dropped (left_out plan ticks key)) i
    ++ sym (further_same plan ticks between never times ticks (recent plan ticks) between (place_behind plan ticks between never times)) i))
    ∙ sym (ap from_event (recent_events-append plan whole [] ticks between)) where
      none_dropped : (n : ℕ) → 0 ≡ 0 - n
      none_dropped n = omega arith
