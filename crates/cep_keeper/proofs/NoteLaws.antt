-- The recent ticks stand for all, and still do with one more.
use Rattle.std.proofs.Common.{◌≡◌, refl, sym, ◌∙◌, ap, subst, ℕ, ◌<◌, ◌≤◌, Bool, true, false, cond, if◌then◌else◌, List, [], ◌∷◌, ◌++◌, map, filter, fold, length, length-append, append_assoc, arith}
use Rattle.std.specs.Prelude.{⊤, Option, Some, None, nat_le, nat_lt, filter_map}
use Rattle.std.specs.List.{AllByRecursion as Each}
use Rattle.std.specs.Option.{option_map_or}
use Rattle.std.proofs.lemmas.Bool.{leb-true, le-leb, lt-ltb}
use Rattle.std.proofs.lemmas.List.{append-nil}
use Rattle.std.proofs.lemmas.List.Elements.{filter_map-append}
use Rattle.cep_event.specs.declared.event.Event.{Event}
use Rattle.cep_event.specs.declared.value.Value.{Value}
use Rattle.cep_plan.specs.declared.plan.Plan.{Plan}
use Rattle.cep_plan.specs.Entry.{Entry}
use Rattle.cep_plan.specs.Tick as plain_tick
use Rattle.cep_plan.specs.Tick.{event_tick, mark_tick, event_in, events_of, time_of}
use Rattle.cep_plan.specs.Living.{living}
use Rattle.cep_plan.specs.Keys.{key_of, is_of_key, ticks_of_key}
use Rattle.recent_laws.specs.Law.{NeverFall, StartsFrom}
use Rattle.recent_laws.specs.Recent.{start_in, least, oldest, place_after, is_recent, recent_events, from_event, recent}
use Rattle.recent_laws.proofs.BehindLaws.{filter-append}
use Rattle.recent_laws.proofs.CutLaws.{never_behind}
use Rattle.recent_laws.proofs.KeyLaws.{same_key-itself, ticks_of_key-append}
use Rattle.recent_laws.proofs.KeyedLaws.{NeverFall-key}
use Rattle.recent_laws.proofs.NextLaws.{living-starts}
use Rattle.recent_laws.proofs.OldestLaws.{oldest_start}
use Rattle.cep_keeper.specs.declared.recent.Tick.{Tick}
use Rattle.cep_keeper.specs.declared.recent.Tick.TheVariants as tick
use Rattle.cep_keeper.specs.Standing.{start_listed, with_recent, noted, plain, is_kept, from_first, IsPlaced, StandsFor, ListsOldest}

-- ---- lists

filter_mark : (plan : Plan) (o : Option Value → Option ℕ) (ys zs : List Tick)
    → from_first (filter (is_kept plan o) (from_first ys ++ zs)) ≡ from_first (filter (is_kept plan o) (ys ++ zs))
filter_mark plan o [] zs = refl
filter_mark plan o (tick.Event event position ∷ ys) zs = refl
filter_mark plan o (tick.Mark time ∷ ys) zs = filter_mark plan o ys zs

filter_twice : (p q : Tick → Bool) (xs : List Tick) → Each (λ x. p x ≡ true → q x ≡ true) xs → filter p (filter q xs) ≡ filter p xs
filter_twice p q [] h = refl
filter_twice p q (x ∷ xs) h = decided (p x) (q x) refl h.0 (filter_twice p q xs h.1) where
  decided : (a b : Bool) → p x ≡ a → (a ≡ true → b ≡ true) → filter p (filter q xs) ≡ filter p xs
      → filter p (cond b (x ∷ filter q xs) (filter q xs)) ≡ cond a (x ∷ filter p xs) (filter p xs)
  decided true true is h e = ap (λ c. cond c (x ∷ filter p (filter q xs)) (filter p (filter q xs))) is ∙ ap (λ l. x ∷ l) e
  decided false true is h e = ap (λ c. cond c (x ∷ filter p (filter q xs)) (filter p (filter q xs))) is ∙ e
  decided true false is h e = let wrong : false ≡ true = h refl in absurd cc
  decided false false is h e = e

abbrev Settled : List Tick → Type 0
Settled [] = ⊤
Settled (tick.Event event position ∷ _) = ⊤
Settled (tick.Mark time ∷ _) = ⊥

settled_is : (kept : List Tick) → Settled kept → from_first kept ≡ kept
settled_is [] h = refl
settled_is (tick.Event event position ∷ kept) h = refl
settled_is (tick.Mark time ∷ kept) h = absurd h

noted_from : (plan : Plan) (starts : List (Option Value × ℕ)) (kept ticks : List Tick) → Settled kept
    → fold (with_recent plan starts) kept ticks ≡ from_first (kept ++ filter (is_kept plan (start_listed starts)) ticks)
noted_from plan starts kept [] h = sym (ap from_first (append-nil kept) ∙ settled_is kept h)
noted_from plan starts [] (tick.Mark time ∷ ticks) h = noted_from plan starts [] ticks tt
noted_from plan starts (tick.Mark other ∷ kept) (tick.Mark time ∷ ticks) h = absurd h
noted_from plan starts (tick.Event event position ∷ kept) (tick.Mark time ∷ ticks) h =
    let had = tick.Event event position ∷ kept in
    ap (λ b. fold (with_recent plan starts) (if b then had ++ tick.Mark time ∷ [] else had) ticks) (lt-ltb 0 (length had) (omega arith))
    ∙ noted_from plan starts (had ++ tick.Mark time ∷ []) ticks tt
    ∙ ap from_first (append_assoc had (tick.Mark time ∷ []) (filter (is_kept plan (start_listed starts)) ticks))
noted_from plan starts kept (tick.Event event position ∷ ticks) h =
    decided (is_kept plan (start_listed starts) (tick.Event event position)) (noted_from plan starts kept ticks h)
    (noted_from plan starts (kept ++ tick.Event event position ∷ []) ticks (more kept h)) where
      x : Tick
      x = tick.Event event position

      more : (kept : List Tick) → Settled kept → Settled (kept ++ tick.Event event position ∷ [])
      more [] h = tt
      more (tick.Event e p ∷ kept) h = tt
      more (tick.Mark t ∷ kept) h = h

      decided : (b : Bool) → fold (with_recent plan starts) kept ticks ≡ from_first (kept ++ filter (is_kept plan (start_listed starts)) ticks)
          → fold (with_recent plan starts) (kept ++ tick.Event event position ∷ []) ticks
          ≡ from_first ((kept ++ tick.Event event position ∷ []) ++ filter (is_kept plan (start_listed starts)) ticks)
          → fold (with_recent plan starts) (if b then kept ++ tick.Event event position ∷ [] else kept) ticks
          ≡ from_first (kept ++ cond b (tick.Event event position ∷ filter (is_kept plan (start_listed starts)) ticks)
          (filter (is_kept plan (start_listed starts)) ticks))
      decided true drops keeps = keeps ∙ ap from_first (append_assoc kept (tick.Event event position ∷ []) (filter (is_kept plan (start_listed starts)) ticks))
      decided false drops keeps = drops

-- ---- the oldest start doesn't fall

least_from : (from a : ℕ) (xs : List ℕ) → from ≤ a → Each (λ x. from ≤ x) xs → from ≤ fold (λ a b. if nat_lt b a then b else a) a xs
least_from from a [] h e = h
least_from from a (x ∷ xs) h e = least_from from (if nat_lt x a then x else a) xs (picked (nat_lt x a)) e.1 where
  picked : (b : Bool) → from ≤ (if b then x else a)
  picked true = e.0
  picked false = h

starts_from : (from : ℕ) (lists : List (List Entry)) → Each (StartsFrom from) lists → Each (λ x. from ≤ x) (filter_map start_in lists)
starts_from from [] h = tt
starts_from from ([] ∷ lists) h = starts_from from lists h.1
starts_from from ((first ∷ rest) ∷ lists) h = (h.0, starts_from from lists h.1)

least_of : (from : ℕ) (xs : List ℕ) (c : ℕ) → Each (λ x. from ≤ x) xs → least xs ≡ Some c → from ≤ c
least_of from [] c h is = absurd (cc)
least_of from (x ∷ xs) c h is = let le = least_from from x xs h.0 h.1 in let e : fold (λ a b. if nat_lt b a then b else a) x xs ≡ c = cc in omega (arith, le, e)

module _ (plan : Plan) (h : List plain_tick.Tick) (t : plain_tick.Tick) (never : NeverFall [] (h ++ t ∷ [])) where
  abbrev own : Option Value → List plain_tick.Tick
  own key = ticks_of_key plan key h

  abbrev bound : Option Value → ℕ
  bound key = option_map_or (λ start. start) (oldest plan (own key)) (length (events_of (own key)))

  still : (key : Option Value) → Each (StartsFrom (bound key)) (living plan (ticks_of_key plan key (h ++ t ∷ [])))
  still key =
      let start = oldest_start plan (own key) in
      subst (λ l. Each (StartsFrom (bound key)) (living plan l)) (sym (ticks_of_key-append plan key h (t ∷ []))) (decided (is_of_key plan key t) refl) where
        decided : (b : Bool) → is_of_key plan key t ≡ b → Each (StartsFrom (bound key)) (living plan (own key ++ cond b (t ∷ []) []))
        decided true is =
            let both = ticks_of_key-append plan key h (t ∷ []) ∙ ap (λ c. own key ++ cond c (t ∷ []) []) is in
            let rises = subst (NeverFall []) both (NeverFall-key plan key (h ++ t ∷ []) never) in
            living-starts plan (own key) (bound key) (oldest_start plan (own key)).starts (oldest_start plan (own key)).among t
            (never_behind [] (own key) (t ∷ []) rises).0
        decided false is = subst (λ l. Each (StartsFrom (bound key)) (living plan l)) (sym (append-nil (own key))) (oldest_start plan (own key)).starts

  rises : (key : Option Value) (c : ℕ) → oldest plan (ticks_of_key plan key (h ++ t ∷ [])) ≡ Some c → bound key ≤ c
  rises key c is = least_of (bound key) (filter_map start_in (living plan (ticks_of_key plan key (h ++ t ∷ [])))) c
      (starts_from (bound key) (living plan (ticks_of_key plan key (h ++ t ∷ []))) (still key)) is

  -- an event that stays now stayed before
  stayed : (key : Option Value) (place : ℕ) → place < length (events_of (own key))
      → option_map_or (λ s. nat_le s place) (oldest plan (ticks_of_key plan key (h ++ t ∷ []))) false ≡ true
      → option_map_or (λ s. nat_le s place) (oldest plan (own key)) false ≡ true
  stayed key place lt = by_new (oldest plan (ticks_of_key plan key (h ++ t ∷ []))) refl where
    by_old : (o : Option ℕ) (c : ℕ) → option_map_or (λ s. s) o (length (events_of (own key))) ≤ c → c ≤ place
        → option_map_or (λ s. nat_le s place) o false ≡ true
    by_old None c le to = absurd (omega (arith, le, to, lt))
    by_old (Some s) c le to = le-leb s place (omega (arith, le, to))

    by_new : (o : Option ℕ) → oldest plan (ticks_of_key plan key (h ++ t ∷ [])) ≡ o → option_map_or (λ s. nat_le s place) o false ≡ true
        → option_map_or (λ s. nat_le s place) (oldest plan (own key)) false ≡ true
    by_new None is st = let wrong : false ≡ true = st in absurd cc
    by_new (Some c) is st = by_old (oldest plan (own key)) c (rises key c is) (leb-true c place st)

  among : (before rest : List plain_tick.Tick) (event : Event) → before ++ event_tick event ∷ rest ≡ h
      → place_after plan before (key_of plan event) < length (events_of (own (key_of plan event)))
  among before rest event is =
      let key = key_of plan event in
      let front = ticks_of_key plan key before in
      let behind = ticks_of_key plan key rest in
      let same : own key ≡ front ++ event_tick event ∷ behind =
      sym (ap (ticks_of_key plan key) is) ∙ ticks_of_key-append plan key before (event_tick event ∷ rest)
      ∙ ap (λ b. front ++ cond b (event_tick event ∷ behind) behind) (same_key-itself key) in
      let count = ap (λ l. length (events_of l)) same ∙ ap length (filter_map-append event_in front (event_tick event ∷ behind))
      ∙ length-append (events_of front) (event ∷ events_of behind) in
      omega (arith, count)

  all_stayed : (before : List plain_tick.Tick) (xs : List Tick) → before ++ map plain xs ≡ h → IsPlaced plan before xs
      → Each (λ x. is_kept plan (λ key. oldest plan (ticks_of_key plan key (h ++ t ∷ []))) x ≡ true → is_kept plan (λ key. oldest plan (own key)) x ≡ true) xs
  all_stayed before [] is placed = tt
  all_stayed before (tick.Event event position ∷ xs) is placed = (
    λ st. let lt = among before (map plain xs) event is in let e = placed.0 in stayed (key_of plan event) position (omega (arith, lt, e)) st,
    all_stayed (before ++ event_tick event ∷ []) xs (append_assoc before (event_tick event ∷ []) (map plain xs) ∙ is) placed.1,
  )
  all_stayed before (tick.Mark time ∷ xs) is placed = (
    λ st. refl,
    all_stayed (before ++ plain (tick.Mark time) ∷ []) xs
        (append_assoc before (plain (tick.Mark time) ∷ []) (map plain xs) ∙ is) placed,
  )

-- ---- the law

starts_same : (plan : Plan) (o p : Option Value → Option ℕ) → ((key : Option Value) → o key ≡ p key) → (xs : List Tick)
    → filter (is_kept plan o) xs ≡ filter (is_kept plan p) xs
starts_same plan o p same [] = refl
starts_same plan o p same (tick.Event event position ∷ xs) =
    λ i. cond (option_map_or (λ start. nat_le start position) (same (key_of plan event) i) false)
    (tick.Event event position ∷ starts_same plan o p same xs i) (starts_same plan o p same xs i)
starts_same plan o p same (tick.Mark time ∷ xs) = ap (λ l. tick.Mark time ∷ l) (starts_same plan o p same xs)

placed_front : (plan : Plan) (before : List plain_tick.Tick) (xs ys : List Tick) → IsPlaced plan before (xs ++ ys) → IsPlaced plan before xs
placed_front plan before [] ys h = tt
placed_front plan before (tick.Event event position ∷ xs) ys h = (h.0, placed_front plan (before ++ event_tick event ∷ []) xs ys h.1)
placed_front plan before (tick.Mark time ∷ xs) ys h = placed_front plan (before ++ plain (tick.Mark time) ∷ []) xs ys h

map-push : (xs : List Tick) (t : Tick) → map plain (xs ++ t ∷ []) ≡ map plain xs ++ plain t ∷ []
map-push [] t = refl
map-push (x ∷ xs) t = ap (λ l. plain x ∷ l) (map-push xs t)

pub still_stands : (plan : Plan) (starts : List (Option Value × ℕ)) (held : List Tick) (t : Tick) (xs : List Tick)
    → StandsFor plan held xs → IsPlaced plan [] (xs ++ t ∷ []) → NeverFall [] (map plain (xs ++ t ∷ []))
    → ListsOldest plan starts (map plain (xs ++ t ∷ [])) → StandsFor plan (noted plan starts (held ++ t ∷ [])) (xs ++ t ∷ [])
still_stands plan starts held t xs stands placed never lists =
    let h = map plain xs in
    let next : Option Value → Option ℕ = λ key. oldest plan (ticks_of_key plan key (h ++ plain t ∷ [])) in
    let last : Option Value → Option ℕ = λ key. oldest plan (ticks_of_key plan key h) in
    let never' = subst (NeverFall []) (map-push xs t) never in
    let same : (key : Option Value) → start_listed starts key ≡ next key = λ key. lists key ∙ ap (λ l. oldest plan (ticks_of_key plan key l)) (map-push xs t) in
    record {
      placed = placed;
      is =
          noted_from plan starts [] (held ++ t ∷ []) tt
          ∙ ap from_first (starts_same plan (start_listed starts) next same (held ++ t ∷ []))
          ∙ ap (λ l. from_first (filter (is_kept plan next) (l ++ t ∷ []))) stands.is
          ∙ filter_mark plan next (filter (is_kept plan last) xs) (t ∷ [])
          ∙ ap from_first (filter-append (is_kept plan next) (filter (is_kept plan last) xs) (t ∷ []))
          ∙ ap (λ l. from_first (l ++ filter (is_kept plan next) (t ∷ [])))
          (filter_twice (is_kept plan next) (is_kept plan last) xs (all_stayed plan h (plain t) never' [] xs refl
          (placed_front plan [] xs (t ∷ []) placed)))
          ∙ sym (ap from_first (filter-append (is_kept plan next) xs (t ∷ [])))
          ∙ ap from_first (starts_same plan next (λ key. oldest plan (ticks_of_key plan key (map plain (xs ++ t ∷ []))))
          (λ key. sym (ap (λ l. oldest plan (ticks_of_key plan key l)) (map-push xs t))) (xs ++ t ∷ []));
    }

-- the recent ticks are those of the definition
recent_from : (plan : Plan) (all before : List plain_tick.Tick) (xs : List Tick) → IsPlaced plan before xs
    → map plain (filter (is_kept plan (λ key. oldest plan (ticks_of_key plan key all))) xs) ≡ recent_events plan all before (map plain xs)
recent_from plan all before [] h = refl
recent_from plan all before (tick.Event event position ∷ xs) h =
    ap (λ n. map plain (cond (option_map_or (λ start. nat_le start n) (oldest plan (ticks_of_key plan (key_of plan event) all)) false)
    (tick.Event event position ∷ rest) rest)) h.0
    ∙ decided (is_recent plan all before event) (recent_from plan all (before ++ event_tick event ∷ []) xs h.1) where
      rest : List Tick
      rest = filter (is_kept plan (λ key. oldest plan (ticks_of_key plan key all))) xs

      decided : (b : Bool) → map plain (filter (is_kept plan (λ key. oldest plan (ticks_of_key plan key all))) xs)
          ≡ recent_events plan all (before ++ event_tick event ∷ []) (map plain xs)
          → map plain (cond b (tick.Event event position ∷ filter (is_kept plan (λ key. oldest plan (ticks_of_key plan key all))) xs)
          (filter (is_kept plan (λ key. oldest plan (ticks_of_key plan key all))) xs))
          ≡ (if b then event_tick event ∷ recent_events plan all (before ++ event_tick event ∷ []) (map plain xs) else recent_events plan all
          (before ++ event_tick event ∷ []) (map plain xs))
      decided true e = ap (λ l. event_tick event ∷ l) e
      decided false e = e
recent_from plan all before (tick.Mark time ∷ xs) h = ap (λ l. plain (tick.Mark time) ∷ l) (recent_from plan all (before ++ plain (tick.Mark time) ∷ []) xs h)

first_plain : (xs : List Tick) → map plain (from_first xs) ≡ from_event (map plain xs)
first_plain [] = refl
first_plain (tick.Event event position ∷ xs) = refl
first_plain (tick.Mark time ∷ xs) = first_plain xs

pub stands_recent : (plan : Plan) (held xs : List Tick) → StandsFor plan held xs → map plain held ≡ recent plan (map plain xs)
unfolding recent
stands_recent plan held xs stands =
    let all = map plain xs in
    ap (map plain) stands.is ∙ first_plain (filter (is_kept plan (λ key. oldest plan (ticks_of_key plan key all))) xs)
    ∙ ap from_event (recent_from plan all [] xs stands.placed)
