-- The counts go along with what the rows state, row by row.
use Rattle.std.proofs.Common.{◌≡◌, refl, sym, ◌∙◌, ap, subst, ℕ, ℤ, ◌+◌, Bool, true, false, if◌then◌else◌, ◌||◌, List, [], ◌∷◌, ◌++◌, arith}
use Rattle.std.specs.Prelude.{Option, Some, None, is_some, unwrap_or, option_and_then}
use Rattle.std.specs.Option.{option_map_or}
use Rattle.std.specs.BTreeMap.{BTreeMap, get, get_by_text}
use Rattle.std.specs.Map.{update}
use Rattle.std.specs.Ordering.{int_cmp}
use Rattle.std.specs.Prelude.{String}
use Rattle.std.specs.Str.{bytes_eq}
use Rattle.std.proofs.lemmas.Map.{update_other}
use Rattle.std.proofs.lemmas.Slice.Eq.{bytes_eq-Decides}
use Rattle.cep_event.specs.declared.event.Event.{Event}
use Rattle.cep_event.specs.declared.value.Value.{Value}
use Rattle.cep_event.specs.declared.value.Value.TheVariants as value
use Rattle.cep_plan.specs.declared.plan.Plan.{Plan}
use Rattle.cep_plan.specs.Aggregate.{field_of}
use Rattle.cep_plan.specs.Keys.{key_of, same_key, same_value}
use Rattle.recent_laws.proofs.KeyLaws.{same_key-equal, same_key-itself}
use Rattle.cep_keeper.specs.declared.recent.Tick.{Tick}
use Rattle.cep_keeper.specs.declared.recent.Tick.TheVariants as tick
use Rattle.cep_keeper.specs.declared.counts.Counts.{Counts}
use Rattle.cep_keeper.specs.Counted.{event_count}
use Rattle.cep_keeper.specs.Rules.{is_among, has_known_key, key_count}
use Rattle.cep_keeper.specs.Tallies.{Tallies, Lists, count_of, count_before}
use Rattle.cep_keeper.proofs.CountLaws.{event_count-event, event_count-mark}

-- ---- one key of the counts

pub text_others : {Y : Type 0} (m n : BTreeMap (String Y) ℕ) (w : Option ℕ) (bytes other : List ℕ)
    → ((text : List ℕ) → get_by_text n text ≡ update bytes_eq (get_by_text m) bytes w text) → (other ≡ bytes → ⊥) → get_by_text n other ≡ get_by_text m other
text_others m n w bytes other h differ = h other ∙ update_other bytes_eq (get_by_text m) bytes w other (decided (bytes_eq bytes other) refl) where
  decided : (b : Bool) → bytes_eq bytes other ≡ b → b ≡ false
  decided true is = absurd (differ (sym ((bytes_eq-Decides bytes other).0 is)))
  decided false is = refl

pub number_others : (c now : Counts) (key : Value) (number : ℤ) → key ≡ value.Int number → now.texts ≡ c.texts
    → ((other : ℤ) → (other ≡ number → ⊥) → get int_cmp now.numbers other ≡ get int_cmp c.numbers other)
    → (other : Value) → (other ≡ key → ⊥) → count_of now other ≡ count_of c other
number_others c now key number is same h (value.Int other) differ = h other (λ e. differ (ap value.Int e ∙ sym is))
number_others c now key number is same h (value.Text other) differ = ap (λ m. get_by_text m other) same

-- ---- keys

among_push : (keys : List Value) (key other : Value) → same_value other key ≡ false → is_among (keys ++ key ∷ []) other ≡ is_among keys other
among_push [] key other h = ap (λ b. b || false) h
among_push (first ∷ keys) key other h = ap (λ b. same_value other first || b) (among_push keys key other h)

among_itself : (keys : List Value) (key : Value) → is_among (keys ++ key ∷ []) key ≡ true
among_itself [] key = ap (λ b. b || false) (same_key-itself (Some key))
among_itself (first ∷ keys) key = decided (same_value key first) (among_itself keys key) where
  decided : (b : Bool) → is_among (keys ++ key ∷ []) key ≡ true → (b || is_among (keys ++ key ∷ []) key) ≡ true
  decided true h = refl
  decided false h = h

-- where the pattern names a field, the key of the event is there
known_key : (plan : Plan) (keys : List Value) (event : Event) (key : Value) → key_of plan event ≡ Some key → has_known_key plan keys event ≡ true
    → is_among keys key ≡ true
known_key plan keys event key = at plan.by (λ field. field_of plan.types field event) where
  at : (by : Option ℕ) (f : ℕ → Option Value) → option_and_then f by ≡ Some key
      → option_map_or (λ field. option_map_or (is_among keys) (option_and_then f by) false) by true ≡ true → is_among keys key ≡ true
  at None f is h = absurd cc
  at (Some field) f is h = sym (ap (λ o. option_map_or (is_among keys) o false) is) ∙ h

no_field : (plan : Plan) (keys : List Value) (event : Event) → key_of plan event ≡ None → has_known_key plan keys event ≡ true → plan.by ≡ None
no_field plan keys event = at plan.by (λ field. field_of plan.types field event) where
  at : (by : Option ℕ) (f : ℕ → Option Value) → option_and_then f by ≡ None
      → option_map_or (λ field. option_map_or (is_among keys) (option_and_then f by) false) by true ≡ true → by ≡ None
  at None f is h = refl
  at (Some field) f is h = let wrong : false ≡ true = sym (ap (λ o. option_map_or (is_among keys) o false) is) ∙ h in absurd cc

-- ---- counts

all_counted : (plan : Plan) → plan.by ≡ None → (ticks : List Tick) → key_count plan None ticks ≡ event_count ticks
all_counted plan none [] = refl
all_counted plan none (tick.Event event position ∷ ticks) =
    let is : key_of plan event ≡ None = ap (option_and_then (λ field. field_of plan.types field event)) none in
    ap (λ o. (if same_key o None then 1 else 0) + key_count plan None ticks) is ∙ ap (λ n. 1 + n) (all_counted plan none ticks)
all_counted plan none (tick.Mark time ∷ ticks) = let h = all_counted plan none ticks in omega (arith, h)

key_count-event : (plan : Plan) (key : Option Value) (ticks : List Tick) (event : Event) (position : ℕ)
    → key_count plan key (ticks ++ tick.Event event position ∷ []) ≡ key_count plan key ticks + (if same_key (key_of plan event) key then 1 else 0)
key_count-event plan key [] event position = omega arith
key_count-event plan key (tick.Event other place ∷ ticks) event position = let h = key_count-event plan key ticks event position in omega (arith, h)
key_count-event plan key (tick.Mark time ∷ ticks) event position = let h = key_count-event plan key ticks event position in omega (arith, h)

key_count-mark : (plan : Plan) (key : Option Value) (ticks : List Tick) (time : ℤ)
    → key_count plan key (ticks ++ tick.Mark time ∷ []) ≡ key_count plan key ticks
key_count-mark plan key [] time = refl
key_count-mark plan key (tick.Event other place ∷ ticks) time = ap (λ n. (if same_key (key_of plan other) key then 1 else 0) + n)
    (key_count-mark plan key ticks time)
key_count-mark plan key (tick.Mark other ∷ ticks) time = let h = key_count-mark plan key ticks time in omega (arith, h)

-- ---- the law

pub lists : (plan : Plan) (c : Counts) (keys : List Value) (ticks : List Tick) → Tallies plan c keys ticks → Lists c keys
lists plan c keys ticks t key = ap is_some (t.own key) ∙ decided (is_among keys key) where
  decided : (b : Bool) → is_some (if b then Some (key_count plan (Some key) ticks) else None) ≡ b
  decided true = refl
  decided false = refl

pub tallies_none : (plan : Plan) (c : Counts) → c.events ≡ 0 → ((key : Value) → count_of c key ≡ None) → Tallies plan c [] []
tallies_none plan c events none = record { all = events; own = none }

pub tallies_key : (plan : Plan) (c now : Counts) (keys : List Value) (ticks : List Tick) (key : Value) → Tallies plan c keys ticks
    → count_of now key ≡ Some (key_count plan (Some key) ticks) → ((other : Value) → (other ≡ key → ⊥) → count_of now other ≡ count_of c other)
    → now.events ≡ c.events → Tallies plan now (keys ++ key ∷ []) ticks
tallies_key plan c now keys ticks key t here others events = record { all = events ∙ t.all; own = λ other. decided other (same_value other key) refl } where
  decided : (other : Value) (b : Bool) → same_value other key ≡ b
      → count_of now other ≡ (if is_among (keys ++ key ∷ []) other then Some (key_count plan (Some other) ticks) else None)
  decided other true is =
      let same : Some other ≡ Some key = same_key-equal (Some other) (Some key) is in
      let one : other ≡ key = cc in
      subst (λ v. count_of now v ≡ (if is_among (keys ++ key ∷ []) v then Some (key_count plan (Some v) ticks) else None)) (sym one)
      (here ∙ sym (ap (λ b. if b then Some (key_count plan (Some key) ticks) else None) (among_itself keys key)))
  decided other false is =
      others other (λ e. let wrong : false ≡ true = sym is ∙ ap (λ v. same_value other v) (sym e) ∙ same_key-itself (Some other) in absurd cc)
      ∙ t.own other ∙ sym (ap (λ b. if b then Some (key_count plan (Some other) ticks) else None) (among_push keys key other is))

pub position_is : (plan : Plan) (c : Counts) (keys : List Value) (ticks : List Tick) (event : Event) → Tallies plan c keys ticks
    → has_known_key plan keys event ≡ true → count_before plan c event ≡ key_count plan (key_of plan event) ticks
position_is plan c keys ticks event t known = at (key_of plan event) refl where
  at : (key : Option Value) → key_of plan event ≡ key → option_map_or (λ key. unwrap_or (count_of c key) 0) key c.events ≡ key_count plan key ticks
  at None is = t.all ∙ sym (all_counted plan (no_field plan keys event is known) ticks)
  at (Some key) is =
      ap (λ o. unwrap_or o 0) (t.own key ∙ ap (λ b. if b then Some (key_count plan (Some key) ticks) else None) (known_key plan keys event key is known))

pub tallies_event : (plan : Plan) (c now : Counts) (keys : List Value) (ticks : List Tick) (event : Event) (position : ℕ) → Tallies plan c keys ticks
    → has_known_key plan keys event ≡ true → now.events ≡ c.events + 1
    → ((key : Value) → key_of plan event ≡ Some key → count_of now key ≡ Some (count_before plan c event + 1))
    → ((key : Value) → (key_of plan event ≡ Some key → ⊥) → count_of now key ≡ count_of c key)
    → Tallies plan now keys (ticks ++ tick.Event event position ∷ [])
tallies_event plan c now keys ticks event position t known events own others =
    let more = event_count-event ticks event position in
    let had = t.all in
    record { all = omega (arith, more, had, events); own = λ key. decided key (same_key (key_of plan event) (Some key)) refl } where
      after : List Tick
      after = ticks ++ tick.Event event position ∷ []

      decided : (key : Value) (b : Bool) → same_key (key_of plan event) (Some key) ≡ b
          → count_of now key ≡ (if is_among keys key then Some (key_count plan (Some key) (ticks ++ tick.Event event position ∷ [])) else None)
      decided key true is =
          let has = same_key-equal (key_of plan event) (Some key) is in
          let count = key_count-event plan (Some key) ticks event position ∙ ap (λ b. key_count plan (Some key) ticks + (if b then 1 else 0)) is in
          let before = position_is plan c keys ticks event t known ∙ ap (λ k. key_count plan k ticks) has in
          own key has ∙ ap (λ n. Some (n + 1)) before ∙ ap Some (sym count)
          ∙ sym (ap (λ b. if b then Some (key_count plan (Some key) (ticks ++ tick.Event event position ∷ [])) else None)
          (known_key plan keys event key has known))
      decided key false is =
          let count = key_count-event plan (Some key) ticks event position ∙ ap (λ b. key_count plan (Some key) ticks + (if b then 1 else 0)) is in
          let same : key_count plan (Some key) (ticks ++ tick.Event event position ∷ []) ≡ key_count plan (Some key) ticks = omega (arith, count) in
          others key (λ e. let wrong : false ≡ true = sym is ∙ ap (λ k. same_key k (Some key)) e ∙ same_key-itself (Some key) in absurd cc)
          ∙ t.own key ∙ ap (λ n. if is_among keys key then Some n else None) (sym same)

pub tallies_mark : (plan : Plan) (c : Counts) (keys : List Value) (ticks : List Tick) (time : ℤ) → Tallies plan c keys ticks
    → Tallies plan c keys (ticks ++ tick.Mark time ∷ [])
tallies_mark plan c keys ticks time t = record {
  all = t.all ∙ sym (event_count-mark ticks time);
  own = λ key. t.own key ∙ ap (λ n. if is_among keys key then Some n else None) (sym (key_count-mark plan (Some key) ticks time));
}
