-- What is due, one at a time and all together.
use Rattle.std.proofs.Common.{◌≡◌, refl, sym, ◌∙◌, ap, ℕ, ◌+◌, arith, Bool, true, false, not, ◌&&◌, ◌||◌, ◌==◌, cond, List, [], ◌∷◌, ◌++◌, length, map}
use Rattle.std.specs.Prelude.{ℤ, pos, ◌+ℤ◌, filter, Option, Some, None, option_map, IfSome, Contains}
use Rattle.std.specs.List.{list_any, AllByRecursion as Each}
use Rattle.std.proofs.lemmas.Bool.{eq-eqb, eqb-true}
use Rattle.cep_event.specs.declared.record.Moment.{Moment}
use Rattle.cep_event.specs.Moment.{has_reached}
use Rattle.cep_plan.specs.declared.item.Due.{Due}
use Rattle.cep_plan.specs.declared.item.Due.TheVariants.{Start, Last}
use Rattle.cep_plan.specs.Limit.{is_limit_reached, is_due, is_time_left}
use Rattle.cep_plan.proofs.FilteredLaws.{Contains-filter}
use Rattle.live_laws.proofs.LiveLaws.{list_any-contains}
use Rattle.cep_plan.proofs.RisingLaws.{Each-map}
use Rattle.live_laws.proofs.MemberLaws.{filter-filter, filter-map, map_back, Each-filter}
use Rattle.time_limit.specs.declared.queue.Place.{Place}
use Rattle.time_limit.specs.Limits.{Kept, limited, is_over, first_over, without_first_over, earlier_due, first_due, without_due_by, without_first_due}
use Rattle.due_laws.specs.Due.{due_among, left_among, dues_of, left_of}

-- ---- what holds of each

pub Each-of_map : {X Y : Type 0} (P : Y → Type 0) (f : X → Y) (xs : List X) → Each P (map f xs) → Each (λ x. P (f x)) xs
Each-of_map P f [] h = tt
Each-of_map P f (x ∷ xs) h = (h.0, Each-of_map P f xs h.1)

-- what holds of each start holds of each that is due
pub due_each : (P : ℕ → Type 0) (test : Place → Bool) (starts : List Place) → Each (λ s. P s.position) starts
    → Each P (map (λ s. s.position) (filter test starts))
due_each P test starts h = Each-map P (λ (s : Place). s.position) (filter test starts) (Each-filter (λ (s : Place). P s.position) test starts h)

-- ---- one after another

module _ (within : Option ℕ) (now : Moment) where
  one_due : (start : Place) (later : List Place) (position : ℕ) (over : Bool) → is_over within now start ≡ over
      → cond over (Some start.position) (first_over within now later) ≡ Some position
      → (first_over within now later ≡ Some position → due_among within now later ≡ position ∷ due_among within now (without_first_over within now later))
      → map (λ s. s.position) (cond over (start ∷ filter (is_over within now) later) (filter (is_over within now) later))
      ≡ position ∷ due_among within now (cond over later (start ∷ without_first_over within now later))
  one_due start later position true is found go = let same : start.position ≡ position = cc in λ i. same i ∷ due_among within now later
  one_due start later position false is found go =
      go found
      ∙ ap (λ b. position ∷ map (λ s. s.position)
      (cond b (start ∷ filter (is_over within now) (without_first_over within now later))
      (filter (is_over within now) (without_first_over within now later)))) (sym is)

  pub due_among-next : (starts : List Place) (position : ℕ) → first_over within now starts ≡ Some position
      → due_among within now starts ≡ position ∷ due_among within now (without_first_over within now starts)
  due_among-next [] position found = let no : None ≡ Some position = found in absurd cc
  due_among-next (start ∷ later) position found = one_due start later position (is_over within now start) refl found (due_among-next later position)

  one_left : (start : Place) (later : List Place) (over : Bool) → is_over within now start ≡ over
      → left_among within now later ≡ left_among within now (without_first_over within now later)
      → cond (not over) (start ∷ left_among within now later) (left_among within now later)
      ≡ left_among within now (cond over later (start ∷ without_first_over within now later))
  one_left start later true is go = refl
  one_left start later false is go =
      (λ i. start ∷ go i)
      ∙ ap (λ b. cond (not b) (start ∷ left_among within now (without_first_over within now later))
      (left_among within now (without_first_over within now later))) (sym is)

  pub left_among-next : (starts : List Place) → left_among within now starts ≡ left_among within now (without_first_over within now starts)
  left_among-next [] = refl
  left_among-next (start ∷ later) = one_left start later (is_over within now start) refl (left_among-next later)

  done_one : (start : Place) (later : List Place) (over : Bool) → is_over within now start ≡ over
      → cond over (Some start.position) (first_over within now later) ≡ None
      → (first_over within now later ≡ None → (due_among within now later ≡ []) × (left_among within now later ≡ later)
      × (without_first_over within now later ≡ later))
      → (map (λ s. s.position) (cond over (start ∷ filter (is_over within now) later) (filter (is_over within now) later)) ≡ [])
      × (cond (not over) (start ∷ left_among within now later) (left_among within now later) ≡ start ∷ later)
      × (cond over later (start ∷ without_first_over within now later) ≡ start ∷ later)
  done_one start later true is none go = let no : Some start.position ≡ None = none in absurd cc
  done_one start later false is none go = let rest = go none in (rest.0, (λ i. start ∷ rest.1 i), (λ i. start ∷ rest.2 i))

  pub due_among-done : (starts : List Place) → first_over within now starts ≡ None → (due_among within now starts ≡ [])
      × (left_among within now starts ≡ starts) × (without_first_over within now starts ≡ starts)
  due_among-done [] none = (refl, refl, refl)
  due_among-done (start ∷ later) none = done_one start later (is_over within now start) refl none (due_among-done later)

  shorter_one : (start : Place) (later : List Place) (position : ℕ) (over : Bool)
      → cond over (Some start.position) (first_over within now later) ≡ Some position
      → (first_over within now later ≡ Some position → length (without_first_over within now later) + 1 ≡ length later)
      → length (cond over later (start ∷ without_first_over within now later)) + 1 ≡ length (start ∷ later)
  shorter_one start later position true found go = omega arith
  shorter_one start later position false found go = let less = go found in omega (arith, less)

  pub without_first_over-shorter : (starts : List Place) (position : ℕ) → first_over within now starts ≡ Some position
      → length (without_first_over within now starts) + 1 ≡ length starts
  without_first_over-shorter [] position found = let no : None ≡ Some position = found in absurd cc
  without_first_over-shorter (start ∷ later) position found =
      shorter_one start later position (is_over within now start) found (without_first_over-shorter later position)

-- ---- all together, from the starts that are alive

filter_no : {X : Type 0} (test : X → Bool) (xs : List X) → ((x : X) → test x ≡ false) → filter test xs ≡ []
filter_no test [] h = refl
filter_no test (x ∷ xs) h = (λ i. cond (h x i) (x ∷ filter test xs) (filter test xs)) ∙ filter_no test xs h

module _ (time : ℕ → ℤ) (alive : ℕ → Bool) (now : Moment) where
  abbrev start : ℕ → Place
  start position = record { position = position; ts = time position }

  abbrev limit : Option ℕ → ℕ → Option ℤ
  limit within position = option_map (λ w. time position +ℤ pos w) within

  abbrev open_before : Option ℕ → Option Moment → ℕ → Bool
  open_before within before position = alive position && is_time_left (limit within position) before

  due_bits : (r a t : Bool) → (r && (a && not t)) ≡ ((not t && r) && a)
  due_bits false false false = refl
  due_bits false false true = refl
  due_bits false true false = refl
  due_bits false true true = refl
  due_bits true false false = refl
  due_bits true false true = refl
  due_bits true true false = refl
  due_bits true true true = refl

  not_due : (before : Option Moment) (position : ℕ) → (is_due (limit None position) before now && alive position) ≡ false
  not_due None position = refl
  not_due (Some moment) position = refl

  pub due_among-limited : (within : Option ℕ) (before : Option Moment) (positions : List ℕ) → (before ≡ None → positions ≡ [])
      → due_among within now (limited within (map start (filter (open_before within before) positions)))
      ≡ filter (λ p. is_due (limit within p) before now && alive p) positions
  due_among-limited None before positions first = sym (filter_no (λ p. is_due (limit None p) before now && alive p) positions (not_due before))
  due_among-limited (Some w) None positions first =
      ap (λ ps. due_among (Some w) now (map start (filter (open_before (Some w) None) ps))) (first refl)
      ∙ sym (ap (filter (λ p. is_due (limit (Some w) p) None now && alive p)) (first refl))
  due_among-limited (Some w) (Some moment) positions first =
      ap (map (λ s. s.position)) (filter-map (is_over (Some w) now) start (filter (open_before (Some w) (Some moment)) positions))
      ∙ map_back start (λ s. s.position) (filter (λ p. is_over (Some w) now (start p)) (filter (open_before (Some w) (Some moment)) positions))
      (each_same (filter (λ p. is_over (Some w) now (start p)) (filter (open_before (Some w) (Some moment)) positions)))
      ∙ filter-filter (λ p. is_over (Some w) now (start p)) (open_before (Some w) (Some moment)) positions
      ∙ ap (λ test. filter test positions) (λ i p. due_bits (is_limit_reached (limit (Some w) p) now) (alive p)
      (is_limit_reached (limit (Some w) p) moment) i) where
        each_same : (ps : List ℕ) → Each (λ p. (start p).position ≡ p) ps
        each_same [] = tt
        each_same (p ∷ ps) = (refl, each_same ps)

  left_bits : (r a t : Bool) → (t ≡ true → r ≡ true) → (not r && (a && not t)) ≡ (a && not r)
  left_bits r true true h = (λ i. not (h refl i) && false) ∙ sym (ap not (h refl))
  left_bits r false true h = (λ i. not (h refl i) && false)
  left_bits true true false h = refl
  left_bits true false false h = refl
  left_bits false true false h = refl
  left_bits false false false h = refl

  pub left_among-limited : (within : Option ℕ) (before : Option Moment) (positions : List ℕ) → (before ≡ None → positions ≡ [])
      → IfSome before (λ earlier. (t : ℤ) → has_reached earlier t ≡ true → has_reached now t ≡ true)
      → left_among within now (limited within (map start (filter (open_before within before) positions)))
      ≡ limited within (map start (filter (open_before within (Some now)) positions))
  left_among-limited None before positions first later = refl
  left_among-limited (Some w) None positions first later =
      ap (λ ps. left_among (Some w) now (map start (filter (open_before (Some w) None) ps))) (first refl)
      ∙ sym (ap (λ ps. map start (filter (open_before (Some w) (Some now)) ps)) (first refl))
  left_among-limited (Some w) (Some moment) positions first later =
      filter-map (λ s. not (is_over (Some w) now s)) start (filter (open_before (Some w) (Some moment)) positions)
      ∙ ap (map start) (filter-filter (λ p. not (is_over (Some w) now (start p))) (open_before (Some w) (Some moment)) positions
      ∙ ap (λ test. filter test positions) (λ i p. left_bits (is_limit_reached (limit (Some w) p) now) (alive p)
      (is_limit_reached (limit (Some w) p) moment) (later (time p +ℤ pos w)) i))

-- ---- whether a position is one of those

another : (test : ℕ → Bool) (position x : ℕ) (kept : Bool) → test x ≡ kept → test position ≡ false → kept ≡ true → (x == position) ≡ false
another test position x kept is h passed = by_test (x == position) refl where
  by_test : (b : Bool) → (x == position) ≡ b → (x == position) ≡ false
  by_test true e = let no : true ≡ false = sym passed ∙ sym is ∙ ap test (eqb-true x position e) ∙ h in absurd cc
  by_test false e = e

none_is : (test : ℕ → Bool) (position : ℕ) (xs : List ℕ) → test position ≡ false → list_any (λ x. x == position) (filter test xs) ≡ false
none_is test position [] h = refl
none_is test position (x ∷ xs) h = chosen (test x) refl (none_is test position xs h) where
  chosen : (kept : Bool) → test x ≡ kept → list_any (λ y. y == position) (filter test xs) ≡ false
      → list_any (λ y. y == position) (cond kept (x ∷ filter test xs) (filter test xs)) ≡ false
  chosen true is rest = neither (x == position) (list_any (λ y. y == position) (filter test xs)) (another test position x true is h refl) rest where
    neither : (a b : Bool) → a ≡ false → b ≡ false → (a || b) ≡ false
    neither a b p q = (λ i. p i || b) ∙ q
  chosen false is rest = rest

pub is_among-filtered : (test : ℕ → Bool) (xs : List ℕ) (position : ℕ) → Contains xs position → list_any (λ x. x == position) (filter test xs) ≡ test position
is_among-filtered test xs position q = by_test (test position) refl where
  by_test : (b : Bool) → test position ≡ b → list_any (λ x. x == position) (filter test xs) ≡ test position
  by_test true h =
      list_any-contains (λ x. x == position) (filter test xs) position (Contains-filter test xs position q h) (eq-eqb position position refl) ∙ sym h
  by_test false h = none_is test position xs h ∙ sym h

-- ---- both kinds of dues

next_by : (kept : Kept) (now : Moment) (due : Due) (s l : Option ℕ) → first_over kept.within now kept.starts ≡ s
    → first_over kept.gap now kept.lasts ≡ l → earlier_due s l ≡ Some due → dues_of kept now ≡ due ∷ dues_of (without_due_by kept now s) now
next_by kept now due (Some p) l found other is =
    let same : Start p ≡ due = cc in
    ap (λ ps. map Start ps ++ map Last (due_among kept.gap now kept.lasts)) (due_among-next kept.within now kept.starts p found)
    ∙ (λ i. same i ∷ dues_of (without_due_by kept now (Some p)) now)
next_by kept now due None (Some p) none found is =
    let same : Last p ≡ due = cc in
    let no_start = (due_among-done kept.within now kept.starts none).0 in
    (λ i. map Start (no_start i) ++ map Last (due_among-next kept.gap now kept.lasts p found i))
    ∙ (λ i. same i ∷ (map Start (sym no_start i) ++ map Last (due_among kept.gap now (without_first_over kept.gap now kept.lasts))))
next_by kept now due None None none other is = let no : None ≡ Some due = is in absurd cc

-- the first due, and then the others
pub dues_of-next : (kept : Kept) (now : Moment) (due : Due) → first_due kept now ≡ Some due
    → dues_of kept now ≡ due ∷ dues_of (without_first_due kept now) now
dues_of-next kept now due is =
    next_by kept now due (first_over kept.within now kept.starts) (first_over kept.gap now kept.lasts) refl refl is

left_by : (kept : Kept) (now : Moment) (s : Option ℕ) → left_of kept now ≡ left_of (without_due_by kept now s) now
left_by kept now (Some p) = λ i. record (left_of kept now) { starts = left_among-next kept.within now kept.starts i }
left_by kept now None = λ i. record (left_of kept now) { lasts = left_among-next kept.gap now kept.lasts i }

-- what is left doesn't change
pub left_of-next : (kept : Kept) (now : Moment) → left_of kept now ≡ left_of (without_first_due kept now) now
left_of-next kept now = left_by kept now (first_over kept.within now kept.starts)

done_by : (kept : Kept) (now : Moment) (s l : Option ℕ) → first_over kept.within now kept.starts ≡ s → first_over kept.gap now kept.lasts ≡ l
    → earlier_due s l ≡ None → (dues_of kept now ≡ []) × (left_of kept now ≡ kept) × (without_due_by kept now s ≡ kept)
done_by kept now (Some p) l found other none = let no : Some (Start p) ≡ None = none in absurd cc
done_by kept now None (Some p) no_start found none = let no : Some (Last p) ≡ None = none in absurd cc
done_by kept now None None no_start no_last none =
    let starts = due_among-done kept.within now kept.starts no_start in
    let lasts = due_among-done kept.gap now kept.lasts no_last in (
      (λ i. map Start (starts.0 i) ++ map Last (lasts.0 i)),
      (λ i. record kept { starts = starts.1 i; lasts = lasts.1 i }),
      (λ i. record kept { lasts = lasts.2 i }),
    )

-- where nothing is due, all is left
pub dues_of-done : (kept : Kept) (now : Moment) → first_due kept now ≡ None
    → (dues_of kept now ≡ []) × (left_of kept now ≡ kept) × (without_first_due kept now ≡ kept)
dues_of-done kept now none = done_by kept now (first_over kept.within now kept.starts) (first_over kept.gap now kept.lasts) refl refl none
