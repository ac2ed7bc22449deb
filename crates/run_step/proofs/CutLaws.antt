-- The runs between two places are those that start in a range, and end one after the other.
use Rattle.std.proofs.Common.{◌≡◌, refl, sym, ◌∙◌, ap, subst, ℕ, zero, suc, ◌+◌, ◌-◌, ◌<◌, ◌≤◌, arith, Bool, true, false, cond, not, ◌&&◌, nat_le, nat_lt, List, [], ◌∷◌, ◌++◌, length, map, take, drop, get_or, set, ◌==◌, ◌⊎◌, inl, inr}
use Rattle.std.specs.Prelude.{filter, ◌||◌}
use Rattle.std.specs.List.{list_any, AllByRecursion as Each}
use Rattle.std.proofs.lemmas.Bool.{lt-ltb, le-ltb, le-leb, lt-leb, leb-true, and_right, eq-eqb, ne_eqb, cases_order}
use Rattle.std.proofs.lemmas.List.{map-append, drop_more}
use Rattle.cep_event.specs.declared.event.Event.{Event}
use Rattle.cep_plan.specs.declared.plan.Plan.{Plan}
use Rattle.live_laws.specs.Starts.{is_from}
use Rattle.shared_buffer.specs.Content.{Content as BufferContent}
use Rattle.list_buffer.specs.Held.{Holder, Holds, held_by, both_hold}
use Rattle.list_buffer.specs.Listed.{HoldsLists}
use Rattle.list_buffer.proofs.HeldLaws.{held_by-append}
use Rattle.list_buffer.proofs.LaterLaws.{HoldsLists-same}
use Rattle.list_runs.proofs.PartLaws.{filter-none, filter-each, Each-mapped, set-mapped}
use Rattle.run_step.specs.declared.runs.Run.{Run}
use Rattle.run_step.specs.Content.{Staged, Grouped, staged, in_group, in_groups}
use Rattle.run_step.specs.Putting.{AreHeldRuns, CanEndAll, CanEndAllSome, Ending}
use Rattle.run_step.proofs.StepLaws.{filter-of_append}
use Rattle.run_step.proofs.EndingLaws.{ends_all}

-- what is left between two places, and its first
pub window : {X : Type 0} (xs : List X) (place end : ℕ) (x : X) → place < end → end ≤ length xs → x ≡ get_or xs place x
    → take (end - place) (drop place xs) ≡ x ∷ take (end - (place + 1)) (drop (place + 1) xs)
window xs place end x lt le is =
    let count : end - place ≡ suc (end - (place + 1)) = omega (arith, lt) in
    ap (λ n. take n (drop place xs)) count
    ∙ ap (take (suc (end - (place + 1)))) (drop_more xs place x (omega (arith, lt, le)) ∙ ap (λ y. y ∷ drop (place + 1) xs) (sym is))

pub take-none : {X : Type 0} (xs : List X) (n : ℕ) → n ≡ 0 → take n xs ≡ []
take-none [] zero e = refl
take-none [] (suc n) e = refl
take-none (x ∷ xs) zero e = refl
take-none (x ∷ xs) (suc n) e = absurd (omega (arith, e))

take-nil : {X : Type 0} (n : ℕ) → take {A = X} n [] ≡ []
take-nil zero = refl
take-nil (suc n) = refl

drop-nil : {X : Type 0} (n : ℕ) → drop {A = X} n [] ≡ []
drop-nil zero = refl
drop-nil (suc n) = refl

-- the place of one start and that of another one
pub places : (runs : List Run) (first end from to : ℕ) → from ≤ to → first ≤ length runs → Each (λ (r : Run). r.start < from) (take first runs)
    → Each (λ (r : Run). to ≤ r.start) (drop end runs) → first ≤ end
places [] first end from to le bound before behind = omega (arith, bound)
places (run ∷ runs) zero end from to le bound before behind = omega arith
places (run ∷ runs) (suc first) zero from to le bound before behind = absurd (omega (arith, le, before.0, behind.0))
places (run ∷ runs) (suc first) (suc end) from to le bound before behind =
    let later = places runs first end from to le (omega (arith, bound)) before.1 behind in omega (arith, later)

module _ (from to : ℕ) where
  abbrev cuts : Run → Bool
  cuts run = is_from from to run.start

  abbrev keeps : Run → Bool
  keeps run = not (is_from from to run.start)

  before : (p : ℕ) → p < from → is_from from to p ≡ false
  before p lt = λ i. lt-leb from p lt i && nat_lt p to

  behind : (p : ℕ) → to ≤ p → is_from from to p ≡ false
  behind p le = and_right (nat_le from p) (nat_lt p to) (le-ltb p to le)

  between : (p : ℕ) → from ≤ p → p < to → is_from from to p ≡ true
  between p le lt = λ i. le-leb from p le i && lt-ltb p to lt i

  cut-front : (runs : List Run) (n : ℕ) → Each (λ (r : Run). from ≤ r.start) runs → Each (λ (r : Run). r.start < to) (take n runs)
      → Each (λ (r : Run). to ≤ r.start) (drop n runs) → filter cuts runs ≡ take n runs
  cut-front [] n a b c = sym (take-nil n)
  cut-front (r ∷ runs) zero a b c =
      filter-none cuts (r ∷ runs) (Each-mapped (λ (s : Run). to ≤ s.start) (λ s. cuts s ≡ false) (λ s le. behind s.start le) (r ∷ runs) c)
  cut-front (r ∷ runs) (suc n) a b c = ap (λ k. cond k (r ∷ filter cuts runs) (filter cuts runs)) (between r.start a.0 b.0)
      ∙ ap (λ l. r ∷ l) (cut-front runs n a.1 b.1 c)

  -- the runs that start in the range
  pub cut-runs : (runs : List Run) (first n end : ℕ) → end ≡ n + first → Each (λ (r : Run). r.start < from) (take first runs)
      → Each (λ (r : Run). from ≤ r.start) (drop first runs)
      → Each (λ (r : Run). r.start < to) (take end runs) → Each (λ (r : Run). to ≤ r.start) (drop end runs) → filter cuts runs ≡ take n (drop first runs)
  cut-runs [] first n end e a b c d = sym (take-nil n) ∙ ap (take n) (sym (drop-nil first))
  cut-runs (r ∷ runs) zero n end e a b c d =
      let same : end ≡ n = omega (arith, e) in
      cut-front (r ∷ runs) n b (subst (λ k. Each (λ (s : Run). s.start < to) (take k (r ∷ runs))) same c)
      (subst (λ k. Each (λ (s : Run). to ≤ s.start) (drop k (r ∷ runs))) same d)
  cut-runs (r ∷ runs) (suc first) n zero e a b c d = absurd (omega (arith, e))
  cut-runs (r ∷ runs) (suc first) n (suc end) e a b c d =
      ap (λ k. cond k (r ∷ filter cuts runs) (filter cuts runs)) (before r.start a.0) ∙ cut-runs runs first n end (omega (arith, e)) a.1 b c.1 d

  -- and the others
  pub kept-runs : (runs : List Run) (first end : ℕ) → first ≤ end → Each (λ (r : Run). r.start < from) (take first runs)
      → Each (λ (r : Run). from ≤ r.start) (drop first runs)
      → Each (λ (r : Run). r.start < to) (take end runs) → Each (λ (r : Run). to ≤ r.start) (drop end runs)
      → filter keeps runs ≡ take first runs ++ drop end runs
  kept-runs [] zero zero le a b c d = refl
  kept-runs [] zero (suc end) le a b c d = refl
  kept-runs [] (suc first) zero le a b c d = refl
  kept-runs [] (suc first) (suc end) le a b c d = refl
  kept-runs (r ∷ runs) zero zero le a b c d =
      filter-each keeps (r ∷ runs) (Each-mapped (λ (s : Run). to ≤ s.start) (λ s. keeps s ≡ true) (λ s h. ap not (behind s.start h)) (r ∷ runs) d)
  kept-runs (r ∷ runs) zero (suc end) le a b c d =
      ap (λ k. cond (not k) (r ∷ filter keeps runs) (filter keeps runs)) (between r.start b.0 c.0) ∙ from_front runs end b.1 c.1 d where
        from_front : (rs : List Run) (k : ℕ) → Each (λ (s : Run). from ≤ s.start) rs → Each (λ (s : Run). s.start < to) (take k rs)
            → Each (λ (s : Run). to ≤ s.start) (drop k rs) → filter keeps rs ≡ drop k rs
        from_front [] k x y z = sym (drop-nil k)
        from_front (s ∷ rs) zero x y z =
            filter-each keeps (s ∷ rs) (Each-mapped (λ (q : Run). to ≤ q.start) (λ q. keeps q ≡ true) (λ q h. ap not (behind q.start h)) (s ∷ rs) z)
        from_front (s ∷ rs) (suc k) x y z = ap (λ b. cond (not b) (s ∷ filter keeps rs) (filter keeps rs)) (between s.start x.0 y.0) ∙ from_front rs k x.1 y.1 z
  kept-runs (r ∷ runs) (suc first) zero le a b c d = absurd (omega (arith, le))
  kept-runs (r ∷ runs) (suc first) (suc end) le a b c d =
      ap (λ k. cond (not k) (r ∷ filter keeps runs) (filter keeps runs)) (before r.start a.0)
      ∙ ap (λ l. r ∷ l) (kept-runs runs first end (omega (arith, le)) a.1 b c.1 d)

  -- an empty range has none
  none-one : to ≤ from → (p : ℕ) → is_from from to p ≡ false
  none-one le p = by_test (nat_le from p) refl where
    by_test : (b : Bool) → nat_le from p ≡ b → (b && nat_lt p to) ≡ false
    by_test true is = le-ltb p to (omega (arith, le, leb-true from p is))
    by_test false is = refl

  pub cut-none : to ≤ from → (runs : List Run) → filter cuts runs ≡ []
  cut-none le [] = refl
  cut-none le (r ∷ runs) = ap (λ k. cond k (r ∷ filter cuts runs) (filter cuts runs)) (none-one le r.start) ∙ cut-none le runs

  pub kept-all : to ≤ from → (runs : List Run) → filter keeps runs ≡ runs
  kept-all le [] = refl
  kept-all le (r ∷ runs) = ap (λ k. cond (not k) (r ∷ filter keeps runs) (filter keeps runs)) (none-one le r.start) ∙ ap (λ l. r ∷ l) (kept-all le runs)

-- ---- the runs with one start

one_start : (start p : ℕ) → is_from start (start + 1) p ≡ (p == start)
one_start start p = by_order (cases_order p start) where
  by_order : (p ≡ start) ⊎ ((p < start) ⊎ (start < p)) → is_from start (start + 1) p ≡ (p == start)
  by_order (inl e) = between start (start + 1) p (omega (arith, e)) (omega (arith, e)) ∙ sym (eq-eqb p start e)
  by_order (inr (inl h)) = before start (start + 1) p h ∙ sym (ne_eqb p start (λ e. omega (arith, e, h)))
  by_order (inr (inr h)) = behind start (start + 1) p (omega (arith, h)) ∙ sym (ne_eqb p start (λ e. omega (arith, e, h)))

module _ (start : ℕ) (runs : List Run) (first end : ℕ) (bound : first ≤ length runs) (a : Each (λ (r : Run). r.start < start) (take first runs))
    (b : Each (λ (r : Run). start ≤ r.start) (drop first runs)) (c : Each (λ (r : Run). r.start ≤ start) (take end runs))
    (d : Each (λ (r : Run). start < r.start) (drop end runs)) where
  below_next : Each (λ (r : Run). r.start < start + 1) (take end runs)
  below_next = Each-mapped (λ (r : Run). r.start ≤ start) (λ r. r.start < start + 1) (λ r h. omega (arith, h)) (take end runs) c

  from_next : Each (λ (r : Run). start + 1 ≤ r.start) (drop end runs)
  from_next = Each-mapped (λ (r : Run). start < r.start) (λ r. start + 1 ≤ r.start) (λ r h. omega (arith, h)) (drop end runs) d

  pub start-order : first ≤ end
  start-order = places runs first end start (start + 1) (omega arith) bound a from_next

  pub start-cut : filter (λ (r : Run). r.start == start) runs ≡ take (end - first) (drop first runs)
  start-cut =
      ap (λ test. filter test runs) (λ i (r : Run). sym (one_start start r.start) i)
      ∙ cut-runs start (start + 1) runs first (end - first) end (omega (arith, start-order)) a b below_next from_next

  pub start-kept : filter (λ (r : Run). not (r.start == start)) runs ≡ take first runs ++ drop end runs
  start-kept =
      ap (λ test. filter test runs) (λ i (r : Run). not (sym (one_start start r.start) i))
      ∙ kept-runs start (start + 1) runs first end start-order a b below_next from_next

-- ---- groups of which some runs go

module _ (goes : Run → Bool) where
  abbrev pub cut_group : Grouped → Grouped
  cut_group group = record { stage = group.stage; runs = filter (λ run. not (goes run)) group.runs }

  abbrev pub cut_of : List Grouped → List Run
  cut_of groups = map (λ (r : Staged). r.run) (filter (λ (r : Staged). goes r.run) (in_groups groups))

  cut-staged : (stage : ℕ) (runs : List Run)
      → map (λ (r : Staged). r.run) (filter (λ (r : Staged). goes r.run) (map (staged stage) runs)) ≡ filter goes runs
  cut-staged stage [] = refl
  cut-staged stage (r ∷ runs) = by_test (goes r) (cut-staged stage runs) where
    by_test : (b : Bool) → map (λ (s : Staged). s.run) (filter (λ (s : Staged). goes s.run) (map (staged stage) runs)) ≡ filter goes runs
        → map (λ (s : Staged). s.run) (cond b (staged stage r ∷ filter (λ (s : Staged). goes s.run) (map (staged stage) runs))
        (filter (λ (s : Staged). goes s.run) (map (staged stage) runs))) ≡ cond b (r ∷ filter goes runs) (filter goes runs)
    by_test true rest = ap (λ l. r ∷ l) rest
    by_test false rest = rest

  kept-staged : (stage : ℕ) (runs : List Run)
      → filter (λ (r : Staged). not (goes r.run)) (map (staged stage) runs) ≡ map (staged stage) (filter (λ run. not (goes run)) runs)
  kept-staged stage [] = refl
  kept-staged stage (r ∷ runs) = by_test (not (goes r)) (kept-staged stage runs) where
    by_test : (b : Bool) → filter (λ (s : Staged). not (goes s.run)) (map (staged stage) runs) ≡ map (staged stage) (filter (λ run. not (goes run)) runs)
        → cond b (staged stage r ∷ filter (λ (s : Staged). not (goes s.run)) (map (staged stage) runs))
        (filter (λ (s : Staged). not (goes s.run)) (map (staged stage) runs))
        ≡ map (staged stage) (cond b (r ∷ filter (λ run. not (goes run)) runs) (filter (λ run. not (goes run)) runs))
    by_test true rest = ap (λ l. staged stage r ∷ l) rest
    by_test false rest = rest

  pub cut-first : (group : Grouped) (groups : List Grouped) → cut_of (group ∷ groups) ≡ filter goes group.runs ++ cut_of groups
  cut-first group groups =
      let test = λ (r : Staged). goes r.run in
      ap (map (λ (r : Staged). r.run)) (filter-of_append test (in_group group) (in_groups groups))
      ∙ map-append (λ (r : Staged). r.run) (filter test (in_group group)) (filter test (in_groups groups))
      ∙ ap (λ l. l ++ cut_of groups) (cut-staged group.stage group.runs)

  pub kept-groups : (groups : List Grouped) → in_groups (map cut_group groups) ≡ filter (λ (r : Staged). not (goes r.run)) (in_groups groups)
  kept-groups [] = refl
  kept-groups (group ∷ groups) =
      let test = λ (r : Staged). not (goes r.run) in
      (λ i. sym (kept-staged group.stage group.runs) i ++ kept-groups groups i) ∙ sym (filter-of_append test (in_group group) (in_groups groups))

-- ---- some runs end, and then others

record Split (plan : Plan) (events : List Event) (holders : List Holder) (runs more : List Run) : Type 0 where
  these : List Holder
  others : List Holder
  parts : holders ≡ these ++ others
  these_are : AreHeldRuns plan events these runs
  others_are : AreHeldRuns plan events others more

split : (plan : Plan) (events : List Event) (holders : List Holder) (runs more : List Run) → AreHeldRuns plan events holders (runs ++ more)
    → Split plan events holders runs more
split plan events holders [] more are = record { these = []; others = holders; parts = refl; these_are = tt; others_are = are }
split plan events [] (r ∷ runs) more are = absurd are
split plan events (h ∷ holders) (r ∷ runs) more are =
    let rest = split plan events holders runs more are.1 in
    record {
      these = h ∷ rest.these;
      others = rest.others;
      parts = ap (λ l. h ∷ l) rest.parts;
      these_are = (are.0, rest.these_are);
      others_are =
          rest.others_are;
    }

-- the first of them can end, and the others after them
pub record EndsPart (plan : Plan) (events : List Event) (held : Holds) (runs more : List Run) (buffer : BufferContent) : Type 0 where
  pub holders : List Holder
  pub before : Holds
  pub can : CanEndAll plan events holders before runs buffer
  pub after : (new : BufferContent) → HoldsLists plan events before new → Ending plan events held more new

pub ends_part : (plan : Plan) (events : List Event) (held : Holds) (all runs more : List Run) (buffer : BufferContent) → all ≡ runs ++ more
    → Ending plan events held all buffer → EndsPart plan events held runs more buffer
ends_part plan events held all runs more buffer is ending =
    let parts = split plan events ending.holders runs more (subst (AreHeldRuns plan events ending.holders) is ending.can.runs_are) in
    record {
      holders = parts.these;
      before = both_hold held (held_by parts.others);
      can = record {
        has =
            HoldsLists-same plan events (both_hold held (held_by ending.holders))
            (both_hold (both_hold held (held_by parts.others)) (held_by parts.these)) buffer
            (λ list key. let same = ap (λ (hs : List Holder). held_by hs list key) parts.parts ∙ held_by-append parts.these parts.others list key in
            omega (arith, same)) ending.can.has;
        runs_are = parts.these_are;
      };
      after = λ new has. record { holders = parts.others; can = record { has = has; runs_are = parts.others_are } };
    }

pub part_some : (plan : Plan) (events : List Event) (held : Holds) (all runs more : List Run) (buffer : BufferContent) → all ≡ runs ++ more
    → Ending plan events held all buffer → CanEndAllSome runs buffer
part_some plan events held all runs more buffer is ending =
    let part = ends_part plan events held all runs more buffer is ending in
    record { plan = plan; events = events; holders = part.holders; held = part.before; can = part.can }

-- the same where no run is left
pub ends_none : (plan : Plan) (events : List Event) (held : Holds) (holders : List Holder) (runs : List Run) (buffer : BufferContent) → runs ≡ []
    → CanEndAll plan events holders held runs buffer → HoldsLists plan events held buffer
ends_none plan events held holders runs buffer none can = ends_all plan events held runs buffer (ap length none) (record { holders = holders; can = can })

-- the runs that pass a test, from a place on
pub next-passing : {X : Type 0} (test : X → Bool) (xs : List X) (place : ℕ) (x : X) → place < length xs → x ≡ get_or xs place x
    → filter test (drop place xs) ≡ cond (test x) (x ∷ []) [] ++ filter test (drop (place + 1) xs)
next-passing test xs place x lt is =
    ap (filter test) (drop_more xs place x lt ∙ ap (λ y. y ∷ drop (place + 1) xs) (sym is)) ∙ by_test (test x) where
      by_test : (b : Bool)
          → cond b (x ∷ filter test (drop (place + 1) xs)) (filter test (drop (place + 1) xs)) ≡ cond b (x ∷ []) [] ++ filter test (drop (place + 1) xs)
      by_test true = refl
      by_test false = refl

pub none-passing : {X : Type 0} (test : X → Bool) (xs : List X) (place : ℕ) → length xs ≤ place → filter test (drop place xs) ≡ []
none-passing test [] place le = ap (filter test) (drop-nil place)
none-passing test (x ∷ xs) zero le = absurd (omega (arith, le))
none-passing test (x ∷ xs) (suc place) le = none-passing test xs place (omega (arith, le))

-- where none passes, none goes and all stay
pub none-goes : {X : Type 0} (test : X → Bool) (xs : List X) → list_any test xs ≡ false → (filter test xs ≡ []) × (filter (λ x. not (test x)) xs ≡ xs)
none-goes {X = X} test [] none = (refl, refl)
none-goes {X = X} test (x ∷ xs) none = by_test (test x) none (none-goes test xs) where
  by_test : (b : Bool) → (b || list_any test xs) ≡ false
      → (list_any test xs ≡ false → (filter test xs ≡ []) × (filter (λ y. not (test y)) xs ≡ xs))
      → (cond b (x ∷ filter test xs) (filter test xs) ≡ []) × (cond (not b) (x ∷ filter (λ y. not (test y)) xs) (filter (λ y. not (test y)) xs) ≡ x ∷ xs)
  by_test true h later = let no : true ≡ false = h in absurd cc
  by_test false h later = let more = later h in (more.0, ap (λ l. x ∷ l) more.1)

-- ---- the group at a place of groups of which those before are cut

pub at_left : {X : Type 0} (f : X → X) (xs : List X) (i : ℕ) (d : X) → i < length xs → get_or (map f (take i xs) ++ drop i xs) i d ≡ get_or xs i d
at_left f [] i d lt = absurd (omega (arith, lt))
at_left f (x ∷ xs) zero d lt = refl
at_left f (x ∷ xs) (suc i) d lt = at_left f xs i d (omega (arith, lt))

module _ (goes : Run → Bool) (old items : List Grouped) (place : ℕ) (group : Grouped)
    (so_far : items ≡ map (cut_group goes) (take place old) ++ drop place old) (within : place < length old)
    (is : group ≡ get_or items place group) where
  here : group ≡ get_or old place group
  here = is ∙ ap (λ l. get_or l place group) so_far ∙ at_left (cut_group goes) old place group within

  left : cut_of goes (drop place old) ≡ filter goes group.runs ++ cut_of goes (drop (place + 1) old)
  left = ap (cut_of goes) (drop_more old place group within ∙ ap (λ g. g ∷ drop (place + 1) old) (sym here)) ∙ cut-first goes group (drop (place + 1) old)

  pub kill_some : (plan : Plan) (events : List Event) (held : Holds) (buffer : BufferContent)
      → Ending plan events held (cut_of goes (drop place old)) buffer
      → CanEndAllSome (filter goes group.runs) buffer
  kill_some plan events held buffer ending = part_some plan events held _ _ _ buffer left ending

  pub kill_turn : (plan : Plan) (events : List Event) (held : Holds) (buffer new : BufferContent)
      → Ending plan events held (cut_of goes (drop place old)) buffer
      → ((p : Plan) (es : List Event) (holders : List Holder) (hs : Holds)
      → CanEndAll p es holders hs (filter goes group.runs) buffer → HoldsLists p es hs new)
      → Ending plan events held (cut_of goes (drop (place + 1) old)) new
  kill_turn plan events held buffer new ending told =
      let part = ends_part plan events held _ _ _ buffer left ending in
      part.after new (told plan events part.holders part.before part.can)

  pub kill_set : (new : Grouped) → new ≡ record group { runs = filter (λ (run : Run). not (goes run)) group.runs }
      → set items place new ≡ map (cut_group goes) (take (place + 1) old) ++ drop (place + 1) old
  kill_set new made = set-mapped (cut_group goes) old items place group new so_far within is made

-- what is left at the end
pub kill_none : (goes : Run → Bool) (old : List Grouped) (place : ℕ) → length old ≤ place → cut_of goes (drop place old) ≡ []
kill_none goes [] place le = ap (cut_of goes) (drop-nil place)
kill_none goes (g ∷ old) zero le = absurd (omega (arith, le))
kill_none goes (g ∷ old) (suc place) le = kill_none goes old place (omega (arith, le))

all-cut : (goes : Run → Bool) (old : List Grouped) (place : ℕ) → length old ≤ place
    → map (cut_group goes) (take place old) ++ drop place old ≡ map (cut_group goes) old
all-cut goes [] zero le = refl
all-cut goes [] (suc place) le = refl
all-cut goes (g ∷ old) zero le = absurd (omega (arith, le))
all-cut goes (g ∷ old) (suc place) le = ap (λ l. cut_group goes g ∷ l) (all-cut goes old place (omega (arith, le)))

pub kill_runs : (goes : Run → Bool) (old items : List Grouped) (place : ℕ) → length old ≤ place
    → items ≡ map (cut_group goes) (take place old) ++ drop place old
    → in_groups items ≡ filter (λ (r : Staged). not (goes r.run)) (in_groups old)
kill_runs goes old items place le so_far = ap in_groups (so_far ∙ all-cut goes old place le) ∙ kept-groups goes old
