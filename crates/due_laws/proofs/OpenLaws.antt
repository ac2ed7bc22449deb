-- The open starts and last positions at a moment, what of them is due, and what is still open later.
use Rattle.std.proofs.Common.{◌≡◌, refl, sym, ◌∙◌, ap, ℕ, ◌<◌, arith, Bool, true, false, not, ◌&&◌, ◌||◌, ◌==◌, List, [], ◌∷◌, ◌++◌, length, map}
use Rattle.std.specs.Prelude.{ℤ, filter, Option, Some, None, IfSome}
use Rattle.std.specs.List.{list_any, last_or, range_with_len}
use Rattle.std.specs.Option.{option_map_or}
use Rattle.std.proofs.lemmas.Bool.{eq-eqb, eqb-true}
use Rattle.std.proofs.lemmas.List.Folds.{list_any-append}
use Rattle.cep_event.specs.declared.event.Event.{Event}
use Rattle.cep_event.specs.declared.record.Moment.{Moment}
use Rattle.cep_event.specs.Moment.{has_reached}
use Rattle.cep_plan.specs.declared.plan.Plan.{Plan}
use Rattle.cep_plan.specs.declared.item.Due.{Due}
use Rattle.cep_plan.specs.declared.item.Due.TheVariants.{Start, Last}
use Rattle.cep_plan.specs.Entry.{Entry, event_at, last_entry, taken_of}
use Rattle.cep_plan.specs.Limit.{limit_from, limit_behind, limit_of, is_limit_reached, is_due, is_time_left}
use Rattle.cep_plan.proofs.LocalLaws.{AreAmong}
use Rattle.live_laws.specs.Starts.{Scope, ends_in, is_open, is_due_of, without_due, open_lasts}
use Rattle.live_laws.proofs.BoolLaws.{and-true}
use Rattle.live_laws.proofs.LastLaws.{last_or-each}
use Rattle.live_laws.proofs.MemberLaws.{Contains-range}
use Rattle.live_laws.proofs.ScopeLaws.{time_left-open, due-open}
use Rattle.live_laws.proofs.TimeLaws.{is_time_left-due}
use Rattle.due_laws.specs.Due.{dues_of, left_of, scope_after, saved_for}
use Rattle.due_laws.proofs.DueLaws.{due_among-limited, left_among-limited, is_among-filtered}

-- what is open at the moment, by the starts that are alive
abbrev pub scope_of : Plan → List Event → (ℕ → Bool) → Option Moment → Scope
scope_of plan events alive now = record {
  starts = λ p. alive p && is_time_left (limit_from plan (event_at events p)) now;
  lasts = open_lasts plan events now;
}

-- ---- small laws

eq_turned : (a b : ℕ) → (a == b) ≡ (b == a)
eq_turned a b = by_test (a == b) (b == a) refl refl where
  by_test : (p q : Bool) → (a == b) ≡ p → (b == a) ≡ q → p ≡ q
  by_test true true h k = refl
  by_test false false h k = refl
  by_test true false h k = let no : true ≡ false = sym (eq-eqb b a (sym (eqb-true a b h))) ∙ k in absurd cc
  by_test false true h k = let no : true ≡ false = sym (eq-eqb a b (sym (eqb-true b a k))) ∙ h in absurd cc

any_map : {X Y : Type 0} (test : Y → Bool) (f : X → Y) (xs : List X) → list_any test (map f xs) ≡ list_any (λ x. test (f x)) xs
any_map test f [] = refl
any_map test f (x ∷ xs) = λ i. test (f x) || any_map test f xs i

any_none : {X : Type 0} (xs : List X) → list_any (λ x. false) xs ≡ false
any_none [] = refl
any_none (x ∷ xs) = any_none xs

-- the position is among those that pass where it passes
any_passing : (test : ℕ → Bool) (n p : ℕ) → p < n → list_any (λ q. p == q) (filter test (range_with_len 0 n)) ≡ test p
any_passing test n p lt =
    ap (λ t. list_any t (filter test (range_with_len 0 n))) (λ i q. eq_turned p q i)
    ∙ is_among-filtered test (range_with_len 0 n) p (Contains-range 0 n p (omega arith) (omega (arith, lt)))

-- a list that isn't empty has a last entry
pub record HasLast (count : ℕ) (list : List Entry) : Type 0 where
  pub last : Entry
  pub is : last_entry list ≡ Some last
  pub below : last.position < count

pub has_last : (events : List Event) (first : Entry) (later : List Entry) → AreAmong events (first ∷ later) → HasLast (length events) (first ∷ later)
has_last events first later among = by_last (last_or (Some first) later) refl
    (last_or-each (λ (e : Entry). e.position < length events) (Some first) later among.0 among.1) where
      some : (e : Entry) (list : List Entry) → last_or (Some e) list ≡ None → ⊥
      some e [] h = let no : Some e ≡ None = h in cc
      some e (next ∷ list) h = some next list h

      by_last : (o : Option Entry) → last_or (Some first) later ≡ o → IfSome o (λ (e : Entry). e.position < length events)
          → HasLast (length events) (first ∷ later)
      by_last None is below = absurd (some first later is)
      by_last (Some e) is below = record { last = e; is = is; below = below }

-- ---- once dues are over

rest_bits : (a d e : Bool) → ((a && not d) && not e) ≡ (a && not (d || e))
rest_bits false d e = refl
rest_bits true true e = refl
rest_bits true false e = refl

after_starts : (scope : Scope) (ps : List ℕ) (rest : List Due)
    → scope_after scope (map Start ps ++ rest) ≡ scope_after (record scope { starts = λ p. scope.starts p && not (list_any (λ q. p == q) ps) }) rest
after_starts scope [] rest = λ i. scope_after (record scope { starts = λ p. sym (and-true (scope.starts p)) i }) rest
after_starts scope (q ∷ ps) rest =
    after_starts (without_due scope (Start q)) ps rest
    ∙ (λ i. scope_after (record scope { starts = λ p. rest_bits (scope.starts p) (p == q) (list_any (λ r. p == r) ps) i }) rest)

after_lasts : (scope : Scope) (ps : List ℕ)
    → scope_after scope (map Last ps) ≡ record scope { lasts = λ p. scope.lasts p && not (list_any (λ q. p == q) ps) }
after_lasts scope [] = λ i. record scope { lasts = λ p. sym (and-true (scope.lasts p)) i }
after_lasts scope (q ∷ ps) =
    after_lasts (without_due scope (Last q)) ps
    ∙ (λ i. record scope { lasts = λ p. rest_bits (scope.lasts p) (p == q) (list_any (λ r. p == r) ps) i })

left_bits : (a l d : Bool) → ((a && l) && not (d && a)) ≡ (a && (l && not d))
left_bits false l d = refl
left_bits true l true = refl
left_bits true l false = refl

-- the limits of a list and what of it is due
due_bits : (a s n d e x : Bool) → ((not s && n) ≡ false → x ≡ false) → (s ≡ false → n ≡ true → x ≡ (d || e))
    → (((a && not s) && n) && ((d && a) || e)) ≡ (a && x)
due_bits false s n d e x shut due = refl
due_bits true true n d e x shut due = sym (shut refl)
due_bits true false false d e x shut due = sym (shut refl)
due_bits true false true d e x shut due = (λ i. and-true d i || e) ∙ sym (due refl refl)

module _ (plan : Plan) (events : List Event) (alive : ℕ → Bool) (before : Option Moment) (now : Moment) (first_tick : before ≡ None → events ≡ []) where
  abbrev positions : List ℕ
  positions = range_with_len 0 (length events)

  abbrev due_start : ℕ → Bool
  due_start p = is_due (limit_from plan (event_at events p)) before now && alive p

  abbrev due_last : ℕ → Bool
  due_last p = is_due (limit_behind plan (event_at events p)) before now && true

  abbrev dues : List Due
  dues = dues_of (saved_for plan events (scope_of plan events alive before)) now

  no_positions : before ≡ None → range_with_len 0 (length events) ≡ []
  no_positions h = ap (λ es. range_with_len 0 (length es)) (first_tick h)

  dues_are :
      dues_of (saved_for plan events (scope_of plan events alive before)) now
      ≡ map Start (filter due_start (range_with_len 0 (length events))) ++ map Last (filter due_last (range_with_len 0 (length events)))
  dues_are =
      λ i. map Start (due_among-limited (λ p. (event_at events p).ts) alive now plan.within before positions no_positions i)
      ++ map Last (due_among-limited (λ p. (event_at events p).ts) (λ p. true) now plan.within_gap before positions no_positions i)

  -- what is left is what is open now
  pub left_are : IfSome before (λ earlier. (t : ℤ) → has_reached earlier t ≡ true → has_reached now t ≡ true)
      → left_of (saved_for plan events (scope_of plan events alive before)) now ≡ saved_for plan events (scope_of plan events alive (Some now))
  left_are later = λ i. record {
    within = plan.within;
    gap = plan.within_gap;
    starts = left_among-limited (λ p. (event_at events p).ts) alive now plan.within before positions no_positions later i;
    lasts = left_among-limited (λ p. (event_at events p).ts) (λ p. true) now plan.within_gap before positions no_positions later i;
  }

  -- ---- what is open later

  after_dues :
      scope_after (scope_of plan events alive before) (dues_of (saved_for plan events (scope_of plan events alive before)) now)
      ≡ record {
        starts = λ p. (scope_of plan events alive before).starts p && not (list_any (λ q. p == q) (filter due_start (range_with_len 0 (length events))));
        lasts = λ p. (scope_of plan events alive before).lasts p && not (list_any (λ q. p == q) (filter due_last (range_with_len 0 (length events))));
      }
  after_dues =
      ap (scope_after (scope_of plan events alive before)) dues_are
      ∙ after_starts (scope_of plan events alive before) (filter due_start positions) (map Last (filter due_last positions))
      ∙ after_lasts (record (scope_of plan events alive before) {
        starts = λ p. (scope_of plan events alive before).starts p
            && not (list_any (λ q. p == q) (filter due_start positions));
      }) (filter due_last positions)

  -- those that were open and aren't due are open now
  still_open : (limit : Option ℤ) (a : Bool) → IfSome before (λ earlier. (t : ℤ) → has_reached earlier t ≡ true → has_reached now t ≡ true)
      → (p : ℕ) → p < length events
      → ((a && is_time_left limit before) && not (is_due limit before now && a)) ≡ (a && is_time_left limit (Some now))
  still_open limit a later p lt = by_before before refl later where
    by_before : (b : Option Moment) → before ≡ b → IfSome b (λ earlier. (t : ℤ) → has_reached earlier t ≡ true → has_reached now t ≡ true)
        → ((a && is_time_left limit b) && not (is_due limit b now && a)) ≡ (a && is_time_left limit (Some now))
    by_before None is go = let none = ap length (first_tick is) in absurd (omega (arith, lt, none))
    by_before (Some moment) is go =
        left_bits a (is_time_left limit (Some moment)) (is_due limit (Some moment) now) ∙ ap (λ b. a && b) (is_time_left-due limit moment now go)

  pub after_open_start : IfSome before (λ earlier. (t : ℤ) → has_reached earlier t ≡ true → has_reached now t ≡ true)
      → (p : ℕ) → p < length events
      → (scope_after (scope_of plan events alive before) (dues_of (saved_for plan events (scope_of plan events alive before)) now)).starts p
      ≡ (scope_of plan events alive (Some now)).starts p
  after_open_start later p lt =
      ap (λ (s : Scope). s.starts p) after_dues
      ∙ ap (λ b. (scope_of plan events alive before).starts p && not b) (any_passing due_start (length events) p lt)
      ∙ still_open (limit_from plan (event_at events p)) (alive p) later p lt

  pub after_open_last : IfSome before (λ earlier. (t : ℤ) → has_reached earlier t ≡ true → has_reached now t ≡ true)
      → (p : ℕ) → p < length events
      → (scope_after (scope_of plan events alive before) (dues_of (saved_for plan events (scope_of plan events alive before)) now)).lasts p
      ≡ (scope_of plan events alive (Some now)).lasts p
  after_open_last later p lt =
      ap (λ (s : Scope). s.lasts p) after_dues
      ∙ ap (λ b. (scope_of plan events alive before).lasts p && not b) (any_passing due_last (length events) p lt)
      ∙ still_open (limit_behind plan (event_at events p)) true later p lt

  -- ---- which lists are due

  any_due : (first : Entry) (later : List Entry) → AreAmong events (first ∷ later) → (has : HasLast (length events) (first ∷ later))
      → list_any (λ due. is_due_of due (first ∷ later)) (dues_of (saved_for plan events (scope_of plan events alive before)) now)
      ≡ (due_start first.position || due_last has.last.position)
  any_due first later among has =
      let test : Due → Bool = λ due. is_due_of due (first ∷ later) in
      ap (list_any test) dues_are
      ∙ list_any-append test (map Start (filter due_start positions)) (map Last (filter due_last positions))
      ∙ (λ i. (any_map test Start (filter due_start positions) ∙ any_passing due_start (length events) first.position among.0) i
      || (any_map test Last (filter due_last positions)
      ∙ ap (λ (o : Option Entry). list_any (λ p. option_map_or (λ (last : Entry). last.position == p) o false) (filter due_last positions)) has.is
      ∙ any_passing due_last (length events) has.last.position has.below) i)

  -- A list is open, and something of it is due, where its start is alive and its limit is reached now and wasn't before.
  pub told_as_due : (first : Entry) (later : List Entry) → AreAmong events (first ∷ later)
      → (is_open (scope_of plan events alive before) (first ∷ later)
      && list_any (λ due. is_due_of due (first ∷ later)) (dues_of (saved_for plan events (scope_of plan events alive before)) now))
      ≡ (alive first.position && is_due (limit_of plan (taken_of events (first ∷ later))) before now)
  told_as_due first later among =
      ap (λ b. is_open (scope_of plan events alive before) (first ∷ later) && b) (any_due first later among has)
      ∙ ap (λ (o : Option Entry). ((alive first.position && is_time_left (limit_from plan (event_at events first.position)) before)
      && option_map_or (λ (last : Entry). open_lasts plan events before last.position) o true)
      && (due_start first.position || due_last has.last.position)) has.is
      ∙ by_before before refl where
        has : HasLast (length events) (first ∷ later)
        has = has_last events first later among

        from : Option ℤ
        from = limit_from plan (event_at events first.position)

        behind : Option ℤ
        behind = limit_behind plan (event_at events (has_last events first later among).last.position)

        whole : Option ℤ
        whole = limit_of plan (taken_of events (first ∷ later))

        by_before : (b : Option Moment) → before ≡ b
            → (((alive first.position && is_time_left from b) && is_time_left behind b)
            && ((is_due from b now && alive first.position) || (is_due behind b now && true)))
            ≡ (alive first.position && is_due whole b now)
        by_before None is = let none = ap length (first_tick is) in absurd (omega (arith, among.0, none))
        by_before (Some moment) is =
            due_bits (alive first.position) (is_limit_reached from moment) (is_time_left behind (Some moment)) (is_due from (Some moment) now)
            (is_due behind (Some moment) now && true) (is_due whole (Some moment) now)
            (λ shut. ap (λ b. b && is_limit_reached whole now) (left ∙ shut))
            (λ s n. due-open plan events first later moment now s (ends (λ p. is_limit_reached (limit_behind plan (event_at events p)) moment)
            ∙ not_true (is_limit_reached behind moment) n)
            ∙ ap (λ b. is_due from (Some moment) now || b) (ends (λ p. is_due (limit_behind plan (event_at events p)) (Some moment) now)
            ∙ sym (and-true (is_due behind (Some moment) now)))) where
              ends : (test : ℕ → Bool) → ends_in test (first ∷ later) ≡ test (has_last events first later among).last.position
              ends test = ap (λ (o : Option Entry). option_map_or (λ (last : Entry). test last.position) o true) (has_last events first later among).is

              left : is_time_left whole (Some moment) ≡ (not (is_limit_reached from moment) && is_time_left behind (Some moment))
              left = time_left-open plan events first later (Some moment)
                  ∙ ap (λ b. not (is_limit_reached from moment) && b) (ends (open_lasts plan events (Some moment)))

              not_true : (b : Bool) → not b ≡ true → b ≡ false
              not_true true h = let no : false ≡ true = h in absurd cc
              not_true false h = refl
