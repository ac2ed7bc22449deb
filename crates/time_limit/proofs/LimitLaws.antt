-- Among starts in order the first one is due before all others.
use Rattle.std.proofs.Common.{◌≡◌, refl, sym, ap, subst, ◌∙◌, ℕ, ◌<◌, arith, Bool, true, false, cond, List, [], ◌∷◌, ◌++◌}
use Rattle.std.proofs.lemmas.Int.{ints}
use Rattle.std.specs.Prelude.{ℤ, pos, ◌+ℤ◌, int_le, filter, Option, Some, None}
use Rattle.std.specs.List.{AllByRecursion as Each}
use Rattle.cep_event.specs.declared.record.Moment.{Moment}
use Rattle.cep_event.specs.declared.record.Moment.TheVariants.{At, End}
use Rattle.cep_plan.proofs.RisingLaws.{Each-append, Each-weaker}
use Rattle.live_laws.proofs.MemberLaws.{Each-filter}
use Rattle.time_limit.specs.declared.queue.Place.{Place}
use Rattle.std.proofs.lemmas.List.{append-nil}
use Rattle.time_limit.specs.Limits.{Kept, limited, is_over, is_front_over, first_over, without_first_over, without_due_by, without_first_due, AreInOrder, AreBefore}

-- a later sum is reached no sooner
sum_later : (a b w time : ℤ) → int_le a b ≡ true → int_le (a +ℤ w) time ≡ false → int_le (b +ℤ w) time ≡ false
sum_later a b w time le not_yet = grind (arith, ints)

is_over-later : (within : Option ℕ) (now : Moment) (a b : Place) → int_le a.ts b.ts ≡ true → is_over within now a ≡ false → is_over within now b ≡ false
is_over-later None now a b le shut = refl
is_over-later (Some within) (At time) a b le shut = sum_later a.ts b.ts (pos within) time le shut
is_over-later (Some within) End a b le shut = let no : true ≡ false = shut in absurd cc

none_over : (within : Option ℕ) (now : Moment) (starts : List Place) → Each (λ s. is_over within now s ≡ false) starts
    → (first_over within now starts ≡ None) × (without_first_over within now starts ≡ starts)
none_over within now [] h = (refl, refl)
none_over within now (s ∷ starts) h =
    let rest = none_over within now starts h.1 in (
      (λ i. cond (h.0 i) (Some s.position) (first_over within now starts))
          ∙ rest.0,
      (λ i. cond (h.0 i) starts (s ∷ without_first_over within now starts)) ∙ (λ i. s ∷ rest.1 i),
    )

all_open : (within : Option ℕ) (now : Moment) (starts : List Place) → AreInOrder starts → is_front_over within now starts ≡ false
    → Each (λ s. is_over within now s ≡ false) starts
all_open within now [] order shut = tt
all_open within now (s ∷ starts) order shut = (
  shut,
  Each-weaker (λ t. (s.position < t.position) × (int_le s.ts t.ts ≡ true)) (λ t. is_over within now t ≡ false)
      (λ t h. is_over-later within now s t h.1 shut) starts order.0,
)

-- where the first one isn't due, none is
pub first_over-none : (within : Option ℕ) (now : Moment) (starts : List Place) → AreInOrder starts → is_front_over within now starts ≡ false
    → first_over within now starts ≡ None
first_over-none within now starts order shut = (none_over within now starts (all_open within now starts order shut)).0

pub without_first_over-none : (within : Option ℕ) (now : Moment) (starts : List Place) → AreInOrder starts → is_front_over within now starts ≡ false
    → without_first_over within now starts ≡ starts
without_first_over-none within now starts order shut = (none_over within now starts (all_open within now starts order shut)).1

-- where the first one is due, it is the one
pub first_over-front : (within : Option ℕ) (now : Moment) (start : Place) (later : List Place) → is_front_over within now (start ∷ later) ≡ true
    → first_over within now (start ∷ later) ≡ Some start.position
first_over-front within now start later due = λ i. cond (due i) (Some start.position) (first_over within now later)

pub without_first_over-front : (within : Option ℕ) (now : Moment) (start : Place) (later : List Place)
    → is_front_over within now (start ∷ later) ≡ true → without_first_over within now (start ∷ later) ≡ later
without_first_over-front within now start later due = λ i. cond (due i) later (start ∷ without_first_over within now later)

pub AreInOrder-filter : (test : Place → Bool) (starts : List Place) → AreInOrder starts → AreInOrder (filter test starts)
AreInOrder-filter test [] order = tt
AreInOrder-filter test (s ∷ starts) order = chosen (test s) (AreInOrder-filter test starts order.1) where
  chosen : (b : Bool) → AreInOrder (filter test starts) → AreInOrder (cond b (s ∷ filter test starts) (filter test starts))
  chosen true rest = (Each-filter (λ t. (s.position < t.position) × (int_le s.ts t.ts ≡ true)) test starts order.0, rest)
  chosen false rest = rest

pub AreInOrder-push : (starts : List Place) (next : Place) → AreInOrder starts
    → Each (λ s. (s.position < next.position) × (int_le s.ts next.ts ≡ true)) starts → AreInOrder (starts ++ next ∷ [])
AreInOrder-push [] next order below = (tt, tt)
AreInOrder-push (s ∷ starts) next order below = (
  Each-append (λ t. (s.position < t.position) × (int_le s.ts t.ts ≡ true)) starts (next ∷ []) order.0 (below.0, tt),
  AreInOrder-push starts next
      order.1 below.1,
)

-- where none is due, all are left
pub without_first_over-same : (limit : Option ℕ) (now : Moment) (places : List Place) → first_over limit now places ≡ None
    → without_first_over limit now places ≡ places
without_first_over-same limit now [] none = refl
without_first_over-same limit now (p ∷ places) none = by_test (is_over limit now p) none (without_first_over-same limit now places) where
  by_test : (b : Bool) → cond b (Some p.position) (first_over limit now places) ≡ None
      → (first_over limit now places ≡ None → without_first_over limit now places ≡ places)
      → cond b places (p ∷ without_first_over limit now places) ≡ p ∷ places
  by_test true none more = absurd cc
  by_test false none more = λ i. p ∷ more none i

-- one more place behind the others, where there is a limit
pub AreInOrder-keep : (limit : Option ℕ) (places : List Place) (next : Place) → AreInOrder places → AreBefore next.position next.ts places
    → AreInOrder (places ++ limited limit (next ∷ []))
AreInOrder-keep None places next order before = subst AreInOrder (sym (append-nil places)) order
AreInOrder-keep (Some limit) places next order before = AreInOrder-push places next order before

-- where no start is due, what is left is without the first last position that is
pub left-no_start : (within gap : Option ℕ) (now : Moment) (starts after lasts : List Place) (old new : Kept)
    → record { within = within; gap = gap; starts = starts; lasts = lasts } ≡ old → None ≡ first_over within now starts
    → after ≡ without_first_over within now starts
    → new ≡ record { within = within; gap = gap; starts = after; lasts = without_first_over gap now lasts }
    → new ≡ without_first_due old now
left-no_start within gap now starts after lasts old new is none same left =
    left ∙ (λ i. record {
      within = within;
      gap = gap;
      starts = (same ∙ without_first_over-same within now starts (sym none)) i;
      lasts = without_first_over gap now lasts;
    })
    ∙ ap (without_due_by (record { within = within; gap = gap; starts = starts; lasts = lasts }) now) none
    ∙ ap (λ k. without_first_due k now) is
