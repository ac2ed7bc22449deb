-- The time of a tick against the last one.
use Rattle.std.proofs.Common.{◌≡◌, sym, subst, ℕ, ◌<◌, arith, true, List}
use Rattle.std.specs.Prelude.{ℤ, int_le, Option, Some, None, IfSome, option_map}
use Rattle.std.proofs.lemmas.Int.{ints}
use Rattle.cep_event.specs.declared.record.Moment.TheVariants.{At}
use Rattle.cep_event.specs.Moment.{has_reached}
use Rattle.cep_plan.specs.Tick.{Tick, last_time}
use Rattle.cep_plan.proofs.RisingLaws.{Each-weaker}
use Rattle.time_limit.specs.declared.queue.Place.{Place}
use Rattle.time_limit.specs.Limits.{Kept, AreBefore}
use Rattle.cep_engine.specs.Standing.{ComesLater}
use Rattle.cep_engine.specs.State.{IsNotBefore, AreKeptBefore, AreBehind}

no_later : (a b c : ℤ) → int_le a b ≡ true → int_le b c ≡ true → int_le a c ≡ true
no_later a b c h k = grind (arith, ints)

pub comes_later : (last : Option ℤ) (ticks : List Tick) (time : ℤ) → option_map At last ≡ last_time ticks → IsNotBefore last time → ComesLater ticks (At time)
comes_later last ticks time is h =
    subst (λ o. IfSome o (λ earlier. (t : ℤ) → has_reached earlier t ≡ true → has_reached (At time) t ≡ true)) is (after last h) where
      after : (o : Option ℤ) → IsNotBefore o time
          → IfSome (option_map At o) (λ earlier. (t : ℤ) → has_reached earlier t ≡ true → has_reached (At time) t ≡ true)
      after None k = tt
      after (Some earlier) k = λ t le. no_later t earlier time le k

pub behind_later : (position : ℕ) (last : Option ℤ) (kept : Kept) (time : ℤ) → AreBehind position last kept → IsNotBefore last time
    → AreKeptBefore position time kept
behind_later position None kept time behind h =
    (subst (AreBefore position time) (sym behind.0) tt, subst (AreBefore position time) (sym behind.1) tt)
behind_later position (Some last) kept time behind h = (later kept.starts behind.0, later kept.lasts behind.1) where
  later : (places : List Place) → AreBefore position last places → AreBefore position time places
  later places before =
      Each-weaker (λ (s : Place). (s.position < position) × (int_le s.ts last ≡ true))
      (λ (s : Place). (s.position < position) × (int_le s.ts time ≡ true)) (λ s b. (b.0, no_later s.ts last time b.1 h)) places before
