-- What an engine is seen as, and the ticks that it stands for. (This project's own.)
use Rattle.std.specs.Prelude.{ℕ, ℤ, ◌<◌, ◌≡◌, Bool, true, int_le, List, [], Option, Some, None, option_map, IfSome}
use Rattle.cep_event.specs.declared.record.Moment.TheVariants.{At}
use Rattle.cep_plan.specs.declared.plan.Plan.{Plan}
use Rattle.cep_plan.specs.declared.item.Item.{Item}
use Rattle.cep_plan.specs.Tick.{Tick, last_time}
use Rattle.shared_buffer.specs.Content.{Content as BufferContent}
use Rattle.run_step.specs.Content.{Content}
use Rattle.time_limit.specs.Limits.{Kept, AreBefore}
use Rattle.cep_engine.specs.Standing.{PartsStand}

-- the plan, the runs, the buffer, the limits, the time of the last tick, the items not yet handed out, and whether an earlier call met want of memory
pub record State : Type 0 where
  pub plan : Plan
  pub runs : Content
  pub buffer : BufferContent
  pub limits : Kept
  pub last : Option ℤ
  pub items : List Item
  pub spent : Bool

-- The engine stands for the ticks.
pub record StandsFor (ticks : List Tick) (state : State) : Type 0 where
  pub parts : PartsStand state.plan ticks state.runs state.buffer state.limits
  pub last : option_map At state.last ≡ last_time ticks

-- The engine stands for some ticks.
pub record StandsForSome (state : State) : Type 0 where
  pub ticks : List Tick
  pub stands : StandsFor ticks state

-- the time isn't below that of the last tick
abbrev pub IsNotBefore : Option ℤ → ℤ → Type 0
IsNotBefore last time = IfSome last (λ earlier. int_le earlier time ≡ true)

-- All that is kept is below the position, and no time of it is above this one.
abbrev pub AreKeptBefore : ℕ → ℤ → Kept → Type 0
AreKeptBefore position time kept = AreBefore position time kept.starts × AreBefore position time kept.lasts

-- Before the first tick nothing is kept; after it no time is above the last one.
abbrev pub AreBehind : ℕ → Option ℤ → Kept → Type 0
AreBehind position None kept = (kept.starts ≡ []) × (kept.lasts ≡ [])
AreBehind position (Some time) kept = AreKeptBefore position time kept

-- no time limit is 0
abbrev pub HasRoom : Plan → Type 0
HasRoom plan = IfSome plan.within (λ within. 0 < within) × IfSome plan.within_gap (λ gap. 0 < gap)
