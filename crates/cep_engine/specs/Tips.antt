-- Tips whose lists the buffer holds, and tips whose holds are to be given back. (This project's own.)
use Rattle.std.specs.Prelude.{ℕ, ◌≡◌, ◌<◌, List, length}
use Rattle.std.specs.List.{AllByRecursion as Each}
use Rattle.cep_event.specs.declared.event.Event.{Event}
use Rattle.cep_plan.specs.declared.plan.Plan.{Plan}
use Rattle.shared_buffer.specs.Content.{Content as BufferContent}
use Rattle.list_buffer.specs.Held.{Holder, Holds, held_by, both_hold}
use Rattle.list_buffer.specs.Listed.{HoldsLists}
use Rattle.run_step.specs.declared.runs.Tip.{Tip}
use Rattle.run_step.specs.Pins.{KeepsPins}
use Rattle.run_step.specs.Runs.{IsTipOf, AreTipsOf}

-- the list of the holder has a hold
abbrev pub IsHolding : Holds → Holder → Type 0
IsHolding held holder = 0 < held holder.list holder.node

-- the tip is that of the holder's list, and the buffer holds it
pub record IsHeldTip (plan : Plan) (events : List Event) (holder : Holder) (held : Holds) (tip : Tip) (buffer : BufferContent) : Type 0 where
  pub has : HoldsLists plan events held buffer
  pub is_held : IsHolding held holder
  pub tip_is : IsTipOf plan events holder tip

-- the same for some list
pub record IsSomeTip (tip : Tip) (buffer : BufferContent) : Type 0 where
  pub plan : Plan
  pub events : List Event
  pub holder : Holder
  pub held : Holds
  pub is : IsHeldTip plan events holder held tip buffer

-- the tips are, one by one, those of the holders' lists, and the buffer holds them
pub record AreHeldTips (plan : Plan) (events : List Event) (holders : List Holder) (held : Holds) (tips : List Tip) (buffer : BufferContent) : Type 0 where
  pub has : HoldsLists plan events held buffer
  pub are_held : Each (IsHolding held) holders
  pub tips_are : AreTipsOf plan events holders tips

pub record AreSomeTips (tips : List Tip) (buffer : BufferContent) : Type 0 where
  pub plan : Plan
  pub events : List Event
  pub holders : List Holder
  pub held : Holds
  pub are : AreHeldTips plan events holders held tips buffer

-- The buffer holds the lists of the tips once for each tip, besides others: so each of the holds can be given back.
pub record AreFreedTips (plan : Plan) (events : List Event) (holders : List Holder) (held : Holds) (tips : List Tip) (buffer : BufferContent) : Type 0 where
  pub has : HoldsLists plan events (both_hold held (held_by holders)) buffer
  pub tips_are : AreTipsOf plan events holders tips

pub record AreSomeFreed (tips : List Tip) (buffer : BufferContent) : Type 0 where
  pub plan : Plan
  pub events : List Event
  pub holders : List Holder
  pub held : Holds
  pub are : AreFreedTips plan events holders held tips buffer

-- these tips are left, of some holders
pub record Freeing (plan : Plan) (events : List Event) (held : Holds) (tips : List Tip) (buffer : BufferContent) : Type 0 where
  pub holders : List Holder
  pub are : AreFreedTips plan events holders held tips buffer

-- in the midst of it: so many tips are left
pub record IsFreeing (tips rest : List Tip) (left : ℕ) (old buffer : BufferContent) : Type 0 where
  pub counted : length rest ≡ left
  pub freeing : (plan : Plan) (events : List Event) (holders : List Holder) (held : Holds) → AreFreedTips plan events holders held tips old
      → Freeing plan events held rest buffer
  pub pins : KeepsPins old buffer
