-- Runs end one after the other.
use Rattle.std.proofs.Common.{◌≡◌, refl, arith, List, [], ◌∷◌, length}
use Rattle.cep_event.specs.declared.event.Event.{Event}
use Rattle.cep_plan.specs.declared.plan.Plan.{Plan}
use Rattle.shared_buffer.specs.Content.{Content as BufferContent}
use Rattle.list_buffer.specs.Held.{Holder, Holds, held_by, both_hold, without_hold}
use Rattle.list_buffer.specs.Listed.{HoldsLists}
use Rattle.list_buffer.proofs.HeldLaws.{held_by-cons, one_hold-here}
use Rattle.list_buffer.proofs.LaterLaws.{HoldsLists-same}
use Rattle.run_step.specs.declared.runs.Run.{Run}
use Rattle.run_step.specs.Putting.{AreHeldRuns, CanEnd, CanEndSome, Ending}

-- the first of the runs can end, and the others after it
pub record EndsOne (plan : Plan) (events : List Event) (held : Holds) (run : Run) (runs : List Run) (buffer : BufferContent) : Type 0 where
  pub holder : Holder
  pub before : Holds
  pub can : CanEnd plan events holder before run buffer
  pub after : (new : BufferContent) → HoldsLists plan events (without_hold holder before) new → Ending plan events held runs new

ends_first : (plan : Plan) (events : List Event) (held : Holds) (holders : List Holder) (run : Run) (runs : List Run) (buffer : BufferContent)
    → HoldsLists plan events (both_hold held (held_by holders)) buffer → AreHeldRuns plan events holders (run ∷ runs) → EndsOne plan events held run runs buffer
ends_first plan events held [] run runs buffer has are = absurd are
ends_first plan events held (holder ∷ holders) run runs buffer has are = record {
  holder = holder;
  before = both_hold held (held_by (holder ∷ holders));
  can = record {
    has = has;
    is_held = omega (arith, held_by-cons holder holders holder.list holder.node, one_hold-here holder holder.list holder.node refl refl);
    run_is = are.0;
  };
  after = λ new later. record {
    holders = holders;
    can = record {
      has =
          HoldsLists-same plan events (without_hold holder (both_hold held (held_by (holder ∷ holders)))) (both_hold held (held_by holders)) new
          (λ list key. omega (arith, held_by-cons holder holders list key)) later;
      runs_are = are.1;
    };
  };
}

pub ends_one : (plan : Plan) (events : List Event) (held : Holds) (run : Run) (runs : List Run) (buffer : BufferContent)
    → Ending plan events held (run ∷ runs) buffer → EndsOne plan events held run runs buffer
ends_one plan events held run runs buffer ending = ends_first plan events held ending.holders run runs buffer ending.can.has ending.can.runs_are

none_left : (plan : Plan) (events : List Event) (held : Holds) (holders : List Holder) (buffer : BufferContent)
    → HoldsLists plan events (both_hold held (held_by holders)) buffer → AreHeldRuns plan events holders [] → HoldsLists plan events held buffer
none_left plan events held [] buffer has are = HoldsLists-same plan events (both_hold held (held_by [])) held buffer (λ list key. omega arith) has
none_left plan events held (holder ∷ holders) buffer has are = absurd are

pub ends_all : (plan : Plan) (events : List Event) (held : Holds) (runs : List Run) (buffer : BufferContent) → length runs ≡ 0
    → Ending plan events held runs buffer → HoldsLists plan events held buffer
ends_all plan events held [] buffer none ending = none_left plan events held ending.holders buffer ending.can.has ending.can.runs_are
ends_all plan events held (run ∷ runs) buffer none ending = absurd (omega (arith, none))

pub some_ends : (plan : Plan) (events : List Event) (held : Holds) (run : Run) (runs : List Run) (buffer : BufferContent)
    → Ending plan events held (run ∷ runs) buffer → CanEndSome run buffer
some_ends plan events held run runs buffer ending =
    let one = ends_one plan events held run runs buffer ending in
    record { plan = plan; events = events; holder = one.holder; held = one.before; can = one.can }
