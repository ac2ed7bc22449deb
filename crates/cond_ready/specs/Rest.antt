-- What is left of a condition at an event: whether it holds with a list of events taken before, and what it asks of them. This is this project's own.
use Rattle.std.specs.Prelude.{◌≡◌, Bool, ◌&&◌, List, [], Option, Some, None}
use Rattle.std.specs.List.{All, Contains}
use Rattle.cep_event.specs.declared.event.Event.{Event}
use Rattle.cep_event.specs.declared.event.EventType.{EventType}
use Rattle.cep_plan.specs.declared.item.Taken.{Taken}
use Rattle.cep_plan.specs.Answer.{answer_seen, is_true, compared}
use Rattle.cep_plan.specs.declared.condition.Cond.{Cond}
use Rattle.cep_plan.specs.Question.{Question}
use Rattle.cep_plan.specs.Value.{value_of}
use Rattle.cep_plan.specs.Condition.{condition_holds}
use Rattle.cond_eval.specs.Asked.{questions_of, questions_in}
use Rattle.cond_ready.specs.declared.rest.Rest.{Rest}
use Rattle.cond_ready.specs.declared.rest.Rest.TheVariants.{Known, ValueFirst, ValueLast, Whole}
use Rattle.cond_ready.specs.declared.rests.Rests.{Rests}

abbrev pub rest_holds : List EventType → Event → List Taken → Rest → Bool
rest_holds types event list (Known truth) = truth
rest_holds types event list (ValueFirst cmp x y) = compared cmp (answer_seen x) (value_of types (Some event) list y.now)
rest_holds types event list (ValueLast cmp x y) = compared cmp (value_of types (Some event) list x.now) (answer_seen y)
rest_holds types event list (Whole x) = is_true (value_of types (Some event) list x.now)

-- each of them holds
abbrev pub rests_hold : List EventType → Event → List Taken → Rests → Bool
rests_hold types event list rests =
    rest_holds types event list rests.first && (rest_holds types event list rests.second && rest_holds types event list rests.third)

-- what is asked of the taken events to find whether it holds
abbrev pub rest_questions : Rest → List Question
rest_questions (Known truth) = []
rest_questions (ValueFirst cmp x y) = questions_of y.now
rest_questions (ValueLast cmp x y) = questions_of x.now
rest_questions (Whole x) = questions_of x.now

-- Each question that is asked is one of these.
abbrev pub AsksOf : List Question → List Question → Type 0
AsksOf questions asked = All (Contains questions) asked

abbrev pub RestsAskOf : List Question → Rests → Type 0
RestsAskOf questions rests =
    AsksOf questions (rest_questions rests.first) × AsksOf questions (rest_questions rests.second) × AsksOf questions (rest_questions rests.third)

-- what a condition at an event is seen as
pub record Ready : Type 0 where
  pub types : List EventType
  pub event : Event
  pub cond : Cond

-- What is left holds just where the condition holds, and asks no more.
abbrev pub IsLeftOf : Ready → Rests → Type 0
IsLeftOf ready rests =
    ((list : List Taken) → rests_hold ready.types ready.event list rests ≡ condition_holds ready.types ready.event list ready.cond)
    × RestsAskOf (questions_in ready.cond) rests

-- the same, where something little is left
abbrev pub AreLeftOf : Ready → Option Rests → Type 0
AreLeftOf ready None = Unit {0}
AreLeftOf ready (Some rests) = IsLeftOf ready rests
