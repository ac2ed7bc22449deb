-- How a run's ending and its status tell of one another, and how a program ends that never ran.
use Rattle.std.proofs.Common.{◌≡◌, ◌≢◌, inl, ℕ, List, [], Option, Some, None, refl, sym, ◌∙◌, ap}
use Rattle.std.proofs.KnownBytes.{Appends-nil}
use Rattle.told_list.proofs.GrowsLaws.{Grows-nil}
use Rattle.cep_session.specs.Ending.{status_of}
use Rattle.cep_session.specs.Handling.{Given}
use Rattle.cep_session.specs.Meaning.{Flow, Meaning}
use Rattle.cep_session.specs.Outcome.{Outcome}
use Rattle.cep_session.specs.Progress.{Ended}
use Rattle.cep_session.specs.declared.ending.Ending.{Ending}
use Rattle.cep_session.specs.declared.ending.Ending.TheVariants as ending
use Rattle.cep_session.specs.declared.status.Status.{Status}
use Rattle.cep_session.specs.declared.status.Status.TheVariants as statuses

-- the ending that a status tells of
abbrev ending_of : Status → Option Ending
ending_of statuses.Done = Some ending.Done
ending_of statuses.NoMemory = Some ending.NoMemory
ending_of statuses.BadWords = None
ending_of statuses.PatternFault = None
ending_of (statuses.PatternRefused code place) = None
ending_of (statuses.BadRow row cause) = Some (ending.BadRow row cause)
ending_of statuses.TooManyRows = Some ending.TooManyRows
ending_of statuses.ReadFault = Some ending.ReadFault
ending_of statuses.WriteFault = Some ending.WriteFault

told : (end : Ending) → ending_of (status_of end) ≡ Some end
told ending.Done = refl
told ending.NoMemory = refl
told (ending.BadRow row cause) = refl
told ending.TooManyRows = refl
told ending.ReadFault = refl
told ending.WriteFault = refl

-- the ending of a run that has this status
pub ending_is : (end other : Ending) → status_of end ≡ status_of other → end ≡ other
ending_is end other is =
    let same : Some end ≡ Some other = sym (told end) ∙ ap ending_of is ∙ told other in cc

-- a run never ends as it does before it begins
pub ran : (end : Ending) → (status_of end ≢ statuses.BadWords) × (status_of end ≢ statuses.PatternFault) × ((code place : ℕ) → status_of end ≢ statuses.PatternRefused code place)
ran end = (
  λ is. let none : Some end ≡ None = sym (told end) ∙ ap ending_of is in cc,
  λ is. let none : Some end ≡ None = sym (told end) ∙ ap ending_of is in cc,
  λ code place is. let none : Some end ≡ None = sym (told end) ∙ ap ending_of is in cc,
)

module _ {U : Type 0} (m : Meaning U) (allowed : ℕ) where
  -- nothing was read, written or shown
  pub untouched : (status : Status) (all : List ℕ) (left : Option (List ℕ)) (now : Given U) → left ≡ Some all
      → ((A : Type 0) (flow : Flow A) → Outcome m flow allowed status all [] []) → Ended m allowed status all left now now
  untouched status all left now left_is outcome =
      record {
        bytes = [];
        rest = all;
        text = [];
        list = [];
        input = refl;
        left_is = left_is;
        added = record { wrote = Appends-nil now.taken; showed = Grows-nil now.shown };
        written = outcome ℕ m.text;
        shown = outcome U m.shown;
      }

  -- which want of memory before the run allows
  pub nothing_owed : (all : List ℕ) (A : Type 0) (flow : Flow A) → Outcome m flow allowed statuses.NoMemory all [] []
  nothing_owed all A flow = inl (_, refl)
