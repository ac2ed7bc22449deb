-- How far a run has come, and how it ends.
use Rattle.std.specs.Prelude.{◌≡◌, ℕ, ◌≤◌, List, [], ◌++◌, length, Option, Some, None}
use Rattle.std.specs.Io.KnownBytes.{Consumes, IsAtEnd}
use Rattle.cep_rows.specs.Feed.{AreLines}
use Rattle.cep_rows.specs.Lines.{raw_lines, joined}
use Rattle.cep_session.specs.Handling.{Given, Adds}
use Rattle.cep_session.specs.Meaning.{Meaning, first_refused, sofar}
use Rattle.cep_session.specs.Outcome.{Outcome}
use Rattle.cep_session.specs.declared.status.Status.{Status}

-- These lines were taken from what was left at the start, and then the bytes kept; what the lines cause was given.
pub record Progress {U : Type 0} (m : Meaning U) (allowed : ℕ) (start left : Option (List ℕ)) (base now : Given U)
    (lines : List (List ℕ)) (kept : List ℕ) : Type 0 where
  pub took : Consumes start left (joined lines ++ kept)
  pub added : Adds base now (sofar m.text lines) (sofar m.shown lines)
  pub cut : AreLines lines
  pub sound : first_refused m [] lines ≡ None
  pub few : length lines ≤ allowed

-- The input has come to its end, and these are all its lines.
pub record AllTaken {U : Type 0} (m : Meaning U) (allowed : ℕ) (start left : Option (List ℕ)) (base now : Given U) (lines : List (List ℕ)) : Type 0 where
  pub bytes : List ℕ
  pub took : Consumes start left bytes
  pub over : IsAtEnd left
  pub are : raw_lines bytes ≡ lines
  pub added : Adds base now (sofar m.text lines) (sofar m.shown lines)
  pub sound : first_refused m [] lines ≡ None
  pub few : length lines ≤ allowed

-- What a run did that ended, of all bytes that were left: which of them it took, what the output grew by, and what was shown besides.
-- What it says of the status needs no output that tells its bytes.
pub record Ended {U : Type 0} (m : Meaning U) (allowed : ℕ) (status : Status) (all : List ℕ) (left : Option (List ℕ)) (base now : Given U) : Type 0 where
  pub bytes : List ℕ
  pub rest : List ℕ
  pub text : List ℕ
  pub list : List U
  pub input : all ≡ bytes ++ rest
  pub left_is : left ≡ Some rest
  pub added : Adds base now text list
  pub written : Outcome m m.text allowed status all bytes text
  pub shown : Outcome m m.shown allowed status all bytes list

-- the same, where the input tells its bytes
abbrev pub Ends : {U : Type 0} → Meaning U → ℕ → Status → Option (List ℕ) → Option (List ℕ) → Given U → Given U → Type 0
Ends m allowed status start left base now = (all : List ℕ) → start ≡ Some all → Ended m allowed status all left base now
