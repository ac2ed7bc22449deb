-- The parts of what the top call promises (this project's own).
use Rattle.std.specs.Prelude.{◌≡◌, ◌≢◌, ◌≤◌, ◌⊎◌, ℕ, List, Option, Some, None}
use Rattle.std.specs.Io.KnownBytes.{Appends}
use Rattle.cep_outside.specs.Outside.{Rose, DidNotRise, AppendsPart}
use Rattle.cep_session.specs.Notes.{fault_line}
use Rattle.cep_session.specs.declared.status.Status.{Status}
use Rattle.cep_session.specs.declared.status.Status.TheVariants.{NoMemory, BadWords, PatternFault, PatternRefused, ReadFault, WriteFault}
use Rattle.cep_words.specs.Words.{command_of}
use Rattle.cep_words.specs.declared.options.Options.{Options}
use Rattle.cep_words.specs.declared.options.Mode.{Mode}
use Rattle.cep_words.specs.declared.options.Mode.TheVariants.{Run}
use Rattle.pattern_rules.specs.declared.rule.Fault.{Fault}

-- ---- what was asked

-- the words are a command with these options on the file of this name, which is told to hold these bytes
pub record AreAbout (words : List (List ℕ)) (contents : List ℕ → Option (List ℕ)) (options : Options) (name content : List ℕ) : Type 0 where
  pub named : command_of words ≡ Some (options, name)
  pub told : contents name ≡ Some content

-- ---- refusals

-- words are refused only where they are no command, and such words come to nothing else and leave all untouched
pub record AreWordsJudged (words : List (List ℕ)) (status : Status) (untouched : Type 0) : Type 0 where
  pub only : status ≡ BadWords → command_of words ≡ None
  pub refused : command_of words ≡ None → (status ≡ BadWords) ⊎ (status ≡ NoMemory)
  pub spared : command_of words ≡ None → untouched

-- a pattern file is refused only so as its bytes are, and one that is to be refused comes to nothing else and leaves all untouched
pub record IsPatternJudged (are_refused : Fault → Type 0) (status : Status) (untouched : Type 0) : Type 0 where
  pub only : (code place : ℕ) → status ≡ PatternRefused code place → are_refused (record { place = place; code = code })
  pub refused : (fault : Fault) → are_refused fault → (status ≡ PatternRefused fault.code fault.place) ⊎ ((status ≡ PatternFault) ⊎ (status ≡ NoMemory))
  pub spared : (fault : Fault) → are_refused fault → untouched

-- ---- faults of the outside

-- how many faults were counted at the pattern file, at the input and at the output
pub record Faults : Type 0 where
  pub file : ℕ
  pub input : ℕ
  pub output : ℕ

-- no count falls
pub record NoneFell (before now : Faults) : Type 0 where
  pub file : before.file ≤ now.file
  pub input : before.input ≤ now.input
  pub output : before.output ≤ now.output

-- a fault is told only where one was counted
pub record IsBlamed (status : Status) (before now : Faults) : Type 0 where
  pub file : status ≡ PatternFault → Rose before.file now.file
  pub input : status ≡ ReadFault → Rose before.input now.input
  pub output : status ≡ WriteFault → Rose before.output now.output

-- no fault was counted at anything that the mode asks for, and there was memory
pub record WentWell (mode : Mode) (status : Status) (before now : Faults) : Type 0 where
  pub memory : status ≢ NoMemory
  pub file : DidNotRise before.file now.file
  pub input : mode ≡ Run → DidNotRise before.input now.input
  pub output : DidNotRise before.output now.output

-- ---- the notes

-- the notes took the line of the status, or a front of it where they counted a fault
pub record IsNoted (status : Status) (old new : Option (List ℕ)) (before now : ℕ) : Type 0 where
  pub front : AppendsPart old new (fault_line status)
  pub whole : DidNotRise before now → Appends old new (fault_line status)
  pub later : before ≤ now
