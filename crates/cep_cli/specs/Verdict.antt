-- What the program has to answer where nothing outside it fails (this project's own).
use Rattle.std.specs.Prelude.{◌≡◌, ℕ, List, Option, Result, Ok, Err}
use Rattle.std.specs.Io.KnownBytes.{Appends}
use Rattle.cep_outside.specs.Outside.{AppendsPart}
use Rattle.cep_plan.specs.declared.plan.Plan.{Plan}
use Rattle.cep_rows.specs.Lines.{raw_lines}
use Rattle.cep_session.specs.declared.status.Status.{Status}
use Rattle.cep_session.specs.declared.status.Status.TheVariants.{Done, NoMemory, BadWords, PatternFault, PatternRefused, BadRow, TooManyRows, ReadFault, WriteFault}
use Rattle.cep_session.specs.Meaning.{verdict}
use Rattle.pattern_rules.specs.declared.rule.Fault.{Fault}
use Rattle.shared_buffer.specs.declared.buffer.Held.{Held}
use Rattle.told_list.specs.Grows.{Grows, GrowsPart}
use Rattle.pattern_file.specs.Checked.{ArePlannedAs}
use Rattle.cep_cli.specs.Meaning.{meaning_of}
use Rattle.cep_cli.specs.Pattern.{AreShownIn}
use Rattle.cep_words.specs.declared.options.Options.{Options}

-- the status of a run with these options and this plan, or of a pattern that is refused
abbrev pub run_verdict : Options → Result Plan Fault → List ℕ → Status
run_verdict options (Err fault) input = PatternRefused fault.code fault.place
run_verdict options (Ok plan) input = verdict (meaning_of options.header options.lag plan) options.rows (raw_lines input)

-- the status where a text is printed, or the pattern refused
abbrev pub show_verdict : Result (List ℕ) Fault → Status
show_verdict (Err fault) = PatternRefused fault.code fault.place
show_verdict (Ok text) = Done

-- the status of a run with these options, where the pattern file and the input hold these bytes
abbrev pub IsVerdict : Options → List ℕ → List ℕ → Status → Type 0
IsVerdict options file input status = (answer : Result Plan Fault) × ArePlannedAs file answer × (status ≡ run_verdict options answer input)

-- the same in a mode that shows a text, which takes nothing of the input; a run shows none
abbrev pub IsShownVerdict : Options → List ℕ → Status → Type 0
IsShownVerdict options file status =
    (answer : Result (List ℕ) Fault) × AreShownIn options.mode options file answer × (status ≡ show_verdict answer)

-- a fact that holds of the statuses that come before the input is read
abbrev pub IfUnread : Status → Type 0 → Type 0
IfUnread BadWords P = P
IfUnread PatternFault P = P
IfUnread (PatternRefused code place) P = P
IfUnread Done P = Unit {0}
IfUnread NoMemory P = Unit {0}
IfUnread (BadRow row cause) P = Unit {0}
IfUnread TooManyRows P = Unit {0}
IfUnread ReadFault P = Unit {0}
IfUnread WriteFault P = Unit {0}

-- a run has one of the other statuses
abbrev pub IfBegun : Status → Type 0
IfBegun status = IfUnread status ⊥

-- a fact that holds of the statuses that tell of the input
abbrev pub IfOfInput : Status → Type 0 → Type 0
IfOfInput (BadRow row cause) P = P
IfOfInput TooManyRows P = P
IfOfInput ReadFault P = P
IfOfInput Done P = Unit {0}
IfOfInput NoMemory P = Unit {0}
IfOfInput BadWords P = Unit {0}
IfOfInput PatternFault P = Unit {0}
IfOfInput (PatternRefused code place) P = Unit {0}
IfOfInput WriteFault P = Unit {0}

-- what the output took of a text, with the status with which its printing ended; no other status comes
abbrev pub HasPrinted : Status → Option (List ℕ) → Option (List ℕ) → List ℕ → Type 0
HasPrinted Done old new text = Appends old new text
HasPrinted WriteFault old new text = AppendsPart old new text
HasPrinted NoMemory old new text = AppendsPart old new text
HasPrinted PatternFault old new text = Unit {0}
HasPrinted BadWords old new text = ⊥
HasPrinted (PatternRefused code place) old new text = ⊥
HasPrinted (BadRow row cause) old new text = ⊥
HasPrinted TooManyRows old new text = ⊥
HasPrinted ReadFault old new text = ⊥

-- what a gauge was shown of these sizes, with the status with which a load ended; no other status comes
abbrev pub HasShown : Status → Option (List Held) → Option (List Held) → List Held → Type 0
HasShown Done old new sizes = Grows old new sizes
HasShown WriteFault old new sizes = GrowsPart old new sizes
HasShown NoMemory old new sizes = GrowsPart old new sizes
HasShown PatternFault old new sizes = Unit {0}
HasShown BadWords old new sizes = ⊥
HasShown (PatternRefused code place) old new sizes = ⊥
HasShown (BadRow row cause) old new sizes = ⊥
HasShown TooManyRows old new sizes = ⊥
HasShown ReadFault old new sizes = ⊥
