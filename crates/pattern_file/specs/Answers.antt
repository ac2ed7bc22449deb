-- What an answer tells. Want of memory may be answered in its place.
use Rattle.std.specs.Prelude.{◌≡◌, ℕ, List, Some, None, Result, Ok, Err}
use Rattle.cep_plan.specs.declared.plan.Plan.{Plan}
use Rattle.cep_print.specs.File.{printed}
use Rattle.cep_syntax.specs.declared.file.File.{File}
use Rattle.pattern_rules.specs.declared.rule.Fault.{Fault}
use Rattle.pattern_rules.specs.Rules.{fault_of}
use Rattle.pattern_check.specs.Plan.{plan_of}
use Rattle.pattern_file.specs.declared.fault.PatternFault.{PatternFault}
use Rattle.pattern_file.specs.declared.fault.PatternFault.TheVariants.{NoMemory, Bad}
use Rattle.pattern_file.specs.Reading.{IsFileIn, IsNoFile}

abbrev pub Answers : {T : Type 0} → (Result T Fault → Type 0) → Result T PatternFault → Type 0
Answers told (Ok value) = told (Ok value)
Answers told (Err NoMemory) = Unit {0}
Answers told (Err (Bad place code)) = told (Err (record { place = place; code = code }))

-- the file that the bytes are, or why they are none
abbrev pub IsFileOf : List ℕ → Result File Fault → Type 0
IsFileOf bytes (Ok file) = IsFileIn bytes file
IsFileOf bytes (Err fault) = IsNoFile bytes fault.code fault.place

-- the plan of the file, or the rule that it breaks
abbrev pub IsPlanOf : File → Result Plan Fault → Type 0
IsPlanOf file (Ok plan) = (fault_of file ≡ None) × (plan ≡ plan_of file)
IsPlanOf file (Err fault) = fault_of file ≡ Some fault

-- the text of the file, or the rule that it breaks
abbrev pub IsTextOf : File → Result (List ℕ) Fault → Type 0
IsTextOf file (Ok text) = (fault_of file ≡ None) × (text ≡ printed file)
IsTextOf file (Err fault) = fault_of file ≡ Some fault

-- the text of the file, whether it breaks a rule or not; it has no other answer
abbrev pub IsPrinted : File → Result (List ℕ) Fault → Type 0
IsPrinted file (Ok text) = text ≡ printed file
IsPrinted file (Err fault) = ⊥
