-- What the bytes of a pattern file come to once the file is checked: a plan that is run, or a text that is printed, or why they are refused (this project's own).
use Rattle.std.specs.Prelude.{◌≡◌, ◌⊎◌, ℕ, List, Some, None, Result, Ok, Err}
use Rattle.cep_plan.specs.declared.plan.Plan.{Plan}
use Rattle.cep_print.specs.File.{printed}
use Rattle.cep_syntax.specs.declared.file.File.{File}
use Rattle.pattern_rules.specs.declared.rule.Fault.{Fault}
use Rattle.pattern_rules.specs.Rules.{fault_of}
use Rattle.pattern_check.specs.Plan.{plan_of}
use Rattle.pattern_file.specs.Reading.{IsFileIn, IsNoFile}

-- the file that the bytes are, where it breaks no rule, or why they are refused
abbrev pub AreCheckedAs : List ℕ → Result File Fault → Type 0
AreCheckedAs bytes (Ok file) = IsFileIn bytes file × (fault_of file ≡ None)
AreCheckedAs bytes (Err fault) = IsNoFile bytes fault.code fault.place ⊎ ((file : File) × IsFileIn bytes file × (fault_of file ≡ Some fault))

-- the plan that is run, or why the bytes are refused
abbrev pub ArePlannedAs : List ℕ → Result Plan Fault → Type 0
ArePlannedAs bytes (Ok plan) = (file : File) × AreCheckedAs bytes (Ok file) × (plan ≡ plan_of file)
ArePlannedAs bytes (Err fault) = AreCheckedAs bytes (Err fault)

-- the text in its one form, or why the bytes are refused
abbrev pub ArePrintedAs : List ℕ → Result (List ℕ) Fault → Type 0
ArePrintedAs bytes (Ok text) = (file : File) × AreCheckedAs bytes (Ok file) × (text ≡ printed file)
ArePrintedAs bytes (Err fault) = AreCheckedAs bytes (Err fault)
