-- What `check` answers. The codes and their order are this project's own.
use Rattle.std.specs.Prelude.{◌≡◌, Some, None, Result, Ok, Err}
use Rattle.cep_plan.specs.declared.plan.Plan.{Plan}
use Rattle.cep_syntax.specs.declared.file.File.{File}
use Rattle.pattern_rules.specs.Rules.{fault_of}
use Rattle.pattern_check.specs.declared.fault.CheckFault.{CheckFault}
use Rattle.pattern_check.specs.declared.fault.CheckFault.TheVariants.{NoMemory, Bad}
use Rattle.pattern_check.specs.Plan.{plan_of}

-- A file that breaks no rule has its plan, and any other is refused by the first rule that it breaks. Want of memory may come at any file.
abbrev pub IsAnswer : File → Result Plan CheckFault → Type 0
IsAnswer file (Ok plan) = (fault_of file ≡ None) × (plan ≡ plan_of file)
IsAnswer file (Err NoMemory) = Unit {0}
IsAnswer file (Err (Bad place code)) = fault_of file ≡ Some (record { place = place; code = code })
