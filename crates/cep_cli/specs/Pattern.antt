-- What the bytes of a pattern file come to in each mode (this project's own).
use Rattle.std.specs.Prelude.{◌≡◌, ℕ, List, Result, Ok, Err}
use Rattle.cep_plan.specs.declared.plan.Plan.{Plan}
use Rattle.cep_syntax.specs.declared.fault.SyntaxFault.{SyntaxFault}
use Rattle.cep_syntax.specs.declared.file.File.{File}
use Rattle.cep_words.specs.declared.options.Options.{Options}
use Rattle.cep_words.specs.declared.options.Mode.{Mode}
use Rattle.cep_words.specs.declared.options.Mode.TheVariants.{Run, Check, Explain, Load}
use Rattle.nfa_compile.specs.Explained.{explained}
use Rattle.pattern_rules.specs.declared.rule.Fault.{Fault}
use Rattle.pattern_file.specs.Reading.{AreReadAs}
use Rattle.pattern_file.specs.Checked.{ArePlannedAs, ArePrintedAs}
use Rattle.cep_cli.specs.Load.{load_summary}
use Rattle.cep_cli.specs.declared.pattern.Form.{Form}
use Rattle.cep_cli.specs.declared.pattern.Form.TheVariants as form
use Rattle.cep_cli.specs.declared.pattern.PatternStop.{PatternStop}
use Rattle.cep_cli.specs.declared.pattern.PatternStop.TheVariants.{NoMemory, Failed, Refused}

-- the text that is made of the plan, or why the bytes are refused
abbrev pub AreMadeInto : (Plan → List ℕ) → List ℕ → Result (List ℕ) Fault → Type 0
AreMadeInto made bytes (Ok text) = (plan : Plan) × ArePlannedAs bytes (Ok plan) × (text ≡ made plan)
AreMadeInto made bytes (Err fault) = ArePlannedAs bytes (Err fault)

-- the table of the states of the plan
abbrev pub AreExplainedAs : List ℕ → Result (List ℕ) Fault → Type 0
AreExplainedAs bytes answer = AreMadeInto explained bytes answer

-- the summary of a run of the plan over the lines that the options ask for
abbrev pub AreSummedAs : Options → List ℕ → Result (List ℕ) Fault → Type 0
AreSummedAs options bytes answer = AreMadeInto (load_summary options) bytes answer

-- the text in a form, or why the bytes are refused
abbrev pub AreShownAs : Form → List ℕ → Result (List ℕ) Fault → Type 0
AreShownAs form.File bytes answer = ArePrintedAs bytes answer
AreShownAs form.States bytes answer = AreExplainedAs bytes answer

-- the text that a mode shows, or why the bytes are refused; a run shows none
abbrev pub AreShownIn : Mode → Options → List ℕ → Result (List ℕ) Fault → Type 0
AreShownIn Run options bytes answer = ⊥
AreShownIn Check options bytes answer = ArePrintedAs bytes answer
AreShownIn Explain options bytes answer = AreExplainedAs bytes answer
AreShownIn Load options bytes answer = AreSummedAs options bytes answer

-- the bytes are refused so
abbrev pub AreRefused : Mode → List ℕ → Fault → Type 0
AreRefused Run bytes fault = ArePlannedAs bytes (Err fault)
AreRefused Check bytes fault = ArePrintedAs bytes (Err fault)
AreRefused Explain bytes fault = ArePlannedAs bytes (Err fault)
AreRefused Load bytes fault = ArePlannedAs bytes (Err fault)

-- what is read of the front is read of the whole
abbrev pub ReadsAlike : List ℕ → List ℕ → Type 0
ReadsAlike front content = (answer : Result File SyntaxFault) → AreReadAs front answer → AreReadAs content answer

-- what an answer tells, where loading may fail and memory may be short
abbrev pub Tells : {T : Type 0} → (Result T Fault → Type 0) → Result T PatternStop → Type 0
Tells told (Ok value) = told (Ok value)
Tells told (Err NoMemory) = Unit {0}
Tells told (Err Failed) = Unit {0}
Tells told (Err (Refused place code)) = told (Err (record { place = place; code = code }))
