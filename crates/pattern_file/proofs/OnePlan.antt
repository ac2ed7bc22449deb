-- Bytes come to one plan, to one text and to one refusal.
use Rattle.std.proofs.Common.{◌≡◌, ℕ, inl, inr, List, Some, None, sym, ◌∙◌, ap}
use Rattle.std.specs.Prelude.{Ok, Err, Result}
use Rattle.cep_plan.specs.declared.plan.Plan.{Plan}
use Rattle.cep_print.specs.File.{printed}
use Rattle.cep_syntax.specs.declared.fault.SyntaxFault.{SyntaxFault}
use Rattle.cep_syntax.specs.declared.fault.SyntaxFault.TheVariants.{Bad}
use Rattle.cep_syntax.specs.declared.file.File.{File}
use Rattle.pattern_rules.specs.declared.rule.Fault.{Fault}
use Rattle.pattern_rules.specs.Rules.{fault_of}
use Rattle.pattern_check.specs.Plan.{plan_of}
use Rattle.pattern_file.specs.Reading.{IsFileIn, IsNoFile}
use Rattle.pattern_file.specs.Checked.{AreCheckedAs, ArePlannedAs, ArePrintedAs}
use Rattle.pattern_file.specs.declared.fault.PatternFault.{PatternFault}
use Rattle.pattern_file.specs.declared.fault.PatternFault.TheVariants as want
use Rattle.pattern_file.specs.Answers.{Answers, IsPlanOf, IsTextOf}
use Rattle.pattern_file.proofs.OneAnswer.{one_answer}

module _ (bytes : List ℕ) where
  one_file : (f g : File) → IsFileIn bytes f → IsFileIn bytes g → f ≡ g
  one_file f g x y = inner (one_answer bytes (Ok f) (Ok g) (λ e. cc) (λ e. cc) x y) where
    inner : ◌≡◌ {A = Result File SyntaxFault} (Ok f) (Ok g) → f ≡ g
    inner e = cc

  not_both : (f : File) (code place : ℕ) → IsFileIn bytes f → IsNoFile bytes code place → ⊥
  not_both f code place x y = inner (one_answer bytes (Ok f) (Err (Bad place code)) (λ e. cc) (λ e. cc) x y) where
    inner : ◌≡◌ {A = Result File SyntaxFault} (Ok f) (Err (Bad place code)) → ⊥
    inner e = cc

  one_no_file : (x y : Fault) → IsNoFile bytes x.code x.place → IsNoFile bytes y.code y.place → x ≡ y
  one_no_file x y a b = inner (one_answer bytes (Err (Bad x.place x.code)) (Err (Bad y.place y.code)) (λ e. cc) (λ e. cc) a b) where
    place_is : ◌≡◌ {A = Result File SyntaxFault} (Err (Bad x.place x.code)) (Err (Bad y.place y.code)) → x.place ≡ y.place
    place_is e = cc

    code_is : ◌≡◌ {A = Result File SyntaxFault} (Err (Bad x.place x.code)) (Err (Bad y.place y.code)) → x.code ≡ y.code
    code_is e = cc

    inner : ◌≡◌ {A = Result File SyntaxFault} (Err (Bad x.place x.code)) (Err (Bad y.place y.code)) → x ≡ y
    inner e = let p = place_is e in let q = code_is e in λ i. record { place = p i; code = q i }

  no_fault : (f g : File) (x : Fault) → f ≡ g → fault_of f ≡ None → fault_of g ≡ Some x → ⊥
  no_fault f g x same a b = let bad = sym a ∙ ap fault_of same ∙ b in cc

  one_fault : (f g : File) (x y : Fault) → f ≡ g → fault_of f ≡ Some x → fault_of g ≡ Some y → x ≡ y
  one_fault f g x y same a b = inner (sym a ∙ ap fault_of same ∙ b) where
    inner : Some x ≡ Some y → x ≡ y
    inner e = cc

  pub one_checked : (a b : Result File Fault) → AreCheckedAs bytes a → AreCheckedAs bytes b → a ≡ b
  one_checked (Ok f) (Ok g) x y = ap (λ h. Ok h) (one_file f g x.0 y.0)
  one_checked (Ok f) (Err e) x (inl y) = absurd (not_both f e.code e.place x.0 y)
  one_checked (Ok f) (Err e) x (inr y) = absurd (no_fault f y.0 e (one_file f y.0 x.0 y.1) x.1 y.2)
  one_checked (Err e) (Ok g) (inl x) y = absurd (not_both g e.code e.place y.0 x)
  one_checked (Err e) (Ok g) (inr x) y = absurd (no_fault g x.0 e (one_file g x.0 y.0 x.1) y.1 x.2)
  one_checked (Err d) (Err e) (inl x) (inl y) = ap (λ h. Err h) (one_no_file d e x y)
  one_checked (Err d) (Err e) (inl x) (inr y) = absurd (not_both y.0 d.code d.place y.1 x)
  one_checked (Err d) (Err e) (inr x) (inl y) = absurd (not_both x.0 e.code e.place x.1 y)
  one_checked (Err d) (Err e) (inr x) (inr y) = ap (λ h. Err h) (one_fault x.0 y.0 d e (one_file x.0 y.0 x.1 y.1) x.2 y.2)

  same_checked : (f g : File) → AreCheckedAs bytes (Ok f) → AreCheckedAs bytes (Ok g) → f ≡ g
  same_checked f g x y = one_file f g x.0 y.0

  never_both : (f : File) (e : Fault) → AreCheckedAs bytes (Ok f) → AreCheckedAs bytes (Err e) → ⊥
  never_both f e x y = let bad = one_checked (Ok f) (Err e) x y in cc

  pub one_planned : (a b : Result Plan Fault) → ArePlannedAs bytes a → ArePlannedAs bytes b → a ≡ b
  one_planned (Ok p) (Ok q) (f, x, is) (g, y, it) = ap (λ h. Ok h) (is ∙ ap plan_of (same_checked f g x y) ∙ sym it)
  one_planned (Ok p) (Err e) (f, x, is) y = absurd (never_both f e x y)
  one_planned (Err e) (Ok q) x (g, y, it) = absurd (never_both g e y x)
  one_planned (Err d) (Err e) x y = wrapped (one_checked (Err d) (Err e) x y) where
    wrapped : ◌≡◌ {A = Result File Fault} (Err d) (Err e) → ◌≡◌ {A = Result Plan Fault} (Err d) (Err e)
    wrapped h = cc

  pub one_printed : (a b : Result (List ℕ) Fault) → ArePrintedAs bytes a → ArePrintedAs bytes b → a ≡ b
  one_printed (Ok p) (Ok q) (f, x, is) (g, y, it) = ap (λ h. Ok h) (is ∙ ap printed (same_checked f g x y) ∙ sym it)
  one_printed (Ok p) (Err e) (f, x, is) y = absurd (never_both f e x y)
  one_printed (Err e) (Ok q) x (g, y, it) = absurd (never_both g e y x)
  one_printed (Err d) (Err e) x y = wrapped (one_checked (Err d) (Err e) x y) where
    wrapped : ◌≡◌ {A = Result File Fault} (Err d) (Err e) → ◌≡◌ {A = Result (List ℕ) Fault} (Err d) (Err e)
    wrapped h = cc

-- ---- the answers of the parts, put together

pub file-planned : (bytes : List ℕ) (file : File) (a : Result Plan Fault) → IsFileIn bytes file → IsPlanOf file a → ArePlannedAs bytes a
file-planned bytes file (Ok plan) read x = (file, (read, x.0), x.1)
file-planned bytes file (Err fault) read x = inr (file, read, x)

pub text-printed : (bytes : List ℕ) (file : File) (a : Result (List ℕ) Fault) → IsFileIn bytes file → IsTextOf file a → ArePrintedAs bytes a
text-printed bytes file (Ok text) read x = (file, (read, x.0), x.1)
text-printed bytes file (Err fault) read x = inr (file, read, x)

pub answers_too : {T : Type 0} (P Q : Result T Fault → Type 0) → ((a : Result T Fault) → P a → Q a) → (r : Result T PatternFault) → Answers P r → Answers Q r
answers_too P Q more (Ok v) x = more (Ok v) x
answers_too P Q more (Err want.NoMemory) x = tt
answers_too P Q more (Err (want.Bad place code)) x = more (Err (record { place = place; code = code })) x
