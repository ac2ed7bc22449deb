-- The front of a pattern file that fits the room is read as the whole file is.
use Rattle.std.proofs.Common.{◌≡◌, ◌≤◌, ◌<◌, ℕ, List, Bool, true, false, leb, length, take, min, Option, Some, inl, inr, refl, sym, ap, ◌∙◌, subst, arith}
use Rattle.std.specs.Prelude.{Result, Ok, Err}
use Rattle.std.proofs.lemmas.Bool.Decides.{nat_tests}
use Rattle.std.proofs.lemmas.List.{take_all, length-take-le}
use Rattle.cep_outside.specs.Outside.{IsLoaded}
use Rattle.cep_plan.specs.declared.plan.Plan.{Plan}
use Rattle.cep_syntax.specs.declared.file.File.{File}
use Rattle.pattern_rules.specs.declared.rule.Fault.{Fault}
use Rattle.pattern_file.specs.Checked.{AreCheckedAs, ArePlannedAs, ArePrintedAs}
use Rattle.nfa_compile.specs.Explained.{explained}
use Rattle.cep_cli.specs.declared.pattern.Form.{Form}
use Rattle.cep_cli.specs.declared.pattern.Form.TheVariants as form
use Rattle.cep_cli.specs.declared.pattern.PatternStop.{PatternStop}
use Rattle.cep_cli.specs.declared.pattern.PatternStop.TheVariants.{NoMemory, Failed, Refused}
use Rattle.cep_cli.specs.Pattern.{AreMadeInto, AreShownAs, ReadsAlike, Tells}

all_of : (n count : ℕ) → count ≡ min n 65537 → leb n 65536 ≡ true → n ≤ count
all_of n count is h = grind (arith, nat_tests)

full_room : (n count : ℕ) → count ≡ min n 65537 → leb n 65536 ≡ false → count ≡ 65537
full_room n count is h = grind (arith, nat_tests)

is_long : (n : ℕ) → leb n 65536 ≡ false → 65536 < n
is_long n h = grind (arith, nat_tests)

-- bytes that are both too long are read alike
both_long : (front content : List ℕ) → 65536 < length front → 65536 < length content → ReadsAlike front content
both_long front content long more = λ answer x. record {
  long = λ h. x.long long;
  not_text = λ short. absurd (omega (arith, short, more));
  text = λ short. absurd (omega (arith, short, more));
}

cases : (content : List ℕ) (count : ℕ) → count ≡ min (length content) 65537 → (b : Bool) → leb (length content) 65536 ≡ b
    → ReadsAlike (take count content) content
cases content count is true short = subst (λ l. ReadsAlike l content) (sym (take_all count content (all_of (length content) count is short))) (λ answer x. x)
cases content count is false long =
    let more = is_long (length content) long in
    let full = full_room (length content) count is long in
    both_long (take count content) content (omega (arith, length-take-le count content (omega arith))) more

pub front_reads : (told : Option (List ℕ)) (content : List ℕ) (count : ℕ) (room : List ℕ) → told ≡ Some content → length room ≡ 65537
    → IsLoaded told count room → ReadsAlike (take count room) content
front_reads told content count room is size loaded =
    let l = subst (λ (t : Option (List ℕ)). IsLoaded t count room) is loaded in
    subst (λ f. ReadsAlike f content) (sym l.1) (cases content count (l.0 ∙ ap (min (length content)) size) (leb (length content) 65536) refl)

module _ (front content : List ℕ) (alike : ReadsAlike front content) where
  checked : (a : Result File Fault) → AreCheckedAs front a → AreCheckedAs content a
  checked (Ok f) x = (alike (Ok f) x.0, x.1)
  checked (Err e) (inl x) = inl (alike _ x)
  checked (Err e) (inr (f, x, broken)) = inr (f, alike (Ok f) x, broken)

  pub planned : (a : Result Plan Fault) → ArePlannedAs front a → ArePlannedAs content a
  planned (Ok p) (f, x, is) = (f, checked (Ok f) x, is)
  planned (Err e) x = checked (Err e) x

  printed : (a : Result (List ℕ) Fault) → ArePrintedAs front a → ArePrintedAs content a
  printed (Ok t) (f, x, is) = (f, checked (Ok f) x, is)
  printed (Err e) x = checked (Err e) x

  made_too : (made : Plan → List ℕ) (a : Result (List ℕ) Fault) → AreMadeInto made front a → AreMadeInto made content a
  made_too made (Ok t) (p, x, is) = (p, planned (Ok p) x, is)
  made_too made (Err e) x = planned (Err e) x

  pub shown : (f : Form) (a : Result (List ℕ) Fault) → AreShownAs f front a → AreShownAs f content a
  shown form.File a x = printed a x
  shown form.States a x = made_too explained a x

pub tells_too : {T : Type 0} (P Q : Result T Fault → Type 0) → ((a : Result T Fault) → P a → Q a) → (r : Result T PatternStop) → Tells P r → Tells Q r
tells_too P Q more (Ok v) x = more (Ok v) x
tells_too P Q more (Err NoMemory) x = tt
tells_too P Q more (Err Failed) x = tt
tells_too P Q more (Err (Refused place code)) x = more (Err (record { place = place; code = code })) x

-- ---- bytes come to one text of a form

module _ (bytes : List ℕ) (one_planned : (a b : Result Plan Fault) → ArePlannedAs bytes a → ArePlannedAs bytes b → a ≡ b)
    (one_printed : (a b : Result (List ℕ) Fault) → ArePrintedAs bytes a → ArePrintedAs bytes b → a ≡ b) where
  same_plan : (p q : Plan) → ArePlannedAs bytes (Ok p) → ArePlannedAs bytes (Ok q) → p ≡ q
  same_plan p q x y = inner (one_planned (Ok p) (Ok q) x y) where
    inner : ◌≡◌ {A = Result Plan Fault} (Ok p) (Ok q) → p ≡ q
    inner h = cc

  never_both : (p : Plan) (e : Fault) → ArePlannedAs bytes (Ok p) → ArePlannedAs bytes (Err e) → ⊥
  never_both p e x y = let bad = one_planned (Ok p) (Err e) x y in cc

  one_made : (made : Plan → List ℕ) (a b : Result (List ℕ) Fault) → AreMadeInto made bytes a → AreMadeInto made bytes b → a ≡ b
  one_made made (Ok s) (Ok t) (p, x, is) (q, y, it) = ap (λ h. Ok h) (is ∙ ap made (same_plan p q x y) ∙ sym it)
  one_made made (Ok s) (Err e) (p, x, is) y = absurd (never_both p e x y)
  one_made made (Err e) (Ok t) x (q, y, it) = absurd (never_both q e y x)
  one_made made (Err d) (Err e) x y = wrapped (one_planned (Err d) (Err e) x y) where
    wrapped : ◌≡◌ {A = Result Plan Fault} (Err d) (Err e) → ◌≡◌ {A = Result (List ℕ) Fault} (Err d) (Err e)
    wrapped h = cc

  pub one_shown : (f : Form) (a b : Result (List ℕ) Fault) → AreShownAs f bytes a → AreShownAs f bytes b → a ≡ b
  one_shown form.File a b x y = one_printed a b x y
  one_shown form.States a b x y = one_made explained a b x y
