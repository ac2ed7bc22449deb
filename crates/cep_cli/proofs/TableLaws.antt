-- Checked plans are compiled.
use Rattle.std.proofs.Common.{◌≡◌, refl, ℕ, arith, true, ◌&&◌, Option, Some, None}
use Rattle.std.specs.Prelude.{nat_le}
use Rattle.std.proofs.lemmas.Bool.{and_parts, and_from}
use Rattle.std.proofs.lemmas.Bool.Decides.{nat_tests}
use Rattle.cep_plan.specs.declared.plan.Plan.{Plan}
use Rattle.cep_plan.specs.declared.plan.Stage.{Stage}
use Rattle.nfa_compile.specs.State.{most_within, IsCompilable}
use Rattle.nfa_compile.proofs.CompilableLaws.{compilable_from}
use Rattle.pattern_check.specs.Checked.{has_bounds as keeps_bounds, reaches, states_up_to, IsChecked}
use Rattle.pattern_file.specs.Usable.{IsUsable}

same : (least : ℕ) (most : Option ℕ) → states_up_to least most ≡ most_within least most
same least None = refl
same least (Some greatest) = refl

itself : (n : ℕ) → nat_le n n ≡ true
itself n = grind (arith, nat_tests)

enough : (least : ℕ) (most : Option ℕ) → (nat_le 1 least && (nat_le least 256 && reaches least most)) ≡ true
    → (nat_le 1 least && nat_le least (most_within least most)) ≡ true
enough least None h = and_from (nat_le 1 least) (nat_le least least) (and_parts (nat_le 1 least) (nat_le least 256 && true) h).0 (itself least)
enough least (Some greatest) h =
    let both = and_parts (nat_le 1 least) (nat_le least 256 && (nat_le least greatest && nat_le greatest 256)) h in
    let more = and_parts (nat_le least 256) (nat_le least greatest && nat_le greatest 256) both.1 in
    and_from (nat_le 1 least) (nat_le least greatest) both.0 (and_parts (nat_le least greatest) (nat_le greatest 256) more.1).0

pub compilable : (plan : Plan) → IsUsable plan → IsCompilable plan
compilable plan usable =
    let checked : IsChecked plan = usable.checked in
    compilable_from plan (λ (s : Stage). states_up_to s.min s.max) keeps_bounds (λ s. same s.min s.max)
    (λ s. enough s.min s.max) checked.few_stages checked.bounds checked.few_states
