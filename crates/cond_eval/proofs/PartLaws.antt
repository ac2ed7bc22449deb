-- The parts of a condition, as the code has them: the first one and the others.
use Rattle.std.proofs.Common.{◌≡◌, sym, ◌∙◌, ap, subst, ◌-◌, ◌<◌, ◌≤◌, Bool, true, List, [], ◌∷◌, length, get_or, take, drop, fold, arith}
use Rattle.std.specs.List.{All, flat_map}
use Rattle.std.proofs.lemmas.List.{take_all}
use Rattle.cep_plan.specs.declared.condition.Part.{Part}
use Rattle.cep_plan.specs.Condition.{joined, parts_hold}
use Rattle.cep_plan.specs.Question.{Question}
use Rattle.cond_eval.specs.Asked.{questions_of}
use Rattle.cond_eval.proofs.QuestionLaws.{can-later}

-- all but the first one
abbrev pub others : List Part → List Part
others parts = take (length parts - 1) (drop 1 parts)

first_and_others : (parts : List Part) (first : Part) → 1 ≤ length parts → first ≡ get_or parts 0 first → parts ≡ first ∷ others parts
first_and_others [] first within is = absurd (omega arith)
first_and_others (part ∷ parts) first within is = ap (λ p. p ∷ parts) (sym is)
    ∙ ap (λ more. first ∷ more) (sym (take_all (length (part ∷ parts) - 1) parts (omega arith)))

pub can-others : (can : Question → Type 0) (parts slice : List Part) (first : Part) → slice ≡ parts → 1 ≤ length slice → first ≡ get_or slice 0 first
    → All can (flat_map (λ part. questions_of part.expr) parts) → All can (flat_map (λ part. questions_of part.expr) (others slice))
can-others can parts slice first same within is can_all =
    let P : List Part → Type 0 = λ ps. All can (flat_map (λ part. questions_of part.expr) ps) in
    can-later can (λ part. questions_of part.expr) first (others slice) (subst P (sym same ∙ first_and_others slice first within is) can_all)

module _ (holds : Part → Bool) where
  pub holds-none : (parts slice : List Part) → slice ≡ parts → length slice < 1 → true ≡ parts_hold holds parts
  holds-none parts [] same none = ap (parts_hold holds) same
  holds-none parts (part ∷ more) same none = absurd (omega arith)

  pub holds-all : (parts slice : List Part) (first : Part) (so_far result : Bool) → slice ≡ parts → 1 ≤ length slice → first ≡ get_or slice 0 first
      → so_far ≡ holds first → result ≡ fold (λ so_far next. joined next.join so_far (holds next)) so_far (others slice)
      → result ≡ parts_hold holds parts
  holds-all parts slice first so_far result same within is begins ends =
      ends
      ∙ ap (λ b. fold (λ so_far next. joined next.join so_far (holds next)) b (others slice)) begins
      ∙ sym (ap (parts_hold holds) (sym same ∙ first_and_others slice first within is))
