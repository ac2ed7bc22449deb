-- What asks nothing, by its parts, and conditions that the event alone refutes. The laws on parts are over equations, as where the code takes an
-- expression apart.
use Rattle.std.proofs.Common.{◌≡◌, refl, sym, ◌∙◌, ap, ℕ, ◌<◌, ◌≤◌, ◌+◌, Bool, true, false, ◌||◌, List, [], ◌∷◌, ◌++◌, length, get_or, take, fold}
use Rattle.std.specs.List.{flat_map, list_any}
use Rattle.std.proofs.lemmas.List.{take_more}
use Rattle.cep_plan.specs.declared.condition.Cmp.{Cmp}
use Rattle.cep_plan.specs.declared.condition.Expr.{Expr, Any, All, Compare, Add, Mul, Not, Neg}
use Rattle.cep_plan.specs.declared.condition.Term.{Term}
use Rattle.cep_plan.specs.declared.condition.Factor.{Factor}
use Rattle.cep_plan.specs.declared.condition.Part.{Part}
use Rattle.cep_plan.specs.Condition.{joined, parts_hold}
use Rattle.cond_eval.specs.Asked.{questions_of}
use Rattle.cond_eval.proofs.QuestionLaws.{part_questions-hidden, questions_of-Add, questions_of-Mul, questions_of-Compare, questions_of-Not, questions_of-Neg}
use Rattle.cond_eval.proofs.PartLaws.{others, holds-all}

pub asks-Any : (e : Expr) (parts slice : List Expr) → e ≡ Any parts → slice ≡ parts → flat_map questions_of slice ≡ [] → questions_of e ≡ []
asks-Any e parts slice is same none = ap questions_of is ∙ part_questions-hidden parts ∙ ap (flat_map questions_of) (sym same) ∙ none

pub asks-All : (e : Expr) (parts slice : List Expr) → e ≡ All parts → slice ≡ parts → flat_map questions_of slice ≡ [] → questions_of e ≡ []
asks-All e parts slice is same none = ap questions_of is ∙ part_questions-hidden parts ∙ ap (flat_map questions_of) (sym same) ∙ none

pub asks-Add : (e : Expr) (terms slice : List Term) → e ≡ Add terms → slice ≡ terms → flat_map (λ term. questions_of term.expr) slice ≡ [] → questions_of e ≡ []
asks-Add e terms slice is same none = ap questions_of is ∙ questions_of-Add terms ∙ ap (flat_map (λ term. questions_of term.expr)) (sym same) ∙ none

pub asks-Mul : (e : Expr) (factors slice : List Factor) → e ≡ Mul factors → slice ≡ factors
    → flat_map (λ factor. questions_of factor.expr) slice ≡ [] → questions_of e ≡ []
asks-Mul e factors slice is same none = ap questions_of is ∙ questions_of-Mul factors ∙ ap (flat_map (λ factor. questions_of factor.expr)) (sym same) ∙ none

pub asks-Compare : (e : Expr) (c : Cmp) (x y z w : Expr) → e ≡ Compare c x y → z ≡ x → w ≡ y → questions_of z ≡ [] → questions_of w ≡ [] → questions_of e ≡ []
asks-Compare e c x y z w is left right first second =
    ap questions_of is ∙ questions_of-Compare c x y ∙ (λ i. questions_of (sym left i) ++ questions_of (sym right i)) ∙ (λ i. first i ++ second i)

pub asks-Not : (e x z : Expr) → e ≡ Not x → z ≡ x → questions_of z ≡ [] → questions_of e ≡ []
asks-Not e x z is same none = ap questions_of is ∙ questions_of-Not x ∙ ap questions_of (sym same) ∙ none

pub asks-Neg : (e x z : Expr) → e ≡ Neg x → z ≡ x → questions_of z ≡ [] → questions_of e ≡ []
asks-Neg e x z is same none = ap questions_of is ∙ questions_of-Neg x ∙ ap questions_of (sym same) ∙ none

-- a condition whose parts, folded from the first one on, come to false
pub parts-refuted : (holds : Part → Bool) (parts slice : List Part) (first : Part) → slice ≡ parts → 1 ≤ length slice → first ≡ get_or slice 0 first
    → fold (λ so_far next. joined next.join so_far (holds next)) (holds first) (others slice) ≡ false → parts_hold holds parts ≡ false
parts-refuted holds parts slice first same within refuted_first refuted =
    sym (holds-all holds parts slice first (holds first) false same within refuted_first refl (sym refuted))

-- ---- lists with one more element

module _ {X : Type 0} where
  any_push : (test : X → Bool) (xs : List X) (x : X) → list_any test xs ≡ false → test x ≡ false → list_any test (xs ++ x ∷ []) ≡ false
  any_push test [] x none refuted = ap (λ b. b || false) refuted
  any_push test (y ∷ xs) x none refuted = split (test y) none (λ h. any_push test xs x h refuted) where
    split : (b : Bool) → (b || list_any test xs) ≡ false → (list_any test xs ≡ false → list_any test (xs ++ x ∷ []) ≡ false)
        → (b || list_any test (xs ++ x ∷ [])) ≡ false
    split true h later = h
    split false h later = later h

  pub any-more : (test : X → Bool) (xs : List X) (i : ℕ) (x : X) → i < length xs → x ≡ get_or xs i x → list_any test (take i xs) ≡ false
      → test x ≡ false → list_any test (take (i + 1) xs) ≡ false
  any-more test xs i x within is none refuted = ap (list_any test) (take_more xs i x within)
      ∙ any_push test (take i xs) (get_or xs i x) none (sym (ap test is) ∙ refuted)

  fold_push : {A : Type 0} (f : A → X → A) (a : A) (xs : List X) (x : X) → fold f a (xs ++ x ∷ []) ≡ f (fold f a xs) x
  fold_push f a [] x = refl
  fold_push f a (y ∷ xs) x = fold_push f (f a y) xs x

  pub fold-more : {A : Type 0} (f : A → X → A) (a : A) (xs : List X) (i : ℕ) (x : X) → i < length xs → x ≡ get_or xs i x
      → fold f a (take (i + 1) xs) ≡ f (fold f a (take i xs)) x
  fold-more f a xs i x within is = ap (fold f a) (take_more xs i x within) ∙ fold_push f a (take i xs) (get_or xs i x) ∙ ap (f (fold f a (take i xs))) (sym is)
