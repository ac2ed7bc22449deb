-- Words are read in one way.
use Rattle.std.proofs.Common.{◌≡◌, sym, ◌∙◌, ap, subst, ℕ, List, Option, Some, None}
use Rattle.cep_words.specs.declared.options.Options.{Options}

abbrev options_or : Options → Option (Options × List ℕ) → Options
options_or other None = other
options_or other (Some read) = read.0

same_options : (read : Option (Options × List ℕ)) (a b : Options) (m n : List ℕ) → read ≡ Some (a, m) → read ≡ Some (b, n) → a ≡ b
same_options read a b m n x y = ap (options_or a) (sym x ∙ y)

abbrev name_or : List ℕ → Option (Options × List ℕ) → List ℕ
name_or other None = other
name_or other (Some read) = read.1

same_name : (read : Option (Options × List ℕ)) (a b : Options) (m n : List ℕ) → read ≡ Some (a, m) → read ≡ Some (b, n) → m ≡ n
same_name read a b m n x y = ap (name_or m) (sym x ∙ y)

-- what holds of the one pair holds of every pair that the words are
pub of_the_same : (read : Option (Options × List ℕ)) (a b : Options) (m n : List ℕ) → read ≡ Some (a, m) → read ≡ Some (b, n)
    → (P : Options → List ℕ → Type 0) → P a m → P b n
of_the_same read a b m n x y P holds = subst (P b) (same_name read a b m n x y) (subst (λ (o : Options). P o m) (same_options read a b m n x y) holds)

-- words that are a command are not none
pub not_none : (read : Option (Options × List ℕ)) (a : Options) (m : List ℕ) → read ≡ Some (a, m) → read ≡ None → ⊥
not_none read a m is none = inner (sym is ∙ none) where
  inner : ◌≡◌ {A = Option (Options × List ℕ)} (Some (a, m)) None → ⊥
  inner h = cc
