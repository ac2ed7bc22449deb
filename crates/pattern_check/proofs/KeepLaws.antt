-- What keeps each of the rules of mentions.
use Rattle.std.proofs.Common.{◌≡◌, ℕ, zero, suc, ◌+◌, ◌<◌, Bool, true, List, [], ◌∷◌, length, get_or, refl, subst, arith}
use Rattle.std.specs.Prelude.{Option, None}
use Rattle.std.specs.List.{list_all}
use Rattle.pattern_rules.specs.declared.mention.MentionRule.{MentionRule}
use Rattle.pattern_rules.specs.declared.mention.MentionRule.TheVariants as rule
use Rattle.pattern_rules.specs.First.{or_else, first_some, first_from}
use Rattle.pattern_check.proofs.KeptRules.{first_none, second_none}
use Rattle.pattern_check.proofs.ListLaws.{both, left_of, right_of}
use Rattle.pattern_check.proofs.FromLaws.{from_none_at}

-- none of the rules of mentions is broken
pub record Keeps (judge : MentionRule → Option ℕ) : Type 0 where
  pub fields_known : judge rule.UnknownField ≡ None
  pub names_known : judge rule.UnknownName ≡ None
  pub none_later : judge rule.LaterName ≡ None
  pub names_positive : judge rule.NegatedName ≡ None

pub first_keeps : (judge rest : MentionRule → Option ℕ) → Keeps (λ r. or_else (judge r) (rest r)) → Keeps judge
first_keeps judge rest h = record {
  fields_known = first_none (judge rule.UnknownField) (rest rule.UnknownField) h.fields_known;
  names_known = first_none (judge rule.UnknownName) (rest rule.UnknownName) h.names_known;
  none_later = first_none (judge rule.LaterName) (rest rule.LaterName) h.none_later;
  names_positive = first_none (judge rule.NegatedName) (rest rule.NegatedName) h.names_positive;
}

pub rest_keeps : (judge rest : MentionRule → Option ℕ) → Keeps (λ r. or_else (judge r) (rest r)) → Keeps rest
rest_keeps judge rest h = record {
  fields_known = second_none (judge rule.UnknownField) (rest rule.UnknownField) h.fields_known;
  names_known = second_none (judge rule.UnknownName) (rest rule.UnknownName) h.names_known;
  none_later = second_none (judge rule.LaterName) (rest rule.LaterName) h.none_later;
  names_positive = second_none (judge rule.NegatedName) (rest rule.NegatedName) h.names_positive;
}

-- each element keeps the rules, and has the form
pub all_keep : {A : Type 0} (judge : MentionRule → A → Option ℕ) (form p : A → Bool)
    → ((x : A) → form x ≡ true → Keeps (λ r. judge r x) → p x ≡ true) → (xs : List A) → list_all form xs ≡ true
    → Keeps (λ r. first_some (judge r) xs) → list_all p xs ≡ true
all_keep judge form p each [] good h = refl
all_keep judge form p each (x ∷ xs) good h =
    both (p x) (list_all p xs)
    (each x (left_of (form x) (list_all form xs) good) (first_keeps (λ r. judge r x) (λ r. first_some (judge r) xs) h))
    (all_keep judge form p each xs (right_of (form x) (list_all form xs) good) (rest_keeps (λ r. judge r x) (λ r. first_some (judge r) xs) h))

pub keeps_at : {A : Type 0} (judge : MentionRule → ℕ → A → Option ℕ) (xs : List A) (k : ℕ) (d : A) → k < length xs
    → Keeps (λ r. first_from (judge r) 0 xs) → Keeps (λ r. judge r k (get_or xs k d))
keeps_at judge xs k d h keeps =
    let zero_so : 0 + k ≡ k = omega arith in
    subst (λ (n : ℕ). Keeps (λ r. judge r n (get_or xs k d))) zero_so (record {
      fields_known = from_none_at (judge rule.UnknownField) 0 xs k d h keeps.fields_known;
      names_known = from_none_at (judge rule.UnknownName) 0 xs k d h keeps.names_known;
      none_later = from_none_at (judge rule.LaterName) 0 xs k d h keeps.none_later;
      names_positive = from_none_at (judge rule.NegatedName) 0 xs k d h keeps.names_positive;
    })

pub all_at : {A : Type 0} (p : A → Bool) (xs : List A) (k : ℕ) (d : A) → k < length xs → list_all p xs ≡ true → p (get_or xs k d) ≡ true
all_at p [] k d h e = absurd (omega arith)
all_at p (x ∷ xs) zero d h e = left_of (p x) (list_all p xs) e
all_at p (x ∷ xs) (suc k) d h e = all_at p xs k d (omega arith) (right_of (p x) (list_all p xs) e)

pub all_true : {A : Type 0} (xs : List A) → list_all (λ _. true) xs ≡ true
all_true [] = refl
all_true (x ∷ xs) = all_true xs
