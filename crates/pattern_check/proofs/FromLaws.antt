-- What no element breaks, judged with its number.
use Rattle.std.proofs.Common.{◌≡◌, ℕ, zero, suc, ◌+◌, ◌<◌, List, [], ◌∷◌, length, get_or, ap, ◌∙◌, arith}
use Rattle.std.specs.Prelude.{Option, None}
use Rattle.pattern_rules.specs.First.{first_from}
use Rattle.pattern_check.proofs.KeptRules.{first_none, second_none}

pub from_none_at : {A B : Type 0} (f : ℕ → A → Option B) (n : ℕ) (xs : List A) (k : ℕ) (d : A) → k < length xs → first_from f n xs ≡ None
    → f (n + k) (get_or xs k d) ≡ None
from_none_at f n [] k d h e = absurd (omega arith)
from_none_at f n (x ∷ xs) zero d h e = let same : n + 0 ≡ n = omega arith in ap (λ (m : ℕ). f m x) same ∙ first_none (f n x) (first_from f (suc n) xs) e
from_none_at f n (x ∷ xs) (suc k) d h e =
    let same : n + suc k ≡ suc n + k = omega arith in
    ap (λ (m : ℕ). f m (get_or xs k d)) same ∙ from_none_at f (suc n) xs k d (omega arith) (second_none (f n x) (first_from f (suc n) xs) e)
