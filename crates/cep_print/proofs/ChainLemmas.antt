-- A chain with one more part.
use Rattle.std.proofs.Common.{◌≡◌, ℕ, zero, suc, ◌+◌, ◌<◌, Bool, false, cond, List, [], ◌∷◌, ◌++◌, length, get_or, take, map, refl, sym, ◌∙◌, ap, arith, append_assoc, append-nil}
use Rattle.std.specs.Prelude.{◌==◌, flat_map}
use Rattle.std.proofs.lemmas.Bool.Decides.{nat_tests}
use Rattle.std.proofs.lemmas.List.{map_more}
use Rattle.std.proofs.lemmas.List.Concat.{flat_map-append}
use Rattle.cep_print.specs.Literal.{Text}
use Rattle.cep_print.specs.Expression.{chained}

abbrev with_sign : Text × Text → Text
with_sign part = part.0 ++ part.1

-- what stands before the next part
abbrev before : List (Text × Text) → Text → Text
before [] sign = []
before (part ∷ parts) sign = sign

chained-push : (parts : List (Text × Text)) (sign text : Text) → chained (parts ++ (sign, text) ∷ []) ≡ chained parts ++ (before parts sign ++ text)
chained-push [] sign text = append-nil text
chained-push (part ∷ parts) sign text =
    ap (λ l. part.1 ++ l) (flat_map-append with_sign parts ((sign, text) ∷ []) ∙ ap (λ l. flat_map with_sign parts ++ l) (append-nil (sign ++ text)))
    ∙ sym (append_assoc part.1 (flat_map with_sign parts) (sign ++ text))

not_none : (i : ℕ) → (suc i == 0) ≡ false
not_none i = grind (arith, nat_tests)

pub not_first : (i : ℕ) → false ≡ (i + 1 == 0)
not_first i = grind (arith, nat_tests)

module _ {X : Type 0} (part : X → Text × Text) where
  before_next : (xs : List X) (i : ℕ) (sign : Text) → i < length xs → before (map part (take i xs)) sign ≡ cond (i == 0) [] sign
  before_next [] i sign lt = absurd (omega arith)
  before_next (x ∷ xs) zero sign lt = refl
  before_next (x ∷ xs) (suc i) sign lt = ap (λ b. cond b [] sign) (sym (not_none i))

  -- a turn of a loop over the parts: its sign is added, and then its text
  pub chained-more : (xs : List X) (i : ℕ) (x : X) (first : Bool) (old out behind_sign new : Text) → i < length xs → x ≡ get_or xs i x → first ≡ (i == 0)
      → behind_sign ≡ out ++ cond first [] (part x).0 → new ≡ behind_sign ++ (part x).1 → out ≡ old ++ chained (map part (take i xs))
      → new ≡ old ++ chained (map part (take (i + 1) xs))
  chained-more xs i x first old out behind_sign new lt is so add_sign add_text so_far =
      let parts = map part (take i xs) in
      let sign = (part x).0 in
      let text = (part x).1 in
      add_text
      ∙ ap (λ l. l ++ text) add_sign
      ∙ (λ k. (so_far k ++ cond (so k) [] sign) ++ text)
      ∙ ap (λ l. (old ++ chained parts ++ l) ++ text) (sym (before_next xs i sign lt))
      ∙ append_assoc (old ++ chained parts) (before parts sign) text
      ∙ append_assoc old (chained parts) (before parts sign ++ text)
      ∙ ap (λ l. old ++ l) (sym (chained-push parts sign text) ∙ ap chained (ap (λ y. parts ++ part y ∷ []) is ∙ sym (map_more part xs i x lt)))
