-- A loop that reads a list: what it has found, and what is left to find.
use Rattle.std.proofs.Common.{◌≡◌, ℕ, suc, ◌-◌, ◌+◌, ◌<◌, ◌≤◌, Bool, true, false, cond, List, [], ◌∷◌, ◌++◌, refl, sym, ◌∙◌, ap, arith, append_assoc, append-nil}
use Rattle.std.specs.Prelude.{Ok, Err}
use Rattle.cep_reading.specs.declared.stop.Stop.{Stop}
use Rattle.cep_reading.specs.declared.stop.Stop.TheVariants.{Spent}
use Rattle.cep_reading.specs.Lexeme.{Lexeme}
use Rattle.cep_reading.specs.Reading.{Left, Outcome, Reader, and_then, next_is, many, pure, ◌>>=◌}

abbrev pub with_front : {A : Type 0} → List A → Outcome (List A) → Outcome (List A)
with_front front o = and_then o (λ more. pure (front ++ more))

pub with_front-none : {A : Type 0} (o : Outcome (List A)) → with_front [] o ≡ o
with_front-none (Ok found) = refl
with_front-none (Err stop) = refl

with_front-cons : {A : Type 0} (found : List A) (a : A) (o : Outcome (List A))
    → with_front found (and_then o (λ more. pure (a ∷ more))) ≡ with_front (found ++ a ∷ []) o
with_front-cons found a (Ok more) = ap (λ l. Ok (l, more.1)) (sym (append_assoc found (a ∷ []) more.0))
with_front-cons found a (Err stop) = refl

module _ {A : Type 0} (first : Lexeme → Bool) (p : Reader A) (room turn : ℕ) (found : List A) (ts : Left) where
  one_more : turn < room → many (room - turn) first p ts ≡ many (suc (room - (turn + 1))) first p ts
  one_more below = let e : room - turn ≡ suc (room - (turn + 1)) = omega arith in ap (λ n. many n first p ts) e

  abbrev next : A → Reader (List A)
  next a = many (room - (turn + 1)) first p >>= (λ more. pure (a ∷ more))

  pub many_step : (a : A) (mid : Left) → turn < room → next_is first ts ≡ true → p ts ≡ Ok (a, mid)
      → with_front found (many (room - turn) first p ts) ≡ with_front (found ++ a ∷ []) (many (room - (turn + 1)) first p mid)
  unfolding many
  many_step a mid below sees reads =
      ap (with_front found) (one_more below ∙ ap (λ b. cond b (and_then (p ts) next) (Ok ([], ts))) sees ∙ ap (λ o. and_then o next) reads)
      ∙ with_front-cons found a (many (room - (turn + 1)) first p mid)

  pub many_ends : turn < room → next_is first ts ≡ false → with_front found (many (room - turn) first p ts) ≡ Ok (found, ts)
  unfolding many
  many_ends below sees =
      ap (with_front found) (one_more below ∙ ap (λ b. cond b (and_then (p ts) next) (Ok ([], ts))) sees)
      ∙ ap (λ l. Ok (l, ts)) (append-nil found)

  pub many_fails : (why : Stop) (rest : Left) → turn < room → next_is first ts ≡ true → p ts ≡ Err (why, rest)
      → with_front found (many (room - turn) first p ts) ≡ Err (why, rest)
  unfolding many
  many_fails why rest below sees reads =
      ap (with_front found) (one_more below ∙ ap (λ b. cond b (and_then (p ts) next) (Ok ([], ts))) sees ∙ ap (λ o. and_then o next) reads)

  pub many_spent : room ≤ turn → with_front found (many (room - turn) first p ts) ≡ Err (Spent, ts)
  unfolding many
  many_spent over = let none : room - turn ≡ 0 = omega arith in ap (λ n. with_front found (many n first p ts)) none
