-- Readers that never stop at a word `greedy`.
use Rattle.std.proofs.Common.{◌≡◌, ℕ, zero, suc, Bool, true, false, ◌⊎◌, inl, inr, [], ◌∷◌, ap}
use Rattle.std.specs.Prelude.{Option, Some, None, Err}
use Rattle.cep_reading.specs.declared.stop.Stop.TheVariants.{Greedy, Spent}
use Rattle.cep_reading.specs.Lexeme.{Lexeme}
use Rattle.cep_reading.specs.Reading.{Left, Reader, and_then, taken, next_is, place_of}
use Rattle.cep_reading.specs.Reading as read
use Rattle.cep_reading.proofs.Laws.{IsThen, and_then_err, chosen, err_value}

pub record Quiet {A : Type 0} (p : Reader A) : Type 0 where
  pub never : (ts rest : Left) → p ts ≡ Err (Greedy, rest) → ⊥

pub Quiet-pure : {A : Type 0} (a : A) → Quiet (read.pure a)
Quiet-pure a = record { never = λ ts rest e. cc }

pub Quiet-spent : {A : Type 0} → Quiet {A = A} (read.stop Spent)
Quiet-spent = record { never = λ ts rest e. let bad = ap (λ x. x.0) (err_value e) in cc }

taken_expects : {A : Type 0} (t : Lexeme) (ts rest : Left) (o : Option A) → taken t ts o ≡ Err (Greedy, rest) → ⊥
taken_expects t ts rest (Some a) e = cc
taken_expects t ts rest None e = let bad = ap (λ x. x.0) (err_value e) in cc

pub Quiet-one : {A : Type 0} (f : Lexeme → Option A) → Quiet (read.one f)
unfolding read.one
Quiet-one {A} f = record { never = at } where
  at : (ts rest : Left) → read.one f ts ≡ Err (Greedy, rest) → ⊥
  at [] rest e = let bad = ap (λ x. x.0) (err_value e) in cc
  at (t ∷ ts) rest e = taken_expects t ts rest (f t) e

pub Quiet-then : {A B : Type 0} (p : Reader A) (q : A → Reader B) → Quiet p → ((a : A) → Quiet (q a)) → Quiet (read.◌>>=◌ p q)
Quiet-then p q first second = record { never = λ ts rest e. cases ts rest (and_then_err (p ts) q Greedy rest e) } where
  cases : (ts rest : Left) → (p ts ≡ Err (Greedy, rest)) ⊎ IsThen (p ts) q (Err (Greedy, rest)) → ⊥
  cases ts rest (inl h) = first.never ts rest h
  cases ts rest (inr k) = (second k.value).never k.mid rest k.gives

pub Quiet-choose : {A : Type 0} (first : Lexeme → Bool) (p q : Reader A) → Quiet p → Quiet q → Quiet (read.choose first p q)
Quiet-choose first p q one other = record { never = λ ts rest e. cases ts rest (chosen (next_is first ts) (p ts) (q ts) (Err (Greedy, rest)) e) } where
  cases : (ts rest : Left) → ((next_is first ts ≡ true) × (p ts ≡ Err (Greedy, rest))) ⊎ ((next_is first ts ≡ false) × (q ts ≡ Err (Greedy, rest))) → ⊥
  cases ts rest (inl h) = one.never ts rest h.1
  cases ts rest (inr h) = other.never ts rest h.1

pub Quiet-placed : {A : Type 0} (p : Reader A) → Quiet p → Quiet (read.placed p)
Quiet-placed p quiet = record { never = λ ts rest e. cases ts rest (and_then_err (p ts) (read.located (place_of ts)) Greedy rest e) } where
  cases : (ts rest : Left) → (p ts ≡ Err (Greedy, rest)) ⊎ IsThen (p ts) (read.located (place_of ts)) (Err (Greedy, rest)) → ⊥
  cases ts rest (inl h) = quiet.never ts rest h
  cases ts rest (inr k) = let bad = k.gives in cc

pub Quiet-many : {A : Type 0} (n : ℕ) (first : Lexeme → Bool) (p : Reader A) → Quiet p → Quiet (read.many n first p)
unfolding read.many
Quiet-many zero first p quiet = Quiet-spent
Quiet-many (suc n) first p quiet =
    Quiet-choose first _ _ (Quiet-then p _ quiet
    (λ a. Quiet-then (read.many n first p) _ (Quiet-many n first p quiet) (λ more. Quiet-pure (a ∷ more)))) (Quiet-pure [])
