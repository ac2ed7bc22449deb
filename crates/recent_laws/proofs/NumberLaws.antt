-- Two numbers that grow by the same stay in order.
use Rattle.std.proofs.Common.{◌≡◌, refl, sym, ℕ, ◌+◌, Bool, true, false, arith, ltb, leb, eqb}
use Rattle.std.proofs.lemmas.Bool.{ltb-true, lt-ltb, leb-true, le-leb, eqb-true, eq-eqb}

decided : (x y : Bool) → (x ≡ true → y ≡ true) → (y ≡ true → x ≡ true) → x ≡ y
decided true y f g = sym (f refl)
decided false true f g = let no : true ≡ false = sym (g refl) in absurd cc
decided false false f g = refl

pub ltb-moved : (by a b : ℕ) → ltb (by + a) (by + b) ≡ ltb a b
ltb-moved by a b = decided (ltb (by + a) (by + b)) (ltb a b) (λ h. let lt = ltb-true (by + a) (by + b) h in lt-ltb a b (omega (arith, lt)))
    (λ h. let lt = ltb-true a b h in lt-ltb (by + a) (by + b) (omega (arith, lt)))

pub eqb-moved : (by a b : ℕ) → eqb (by + a) (by + b) ≡ eqb a b
eqb-moved by a b = decided (eqb (by + a) (by + b)) (eqb a b) (λ h. let e = eqb-true (by + a) (by + b) h in eq-eqb a b (omega (arith, e)))
    (λ h. let e = eqb-true a b h in eq-eqb (by + a) (by + b) (omega (arith, e)))

pub leb-moved : (by a b : ℕ) → leb (by + a) (by + b) ≡ leb a b
leb-moved by a b = decided (leb (by + a) (by + b)) (leb a b) (λ h. let le = leb-true (by + a) (by + b) h in le-leb a b (omega (arith, le)))
    (λ h. let le = leb-true a b h in le-leb (by + a) (by + b) (omega (arith, le)))
