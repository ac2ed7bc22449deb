-- What holds of each element of a list that is made of another.
use Rattle.std.proofs.Common.{◌≡◌, ℕ, suc, ◌+◌, ◌≤◌, ◌<◌, ◌⊎◌, inl, inr, Bool, true, false, cond, not, ◌&&◌, ◌||◌, List, [], ◌∷◌, length, map, refl, ap, ◌∙◌, arith}
use Rattle.std.specs.Prelude.{Option, None}
use Rattle.std.specs.List.{list_all, list_any, filter, sum_by, position_or_len}
use Rattle.std.proofs.lemmas.List.Sums.{sum_by-cons}
use Rattle.pattern_rules.specs.First.{first_some}
use Rattle.pattern_check.proofs.KeptRules.{first_none, second_none}

pub both : (a b : Bool) → a ≡ true → b ≡ true → (a && b) ≡ true
both a b p q = ap (λ x. x && b) p ∙ q

pub left_of : (a b : Bool) → (a && b) ≡ true → a ≡ true
left_of true b p = refl
left_of false b p = p

pub right_of : (a b : Bool) → (a && b) ≡ true → b ≡ true
right_of true b p = p
right_of false b p = absurd (cc)

-- no element breaks the rule, so each keeps what the rule says
pub all_kept : {A B : Type 0} (judge : A → Option B) (p : A → Bool) → ((x : A) → judge x ≡ None → p x ≡ true) → (xs : List A)
    → first_some judge xs ≡ None → list_all p xs ≡ true
all_kept judge p each [] e = refl
all_kept judge p each (x ∷ xs) e =
    both (p x) (list_all p xs) (each x (first_none (judge x) (first_some judge xs) e))
    (all_kept judge p each xs (second_none (judge x) (first_some judge xs) e))

pub all_so : {A : Type 0} (p q : A → Bool) → ((x : A) → p x ≡ true → q x ≡ true) → (xs : List A) → list_all p xs ≡ true → list_all q xs ≡ true
all_so p q each [] e = refl
all_so p q each (x ∷ xs) e =
    both (q x) (list_all q xs) (each x (left_of (p x) (list_all p xs) e)) (all_so p q each xs (right_of (p x) (list_all p xs) e))

made_step : {A B : Type 0} (f : A → B) (p : B → Bool) (b : Bool) (x : A) (rest : List A) → p (f x) ≡ true → list_all p (map f rest) ≡ true
    → list_all p (map f (cond b (x ∷ rest) rest)) ≡ true
made_step f p true x rest here later = both (p (f x)) (list_all p (map f rest)) here later
made_step f p false x rest here later = later

-- of those that pass q, each is made one that passes p
pub all_made : {A B : Type 0} (q : A → Bool) (f : A → B) (p : B → Bool) (xs : List A) → list_all (λ x. p (f x)) xs ≡ true
    → list_all p (map f (filter q xs)) ≡ true
all_made q f p [] e = refl
all_made q f p (x ∷ xs) e =
    made_step f p (q x) x (filter q xs) (left_of (p (f x)) (list_all (λ y. p (f y)) xs) e)
    (all_made q f p xs (right_of (p (f x)) (list_all (λ y. p (f y)) xs) e))

sum_step : {A B : Type 0} (f : A → B) (size : B → ℕ) (least : A → ℕ) (b : Bool) (x : A) (rest xs : List A) → size (f x) ≤ least x ⊎ (b ≡ false)
    → sum_by size (map f rest) ≤ sum_by least xs → sum_by size (map f (cond b (x ∷ rest) rest)) ≤ least x + sum_by least xs
sum_step f size least true x rest xs (inl h) later =
    let first = sum_by-cons size (f x) (map f rest) in
    let whole : sum_by size (f x ∷ map f rest) ≤ least x + sum_by least xs = omega arith in whole
sum_step f size least true x rest xs (inr h) later = absurd (cc)
sum_step f size least false x rest xs h later =
    let whole : sum_by size (map f rest) ≤ least x + sum_by least xs = omega arith in whole

-- the sum over those that are made is at most the sum over all
pub sum_made : {A B : Type 0} (q : A → Bool) (f : A → B) (size : B → ℕ) (least : A → ℕ) → ((x : A) → size (f x) ≤ least x ⊎ (q x ≡ false))
    → (xs : List A) → sum_by size (map f (filter q xs)) ≤ sum_by least xs
sum_made q f size least each [] = omega arith
sum_made q f size least each (x ∷ xs) =
    rw (sum_by-cons least x xs) (sum_step f size least (q x) x (filter q xs) xs (each x) (sum_made q f size least each xs))

found_step : (b rest : Bool) (m n : ℕ) → (b || rest) ≡ true → (rest ≡ true → m < n) → cond (not b) (1 + m) 0 < suc n
found_step true rest m n e later = omega arith
found_step false rest m n e later = let h = later e in omega arith

-- the place of what is found is within the list
pub place_found : {A : Type 0} (p : A → Bool) (xs : List A) → list_any p xs ≡ true → position_or_len p xs < length xs
place_found p [] e = absurd (cc)
place_found p (x ∷ xs) e = found_step (p x) (list_any p xs) (position_or_len p xs) (length xs) e (place_found p xs)

count_step : (b : Bool) (m n : ℕ) → m < n → cond b 1 0 + m < cond b (suc n) n
count_step true m n h = omega arith
count_step false m n h = omega arith

length_step : {A : Type 0} (b : Bool) (x : A) (xs : List A) → length (cond b (x ∷ xs) xs) ≡ cond b (suc (length xs)) (length xs)
length_step true x xs = refl
length_step false x xs = refl
