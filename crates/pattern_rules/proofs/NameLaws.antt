-- Where the first of a list passes a test, as the list grows, and what follows for its front.
use Rattle.std.proofs.Common.{◌≡◌, ℕ, zero, suc, ◌+◌, Bool, true, false, cond, ◌||◌, List, [], ◌∷◌, ◌++◌, length, map, take, nat_lt, refl, sym, ap, ◌∙◌, arith}
use Rattle.std.specs.Prelude.{Option, Some, None}
use Rattle.std.specs.Option.{is_some, unwrap_or}
use Rattle.std.specs.List.{list_any, position, position_or_len}
use Rattle.std.proofs.lemmas.Grind.{common_steps}
use Rattle.std.proofs.lemmas.Slice.Eq.{bytes_eq-Decides}
use Rattle.std.specs.Str.{bytes_eq}
use Rattle.std.specs.Map.{update}
use Rattle.pattern_rules.specs.First.{or_else, place_if}
use Rattle.pattern_rules.specs.Names.{is_below}
use Rattle.pattern_rules.proofs.MentionLaws.{or_else_none}

below_suc : (n k : ℕ) → nat_lt (1 + n) (suc k) ≡ nat_lt n k
below_suc n k = grind (arith, common_steps)

zero_below : (k : ℕ) → nat_lt 0 (suc k) ≡ true
zero_below k = grind (arith, common_steps)

none_below : (n : ℕ) → nat_lt n 0 ≡ false
none_below n = grind (arith, common_steps)

-- one number more
abbrev more : Option ℕ → Option ℕ
more None = None
more (Some n) = Some (1 + n)

some_if : (b c : Bool) (n : ℕ) → b ≡ c → cond b (Some (1 + n)) None ≡ more (cond c (Some n) None)
some_if b true n e = rw e refl
some_if b false n e = rw e refl

step : {X : Type 0} (p : X → Bool) (x : X) (xs : List X) (b : Bool) → p x ≡ b → position p (x ∷ xs) ≡ cond b (Some 0) (more (position p xs))
step p x xs true e = rw e (ap (λ c. cond c (Some 0) None) (zero_below (length xs)))
step p x xs false e = rw e (some_if _ _ (position_or_len p xs) (below_suc (position_or_len p xs) (length xs)))

push_step : (b c : Bool) (o : Option ℕ) (n : ℕ) → cond b (Some 0) (more (or_else o (place_if c n))) ≡ or_else (cond b (Some 0) (more o)) (place_if c (suc n))
push_step true c o n = refl
push_step false c (Some k) n = refl
push_step false true None n = grind (arith, common_steps)
push_step false false None n = refl

-- a list with one element more
pub position_push : {X : Type 0} (p : X → Bool) (xs : List X) (y : X) → position p (xs ++ y ∷ []) ≡ or_else (position p xs) (place_if (p y) (length xs))
position_push p [] y = step p y [] (p y) refl
position_push p (x ∷ xs) y =
    step p x (xs ++ y ∷ []) (p x) refl
    ∙ ap (λ o. cond (p x) (Some 0) (more o)) (position_push p xs y)
    ∙ push_step (p x) (p y) (position p xs) (length xs)
    ∙ ap (λ o. or_else o (place_if (p y) (suc (length xs)))) (sym (step p x xs (p x) refl))

any_step : (b : Bool) (o : Option ℕ) → (b || is_some o) ≡ is_some (cond b (Some 0) (more o))
any_step true o = refl
any_step false None = refl
any_step false (Some n) = refl

pub any_is : {X Y : Type 0} (f : X → Y) (p : Y → Bool) (xs : List X) → list_any (λ x. p (f x)) xs ≡ is_some (position p (map f xs))
any_is f p [] = refl
any_is f p (x ∷ xs) =
    ap (λ b. p (f x) || b) (any_is f p xs) ∙ any_step (p (f x)) (position p (map f xs)) ∙ ap is_some (sym (step p (f x) (map f xs) (p (f x)) refl))

below_zero : (o : Option ℕ) → false ≡ is_below o 0
below_zero None = refl
below_zero (Some n) = sym (none_below n)

below_step : (b : Bool) (o : Option ℕ) (k : ℕ) → (b || is_below o k) ≡ is_below (cond b (Some 0) (more o)) (suc k)
below_step true o k = sym (zero_below k)
below_step false None k = refl
below_step false (Some n) k = sym (below_suc n k)

-- the front of a list
pub any_below : {X Y : Type 0} (f : X → Y) (p : Y → Bool) (xs : List X) (k : ℕ) → list_any (λ x. p (f x)) (take k xs) ≡ is_below (position p (map f xs)) k
any_below f p xs zero = below_zero (position p (map f xs))
any_below f p [] (suc k) = refl
any_below f p (x ∷ xs) (suc k) =
    ap (λ b. p (f x) || b) (any_below f p xs k)
    ∙ below_step (p (f x)) (position p (map f xs)) k
    ∙ ap (λ o. is_below o (suc k)) (sym (step p (f x) (map f xs) (p (f x)) refl))

or_len_step : (b : Bool) (o : Option ℕ) (n : ℕ) → cond b 0 (1 + unwrap_or o n) ≡ unwrap_or (cond b (Some 0) (more o)) (suc n)
or_len_step true o n = refl
or_len_step false None n = grind (arith, common_steps)
or_len_step false (Some k) n = refl

or_len_split : {X : Type 0} (p : X → Bool) (x : X) (xs : List X) (b : Bool) → p x ≡ b → position_or_len p (x ∷ xs) ≡ cond b 0 (1 + position_or_len p xs)
or_len_split p x xs true e = rw e refl
or_len_split p x xs false e = rw e refl

pub position_or_len_by : {X Y : Type 0} (f : X → Y) (p : Y → Bool) (xs : List X)
    → position_or_len (λ x. p (f x)) xs ≡ unwrap_or (position p (map f xs)) (length xs)
position_or_len_by f p [] = refl
position_or_len_by f p (x ∷ xs) =
    or_len_split (λ x. p (f x)) x xs (p (f x)) refl
    ∙ ap (λ n. cond (p (f x)) 0 (1 + n)) (position_or_len_by f p xs)
    ∙ or_len_step (p (f x)) (position p (map f xs)) (length xs)
    ∙ ap (λ o. unwrap_or o (suc (length xs))) (sym (step p (f x) (map f xs) (p (f x)) refl))

added : (b : Bool) (o : Option ℕ) (n : ℕ) → (b ≡ true → o ≡ None) → cond b (Some n) o ≡ or_else o (place_if b n)
added true o n none = sym (ap (λ p. or_else p (Some n)) (none refl))
added false o n none = sym (or_else_none o)

kept : (b : Bool) (o : Option ℕ) (n : ℕ) → (b ≡ true → is_some o ≡ true) → o ≡ or_else o (place_if b n)
kept true None n some = let e : false ≡ true = some refl in absurd (cc)
kept true (Some k) n some = refl
kept false o n some = sym (or_else_none o)

abbrev at : List ℕ → List (List ℕ) → Option ℕ
at name names = position (λ other. bytes_eq other name) names

nothing : (o : Option ℕ) → is_some o ≡ false → o ≡ None
nothing None e = refl
nothing (Some n) e = absurd (cc)

-- an index with a name that is new to the list
pub new_name : (names : List (List ℕ)) (name : List ℕ) (get : List ℕ → Option ℕ) → ((q : List ℕ) → get q ≡ at q names) → is_some (at name names) ≡ false
    → (q : List ℕ) → update bytes_eq get name (Some (length names)) q ≡ at q (names ++ name ∷ [])
new_name names name get is new q =
    let absent : bytes_eq name q ≡ true → at q names ≡ None
    = λ e. nothing (at q names) (ap (λ n. is_some (at n names)) (sym ((bytes_eq-Decides name q).0 e)) ∙ new) in
    ap (cond (bytes_eq name q) (Some (length names))) (is q) ∙ added (bytes_eq name q) (at q names) (length names) absent
    ∙ sym (position_push (λ other. bytes_eq other q) names name)

-- an index with a name that is in the list
pub known_name : (names : List (List ℕ)) (name : List ℕ) → is_some (at name names) ≡ true → (q : List ℕ) → at q names ≡ at q (names ++ name ∷ [])
known_name names name known q =
    let found : bytes_eq name q ≡ true → is_some (at q names) ≡ true
    = λ e. ap (λ n. is_some (at n names)) (sym ((bytes_eq-Decides name q).0 e)) ∙ known in
    kept (bytes_eq name q) (at q names) (length names) found ∙ sym (position_push (λ other. bytes_eq other q) names name)
