-- Where a state stands in the automaton: at its number.
use Rattle.std.proofs.Common.{◌≡◌, refl, sym, ◌∙◌, ap, subst, ℕ, zero, suc, ◌+◌, ◌<◌, arith, List, [], ◌∷◌, ◌++◌, length, map}
use Rattle.std.specs.Prelude.{Some, option_map, slice_get}
use Rattle.std.specs.List.{range_with_len, flat_map}
use Rattle.std.proofs.lemmas.List.{length-append}
use Rattle.std.proofs.lemmas.List.FromFn.{length-map-range_with_len}
use Rattle.cep_plan.specs.declared.plan.Plan.{Plan}
use Rattle.nfa_compile.specs.State.{greatest_at, states_at, states_of, states_before}
use Rattle.nfa_compile.specs.Automaton.{took_of, automaton_of}
use Rattle.nfa_compile.proofs.NumberLaws.{states_more}
use Rattle.nfa_compile.proofs.StateListLaws.{flat_range_more}

get_left : {X : Type 0} (xs ys : List X) (i : ℕ) → i < length xs → slice_get (xs ++ ys) i ≡ slice_get xs i
get_left [] ys i h = absurd (omega (arith, h))
get_left (x ∷ xs) ys zero h = refl
get_left (x ∷ xs) ys (suc i) h = get_left xs ys i (omega (arith, h))

get_right : {X : Type 0} (xs ys : List X) (k i : ℕ) → k ≡ length xs + i → slice_get (xs ++ ys) k ≡ slice_get ys i
get_right [] ys k i h = ap (slice_get ys) (let same : k ≡ i = omega (arith, h) in same)
get_right (x ∷ xs) ys zero i h = absurd (omega (arith, h))
get_right (x ∷ xs) ys (suc k) i h = get_right xs ys k i (omega (arith, h))

get_map : {X Y : Type 0} (f : X → Y) (xs : List X) (i : ℕ) → slice_get (map f xs) i ≡ option_map f (slice_get xs i)
get_map f [] i = refl
get_map f (x ∷ xs) zero = refl
get_map f (x ∷ xs) (suc i) = get_map f xs i

get_range : {X : Type 0} (f : ℕ → X) (from n i : ℕ) → i < n → slice_get (map f (range_with_len from n)) i ≡ Some (f (from + i))
get_range f from zero i h = absurd (omega (arith, h))
get_range f from (suc n) zero h = ap (λ m. Some (f m)) (let same : from ≡ from + 0 = omega arith in same)
get_range f from (suc n) (suc i) h = get_range f (from + 1) n i (omega (arith, h))
    ∙ ap (λ m. Some (f m)) (let same : from + 1 + i ≡ from + suc i = omega arith in same)

-- the i-th of what the j-th number of a range gives stands behind all that the numbers before it give
get_flat : {X : Type 0} (f : ℕ → List X) (from n j i k : ℕ) → j < n → i < length (f (from + j)) → k ≡ length (flat_map f (range_with_len from j)) + i
    → slice_get (flat_map f (range_with_len from n)) k ≡ slice_get (f (from + j)) i
get_flat f from zero j i k h l e = absurd (omega (arith, h))
get_flat f from (suc n) zero i k h l e =
    let here : from + 0 ≡ from = omega arith in
    let inside : i < length (f from) = subst (λ m. i < length (f m)) here l in
    ap (slice_get (f from ++ flat_map f (range_with_len (from + 1) n))) (let same : k ≡ i = omega (arith, e) in same)
    ∙ get_left (f from) (flat_map f (range_with_len (from + 1) n)) i inside ∙ ap (λ m. slice_get (f m) i) (sym here)
get_flat f from (suc n) (suc j) i k h l e =
    let here : from + 1 + j ≡ from + suc j = omega arith in
    let rest = length (flat_map f (range_with_len (from + 1) j)) in
    let both = length-append (f from) (flat_map f (range_with_len (from + 1) j)) in
    let inside : i < length (f (from + 1 + j)) = subst (λ m. i < length (f m)) (sym here) l in
    get_right (f from) (flat_map f (range_with_len (from + 1) n)) k (rest + i) (omega (arith, e, both))
    ∙ get_flat f (from + 1) n j i (rest + i) (omega (arith, h)) inside refl ∙ ap (λ m. slice_get (f m) i) here

length-states_at : (plan : Plan) (stage : ℕ) → length (states_at plan stage) ≡ greatest_at plan stage
length-states_at plan stage = length-map-range_with_len (λ count. record { stage = stage; count = count }) 1 (greatest_at plan stage)

-- so many states stand before those of a stage
before_is : (plan : Plan) (stage : ℕ) → states_before plan stage ≡ length (flat_map (states_at plan) (range_with_len 0 stage))
before_is plan zero = refl
before_is plan (suc stage) =
    let so_far = before_is plan stage in
    let one : suc stage ≡ stage + 1 = omega arith in
    let more = states_more plan stage in
    let next = ap (states_before plan) one in
    let all = ap (λ m. length (flat_map (states_at plan) (range_with_len 0 m))) one ∙ ap length (flat_range_more (states_at plan) 0 stage) ∙ length-append (flat_map (states_at plan) (range_with_len 0 stage)) (states_at plan (0 + stage)) in
    let here = ap (λ m. length (states_at plan m)) (let same : 0 + stage ≡ stage = omega arith in same) ∙ length-states_at plan stage in
    omega (arith, so_far, more, next, all, here)

-- The state stands at its number.
pub state_at_number : (plan : Plan) (stage before : ℕ) → stage < length plan.stages → before < greatest_at plan stage
    → slice_get (states_of plan) (states_before plan stage + before) ≡ Some (record { stage = stage; count = 1 + before })
unfolding states_of
state_at_number plan stage before h l =
    let here : 0 + stage ≡ stage = omega arith in
    let inside : before < length (states_at plan (0 + stage)) = subst (λ m. before < length (states_at plan m)) (sym here) (let many = length-states_at plan stage in omega (arith, l, many)) in
    get_flat (states_at plan) 0 (length plan.stages) stage before (states_before plan stage + before) h inside (ap (λ n. n + before) (before_is plan stage))
    ∙ ap (λ m. slice_get (states_at plan m) before) here
    ∙ get_range (λ count. record { stage = stage; count = count }) 1 (greatest_at plan stage) before l

pub took_at_number : (plan : Plan) (stage before : ℕ) → stage < length plan.stages → before < greatest_at plan stage
    → slice_get (automaton_of plan).took (states_before plan stage + before) ≡ Some (took_of plan (record { stage = stage; count = 1 + before }))
unfolding automaton_of
took_at_number plan stage before h l =
    get_map (took_of plan) (states_of plan) (states_before plan stage + before) ∙ ap (option_map (took_of plan)) (state_at_number plan stage before h l)
