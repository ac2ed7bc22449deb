-- The order of time: two lists of events that are in order, and in which those that tie stand alike, are one list. So sorting goes well with adding
-- an event, with filtering, and with taking the first one out.
use Rattle.std.proofs.Common.{◌≡◌, refl, sym, ◌∙◌, ap, inl, inr, ℕ, ◌<◌, arith, Bool, true, false, not, ◌&&◌, List, [], ◌∷◌, ◌++◌}
use Rattle.std.specs.Prelude.{filter, if◌then◌else◌, ◌⊎◌}
use Rattle.std.specs.Cmp.{IsTotalOrder, IsStrictWeakOrder, nat_cmp_total, int_cmp_total}
use Rattle.std.specs.List.{AllByRecursion as Each}
use Rattle.std.specs.List.Sorted.{ties}
use Rattle.std.specs.Ordering.{nat_cmp, int_cmp, ordering_then, ordering_reverse, is_lt}
use Rattle.std.specs.declared.cmp.Ordering.{Ordering}
use Rattle.std.specs.declared.cmp.Ordering.TheVariants.{Less, Equal, Greater}
use Rattle.std.proofs.lemmas.Bool.{and_parts}
use Rattle.std.proofs.lemmas.Bool.Decides.{nat_tests}
use Rattle.std.proofs.lemmas.Cmp.{on_total, then_total}
use Rattle.std.proofs.lemmas.List.Elements.{filter-append}
use Rattle.std.proofs.lemmas.List.Sorted.{ranks_by}
use Rattle.cep_event.specs.declared.event.Event.{Event}
use Rattle.cep_plan.specs.EventTime.{time_cmp, put_in_order, in_time_order}
use Rattle.watermark_order.specs.Sooner.{is_sooner, IsUpward}

pub time_cmp-total : IsTotalOrder time_cmp
time_cmp-total = then_total (on_total (λ (e : Event). e.ts) int_cmp_total) (on_total (λ (e : Event). e.row) nat_cmp_total)

pub is_sooner-order : IsStrictWeakOrder is_sooner
is_sooner-order = ranks_by time_cmp-total (λ e. e)

abbrev pub tied : Event → Event → Bool
tied x y = ties is_sooner x y

not_itself : (x : Event) → is_sooner x x ≡ false
not_itself x = by_case (is_sooner x x) refl where
  by_case : (b : Bool) → is_sooner x x ≡ b → is_sooner x x ≡ false
  by_case true h = is_sooner-order.one_way x x h
  by_case false h = h

ties_itself : (x : Event) → ties is_sooner x x ≡ true
ties_itself x = λ i. not (not_itself x i) && not (not_itself x i)

keeps : (x y : Event) (ys : List Event) → ties is_sooner x y ≡ true → filter (ties is_sooner x) (y ∷ ys) ≡ y ∷ filter (ties is_sooner x) ys
keeps x y ys h = ap (λ b. if b then y ∷ filter (ties is_sooner x) ys else filter (ties is_sooner x) ys) h

drops : (x y : Event) (ys : List Event) → ties is_sooner x y ≡ false → filter (ties is_sooner x) (y ∷ ys) ≡ filter (ties is_sooner x) ys
drops x y ys h = ap (λ b. if b then y ∷ filter (ties is_sooner x) ys else filter (ties is_sooner x) ys) h

-- what is below x doesn't tie with it, and neither does what x is below
above_unties : (x y : Event) → is_sooner x y ≡ true → ties is_sooner x y ≡ false
above_unties x y h = ap (λ b. not b && not (is_sooner y x)) h

-- where x is below the first element of an upward list, it ties with none of them
ties_none : (x z : Event) (zs : List Event) → is_sooner x z ≡ true → Each (λ w. is_sooner w z ≡ false) zs → filter (ties is_sooner x) zs ≡ []
ties_none x z [] h k = refl
ties_none x z (w ∷ zs) h k = drops x w zs (above_unties x w (above w (is_sooner x w) refl k.0)) ∙ ties_none x z zs h k.1 where
  above : (w : Event) (b : Bool) → is_sooner x w ≡ b → is_sooner w z ≡ false → is_sooner x w ≡ true
  above w true is low = is
  above w false is low = let no : true ≡ false = sym h ∙ is_sooner-order.chain x w z is low in absurd cc

none_at_first : (x z : Event) (zs : List Event) → is_sooner x z ≡ true → IsUpward (z ∷ zs) → filter (ties is_sooner x) (z ∷ zs) ≡ []
none_at_first x z zs h up = drops x z zs (above_unties x z h) ∙ ties_none x z zs h up.0

same_tail : (x y : Event) (ys zs : List Event) (b : Bool)
    → (if b then y ∷ filter (ties is_sooner x) ys else filter (ties is_sooner x) ys)
    ≡ (if b then y ∷ filter (ties is_sooner x) zs else filter (ties is_sooner x) zs) → filter (ties is_sooner x) ys ≡ filter (ties is_sooner x) zs
same_tail x y ys zs true h = cc
same_tail x y ys zs false h = h

upward_unique : (ys zs : List Event) → IsUpward ys → IsUpward zs → ((x : Event) → filter (ties is_sooner x) ys ≡ filter (ties is_sooner x) zs) → ys ≡ zs
upward_unique [] [] s t h = refl
upward_unique [] (z ∷ zs) s t h = let no : [] ≡ z ∷ filter (ties is_sooner z) zs = h z ∙ keeps z z zs (ties_itself z) in absurd cc
upward_unique (y ∷ ys) [] s t h = let no : y ∷ filter (ties is_sooner y) ys ≡ [] = sym (keeps y y ys (ties_itself y)) ∙ h y in absurd cc
upward_unique (y ∷ ys) (z ∷ zs) s t h = by_first (is_sooner y z) (is_sooner z y) refl refl (λ alike. upward_unique ys zs s.1 t.1 alike) where
  tails : y ≡ z → (x : Event) → filter (ties is_sooner x) ys ≡ filter (ties is_sooner x) zs
  tails e x = same_tail x y ys zs (ties is_sooner x y) (h x ∙ ap (λ w. filter (ties is_sooner x) (w ∷ zs)) (sym e))

  first : ties is_sooner y z ≡ true → y ≡ z
  first k = let heads : y ∷ filter (ties is_sooner y) ys ≡ z ∷ filter (ties is_sooner y) zs = sym (keeps y y ys (ties_itself y)) ∙ h y ∙ keeps y z zs k in cc

  by_first : (b c : Bool) → is_sooner y z ≡ b → is_sooner z y ≡ c
      → (((x : Event) → filter (ties is_sooner x) ys ≡ filter (ties is_sooner x) zs) → ys ≡ zs) → y ∷ ys ≡ z ∷ zs
  by_first true c below _ go =
      let no : y ∷ filter (ties is_sooner y) ys ≡ [] = sym (keeps y y ys (ties_itself y)) ∙ h y ∙ none_at_first y z zs below t in absurd cc
  by_first false true _ above go =
      let no : z ∷ filter (ties is_sooner z) zs ≡ [] = sym (keeps z z zs (ties_itself z)) ∙ sym (h z) ∙ none_at_first z y ys above s in absurd cc
  by_first false false nb na go = let e : y ≡ z = first (λ i. not (nb i) && not (na i)) in let rest : ys ≡ zs = go (tails e) in λ i. e i ∷ rest i

pub put-each : (P : Event → Type 0) (event : Event) (events : List Event) → P event → Each P events → Each P (put_in_order event events)
put-each P event [] h k = (h, tt)
put-each P event (first ∷ later) h k = chosen (is_sooner first event) (put-each P event later h k.1) where
  chosen : (b : Bool) → Each P (put_in_order event later) → Each P (if b then first ∷ put_in_order event later else event ∷ first ∷ later)
  chosen true all = (k.0, all)
  chosen false all = (h, k)

each-behind : (event first : Event) (later : List Event) → is_sooner first event ≡ false → Each (λ y. is_sooner y first ≡ false) later
    → Each (λ y. is_sooner y event ≡ false) later
each-behind event first [] h k = tt
each-behind event first (y ∷ later) h k = (is_sooner-order.chain y first event k.0 h, each-behind event first later h k.1)

pub put-upward : (event : Event) (events : List Event) → IsUpward events → IsUpward (put_in_order event events)
put-upward event [] h = (tt, tt)
put-upward event (first ∷ later) h = chosen (is_sooner first event) refl (put-upward event later h.1) where
  chosen : (b : Bool) → is_sooner first event ≡ b → IsUpward (put_in_order event later)
      → IsUpward (if b then first ∷ put_in_order event later else event ∷ first ∷ later)
  chosen true is all = (put-each (λ y. is_sooner y first ≡ false) event later (is_sooner-order.one_way first event is) h.0, all)
  chosen false is all = ((is, each-behind event first later is h.0), h)

pub order-upward : (events : List Event) → IsUpward (in_time_order events)
order-upward [] = tt
order-upward (e ∷ events) = put-upward e (in_time_order events) (order-upward events)

-- those that tie with x keep their order: two of which the one is sooner don't both tie with it
not_both : (x a b : Event) → is_sooner a b ≡ true → tied x a ≡ true → tied x b ≡ true → ⊥
not_both x a b h p q =
    let pa = and_parts (not (is_sooner x a)) (not (is_sooner a x)) p in
    let pb = and_parts (not (is_sooner x b)) (not (is_sooner b x)) q in
    let no : is_sooner a b ≡ false = is_sooner-order.chain a x b (was_not (is_sooner a x) pa.1) (was_not (is_sooner x b) pb.0) in
    let clash : true ≡ false = sym h ∙ no in cc where
      was_not : (c : Bool) → not c ≡ true → c ≡ false
      was_not true k = sym k
      was_not false k = refl

passed : (first event : Event) (rest : List Event) (f e : Bool) → ((f ≡ true) → (e ≡ true) → ⊥)
    → (if f then first ∷ (if e then event ∷ rest else rest) else (if e then event ∷ rest else rest))
    ≡ (if e then event ∷ (if f then first ∷ rest else rest) else (if f then first ∷ rest else rest))
passed first event rest true true apart = absurd (apart refl refl)
passed first event rest true false apart = refl
passed first event rest false true apart = refl
passed first event rest false false apart = refl

put-stable : (x event : Event) (events : List Event) → filter (tied x) (put_in_order event events) ≡ filter (tied x) (event ∷ events)
put-stable x event [] = refl
put-stable x event (first ∷ later) = chosen (is_sooner first event) refl (put-stable x event later) where
  chosen : (b : Bool) → is_sooner first event ≡ b → filter (tied x) (put_in_order event later) ≡ filter (tied x) (event ∷ later)
      → filter (tied x) (if b then first ∷ put_in_order event later else event ∷ first ∷ later) ≡ filter (tied x) (event ∷ first ∷ later)
  chosen true is later_same =
      ap (λ rest. if tied x first then first ∷ rest else rest) later_same
      ∙ passed first event (filter (tied x) later) (tied x first) (tied x event) (not_both x first event is)
  chosen false is later_same = refl

order-stable : (x : Event) (events : List Event) → filter (tied x) (in_time_order events) ≡ filter (tied x) events
order-stable x [] = refl
order-stable x (e ∷ events) = put-stable x e (in_time_order events) ∙ ap (λ rest. if tied x e then e ∷ rest else rest) (order-stable x events)

-- ---- sorting depends on how those that tie stand, and on nothing else

pub in_order_is : (events sorted : List Event) → IsUpward sorted → ((x : Event) → filter (tied x) sorted ≡ filter (tied x) events)
    → sorted ≡ in_time_order events
in_order_is events sorted up alike = upward_unique sorted (in_time_order events) up (order-upward events) (λ x. alike x ∙ sym (order-stable x events))

pub in_order_alike : (xs ys : List Event) → ((x : Event) → filter (tied x) xs ≡ filter (tied x) ys) → in_time_order xs ≡ in_time_order ys
in_order_alike xs ys alike = in_order_is ys (in_time_order xs) (order-upward xs) (λ x. order-stable x xs ∙ alike x)

-- ---- a fact about each event

pub each-order : (P : Event → Type 0) (xs : List Event) → Each P xs → Each P (in_time_order xs)
each-order P [] h = tt
each-order P (x ∷ xs) h = put-each P x (in_time_order xs) h.0 (each-order P xs h.1)

each-from_put : (P : Event → Type 0) (event : Event) (events : List Event) → Each P (put_in_order event events) → P event × Each P events
each-from_put P event [] h = (h.0, tt)
each-from_put P event (first ∷ later) h = chosen (is_sooner first event) (each-from_put P event later) h where
  chosen : (b : Bool) → (Each P (put_in_order event later) → P event × Each P later)
      → Each P (if b then first ∷ put_in_order event later else event ∷ first ∷ later) → P event × Each P (first ∷ later)
  chosen true go k = ((go k.1).0, (k.0, (go k.1).1))
  chosen false go k = (k.0, k.1)

pub each-from_order : (P : Event → Type 0) (xs : List Event) → Each P (in_time_order xs) → Each P xs
each-from_order P [] h = tt
each-from_order P (x ∷ xs) h = let parts = each-from_put P x (in_time_order xs) h in (parts.0, each-from_order P xs parts.1)

pub each-left : {X : Type 0} (P : X → Type 0) (xs ys : List X) → Each P (xs ++ ys) → Each P xs
each-left P [] ys h = tt
each-left P (x ∷ xs) ys h = (h.0, each-left P xs ys h.1)

pub each-right : {X : Type 0} (P : X → Type 0) (xs ys : List X) → Each P (xs ++ ys) → Each P ys
each-right P [] ys h = h
each-right P (x ∷ xs) ys h = each-right P xs ys h.1

pub each-append : {X : Type 0} (P : X → Type 0) (xs ys : List X) → Each P xs → Each P ys → Each P (xs ++ ys)
each-append P [] ys h k = k
each-append P (x ∷ xs) ys h k = (h.0, each-append P xs ys h.1 k)

pub each-more : {X : Type 0} (P Q : X → Type 0) → ((x : X) → P x → Q x) → (xs : List X) → Each P xs → Each Q xs
each-more P Q go [] h = tt
each-more P Q go (x ∷ xs) h = (go x h.0, each-more P Q go xs h.1)

pub each-filter : {X : Type 0} (P : X → Type 0) (p : X → Bool) (xs : List X) → Each P xs → Each P (filter p xs)
each-filter P p [] h = tt
each-filter P p (x ∷ xs) h = chosen (p x) (each-filter P p xs h.1) where
  chosen : (b : Bool) → Each P (filter p xs) → Each P (if b then x ∷ filter p xs else filter p xs)
  chosen true k = (h.0, k)
  chosen false k = k

-- ---- filters

pub filter_same : {X : Type 0} (p q : X → Bool) → ((x : X) → p x ≡ q x) → (xs : List X) → filter p xs ≡ filter q xs
filter_same p q h [] = refl
filter_same p q h (x ∷ xs) = λ i. if h x i then x ∷ filter_same p q h xs i else filter_same p q h xs i

both_pass : {X : Type 0} (x : X) (xs ys : List X) → xs ≡ ys → (c : Bool) → (if c then x ∷ xs else xs) ≡ (if c && true then x ∷ ys else ys)
both_pass x xs ys e true = ap (λ l. x ∷ l) e
both_pass x xs ys e false = e

none_pass : {X : Type 0} (x : X) (xs ys : List X) → xs ≡ ys → (c : Bool) → xs ≡ (if c && false then x ∷ ys else ys)
none_pass x xs ys e true = e
none_pass x xs ys e false = e

pub filter_both : {X : Type 0} (p q : X → Bool) (xs : List X) → filter p (filter q xs) ≡ filter (λ x. p x && q x) xs
filter_both p q [] = refl
filter_both p q (x ∷ xs) = chosen (q x) (filter_both p q xs) where
  chosen : (b : Bool) → filter p (filter q xs) ≡ filter (λ y. p y && q y) xs
      → filter p (if b then x ∷ filter q xs else filter q xs) ≡ (if p x && b then x ∷ filter (λ y. p y && q y) xs else filter (λ y. p y && q y) xs)
  chosen true same = both_pass x (filter p (filter q xs)) (filter (λ y. p y && q y) xs) same (p x)
  chosen false same = none_pass x (filter p (filter q xs)) (filter (λ y. p y && q y) xs) same (p x)

both_ways : (a b : Bool) → (a && b) ≡ (b && a)
both_ways true true = refl
both_ways true false = refl
both_ways false true = refl
both_ways false false = refl

filter_either : {X : Type 0} (p q : X → Bool) (xs : List X) → filter p (filter q xs) ≡ filter q (filter p xs)
filter_either p q xs = filter_both p q xs ∙ filter_same (λ x. p x && q x) (λ x. q x && p x) (λ x. both_ways (p x) (q x)) xs ∙ sym (filter_both q p xs)

pub filter-upward : (p : Event → Bool) (xs : List Event) → IsUpward xs → IsUpward (filter p xs)
filter-upward p [] h = tt
filter-upward p (x ∷ xs) h = chosen (p x) (filter-upward p xs h.1) where
  chosen : (b : Bool) → IsUpward (filter p xs) → IsUpward (if b then x ∷ filter p xs else filter p xs)
  chosen true k = (each-filter (λ y. is_sooner y x ≡ false) p xs h.0, k)
  chosen false k = k

-- what is filtered from events in order is what is filtered from the events, in order
pub filter-order : (p : Event → Bool) (xs : List Event) → filter p (in_time_order xs) ≡ in_time_order (filter p xs)
filter-order p xs =
    in_order_is (filter p xs) (filter p (in_time_order xs)) (filter-upward p (in_time_order xs) (order-upward xs))
    (λ x. filter_either (tied x) p (in_time_order xs) ∙ ap (filter p) (order-stable x xs) ∙ sym (filter_either (tied x) p xs))

-- ---- one more event, of a higher row

lower_less : (a b : ℕ) → a < b → nat_cmp a b ≡ Less
lower_less a b h = grind (arith, nat_tests)

-- of two events of different rows, one is sooner
pub one_sooner : (y e : Event) → y.row < e.row → (is_sooner y e ≡ true) ⊎ (is_sooner e y ≡ true)
one_sooner y e h = by_times (int_cmp y.ts e.ts) refl where
  by_times : (o : Ordering) → int_cmp y.ts e.ts ≡ o → (is_sooner y e ≡ true) ⊎ (is_sooner e y ≡ true)
  by_times Less is = inl (ap (λ o. is_lt (ordering_then o (nat_cmp y.row e.row))) is)
  by_times Equal is = inl (ap (λ o. is_lt (ordering_then o (nat_cmp y.row e.row))) is ∙ ap is_lt (lower_less y.row e.row h))
  by_times Greater is = inr (ap is_lt (time_cmp-total.antisymm e y ∙ ap (λ o. ordering_reverse (ordering_then o (nat_cmp y.row e.row))) is))

apart_ties : (x y e : Event) → y.row < e.row → tied x y ≡ true → tied x e ≡ true → ⊥
apart_ties x y e h p q = by_sooner (one_sooner y e h) where
  by_sooner : (is_sooner y e ≡ true) ⊎ (is_sooner e y ≡ true) → ⊥
  by_sooner (inl s) = not_both x y e s p q
  by_sooner (inr s) = not_both x e y s q p

middle : (x event : Event) (xs ys : List Event) → Each (λ y. y.row < event.row) xs → filter (tied x) (xs ++ event ∷ ys) ≡ filter (tied x) (event ∷ xs ++ ys)
middle x event [] ys h = refl
middle x event (y ∷ xs) ys h =
    ap (λ rest. if tied x y then y ∷ rest else rest) (middle x event xs ys h.1)
    ∙ passed y event (filter (tied x) (xs ++ ys)) (tied x y) (tied x event) (apart_ties x y event h.0)

pub order-behind : (event : Event) (xs ys : List Event) → Each (λ y. y.row < event.row) xs
    → in_time_order (xs ++ event ∷ ys) ≡ put_in_order event (in_time_order (xs ++ ys))
order-behind event xs ys h = in_order_alike (xs ++ event ∷ ys) (event ∷ xs ++ ys) (λ x. middle x event xs ys h)

pub order-put : (event : Event) (xs ys : List Event) → Each (λ y. y.row < event.row) xs
    → in_time_order (xs ++ put_in_order event ys) ≡ put_in_order event (in_time_order (xs ++ ys))
order-put event xs ys h =
    in_order_alike (xs ++ put_in_order event ys) (xs ++ event ∷ ys)
    (λ x. filter-append (tied x) xs (put_in_order event ys) ∙ ap (λ rest. filter (tied x) xs ++ rest) (put-stable x event ys)
    ∙ sym (filter-append (tied x) xs (event ∷ ys)))
    ∙ order-behind event xs ys h

-- ---- the first event

put-first : (event : Event) (events : List Event) → Each (λ y. is_sooner y event ≡ false) events → put_in_order event events ≡ event ∷ events
put-first event [] h = refl
put-first event (first ∷ later) h = ap (λ b. if b then first ∷ put_in_order event later else event ∷ first ∷ later) h.0

pub order-first : (event : Event) (events : List Event) → Each (λ y. is_sooner y event ≡ false) events
    → in_time_order (event ∷ events) ≡ event ∷ in_time_order events
order-first event events h = put-first event (in_time_order events) (each-order (λ y. is_sooner y event ≡ false) events h)

-- where an event is sooner than those before it, and none behind it is sooner, it is the first
pub order-aside : (event : Event) (xs ys : List Event) → Each (λ x. is_sooner event x ≡ true) xs → Each (λ y. is_sooner y event ≡ false) ys
    → in_time_order (xs ++ event ∷ ys) ≡ event ∷ in_time_order (xs ++ ys)
order-aside event [] ys h k = order-first event ys k
order-aside event (x ∷ xs) ys h k =
    ap (put_in_order x) (order-aside event xs ys h.1 k)
    ∙ ap (λ b. if b then event ∷ put_in_order x (in_time_order (xs ++ ys)) else x ∷ event ∷ in_time_order (xs ++ ys)) h.0
