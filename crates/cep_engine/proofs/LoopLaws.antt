-- The steps of the loops over starts and matches.
use Rattle.std.proofs.Common.{◌≡◌, refl, sym, ◌∙◌, ap, ℕ, suc, zero, ◌+◌, ◌<◌, arith, Bool, true, false, not, ◌&&◌, ◌||◌, cond, List, [], ◌∷◌, ◌++◌, length, map, take, get_or}
use Rattle.std.specs.Prelude.{filter}
use Rattle.std.specs.List.{list_any, AllByRecursion as Each}
use Rattle.std.proofs.lemmas.List.{take_more}
use Rattle.std.proofs.lemmas.List.Folds.{list_any-append}
use Rattle.cep_event.specs.declared.event.Event.{Event}
use Rattle.cep_plan.specs.declared.plan.Plan.{Plan}
use Rattle.cep_plan.specs.declared.plan.Skip.{Skip}
use Rattle.cep_plan.specs.declared.item.Taken.{Taken}
use Rattle.cep_plan.specs.declared.item.Item.{Item}
use Rattle.cep_plan.specs.declared.item.Item.TheVariants.{Match}
use Rattle.cep_plan.specs.Skipping.{is_killed, kept_after}
use Rattle.cep_plan.proofs.HistoryLaws.{kept_after-append}
use Rattle.live_laws.specs.Starts.{Scope}
use Rattle.live_laws.proofs.MemberLaws.{filter-filter}
use Rattle.shared_buffer.specs.Content.{Content as BufferContent}
use Rattle.run_step.specs.Content.{Content}
use Rattle.cep_engine.specs.Running.{RunsStand, without_starts}
use Rattle.cep_engine.proofs.RunningLaws.{RunsStand-is}

-- ---- lists

pub map-push : {X Y : Type 0} (f : X → Y) (xs : List X) (x : X) → map f (xs ++ x ∷ []) ≡ map f xs ++ f x ∷ []
map-push f [] x = refl
map-push f (y ∷ xs) x = λ i. f y ∷ map-push f xs x i

pub map-joined : {X Y : Type 0} (f : X → Y) (xs ys : List X) → map f (xs ++ ys) ≡ map f xs ++ map f ys
map-joined f [] ys = refl
map-joined f (x ∷ xs) ys = λ i. f x ∷ map-joined f xs ys i

pub map-map : {X Y Z : Type 0} (g : Y → Z) (f : X → Y) (xs : List X) → map g (map f xs) ≡ map (λ x. g (f x)) xs
map-map g f [] = refl
map-map g f (x ∷ xs) = λ i. g (f x) ∷ map-map g f xs i

pub Each-get : {X : Type 0} (P : X → Type 0) (xs : List X) (i : ℕ) (d : X) → i < length xs → Each P xs → P (get_or xs i d)
Each-get P [] i d lt h = absurd (omega (arith, lt))
Each-get P (x ∷ xs) zero d lt h = h.0
Each-get P (x ∷ xs) (suc i) d lt h = Each-get P xs i d (omega (arith, lt)) h.1

pub Each-push : {X : Type 0} (P : X → Type 0) (xs : List X) (x : X) → Each P xs → P x → Each P (xs ++ x ∷ [])
Each-push P [] x h k = (k, tt)
Each-push P (y ∷ xs) x h k = (h.0, Each-push P xs x h.1 k)

pub filter_true : {X : Type 0} (test : X → Bool) (xs : List X) → ((x : X) → test x ≡ true) → filter test xs ≡ xs
filter_true test [] h = refl
filter_true test (x ∷ xs) h = (λ i. cond (h x i) (x ∷ filter test xs) (filter test xs)) ∙ (λ i. x ∷ filter_true test xs h i)

-- ---- starts that are left out one after another

pub and_true : (a : Bool) → (a && true) ≡ a
and_true true = refl
and_true false = refl

and_not_either : (s a b : Bool) → ((s && not a) && not b) ≡ (s && not (a || b))
and_not_either false a b = refl
and_not_either true true b = refl
and_not_either true false b = refl

not_either_and : (a b : Bool) → (not b && not a) ≡ not (a || b)
not_either_and true true = refl
not_either_and true false = refl
not_either_and false true = refl
not_either_and false false = refl

or_false : (a : Bool) → (a || false) ≡ a
or_false true = refl
or_false false = refl

-- one more of those that are left out, by a test that says the same of it
pub RunsStand-more :
    {X : Type 0} (kills : X → ℕ → Bool) (plan : Plan) (events : List Event) (scope : Scope) (test : ℕ → Bool) (content : Content) (buffer : BufferContent)
    (xs : List X) (i : ℕ) (x : X)
    → x ≡ get_or xs i x → i < length xs → ((p : ℕ) → test p ≡ kills x p)
    → RunsStand plan events (without_starts (without_starts scope (λ p. list_any (λ y. kills y p) (take i xs))) test) content buffer
    → RunsStand plan events (without_starts scope (λ p. list_any (λ y. kills y p) (take (i + 1) xs))) content buffer
RunsStand-more kills plan events scope test content buffer xs i x is lt same stands =
    RunsStand-is plan events (without_starts (without_starts scope (λ p. list_any (λ y. kills y p) (take i xs))) test)
    (without_starts scope (λ p. list_any (λ y. kills y p) (take (i + 1) xs))) content buffer
    (λ j. record scope {
      starts = λ p. (and_not_either (scope.starts p) (list_any (λ y. kills y p) (take i xs)) (test p)
          ∙ ap (λ b. scope.starts p && not b)
          (ap (λ b. list_any (λ y. kills y p) (take i xs) || b) (same p ∙ sym (or_false (kills x p)))
          ∙ sym (list_any-append (λ y. kills y p) (take i xs) (x ∷ []))
          ∙ ap (list_any (λ y. kills y p)) (ap (λ y. take i xs ++ y ∷ []) is ∙ sym (take_more xs i x lt)))) j;
    }) stands

-- a scope without no starts
pub RunsStand-none : (plan : Plan) (events : List Event) (scope : Scope) (content : Content) (buffer : BufferContent)
    → RunsStand plan events scope content buffer → RunsStand plan events (without_starts scope (λ p. false)) content buffer
RunsStand-none plan events scope content buffer stands =
    RunsStand-is plan events scope (without_starts scope (λ p. false)) content buffer
    (λ j. record scope { starts = λ p. sym (and_true (scope.starts p)) j }) stands

-- the same of a list that is filtered
pub filter-more : {X Y : Type 0} (kills : X → Y → Bool) (test : Y → Bool) (ys : List Y) (xs : List X) (i : ℕ) (x : X) → x ≡ get_or xs i x
    → i < length xs → ((y : Y) → test y ≡ kills x y)
    → filter (λ y. not (test y)) (filter (λ y. not (list_any (λ z. kills z y) (take i xs))) ys)
    ≡ filter (λ y. not (list_any (λ z. kills z y) (take (i + 1) xs))) ys
filter-more kills test ys xs i x is lt same =
    filter-filter (λ y. not (test y)) (λ y. not (list_any (λ z. kills z y) (take i xs))) ys
    ∙ ap (λ t. filter t ys) (λ j y. (not_either_and (list_any (λ z. kills z y) (take i xs)) (test y)
    ∙ ap not
    (ap (λ b. list_any (λ z. kills z y) (take i xs) || b) (same y ∙ sym (or_false (kills x y)))
    ∙ sym (list_any-append (λ z. kills z y) (take i xs) (x ∷ []))
    ∙ ap (list_any (λ z. kills z y)) (ap (λ z. take i xs ++ z ∷ []) is ∙ sym (take_more xs i x lt)))) j)

-- a test of matches is a test of their lists
pub any_match : (test : Item → Bool) (lists : List (List Taken)) → list_any test (map Match lists) ≡ list_any (λ list. test (Match list)) lists
any_match test [] = refl
any_match test (list ∷ lists) = λ i. test (Match list) || any_match test lists i

-- ---- kept matches, one after another

pub kept_after-killed : (skip : Skip) (found lists : List (List Taken)) (list : List Taken) → map Match found ≡ kept_after skip [] (map Match lists)
    → is_killed skip (map Match found) list ≡ true
    → map Match found ≡ kept_after skip [] (map Match (lists ++ list ∷ []))
kept_after-killed skip found lists list is killed =
    let items = map Match lists in
    let before = kept_after skip [] items in
    let gone : is_killed skip before list ≡ true = sym (ap (λ k. is_killed skip k list) is) ∙ killed in
    is ∙ sym (append_none before)
    ∙ ap (λ r. before ++ r) (λ i. cond (sym gone i) [] (Match list ∷ []))
    ∙ sym (kept_after-append skip [] items (Match list ∷ [])) ∙ ap (kept_after skip []) (sym (map-push Match lists list)) where
      append_none : (xs : List Item) → xs ++ [] ≡ xs
      append_none [] = refl
      append_none (x ∷ xs) = λ i. x ∷ append_none xs i

pub kept_after-kept : (skip : Skip) (found lists : List (List Taken)) (list : List Taken) → map Match found ≡ kept_after skip [] (map Match lists)
    → is_killed skip (map Match found) list ≡ false
    → map Match (found ++ list ∷ []) ≡ kept_after skip [] (map Match (lists ++ list ∷ []))
kept_after-kept skip found lists list is killed =
    let items = map Match lists in
    let before = kept_after skip [] items in
    let stays : is_killed skip before list ≡ false = sym (ap (λ k. is_killed skip k list) is) ∙ killed in
    map-push Match found list ∙ ap (λ k. k ++ Match list ∷ []) is
    ∙ ap (λ r. before ++ r) (λ i. cond (sym stays i) [] (Match list ∷ []))
    ∙ sym (kept_after-append skip [] items (Match list ∷ [])) ∙ ap (kept_after skip []) (sym (map-push Match lists list))
