-- The greatest of some times tells what a test of each of them tells.
use Rattle.std.proofs.Common.{◌≡◌, refl, sym, ◌∙◌, ap, arith, ℤ, int_lt, int_le, Bool, true, false, ◌&&◌, ◌||◌, List, [], ◌∷◌, ◌++◌}
use Rattle.std.specs.Prelude.{if◌then◌else◌, Option, Some, None, option_map}
use Rattle.std.specs.List.{list_any, list_all}
use Rattle.std.specs.Int.{int_max}
use Rattle.std.proofs.lemmas.Int.{ints, clamps}
use Rattle.std.proofs.lemmas.List.Sums.{fold-append}
use Rattle.cep_event.specs.declared.record.Moment.TheVariants.{At}
use Rattle.cep_plan.specs.EventTime.{greatest_from}
use Rattle.watermark_order.specs.Order.{greatest_of, greater_time}
use Rattle.watermark_order.specs.Reached.{is_reached, is_above}

-- the greater of two times
abbrev pub greater : ℤ → ℤ → ℤ
greater x y = if int_lt x y then y else x

-- one more time
pub greatest-more : (times : List ℤ) (time : ℤ) → greatest_of (times ++ time ∷ []) ≡ Some (greater_time (greatest_of times) time)
greatest-more [] time = refl
greatest-more (x ∷ times) time = ap Some (fold-append greater x times (time ∷ []))

-- ---- some mark has reached a time where the greatest one has

le-greater : (time m n : ℤ) → (int_le time m || int_le time n) ≡ int_le time (greater m n)
le-greater time m n = by_test (int_lt m n) refl where
  low : (time m n : ℤ) → int_lt m n ≡ true → (int_le time m || int_le time n) ≡ int_le time n
  low time m n h = grind (arith, ints)

  high : (time m n : ℤ) → int_lt m n ≡ false → (int_le time m || int_le time n) ≡ int_le time m
  high time m n h = grind (arith, ints)

  by_test : (b : Bool) → int_lt m n ≡ b → (int_le time m || int_le time n) ≡ int_le time (greater m n)
  by_test true is = low time m n is ∙ sym (ap (λ b. int_le time (if b then n else m)) is)
  by_test false is = high time m n is ∙ sym (ap (λ b. int_le time (if b then n else m)) is)

or_assoc : (a b c : Bool) → (a || (b || c)) ≡ ((a || b) || c)
or_assoc true b c = refl
or_assoc false b c = refl

or_nothing : (a : Bool) → (a || false) ≡ a
or_nothing true = refl
or_nothing false = refl

any-from : (time least : ℤ) (marks : List ℤ) → (int_le time least || list_any (λ mark. int_le time mark) marks) ≡ int_le time (greatest_from least marks)
any-from time least [] = or_nothing (int_le time least)
any-from time least (mark ∷ marks) =
    or_assoc (int_le time least) (int_le time mark) (list_any (λ m. int_le time m) marks)
    ∙ ap (λ b. b || list_any (λ m. int_le time m) marks) (le-greater time least mark)
    ∙ any-from time (greater least mark) marks

pub any-greatest : (time : ℤ) (marks : List ℤ) → list_any (λ mark. int_le time mark) marks ≡ is_reached (option_map At (greatest_of marks)) time
any-greatest time [] = refl
any-greatest time (mark ∷ marks) = any-from time mark marks

-- ---- a time is above all marks where it is above the greatest one

lt-greater : (time m n : ℤ) → (int_lt m time && int_lt n time) ≡ int_lt (greater m n) time
lt-greater time m n = by_test (int_lt m n) refl where
  low : (time m n : ℤ) → int_lt m n ≡ true → (int_lt m time && int_lt n time) ≡ int_lt n time
  low time m n h = grind (arith, ints)

  high : (time m n : ℤ) → int_lt m n ≡ false → (int_lt m time && int_lt n time) ≡ int_lt m time
  high time m n h = grind (arith, ints)

  by_test : (b : Bool) → int_lt m n ≡ b → (int_lt m time && int_lt n time) ≡ int_lt (greater m n) time
  by_test true is = low time m n is ∙ sym (ap (λ b. int_lt (if b then n else m) time) is)
  by_test false is = high time m n is ∙ sym (ap (λ b. int_lt (if b then n else m) time) is)

and_assoc : (a b c : Bool) → (a && (b && c)) ≡ ((a && b) && c)
and_assoc true b c = refl
and_assoc false b c = refl

and_nothing : (a : Bool) → (a && true) ≡ a
and_nothing true = refl
and_nothing false = refl

all-from : (time least : ℤ) (marks : List ℤ) → (int_lt least time && list_all (λ mark. int_lt mark time) marks) ≡ int_lt (greatest_from least marks) time
all-from time least [] = and_nothing (int_lt least time)
all-from time least (mark ∷ marks) =
    and_assoc (int_lt least time) (int_lt mark time) (list_all (λ m. int_lt m time) marks)
    ∙ ap (λ b. b && list_all (λ m. int_lt m time) marks) (lt-greater time least mark)
    ∙ all-from time (greater least mark) marks

pub all-greatest : (time : ℤ) (marks : List ℤ) → list_all (λ mark. int_lt mark time) marks ≡ is_above (option_map At (greatest_of marks)) time
all-greatest time [] = refl
all-greatest time (mark ∷ marks) = all-from time mark marks

-- ---- the greater of the greatest mark and a new one

pub above-greater : (greatest : Option ℤ) (time : ℤ) → is_above (option_map At greatest) time ≡ true → greater_time greatest time ≡ time
above-greater None time h = refl
above-greater (Some greatest) time h = ap (λ b. if b then time else greatest) h

pub below-greater : (greatest : Option ℤ) (time : ℤ) → is_above (option_map At greatest) time ≡ false → Some (greater_time greatest time) ≡ greatest
below-greater None time h = let clash : true ≡ false = h in absurd cc
below-greater (Some greatest) time h = ap Some (ap (λ b. if b then time else greatest) h)

-- a mark above the greatest one has reached what that one has reached
pub reached-above : (greatest : Option ℤ) (time ts : ℤ) → is_above (option_map At greatest) time ≡ true
    → is_reached (option_map At greatest) ts ≡ true → int_le ts time ≡ true
reached-above None time ts h k = let clash : false ≡ true = k in absurd cc
reached-above (Some greatest) time ts h k = later greatest time ts h k where
  later : (greatest time ts : ℤ) → int_lt greatest time ≡ true → int_le ts greatest ≡ true → int_le ts time ≡ true
  later greatest time ts h k = grind (arith, ints)

-- ---- the greatest of times doesn't depend on their order

greater_both : (x y : ℤ) → greater x y ≡ greater y x
greater_both x y = by_tests (int_lt x y) (int_lt y x) refl refl where
  apart : (x y : ℤ) → int_lt x y ≡ true → int_lt y x ≡ true → ⊥
  apart x y h k = absurd (grind (arith, ints))

  same : (x y : ℤ) → int_lt x y ≡ false → int_lt y x ≡ false → x ≡ y
  same x y h k = omega (arith, ints)

  by_tests : (b c : Bool) → int_lt x y ≡ b → int_lt y x ≡ c → greater x y ≡ greater y x
  by_tests true true is is' = absurd (apart x y is is')
  by_tests true false is is' = ap (λ b. if b then y else x) is ∙ sym (ap (λ b. if b then x else y) is')
  by_tests false true is is' = ap (λ b. if b then y else x) is ∙ sym (ap (λ b. if b then x else y) is')
  by_tests false false is is' = ap (λ b. if b then y else x) is ∙ same x y is is' ∙ sym (ap (λ b. if b then x else y) is')

greater_swap : (t e x : ℤ) → int_max x (int_max e t) ≡ int_max e (int_max x t)
greater_swap t e x = omega (arith, ints, clamps)

-- one more time, put before the others
greatest_before : (time e : ℤ) (times : List ℤ) → greatest_from (greater time e) times ≡ greater (greatest_from time times) e
greatest_before time e [] = refl
greatest_before time e (x ∷ times) = ap (λ least. greatest_from least times) (greater_swap time e x) ∙ greatest_before (greater time x) e times

-- one of the times, put first
pub greatest-moved : (time e : ℤ) (xs ys : List ℤ) → greatest_from time (xs ++ e ∷ ys) ≡ greatest_from time (e ∷ xs ++ ys)
greatest-moved time e xs ys =
    fold-append greater time xs (e ∷ ys)
    ∙ ap (λ least. greatest_from least ys) (sym (greatest_before time e xs))
    ∙ sym (fold-append greater (greater time e) xs ys)

-- from the last time or from the first one
pub greatest-last : (times : List ℤ) (time : ℤ) → greatest_of (times ++ time ∷ []) ≡ Some (greatest_from time times)
greatest-last [] time = refl
greatest-last (x ∷ times) time =
    ap Some (fold-append greater x times (time ∷ []) ∙ sym (greatest_before x time times) ∙ ap (λ least. greatest_from least times) (greater_both x time))
