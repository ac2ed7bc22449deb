-- Lists that grow in several steps.
use Rattle.std.proofs.Common.{◌≡◌, refl, sym, ◌∙◌, ap, subst, List, [], ◌++◌, Option, Some, None, append_assoc, append-nil}
use Rattle.told_list.specs.Grows.{Grows, GrowsPart}

pub Grows-nil : {U : Type 0} (a : Option (List U)) → Grows a a []
Grows-nil None = tt
Grows-nil (Some xs) = sym (append-nil xs)

pub Grows-trans : {U : Type 0} (a b c : Option (List U)) (xs ys : List U) → Grows a b xs → Grows b c ys → Grows a c (xs ++ ys)
Grows-trans None b c xs ys first second = tt
Grows-trans (Some had) None c xs ys first second = absurd first
Grows-trans (Some had) (Some then) None xs ys first second = absurd second
Grows-trans (Some had) (Some then) (Some now) xs ys first second = second ∙ ap (λ l. l ++ ys) first ∙ append_assoc had xs ys

-- it stayed as it was
pub Grows-same : {U : Type 0} (a b : Option (List U)) → b ≡ a → Grows a b []
Grows-same {U = U} a b same = subst (λ (l : Option (List U)). Grows a l []) (sym same) (Grows-nil a)

-- a list that is told stays so, and has what it had and then what it grew by
pub Grows-known : {U : Type 0} (a b : Option (List U)) (had more : List U) → a ≡ Some had → Grows a b more → b ≡ Some (had ++ more)
Grows-known None b had more known grows = absurd (cc)
Grows-known (Some a) None had more known grows = absurd grows
Grows-known (Some a) (Some b) had more known grows =
    let same : a ≡ had = cc in let grew : b ≡ had ++ more = grows ∙ ap (λ l. l ++ more) same in cc

module _ {U : Type 0} (a : Option (List U)) where
  -- it grew by nothing
  pub GrowsPart-nil : (all : List U) → GrowsPart a a all
  GrowsPart-nil all = record { front = []; back = all; is = refl; grows = Grows-nil a }

  pub GrowsPart-same : (b : Option (List U)) (all : List U) → b ≡ a → GrowsPart a b all
  GrowsPart-same b all same = record { front = []; back = all; is = refl; grows = Grows-same a b same }

  -- it grew by all of these
  pub GrowsPart-whole : (b : Option (List U)) (all : List U) → Grows a b all → GrowsPart a b all
  GrowsPart-whole b all grows = record { front = all; back = []; is = sym (append-nil all); grows = grows }

  -- more would have come
  pub GrowsPart-more : (b : Option (List U)) (xs ys : List U) → GrowsPart a b xs → GrowsPart a b (xs ++ ys)
  GrowsPart-more b xs ys part = record {
    front = part.front;
    back = part.back ++ ys;
    is = ap (λ l. l ++ ys) part.is ∙ append_assoc part.front part.back ys;
    grows = part.grows;
  }

  -- it grew by some, and then by a front of others
  pub GrowsPart-later : (b c : Option (List U)) (xs ys : List U) → Grows a b xs → GrowsPart b c ys → GrowsPart a c (xs ++ ys)
  GrowsPart-later b c xs ys grows part = record {
    front = xs ++ part.front;
    back = part.back;
    is = ap (λ l. xs ++ l) part.is ∙ sym (append_assoc xs part.front part.back);
    grows = Grows-trans a b c xs part.front grows part.grows;
  }
