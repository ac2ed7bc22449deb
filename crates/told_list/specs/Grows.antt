-- What a list did that its keeper may tell: of one that isn't told nothing is known.
use Rattle.std.specs.Prelude.{◌≡◌, ⊤, List, ◌++◌, Option, Some, None}

-- the list has grown by these elements
abbrev pub Grows : {U : Type 0} → Option (List U) → Option (List U) → List U → Type 0
Grows None now more = ⊤
Grows (Some before) None more = ⊥
Grows (Some before) (Some now) more = now ≡ before ++ more

-- it has grown by a front of these, all of them or fewer
pub record GrowsPart {U : Type 0} (before now : Option (List U)) (all : List U) : Type 0 where
  pub front : List U
  pub back : List U
  pub is : all ≡ front ++ back
  pub grows : Grows before now front
