-- What becomes of outputs that are told one thing after another. `tells` leads from one state of them to the next, and `stops` does so where telling stopped.
use Rattle.std.specs.Prelude.{◌≡◌, ◌⊎◌, List, [], ◌∷◌, ◌++◌, Result, Ok, Err}
use Rattle.event_pipeline.specs.declared.outputs.TellFault.{TellFault}
use Rattle.event_pipeline.specs.declared.outputs.TellFault.TheVariants.{NoMemory}
use Rattle.event_pipeline.specs.Told.{Told}

-- they were told this, or stopped at it
abbrev pub IsTold : {S : Type 0} → (S → S → Told → Type 0) → (TellFault → S → S → Told → Type 0) → S → S → Told → Result Unit TellFault → Type 0
IsTold tells stops a b one (Ok done) = tells a b one
IsTold tells stops a b one (Err fault) = stops fault a b one

-- they were told just these, one after another
abbrev pub AreTold : {S : Type 0} → (S → S → Told → Type 0) → S → S → List Told → Type 0
AreTold tells a b [] = b ≡ a
AreTold {S} tells a b (one ∷ more) = (now : S) × tells a now one × AreTold tells now b more

-- they stopped at the first of these, or memory was wanted before it
abbrev pub StopsBefore : {S : Type 0} → (TellFault → S → S → Told → Type 0) → TellFault → S → S → List Told → Type 0
StopsBefore stops fault a b back = ((fault ≡ NoMemory) × (b ≡ a)) ⊎ ((next : Told) × (rest : List Told) × (back ≡ next ∷ rest) × stops fault a b next)

-- They were told a front of these, and then they stopped for the fault.
pub record StopsAmong {S : Type 0} (tells : S → S → Told → Type 0) (stops : TellFault → S → S → Told → Type 0) (fault : TellFault) (a b : S)
    (all : List Told) : Type 0 where
  pub front : List Told
  pub back : List Told
  pub is : all ≡ front ++ back
  pub at : S
  pub told : AreTold tells a at front
  pub stopped : StopsBefore stops fault at b back

-- they were told all of these, or stopped among them
abbrev pub Tells : {S T : Type 0} → (S → S → Told → Type 0) → (TellFault → S → S → Told → Type 0) → S → S → List Told → Result T TellFault → Type 0
Tells tells stops a b all (Ok done) = AreTold tells a b all
Tells tells stops a b all (Err fault) = StopsAmong tells stops fault a b all
