-- What asks no more than these can be answered where they can.
use Rattle.std.proofs.Common.{List}
use Rattle.std.specs.List.{All, Contains}
use Rattle.std.proofs.lemmas.List.Elements.{All-weaker, All-contains}
use Rattle.cep_plan.specs.Question.{Question}
use Rattle.cond_ready.specs.Rest.{AsksOf}

pub can-asked : (can : Question → Type 0) (qs asked : List Question) → All can qs → AsksOf qs asked → All can asked
can-asked can qs asked can_all among = All-weaker (Contains qs) can (λ q one. All-contains can qs q can_all one) asked among
