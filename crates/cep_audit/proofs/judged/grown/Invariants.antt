-- The taken events are those of the entries so far, and what is left decides.
use Rattle.std.proofs.Common.{◌≡◌, take, drop, length}
use Rattle.std.specs.Prelude.{[]}
use Rattle.cep_plan.specs.Entry.{taken_of}
use Rattle.cep_plan.specs.Partial.{extends_all}
use Rattle.cep_audit.specs.Asked.{entries_of}
use Rattle.cep_audit.proofs.judged.grown.Given as goal

abbrev pub invariant-loop-chosen : goal.invariant-loop-chosen
invariant-loop-chosen l =
    (length l.taken ≡ l.chosen-index)
    × (l.taken ≡ taken_of l.events (entries_of (take l.chosen-index l.list)))
    × (extends_all l.plan l.events [] (entries_of l.list)
    ≡ extends_all l.plan l.events (entries_of (take l.chosen-index l.list)) (entries_of (drop l.chosen-index l.list)))
