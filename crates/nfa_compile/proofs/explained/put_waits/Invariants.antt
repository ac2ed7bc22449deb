use Rattle.std.proofs.Common.{◌≡◌, ◌++◌, take}
use Rattle.std.specs.Prelude.{string_bytes}
use Rattle.std.specs.List.{flat_map}
use Rattle.nfa_compile.specs.Explained.{wait_line}
use Rattle.nfa_compile.proofs.explained.put_waits.Given as goal

abbrev pub invariant-loop-wait : goal.invariant-loop-wait
invariant-loop-wait l = string_bytes l.out ≡ string_bytes l.initial.out ++ flat_map (wait_line l.plan) (take l.wait-index l.waits)
