-- Sizes and labels after the first ticks of an input, in a short form.
use Rattle.std.specs.Prelude.{ℕ, List, map, take}
use Rattle.cep_plan.specs.declared.plan.Plan.{Plan}
use Rattle.cep_plan.specs.Entry.{Entry}
use Rattle.cep_plan.specs.Tick.{Tick, events_of}
use Rattle.cep_plan.specs.Computing.{computing}
use Rattle.nfa_compile.specs.State.{state_of}
use Rattle.match_labels.specs.Label.{label_of, branches_below, earlier_takes, mark_behind}
use Rattle.shared_buffer.specs.declared.buffer.Held.{Held}
use Rattle.sharing_laws.specs.Sizes.{sizes_of}

abbrev pub shown : Held → ℕ × ℕ × ℕ
shown held = (held.events, held.nodes, held.edges)

-- how many events, nodes and edges there are after each of the first ticks
abbrev pub sizes_behind : Plan → List Tick → ℕ → List (ℕ × ℕ × ℕ)
sizes_behind plan ticks n = map shown (sizes_of plan (take n ticks))

-- the entry of this stage at this position
abbrev pub entry_of : ℕ × ℕ → Entry
entry_of e = record { stage = e.0; position = e.1 }

-- the label after so many ticks of the list with these stages and positions
abbrev pub label_after : Plan → List Tick → ℕ → List (ℕ × ℕ) → List ℕ
label_after plan ticks n list = label_of plan (events_of (take n ticks)) (map entry_of list)

-- what unfolds when sizes and labels are computed on a plan and records that are written out
unfoldable pub computing_sizes : Unit {0}
unfolding computing state_of branches_below earlier_takes mark_behind
computing_sizes = tt
