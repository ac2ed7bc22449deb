-- Positions that have a next one. (This project's own.)
use Rattle.std.specs.Prelude.{◌<◌, ◌-◌, ◌^◌, List}
use Rattle.std.specs.List.{AllByRecursion as Each}
use Rattle.cep_plan.specs.declared.item.Taken.{Taken}

-- all positions of the lists are below the greatest one
abbrev pub AreSmall : List (List Taken) → Type 0
AreSmall lists = Each (λ list. Each (λ t. t.position < 2 ^ 32 - 1) list) lists
