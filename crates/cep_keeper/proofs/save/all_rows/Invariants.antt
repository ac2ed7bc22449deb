use Rattle.std.proofs.Common.{◌≡◌, [], ◌∷◌, ◌++◌, map, take}
use Rattle.cep_keeper.specs.Rows.{head_row, key_row, tick_row, pending_row}
use Rattle.cep_keeper.proofs.save.all_rows.Given as goal

abbrev pub invariant-loop-key : goal.invariant-loop-key
invariant-loop-key l = l.rows ≡ head_row l.text l.saved ∷ [] ++ map key_row (take l.key-index l.key-items)

abbrev pub invariant-loop-tick : goal.invariant-loop-tick
invariant-loop-tick l = l.rows ≡ head_row l.text l.saved ∷ [] ++ map key_row l.saved.keys ++ map tick_row (take l.tick-index l.tick-items)

abbrev pub invariant-loop-event : goal.invariant-loop-event
invariant-loop-event l = l.rows ≡ head_row l.text l.saved ∷ [] ++ map key_row l.saved.keys ++ map tick_row l.saved.recent
    ++ map pending_row (take l.event-index l.event-items)
