-- Events with a pin. (This project's own.)
use Rattle.std.specs.Prelude.{ℕ, ◌≡◌, Some, IsTrue}
use Rattle.shared_buffer.specs.Slots.{slot_at}
use Rattle.shared_buffer.specs.Content.{Content}
use Rattle.shared_buffer.specs.declared.node.Standing.{Standing}

-- what had a pin stays as it was, and nothing stands that didn't stand so before
pub record KeepsPins (old new : Content) : Type 0 where
  pub stays : (key : ℕ) (row : Standing) → slot_at old.events key ≡ Some row → IsTrue row.pinned → slot_at new.events key ≡ Some row
  pub only : (key : ℕ) (row : Standing) → slot_at new.events key ≡ Some row → slot_at old.events key ≡ Some row
