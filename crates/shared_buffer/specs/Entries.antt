-- What a contract says of events with their nodes (this project's own).
use Rattle.std.specs.Prelude.{ℕ, ◌==◌, ◌&&◌, false, not, [], ◌∷◌, ◌++◌, length, Option, Some, None, if◌then◌else◌}
use Rattle.shared_buffer.specs.Members.{without_member}
use Rattle.shared_buffer.specs.declared.members.Member.{Member}
use Rattle.shared_buffer.specs.declared.node.Entry.{Entry}

-- the event where it has a pin or a node, and else nothing
abbrev pub kept : Entry → Option Entry
kept entry = if (not entry.row.pinned) && (length entry.members == 0) then None else Some entry

-- the event without its pin
abbrev pub unpinned : Entry → Entry
unpinned entry = record entry { row = record entry.row { pinned = false } }

-- the event with one node more
abbrev pub entry_with : Member → Entry → Entry
entry_with member entry = record entry { members = entry.members ++ member ∷ [] }

-- the event without its node of a state
abbrev pub entry_without : ℕ → Entry → Entry
entry_without state entry = record entry { members = without_member entry.members state }
