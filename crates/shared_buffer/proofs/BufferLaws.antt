-- What the calls of a buffer leave, as far as its events go.
use Rattle.std.proofs.Common.{◌≡◌, ℕ, ◌<◌, false, List, [], ◌∷◌, length, Option, Some, None, refl, ap, sym, ◌∙◌, subst}
use Rattle.std.specs.Prelude.{option_map, option_and_then}
use Rattle.std.proofs.lemmas.Bool.{eq-eqb}
use Rattle.shared_buffer.specs.Slots.{slot_at, Changes}
use Rattle.shared_buffer.specs.Content.{rows, IsUsed, IsPinned, HasPosition}
use Rattle.shared_buffer.specs.Members.{find_member}
use Rattle.shared_buffer.specs.Entries.{kept, unpinned}
use Rattle.shared_buffer.specs.Graph.{IsIndexed}
use Rattle.shared_buffer.specs.declared.members.Member.{Member}
use Rattle.shared_buffer.specs.declared.node.Node.{Node}
use Rattle.shared_buffer.specs.declared.node.Entry.{Entry}
use Rattle.shared_buffer.specs.declared.node.Standing.{Standing}
use Rattle.shared_buffer.proofs.SlotLaws.{slot_at-map, Changes-map, same_value}
use Rattle.shared_buffer.proofs.IndexLaws.{member_here, found_nonempty, kept_with_node, IsIndexed-unpin}

mapped_value : {T U : Type 0} (f : T → U) (o : Option T) (y : U) → option_map f o ≡ Some y → (x : T) × (o ≡ Some x) × (f x ≡ y)
mapped_value f None y found = absurd (cc)
mapped_value f (Some x) y found = (x, refl, cc)

-- the entry behind a row
pub record HasRow (entries : List (Option Entry)) (key : ℕ) (row : Standing) : Type 0 where
  pub entry : Entry
  pub found : slot_at entries key ≡ Some entry
  pub row_is : entry.row ≡ row

pub entry_of_row :
    (entries : List (Option Entry)) (key : ℕ) (row : Standing) → slot_at (rows entries) key ≡ Some row → HasRow entries key row
entry_of_row entries key row found =
    let there = sym (slot_at-map (λ (entry : Entry). entry.row) entries key) ∙ found in
    let e = mapped_value (λ (entry : Entry). entry.row) (slot_at entries key) row there in
    record { entry = e.0; found = e.1; row_is = e.2 }

-- the row of an entry
pub row_of :
    (entries : List (Option Entry)) (key : ℕ) (entry : Entry) → slot_at entries key ≡ Some entry → slot_at (rows entries) key ≡ Some entry.row
row_of entries key entry found = slot_at-map (λ (e : Entry). e.row) entries key ∙ ap (option_map (λ (e : Entry). e.row)) found

-- what is known of the value that stood at the key
pub change_at_found :
    {T : Type 0} (f : T → Option T) (old new : List (Option T)) (key : ℕ) (value : T) → slot_at old key ≡ Some value
    → Changes old new key (option_and_then f (slot_at old key)) → Changes old new key (f value)
change_at_found f old new key value found changes = record { changed = changes.changed ∙ ap (option_and_then f) found; others = changes.others }

module _ (entries : List (Option Entry)) (nodes : List (Option Node)) (indexed : IsIndexed entries nodes) where
  -- an event with a node lists one
  pub used_nonempty : (key : ℕ) (entry : Entry) → slot_at entries key ≡ Some entry → IsUsed nodes key → 0 < length entry.members
  used_nonempty key entry found used =
      let l = indexed.listed used.key used.node used.found in
      let e : entry ≡ l.entry = same_value entries key used.node.event entry l.entry used.event_is found l.found in
      found_nonempty entry.members used.node.state used.key (ap (λ x. find_member x.members used.node.state) e ∙ l.member)

  first_is_used :
      (key : ℕ) (entry : Entry) (ms : List Member) → slot_at entries key ≡ Some entry → entry.members ≡ ms → (IsUsed nodes key → ⊥)
      → length ms ≡ 0
  first_is_used key entry [] found is unused = refl
  first_is_used key entry (m ∷ ms) found is unused =
      let was = indexed.stands key entry m.state m.node found (ap (λ xs. find_member xs m.state) is ∙ member_here m ms m.state refl) in
      absurd (unused (record { key = m.node; node = was.node; found = was.found; event_is = was.of_event }))

  -- an event without a node lists none
  pub unused_empty : (key : ℕ) (entry : Entry) → slot_at entries key ≡ Some entry → (IsUsed nodes key → ⊥) → length entry.members ≡ 0
  unused_empty key entry found unused = first_is_used key entry entry.members found refl unused

  pub settled_sound :
      (new : List (Option Entry)) (key : ℕ) → IsPinned (rows entries) key
      → Changes entries new key (option_and_then (λ entry. kept (unpinned entry)) (slot_at entries key)) → IsIndexed new nodes
  settled_sound new key pinned changes =
      let e = entry_of_row entries key pinned.row pinned.found in
      IsIndexed-unpin entries nodes indexed new key e.entry e.found (change_at_found (λ entry. kept (unpinned entry)) entries new key e.entry e.found changes)

  pub settled_used :
      (new : List (Option Entry)) (key : ℕ)
      → Changes entries new key (option_and_then (λ entry. kept (unpinned entry)) (slot_at entries key)) → IsUsed nodes key
      → (row : Standing) → slot_at (rows entries) key ≡ Some row
      → Changes (rows entries) (rows new) key (Some (record row { pinned = false }))
  settled_used new key changes used row found =
      let e = entry_of_row entries key row found in
      let change = change_at_found (λ entry. kept (unpinned entry)) entries new key e.entry e.found changes in
      let stays = kept_with_node (unpinned e.entry) (used_nonempty key e.entry e.found used) in
      let mapped = Changes-map (λ (entry : Entry). entry.row) entries new key (kept (unpinned e.entry)) change in
      subst (λ (slot : Option Standing). Changes (rows entries) (rows new) key slot)
      (ap (option_map (λ (entry : Entry). entry.row)) stays ∙ ap (λ (r : Standing). Some (record r { pinned = false })) e.row_is)
      mapped

  pub settled_unused :
      (new : List (Option Entry)) (key : ℕ) → IsPinned (rows entries) key
      → Changes entries new key (option_and_then (λ entry. kept (unpinned entry)) (slot_at entries key)) → (IsUsed nodes key → ⊥)
      → Changes (rows entries) (rows new) key None
  settled_unused new key pinned changes unused =
      let e = entry_of_row entries key pinned.row pinned.found in
      let change = change_at_found (λ entry. kept (unpinned entry)) entries new key e.entry e.found changes in
      let goes : kept (unpinned e.entry) ≡ None = rw (eq-eqb (length e.entry.members) 0 (unused_empty key e.entry e.found unused)) refl in
      let mapped = Changes-map (λ (entry : Entry). entry.row) entries new key (kept (unpinned e.entry)) change in
      subst (λ (slot : Option Standing). Changes (rows entries) (rows new) key slot)
      (ap (option_map (λ (entry : Entry). entry.row)) goes)
      mapped

-- a node's event stands at the node's position
pub event_of_node :
    (entries : List (Option Entry)) (nodes : List (Option Node)) → IsIndexed entries nodes → (key : ℕ) (node : Node)
    → slot_at nodes key ≡ Some node → HasPosition (rows entries) node.event node.position
event_of_node entries nodes indexed key node found =
    let own = indexed.listed key node found in
    record {
      row = own.entry.row;
      found = row_of entries node.event own.entry own.found;
      position_is = own.position;
    }
