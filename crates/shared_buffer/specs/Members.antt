-- What a contract says of the nodes that stand on one event (this project's own).
use Rattle.std.specs.Prelude.{◌≡◌, ℕ, Bool, ◌==◌, List, [], ◌∷◌, Option, None, option_map, find}
use Rattle.shared_buffer.specs.Lists.{remove_first}
use Rattle.shared_buffer.specs.declared.members.Member.{Member}

-- the member is of this state
abbrev pub is_of_state : ℕ → Member → Bool
is_of_state state member = member.state == state

-- the node of a state
abbrev pub find_member : List Member → ℕ → Option ℕ
find_member members state = option_map (λ member. member.node) (find (is_of_state state) members)

-- the members without that of a state
abbrev pub without_member : List Member → ℕ → List Member
without_member members state = remove_first (is_of_state state) members

-- no two members are of one state
abbrev pub HasDistinctStates : List Member → Type 0
HasDistinctStates [] = Unit {0}
HasDistinctStates (member ∷ members) = (find_member members member.state ≡ None) × HasDistinctStates members
