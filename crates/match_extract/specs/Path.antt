-- The one path that a version goes through a buffer: from the node, each edge whose label is a prefix of the version is
-- followed to its predecessor, up to an edge without one (after the Dewey numbers of the shared match buffer of Agrawal,
-- Diao, Gyllstrom and Immerman).
use Rattle.std.specs.Prelude.{◌≡◌, ℕ, List, [], ◌∷◌, ◌++◌, Option, Some, None}
use Rattle.shared_buffer.specs.Slots.{slot_at}
use Rattle.shared_buffer.specs.Link.{link_at}
use Rattle.shared_buffer.specs.Content.{Content}
use Rattle.shared_buffer.specs.declared.buffer.Link.{Link}
use Rattle.shared_buffer.specs.declared.node.Standing.{Standing}
use Rattle.cep_plan.specs.declared.item.Taken.{Taken}

-- the node of this key took this event, and the version goes on from it to this node or to none
pub record Takes (buffer : Content) (version : List ℕ) (key : ℕ) (taken : Taken) (pred : Option ℕ) : Type 0 where
  pub link : Link
  pub linked : link_at buffer.nodes key version ≡ Some link
  pub row : Standing
  pub found : slot_at buffer.events link.event ≡ Some row
  pub taken_is : taken ≡ record { stage = link.stage; position = row.position; event = row.event }
  pub pred_is : link.pred ≡ pred

-- what was taken on the path from this node, from the first event on
pub data IsPath (buffer : Content) (version : List ℕ) : ℕ → List Taken → Type 0 where
  First : (key : ℕ) (taken : Taken) → Takes buffer version key taken None → IsPath buffer version key (taken ∷ [])
  Later :
      (key pred : ℕ) (taken : Taken) (before : List Taken) → Takes buffer version key taken (Some pred)
      → IsPath buffer version pred before → IsPath buffer version key (before ++ taken ∷ [])
