-- What a contract says of the edges of one node, which labels tell apart (after the Dewey numbers of Agrawal, Diao,
-- Gyllstrom and Immerman).
use Rattle.std.specs.Prelude.{◌≡◌, ℕ, ◌+◌, ◌-◌, ◌^◌, ◌<◌, ◌==◌, nat_lt, Bool, true, false, not, ◌&&◌, List, [], ◌∷◌, Option, Some, IsSome, find, if◌then◌else◌}
use Rattle.std.specs.Ordering.{is_gt}
use Rattle.dewey_version.specs.Version.{begins, version_cmp}
use Rattle.shared_buffer.specs.Lists.{change_first, remove_first, put_before}
use Rattle.shared_buffer.specs.declared.edges.Edge.{Edge}

-- the edge's label is a prefix of the version
abbrev pub leads : List ℕ → Edge → Bool
leads version edge = begins edge.label version

-- the first edge whose label is a prefix of the version
abbrev pub find_edge : List Edge → List ℕ → Option Edge
find_edge edges version = find (leads version) edges

-- some edge's label is a prefix of the version
abbrev pub HasEdge : List Edge → List ℕ → Type 0
HasEdge edges version = IsSome (find_edge edges version)

-- the edge whose label is a prefix of the version can be counted one higher
pub record HasRoom (edges : List Edge) (version : List ℕ) : Type 0 where
  pub edge : Edge
  pub found : find_edge edges version ≡ Some edge
  pub room : edge.count + 1 < 2 ^ 64

-- the edge's label is no prefix of this one, and this one is no prefix of it
abbrev pub is_apart_from : List ℕ → Edge → Bool
is_apart_from label edge = not (begins label edge.label) && not (begins edge.label label)

-- the edge's label comes behind this one in the order of versions
abbrev pub is_above : List ℕ → Edge → Bool
is_above label edge = is_gt (version_cmp edge.label label)

-- where the two labels first differ both have a digit, and that of the first label is lower
abbrev pub is_before : List ℕ → List ℕ → Bool
is_before [] other = false
is_before (digit ∷ label) [] = false
is_before (digit ∷ label) (first ∷ other) = if digit == first then is_before label other else nat_lt digit first

-- the label is before each of these edges' labels
abbrev pub AreBehind : List ℕ → List Edge → Type 0
AreBehind label [] = Unit {0}
AreBehind label (edge ∷ edges) = (is_before label edge.label ≡ true) × AreBehind label edges

-- each label is before those that follow it, so none begins with another
abbrev pub IsInOrder : List Edge → Type 0
IsInOrder [] = Unit {0}
IsInOrder (edge ∷ edges) = AreBehind edge.label edges × IsInOrder edges

-- the edges with one more, at its place in the order of labels
abbrev pub with_edge : Edge → List Edge → List Edge
with_edge edge edges = put_before (is_above edge.label) edge edges

-- the same edge, counted one higher
abbrev pub edge_up : Edge → Edge
edge_up edge = record edge { count = edge.count + 1 }

-- the same edge, counted one lower
abbrev pub edge_down : Edge → Edge
edge_down edge = record edge { count = edge.count - 1 }

-- the edges, of which the one that leads on with the version is counted one higher
abbrev pub counted_up : List Edge → List ℕ → List Edge
counted_up edges version = change_first (leads version) edge_up edges

-- the edges, of which the one that leads on with the version is counted one lower
abbrev pub counted_down : List Edge → List ℕ → List Edge
counted_down edges version = change_first (leads version) edge_down edges

-- the edges without the one that leads on with the version
abbrev pub without_edge : List Edge → List ℕ → List Edge
without_edge edges version = remove_first (leads version) edges
