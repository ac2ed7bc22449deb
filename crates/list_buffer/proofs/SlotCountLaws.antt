-- What stands in slots, listed one by one: the keys, and the edges with the keys of their nodes.
use Rattle.std.proofs.Common.{◌≡◌, refl, sym, ◌∙◌, ap, subst, ℕ, zero, suc, ◌+◌, arith, true, false, cond, List, [], ◌∷◌, ◌++◌}
use Rattle.std.proofs.Common.{length, length-append, map, Option, Some, None, inl, inr}
use Rattle.std.specs.Prelude.{Contains, is_some, sum_by, count_by}
use Rattle.std.specs.List.{AllByRecursion as Each}
use Rattle.std.proofs.lemmas.List.Elements.{Contains-append_left, Contains-append_right, Contains-append_cases}
use Rattle.std.proofs.lemmas.List.Sums.{sum_by-cons, sum_by-append}
use Rattle.dewey_version.proofs.VersionLaws.{begins-refl}
use Rattle.dewey_version.specs.Version.{begins}
use Rattle.cep_plan.proofs.SortedLaws.{Contains-cases, Contains-first, Contains-next}
use Rattle.live_laws.specs.Starts.{AllApart}
use Rattle.live_laws.proofs.MemberLaws.{Contains-none, Contains-map, Contains-from_map, Each-from_contains, AllApart-append, AllApart-map}
use Rattle.shared_buffer.specs.Lists.{Lists}
use Rattle.shared_buffer.specs.Slots.{slot_at}
use Rattle.shared_buffer.specs.Graph.{edges_of, edge_total, Stands, IsApartFrom, IsPrefixFree}
use Rattle.shared_buffer.specs.declared.edges.Edge.{Edge}
use Rattle.shared_buffer.specs.declared.node.Node.{Node}

-- ---- keys

module _ {T : Type 0} where
  -- the keys under which something stands, where the first slot has this one
  abbrev pub keys_from : ℕ → List (Option T) → List ℕ
  keys_from key [] = []
  keys_from key (None ∷ slots) = keys_from (key + 1) slots
  keys_from key (Some row ∷ slots) = key ∷ keys_from (key + 1) slots

  -- something stands so many slots behind the first key
  pub record StandsBehind (first : ℕ) (slots : List (Option T)) (key : ℕ) : Type 0 where
    pub place : ℕ
    pub key_is : key ≡ first + place
    pub row : T
    pub found : slot_at slots place ≡ Some row

  -- one slot more in front
  next_behind : (first : ℕ) (slot : Option T) (slots : List (Option T)) (key : ℕ) → StandsBehind (first + 1) slots key → StandsBehind first (slot ∷ slots) key
  next_behind first slot slots key there = record { place = suc there.place; key_is = omega (arith, there.key_is); row = there.row; found = there.found }

  -- as many keys as slots with something
  pub keys-count : (first : ℕ) (slots : List (Option T)) → length (keys_from first slots) ≡ count_by is_some slots
  keys-count first [] = refl
  keys-count first (None ∷ slots) = omega (arith, keys-count (first + 1) slots, sum_by-cons (λ (o : Option T). cond (is_some o) 1 0) None slots)
  keys-count first (Some row ∷ slots) = omega (arith, keys-count (first + 1) slots, sum_by-cons (λ (o : Option T). cond (is_some o) 1 0) (Some row) slots)

  pub keys-stand : (first : ℕ) (slots : List (Option T)) (key : ℕ) → Contains (keys_from first slots) key → StandsBehind first slots key
  keys-stand first [] key q = absurd (Contains-none key q)
  keys-stand first (None ∷ slots) key q = next_behind first None slots key (keys-stand (first + 1) slots key q)
  keys-stand first (Some row ∷ slots) key q =
      elim (Contains-cases first key (keys_from (first + 1) slots) q) [
        | inl same ↦ record { place = 0; key_is = omega (arith, same); row = row; found = refl }
        | inr later ↦ next_behind first (Some row) slots key (keys-stand (first + 1) slots key later)
      ]

  pub keys-listed : (first : ℕ) (slots : List (Option T)) (place : ℕ) (row : T) → slot_at slots place ≡ Some row
      → Contains (keys_from first slots) (first + place)
  keys-listed first [] place row found = absurd cc
  keys-listed first (None ∷ slots) zero row found = absurd cc
  keys-listed first (Some other ∷ slots) zero row found =
      subst (Contains (first ∷ keys_from (first + 1) slots)) (omega arith) (Contains-first first (keys_from (first + 1) slots))
  keys-listed first (None ∷ slots) (suc place) row found =
      subst (Contains (keys_from (first + 1) slots)) (omega arith) (keys-listed (first + 1) slots place row found)
  keys-listed first (Some other ∷ slots) (suc place) row found =
      Contains-next first (first + suc place) (keys_from (first + 1) slots)
      (subst (Contains (keys_from (first + 1) slots)) (omega arith) (keys-listed (first + 1) slots place row found))

  pub keys-apart : (first : ℕ) (slots : List (Option T)) → AllApart (keys_from first slots)
  keys-apart first [] = tt
  keys-apart first (None ∷ slots) = keys-apart (first + 1) slots
  keys-apart first (Some row ∷ slots) = (
    Each-from_contains (λ key. first ≡ key → ⊥) (keys_from (first + 1) slots)
        (λ key q same. let there = keys-stand (first + 1) slots key q in omega (arith, same, there.key_is)),
    keys-apart (first + 1) slots,
  )

-- ---- edges

-- an edge, and the key of its node
pub record Placed : Type 0 where
  pub key : ℕ
  pub edge : Edge

abbrev pub placed : ℕ → Edge → Placed
placed key edge = record { key = key; edge = edge }

-- all edges, where the first slot has this key
abbrev pub placed_from : ℕ → List (Option Node) → List Placed
placed_from key [] = []
placed_from key (slot ∷ slots) = map (placed key) (edges_of slot) ++ placed_from (key + 1) slots

-- the edge stands on the node so many slots behind the first key
pub record EdgeBehind (first : ℕ) (nodes : List (Option Node)) (at : Placed) : Type 0 where
  pub place : ℕ
  pub key_is : at.key ≡ first + place
  pub stands : Stands nodes place at.edge

pub Contains-lists : {X : Type 0} (xs : List X) (x : X) → Lists xs x → Contains xs x
Contains-lists [] x listed = absurd listed
Contains-lists (y ∷ xs) x (inl here) = subst (Contains (y ∷ xs)) here (Contains-first y xs)
Contains-lists (y ∷ xs) x (inr later) = Contains-next y x xs (Contains-lists xs x later)

pub lists-contains : {X : Type 0} (xs : List X) (x : X) → Contains xs x → Lists xs x
lists-contains [] x q = absurd (Contains-none x q)
lists-contains (y ∷ xs) x q =
    elim (Contains-cases y x xs q) [
      | inl here ↦ inl here
      | inr later ↦ inr (lists-contains xs x later)
    ]

-- numbers added up over all edges, and slot by slot
pub placed-sum : (f : Edge → ℕ) (first : ℕ) (nodes : List (Option Node))
    → sum_by (λ at. f at.edge) (placed_from first nodes) ≡ sum_by (λ slot. sum_by f (edges_of slot)) nodes
placed-sum f first [] = refl
placed-sum f first (slot ∷ nodes) =
    omega (
      arith,
      sum_by-append (λ (at : Placed). f at.edge) (map (placed first) (edges_of slot)) (placed_from (first + 1) nodes),
      over (edges_of slot),
      placed-sum f (first + 1) nodes,
      sum_by-cons (λ (s : Option Node). sum_by f (edges_of s)) slot nodes,
    ) where
      over : (edges : List Edge) → sum_by (λ (at : Placed). f at.edge) (map (placed first) edges) ≡ sum_by f edges
      over [] = refl
      over (edge ∷ edges) =
          omega (arith, over edges, sum_by-cons (λ (at : Placed). f at.edge) (placed first edge) (map (placed first) edges), sum_by-cons f edge edges)

length-map : {X Y : Type 0} (f : X → Y) (xs : List X) → length (map f xs) ≡ length xs
length-map f [] = refl
length-map f (x ∷ xs) = ap suc (length-map f xs)

pub placed-count : (first : ℕ) (nodes : List (Option Node)) → length (placed_from first nodes) ≡ edge_total nodes
placed-count first [] = refl
placed-count first (slot ∷ nodes) =
    omega (
      arith,
      length-append (map (placed first) (edges_of slot)) (placed_from (first + 1) nodes),
      length-map (placed first) (edges_of slot),
      placed-count (first + 1) nodes,
      sum_by-cons (λ (s : Option Node). length (edges_of s)) slot nodes,
    )

stands_next : (slot : Option Node) (nodes : List (Option Node)) (place : ℕ) (edge : Edge) → Stands nodes place edge → Stands (slot ∷ nodes) (suc place) edge
stands_next slot nodes place edge stands = record { node = stands.node; found = stands.found; listed = stands.listed }

stands_back : (slot : Option Node) (nodes : List (Option Node)) (place : ℕ) (edge : Edge) → Stands (slot ∷ nodes) (suc place) edge → Stands nodes place edge
stands_back slot nodes place edge stands = record { node = stands.node; found = stands.found; listed = stands.listed }

stands_here : (slot : Option Node) (nodes : List (Option Node)) (edge : Edge) → Lists (edges_of slot) edge → Stands (slot ∷ nodes) 0 edge
stands_here None nodes edge listed = absurd listed
stands_here (Some node) nodes edge listed = record { node = node; found = refl; listed = listed }

listed_here : (slot : Option Node) (nodes : List (Option Node)) (edge : Edge) → Stands (slot ∷ nodes) 0 edge → Lists (edges_of slot) edge
listed_here slot nodes edge stands = subst (λ (s : Option Node). Lists (edges_of s) edge) (sym stands.found) stands.listed

pub placed-stands : (first : ℕ) (nodes : List (Option Node)) (at : Placed) → Contains (placed_from first nodes) at → EdgeBehind first nodes at
placed-stands first [] at q = absurd (Contains-none at q)
placed-stands first (slot ∷ nodes) at q =
    elim (Contains-append_cases (map (placed first) (edges_of slot)) (placed_from (first + 1) nodes) at q) [
      | inl here ↦ of_slot (Contains-from_map (placed first) (edges_of slot) at here)
      | inr later ↦ behind (placed-stands (first + 1) nodes at later)
    ] where
      of_slot : ((edge : Edge) × Contains (edges_of slot) edge × (placed first edge ≡ at)) → EdgeBehind first (slot ∷ nodes) at
      of_slot (edge, listed, is) = record {
        place = 0;
        key_is = omega (arith, ap (λ (p : Placed). p.key) is);
        stands = stands_here slot nodes at.edge (subst (Lists (edges_of slot)) (ap (λ (p : Placed). p.edge) is) (lists-contains (edges_of slot) edge listed));
      }

      behind : EdgeBehind (first + 1) nodes at → EdgeBehind first (slot ∷ nodes) at
      behind there =
          record { place = suc there.place; key_is = omega (arith, there.key_is); stands = stands_next slot nodes there.place at.edge there.stands }

pub placed-listed : (first : ℕ) (nodes : List (Option Node)) (place : ℕ) (edge : Edge) → Stands nodes place edge
    → Contains (placed_from first nodes) (placed (first + place) edge)
placed-listed first [] place edge stands = let no : None ≡ Some stands.node = stands.found in absurd cc
placed-listed first (slot ∷ nodes) zero edge stands =
    let key : first ≡ first + 0 = omega arith in
    Contains-append_left (map (placed first) (edges_of slot)) (placed_from (first + 1) nodes) (placed (first + 0) edge)
    (subst (λ (k : ℕ). Contains (map (placed first) (edges_of slot)) (placed k edge)) key
    (Contains-map (placed first) (edges_of slot) edge (Contains-lists (edges_of slot) edge (listed_here slot nodes edge stands))))
placed-listed first (slot ∷ nodes) (suc place) edge stands =
    let key : first + 1 + place ≡ first + suc place = omega arith in
    Contains-append_right (map (placed first) (edges_of slot)) (placed_from (first + 1) nodes) (placed (first + suc place) edge)
    (subst (λ (k : ℕ). Contains (placed_from (first + 1) nodes) (placed k edge)) key
    (placed-listed (first + 1) nodes place edge (stands_back slot nodes place edge stands)))

-- edges of which no label begins with another are different
free_apart : (edges : List Edge) → IsPrefixFree edges → AllApart edges
free_apart [] free = tt
free_apart (edge ∷ edges) free = (others edges free.0, free_apart edges free.1) where
  others : (more : List Edge) → IsApartFrom edge.label more → Each (λ other. edge ≡ other → ⊥) more
  others [] apart = tt
  others (other ∷ more) apart = (
    (λ same.
        let begun : begins edge.label other.label ≡ true = ap (λ (e : Edge). begins edge.label e.label) (sym same) ∙ begins-refl edge.label in
        let no : true ≡ false = sym begun ∙ apart.0.0 in
        cc),
    others more apart.1,
  )

-- Each edge is listed once.
pub placed-apart : (first : ℕ) (nodes : List (Option Node)) → ((key : ℕ) (node : Node) → slot_at nodes key ≡ Some node → IsPrefixFree node.edges)
    → AllApart (placed_from first nodes)
placed-apart first [] free = tt
placed-apart first (slot ∷ nodes) free =
    AllApart-append (map (placed first) (edges_of slot)) (placed_from (first + 1) nodes)
    (AllApart-map (placed first) (edges_of slot) (λ a b in_a in_b same. ap (λ (p : Placed). p.edge) same) (of_slot slot (free 0)))
    (placed-apart (first + 1) nodes (λ key node found. free (suc key) node found))
    (Each-from_contains (λ x. Each (λ y. x ≡ y → ⊥) (placed_from (first + 1) nodes)) (map (placed first) (edges_of slot))
    (λ x in_x. Each-from_contains (λ y. x ≡ y → ⊥) (placed_from (first + 1) nodes)
    (λ y in_y same. far x y (Contains-from_map (placed first) (edges_of slot) x in_x) (placed-stands (first + 1) nodes y in_y) same))) where
      of_slot : (s : Option Node) → ((node : Node) → s ≡ Some node → IsPrefixFree node.edges) → AllApart (edges_of s)
      of_slot None free_here = tt
      of_slot (Some node) free_here = free_apart node.edges (free_here node refl)

      far : (x y : Placed) → ((edge : Edge) × Contains (edges_of slot) edge × (placed first edge ≡ x)) → EdgeBehind (first + 1) nodes y → x ≡ y → ⊥
      far x y (edge, listed, is) there same = omega (arith, ap (λ (p : Placed). p.key) is, ap (λ (p : Placed). p.key) same, there.key_is)
