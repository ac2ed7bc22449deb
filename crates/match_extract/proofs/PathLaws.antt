-- A path, read from its end.
use Rattle.std.proofs.Common.{◌≡◌, ℕ, ◌+◌, ◌<◌, List, [], ◌∷◌, ◌++◌, reverse, Option, Some, None, is_some, refl, ap, sym, ◌∙◌, subst, arith}
use Rattle.std.specs.Prelude.{option_map, option_and_then, unwrap_or}
use Rattle.std.specs.Option.{ForSome}
use Rattle.std.proofs.lemmas.List.{reverse-append, append_assoc, append-nil}
use Rattle.shared_buffer.specs.Slots.{slot_at}
use Rattle.shared_buffer.specs.Edges.{find_edge}
use Rattle.shared_buffer.specs.Link.{link_at, step_of}
use Rattle.shared_buffer.specs.Nodes.{HasEdgeAt, GoesOn}
use Rattle.shared_buffer.specs.Content.{Content, HasPosition}
use Rattle.cep_event.specs.declared.event.Event.{Event}
use Rattle.shared_buffer.specs.declared.edges.Edge.{Edge}
use Rattle.shared_buffer.specs.declared.buffer.Link.{Link}
use Rattle.shared_buffer.specs.declared.node.Node.{Node}
use Rattle.shared_buffer.specs.declared.node.Standing.{Standing}
use Rattle.cep_plan.specs.declared.item.Taken.{Taken}
use Rattle.match_extract.specs.Path.{Takes, IsPath}
use Rattle.match_extract.specs.Path.IsPath.{First, Later}

-- what was read so far, from the last event back, completes each path to the next node
abbrev pub Completes : Content → List ℕ → ℕ → List Taken → Option ℕ → Type 0
Completes buffer version last taken None = IsPath buffer version last (reverse taken)
Completes buffer version last taken (Some next) =
    HasEdgeAt buffer.nodes next version
    × ((before : List Taken) → IsPath buffer version next before → IsPath buffer version last (before ++ reverse taken))

-- one above the position of the next node
abbrev pub height : List (Option Node) → Option ℕ → ℕ
height nodes None = 0
height nodes (Some next) = unwrap_or (option_map (λ (node : Node). node.position) (slot_at nodes next)) 0 + 1

pub Completes-none :
    (buffer : Content) (version : List ℕ) (last : ℕ) → HasEdgeAt buffer.nodes last version
    → Completes buffer version last [] (Some last)
Completes-none buffer version last has = (has, λ before path. rw append-nil path)

goes_on_leads : (nodes : List (Option Node)) (version : List ℕ) (key position : ℕ) → GoesOn nodes key position version → HasEdgeAt nodes key version
goes_on_leads nodes version key position on = ap is_some (ap (option_and_then (λ (n : Node). find_edge n.edges version)) on.found) ∙ on.leads_on

pub Completes-more :
    (buffer : Content) (version : List ℕ) (last key : ℕ) (taken : List Taken) (one : Taken) (position : ℕ) (pred : Option ℕ)
    → Completes buffer version last taken (Some key) → Takes buffer version key one pred
    → ForSome pred (λ p. GoesOn buffer.nodes p position version) → Completes buffer version last (taken ++ one ∷ []) pred
Completes-more buffer version last key taken one position None so_far takes before =
    subst (λ (xs : List Taken). IsPath buffer version last xs) (sym (reverse-append taken (one ∷ []))) (so_far.1 (one ∷ []) (First key one takes))
Completes-more buffer version last key taken one position (Some p) so_far takes before = (
  goes_on_leads buffer.nodes version p position (before p refl),
  λ earlier path.
      subst (λ (xs : List Taken). IsPath buffer version last xs)
      (append_assoc earlier (one ∷ []) (reverse taken) ∙ ap (λ (xs : List Taken). earlier ++ xs) (sym (reverse-append taken (one ∷ []))))
      (so_far.1 (earlier ++ one ∷ []) (Later key p one earlier takes path)),
)

link_position :
    (nodes : List (Option Node)) (key : ℕ) (version : List ℕ) (link : Link) → link_at nodes key version ≡ Some link
    → (slot : Option Node) → slot_at nodes key ≡ slot
    → unwrap_or (option_map (λ (node : Node). node.position) slot) 0 ≡ link.position
link_position nodes key version link linked None is =
    let bad : None ≡ Some link = sym (ap (option_and_then (λ (node : Node). option_map (step_of node) (find_edge node.edges version))) is) ∙ linked in
    absurd (cc)
link_position nodes key version link linked (Some node) is =
    by_edge (find_edge node.edges version) (sym (ap (option_and_then (λ (n : Node). option_map (step_of n) (find_edge n.edges version))) is) ∙ linked)
  where
    by_edge : (o : Option Edge) → option_map (step_of node) o ≡ Some link → node.position ≡ link.position
    by_edge None found = absurd (cc)
    by_edge (Some edge) found = let e : step_of node edge ≡ link = cc in ap (λ (l : Link). l.position) e

-- each step goes to a lower position
pub height-falls :
    (nodes : List (Option Node)) (key : ℕ) (version : List ℕ) (link : Link) → link_at nodes key version ≡ Some link
    → ForSome link.pred (λ p. GoesOn nodes p link.position version) → height nodes link.pred < height nodes (Some key)
height-falls nodes key version link linked before = by_pred link.pred before
  where
    here : unwrap_or (option_map (λ (node : Node). node.position) (slot_at nodes key)) 0 ≡ link.position
    here = link_position nodes key version link linked (slot_at nodes key) refl

    by_pred : (pred : Option ℕ) → ForSome pred (λ p. GoesOn nodes p link.position version) → height nodes pred < height nodes (Some key)
    by_pred None lower = omega arith
    by_pred (Some p) lower =
        let on = lower p refl in
        let there : unwrap_or (option_map (λ (node : Node). node.position) (slot_at nodes p)) 0 ≡ on.node.position =
        ap (λ (s : Option Node). unwrap_or (option_map (λ (node : Node). node.position) s) 0) on.found in
        omega (arith, on.before, here, there)

-- what the code has read of a step
pub read_takes :
    (buffer : Content) (version : List ℕ) (key : ℕ) (link : Link) (event : Event) → link_at buffer.nodes key version ≡ Some link
    → (at : HasPosition buffer.events link.event link.position)
    → ForSome (slot_at buffer.events link.event) (λ row. event ≡ row.event)
    → Takes buffer version key (record { stage = link.stage; position = link.position; event = event }) link.pred
read_takes buffer version key link event linked at event_is =
    record {
      link = link;
      linked = linked;
      row = at.row;
      found = at.found;
      taken_is =
          ap (λ (p : ℕ). record { stage = link.stage; position = p; event = event }) (sym at.position_is)
          ∙ ap (λ (e : Event). record { stage = link.stage; position = at.row.position; event = e }) (event_is at.row at.found);
      pred_is = refl;
    }

-- there is one path
takes_one :
    (buffer : Content) (version : List ℕ) (key : ℕ) (a b : Taken) (p q : Option ℕ) → Takes buffer version key a p
    → Takes buffer version key b q → (a ≡ b) × (p ≡ q)
takes_one buffer version key a b p q one other =
    let links : Some one.link ≡ Some other.link = sym one.linked ∙ other.linked in
    let link : one.link ≡ other.link = cc in
    let rows : Some one.row ≡ Some other.row = sym one.found ∙ ap (λ (l : Link). slot_at buffer.events l.event) link ∙ other.found in
    let row : one.row ≡ other.row = cc in (
      one.taken_is
          ∙ ap (λ (l : Link). record { stage = l.stage; position = one.row.position; event = one.row.event }) link
          ∙ ap (λ (r : Standing). record { stage = other.link.stage; position = r.position; event = r.event }) row
          ∙ sym other.taken_is,
      sym one.pred_is ∙ ap (λ (l : Link). l.pred) link ∙ other.pred_is,
    )

pub one_path : (buffer : Content) (version : List ℕ) (key : ℕ) (a b : List Taken) → IsPath buffer version key a → IsPath buffer version key b → a ≡ b
one_path buffer version _ _ b (First key taken takes) other = first key taken takes b other
  where
    first : (key : ℕ) (taken : Taken) → Takes buffer version key taken None → (b : List Taken) → IsPath buffer version key b → taken ∷ [] ≡ b
    first _ taken takes _ (First key another others) = ap (λ t. t ∷ []) (takes_one buffer version key taken another None None takes others).0
    first _ taken takes _ (Later key pred another before others path) =
        let bad : None ≡ Some pred = (takes_one buffer version key taken another None (Some pred) takes others).1 in
        absurd (cc)
one_path buffer version _ _ b (Later key pred taken before takes path) other =
    later (λ earlier. one_path buffer version pred before earlier path) key takes b other
  where
    later :
        ((earlier : List Taken) → IsPath buffer version pred earlier → before ≡ earlier) → (key : ℕ)
        → Takes buffer version key taken (Some pred) → (b : List Taken) → IsPath buffer version key b → before ++ taken ∷ [] ≡ b
    later rest _ takes _ (First key another others) =
        let bad : Some pred ≡ None = (takes_one buffer version key taken another (Some pred) None takes others).1 in
        absurd (cc)
    later rest _ takes _ (Later key pred' another earlier others path') =
        let both = takes_one buffer version key taken another (Some pred) (Some pred') takes others in
        let e : pred ≡ pred' = (let x = both.1 in cc) in
        let same : before ≡ earlier = rest earlier (subst (λ (k : ℕ). IsPath buffer version k earlier) (sym e) path') in
        ap (λ xs. xs ++ taken ∷ []) same ∙ ap (λ t. earlier ++ t ∷ []) both.0
