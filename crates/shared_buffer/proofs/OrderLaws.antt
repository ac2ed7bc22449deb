-- Labels in order, and where in it a version's edge stands.
use Rattle.std.proofs.Common.{◌≡◌, ℕ, zero, suc, ◌-◌, ◌<◌, ◌⊎◌, Bool, true, false, not, List, [], ◌∷◌, length, get_or, Option, Some, None, is_some, Less, Greater, refl, ap, sym, ◌∙◌, subst, inl, inr, arith}
use Rattle.std.specs.Prelude.{IsSome}
use Rattle.std.specs.Ordering.{is_gt}
use Rattle.std.specs.List.{position_or_len}
use Rattle.std.specs.List.Sorted.{IsPartitionedBy}
use Rattle.std.proofs.lemmas.Bool.{cases_Bool, cases_eq, cases_order, lt-ltb, ltb-true, le-ltb, eq-eqb, ne_eqb, eqb-true, and_parts, not-true, not_from_false}
use Rattle.dewey_version.specs.Version.{begins, version_cmp}
use Rattle.shared_buffer.specs.Lists.{change_first, remove_first, put_before, Lists}
use Rattle.shared_buffer.specs.Edges.{leads, find_edge, is_above, is_before, AreBehind, IsInOrder, with_edge}
use Rattle.shared_buffer.specs.Graph.{IsApartFrom}
use Rattle.shared_buffer.specs.declared.edges.Edge.{Edge}
use Rattle.shared_buffer.proofs.EdgeLaws.{true-false}
use Rattle.shared_buffer.proofs.ListLaws.{none_not_some, find_no, found_listed, found_passes, found_is, listed_found, item_listed, place_yes, place_no, change_yes, change_no, remove_yes, remove_no, put_yes, put_no}

-- the first digit decides, or the others do

before_lower : (x y : ℕ) (a b : List ℕ) → x < y → is_before (x ∷ a) (y ∷ b) ≡ true
before_lower x y a b lower = rw (ne_eqb x y (λ same. omega (arith, lower, same))) (lt-ltb x y lower)

before_same : (x y : ℕ) (a b : List ℕ) → x ≡ y → is_before (x ∷ a) (y ∷ b) ≡ is_before a b
before_same x y a b same = rw (eq-eqb x y same) refl

before_parts : (x y : ℕ) (a b : List ℕ) → is_before (x ∷ a) (y ∷ b) ≡ true → (x < y) ⊎ ((x ≡ y) × (is_before a b ≡ true))
before_parts x y a b before =
    elim (cases_eq x y) [
      | inl same ↦ inr (same, sym (before_same x y a b same) ∙ before)
      | inr differs ↦ inl (ltb-true x y (rw (ne_eqb x y differs) at before))
    ]

first_lower : (x y : ℕ) (a b : List ℕ) → x < y → version_cmp (x ∷ a) (y ∷ b) ≡ Less
first_lower x y a b lower = rw (lt-ltb x y lower) refl

first_same : (x y : ℕ) (a b : List ℕ) → x ≡ y → version_cmp (x ∷ a) (y ∷ b) ≡ version_cmp a b
first_same x y a b same = rw (le-ltb x y (omega (arith, same)), eq-eqb x y same) refl

first_higher : (x y : ℕ) (a b : List ℕ) → y < x → version_cmp (x ∷ a) (y ∷ b) ≡ Greater
first_higher x y a b higher = rw (le-ltb x y (omega arith), ne_eqb x y (λ same. omega (arith, higher, same))) refl

before_trans : (a b c : List ℕ) → is_before a b ≡ true → is_before b c ≡ true → is_before a c ≡ true
before_trans [] b c ab bc = absurd (cc)
before_trans (x ∷ a) [] c ab bc = absurd (cc)
before_trans (x ∷ a) (y ∷ b) [] ab bc = absurd (cc)
before_trans (x ∷ a) (y ∷ b) (z ∷ c) ab bc =
    elim (before_parts x y a b ab) [
      | inl lower ↦
          elim (before_parts y z b c bc) [
            | inl lower' ↦ before_lower x z a c (omega arith)
            | inr both ↦ before_lower x z a c (omega (arith, both.0))
          ]
      | inr both ↦
          elim (before_parts y z b c bc) [
            | inl lower ↦ before_lower x z a c (omega (arith, both.0))
            | inr both' ↦ before_same x z a c (both.0 ∙ both'.0) ∙ before_trans a b c both.1 both'.1
          ]
    ]

-- a label before one that isn't above the version isn't above it
not_above_before : (a b version : List ℕ) → is_before a b ≡ true → is_gt (version_cmp b version) ≡ false → is_gt (version_cmp a version) ≡ false
not_above_before [] b version before below = absurd (cc)
not_above_before (x ∷ a) [] version before below = absurd (cc)
not_above_before (x ∷ a) (y ∷ b) [] before below = absurd (cc)
not_above_before (x ∷ a) (y ∷ b) (z ∷ version) before below =
    elim (cases_order y z) [
      | inl same ↦
          elim (before_parts x y a b before) [
            | inl lower ↦ ap is_gt (first_lower x z a version (omega (arith, same)))
            | inr both ↦
                ap is_gt (first_same x z a version (both.0 ∙ same))
                ∙ not_above_before a b version both.1 (ap is_gt (sym (first_same y z b version same)) ∙ below)
          ]
      | inr (inl lower) ↦
          elim (before_parts x y a b before) [
            | inl lower' ↦ ap is_gt (first_lower x z a version (omega arith))
            | inr both ↦ ap is_gt (first_lower x z a version (omega (arith, both.0)))
          ]
      | inr (inr higher) ↦ true-false _ (ap is_gt (first_higher y z b version higher)) below
    ]

-- a prefix isn't above what it begins
not_above_prefix : (label version : List ℕ) → begins label version ≡ true → is_gt (version_cmp label version) ≡ false
not_above_prefix [] [] leads_on = refl
not_above_prefix [] (z ∷ version) leads_on = refl
not_above_prefix (x ∷ label) [] leads_on = absurd (cc)
not_above_prefix (x ∷ label) (z ∷ version) leads_on =
    let both = and_parts _ _ leads_on in
    ap is_gt (first_same x z label version (eqb-true x z both.0)) ∙ not_above_prefix label version both.1

-- what a prefix of the version is before is above it
above_behind :
    (label other version : List ℕ) → is_before label other ≡ true → begins label version ≡ true
    → is_gt (version_cmp other version) ≡ true
above_behind [] other version before leads_on = absurd (cc)
above_behind (x ∷ label) [] version before leads_on = absurd (cc)
above_behind (x ∷ label) (y ∷ other) [] before leads_on = absurd (cc)
above_behind (x ∷ label) (y ∷ other) (z ∷ version) before leads_on =
    let begin = and_parts _ _ leads_on in
    let same = eqb-true x z begin.0 in
    elim (before_parts x y label other before) [
      | inl lower ↦ ap is_gt (first_higher y z other version (omega (arith, same)))
      | inr both ↦ ap is_gt (first_same y z other version (sym both.0 ∙ same)) ∙ above_behind label other version both.1 begin.1
    ]

-- of two labels of which neither begins the other, the one that is above the other is behind it
apart_above :
    (label other : List ℕ) → begins label other ≡ false → begins other label ≡ false
    → is_gt (version_cmp other label) ≡ true → is_before label other ≡ true
apart_above [] other apart apart' above = absurd (cc)
apart_above (x ∷ label) [] apart apart' above = absurd (cc)
apart_above (x ∷ label) (y ∷ other) apart apart' above =
    elim (cases_order x y) [
      | inl same ↦
          before_same x y label other same
          ∙ apart_above label other (rw (eq-eqb x y same) at apart) (rw (eq-eqb y x (sym same)) at apart')
          (ap is_gt (sym (first_same y x other label (sym same))) ∙ above)
      | inr (inl lower) ↦ before_lower x y label other lower
      | inr (inr higher) ↦ true-false _ above (ap is_gt (first_lower y x other label higher))
    ]

apart_below :
    (label other : List ℕ) → begins label other ≡ false → begins other label ≡ false
    → is_gt (version_cmp other label) ≡ false → is_before other label ≡ true
apart_below [] other apart apart' below = absurd (cc)
apart_below (x ∷ label) [] apart apart' below = absurd (cc)
apart_below (x ∷ label) (y ∷ other) apart apart' below =
    elim (cases_order x y) [
      | inl same ↦
          before_same y x other label (sym same)
          ∙ apart_below label other (rw (eq-eqb x y same) at apart) (rw (eq-eqb y x (sym same)) at apart')
          (ap is_gt (sym (first_same y x other label (sym same))) ∙ below)
      | inr (inl lower) ↦ true-false _ (ap is_gt (first_higher y x other label lower)) below
      | inr (inr higher) ↦ before_lower y x other label higher
    ]

behind_trans : (a b : List ℕ) (edges : List Edge) → is_before a b ≡ true → AreBehind b edges → AreBehind a edges
behind_trans a b [] before behind = tt
behind_trans a b (x ∷ edges) before behind = (before_trans a b x.label before behind.0, behind_trans a b edges before behind.1)

behind_listed : (label : List ℕ) (edges : List Edge) (edge : Edge) → AreBehind label edges → Lists edges edge → is_before label edge.label ≡ true
behind_listed label [] edge behind listed = absurd listed
behind_listed label (x ∷ edges) edge behind (inl here) = ap (λ (e : Edge). is_before label e.label) (sym here) ∙ behind.0
behind_listed label (x ∷ edges) edge behind (inr later) = behind_listed label edges edge behind.1 later

-- the order through each change

module _ (p : Edge → Bool) (f : Edge → Edge) (keeps : (e : Edge) → (f e).label ≡ e.label) where
  behind_change : (label : List ℕ) (edges : List Edge) → AreBehind label edges → AreBehind label (change_first p f edges)
  behind_change label [] behind = tt
  behind_change label (x ∷ edges) behind =
      elim (cases_Bool (p x)) [
        | inl passes ↦ subst (AreBehind label) (sym (change_yes p f x edges passes)) (ap (is_before label) (keeps x) ∙ behind.0, behind.1)
        | inr fails ↦ subst (AreBehind label) (sym (change_no p f x edges fails)) (behind.0, behind_change label edges behind.1)
      ]

  pub IsInOrder-change : (edges : List Edge) → IsInOrder edges → IsInOrder (change_first p f edges)
  IsInOrder-change [] order = tt
  IsInOrder-change (x ∷ edges) order =
      elim (cases_Bool (p x)) [
        | inl passes ↦
            subst IsInOrder (sym (change_yes p f x edges passes)) (
              subst (λ (l : List ℕ). AreBehind l edges) (sym (keeps x)) order.0,
              order.1,
            )
        | inr fails ↦
            subst IsInOrder (sym (change_no p f x edges fails)) (behind_change x.label edges order.0, IsInOrder-change edges order.1)
      ]

module _ (p : Edge → Bool) where
  behind_remove : (label : List ℕ) (edges : List Edge) → AreBehind label edges → AreBehind label (remove_first p edges)
  behind_remove label [] behind = tt
  behind_remove label (x ∷ edges) behind =
      elim (cases_Bool (p x)) [
        | inl passes ↦ subst (AreBehind label) (sym (remove_yes p x edges passes)) behind.1
        | inr fails ↦ subst (AreBehind label) (sym (remove_no p x edges fails)) (behind.0, behind_remove label edges behind.1)
      ]

  pub IsInOrder-remove : (edges : List Edge) → IsInOrder edges → IsInOrder (remove_first p edges)
  IsInOrder-remove [] order = tt
  IsInOrder-remove (x ∷ edges) order =
      elim (cases_Bool (p x)) [
        | inl passes ↦ subst IsInOrder (sym (remove_yes p x edges passes)) order.1
        | inr fails ↦
            subst IsInOrder (sym (remove_no p x edges fails)) (behind_remove x.label edges order.0, IsInOrder-remove edges order.1)
      ]

  behind_put :
      (label : List ℕ) (edge : Edge) (edges : List Edge) → AreBehind label edges
      → is_before label edge.label ≡ true → AreBehind label (put_before p edge edges)
  behind_put label edge [] behind itself = (itself, tt)
  behind_put label edge (x ∷ edges) behind itself =
      elim (cases_Bool (p x)) [
        | inl passes ↦ subst (AreBehind label) (sym (put_yes p edge x edges passes)) (itself, behind)
        | inr fails ↦ subst (AreBehind label) (sym (put_no p edge x edges fails)) (behind.0, behind_put label edge edges behind.1 itself)
      ]

pub IsInOrder-put : (edge : Edge) (edges : List Edge) → IsInOrder edges → IsApartFrom edge.label edges → IsInOrder (with_edge edge edges)
IsInOrder-put edge [] order apart = (tt, tt)
IsInOrder-put edge (x ∷ edges) order apart =
    elim (cases_Bool (is_above edge.label x)) [
      | inl above ↦
          let first = apart_above edge.label x.label apart.0.0 apart.0.1 above in
          subst IsInOrder (sym (put_yes (is_above edge.label) edge x edges above)) (
            (first, behind_trans edge.label x.label edges first order.0),
            order,
          )
      | inr below ↦
          let later = apart_below edge.label x.label apart.0.0 apart.0.1 below in
          subst IsInOrder (sym (put_no (is_above edge.label) edge x edges below)) (
            behind_put (is_above edge.label) x.label edge edges order.0 later,
            IsInOrder-put edge edges order.1 apart.1,
          )
    ]

-- the edges that aren't above a version come first
pub IsPartitionedBy-above : (version : List ℕ) (edges : List Edge) → IsInOrder edges → IsPartitionedBy (λ edge. not (is_above version edge)) edges
IsPartitionedBy-above version [] order i j d le lt passes = absurd (omega arith)
IsPartitionedBy-above version (x ∷ edges) order zero zero d le lt passes = passes
IsPartitionedBy-above version (x ∷ edges) order zero (suc j) d le lt passes =
    let later = get_or edges j d in
    let before = behind_listed x.label edges later order.0 (item_listed edges j d (omega arith)) in
    not_from_false _ (not_above_before x.label later.label version before (not-true _ passes))
IsPartitionedBy-above version (x ∷ edges) order (suc i) zero d le lt passes = absurd (omega arith)
IsPartitionedBy-above version (x ∷ edges) order (suc i) (suc j) d le lt passes =
    IsPartitionedBy-above version edges order.1 i j d (omega arith) (omega arith) passes

-- a label before an edge that leads on with the version isn't above it
not_above_found :
    (version label : List ℕ) (edges : List Edge) → AreBehind label edges
    → IsSome (find_edge edges version) → is_gt (version_cmp label version) ≡ false
not_above_found version label edges behind found = by_found (find_edge edges version) refl
  where
    by_found : (o : Option Edge) → find_edge edges version ≡ o → is_gt (version_cmp label version) ≡ false
    by_found None is = absurd (none_not_some (find_edge edges version) is found)
    by_found (Some edge) is =
        not_above_before label edge.label version (behind_listed label edges edge behind (found_listed (leads version) edges edge is))
        (not_above_prefix edge.label version (found_passes (leads version) edges edge is))

first_is_above :
    (version label : List ℕ) (edges : List Edge) → begins label version ≡ true
    → AreBehind label edges → position_or_len (is_above version) edges ≡ 0
first_is_above version label [] leads_on behind = refl
first_is_above version label (x ∷ edges) leads_on behind = place_yes (is_above version) x edges (above_behind label x.label version behind.0 leads_on)

-- the first edge above the version is the next one to the edge that leads on with it
pub above_next :
    (version : List ℕ) (edges : List Edge) → IsInOrder edges → IsSome (find_edge edges version)
    → position_or_len (is_above version) edges ≡ suc (position_or_len (leads version) edges)
above_next version [] order found = absurd (cc)
above_next version (x ∷ edges) order found =
    elim (cases_Bool (leads version x)) [
      | inl leads_on ↦
          place_no (is_above version) x edges (not_above_prefix x.label version leads_on)
          ∙ ap (λ k. suc k) (first_is_above version x.label edges leads_on order.0 ∙ sym (place_yes (leads version) x edges leads_on))
      | inr fails ↦
          let later : IsSome (find_edge edges version) = ap is_some (sym (find_no (leads version) x edges fails)) ∙ found in
          place_no (is_above version) x edges (not_above_found version x.label edges order.0 later)
          ∙ ap (λ k. suc k) (above_next version edges order.1 later ∙ sym (place_no (leads version) x edges fails))
    ]

none_if : (o : Option Edge) → (IsSome o → ⊥) → o ≡ None
none_if None nothing = refl
none_if (Some edge) nothing = absurd (nothing refl)

-- the edge at the place before the first above the version, as the code reads it, is the only one that may lead on with it
module _
    (version : List ℕ) (edges : List Edge) (order : IsInOrder edges) (above : ℕ)
    (above_is : above ≡ position_or_len (is_above version) edges) where
  -- something that is found stands there
  found_there :
      (edge : Edge) → edge ≡ get_or edges (above - 1) edge → above - 1 < length edges
      → IsSome (find_edge edges version) → find_edge edges version ≡ Some edge
  found_there edge read within found =
      found_is (leads version) edges (above - 1) edge (omega (arith, above_is, above_next version edges order found)) within read

  pub found_none : above ≡ 0 → find_edge edges version ≡ None
  found_none nothing = none_if (find_edge edges version) (λ found. omega (arith, nothing, above_is, above_next version edges order found))

  pub found_leads :
      (edge : Edge) → edge ≡ get_or edges (above - 1) edge → above - 1 < length edges
      → leads version edge ≡ true → find_edge edges version ≡ Some edge
  found_leads edge read within leads_on =
      let listed : Lists edges edge = subst (Lists edges) (sym read) (item_listed edges (above - 1) edge within) in
      found_there edge read within (listed_found (leads version) edges edge listed leads_on)

  pub found_fails :
      (edge : Edge) → edge ≡ get_or edges (above - 1) edge → above - 1 < length edges
      → leads version edge ≡ false → find_edge edges version ≡ None
  found_fails edge read within fails =
      none_if (find_edge edges version) (λ found. true-false _ (found_passes (leads version) edges edge (found_there edge read within found)) fails)
