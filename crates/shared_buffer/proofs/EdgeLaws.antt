-- Prefix-free edges of one node, through each change.
use Rattle.std.proofs.Common.{◌≡◌, ℕ, ◌<◌, Bool, true, false, cond, List, [], ◌∷◌, Option, Some, None, refl, ap, sym, ◌∙◌, subst, inl, inr, arith, count_by}
use Rattle.std.specs.Prelude.{IsSome}
use Rattle.std.proofs.lemmas.Bool.{cases_Bool}
use Rattle.std.proofs.lemmas.List.Sums.{sum_by-cons}
use Rattle.dewey_version.specs.Version.{begins}
use Rattle.dewey_version.proofs.VersionLaws.{begins_comparable}
use Rattle.shared_buffer.specs.Lists.{change_first, remove_first, put_before, Lists}
use Rattle.shared_buffer.specs.Edges.{leads, find_edge}
use Rattle.shared_buffer.specs.Graph.{IsApartFrom, IsPrefixFree}
use Rattle.shared_buffer.specs.declared.edges.Edge.{Edge}
use Rattle.shared_buffer.proofs.ListLaws.{found_listed, found_passes, listed_found, none_not_some, listed-within, change_yes, change_no, remove_yes, remove_no, put_yes, put_no}

pub true-false : {P : Type 0} (b : Bool) → b ≡ true → b ≡ false → P
true-false b is_true is_false = let e : true ≡ false = sym is_true ∙ is_false in absurd (cc)

-- an edge of these is apart from the label
pub apart_listed :
    (label : List ℕ) (edges : List Edge) (edge : Edge) → IsApartFrom label edges → Lists edges edge
    → (begins label edge.label ≡ false) × (begins edge.label label ≡ false)
apart_listed label [] edge apart listed = absurd listed
apart_listed label (x ∷ edges) edge apart (inl here) =
    subst (λ (e : Edge). (begins label e.label ≡ false) × (begins e.label label ≡ false)) here apart.0
apart_listed label (x ∷ edges) edge apart (inr later) = apart_listed label edges edge apart.1 later

-- a label that goes on from an edge's and from one apart from it: impossible
pub apart_from_common :
    (label : List ℕ) (edges : List Edge) (edge : Edge) (whole : List ℕ) → IsApartFrom label edges → Lists edges edge
    → begins label whole ≡ true → begins edge.label whole ≡ true → ⊥
apart_from_common label edges edge whole apart listed first second =
    let both = apart_listed label edges edge apart listed in
    elim (begins_comparable label edge.label whole first second) [
      | inl b ↦ true-false _ b both.0
      | inr b ↦ true-false _ b both.1
    ]

-- at most one of prefix-free edges leads on with a version
pub one_edge :
    (edges : List Edge) (a b : Edge) (version : List ℕ) → IsPrefixFree edges → Lists edges a → Lists edges b
    → begins a.label version ≡ true → begins b.label version ≡ true → a ≡ b
one_edge [] a b version free in_a in_b begins_a begins_b = absurd in_a
one_edge (x ∷ edges) a b version free (inl here) (inl here') begins_a begins_b = sym here ∙ here'
one_edge (x ∷ edges) a b version free (inl here) (inr later) begins_a begins_b =
    absurd (apart_from_common x.label edges b version free.0 later (ap (λ e. begins e.label version) here ∙ begins_a) begins_b)
one_edge (x ∷ edges) a b version free (inr later) (inl here) begins_a begins_b =
    absurd (apart_from_common x.label edges a version free.0 later (ap (λ e. begins e.label version) here ∙ begins_b) begins_a)
one_edge (x ∷ edges) a b version free (inr later) (inr later') begins_a begins_b = one_edge edges a b version free.1 later later' begins_a begins_b

-- an edge that leads on with the version is the one that is found
pub found_of_listed :
    (edges : List Edge) (a : Edge) (version : List ℕ) → IsPrefixFree edges → Lists edges a → begins a.label version ≡ true
    → find_edge edges version ≡ Some a
found_of_listed edges a version free listed leads_on = by_found (find_edge edges version) refl
  where
    by_found : (o : Option Edge) → find_edge edges version ≡ o → find_edge edges version ≡ Some a
    by_found None nothing =
        let present : IsSome (find_edge edges version) = listed_found (leads version) edges a listed leads_on in
        absurd (none_not_some (find_edge edges version) nothing present)
    by_found (Some b) found =
        found
        ∙ ap (λ e. Some e) (one_edge edges b a version free (found_listed (leads version) edges b found) listed
        (found_passes (leads version) edges b found) leads_on)

module _ (p : Edge → Bool) (f : Edge → Edge) (keeps : (e : Edge) → (f e).label ≡ e.label) where
  apart_change : (label : List ℕ) (edges : List Edge) → IsApartFrom label edges → IsApartFrom label (change_first p f edges)
  apart_change label [] apart = tt
  apart_change label (x ∷ edges) apart =
      elim (cases_Bool (p x)) [
        | inl passes ↦
            subst (IsApartFrom label) (sym (change_yes p f x edges passes)) (
              (ap (begins label) (keeps x) ∙ apart.0.0, ap (λ l. begins l label) (keeps x) ∙ apart.0.1),
              apart.1,
            )
        | inr fails ↦ subst (IsApartFrom label) (sym (change_no p f x edges fails)) (apart.0, apart_change label edges apart.1)
      ]

  pub IsPrefixFree-change : (edges : List Edge) → IsPrefixFree edges → IsPrefixFree (change_first p f edges)
  IsPrefixFree-change [] free = tt
  IsPrefixFree-change (x ∷ edges) free =
      elim (cases_Bool (p x)) [
        | inl passes ↦
            subst IsPrefixFree (sym (change_yes p f x edges passes)) (
              subst (λ (l : List ℕ). IsApartFrom l edges) (sym (keeps x)) free.0,
              free.1,
            )
        | inr fails ↦
            subst IsPrefixFree (sym (change_no p f x edges fails)) (apart_change x.label edges free.0, IsPrefixFree-change edges free.1)
      ]

module _ (p : Edge → Bool) where
  apart_remove : (label : List ℕ) (edges : List Edge) → IsApartFrom label edges → IsApartFrom label (remove_first p edges)
  apart_remove label [] apart = tt
  apart_remove label (x ∷ edges) apart =
      elim (cases_Bool (p x)) [
        | inl passes ↦ subst (IsApartFrom label) (sym (remove_yes p x edges passes)) apart.1
        | inr fails ↦ subst (IsApartFrom label) (sym (remove_no p x edges fails)) (apart.0, apart_remove label edges apart.1)
      ]

  pub IsPrefixFree-remove : (edges : List Edge) → IsPrefixFree edges → IsPrefixFree (remove_first p edges)
  IsPrefixFree-remove [] free = tt
  IsPrefixFree-remove (x ∷ edges) free =
      elim (cases_Bool (p x)) [
        | inl passes ↦ subst IsPrefixFree (sym (remove_yes p x edges passes)) free.1
        | inr fails ↦
            subst IsPrefixFree (sym (remove_no p x edges fails)) (apart_remove x.label edges free.0, IsPrefixFree-remove edges free.1)
      ]

-- an edge comes among them
module _ (p : Edge → Bool) where
  apart_put :
      (label : List ℕ) (edge : Edge) (edges : List Edge) → IsApartFrom label edges
      → (begins label edge.label ≡ false) × (begins edge.label label ≡ false) → IsApartFrom label (put_before p edge edges)
  apart_put label edge [] apart itself = (itself, tt)
  apart_put label edge (x ∷ edges) apart itself =
      elim (cases_Bool (p x)) [
        | inl passes ↦ subst (IsApartFrom label) (sym (put_yes p edge x edges passes)) (itself, apart)
        | inr fails ↦ subst (IsApartFrom label) (sym (put_no p edge x edges fails)) (apart.0, apart_put label edge edges apart.1 itself)
      ]

  pub IsPrefixFree-put :
      (edge : Edge) (edges : List Edge) → IsPrefixFree edges → IsApartFrom edge.label edges → IsPrefixFree (put_before p edge edges)
  IsPrefixFree-put edge [] free apart = (tt, tt)
  IsPrefixFree-put edge (x ∷ edges) free apart =
      elim (cases_Bool (p x)) [
        | inl passes ↦ subst IsPrefixFree (sym (put_yes p edge x edges passes)) (apart, free)
        | inr fails ↦
            subst IsPrefixFree (sym (put_no p edge x edges fails)) (
              apart_put x.label edge edges free.0 (apart.0.1, apart.0.0),
              IsPrefixFree-put edge edges free.1 apart.1,
            )
      ]

-- none of a list passes
pub count_by-none : (p : Edge → Bool) (edges : List Edge) → ((e : Edge) → Lists edges e → p e ≡ false) → count_by p edges ≡ 0
count_by-none p [] fails = refl
count_by-none p (x ∷ edges) fails =
    omega (
      arith,
      sum_by-cons (λ e. cond (p e) 1 0) x edges,
      ap {B = ℕ} (λ b. cond b 1 0) (fails x (inl refl)),
      count_by-none p edges (λ e listed. fails e (inr listed)),
    )

-- one of a list passes
pub count_by-some : (p : Edge → Bool) (edges : List Edge) (e : Edge) → Lists edges e → p e ≡ true → 0 < count_by p edges
count_by-some p edges e listed passes =
    omega (arith, listed-within (λ x. cond (p x) 1 0) edges e listed, ap {B = ℕ} (λ b. cond b 1 0) passes)
