-- Lists are the same or not, and how holds are counted.
use Rattle.std.proofs.Common.{◌≡◌, ◌≢◌, refl, sym, ◌∙◌, ap, ℕ, ◌+◌, ◌==◌, arith, true, false, cond, List, [], ◌∷◌, ◌++◌, ◌⊎◌, inl, inr}
use Rattle.std.proofs.lemmas.Bool.{cases_Bool, and_parts, and_from, and_left, and_right, eqb-true, eq-eqb, ne_eqb, false_from_ne_true}
use Rattle.std.proofs.lemmas.List.Sums.{sum_by-append}
use Rattle.cep_plan.specs.Entry.{Entry}
use Rattle.list_buffer.specs.Held.{Holder, is_entry, is_list, has, held_by, one_hold}

pub is_entry-same : (a b : Entry) → is_entry a b ≡ true → a ≡ b
is_entry-same a b h =
    let both = and_parts (a.stage == b.stage) (a.position == b.position) h in
    λ i. record { stage = eqb-true a.stage b.stage both.0 i; position = eqb-true a.position b.position both.1 i }

pub is_entry-refl : (x : Entry) → is_entry x x ≡ true
is_entry-refl x = and_from (x.stage == x.stage) (x.position == x.position) (eq-eqb x.stage x.stage refl) (eq-eqb x.position x.position refl)

pub is_list-same : (xs ys : List Entry) → is_list xs ys ≡ true → xs ≡ ys
is_list-same [] [] h = refl
is_list-same [] (y ∷ ys) h = let no : false ≡ true = h in absurd cc
is_list-same (x ∷ xs) [] h = let no : false ≡ true = h in absurd cc
is_list-same (x ∷ xs) (y ∷ ys) h =
    let both = and_parts (is_entry x y) (is_list xs ys) h in
    λ i. is_entry-same x y both.0 i ∷ is_list-same xs ys both.1 i

pub is_list-refl : (xs : List Entry) → is_list xs xs ≡ true
is_list-refl [] = refl
is_list-refl (x ∷ xs) = and_from (is_entry x x) (is_list xs xs) (is_entry-refl x) (is_list-refl xs)

pub is_list-other : (xs ys : List Entry) → xs ≢ ys → is_list xs ys ≡ false
is_list-other xs ys other = false_from_ne_true _ (λ h. other (is_list-same xs ys h))

pub cases_list : (xs ys : List Entry) → (xs ≡ ys) ⊎ (xs ≢ ys)
cases_list xs ys =
    elim (cases_Bool (is_list xs ys)) [
      | inl same ↦ inl (is_list-same xs ys same)
      | inr other ↦ inr
          (λ e. let yes : is_list xs ys ≡ true = sym (ap (is_list xs) e) ∙ is_list-refl xs in let no : true ≡ false = sym yes ∙ other in absurd cc)
    ]

-- one hold, of the holder's list at its node and of no other
pub one_hold-here : (holder : Holder) (list : List Entry) (node : ℕ) → holder.list ≡ list → holder.node ≡ node → one_hold holder list node ≡ 1
one_hold-here holder list node l n =
    ap {B = ℕ} (λ b. cond b 1 0)
    (and_from (is_list holder.list list) (holder.node == node) (sym (ap (is_list holder.list) l) ∙ is_list-refl holder.list) (eq-eqb holder.node node n))

pub one_hold-other_list : (holder : Holder) (list : List Entry) (node : ℕ) → holder.list ≢ list → one_hold holder list node ≡ 0
one_hold-other_list holder list node other = ap {B = ℕ} (λ b. cond b 1 0) (and_left _ _ (is_list-other holder.list list other))

pub one_hold-other_node : (holder : Holder) (list : List Entry) (node : ℕ) → holder.node ≢ node → one_hold holder list node ≡ 0
one_hold-other_node holder list node other = ap {B = ℕ} (λ b. cond b 1 0) (and_right _ _ (ne_eqb holder.node node other))

pub held_by-cons : (holder : Holder) (holders : List Holder) (list : List Entry) (node : ℕ)
    → held_by (holder ∷ holders) list node ≡ one_hold holder list node + held_by holders list node
held_by-cons holder holders list node =
    let split : held_by (holder ∷ holders) list node ≡ (0 + one_hold holder list node) + held_by holders list node =
    sum_by-append (λ h. cond (has list node h) 1 0) (holder ∷ []) holders in
    omega (arith, split)

pub held_by-append : (xs ys : List Holder) (list : List Entry) (node : ℕ) → held_by (xs ++ ys) list node ≡ held_by xs list node + held_by ys list node
held_by-append xs ys list node = sum_by-append (λ h. cond (has list node h) 1 0) xs ys
