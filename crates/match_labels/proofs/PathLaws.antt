-- What a label says of the way to its list: it begins with the label of each front of the list, and with no label of another list that ends where the
-- front ends. Later events change nothing of it.
use Rattle.std.proofs.Common.{◌≡◌, ◌≢◌, refl, sym, ◌∙◌, ap, ℕ, ◌+◌, ◌≤◌, ◌<◌, arith, Bool, true, false, cond, List, [], ◌∷◌, ◌++◌, length, append_assoc, zero, suc, append-nil, Some, None}
use Rattle.std.specs.List.{last_or, count_by, range_with_len}
use Rattle.nfa_compile.specs.Automaton.{is_chaining, mode_behind}
use Rattle.std.proofs.lemmas.Bool.{eq-eqb, ne_eqb}
use Rattle.std.proofs.lemmas.List.Sums.{sum_by-append}
use Rattle.cep_event.specs.declared.event.Event.{Event}
use Rattle.cep_plan.specs.declared.plan.Plan.{Plan}
use Rattle.cep_plan.specs.Entry.{Entry, last_entry, stages_of}
use Rattle.cep_plan.specs.Partial.{is_partial}
use Rattle.cep_plan.proofs.LocalLaws.{AreAmong, AreAmong-push, is_partial-append}
use Rattle.dewey_version.specs.Version.{begins}
use Rattle.match_labels.specs.Label.{Mark, earlier_takes, stays, branches_in, branches_below, mark_behind, mark_from, mark_of, no_mark, label_of}
use Rattle.match_labels.proofs.LabelLaws.{Differ, Grows, label-grows, labels_differ}

-- ---- labels as versions

pub begins-front : (front more : List ℕ) → begins front (front ++ more) ≡ true
begins-front [] more = refl
begins-front (digit ∷ front) more = rw (eq-eqb digit digit refl) (begins-front front more)

differ-begins : (front : List ℕ) (x y : ℕ) (behind_x behind_y : List ℕ) → x ≢ y → begins (front ++ x ∷ behind_x) (front ++ y ∷ behind_y) ≡ false
differ-begins [] x y behind_x behind_y unlike = rw (ne_eqb x y unlike) refl
differ-begins (digit ∷ front) x y behind_x behind_y unlike = rw (eq-eqb digit digit refl) (differ-begins front x y behind_x behind_y unlike)

-- labels that differ don't begin one another
pub begins-no : {a b : List ℕ} → Differ a b → begins a b ≡ false
begins-no d = (λ i. begins (d.a_is i) (d.b_is i)) ∙ differ-begins d.front d.x d.y d.behind_x d.behind_y d.unlike

-- neither begins a longer label of the other
pub differ-more : {a b c : List ℕ} → Differ a b → Grows b c → Differ a c
differ-more d grows = record {
  front = d.front;
  x = d.x;
  y = d.y;
  behind_x = d.behind_x;
  behind_y = d.behind_y ++ grows.0;
  unlike = d.unlike;
  a_is = d.a_is;
  b_is = grows.1 ∙ ap (λ (l : List ℕ). l ++ grows.0) d.b_is ∙ append_assoc d.front (d.y ∷ d.behind_y) grows.0;
}

-- ---- fronts

mark_from-append : (plan : Plan) (events : List Event) (list : List Entry) (mark : Mark) (xs ys : List Entry)
    → mark_from plan events list mark (xs ++ ys) ≡ mark_from plan events (list ++ xs) (mark_from plan events list mark xs) ys
mark_from-append plan events list mark [] ys = ap (λ l. mark_from plan events l mark ys) (sym (append-nil list))
mark_from-append plan events list mark (x ∷ xs) ys =
    mark_from-append plan events (list ++ x ∷ []) (mark_behind plan events list mark x) xs ys
    ∙ ap (λ l. mark_from plan events l (mark_from plan events list mark (x ∷ xs)) ys) (append_assoc list (x ∷ []) xs)

-- the mark of a list with one more entry
pub mark_of-push : (plan : Plan) (events : List Event) (list : List Entry) (next : Entry)
    → mark_of plan events (list ++ next ∷ []) ≡ mark_behind plan events list (mark_of plan events list) next
mark_of-push plan events list next = mark_from-append plan events [] no_mark list (next ∷ [])

-- the label of a list begins that of the list with more entries
pub label_of-grows : (plan : Plan) (events : List Event) (list later : List Entry) → Grows (label_of plan events list) (label_of plan events (list ++ later))
label_of-grows plan events list later =
    let rest = label-grows plan events list (mark_of plan events list) later in
    (rest.0, ap (λ (m : Mark). m.label) (mark_from-append plan events [] no_mark list later) ∙ rest.1)

-- The label of a list with more entries begins with the label of the list, and with that of no other partial match that ends at the same entry.
pub front_begins : (plan : Plan) (events : List Event) (list later : List Entry)
    → begins (label_of plan events list) (label_of plan events (list ++ later)) ≡ true
front_begins plan events list later =
    let grows = label_of-grows plan events list later in
    ap (begins (label_of plan events list)) grows.1 ∙ begins-front (label_of plan events list) grows.0

pub other_begins_not : (plan : Plan) (events : List Event) (other list later : List Entry) (end : Entry) → other ≢ list
    → is_partial plan events other ≡ true → last_entry other ≡ Some end → is_partial plan events list ≡ true → last_entry list ≡ Some end
    → begins (label_of plan events other) (label_of plan events (list ++ later)) ≡ false
other_begins_not plan events other list later end apart po eo pl el =
    begins-no (differ-more (labels_differ plan events other list end apart po eo pl el) (label_of-grows plan events list later))

-- ---- later events

pub counts-same : (p q : ℕ → Bool) (from n : ℕ) → ((k : ℕ) → from ≤ k → k < from + n → p k ≡ q k)
    → count_by p (range_with_len from n) ≡ count_by q (range_with_len from n)
counts-same p q from zero same = refl
counts-same p q from (suc n) same =
    let later = counts-same p q (from + 1) n (λ k above below. same k (omega (arith, above)) (omega (arith, below))) in
    split p ∙ (λ i. (0 + cond (same from (omega arith) (omega arith) i) 1 0) + later i) ∙ sym (split q) where
      split : (p : ℕ → Bool) → count_by p (range_with_len from (suc n)) ≡ (0 + cond (p from) 1 0) + count_by p (range_with_len (from + 1) n)
      split p = sum_by-append (λ x. cond (p x) 1 0) (from ∷ []) (range_with_len (from + 1) n)

earlier_takes-append : (plan : Plan) (events more : List Event) (list : List Entry) (next : Entry) → AreAmong events list → next.position < length events
    → earlier_takes plan (events ++ more) list next ≡ earlier_takes plan events list next
unfolding earlier_takes
earlier_takes-append plan events more list next among lt =
    counts-same _ _ 0 next.position (λ k above below.
    is_partial-append plan events more (list ++ record { stage = next.stage; position = k } ∷ [])
    (AreAmong-push events list (record { stage = next.stage; position = k }) among (omega (arith, below, lt))))

mark_behind-append : (plan : Plan) (events more : List Event) (list : List Entry) (mark : Mark) (next : Entry) → AreAmong events list
    → next.position < length events
    → mark_behind plan (events ++ more) list mark next ≡ mark_behind plan events list mark next
unfolding mark_behind
mark_behind-append plan events more list mark next among lt =
    ap (λ (n : ℕ). mark_with n) (earlier_takes-append plan events more list next among lt) where
      mark_with : ℕ → Mark
      mark_with n =
          cond (stays plan (stages_of list) next.stage)
          (record { label = mark.label; next = mark.next + branches_in plan (stages_of list) })
          (record {
            label =
                mark.label
                ++ (mark.next + branches_below plan (stages_of list) next.stage) ∷ cond
                (is_chaining (mode_behind plan (last_or None (stages_of list)) next.stage)) [] (n ∷ []);
            next = 0;
          })

mark_from-later : (plan : Plan) (events more : List Event) (list : List Entry) (mark : Mark) (later : List Entry) → AreAmong events list → AreAmong events later
    → mark_from plan (events ++ more) list mark later ≡ mark_from plan events list mark later
mark_from-later plan events more list mark [] among rest = refl
mark_from-later plan events more list mark (next ∷ later) among rest =
    ap (λ (m : Mark). mark_from plan (events ++ more) (list ++ next ∷ []) m later) (mark_behind-append plan events more list mark next among rest.0)
    ∙ mark_from-later plan events more (list ++ next ∷ []) (mark_behind plan events list mark next) later (AreAmong-push events list next among rest.0) rest.1

-- the mark of a list stays when more events come
pub mark_of-append : (plan : Plan) (events more : List Event) (list : List Entry) → AreAmong events list
    → mark_of plan (events ++ more) list ≡ mark_of plan events list
mark_of-append plan events more list among = mark_from-later plan events more [] no_mark list tt among
