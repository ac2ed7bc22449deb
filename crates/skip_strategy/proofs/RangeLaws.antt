-- Ranges of positions, and the last event for a stage.
use Rattle.std.proofs.Common.{◌≡◌, sym, ◌∙◌, ap, ℕ, ◌+◌, ◌<◌, ◌≤◌, arith, Bool, true, false, ◌&&◌, ◌==◌, cond, List, [], ◌∷◌, ◌++◌, ◌⊎◌, inl, inr}
use Rattle.std.specs.Prelude.{nat_le, nat_lt, Some, None, option_map}
use Rattle.std.proofs.lemmas.Bool.{cases_order, cases_lt, lt-ltb, le-ltb, lt-leb, le-leb, eq-eqb, ne_eqb}
use Rattle.std.proofs.lemmas.List.{append-nil}
use Rattle.std.proofs.lemmas.List.Elements.{filter-append}
use Rattle.cep_plan.specs.declared.item.Taken.{Taken}
use Rattle.cep_plan.specs.Skipping.{end_of, entries_for}
use Rattle.live_laws.specs.Starts.{is_from}
use Rattle.live_laws.proofs.LastLaws.{last_or-push}
use Rattle.skip_strategy.specs.Range.{newer}

-- no position is in an empty range
pub empty_range : (from to position : ℕ) → to ≤ from → false ≡ is_from from to position
empty_range from to position le = by_order (cases_lt position from) where
  by_order : (position < from) ⊎ (from ≤ position) → false ≡ is_from from to position
  by_order (inl lt) = λ i. sym (lt-leb from position lt) i && nat_lt position to
  by_order (inr above) = λ i. sym (le-leb from position above) i && sym (le-ltb position to (omega (arith, le, above))) i

-- the range of one position
pub range_of_one : (from position : ℕ) → is_from from (from + 1) position ≡ (from == position)
range_of_one from position = by_order (cases_order from position) where
  by_order : (from ≡ position) ⊎ ((from < position) ⊎ (position < from)) → is_from from (from + 1) position ≡ (from == position)
  by_order (inl e) = (λ i. le-leb from position (omega (arith, e)) i && lt-ltb position (from + 1) (omega (arith, e)) i) ∙ sym (eq-eqb from position e)
  by_order (inr (inl lt)) = (λ i. le-leb from position (omega (arith, lt)) i && le-ltb position (from + 1) (omega (arith, lt)) i)
      ∙ sym (ne_eqb from position (λ e. omega (arith, e, lt)))
  by_order (inr (inr lt)) = (λ i. lt-leb from position lt i && nat_lt position (from + 1)) ∙ sym (ne_eqb from position (λ e. omega (arith, e, lt)))

-- the range with its end
pub range_through : (from to position : ℕ) → is_from from (to + 1) position ≡ (nat_le from position && nat_le position to)
range_through from to position = ap (λ b. nat_le from position && b) (by_order (cases_lt to position)) where
  by_order : (to < position) ⊎ (position ≤ to) → nat_lt position (to + 1) ≡ nat_le position to
  by_order (inl lt) = le-ltb position (to + 1) (omega (arith, lt)) ∙ sym (lt-leb position to lt)
  by_order (inr le) = lt-ltb position (to + 1) (omega (arith, le)) ∙ sym (le-leb position to le)

-- the last event for a stage, with one more
pub newer_behind : (stage : ℕ) (list : List Taken) (next : Taken)
    → newer stage (end_of (entries_for stage list)) next ≡ end_of (entries_for stage (list ++ next ∷ []))
newer_behind stage list next = by_test (next.stage == stage) ∙ sym (ap end_of (filter-append (λ (t : Taken). t.stage == stage) list (next ∷ []))) where
  by_test : (b : Bool) → cond b (Some next.position) (end_of (entries_for stage list)) ≡ end_of (entries_for stage list ++ cond b (next ∷ []) [])
  by_test true = sym (ap (option_map (λ (t : Taken). t.position)) (last_or-push None (entries_for stage list) next))
  by_test false = sym (ap end_of (append-nil (entries_for stage list)))
