-- The stages and the last of taken events, and gaps event by event.
use Rattle.std.proofs.Common.{◌≡◌, refl, sym, ◌∙◌, ap, ℕ, suc, ◌+◌, ◌-◌, ◌<◌, arith, Bool, true, false, cond, ◌&&◌, List, [], ◌∷◌, map, length}
use Rattle.std.specs.Prelude.{◌==◌, filter, count_by, Option, Some, None, option_map}
use Rattle.std.specs.List.{last_or, list_all, range_with_len}
use Rattle.std.proofs.lemmas.List.Sums.{length-filter}
use Rattle.cep_event.specs.declared.event.Event.{Event}
use Rattle.cep_plan.specs.declared.item.Taken.{Taken}
use Rattle.cep_plan.specs.declared.plan.Plan.{Plan}
use Rattle.cep_plan.specs.Entry.{stages_in, last_taken}
use Rattle.cep_plan.specs.Follow.{count_for}
use Rattle.cep_plan.specs.Gap.{spares, gap_spares}
use Rattle.cep_audit.specs.Asked.{are_spared_from}

pub last_map : {X Y : Type 0} (f : X → Y) (o : Option X) (xs : List X) → last_or (option_map f o) (map f xs) ≡ option_map f (last_or o xs)
last_map f o [] = refl
last_map f o (x ∷ xs) = last_map f (Some x) xs

pub last_stage : (taken : List Taken) → last_or None (stages_in taken) ≡ option_map (λ t. t.stage) (last_taken taken)
last_stage taken = last_map (λ (t : Taken). t.stage) None taken

same_lengths : (stage : ℕ) (taken : List Taken) → length (filter (λ s. s == stage) (stages_in taken)) ≡ length (filter (λ t. t.stage == stage) taken)
same_lengths stage [] = refl
same_lengths stage (t ∷ taken) = kept (t.stage == stage) (same_lengths stage taken) where
  kept : (b : Bool) → length (filter (λ s. s == stage) (stages_in taken)) ≡ length (filter (λ t. t.stage == stage) taken)
      → length (cond b (t.stage ∷ filter (λ s. s == stage) (stages_in taken)) (filter (λ s. s == stage) (stages_in taken)))
      ≡ length (cond b (t ∷ filter (λ t. t.stage == stage) taken) (filter (λ t. t.stage == stage) taken))
  kept true h = ap suc h
  kept false h = h

pub count_stages : (stage : ℕ) (taken : List Taken) → count_for stage (stages_in taken) ≡ count_by (λ t. t.stage == stage) taken
count_stages stage taken =
    sym (length-filter (λ s. s == stage) (stages_in taken)) ∙ same_lengths stage taken ∙ length-filter (λ (t : Taken). t.stage == stage) taken

module _ (plan : Plan) (taken : List Taken) (before stage : ℕ) where
  later_spared : (gap : List Event) → list_all (spares plan taken before stage false) gap ≡ are_spared_from plan taken before stage false gap
  later_spared [] = refl
  later_spared (event ∷ gap) = ap (λ b. spares plan taken before stage false event && b) (later_spared gap)

  pub gap_spares_from : (gap : List Event) → gap_spares plan taken before stage gap ≡ are_spared_from plan taken before stage true gap
  gap_spares_from [] = refl
  gap_spares_from (event ∷ gap) = ap (λ b. spares plan taken before stage true event && b) (later_spared gap)

counted : (from n : ℕ) → (k : ℕ) → n ≡ suc k → range_with_len from n ≡ from ∷ range_with_len (from + 1) k
counted from n k e = ap (range_with_len from) e

-- the first of a range
pub range-first : (from to : ℕ) → from < to → range_with_len from (to - from) ≡ from ∷ range_with_len (from + 1) (to - (from + 1))
range-first from to lt = counted from (to - from) (to - (from + 1)) (omega (arith, lt))
