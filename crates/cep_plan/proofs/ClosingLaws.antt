-- A list that waits for the end when its limit is reached is a match among all events, whatever comes later.
use Rattle.std.proofs.Common.{◌≡◌, refl, ◌∙◌, ap, ℕ, ℤ, ◌+◌, cond, true, false, List, [], ◌∷◌, ◌++◌, length, arith}
use Rattle.std.specs.Prelude.{Some}
use Rattle.std.specs.List.{AllByRecursion as Each}
use Rattle.std.specs.Option.{option_map_or}
use Rattle.std.proofs.lemmas.Bool.{and_parts, and_from, or_right}
use Rattle.std.proofs.lemmas.List.Sums.{sum_by-cons}
use Rattle.cep_event.specs.declared.event.Event.{Event}
use Rattle.cep_plan.specs.declared.plan.Plan.{Plan}
use Rattle.cep_plan.specs.Entry.{Entry, taken_of, stages_of}
use Rattle.cep_plan.specs.Follow.{end_stage, may_follow, is_full}
use Rattle.cep_plan.specs.Gap.{gap_holds}
use Rattle.cep_plan.specs.Limit.{limit_of, is_below_limit}
use Rattle.cep_plan.specs.Partial.{is_partial, is_match, is_open_for, count_before, closes}
use Rattle.cep_plan.proofs.LocalLaws.{AreAmong, taken_of-append, is_partial-append, gap_holds-append}

count-none : (limit : ℤ) (more : List Event) → Each (λ e. is_below_limit (Some limit) e.ts ≡ false) more → count_before more limit ≡ 0
count-none limit [] h = refl
count-none limit (e ∷ more) h = sum_by-cons (λ (e : Event). cond {A = ℕ} (is_below_limit (Some limit) e.ts) 1 0) e more
    ∙ (λ i. cond {A = ℕ} (h.0 i) 1 0 + count-none limit more h.1 i)

count-all : (limit : ℤ) (events more : List Event) → Each (λ e. is_below_limit (Some limit) e.ts ≡ true) events
    → Each (λ e. is_below_limit (Some limit) e.ts ≡ false) more → count_before (events ++ more) limit ≡ length events
count-all limit [] more h k = count-none limit more k
count-all limit (e ∷ events) more h k =
    let one : 1 + length events ≡ length (e ∷ events) = omega arith in
    sum_by-cons (λ (e : Event). cond {A = ℕ} (is_below_limit (Some limit) e.ts) 1 0) e (events ++ more)
    ∙ (λ i. cond {A = ℕ} (h.0 i) 1 0 + count-all limit events more h.1 k i) ∙ one

pub closed-is_match : (plan : Plan) (events more : List Event) (list : List Entry) (limit : ℤ) → AreAmong events list → is_partial plan events list ≡ true
    → is_open_for plan events list (end_stage plan) ≡ true
    → limit_of plan (taken_of events list) ≡ Some limit → Each (λ e. is_below_limit (Some limit) e.ts ≡ true) events
    → Each (λ e. is_below_limit (Some limit) e.ts ≡ false) more → is_match plan (events ++ more) list ≡ true
unfolding is_match
closed-is_match plan events more list limit among partial waiting is below above =
    let parts = and_parts (may_follow plan (stages_of list) (end_stage plan)) (gap_holds plan events list (end_stage plan) (length events)) waiting in
    let gap = gap_holds-append plan events more list among (end_stage plan) (length events) (omega arith) ∙ parts.1 in
    let at_limit : option_map_or (λ l. gap_holds plan (events ++ more) list (end_stage plan) (count_before (events ++ more) l))
    (limit_of plan (taken_of (events ++ more) list)) false ≡ true =
    ap (λ o. option_map_or (λ l. gap_holds plan (events ++ more) list (end_stage plan) (count_before (events ++ more) l)) o false)
    (ap (limit_of plan) (taken_of-append events more list among) ∙ is)
    ∙ ap (gap_holds plan (events ++ more) list (end_stage plan)) (count-all limit events more below above) ∙ gap in
    and_from _ _ (is_partial-append plan events more list among ∙ partial)
    (or_right (is_full plan (stages_of list)) (closes plan (events ++ more) list) (and_from _ _ parts.0 at_limit))
