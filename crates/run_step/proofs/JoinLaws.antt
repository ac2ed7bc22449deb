-- More runs in one of the groups.
use Rattle.std.proofs.Common.{◌≡◌, refl, sym, ◌∙◌, ap, subst, ℕ, zero, suc, ◌<◌, arith, List, [], ◌∷◌, ◌++◌, append_assoc, length, map, get_or, set}
use Rattle.std.specs.List.Sorted.{IsPermutation}
use Rattle.std.proofs.lemmas.List.{append-nil, map-append}
use Rattle.std.proofs.lemmas.Grind.{flat_map-append}
use Rattle.std.proofs.lemmas.List.Sorted.{IsPermutation-refl, IsPermutation-trans, IsPermutation-append_left, IsPermutation-append_right, IsPermutation-append_comm, IsPermutation-map}
use Rattle.run_step.specs.declared.runs.Run.{Run}
use Rattle.run_step.specs.declared.begun.Fresh.{Fresh}
use Rattle.run_step.specs.Content.{Staged, Grouped, staged, in_group, in_groups}
use Rattle.run_step.specs.Beginning.{fresh_run}

-- the runs of a group with others that wait for its stage
with_stage : (stage : ℕ) (old group : Grouped) (runs : List Run) → old.stage ≡ stage → group.stage ≡ stage
    → IsPermutation (old.runs ++ runs) group.runs → IsPermutation (in_group old ++ map (staged stage) runs) (in_group group)
with_stage stage old group runs of made moved =
    subst (λ (s : ℕ). IsPermutation (map (staged s) old.runs ++ map (staged stage) runs) (in_group group)) (sym of)
    (subst (λ (s : ℕ). IsPermutation (map (staged stage) old.runs ++ map (staged stage) runs) (map (staged s) group.runs)) (sym made)
    (subst (λ l. IsPermutation l (map (staged stage) group.runs)) (map-append (staged stage) old.runs runs)
    (IsPermutation-map (staged stage) (old.runs ++ runs) group.runs moved)))

pub put-new : (groups : List Grouped) (stage : ℕ) (runs : List Run) (old group : Grouped) → old ≡ record { stage = stage; runs = [] }
    → group.stage ≡ old.stage → IsPermutation (old.runs ++ runs) group.runs
    → IsPermutation (in_groups groups ++ map (staged stage) runs) (in_groups (groups ++ group ∷ []))
put-new groups stage runs old group empty made moved =
    let of = ap (λ (g : Grouped). g.stage) empty in
    subst (IsPermutation (in_groups groups ++ map (staged stage) runs))
    (sym (flat_map-append in_group groups (group ∷ []) ∙ ap (λ r. in_groups groups ++ r) (append-nil (in_group group))))
    (IsPermutation-append_right (in_groups groups) (map (staged stage) runs) (in_group group)
    (with_stage stage (record { stage = stage; runs = [] }) group runs refl (made ∙ of)
    (subst (λ (g : Grouped). IsPermutation (g.runs ++ runs) group.runs) empty moved)))

put-block : (groups : List Grouped) (i : ℕ) (old group : Grouped) (more : List Staged) → i < length groups → old ≡ get_or groups i old
    → IsPermutation (in_group old ++ more) (in_group group) → IsPermutation (in_groups groups ++ more) (in_groups (set groups i group))
put-block [] i old group more within is moved = absurd (omega (arith, within))
put-block (g ∷ groups) zero old group more within is moved =
    subst (λ l. IsPermutation l (in_group group ++ in_groups groups)) (sym (append_assoc (in_group g) (in_groups groups) more))
    (IsPermutation-trans (in_group g ++ (in_groups groups ++ more)) (in_group g ++ (more ++ in_groups groups)) (in_group group ++ in_groups groups)
    (IsPermutation-append_right (in_group g) (in_groups groups ++ more) (more ++ in_groups groups) (IsPermutation-append_comm (in_groups groups) more))
    (subst (λ l. IsPermutation l (in_group group ++ in_groups groups)) (append_assoc (in_group g) more (in_groups groups))
    (IsPermutation-append_left (in_groups groups) (in_group g ++ more) (in_group group)
    (subst (λ (h : Grouped). IsPermutation (in_group h ++ more) (in_group group)) is moved))))
put-block (g ∷ groups) (suc i) old group more within is moved =
    subst (λ l. IsPermutation l (in_group g ++ in_groups (set groups i group))) (sym (append_assoc (in_group g) (in_groups groups) more))
    (IsPermutation-append_right (in_group g) (in_groups groups ++ more) (in_groups (set groups i group))
    (put-block groups i old group more (omega (arith, within)) is moved))

pub put-at : (groups : List Grouped) (i stage : ℕ) (old group : Grouped) (runs : List Run) → i < length groups → old ≡ get_or groups i old
    → ((d : Grouped) → (get_or groups i d).stage ≡ stage) → group.stage ≡ old.stage
    → IsPermutation (old.runs ++ runs) group.runs → IsPermutation (in_groups groups ++ map (staged stage) runs) (in_groups (set groups i group))
put-at groups i stage old group runs within is named made moved =
    let of = ap (λ (g : Grouped). g.stage) is ∙ named old in
    put-block groups i old group (map (staged stage) runs) within is (with_stage stage old group runs of (made ∙ of) moved)

-- ---- one after the other

pub put-none : (before : List Staged) (fresh : List Fresh) → length fresh ≡ 0 → IsPermutation (before ++ map fresh_run fresh) before
put-none before [] none = subst (λ l. IsPermutation l before) (sym (append-nil before)) (IsPermutation-refl before)
put-none before (f ∷ fresh) none = absurd (omega (arith, none))

pub put-run : (before so_far made : List Staged) (yielded : List Fresh) (one : Fresh) → IsPermutation (before ++ map fresh_run yielded) so_far
    → IsPermutation (so_far ++ fresh_run one ∷ []) made → IsPermutation (before ++ map fresh_run (yielded ++ one ∷ [])) made
put-run before so_far made yielded one old put =
    subst (λ l. IsPermutation l made) (append_assoc before (map fresh_run yielded) (fresh_run one ∷ [])
    ∙ ap (λ l. before ++ l) (sym (map-append fresh_run yielded (one ∷ []))))
    (IsPermutation-trans ((before ++ map fresh_run yielded) ++ fresh_run one ∷ []) (so_far ++ fresh_run one ∷ []) made
    (IsPermutation-append_left (fresh_run one ∷ []) (before ++ map fresh_run yielded) so_far old) put)

pub put-end : (before so_far made : List Staged) (runs all : List Fresh) → IsPermutation runs all
    → IsPermutation (before ++ map fresh_run all) so_far → IsPermutation so_far made → IsPermutation (before ++ map fresh_run runs) made
put-end before so_far made runs all sorted old put =
    IsPermutation-trans (before ++ map fresh_run runs) (before ++ map fresh_run all) made
    (IsPermutation-append_right before (map fresh_run runs) (map fresh_run all) (IsPermutation-map fresh_run runs all sorted))
    (IsPermutation-trans (before ++ map fresh_run all) so_far made old put)

pub put-behind : (before others : List Staged) (stage named : ℕ) (run : Run) (runs made : List Run)
    → IsPermutation before (others ++ map (staged named) runs) → named ≡ stage → made ≡ runs ++ run ∷ []
    → IsPermutation (before ++ staged stage run ∷ []) (others ++ map (staged named) made)
put-behind before others stage named run runs made moved same is =
    subst (λ (s : ℕ). IsPermutation (before ++ staged s run ∷ []) (others ++ map (staged named) made)) same
    (subst (IsPermutation (before ++ staged named run ∷ []))
    (append_assoc others (map (staged named) runs) (staged named run ∷ [])
    ∙ ap (λ l. others ++ l) (sym (map-append (staged named) runs (run ∷ [])) ∙ ap (map (staged named)) (sym is)))
    (IsPermutation-append_left (staged named run ∷ []) before (others ++ map (staged named) runs) moved))
