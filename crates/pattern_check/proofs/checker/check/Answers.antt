use Rattle.std.proofs.Common.{◌≡◌, ◌∙◌, sym, ap, subst, arith}
use Rattle.std.specs.Prelude.{List, None}
use Rattle.std.proofs.lemmas.Grind.{common_steps}
use Rattle.cep_event.specs.declared.event.Field.{Field}
use Rattle.pattern_rules.specs.Fields.{known_fields}
use Rattle.pattern_rules.specs.Rules.{fault_with}
use Rattle.pattern_check.specs.Plan.{plan_with}
use Rattle.pattern_check.specs.Checked.{IsChecked}
use Rattle.pattern_check.specs.Sound.{HasSoundExpressions}
use Rattle.pattern_check.specs.Names.{HasDistinctNames}
use Rattle.pattern_check.specs.Places.{IsPlaced}
use Rattle.pattern_check.specs.Sorts.{HasSorts}
use Rattle.pattern_check.specs.FieldNumbers.{HasNumberedFields}
use Rattle.pattern_check.proofs.KeptRules.{few_stages}
use Rattle.pattern_check.proofs.CheckedLaws.{plan_checked, stage_count}
use Rattle.pattern_check.proofs.ExpressionLaws.{plan_sound}
use Rattle.pattern_check.proofs.NameLaws.{plan_named}
use Rattle.pattern_check.proofs.LaterLaws.{plan_placed}
use Rattle.pattern_check.proofs.FieldNumberLaws.{plan_numbered}
use Rattle.pattern_check.proofs.SortedLaws.{plan_sorted}
use Rattle.pattern_check.proofs.checker.check.Goals as goal

pub plan_with-requires-clause-few : goal.plan_with-requires-clause-few
plan_with-requires-clause-few c =
    let sound : fault_with c.in_ok-fields.fields c.args.file.now ≡ None = first_of (cc, grind (arith, common_steps)) in
    few_stages c.in_ok-fields.fields c.args.file.now sound

pub returns-clause-checked : goal.returns-clause-checked
returns-clause-checked c =
    let sound : fault_with c.in_ok-fields.fields c.args.file.now ≡ None = first_of (cc, grind (arith, common_steps)) in
    subst IsChecked (sym c.in_ok-plan-in-None.ensures) (plan_checked c.in_ok-fields.fields c.args.file.now c.requires sound)

pub returns-clause-sound : goal.returns-clause-sound
returns-clause-sound c =
    let same : c.in_ok-fields.fields ≡ known_fields c.args.file.now.types = first_of (cc, grind (arith, common_steps)) in
    let kept : fault_with c.in_ok-fields.fields c.args.file.now ≡ None = first_of (cc, grind (arith, common_steps)) in
    let sound = subst (λ (fields : List Field). fault_with fields c.args.file.now ≡ None) same kept in
    subst HasSoundExpressions (sym (c.in_ok-plan-in-None.ensures ∙ ap (λ fields. plan_with fields c.args.file.now) same))
    (plan_sound c.args.file.now c.requires sound (stage_count (known_fields c.args.file.now.types) c.args.file.now c.requires sound))

pub returns-clause-named : goal.returns-clause-named
returns-clause-named c =
    let sound : fault_with c.in_ok-fields.fields c.args.file.now ≡ None = first_of (cc, grind (arith, common_steps)) in
    subst HasDistinctNames (sym c.in_ok-plan-in-None.ensures) (plan_named c.in_ok-fields.fields c.args.file.now sound)

pub returns-clause-placed : goal.returns-clause-placed
returns-clause-placed c =
    let same : c.in_ok-fields.fields ≡ known_fields c.args.file.now.types = first_of (cc, grind (arith, common_steps)) in
    let kept : fault_with c.in_ok-fields.fields c.args.file.now ≡ None = first_of (cc, grind (arith, common_steps)) in
    let sound = subst (λ (fields : List Field). fault_with fields c.args.file.now ≡ None) same kept in
    subst IsPlaced (sym (c.in_ok-plan-in-None.ensures ∙ ap (λ fields. plan_with fields c.args.file.now) same)) (plan_placed c.args.file.now c.requires sound)

pub returns-clause-numbered : goal.returns-clause-numbered
returns-clause-numbered c =
    let same : c.in_ok-fields.fields ≡ known_fields c.args.file.now.types = first_of (cc, grind (arith, common_steps)) in
    let kept : fault_with c.in_ok-fields.fields c.args.file.now ≡ None = first_of (cc, grind (arith, common_steps)) in
    let sound = subst (λ (fields : List Field). fault_with fields c.args.file.now ≡ None) same kept in
    subst HasNumberedFields (sym (c.in_ok-plan-in-None.ensures ∙ ap (λ fields. plan_with fields c.args.file.now) same))
    (plan_numbered c.args.file.now c.requires sound)

pub returns-clause-sorted : goal.returns-clause-sorted
returns-clause-sorted c =
    let same : c.in_ok-fields.fields ≡ known_fields c.args.file.now.types = first_of (cc, grind (arith, common_steps)) in
    let kept : fault_with c.in_ok-fields.fields c.args.file.now ≡ None = first_of (cc, grind (arith, common_steps)) in
    let sound = subst (λ (fields : List Field). fault_with fields c.args.file.now ≡ None) same kept in
    subst HasSorts (sym (c.in_ok-plan-in-None.ensures ∙ ap (λ fields. plan_with fields c.args.file.now) same)) (plan_sorted c.args.file.now c.requires sound)
