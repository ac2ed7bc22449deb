use Rattle.std.proofs.Common.{◌∙◌, ◌+◌, ◌-◌, ◌++◌, List, ℕ, ap, arith, refl, sym}
use Rattle.cep_load.specs.Records.{record_by}
use Rattle.cep_load.specs.Lines.{line_of, lines_from}
use Rattle.cep_load.proofs.LineLaws.{lines-next, lines-none, not-none, told-next}
use Rattle.cep_load.proofs.generated.Generated.next_line.Goals as goal

pub returns-then-self-clause-none : goal.returns-then-self-clause-none
returns-then-self-clause-none c =
    let i = c.self.inside in
    let none = lines-none i.types.now (i.count - i.told) (i.told + 1) i.state (omega arith) in
    (λ _. sym c.self.view_is ∙ none, λ _. refl)

pub returns-clause-next : goal.returns-clause-next
returns-clause-next c =
    let i = c.self.inside in
    let rest = i.count - (i.told + 1) in
    let next = lines-next i.types.now (i.count - i.told) (i.told + 1) i.state rest (omega arith) in
    let text = c.in_ok-state.ensures.text ∙ ap (λ (t : List ℕ). t ++ line_of i.types.now (record_by i.types.now (i.told + 1) i.state)) c.new-text.ensures in
    let later = ap (λ (x : ℕ). lines_from i.types.now rest (i.told + 1 + 1) x) c.in_ok-state.ensures.state in
    told-next _ _ _ _ _ (sym c.self.view_is ∙ next) (c.from_vec.ensures ∙ c.into_vec.ensures ∙ text) later

pub returns-clause-none : goal.returns-clause-none
returns-clause-none c =
    let i = c.self.inside in
    let next = lines-next i.types.now (i.count - i.told) (i.told + 1) i.state (i.count - (i.told + 1)) (omega arith) in
    let some = not-none _ _ _ (sym c.self.view_is ∙ next) in
    (λ e. cc e, λ none. absurd (some none))
