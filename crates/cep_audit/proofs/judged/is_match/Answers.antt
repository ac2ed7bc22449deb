use Rattle.std.proofs.Common.{sym, ◌∙◌, subst}
use Rattle.cep_audit.specs.Asked.{entries_of}
use Rattle.cep_audit.specs.Grown.{IsGrown}
use Rattle.cep_audit.proofs.GrownLaws.{none_match, grown_as}
use Rattle.cep_audit.proofs.judged.is_match.Goals as goal

pub returns-in-None : goal.returns-in-None
returns-in-None c =
    let list = entries_of c.args.list.now in
    sym (none_match c.args.plan.now c.args.events.now list (subst (IsGrown c.args.plan.now c.args.events.now list) c.in-None.is c.in_ok-grown.ensures))

pub returns-in-Some : goal.returns-in-Some
returns-in-Some c =
    let list = entries_of c.args.list.now in
    c.are_match.ensures
    ∙ grown_as c.args.plan.now c.args.events.now list c.in-Some.taken
    (subst (IsGrown c.args.plan.now c.args.events.now list) c.in-Some.is c.in_ok-grown.ensures)
