use Rattle.std.proofs.Common.{◌≡◌, sym, subst, [], ◌∷◌, ◌++◌}
use Rattle.cep_keeper.specs.Standing.{noted, StandsFor}
use Rattle.cep_keeper.proofs.CountLaws.{on_ok}
use Rattle.cep_keeper.proofs.NoteLaws.{still_stands}
use Rattle.cep_keeper.proofs.recent.Recent.note.Goals as goal

pub returns : goal.returns
returns g c =
    let plan = c.args.plan.now in
    let starts = g.O.Oldest.starts c.args.starts.now in
    let old = c.args.self.now in
    on_ok c.take.result
    (λ (e : c.take.new.self ≡ noted plan starts (old ++ c.args.tick ∷ [])). λ all stands placed never lists.
    subst (λ held. StandsFor plan held (all ++ c.args.tick ∷ [])) (sym e)
    (still_stands plan starts old c.args.tick all stands placed never lists)) c.take.ensures
