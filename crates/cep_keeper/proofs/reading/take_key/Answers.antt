use Rattle.std.proofs.Common.{◌≡◌, sym, ◌∙◌, ap, subst, arith}
use Rattle.std.specs.Prelude.{Some}
use Rattle.cep_keeper.specs.Counted.{event_count}
use Rattle.cep_keeper.specs.Rules.{key_count}
use Rattle.cep_keeper.specs.Tallies.{Tallies}
use Rattle.cep_keeper.proofs.CountLaws.{key_count-le}
use Rattle.cep_keeper.proofs.TallyLaws.{tallies_key}
use Rattle.cep_keeper.proofs.reading.take_key.Goals as goal

pub key_count-count-requires : goal.key_count-count-requires
key_count-count-requires c =
    let le = key_count-le c.args.plan.now (Some c.args.key) c.as_slice.result.now in
    let same : c.as_slice.result.now ≡ c.args.reading.now.saved.recent = cc in
    let e = ap event_count same in
    omega (arith, le, e, c.requires.counted)

pub returns-clause-tallies : goal.returns-clause-tallies
returns-clause-tallies c =
    let s = c.args.reading.now.saved in
    let ticks : c.as_slice.result.now ≡ s.recent = cc in
    let here = c.in_ok-set.ensures.here ∙ ap Some (c.key_count-count.ensures ∙ ap (key_count c.args.plan.now (Some c.args.key)) ticks) in
    subst (λ keys. Tallies c.args.plan.now c.set.new.self keys s.recent) (sym c.in_ok-push.ensures.ok)
    (tallies_key c.args.plan.now c.args.counts.now c.set.new.self s.keys s.recent c.args.key c.requires.tallies here c.in_ok-set.ensures.others c.set.ensures.events)
