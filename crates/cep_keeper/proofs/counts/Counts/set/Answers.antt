use Rattle.std.proofs.Common.{◌≡◌, refl, sym, ap, ◌∙◌, rules, to_z, of_z, w64}
use Rattle.cep_event.specs.declared.value.Value.TheVariants as value
use Rattle.cep_keeper.specs.declared.counts.Counts.{Counts}
use Rattle.cep_keeper.specs.Tallies.{count_of}
use Rattle.cep_keeper.proofs.CountLaws.{on_ok}
use Rattle.cep_keeper.proofs.TallyLaws.{number_others}
use Rattle.cep_keeper.proofs.counts.Counts.set.Goals as goal

pub returns-in-Int-clause-here : goal.returns-in-Int-clause-here
returns-in-Int-clause-here c =
    let now : Counts = record {
      alloc = c.args.self.now.alloc;
      events = c.args.self.now.events;
      numbers = c.set_number.new.numbers;
      texts = c.args.self.now.texts;
    } in
    let trip : to_z w64 (of_z w64 c.in-Int.number) ≡ c.in-Int.number = search rules in
    let is : c.args.key.now ≡ value.Int (to_z w64 (of_z w64 c.in-Int.number)) = c.in-Int.is ∙ sym (ap value.Int trip) in
    on_ok c.set_number.result (λ e. ap (count_of now) is ∙ e) c.set_number.ensures.here

pub returns-in-Int-clause-others : goal.returns-in-Int-clause-others
returns-in-Int-clause-others c =
    let now : Counts = record {
      alloc = c.args.self.now.alloc;
      events = c.args.self.now.events;
      numbers = c.set_number.new.numbers;
      texts = c.args.self.now.texts;
    } in
    let trip : to_z w64 (of_z w64 c.in-Int.number) ≡ c.in-Int.number = search rules in
    let is : c.args.key.now ≡ value.Int (to_z w64 (of_z w64 c.in-Int.number)) = c.in-Int.is ∙ sym (ap value.Int trip) in
    on_ok c.set_number.result (λ h. number_others c.args.self.now now c.args.key.now
    (to_z w64 (of_z w64 c.in-Int.number)) is refl h) c.set_number.ensures.others
