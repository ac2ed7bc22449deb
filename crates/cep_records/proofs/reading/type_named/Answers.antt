use Rattle.std.proofs.Common.{◌≡◌, true, false, sym, below_more, arith}
use Rattle.std.specs.Str.{bytes_eq}
use Rattle.cep_records.proofs.TypeLaws.{named, type_named-found, type_named-none}
use Rattle.cep_records.proofs.reading.type_named.Goals as goal

pub loop-place-preserved : goal.loop-place-preserved
loop-place-preserved c =
    let is : false ≡ bytes_eq c.index-types-place.result.name c.args.name.now = cc in
    below_more _ _ c.loop-place.invariant (named c.args.types.now c.loop-place.place c.index-types-place.result c.args.name.now false (omega arith)
    c.index-types-place.is is)

pub returns-then-eq-clause-value : goal.returns-then-eq-clause-value
returns-then-eq-clause-value c =
    let is : true ≡ bytes_eq c.index-types-place.result.name c.args.name.now = cc in
    sym (type_named-found c.args.name.now c.args.types.now c.loop-place.place (omega arith) c.loop-place.invariant
    (named c.args.types.now c.loop-place.place c.index-types-place.result c.args.name.now true (omega arith) c.index-types-place.is is))

pub returns-clause-value : goal.returns-clause-value
returns-clause-value c = sym (type_named-none c.args.name.now c.args.types.now (λ k h. c.loop-place.invariant k (omega arith)))
