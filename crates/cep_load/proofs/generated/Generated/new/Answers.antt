use Rattle.std.proofs.Common.{◌+◌, ◌∙◌, List, ℕ, ap, arith, length, refl, sym}
use Rattle.cep_load.specs.Read.{read_from}
use Rattle.cep_load.proofs.LineLaws.{lines-first}
use Rattle.cep_load.proofs.ReadLaws.{length-lines, read-each, read-lines}
use Rattle.cep_load.proofs.generated.Generated.new.Goals as goal

pub returns-clause-count : goal.returns-clause-count
returns-clause-count c =
    let types = c.args.plan.now.types in
    let first = lines-first c.as_slice.result.now types c.args.count c.args.seed c.as_slice.ensures in
    ap (λ (lines : List (List ℕ)). length lines) first ∙ length-lines types c.args.count 1 c.args.seed

pub returns-clause-read : goal.returns-clause-read
returns-clause-read c =
    let types = c.args.plan.now.types in
    let first = lines-first c.as_slice.result.now types c.args.count c.args.seed c.as_slice.ensures in
    λ named. ap (read_from types 1) first ∙ read-lines types c.args.count 1 c.args.seed named (omega (arith, c.ranges.count.fits))

pub returns-clause-accepted : goal.returns-clause-accepted
returns-clause-accepted c =
    let types = c.args.plan.now.types in
    let first = lines-first c.as_slice.result.now types c.args.count c.args.seed c.as_slice.ensures in
    λ named before after line is.
    read-each types 1 (length before + 1) before line after _ refl
    (ap (read_from types 1) (sym is ∙ first) ∙ read-lines types c.args.count 1 c.args.seed named (omega (arith, c.ranges.count.fits)))
