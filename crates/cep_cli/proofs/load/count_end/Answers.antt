use Rattle.std.proofs.Common.{arith}
use Rattle.std.specs.Prelude.{false}
use Rattle.event_pipeline.specs.Told.{told_at_end}
use Rattle.cep_cli.specs.Records.{records_of}
use Rattle.cep_cli.proofs.BegunLaws.{records-length}
use Rattle.cep_cli.proofs.LoadLaws.{counted-end, told-counted}
use Rattle.cep_cli.proofs.load.count_end.Goals as goal

pub end-requires : goal.end-requires
end-requires g c =
    let r = c.requires in (r.0, r.1, records_of false r.1.types r.2, r.3.passed, omega (arith, records-length false r.1.types r.2, r.4))

pub returns-in-Ok-clause-counted : goal.returns-in-Ok-clause-counted
returns-in-Ok-clause-counted g c = λ lag plan lines h.
    let told = c.in-Ok.ensures.told lag plan (records_of false plan.types lines) h.passed in
    counted-end lag plan c.args.pipeline c.args.counts.now c.end.new.to lines h (told-counted _ _
    (told_at_end lag plan (records_of false plan.types lines)) told)

pub returns-in-Ok-clause-shown : goal.returns-in-Ok-clause-shown
returns-in-Ok-clause-shown g c = λ lag plan lines h. c.in-Ok.ensures.shown lag plan (records_of false plan.types lines) h.passed

pub returns-in-Err-clause-shown : goal.returns-in-Err-clause-shown
returns-in-Err-clause-shown g c = λ lag plan lines h. c.in-Err.ensures.shown lag plan (records_of false plan.types lines) h.passed
