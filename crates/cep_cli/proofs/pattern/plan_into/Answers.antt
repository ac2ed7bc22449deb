use Rattle.std.proofs.Common.{take, ◌∙◌}
use Rattle.pattern_file.specs.Checked.{ArePlannedAs}
use Rattle.cep_cli.proofs.PatternLaws.{front_reads, planned, tells_too}
use Rattle.cep_cli.proofs.pattern.plan_into.Goals as goal

pub returns-in-Ok-clause-told : goal.returns-in-Ok-clause-told
returns-in-Ok-clause-told g c = λ content told.
    let front = take c.in-Ok.count c.load.new.room in
    let alike = front_reads (g.F.Files.contents c.args.files.now c.args.name.now) content c.in-Ok.count c.load.new.room told
    (c.load.auto.room ∙ c.requires) c.in-Ok.ensures.front in
    tells_too (ArePlannedAs front) (ArePlannedAs content) (planned front content alike) c.plan_from.result c.plan_from.ensures.told
