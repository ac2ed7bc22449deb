use Rattle.std.proofs.Common.{take, ◌∙◌}
use Rattle.cep_cli.specs.Pattern.{AreShownAs}
use Rattle.cep_cli.proofs.PatternLaws.{front_reads, shown, tells_too}
use Rattle.cep_cli.proofs.pattern.text_into.Goals as goal

pub returns-in-Ok-clause-told : goal.returns-in-Ok-clause-told
returns-in-Ok-clause-told g c = λ content told.
    let front = take c.in-Ok.count c.load.new.room in
    let alike = front_reads (g.F.Files.contents c.args.files.now c.args.name.now) content c.in-Ok.count c.load.new.room told
    (c.load.auto.room ∙ c.requires) c.in-Ok.ensures.front in
    tells_too (AreShownAs c.args.form front) (AreShownAs c.args.form content)
    (shown front content alike c.args.form) c.text_from.result c.text_from.ensures.told
