use Rattle.std.specs.Prelude.{map, string_bytes}
use Rattle.cep_words.specs.Words.{command_of}
use Rattle.cep_cli.proofs.SureLaws.{not_blamed}
use Rattle.cep_cli.proofs.sure.cep_in_memory.Goals as goal

pub returns-clause-input : goal.returns-clause-input
returns-clause-input g c = (not_blamed (command_of (map string_bytes c.args.words.now)) c.cep.result _ _
    (λ options name named. c.cep.ensures.blamed options name named) c.cep.ensures.words.refused).0

pub returns-clause-file : goal.returns-clause-file
returns-clause-file g c = (not_blamed (command_of (map string_bytes c.args.words.now)) c.cep.result _ _
    (λ options name named. c.cep.ensures.blamed options name named) c.cep.ensures.words.refused).1
