use Rattle.std.proofs.Common.{◌≡◌, ◌∙◌, ap, Err, option_map}
use Rattle.clap.specs.Words.{found_of, rows_of}
use Rattle.cep_words.specs.declared.words.WordsFault.TheVariants.{Bad}
use Rattle.cep_words.proofs.ClapLaws.{named, read_of, refused}
use Rattle.cep_words.proofs.words.command.Goals as goal

pub returns-in-Err-clause-bad : goal.returns-in-Err-clause-bad
returns-in-Err-clause-bad c = λ e. let same : c.in-Err.fault ≡ Bad = cc in refused c.args.words.now (c.in-Err.ensures.bad (ap Err same))

pub returns-in-Some-clause-named : goal.returns-in-Some-clause-named
returns-in-Some-clause-named c =
    read_of c.args.words.now (rows_of (found_of c.in-Ok.found)) c.said_in.result c.command_in.result c.in-Ok.ensures.ok c.in-Ok.ensures.rows
    c.said_in.ensures c.command_in.ensures
    ∙ ap (option_map named) c.in-Some.is

pub returns-in-Some-clause-refused : goal.returns-in-Some-clause-refused
returns-in-Some-clause-refused c = λ none.
    let some =
    read_of c.args.words.now (rows_of (found_of c.in-Ok.found)) c.said_in.result c.command_in.result c.in-Ok.ensures.ok c.in-Ok.ensures.rows
    c.said_in.ensures c.command_in.ensures
    ∙ ap (option_map named) c.in-Some.is in
    cc

pub returns-clause-bad : goal.returns-clause-bad
returns-clause-bad c = λ e.
    read_of c.args.words.now (rows_of (found_of c.in-Ok.found)) c.said_in.result c.command_in.result c.in-Ok.ensures.ok c.in-Ok.ensures.rows
    c.said_in.ensures c.command_in.ensures
    ∙ ap (option_map named) c.in-None.is
