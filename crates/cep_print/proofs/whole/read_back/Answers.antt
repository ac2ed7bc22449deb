use Rattle.std.proofs.Common.{rules, ◌≡◌, ◌≤◌, length, sym, subst}
use Rattle.cep_syntax.specs.Whole.{IsRead}
use Rattle.cep_print.specs.File.{printed}
use Rattle.cep_print.proofs.PrintedFiles.{denotes}
use Rattle.cep_print.proofs.ReadBackLaws.{gives_back}
use Rattle.cep_print.proofs.whole.read_back.Goals as goal

pub returns-in-Ok-clause-denotes : goal.returns-in-Ok-clause-denotes
returns-in-Ok-clause-denotes c = denotes c.args.file.now

pub returns-in-Err-clause-denotes : goal.returns-in-Err-clause-denotes
returns-in-Err-clause-denotes c = denotes c.args.file.now

pub returns-in-Ok-clause-same : goal.returns-in-Ok-clause-same
returns-in-Ok-clause-same c = λ form short shallow.
    let same : c.as_bytes.result.now ≡ printed c.args.file.now = first_of (search rules, cc) in
    gives_back (printed c.args.file.now) c.args.file.now c.read.result (denotes c.args.file.now form) shallow
    (subst (λ z. IsRead z c.read.result) same (c.read.ensures.text (subst (λ z. length z ≤ 65536) (sym same) short) c.as_bytes.ensures.utf8))
