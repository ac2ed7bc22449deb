use Rattle.std.proofs.Common.{sym, ◌∙◌, subst, arith}
use Rattle.std.specs.Str.{IsUtf8}
use Rattle.cep_cli.proofs.SummaryLaws.{summary_utf8}
use Rattle.cep_cli.proofs.load.summary_text.Goals as goal

pub unwrap-text-requires : goal.unwrap-text-requires
unwrap-text-requires c =
    let r = c.ranges in
    c.from_utf8.ensures.succeeds (subst IsUtf8 (sym (c.into_vec.ensures ∙ c.in_ok-bytes.ensures))
    (summary_utf8 c.args.rows c.args.late c.args.matches c.args.timeouts c.args.greatest
    (omega (arith, r.rows)) (omega (arith, r.late)) (omega (arith, r.matches)) (omega (arith, r.timeouts)) (omega (arith, r.greatest))))
