use Rattle.cep_cli.proofs.TableLaws.{compilable}
use Rattle.cep_cli.proofs.pattern.table_of.Goals as goal

pub compile-requires : goal.compile-requires
compile-requires c = compilable c.args.plan.now c.requires
