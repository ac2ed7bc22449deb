use Rattle.std.proofs.Common.{arith}
use Rattle.cep_cli.proofs.BegunLaws.{few_stages, has_room}
use Rattle.cep_cli.proofs.TableLaws.{compilable}
use Rattle.cep_cli.proofs.run.pipeline_for.Goals as goal

pub new-requires-clause-compilable : goal.new-requires-clause-compilable
new-requires-clause-compilable c = compilable c.args.plan c.requires

pub new-requires-clause-within : goal.new-requires-clause-within
new-requires-clause-within c = has_room c.args.plan c.requires

pub new-requires-clause-few : goal.new-requires-clause-few
new-requires-clause-few c = omega (arith, few_stages c.args.plan c.requires)
