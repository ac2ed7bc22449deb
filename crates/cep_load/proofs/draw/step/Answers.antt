use Rattle.std.proofs.Common.{◌*◌, ◌^◌}
use Rattle.std.proofs.Math.Nat.{mod-add-mod}
use Rattle.cep_load.specs.Draw.{step}
use Rattle.cep_load.proofs.draw.step.Goals as goal

pub returns : goal.returns
unfolding step
returns c = mod-add-mod (c.args.state * 6364136223846793005) (2 ^ 64) 1442695040888963407
