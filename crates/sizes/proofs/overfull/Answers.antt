use mathlib.Core.Path.{sym}
use Rattle.model.proofs.Capacities.{overfills_product}
use Rattle.sizes.proofs.overfull.Goals as goal

pub returns : goal.returns
returns c = sym (overfills_product _ _ c.requires)
