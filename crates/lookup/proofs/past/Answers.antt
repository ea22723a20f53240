use mathlib.Core.Logic.{⊎_elim, inl, inr}
use native.Mathlib.Omega.{arith}
use Rattle.model.proofs.Counts.{below_or}
use Rattle.lookup.proofs.past.Goals as goal

pub returns : goal.returns
returns c =
    ⊎_elim (λ l. inr (l, omega arith)) (λ l. inl (l, omega arith)) (below_or c.args.bucket c.args.end)
