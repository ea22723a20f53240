use mathlib.Core.Path.{sym, ◌∙◌}
use mathlib.Core.List.{[]}
use native.Mathlib.Omega.{arith}
use Rattle.model.proofs.Refusals.{first_here, first_skip, first_none}
use Rattle.sizes.proofs.capacity_allowed.Goals as goal

pub returns-then-overfull : goal.returns-then-overfull
returns-then-overfull c = omega (arith, first_here (31, _) [] (sym c.overfull.ensures ∙ c.if-overfull.true))

pub returns : goal.returns
returns c = sym (first_skip _ _ (sym c.overfull.ensures ∙ c.if-overfull.false) ∙ first_none)
