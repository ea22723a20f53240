-- `ok` says whether the first i entries rise
use Rattle.std.proofs.Common.{◌≡◌}
use Rattle.model.specs.Refusal.{rises}
use Rattle.soundness.proofs.rising.Given as goal

abbrev pub invariant-loop-i : goal.invariant-loop-i
invariant-loop-i l = l.ok ≡ rises l.xs l.i
