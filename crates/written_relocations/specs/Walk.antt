-- What the walk over the old intervals is given. Assumes nothing.
use Rattle.std.specs.Prelude.{ℕ, ◌*◌, ◌≤◌, ◌≡◌, true, List, length}
use Rattle.model.specs.Table.{Shape, Arrays, table}
use Rattle.model.specs.Refusal.{first}
use Rattle.model.specs.Sound.{Formed}
use Rattle.model.specs.Expansion.{some_fall}
use Rattle.model.specs.Calls.{growth_tests}
use Rattle.model.specs.declared.table.Header.{Header}
use Rattle.expansion_plan.specs.Shares.{DuesAfter}

-- an accepted growth of a formed table by which some old block is due less, what each block is due after it, and a bit for every
-- old bucket
pub record Drains (h : Header) (a : Arrays) (s : Shape) (dues bits : List ℕ) : Type 0 where
  pub formed : Formed h a
  pub asked : first (growth_tests (table h a) s) ≡ 0
  pub falls : some_fall (table h a) s ≡ true
  pub after : DuesAfter (table h a) s dues
  pub long : h.buckets ≤ 64 * length bits
