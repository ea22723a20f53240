-- What an accepted call's tests say, but for the mark. Assumes nothing.
use Rattle.std.specs.Prelude.{ℕ, ◌*◌, ◌≤◌, ◌≡◌, List, length}
use Rattle.model.specs.Refusal.{first}
use Rattle.model.specs.Sound.{Sound}
use Rattle.model.specs.Calls.{growth_tests}
use Rattle.mover.specs.Carry.{Growth, old_table}

-- a sound table, sizes that the growth's tests let pass, and a word for every place of the new map
pub record Ready (g : Growth) (ws : List ℕ) : Type 0 where
  pub sound : Sound g.header g.arrays
  pub asked : first (growth_tests (old_table g) g.sizes) ≡ 0
  pub long : g.sizes.bins * g.header.capacity ≤ length ws
