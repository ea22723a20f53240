-- Document 01, 'Move list, placing, finding, keeping': room. Assumes nothing.
use Rattle.std.specs.Prelude.{ℕ, ◌+◌, ◌*◌, ◌/◌}

-- the intervals to set aside for m expansions
unfoldable pub room : ℕ → ℕ
room m = m * (m + 1) / 2 + 1
