-- What the copies promise of the arrays lent to them. Assumes nothing.
use Rattle.std.specs.Prelude.{ℕ, ◌≡◌, List, take}
use Rattle.model.specs.Table.{over}

-- the first `count` entries of an array stand over those of another, which keeps its other entries
abbrev pub Copied : ℕ → List ℕ → List ℕ → List ℕ → Type 0
Copied count from to to' = to' ≡ over (take count from) to
