-- Document 01, 'Move list, placing, finding, keeping': the move list, from the mappings before and after alone. Assumes nothing.
use Rattle.std.specs.Prelude.{ℕ, ◌/◌, List, [], ◌∷◌, take, drop}
use Rattle.model.specs.Basics.{if◌then◌otherwise◌, from, joined}
use Rattle.model.specs.Table.{Table}
use Rattle.model.specs.Place.{bin, position}
use Rattle.model.specs.Expansion.{differs}

-- a row's five numbers: bucket, old bin, old position, new bin, new position
unfoldable pub row : Table → Table → ℕ → List ℕ
row t u x = x ∷ bin t x ∷ position t x ∷ bin u x ∷ position u x ∷ []

-- the row of bucket x if it moved, else none
unfoldable pub row_if : Table → Table → ℕ → List (List ℕ)
row_if t u x = if differs t u x then row t u x ∷ [] otherwise []

-- the rows of all old buckets, rising by bucket
unfoldable pub rows : Table → Table → List (List ℕ)
rows t u = joined (from (row_if t u) 0 t.buckets)

-- the rows that a call writes: from order number q on, as many as remain or fit whole into a buffer of n numbers
unfoldable pub page : ℕ → ℕ → List (List ℕ) → List (List ℕ)
page q n rs = take (n / 5) (drop q rs)
