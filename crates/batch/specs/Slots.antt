-- The places of buckets that lie in one interval, as the walk writes them. Assumes nothing.
use Rattle.std.specs.Prelude.{ℕ, ◌-◌, ◌*◌, ◌≤◌, ◌<◌, ◌≡◌, false, List, [], ◌∷◌, map, length, get_or, take, drop}
use Rattle.std.proofs.lemmas.List.Edits.{sets}
use Rattle.model.specs.Basics.{joined}
use Rattle.model.specs.Refusal.{falls}
use Rattle.table.specs.Placing.{Places, slot_of}
use Rattle.table.specs.declared.Placing.{Placing}

-- the two numbers of bucket x's place; those of a list of buckets, each in turn
abbrev pub slot_pair : Placing → ℕ → List ℕ
slot_pair p x = (slot_of p x).bin ∷ (slot_of p x).position ∷ []

abbrev pub slot_pairs : Placing → List ℕ → List ℕ
slot_pairs p xs = joined (map (slot_pair p) xs)

-- the buckets of a list from number `from` on can be placed by p, and there is room for the places of all
pub record Placeable (p : Placing) (xs : List ℕ) (from : ℕ) (out : List ℕ) : Type 0 where
  pub rise : falls xs ≡ false
  pub places : (k : ℕ) → from ≤ k → k < length xs → Places p (get_or xs k 0)
  pub room : 2 * length xs ≤ length out

-- the buckets from number `from` up to r are below `end`; `out` is `old` with their places written into it
pub record Placed (p : Placing) (end : ℕ) (xs : List ℕ) (from r : ℕ) (old out : List ℕ) : Type 0 where
  pub on : from ≤ r
  pub within : r ≤ length xs
  pub below : (k : ℕ) → from ≤ k → k < r → get_or xs k 0 < end
  pub holds : out ≡ sets old (2 * from) (slot_pairs p (take (r - from) (drop from xs)))

-- bucket r, if there is one, is not below `end`
abbrev pub Stops : ℕ → List ℕ → ℕ → Type 0
Stops end xs r = r < length xs → end ≤ get_or xs r 0
