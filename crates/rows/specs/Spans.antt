-- The rows of buckets that move together, and rows written into a lent buffer. Assumes nothing.
use Rattle.std.specs.Prelude.{ℕ, ◌+◌, ◌-◌, ◌*◌, ◌/◌, ◌%◌, ◌^◌, ◌≤◌, ◌<◌, List, [], ◌∷◌, ◌++◌, ◌≡◌, length, take, drop}
use Rattle.model.specs.Basics.{joined, from}
use Rattle.model.specs.Limits.{label}
use Rattle.table.specs.Placing.{slot_of}
use Rattle.table.specs.declared.Placing.{Placing}
use Rattle.model.specs.declared.given.Slot.{Slot}
use Rattle.rows.specs.declared.Turn.{Turn}
use Rattle.rows.specs.declared.span.Span.{Span}

-- the row of bucket x, whose old place goes by `old` and its new one by `new`
unfoldable pub placed_row : Placing → Placing → ℕ → List ℕ
placed_row old new x =
    x ∷ (slot_of old x).bin ∷ (slot_of old x).position ∷ (slot_of new x).bin ∷ (slot_of new x).position ∷ []

-- the rows of a span
abbrev pub span_rows : Span → List (List ℕ)
span_rows s = from (placed_row s.old s.new) s.bucket (s.end - s.bucket)

-- the row of bucket x whose two places are given as pairs
unfoldable pub pair_row : ℕ → ℕ → ℕ → List ℕ
pair_row x here there = x ∷ (here % 2 ^ 32) ∷ (here / 2 ^ 32) ∷ (there % 2 ^ 32) ∷ (there / 2 ^ 32) ∷ []

-- the row of bucket x in a run from bucket b on, whose places are the pairs `old` and `new`
unfoldable pub run_row : ℕ → ℕ → ℕ → ℕ → List ℕ
run_row b old new x = pair_row x (old + (x - b)) (new + (x - b))

-- a buffer with rows written into it from row number `at` on; the rest is kept
unfoldable pub with_rows : ℕ → List (List ℕ) → List ℕ → List ℕ
with_rows at rs buffer = take (5 * at) buffer ++ joined rs ++ drop (5 * (at + length rs)) buffer

-- the slot of a rank in a block of d bins from f on: the labels take the first positions of all of them
pub record Slotted (f d rank : ℕ) (s : Slot) : Type 0 where
  pub after : f ≤ s.bin
  pub within : s.bin < f + d
  pub whole : s.position * d + s.bin ≡ f + (label * d + rank)

-- from the slot of a rank to that of the next, in a block of the bins from f to l
abbrev pub Steps : ℕ → ℕ → Slot → Slot → Type 0
Steps f l s s' = (d rank : ℕ) → l + 1 ≡ f + d → Slotted f d rank s → Slotted f d (rank + 1) s'

abbrev pub turn : ℕ → ℕ → Turn
turn place left = record { place = place; left = left }

-- the turn of a rank in a block of d bins from f on
pub record Turned (f d rank : ℕ) (t : Turn) : Type 0 where
  pub position : ℕ
  pub some : 1 ≤ t.left
  pub most : t.left ≤ d
  pub placed : t.place + t.left ≡ f + d + position * 2 ^ 32
  pub whole : position * d + d ≡ label * d + rank + t.left

-- from the turn of a rank to that of the rank k later, in a block of d bins
abbrev pub Runs : ℕ → ℕ → Turn → Turn → Type 0
Runs d k t t' = (f rank : ℕ) → Turned f d rank t → Turned f d (rank + k) t'
