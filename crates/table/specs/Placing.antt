-- How the buckets of an interval are placed. Assumes nothing.
use Rattle.std.specs.Prelude.{ℕ, ◌+◌, ◌-◌, ◌/◌, ◌%◌, ◌^◌, ◌≤◌, ◌<◌, List, get_or}
use Rattle.model.specs.Basics.{before}
use Rattle.model.specs.Limits.{max_buckets, label}
use Rattle.model.specs.Table.{Arrays}
use Rattle.table.specs.declared.Placing.{Placing}
use Rattle.model.specs.declared.given.Slot.{Slot}

abbrev pub placing : ℕ → ℕ → ℕ → Placing
placing first bins adjustment = record { first = first; bins = bins; adjustment = adjustment }

-- how the buckets of block j are placed, by an adjustment; and those of interval i of lent arrays
abbrev pub placing_of : List ℕ → ℕ → ℕ → Placing
placing_of tops j adjustment = placing (before tops j) (get_or tops j 0 - before tops j) adjustment

abbrev pub placing_at : Arrays → ℕ → Placing
placing_at a i = placing_of a.tops (get_or a.blocks i 0) (get_or a.adjustments i 0)

-- what places bucket x: there is a bin, its numbers fit, and x has a rank and is within the limit of buckets
pub record Places (p : Placing) (x : ℕ) : Type 0 where
  pub some : 1 ≤ p.bins
  pub fits : p.first + p.bins < 2 ^ 32
  pub ranked : p.adjustment ≤ x
  pub limit : x ≤ max_buckets

-- the slot of bucket x: the remainder and the quotient of its rank by the bins, the first counted from the first bin and the
-- second from the label's end
abbrev pub slot_of : Placing → ℕ → Slot
slot_of p x = record { bin = p.first + (x - p.adjustment) % p.bins; position = (x - p.adjustment) / p.bins + label }
