-- A lent table that rules 11 to 16 of document 01 let pass, and one that 30 lets pass too, as propositions. Assumes nothing.
use Rattle.std.specs.Prelude.{ℕ, ◌≤◌, ◌<◌, ◌≡◌, false, length, get_or}
use Rattle.model.specs.Basics.{before}
use Rattle.model.specs.Limits.{max_buckets, max_capacity, max_bins, max_blocks, max_intervals}
use Rattle.model.specs.Table.{bins, shape, Arrays, table}
use Rattle.model.specs.Place.{held, bin_size}
use Rattle.model.specs.Due.{due_of_block}
use Rattle.model.specs.Refusal.{overfull, adjustment_of}
use Rattle.model.specs.declared.table.Header.{Header}

-- a formed table: rules 11 to 16, the map itself
pub record Formed (h : Header) (a : Arrays) : Type 0 where
  -- 11
  pub some_buckets : 1 ≤ h.buckets
  pub bucket_limit : h.buckets ≤ max_buckets
  pub some_blocks : 1 ≤ h.block_count
  pub block_limit : h.block_count ≤ max_blocks
  pub some_intervals : 1 ≤ h.interval_count
  pub interval_limit : h.interval_count ≤ max_intervals
  pub tops_long : h.block_count ≤ length a.tops
  pub ends_long : h.interval_count ≤ length a.ends
  pub blocks_long : h.interval_count ≤ length a.blocks
  pub adjustments_long : h.interval_count ≤ length a.adjustments
  -- 12
  pub tops_rise : (j : ℕ) → j < h.block_count → before a.tops j < get_or a.tops j 0
  pub bin_limit : before a.tops h.block_count ≤ max_bins
  pub bins_few : before a.tops h.block_count ≤ h.buckets
  -- 13
  pub ends_rise : (i : ℕ) → i < h.interval_count → before a.ends i < get_or a.ends i 0
  pub last_end : before a.ends h.interval_count ≡ h.buckets
  -- 14
  pub blocks_below : (i : ℕ) → i < h.interval_count → get_or a.blocks i 0 < h.block_count
  -- 15
  pub holdings
      : (j : ℕ) → j < h.block_count
      → held (table h a) j h.buckets ≡ due_of_block (shape (table h a)) a.tops j
  -- 16
  pub adjusted : (i : ℕ) → i < h.interval_count → get_or a.adjustments i 0 ≡ adjustment_of h a i

-- a sound table: these, and 30, its capacity
pub record Sound (h : Header) (a : Arrays) : Type 0 where
  pub formed : Formed h a
  pub some_capacity : 1 ≤ h.capacity
  pub capacity_limit : h.capacity ≤ max_capacity
  pub none_overfull : (y : ℕ) → y < bins (table h a) → overfull h.capacity (bin_size (table h a) y) ≡ false
