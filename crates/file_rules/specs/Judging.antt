-- What the judging of a file is given and what it says. Assumes nothing.
use Rattle.std.specs.Prelude.{ℕ, ◌+◌, ◌*◌, ◌≤◌, ◌≡◌, List, [], ◌∷◌, length}
use Rattle.model.specs.Basics.{from}
use Rattle.model.specs.Limits.{max_blocks, max_intervals}
use Rattle.model.specs.Table.{Arrays, arrays, over}
use Rattle.model.specs.Refusal.{Test, first, tops_wrong, ends_wrong, blocks_wrong, holdings_wrong, adjustment_of}
use Rattle.model.specs.Saved.{number}
use Rattle.model.specs.declared.table.Header.{Header}

-- the tops, ends and blocks in a file of header h, after B, G and k; at the header that the file says, its `read_arrays`
abbrev pub file_arrays : List ℕ → Header → Arrays
file_arrays f h =
    arrays
    (from (number f) 3 h.block_count)
    (from (number f) (3 + h.block_count) h.interval_count)
    (from (number f) (3 + h.block_count + h.interval_count) h.interval_count)
    []

-- 11: counts within their limits, and a file of their length
pub record Counted (f : List ℕ) (h : Header) : Type 0 where
  pub some_blocks : 1 ≤ h.block_count
  pub block_limit : h.block_count ≤ max_blocks
  pub some_intervals : 1 ≤ h.interval_count
  pub interval_limit : h.interval_count ≤ max_intervals
  pub fits : length f ≡ 12 + 4 * h.block_count + 8 * h.interval_count

-- the tests of 12 to 15
unfoldable pub array_tests : Header → Arrays → List Test
array_tests h a = (12, tops_wrong h a.tops) ∷ (13, ends_wrong h a.ends) ∷ (14, blocks_wrong h a.blocks) ∷ (15, holdings_wrong h a) ∷ []

-- what rules 12 to 15 say of a file's arrays; where they pass, `left` has the adjustments over the first of `old`
pub record Completed (h : Header) (a : Arrays) (old : List ℕ) (r : ℕ) (left : List ℕ) : Type 0 where
  pub answer : r ≡ first (array_tests h a)
  pub adjusted : r ≡ 0 → left ≡ over (from (adjustment_of h a) 0 h.interval_count) old
