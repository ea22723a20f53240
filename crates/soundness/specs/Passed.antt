-- What earlier rules of the check have shown of a lent table, for the functions of the later ones. Assumes nothing.
use Rattle.std.specs.Prelude.{◌≡◌, ℕ, ◌+◌, ◌<◌, ◌≤◌, Bool, false, List, [], ◌∷◌, ◌++◌, length, ◌==◌, bit_or, nat_eq, slice_index}
use Rattle.model.specs.Basics.{before, all}
use Rattle.model.specs.Limits.{max_blocks}
use Rattle.model.specs.Table.{Arrays, arrays, table}
use Rattle.model.specs.Place.{held}
use Rattle.model.specs.Refusal.{Test, tops_wrong, ends_wrong, blocks_wrong, holdings_wrong, adjustment_of, adjustments_wrong}
use Rattle.model.specs.declared.table.Header.{Header}
use Rattle.table.specs.declared.formed.FormedTable.{FormedTable}

-- 11: counts within their limits, and arrays that have them
pub record Counted (h : Header) (tops ends blocks : List ℕ) : Type 0 where
  pub some_blocks : 1 ≤ h.block_count
  pub block_limit : h.block_count ≤ max_blocks
  pub some_intervals : 1 ≤ h.interval_count
  pub tops_long : h.block_count ≤ length tops
  pub ends_long : h.interval_count ≤ length ends
  pub blocks_long : h.interval_count ≤ length blocks

-- the tests of 12 to 14
unfoldable pub layout_tests : Header → List ℕ → List ℕ → List ℕ → List Test
layout_tests h tops ends blocks = (12, tops_wrong h tops) ∷ (13, ends_wrong h ends) ∷ (14, blocks_wrong h blocks) ∷ []

-- the tests of 12 to 16
unfoldable pub rule_tests : Header → Arrays → List Test
rule_tests h a = layout_tests h a.tops a.ends a.blocks ++ ((15, holdings_wrong h a) ∷ (16, adjustments_wrong h a) ∷ [])

-- the header of a table of one block and one interval
abbrev pub alone : ℕ → ℕ → Header
alone b p = record { buckets = b; capacity = p; block_count = 1; interval_count = 1 }

-- 11 and 12
pub record TopsRight (h : Header) (tops : List ℕ) : Type 0 where
  pub some : 1 ≤ h.block_count
  pub few : h.block_count ≤ max_blocks
  pub long : h.block_count ≤ length tops
  pub rise : (j : ℕ) → j < h.block_count → before tops j < slice_index tops j

-- 11, 13 and 14
pub record IntervalsRight (h : Header) (ends blocks : List ℕ) : Type 0 where
  pub ends_long : h.interval_count ≤ length ends
  pub blocks_long : h.interval_count ≤ length blocks
  pub rise : (i : ℕ) → i < h.interval_count → before ends i < slice_index ends i
  pub last : before ends h.interval_count ≡ h.buckets
  pub blocks_below : (i : ℕ) → i < h.interval_count → slice_index blocks i < max_blocks

-- cell j of `sums` has the number of buckets that block j holds
pub record Held (h : Header) (ends blocks sums : List ℕ) : Type 0 where
  pub cell : (j : ℕ) → j < max_blocks → slice_index sums j ≡ held (table h (arrays [] ends blocks [])) j h.buckets

-- whether the adjustment of interval i is right
unfoldable pub adjusted : Header → Arrays → ℕ → Bool
adjusted h a i = slice_index a.adjustments i == adjustment_of h a i

-- the first i intervals walked, which end at `start`: `bad` is 0 where each adjustment is right, and then cell j of `sums` has the
-- number of their buckets that block j holds
pub record Walked (h : Header) (a : Arrays) (i start : ℕ) (sums : List ℕ) (bad : ℕ) : Type 0 where
  pub starts : start ≡ before a.ends i
  pub cells : length sums ≡ max_blocks
  pub right : nat_eq bad 0 ≡ all (adjusted h a) i
  pub cell : bad ≡ 0 → (j : ℕ) → j < max_blocks → slice_index sums j ≡ held (table h a) j start

-- all of them walked: rule 16, and where it is not broken what each block holds
pub record Walks (h : Header) (ends blocks adjustments : List ℕ) (r : Bool) (sums : List ℕ) : Type 0 where
  pub answer : r ≡ adjustments_wrong h (arrays [] ends blocks adjustments)
  pub holds : r ≡ false → Held h ends blocks sums

-- interval i met: whatever table it is of, it is walked after those before it
abbrev pub Meets : List ℕ → List ℕ → List ℕ → ℕ → ℕ → List ℕ → ℕ → List ℕ → Type 0
Meets ends blocks adjustments i start sums r sums' =
    (h : Header) → IntervalsRight h ends blocks → i < h.interval_count → (bad : ℕ)
    → Walked h (arrays [] ends blocks adjustments) i start sums bad
    → Walked h (arrays [] ends blocks adjustments) (i + 1) (slice_index ends i) sums' (bit_or bad r)

-- the table of a header and four lists
pub record TableOf (h : Header) (tops ends blocks adjustments : List ℕ) (t : FormedTable) : Type 0 where
  pub same_header : t.header ≡ h
  pub same_tops : t.tops.now ≡ tops
  pub same_ends : t.ends.now ≡ ends
  pub same_blocks : t.blocks.now ≡ blocks
  pub same_adjustments : t.adjustments.now ≡ adjustments
