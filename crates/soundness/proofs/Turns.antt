-- What rules 11 to 14 show of one turn of the walks of rules 15 and 16. Assumes nothing.
use Rattle.std.proofs.Common.{◌≡◌, ℕ, ◌+◌, ◌-◌, ◌<◌, ◌≤◌, List, get_or, set, refl, le_of_lt, arith}
use Rattle.model.specs.Basics.{before}
use Rattle.model.specs.Limits.{max_blocks}
use Rattle.model.specs.Table.{arrays}
use Rattle.model.specs.Due.{due_of_block}
use Rattle.model.specs.Balance.{due_below}
use Rattle.model.specs.declared.table.Header.{Header}
use Rattle.model.proofs.Dues.{Block_closed}
use Rattle.model.proofs.Holdings.{Sums, sums_below, sums_more, lent_shape, due_fits}
use Rattle.soundness.specs.Passed.{TopsRight, IntervalsRight}

-- there is a bin
pub bins_some : (h : Header) (tops : List ℕ) → TopsRight h tops → 0 < get_or tops (h.block_count - 1) 0
bins_some h tops p = omega (arith, p.some, p.rise (h.block_count - 1) (omega (arith, p.some)))

-- at block j: what the bins up to and including it are due is at most B, and is its due more than what those before it are
pub record DueTurn (h : Header) (tops : List ℕ) (j : ℕ) : Type 0 where
  pub fits : due_below (lent_shape h tops) (get_or tops j 0) ≤ h.buckets
  pub closed
      : due_of_block (lent_shape h tops) tops j + due_below (lent_shape h tops) (before tops j)
      ≡ due_below (lent_shape h tops) (get_or tops j 0)

pub due_turn : (h : Header) (tops : List ℕ) → TopsRight h tops → (j : ℕ) → j < h.block_count → DueTurn h tops j
due_turn h tops p j l =
    record {
      fits = due_fits h tops p.rise j l;
      closed = Block_closed (lent_shape h tops) tops j (le_of_lt (p.rise j l));
    }

-- at interval i: its block has a cell, it ends past its start, and the cell is at most the start
pub record Turn (ends blocks : List ℕ) (i start : ℕ) (sums : List ℕ) : Type 0 where
  pub block : get_or blocks i 0 < max_blocks
  pub later : start < get_or ends i 0
  pub within : get_or sums (get_or blocks i 0) 0 ≤ start

module _
    (h : Header) (tops ends blocks adjustments : List ℕ) (p : IntervalsRight h ends blocks) (i start : ℕ) (sums : List ℕ)
    (s : Sums h (arrays tops ends blocks adjustments) i start sums) (l : i < h.interval_count)
  where
    pub turn : Turn ends blocks i start sums
    turn =
        record {
          block = p.blocks_below i l;
          later = omega (arith, p.rise i l, s.starts);
          within = sums_below h (arrays tops ends blocks adjustments) i start sums s (get_or blocks i 0) (p.blocks_below i l);
        }

    -- the sums after the turn
    pub turned
        : Sums h (arrays tops ends blocks adjustments) (i + 1) (get_or ends i 0)
        (set sums (get_or blocks i 0) (get_or sums (get_or blocks i 0) 0 + (get_or ends i 0 - start)))
    turned =
        sums_more h (arrays tops ends blocks adjustments) i start (get_or blocks i 0) (get_or ends i 0)
        (get_or sums (get_or blocks i 0) 0 + (get_or ends i 0 - start))
        sums p.rise l s refl refl (p.blocks_below i l)
        (omega (arith, turn.later))
