-- What rule 11 shows of a file's arrays. Assumes nothing.
use Prim.Native.Nat.{ℕ, ◌+◌}
use mathlib.Core.List.{List}
use native.Mathlib.Omega.{arith}
use Rattle.model.specs.Saved.{number}
use Rattle.model.specs.declared.table.Header.{Header}
use Rattle.model.proofs.Tables.{length_from}
use Rattle.soundness.specs.Passed.{Counted as Rule11}
use Rattle.file_rules.specs.Judging.{file_arrays, Counted}

-- a file's arrays are as long as their counts
pub file_counted : (f : List ℕ) (h : Header) → Counted f h → Rule11 h (file_arrays f h).tops (file_arrays f h).ends (file_arrays f h).blocks
file_counted f h c =
    record {
      some_blocks = c.some_blocks;
      block_limit = c.block_limit;
      some_intervals = c.some_intervals;
      tops_long = omega (arith, length_from (number f) 3 h.block_count);
      ends_long = omega (arith, length_from (number f) (3 + h.block_count) h.interval_count);
      blocks_long = omega (arith, length_from (number f) (3 + h.block_count + h.interval_count) h.interval_count);
    }
