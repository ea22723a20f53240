-- What loading is given and what it leaves. Assumes nothing.
use Rattle.std.specs.Prelude.{ℕ, ◌≤◌, ◌≡◌, List, length, take}
use Rattle.model.specs.Basics.{from}
use Rattle.model.specs.Table.{Arrays, table}
use Rattle.model.specs.Refusal.{first, adjustment_of}
use Rattle.model.specs.Saved.{loaded_header, loaded_arrays}
use Rattle.model.specs.Calls.{arrays_after, load_tests}
use Rattle.model.specs.declared.table.Header.{Header}
use Rattle.file_rules.specs.Judging.{file_arrays, array_tests}
use Rattle.file_read.specs.Opening.{Opened}

-- one that passes 12 to 15 too, its tops, and an array that begins with its adjustments
pub record Judged (f : List ℕ) (h : Header) (tops adjustments : List ℕ) (out : Arrays) : Type 0 where
  pub opened : Opened f h out
  pub passes : first (array_tests h (file_arrays f h)) ≡ 0
  pub read : tops ≡ (file_arrays f h).tops
  pub long : h.interval_count ≤ length adjustments
  pub adjusted : take h.interval_count adjustments ≡ from (adjustment_of h (file_arrays f h)) 0 h.interval_count

-- what a file, loaded with the capacity p, leaves of the arrays `old`
unfoldable pub loaded_over : List ℕ → ℕ → Arrays → Arrays
loaded_over f p old = arrays_after (first (load_tests f p)) (table (loaded_header f p) (loaded_arrays f p)) old

-- a file's refusal r, and the arrays that it leaves
pub record Loaded (f : List ℕ) (p : ℕ) (old : Arrays) (r : ℕ) (left : Arrays) : Type 0 where
  pub refusal : r ≡ first (load_tests f p)
  pub lent : left ≡ loaded_over f p old
