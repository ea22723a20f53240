-- Laws of what a sheet's call answers on a formed table: 34, or the sheet. Assumes nothing.
use Prim.Native.Nat.{ℕ, ◌≤◌, ◌<◌}
use mathlib.Core.Path.{◌≡◌}
use mathlib.Core.List.{List}
use lib.ListN.{length}
use borrow.Author.Tests.{lt-ltb, le-ltb}
use Rattle.model.specs.Basics.{if◌then◌otherwise◌}
use Rattle.model.specs.Table.{Table, over}
use Rattle.model.specs.Refusal.{first}
use Rattle.model.specs.Sheet.{sheet, sheet_length}
use Rattle.model.specs.Calls.{answer, sheet_tests, sheet_answer, sheet_after}
use Rattle.model.specs.declared.table.Header.{Header}

module _ (h : Header) (t : Table) (buffer : List ℕ) where
  -- a buffer that is too short
  pub sheet_short_lem
      : length buffer < sheet_length h.interval_count
      → (record { refusal = 34; length = 0 } ≡ sheet_answer (first (sheet_tests h buffer)) h)
      × (buffer ≡ sheet_after (first (sheet_tests h buffer)) t buffer)
  unfolding sheet_tests sheet_answer sheet_after answer first if◌then◌otherwise◌
  sheet_short_lem l = (
    rw (lt-ltb (length buffer) (sheet_length h.interval_count) l),
    rw (lt-ltb (length buffer) (sheet_length h.interval_count) l),
  )

  -- and one that is not
  pub sheet_done
      : (n : ℕ) (out : List ℕ) → n ≡ sheet_length h.interval_count → sheet_length h.interval_count ≤ length buffer
      → out ≡ over (sheet t) buffer
      → (record { refusal = 0; length = n } ≡ sheet_answer (first (sheet_tests h buffer)) h)
      × (out ≡ sheet_after (first (sheet_tests h buffer)) t buffer)
  unfolding sheet_tests sheet_answer sheet_after answer first if◌then◌otherwise◌
  sheet_done n out e l f = (
    rw (le-ltb (length buffer) (sheet_length h.interval_count) l, e),
    rw (le-ltb (length buffer) (sheet_length h.interval_count) l) f,
  )
