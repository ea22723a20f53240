-- Laws of what a save answers on a formed table: 21, or the saved form. Assumes nothing.
use Prim.Native.Nat.{ℕ, ◌≤◌, ◌<◌}
use mathlib.Core.Path.{◌≡◌}
use mathlib.Core.List.{List}
use lib.ListN.{length}
use borrow.Author.Tests.{lt-ltb, le-ltb}
use Rattle.model.specs.Basics.{if◌then◌otherwise◌}
use Rattle.model.specs.Table.{Table, over}
use Rattle.model.specs.Refusal.{first}
use Rattle.model.specs.Saved.{saved, saved_length}
use Rattle.model.specs.Calls.{answer, save_tests}
use Rattle.model.specs.declared.table.Header.{Header}
use Rattle.file_save.specs.Saving.{save_answer, save_after}

module _ (h : Header) (t : Table) (buffer : List ℕ) where
  -- refused by the buffer's length
  pub save_short
      : length buffer < saved_length h.block_count h.interval_count
      → (record { refusal = 21; length = 0 } ≡ save_answer (first (save_tests h buffer)) h)
      × (buffer ≡ save_after (first (save_tests h buffer)) t buffer)
  unfolding save_tests answer first if◌then◌otherwise◌
  save_short l = (
    rw (lt-ltb (length buffer) (saved_length h.block_count h.interval_count) l),
    rw (lt-ltb (length buffer) (saved_length h.block_count h.interval_count) l),
  )

  -- accepted
  pub save_accepted
      : (n : ℕ) (out : List ℕ) → n ≡ saved_length h.block_count h.interval_count
      → saved_length h.block_count h.interval_count ≤ length buffer → out ≡ over (saved t) buffer
      → (record { refusal = 0; length = n } ≡ save_answer (first (save_tests h buffer)) h)
      × (out ≡ save_after (first (save_tests h buffer)) t buffer)
  unfolding save_tests answer first if◌then◌otherwise◌
  save_accepted n out e l f = (
    rw (le-ltb (length buffer) (saved_length h.block_count h.interval_count) l, e),
    rw (le-ltb (length buffer) (saved_length h.block_count h.interval_count) l) f,
  )
