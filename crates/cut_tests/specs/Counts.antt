-- What a run counts. Assumes nothing.
use Rattle.std.specs.Prelude.{ℕ, ◌+◌, ◌-◌, ◌^◌, ◌≤◌, min, ◌==◌, not, List, slice_index, slice_set}
use Rattle.std.specs.Int.{from_bool}
use Rattle.model.specs.declared.reply.CarryReply.{CarryReply}
use Rattle.cut_tests.specs.declared.tally.Tally.{Tally}

-- no comparison is forgotten, and none that failed
pub record Keeps (old new : Tally) : Type 0 where
  pub comparisons : old.comparisons ≤ new.comparisons
  pub failed : old.failed ≤ new.failed

-- the counts other than those of comparisons
abbrev pub others : Tally → Tally
others tally = record tally { comparisons = 0; failed = 0 }

-- the counts with one more at place i, if there is one
abbrev pub counted : List ℕ → ℕ → List ℕ
counted counts i = slice_set counts i (min (slice_index counts i + 1) (2 ^ 32 - 1))

-- how many of a reply's three numbers are not the right ones
abbrev pub missed : CarryReply → CarryReply → ℕ
missed reply right =
    from_bool (not (reply.refusal == right.refusal))
    + from_bool (not (reply.mark == right.mark))
    + from_bool (not (reply.finished == right.finished))
