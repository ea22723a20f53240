-- A file that passes rule 11, and what is written of it. Assumes nothing.
use Rattle.std.specs.Prelude.{ℕ, ◌≡◌, false, List, take}
use Rattle.model.specs.Table.{Arrays, arrays, over}
use Rattle.model.specs.Refusal.{room_short}
use Rattle.model.specs.Saved.{loaded_header, file_wrong}
use Rattle.model.specs.declared.table.Header.{Header}
use Rattle.file_rules.specs.Judging.{file_arrays, Counted}

-- a file that passes 11 and says the header h, and arrays with room for any table
pub record Opened (f : List ℕ) (h : Header) (out : Arrays) : Type 0 where
  pub says : h ≡ loaded_header f h.capacity
  pub passes : file_wrong f h.capacity ≡ false
  pub counted : Counted f h
  pub room : room_short out ≡ false

-- a file's arrays, and adjustments as far as its table goes, over the first of the arrays `old`
abbrev pub out_over : List ℕ → Header → List ℕ → Arrays → Arrays
out_over f h adjustments old =
    arrays
    (over (file_arrays f h).tops old.tops)
    (over (file_arrays f h).ends old.ends)
    (over (file_arrays f h).blocks old.blocks)
    (over (take h.interval_count adjustments) old.adjustments)
