-- A row of the move list, as it is searched for. Assumes nothing.
use Rattle.std.specs.Prelude.{ℕ, ◌≤◌, ◌<◌, ◌≡◌, true, List, length, get_or}
use Rattle.model.specs.Basics.{count, before}
use Rattle.model.specs.Table.{Shape, Arrays, table}
use Rattle.model.specs.Refusal.{first}
use Rattle.model.specs.Sound.{Formed}
use Rattle.model.specs.Expansion.{due_after, expanded, differs}
use Rattle.model.specs.Calls.{growth_tests, rows_of}
use Rattle.model.specs.declared.table.Header.{Header}
use Rattle.row_places.specs.declared.RowPlaces.{RowPlaces}
use Rattle.row_places.specs.declared.whole.Row.{Row}

-- an accepted growth of a formed table, and the order number q of one of its rows
pub record Listed (h : Header) (a : Arrays) (s : Shape) (q : ℕ) : Type 0 where
  pub formed : Formed h a
  pub asked : first (growth_tests (table h a) s) ≡ 0
  pub below : q < length (rows_of h a s)

-- and what each old block is due after it
pub record Drains (h : Header) (a : Arrays) (s : Shape) (dues : List ℕ) (q : ℕ) : Type 0 where
  pub row : Listed h a s q
  pub long : h.block_count ≤ length dues
  pub after : (j : ℕ) → j < h.block_count → get_or dues j 0 ≡ due_after (table h a) s j

-- bucket x, of interval i, is that of row q: it moves, and so many moved buckets are below it
pub record RowBucket (h : Header) (a : Arrays) (s : Shape) (q i x : ℕ) : Type 0 where
  pub interval : i < h.interval_count
  pub start : before a.ends i ≤ x
  pub end : x < get_or a.ends i 0
  pub moves : differs (table h a) (expanded (table h a) s) x ≡ true
  pub order : count (differs (table h a) (expanded (table h a) s)) x ≡ q

-- the two places of a row
abbrev pub places_of : List ℕ → RowPlaces
places_of row =
    record {
      old = record { bin = get_or row 1 0; position = get_or row 2 0 };
      new = record { bin = get_or row 3 0; position = get_or row 4 0 };
    }

-- a whole row: its bucket, and its two places
abbrev pub whole_row : List ℕ → Row
whole_row row = record { bucket = get_or row 0 0; places = places_of row }
