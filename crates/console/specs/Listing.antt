-- Document 01, 'The program rackmap': the `move` lines of the latest growth, page by page. Assumes nothing.
use Rattle.std.specs.Prelude.{ℕ, ◌+◌, ◌*◌, ◌/◌, ◌≤◌, ◌≡◌, List, [], ◌∷◌, length, get_or}
use Rattle.std.proofs.lemmas.List.Edits.{sets}
use Rattle.model.specs.Basics.{from, joined}
use Rattle.model.specs.Table.{Shape, Table, over}
use Rattle.model.specs.Refusal.{first}
use Rattle.model.specs.Expansion.{expanded}
use Rattle.model.specs.Relocations.{rows, page}
use Rattle.model.specs.Calls.{growth_tests}
use Rattle.model.specs.Console.{move_text}
use Rattle.print.specs.Numbers.{line_room, move_room}
use Rattle.console.specs.declared.Page.{Page}

-- row i of a list of numbers, five to a row
unfoldable pub row_at : List ℕ → ℕ → List ℕ
row_at xs i =
    get_or xs (5 * i) 0
    ∷ get_or xs (5 * i + 1) 0
    ∷ get_or xs (5 * i + 2) 0
    ∷ get_or xs (5 * i + 3) 0
    ∷ get_or xs (5 * i + 4) 0
    ∷ []

-- the first n rows
unfoldable pub rows_in : List ℕ → ℕ → List (List ℕ)
rows_in xs n = from (row_at xs) 0 n

-- the lines of n rows have room in a buffer of bytes; and those of all rows that fit into a buffer of numbers
abbrev pub Lines : ℕ → List ℕ → Type 0
Lines n out = move_room * n + line_room ≤ length out

abbrev pub Room : List ℕ → List ℕ → Type 0
Room rows out = Lines (length rows / 5) out

-- the rows of the growth of t to the sizes s; an accepted one, with at least q rows
abbrev pub growth_rows : Table → Shape → List (List ℕ)
growth_rows t s = rows t (expanded t s)

abbrev pub Growth : Table → Shape → ℕ → Type 0
Growth t s q = (first (growth_tests t s) ≡ 0) × (q ≤ length (growth_rows t s))

-- a page of the rows rs from order number q on, as many as fit into the buffer, which is left as `after`; its text is stored
-- from the first byte of `old` on, where it has room
pub record Listed (rs : List (List ℕ)) (q : ℕ) (buffer after old new : List ℕ) (r : Page) : Type 0 where
  pub rows : r.rows ≡ length (page q (length buffer) rs)
  pub total : r.total ≡ length rs
  pub numbers : after ≡ over (joined (page q (length buffer) rs)) buffer
  pub size : r.length ≡ length (move_text (page q (length buffer) rs))
  pub fits : r.length ≤ length old
  pub bytes : new ≡ sets old 0 (move_text (page q (length buffer) rs))
