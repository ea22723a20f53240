-- The rows of the parts of an interval that move, and what a page has of them. Assumes nothing.
use Rattle.std.specs.Prelude.{ℕ, ◌-◌, ◌*◌, ◌≤◌, ◌<◌, List, [], ◌∷◌, ◌++◌, ◌≡◌, true, eqb, length}
use Rattle.model.specs.Basics.{if◌then◌otherwise◌, from}
use Rattle.model.specs.Limits.{max_buckets}
use Rattle.model.specs.Table.{Shape, Interval, interval, Table}
use Rattle.model.specs.Refusal.{first}
use Rattle.model.specs.Expansion.{parts, some_fall, expanded}
use Rattle.model.specs.Relocations.{rows, page}
use Rattle.model.specs.Calls.{growth_tests}
use Rattle.model.specs.declared.plan.Action.{Action}
use Rattle.expansion_plan.specs.Shares.{DuesAfter}
use Rattle.table.specs.Placing.{placing, Places}
use Rattle.table.specs.declared.Placing.{Placing}
use Rattle.rows.specs.Spans.{placed_row, with_rows}

-- the rows of what moves of an interval that starts at `start`, from its parts: those of block g, which go from the places of
-- `old` to the d bins from f on
unfoldable pub part_rows : ℕ → Placing → ℕ → ℕ → ℕ → List Interval → List (List ℕ)
part_rows g old f d start [] = []
part_rows g old f d start (i ∷ rest) =
    (if eqb i.block g then from (placed_row old (placing f d i.adjustment)) start (i.end - start) otherwise [])
    ++ part_rows g old f d i.end rest

-- a buffer with those of the rows rs written into it that the page from order number q on has, where rs come after w others
unfoldable pub paged : ℕ → ℕ → List (List ℕ) → List ℕ → List ℕ
paged q w rs buffer = with_rows (w - q) (page (q - w) (length buffer - 5 * (w - q)) rs) buffer

-- buckets from p up to e that move, of which w have moved before
pub record Part (old new : Placing) (p e w : ℕ) : Type 0 where
  pub old_places : Places old p
  pub new_places : Places new p
  pub within : p ≤ e
  pub limit : e ≤ max_buckets
  pub ranked : p - new.adjustment ≡ w

-- parts of an interval that starts at `start`, of which the same holds for those of block g
abbrev pub PartsMove : ℕ → Placing → ℕ → ℕ → ℕ → ℕ → List Interval → Type 0
PartsMove g old f d w start [] = Unit {0}
PartsMove g old f d w start (i ∷ rest) =
    (i.block ≡ g → Part old (placing f d i.adjustment) start i.end w) × PartsMove g old f d w i.end rest

-- of the parts that an action makes of an interval, whatever its block and the new one
abbrev pub ActionMoves : Action → ℕ → ℕ → Placing → ℕ → ℕ → ℕ → Type 0
ActionMoves a start end old f d w =
    (block g : ℕ) → block < g → PartsMove g old f d w start (parts a (interval end block old.adjustment) g [])

-- the rows of a growth of t to s
abbrev pub moves_of : Table → Shape → List (List ℕ)
moves_of t s = rows t (expanded t s)

-- an accepted growth by which some old block is due less, with the dues after it
pub record Moves (t : Table) (s : Shape) (dues : List ℕ) : Type 0 where
  pub asked : first (growth_tests t s) ≡ 0
  pub falls : some_fall t s ≡ true
  pub after : DuesAfter t s dues
