-- Laws of the rows of an interval by its action. Assumes nothing.
use Prim.Native.Nat.{ℕ, ◌-◌, ◌<◌}
use mathlib.Core.Path.{◌≡◌, refl, sym, subst}
use mathlib.Core.Logic.{◌⊎◌, ⊎_elim}
use mathlib.Core.List.{List, [], append-nil}
use native.Mathlib.Omega.{arith}
use lib.Seq.{drop-nil, take-nil}
use borrow.Author.Tests.{eq-eqb, ne_eqb}
use Rattle.model.specs.Basics.{if◌then◌otherwise◌, from}
use Rattle.model.specs.Table.{Interval, interval}
use Rattle.model.specs.Expansion.{parts}
use Rattle.model.specs.Relocations.{page}
use Rattle.model.specs.declared.plan.Action.{Action}
use Rattle.model.specs.declared.plan.Action.TheVariants.{Stay, Move, Split}
use Rattle.rows.specs.Spans.{placed_row}
use Rattle.relocations.specs.Parts.{part_rows, paged, Part, PartsMove}
use Rattle.table.specs.Placing.{placing}
use Rattle.table.specs.declared.Placing.{Placing}
use Rattle.rows.proofs.Spans.{with_none}

-- the parts of an interval of block b up to `end`, where what moves goes to block g
abbrev pub parts_of : Action → ℕ → Placing → ℕ → ℕ → List Interval
parts_of a end old b g = parts a (interval end b old.adjustment) g []

-- THEIR ROWS

module _ (a : Action) (start end : ℕ) (old : Placing) (f d b g : ℕ) (l : b < g) where
  -- none of one that stays; all of one that moves; those of the right part of one that splits
  pub rows_stay : a ≡ Stay → part_rows g old f d start (parts_of a end old b g) ≡ []
  unfolding parts part_rows if◌then◌otherwise◌
  rows_stay e = rw (e, ne_eqb b g (λ q. omega arith)) refl

  pub rows_move
      : (c : ℕ) → a ≡ Move c
      → part_rows g old f d start (parts_of a end old b g) ≡ from (placed_row old (placing f d c)) start (end - start)
  unfolding parts part_rows if◌then◌otherwise◌
  rows_move c e = rw (e, eq-eqb g g refl) (append-nil _)

  pub rows_split
      : (k c : ℕ) → a ≡ Split k c
      → part_rows g old f d start (parts_of a end old b g) ≡ from (placed_row old (placing f d c)) k (end - k)
  unfolding parts part_rows if◌then◌otherwise◌
  rows_split k c e = rw (e, ne_eqb b g (λ q. omega arith), eq-eqb g g refl) (append-nil _)

-- a page with none of them
pub paged_none : (q w : ℕ) (buffer : List ℕ) → buffer ≡ paged q w [] buffer
unfolding paged page
paged_none q w buffer = rw (drop-nil {A = List ℕ} (q - w), take-nil) (sym (with_none (w - q) buffer))

-- THE PART THAT MOVES

-- what moves begins at bucket p, and has the adjustment c
abbrev pub MovesFrom : Action → ℕ → ℕ → ℕ → Type 0
MovesFrom a start p c = (p ≡ start) × (a ≡ Move c) ⊎ (a ≡ Split p c)

module _
    (a : Action) (start end : ℕ) (old : Placing) (f d w p c : ℕ)
    (h : (b g : ℕ) → b < g → PartsMove g old f d w start (parts_of a end old b g)) where
  moving : (a' : Action) → a ≡ a' → PartsMove 1 old f d w start (parts_of a' end old 0 1)
  moving a' e = subst (λ a. PartsMove 1 old f d w start (parts_of a end old 0 1)) e (h 0 1 (omega arith))

  -- it is placed, and the order number of its first row is its rank in the new block
  pub moves_part : MovesFrom a start p c → Part old (placing f d c) p end w
  unfolding parts
  moves_part m = ⊎_elim (λ e. rw e.0 ((moving (Move c) e.1).0 refl)) (λ e. (moving (Split p c) e).1.0 refl) m

  pub moves_rows
      : (m : MovesFrom a start p c) (q : ℕ) (buffer : List ℕ) (b g : ℕ) → b < g
      → paged q (p - c) (from (placed_row old (placing f d c)) p (end - p)) buffer
      ≡ paged q w (part_rows g old f d start (parts_of a end old b g)) buffer
  moves_rows m q buffer b g l =
      let rows : part_rows g old f d start (parts_of a end old b g) ≡ from (placed_row old (placing f d c)) p (end - p) =
      ⊎_elim (λ e. rw e.0 (rows_move a start end old f d b g l c e.1)) (λ e. rows_split a start end old f d b g l p c e) m in
      rw (rows, (moves_part m).ranked) refl
