use mathlib.Core.Path.{◌≡◌, ◌∙◌, ap}
use native.Mathlib.Omega.{arith}
use Prim.Native.Nat.{ℕ}
use Rattle.row_places.specs.declared.RowPlaces.{RowPlaces}
use Rattle.row_places.specs.Rows.{places_of}
use Rattle.mover.specs.Carry.{Growth, total, row_at, word_at, source, target}
use Rattle.mover.proofs.Replies.{copy_made}
use Rattle.mover.proofs.Spots.{source_below, target_below}
use Rattle.mover.proofs.carry_row.Goals as goal

-- the words of a row's places, as the code has them
row_words
    : (g : Growth) (m : ℕ) (r : RowPlaces) (i k : ℕ) → r ≡ places_of (row_at g m)
    → i ≡ word_at g.header.capacity r.old.bin r.old.position → k ≡ word_at g.header.capacity r.new.bin r.new.position
    → (i ≡ source g m) × (k ≡ target g m)
unfolding source target
row_words g m r i k places e f = (
  e ∙ ap (λ (r : RowPlaces). word_at g.header.capacity r.old.bin r.old.position) places,
  f ∙ ap (λ (r : RowPlaces). word_at g.header.capacity r.new.bin r.new.position) places,
)

pub row_places-places-requires-clause-order_in_bounds : goal.row_places-places-requires-clause-order_in_bounds
unfolding total
row_places-places-requires-clause-order_in_bounds c = c.requires.order_bound

pub copy_word-requires : goal.copy_word-requires
unfolding row_at
copy_word-requires c =
    let (from, to) = row_words _ _ _ _ _ c.row_places-places.ensures c.word_at-from.ensures c.word_at-to.ensures in
    let read = source_below _ _ c.requires.ready _ c.requires.order_bound in
    let write = target_below _ _ c.requires.ready _ c.requires.order_bound in
    (omega arith, omega arith)

pub returns : goal.returns
unfolding row_at
returns c =
    let (from, to) = row_words _ _ _ _ _ c.row_places-places.ensures c.word_at-from.ensures c.word_at-to.ensures in
    copy_made _ _ _ _ _ _ c.copy_word.ensures from to
