-- The walk to a row's interval: how many rows before it are of intervals from here on. Assumes nothing.
use Prim.Native.Nat.{ℕ, ◌+◌, ◌-◌, min, max, ◌≤◌, ◌<◌}
use mathlib.Core.Path.{◌≡◌, refl, ap}
use mathlib.Core.Bool.{true}
use mathlib.Core.List.{List}
use native.Mathlib.Numerals.{add-one}
use native.Mathlib.Omega.{arith}
use lib.ListN.{get_or}
use Rattle.model.specs.Basics.{sum, count, before}
use Rattle.model.specs.Table.{Shape, Arrays, table}
use Rattle.model.specs.Expansion.{due_after, some_fall, expanded, differs}
use Rattle.model.specs.Relocations.{rows}
use Rattle.model.specs.Calls.{rows_of}
use Rattle.model.specs.declared.table.Header.{Header}
use Rattle.model.proofs.Tables.{lent_interval}
use Rattle.model.proofs.Wells.{adjustment_most}
use Rattle.model.proofs.Rows.{Cut, rows_order, rows_falls, part_moves, part_order}
use Rattle.row_places.specs.Rows.{Drains, RowBucket}

-- how many buckets below m move
abbrev order_at : Header → Arrays → Shape → ℕ → ℕ
order_at h a s m = count (differs (table h a) (expanded (table h a) s)) m

-- where the walk has come to interval i, which starts at `start`: `left` of the rows before row q are of intervals from i on
pub record Walk (h : Header) (a : Arrays) (s : Shape) (q i start left : ℕ) : Type 0 where
  pub within : i ≤ h.interval_count
  pub starts : start ≡ before a.ends i
  pub counted : left + order_at h a s start ≡ q

module _ (h : Header) (a : Arrays) (s : Shape) (dues : List ℕ) (q : ℕ) (d : Drains h a s dues q) where
  falls : some_fall (table h a) s ≡ true
  unfolding rows_of
  falls = rows_falls h a s d.row.formed d.row.asked q d.row.below

  pub walk_starts : Walk h a s q 0 0 q
  unfolding before count sum
  walk_starts = record { within = omega arith; starts = refl; counted = omega arith }

  module _ (i start left : ℕ) (w : Walk h a s q i start left) where
    -- the walk does not come to the end, since there is row q
    pub walk_ends : h.interval_count ≤ i → ⊥
    unfolding rows_of rows table
    walk_ends l =
        let same : i ≡ h.interval_count = omega (arith, w.within) in
        let last : start ≡ h.buckets = omega (arith, w.starts, ap (before a.ends) same, d.row.formed.last_end) in
        omega (
          arith,
          w.counted,
          d.row.below,
          ap (order_at h a s) last,
          rows_order (table h a) (expanded (table h a) s) h.buckets,
        )

    module _ (l : i < h.interval_count) where
      abbrev end : ℕ
      end = get_or a.ends i 0

      -- from where on interval i moves
      abbrev p : ℕ
      p = min end (max start (get_or dues (get_or a.blocks i 0) 0 + get_or a.adjustments i 0))

      pub walk_bounds : (get_or a.adjustments i 0 ≤ start) × (start ≤ end) × (get_or a.blocks i 0 < h.block_count)
      walk_bounds = (
        omega (arith, w.starts, adjustment_most h a d.row.formed i l),
        omega (arith, w.starts, d.row.formed.ends_rise i l),
        d.row.formed.blocks_below i l,
      )

      here : Cut (due_after (table h a) s (get_or a.blocks i 0)) (before a.ends i) (lent_interval a i) p
      here =
          let due = d.after (get_or a.blocks i 0) walk_bounds.2 in
          let starts = w.starts in
          let (low, rise, _) = walk_bounds in
          record {
            after = omega arith;
            within = omega arith;
            kept = λ x b e. omega arith;
            gone = λ x b e. omega arith;
          }

      order_at_lem : (x : ℕ) → p ≤ x → x ≤ end → order_at h a s x ≡ order_at h a s start + (x - p)
      order_at_lem x b e =
          omega (
            arith,
            part_order h a s d.row.formed d.row.asked falls i p l here x b e,
            ap (order_at h a s) w.starts,
          )

      -- row q is of this interval
      pub walk_found : left < end - p → RowBucket h a s q i (p + left)
      walk_found k =
          record {
            interval = l;
            start = omega (arith, w.starts, walk_bounds);
            end = omega arith;
            moves = part_moves h a s d.row.formed d.row.asked falls i p l here (p + left) (omega arith) (omega arith);
            order = omega (arith, order_at_lem (p + left) (omega arith) (omega arith), w.counted);
          }

      -- or of a later one
      pub walk_next : end - p ≤ left → Walk h a s q (i + 1) end (left - (end - p))
      unfolding before
      walk_next k =
          record {
            within = omega arith;
            starts = rw (add-one i) refl;
            counted = omega (arith, order_at_lem end (omega arith) (omega arith), w.counted);
          }
