-- The places of a row are the slots of its bucket: of its rank in its old block, and of its order number in the new one. Assumes nothing.
use Prim.Native.Nat.{ℕ, suc, ◌-◌, ◌^◌, ◌<◌}
use mathlib.Core.Path.{◌≡◌, refl, sym, ◌∙◌, ap}
use mathlib.Core.Bool.{true}
use mathlib.Core.List.{[]}
use native.Mathlib.Nat.{le_refl, sub-zero}
use native.Mathlib.Omega.{arith}
use lib.ListN.{get_or}
use Rattle.model.specs.Basics.{bit, count, before}
use Rattle.model.specs.Table.{Shape, Arrays, table, bins}
use Rattle.model.specs.Expansion.{some_fall, expanded, differs}
use Rattle.model.specs.Relocations.{row, rows}
use Rattle.model.specs.Calls.{rows_of}
use Rattle.model.specs.declared.table.Header.{Header}
use Rattle.model.proofs.Counts.{bit_le, sum_upper}
use Rattle.model.proofs.Intervals.{before_mono}
use Rattle.model.proofs.Wells.{adjustment_most, formed_well}
use Rattle.model.proofs.Growths.{accepted, some_more}
use Rattle.model.proofs.Rows.{row_at_lem, rows_falls, end_within, lent_place, moved_place}
use Rattle.table.specs.Placing.{placing, placing_at, Places, slot_of}
use Rattle.table.specs.declared.Placing.{Placing}
use Rattle.row_places.specs.Rows.{Listed, RowBucket, places_of, whole_row}
use Rattle.row_places.specs.declared.whole.Row.{Row}

module _ (h : Header) (a : Arrays) (s : Shape) (q : ℕ) (d : Listed h a s q) (i x : ℕ) (f : RowBucket h a s q i x) where
  falls : some_fall (table h a) s ≡ true
  unfolding rows_of
  falls = rows_falls h a s d.formed d.asked q d.below

  inside : x < h.buckets
  inside = omega (arith, f.end, end_within h a d.formed i f.interval)

  -- its block is one of the table's, and the bins are more than before
  pub block_bounds
      : (get_or a.blocks i 0 < h.block_count)
      × (before a.tops (get_or a.blocks i 0) < get_or a.tops (get_or a.blocks i 0) 0)
      × (get_or a.tops (get_or a.blocks i 0) 0 < 2 ^ 32)
  unfolding before
  block_bounds =
      let below = d.formed.blocks_below i f.interval in (
        below,
        d.formed.tops_rise (get_or a.blocks i 0) below,
        omega (
          arith,
          before_mono a.tops h.block_count d.formed.tops_rise h.block_count (suc (get_or a.blocks i 0)) below
              (le_refl _),
          d.formed.bin_limit,
        ),
      )

  pub bins_rise : (bins (table h a) < s.bins) × (s.bins < 2 ^ 32)
  bins_rise = (
    some_more (table h a) s (formed_well h a d.formed) (accepted (table h a) s d.asked) falls,
    omega (arith, (accepted (table h a) s d.asked).bin_limit),
  )

  pub old_places_lem : Places (placing_at a i) x
  old_places_lem =
      record {
        some = omega (arith, block_bounds);
        fits = omega (arith, block_bounds);
        ranked = omega (arith, adjustment_most h a d.formed i f.interval, f.start);
        limit = omega (arith, inside, d.formed.bucket_limit);
      }

  pub new_places_lem : Places (placing (bins (table h a)) (s.bins - bins (table h a)) 0) q
  unfolding count
  new_places_lem =
      record {
        some = omega (arith, bins_rise);
        fits = omega (arith, bins_rise);
        ranked = omega arith;
        limit =
            omega (
              arith,
              f.order,
              sum_upper (λ z. bit (differs (table h a) (expanded (table h a) s) z)) x 1 (λ z l. bit_le _),
              inside,
              d.formed.bucket_limit,
            );
      }

  pub whole_row_lem
      : (old new : Placing) → old ≡ placing_at a i → new ≡ placing (bins (table h a)) (s.bins - bins (table h a)) 0
      → record { bucket = x; places = record { old = slot_of old x; new = slot_of new q } } ≡ whole_row (get_or (rows_of h a s) q [])
  unfolding rows_of row table
  whole_row_lem old new e e' =
      let same = ap (λ n. get_or (rows (table h a) (expanded (table h a) s)) n []) (sym f.order) ∙ row_at_lem (table h a) (expanded (table h a) s) x inside f.moves in
      let (at, place) = lent_place h a d.formed i x f.interval f.start f.end in
      let (at', place') = moved_place h a s d.formed d.asked falls x inside f.moves in
      rw (same, e, e', at, place, at', place', f.order, sub-zero q) refl

  pub row_places_lem
      : (old new : Placing) → old ≡ placing_at a i → new ≡ placing (bins (table h a)) (s.bins - bins (table h a)) 0
      → record { old = slot_of old x; new = slot_of new q } ≡ places_of (get_or (rows_of h a s) q [])
  row_places_lem old new e e' = ap (λ (r : Row). r.places) (whole_row_lem old new e e')

  -- and its bucket
  pub row_bucket_lem : x ≡ get_or (get_or (rows_of h a s) q []) 0 0
  row_bucket_lem = ap (λ (r : Row). r.bucket) (whole_row_lem _ _ refl refl)
