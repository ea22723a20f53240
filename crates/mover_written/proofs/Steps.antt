-- Laws of a call's row, as the code has it: it is done by a copy, or is that of a blank bucket. Assumes nothing.
use Prim.Native.Nat.{ℕ, ◌*◌, ◌≤◌, ◌<◌}
use mathlib.Core.Path.{◌≡◌, sym, ◌∙◌, ap, ap₂}
use mathlib.Core.Bool.{true, false}
use mathlib.Core.List.{List, []}
use native.Mathlib.Omega.{arith}
use lib.ListN.{length, get_or, set}
use Rattle.model.specs.Table.{Shape, arrays}
use Rattle.model.specs.Calls.{rows_of}
use Rattle.model.specs.declared.table.Header.{Header}
use Rattle.table.specs.Formed.{arrays_of}
use Rattle.table.specs.declared.formed.FormedTable.{FormedTable}
use Rattle.soundness.specs.Passed.{TableOf}
use Rattle.row_places.specs.Rows.{whole_row}
use Rattle.row_places.specs.declared.whole.Row.{Row}
use Rattle.mover_written.specs.Carry.{Growth, Told, every, bits, is_written, row_at, bucket_at, total, source, target, carry_refusal, carry_words}
use Rattle.mover_written.specs.Run.{Enough}
use Rattle.mover_written.specs.Steps.{Bit, from_of, to_of}
use Rattle.mover_written.proofs.Copies.{step_copy, step_none}
use Rattle.mover_written.proofs.Replies.{same_growth, words_more}
use Rattle.mover_written.proofs.Spots.{accepted_ready, mover, source_below, target_below}

-- where a call is told enough, an old bucket's bit is there
bit_there : (g : Growth) (told : Told) (x : ℕ) → Enough g told → x < g.header.buckets → Bit told x
bit_there g every x e l = tt
bit_there g (bits ws) x e l =
    let long : g.header.buckets ≤ 64 * length ws = e in
    omega arith

-- an accepted call whose mark is not the total has a row
pub row_below
    : (g : Growth) (told : Told) (ws : List ℕ) (m : ℕ) → carry_refusal g told ws m ≡ 0 → (n : ℕ) → n ≡ total g → (n ≡ m → ⊥)
    → m < total g
row_below g told ws m ok n e other = omega (arith, (accepted_ready g told ws m ok).2)

-- that of the table that is checked
pub same_row
    : (h : Header) (tops ends blocks adjustments : List ℕ) (s : Shape) (t : FormedTable) → TableOf h tops ends blocks adjustments t
    → (r : Row) (m : ℕ) → r ≡ whole_row (get_or (rows_of t.header (arrays_of t) s) m [])
    → r ≡ whole_row (get_or (rows_of h (arrays tops ends blocks adjustments) s) m [])
same_row h tops ends blocks adjustments s t e r m row =
    row
    ∙ ap (λ (g : Growth). whole_row (get_or (rows_of g.header g.arrays g.sizes) m [])) (same_growth h tops ends blocks adjustments s t e)

-- the row of order number m, whose bucket and places are r
module _
    (g : Growth) (told : Told) (ws : List ℕ) (m : ℕ) (ok : carry_refusal g told ws m ≡ 0) (below : m < total g) (r : Row)
    (e : r ≡ whole_row (get_or (rows_of g.header g.arrays g.sizes) m [])) where
  abbrev p : ℕ
  p = g.header.capacity

  from_source : from_of p r.places ≡ source g m
  unfolding source row_at
  from_source = ap (λ (r : Row). from_of p r.places) e

  to_target : to_of p r.places ≡ target g m
  unfolding target row_at
  to_target = ap (λ (r : Row). to_of p r.places) e

  row_bucket : r.bucket ≡ bucket_at g m
  unfolding row_at
  row_bucket = ap (λ (r : Row). r.bucket) e

  -- its bit is there, and so are its words
  pub row_bit : Bit told r.bucket
  row_bit =
      let (_, enough, _) = accepted_ready g told ws m ok in
      let b = mover g m below in
      bit_there g told r.bucket enough (omega (arith, row_bucket, b.at, b.moves.0))

  pub row_within : (from_of p r.places < length ws) × (to_of p r.places < length ws)
  row_within =
      let (ready, _, _) = accepted_ready g told ws m ok in (
        omega (arith, from_source, source_below g ws ready m below),
        omega (arith, to_target, target_below g ws ready m below),
      )

  -- copied, where the bucket is written
  pub row_copied
      : (left : List ℕ) → left ≡ set ws (to_of p r.places) (get_or ws (from_of p r.places) 0) → is_written told r.bucket ≡ true
      → left ≡ carry_words g told ws m
  row_copied left d w =
      d
      ∙ ap₂ (λ i k. set ws k (get_or ws i 0)) from_source to_target
      ∙ sym
      (words_more g told ws m ok below
      ∙ step_copy _ _ (λ q. is_written told (bucket_at g q)) m ws (ap (is_written told) (sym row_bucket) ∙ w))

  -- and not, where it is blank
  pub row_blank : is_written told r.bucket ≡ false → ws ≡ carry_words g told ws m
  row_blank w =
      sym
      (words_more g told ws m ok below
      ∙ step_none _ _ (λ q. is_written told (bucket_at g q)) m ws (ap (is_written told) (sym row_bucket) ∙ w))
