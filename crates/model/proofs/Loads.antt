-- Laws of a file that is read: its numbers as lists, the arrays that a table is written into, and rules 11 and 21. Assumes nothing.
use Prim.Native.Nat.{ℕ, ◌+◌, ◌-◌, ◌≤◌, ◌<◌}
use mathlib.Core.Path.{◌≡◌, refl, sym, ◌∙◌, ap}
use mathlib.Core.Bool.{Bool, true, false, not}
use mathlib.Core.List.{List, [], ◌∷◌, ◌++◌, map}
use native.Mathlib.Omega.{arith}
use lib.ListN.{length, get_or}
use lib.Seq.{take_all}
use borrow.Author.Tests.{ne_eqb}
use Rattle.model.specs.Basics.{◌or◌, from, before}
use Rattle.model.specs.Table.{Interval, Arrays, arrays, table, over, written}
use Rattle.model.specs.Saved.{saved_length, number, loaded_header, file_wrong}
use Rattle.model.specs.declared.table.Header.{Header}
use Rattle.model.proofs.Rules.{before_some}
use Rattle.model.proofs.Tables.{get_d_from, from_ext, from_append, from_get_d, map_from, lent_interval}

-- the last of n numbers from number i on is number m
pub number_last
    : (f : List ℕ) (i n m : ℕ) → 1 ≤ n → m + 1 ≡ i + n → before (from (number f) i n) n ≡ number f m
number_last f i n m l e =
    let last : i + (n - 1) ≡ m = omega arith in
    before_some (from (number f) i n) n l
    ∙ get_d_from (number f) i n (n - 1) 0 (omega arith)
    ∙ ap (number f) last

-- one more entry of a list that is counted out
pub from_next : (g : ℕ → ℕ) (i n : ℕ) → from g i (n + 1) ≡ from g i n ++ g (i + n) ∷ []
unfolding from
from_next g i n = sym (from_append g i n 1)

-- a table whose arrays are no longer than their counts is written as they stand
module _ (h : Header) (a : Arrays) where
  column
      : (g : Interval → ℕ) (xs : List ℕ) → ((i : ℕ) → g (lent_interval a i) ≡ get_or xs i 0) → length xs ≡ h.interval_count
      → map g (table h a).intervals ≡ xs
  unfolding table
  column g xs e l =
      map_from g (lent_interval a) 0 h.interval_count
      ∙ from_ext (λ i. g (lent_interval a i)) (λ i. get_or xs i 0) 0 h.interval_count (λ i p q. e i)
      ∙ from_get_d xs 0 h.interval_count (omega arith)
      ∙ take_all h.interval_count xs (omega arith)

  pub written_whole
      : (old : Arrays)
      → length a.tops ≡ h.block_count
      → length a.ends ≡ h.interval_count
      → length a.blocks ≡ h.interval_count
      → length a.adjustments ≡ h.interval_count
      → written (table h a) old
      ≡ arrays
      (over a.tops old.tops)
      (over a.ends old.ends)
      (over a.blocks old.blocks)
      (over a.adjustments old.adjustments)
  unfolding written table
  written_whole old t e b c =
      λ i.
      arrays
      (over (take_all h.block_count a.tops (omega (arith, t)) i) old.tops)
      (over (column (λ v. v.end) a.ends (λ i. refl) e i) old.ends)
      (over (column (λ v. v.block) a.blocks (λ i. refl) b i) old.blocks)
      (over (column (λ v. v.adjustment) a.adjustments (λ i. refl) c i) old.adjustments)

-- a file of fewer than 12 bytes is shorter than any saved map
pub or_second : (a b : Bool) → b ≡ true → a or b ≡ true
unfolding ◌or◌
or_second true b h = refl
or_second false b h = h

pub file_short : (f : List ℕ) (p : ℕ) → length f < 12 → file_wrong f p ≡ true
unfolding file_wrong saved_length
file_short f p l =
    or_second _ _
    (ap not
    (ne_eqb (length f) (saved_length (loaded_header f p).block_count (loaded_header f p).interval_count) (λ e. omega arith)))
