-- The places of a growth's new map: its bins are those asked for and its positions below P, however many intervals it has. Assumes nothing.
use Prim.Native.Nat.{ℕ, suc, ◌+◌, ◌*◌, ◌/◌, ◌≤◌, ◌<◌}
use mathlib.Core.Path.{◌≡◌, refl, sym, subst}
use mathlib.Core.Logic.{⊎_elim}
use mathlib.Core.Bool.{false}
use mathlib.Core.List.{List}
use native.Mathlib.Nat.{mul_comm, mod-lt, div-lt_iff_lt-mul}
use native.Mathlib.Omega.{arith}
use lib.Dec.{eqb}
use lib.ListN.{length}
use borrow.Author.Tests.{eq-eqb}
use Rattle.model.specs.Basics.{before}
use Rattle.model.specs.Table.{Shape, Interval, Table, first_bin, block_bins}
use Rattle.model.specs.Place.{rank, bin, position, size}
use Rattle.model.specs.Due.{due, due_of_bins, due_of_block}
use Rattle.model.specs.Refusal.{overfills}
use Rattle.model.specs.Expansion.{grown_tops, due_after, some_fall, filled, drained, expanded}
use Rattle.model.proofs.Counts.{bit_cases, sum_upper}
use Rattle.model.proofs.Intervals.{before_mono}
use Rattle.model.proofs.Ranks.{count_rises}
use Rattle.model.proofs.Capacities.{due_first, due_within}
use Rattle.model.proofs.Wells.{Well}
use Rattle.model.proofs.Growths.{Accepted, tops_last, new_rise, none_falls, Grown}
use Rattle.model.proofs.Filled.{filled_block, filled_grown}
use Rattle.model.proofs.Drained.{drained_block, drained_grown}
use Rattle.model.proofs.Expanded.{grown_table, grown_placed, grown_block, expanded_drained, expanded_filled}

-- d bins are due at most d times what the first bin is
dues_most : (s : Shape) (f d : ℕ) → due_of_bins s f d ≤ d * due s 0
unfolding due_of_bins
dues_most s f d = sum_upper (λ i. due s (f + i)) d (due s 0) (λ i l. due_first s (f + i))

-- a place of the sizes s, where the capacity is p
abbrev pub Fits : ℕ → Shape → Table → ℕ → Type 0
Fits p s t x = (bin t x < s.bins) × (position t x < p)

module _
    (t : Table) (s : Shape) (w : Well t) (a : Accepted t s) (roomy : overfills t.capacity s ≡ false)
    (b : ℕ → ℕ) (is : List Interval) (g : Grown t s b is) (x : ℕ) (l : x < s.buckets) where
  abbrev j : ℕ
  j = b x

  abbrev d : ℕ
  d = block_bins (grown_tops t s) j

  below : j < length (grown_tops t s)
  below = (grown_placed t s b is g x l).below

  -- the rank is below what the block holds, its due
  ranked : size b x j < d * due s 0
  unfolding size due_after due_of_block
  ranked =
      omega (
        arith,
        count_rises (λ z. eqb (b z) j) x s.buckets (eq-eqb (b x) j refl) l,
        g.dues j below,
        dues_most s (first_bin (grown_tops t s) j) d,
      )

  -- the block has a bin, and its bins are among those asked for
  within : (1 ≤ d) × (first_bin (grown_tops t s) j + d ≤ s.bins)
  unfolding first_bin block_bins before
  within =
      let rise = new_rise t s w a j below in
      let last =
      before_mono (grown_tops t s) (length (grown_tops t s)) (new_rise t s w a) (length (grown_tops t s)) (suc j) below (omega arith) in
      (omega arith, omega (arith, tops_last t s w a))

  pub grown_fits : Fits t.capacity s (grown_table t s is) x
  unfolding bin position rank
  grown_fits =
      let r = size b x j in
      let high : r / d < due s 0 = (div-lt_iff_lt-mul {k = d} within.0).1 (omega (arith, ranked, mul_comm d (due s 0))) in
      rw (grown_block t s b is g x l, (grown_placed t s b is g x l).rank) (
        omega (arith, within, mod-lt r within.0),
        omega (arith, high, due_within t.capacity s roomy 0 a.some_bins),
      )

-- so are those of the new map
pub expanded_fits
    : (t : Table) (s : Shape) → Well t → Accepted t s → overfills t.capacity s ≡ false
    → (x : ℕ) → x < s.buckets → Fits t.capacity s (expanded t s) x
expanded_fits t s w a roomy x l =
    ⊎_elim
    (λ e.
    subst (λ u. Fits t.capacity s u x) (sym (expanded_drained t s e.0))
    (grown_fits t s w a roomy (drained_block t s) (drained t s) (drained_grown t s w a e.0) x l))
    (λ e.
    subst (λ u. Fits t.capacity s u x) (sym (expanded_filled t s e.0))
    (grown_fits t s w a roomy (filled_block t s) (filled t s) (filled_grown t s w a (none_falls t s w a e.0)) x l))
    (bit_cases (some_fall t s))
