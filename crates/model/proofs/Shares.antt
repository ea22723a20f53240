-- Laws of the dues before and after a growth, as arrays with a number for each block. Assumes nothing.
use Prim.Native.Nat.{ℕ, ◌+◌, ◌/◌, ◌≤◌, ◌<◌}
use mathlib.Core.Path.{◌≡◌, sym, ◌∙◌, ap}
use mathlib.Core.Logic.{⊎_elim}
use mathlib.Core.Bool.{false}
use mathlib.Core.List.{List}
use native.Mathlib.Nat.{mul-le-mul_right, div-add-mod, le_of_lt}
use native.Mathlib.Decide.{ℕ_discrete}
use native.Mathlib.Omega.{arith}
use lib.ListN.{length, get_or, set, get_or-eq_default}
use lib.Seq.{get_or-set_same, get_or-set_other}
use borrow.Author.Tests.{le-leb}
use Rattle.model.specs.Basics.{sum}
use Rattle.model.specs.Limits.{max_blocks}
use Rattle.model.specs.Table.{Shape, Table, bins, shape, first_bin, block_bins}
use Rattle.model.specs.Due.{due_of_bins, due_of_block}
use Rattle.model.specs.Expansion.{grown_tops, has, due_after, some_fall}
use Rattle.model.specs.Balance.{due_below}
use Rattle.model.proofs.Counts.{below_or}
use Rattle.model.proofs.Dues.{dues_below, dues_sum_lem, Block_closed}
use Rattle.model.proofs.Rules.{not_all}
use Rattle.model.proofs.Wells.{Well, some_bins_lem}
use Rattle.model.proofs.Growths.{
  Accepted,
  tops_same,
  top_new,
  before_old,
  due_old,
  length_more,
  block_limits,
  has_due,
  has_none,
  new_rise,
}

-- DUES OF BLOCKS

-- what the first m bins are due is at most B
pub due_within : (s : Shape) (m : ℕ) → m ≤ s.bins → due_below s m ≤ s.buckets
unfolding due_below
due_within s m l =
    omega (arith, mul-le-mul_right (s.buckets / s.bins) l, div-add-mod s.buckets s.bins)

-- past the last block nothing is due
pub due_past : (s : Shape) (tops : List ℕ) (j : ℕ) → length tops ≤ j → due_of_block s tops j ≡ 0
unfolding due_of_block due_of_bins block_bins sum
due_past s tops j l =
    let none : block_bins tops j ≡ 0 = omega (arith, get_or-eq_default tops 0 l) in
    ap (due_of_bins s (first_bin tops j)) none

-- BEFORE A GROWTH

-- a table's own sizes are allowed
same_accepted : (t : Table) → Well t → Accepted t (shape t)
unfolding shape
same_accepted t w =
    record {
      some_buckets = w.some_buckets;
      bucket_limit = w.bucket_limit;
      some_bins = some_bins_lem t w;
      bin_limit = w.bin_limit;
      bins_few = w.bins_few;
      more_buckets = omega arith;
      more_bins = omega arith;
      block_room = λ l. absurd (omega arith);
    }

-- every block has its due
pub has_dues : (t : Table) → Well t → (j : ℕ) → has t j ≡ due_of_block (shape t) t.tops j
has_dues t w j =
    ⊎_elim
    (λ l. has_due t (shape t) w (same_accepted t w) j l)
    (λ l. has_none t (shape t) w (same_accepted t w) j l ∙ sym (due_past (shape t) t.tops j l))
    (below_or j (length t.tops))

-- AFTER A GROWTH

module _ (t : Table) (s : Shape) where
  -- with no new block all are due what they are by the old tops
  pub after_same : s.bins ≤ bins t → (j : ℕ) → due_after t s j ≡ due_of_block s t.tops j
  unfolding due_after
  after_same l j = ap (λ tops. due_of_block s tops j) (tops_same t s l)

  module _ (w : Well t) (a : Accepted t s) (more : bins t < s.bins) where
    -- the new block is due what the old bins leave
    pub due_new : due_after t s (length t.tops) + due_below s (bins t) ≡ s.buckets
    unfolding due_after bins
    due_new =
        let g = length t.tops in
        omega (
          arith,
          Block_closed s (grown_tops t s) g (le_of_lt (new_rise t s w a g (omega (arith, length_more t s w a more)))),
          ap (due_below s) (before_old t s g (omega arith)),
          ap (due_below s) (top_new t s more),
          dues_below s s.bins,
          dues_sum_lem s a.some_bins,
        )

    -- there is room for it
    pub new_room : length t.tops < max_blocks
    new_room = omega (arith, length_more t s w a more, block_limits t s w a)

    -- so the array of the old blocks' dues, with the new block's
    pub After_more
        : (v : ℕ) (dues : List ℕ) → length dues ≡ max_blocks → v + due_below s (bins t) ≡ s.buckets
        → ((j : ℕ) → j < max_blocks → get_or dues j 0 ≡ due_of_block s t.tops j)
        → (j : ℕ) → j < max_blocks → get_or (set dues (length t.tops) v) j 0 ≡ due_after t s j
    unfolding due_after
    After_more v dues cells e d j l =
        let g = length t.tops in
        ⊎_elim
        (λ b. get_or-set_other dues g j v 0 (λ y. omega arith) ∙ d j l ∙ sym (due_old t s j b))
        (λ b.
        elim (ℕ_discrete j g) [
          | yes y ↦ rw y (get_or-set_same dues g v 0 (omega (arith, new_room)) ∙ omega (arith, due_new))
          | no n ↦
              get_or-set_other dues g j v 0 n
              ∙ d j l
              ∙ due_past s t.tops j b
              ∙ sym (due_past s (grown_tops t s) j (omega (arith, length_more t s w a more)))
        ])
        (below_or j g)

  -- WHETHER SOME BLOCK FALLS

  pub fall_none : ((j : ℕ) → j < length t.tops → has t j ≤ due_after t s j) → some_fall t s ≡ false
  unfolding some_fall
  fall_none up = not_all _ (length t.tops) (λ j l. le-leb (has t j) (due_after t s j) (up j l))
