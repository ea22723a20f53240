-- Laws of ranks: a bucket's rank is the number of buckets of its block before it, so the buckets of a block have the ranks
-- from 0 on, each one of them once. Assumes nothing.
use Prim.Native.Nat.{ℕ, zero, suc, ◌+◌, ◌-◌, ◌*◌, ◌≤◌, ◌<◌}
use mathlib.Core.Path.{◌≡◌, refl, sym, ◌∙◌, ap}
use mathlib.Core.Logic.{⊎_elim}
use mathlib.Core.Bool.{Bool, true}
use mathlib.Core.List.{List}
use native.Mathlib.Nat.{not-suc-le-zero, zero-mul, one-mul}
use native.Mathlib.Omega.{arith}
use lib.Dec.{eqb}
use lib.ListN.{get_or}
use borrow.Author.Tests.{eq-eqb, eqb-true}
use Rattle.model.specs.Basics.{bit, sum, count, before}
use Rattle.model.specs.Table.{Arrays, table}
use Rattle.model.specs.Place.{block_of, rank, held}
use Rattle.model.specs.Refusal.{adjustment_of}
use Rattle.model.specs.Sound.{Formed}
use Rattle.model.specs.declared.table.Header.{Header}
use Rattle.model.proofs.Counts.{bit_cases, below_or, sum_suc, sum_split}
use Rattle.model.proofs.Intervals.{block_at, rank_at_lem, held_own, held_others}

-- THE NUMBERS THAT PASS A TEST

-- a sum over them by their ranks is a sum over the ranks
pub sum_ranks
    : (p : ℕ → Bool) (g : ℕ → ℕ) (n : ℕ) → sum (λ x. bit (p x) * g (count p x)) n ≡ sum g (count p n)
unfolding sum count
sum_ranks p g zero = refl
sum_ranks p g (suc n) =
    ⊎_elim
    (λ t.
    let one : count p n + bit (p n) ≡ suc (count p n) = omega arith in
    omega (arith, sum_ranks p g n, ap (sum g) one, ap (λ b. b * g (count p n)) t.1, one-mul (g (count p n))))
    (λ t.
    let none : count p n + bit (p n) ≡ count p n = omega arith in
    omega (arith, sum_ranks p g n, ap (sum g) none, ap (λ b. b * g (count p n)) t.1, zero-mul (g (count p n))))
    (bit_cases (p n))

-- their ranks rise
pub count_rises : (p : ℕ → Bool) (x z : ℕ) → p x ≡ true → x < z → count p x < count p z
unfolding count bit
count_rises p x z t l =
    let whole : suc x + (z - suc x) ≡ z = omega arith in
    omega (
      arith,
      ap (sum (λ x. bit (p x))) whole,
      sum_split (λ x. bit (p x)) (suc x) (z - suc x),
      sum_suc (λ x. bit (p x)) x,
      ap bit t,
    )

-- each rank below their number is the rank of one of them
pub count_reaches
    : (p : ℕ → Bool) (n r : ℕ) → r < count p n → (x : ℕ) × (x < n) × (p x ≡ true) × (count p x ≡ r)
unfolding count sum
count_reaches p zero r l = absurd (not-suc-le-zero l)
count_reaches p (suc n) r l =
    ⊎_elim
    (λ k. let (x, below, test, same) = count_reaches p n r k in (x, omega arith, test, same))
    (λ k. ⊎_elim (λ t. (n, omega arith, t.0, omega arith)) (λ t. absurd (omega arith)) (bit_cases (p n)))
    (below_or r (count p n))

-- THE RANKS OF A SOUND TABLE

-- a number below the last entry lies from one entry up to the next
pub entry_of
    : (xs : List ℕ) (n y : ℕ) → y < before xs n → (i : ℕ) × (i < n) × (before xs i ≤ y) × (y < get_or xs i 0)
unfolding before
entry_of xs zero y l = absurd (not-suc-le-zero l)
entry_of xs (suc n) y l =
    ⊎_elim
    (λ k. let (i, below, from, to) = entry_of xs n y k in (i, omega arith, from, to))
    (λ k. (n, omega arith, k, l))
    (below_or y (before xs n))

module _ (h : Header) (a : Arrays) (s : Formed h a) where
  -- the interval of a bucket
  pub interval_of_lem
      : (x : ℕ) → x < h.buckets
      → (i : ℕ) × (i < h.interval_count) × (before a.ends i ≤ x) × (x < get_or a.ends i 0)
  interval_of_lem x l = entry_of a.ends h.interval_count x (omega (arith, s.last_end))

  module _ (i x : ℕ) (l : i < h.interval_count) (b : before a.ends i ≤ x) (e : x < get_or a.ends i 0) where
    -- an adjustment and the buckets of the block before the interval make up its start
    adjustment_held
        : get_or a.adjustments i 0 + held (table h a) (get_or a.blocks i 0) (before a.ends i) ≡ before a.ends i
    unfolding adjustment_of
    adjustment_held = omega (arith, s.adjusted i l, held_others h a (get_or a.blocks i 0) (before a.ends i))

    -- a bucket is its rank and its interval's adjustment
    pub rank_adjusted : rank (table h a) x + get_or a.adjustments i 0 ≡ x
    rank_adjusted = omega (arith, rank_at_lem h a s.ends_rise i x l b e, adjustment_held)

    -- and its rank the number of buckets of the interval's block before it
    rank_own : rank (table h a) x ≡ held (table h a) (get_or a.blocks i 0) x
    rank_own =
        omega
        (arith, rank_adjusted, adjustment_held, held_own h a s.ends_rise i (get_or a.blocks i 0) x l b (omega arith) refl)

  -- the block of a bucket is one of the G blocks
  pub block_below_lem : (x : ℕ) → x < h.buckets → block_of (table h a) x < h.block_count
  block_below_lem x l =
      let (i, k, b, e) = interval_of_lem x l in
      omega (arith, block_at h a s.ends_rise i x k b e, s.blocks_below i k)

  -- a bucket's rank is the number of buckets of its block before it
  pub rank_held : (x : ℕ) → x < h.buckets → rank (table h a) x ≡ held (table h a) (block_of (table h a) x) x
  rank_held x l =
      let (i, k, b, e) = interval_of_lem x l in
      rank_own i x k b e ∙ ap (λ j. held (table h a) j x) (sym (block_at h a s.ends_rise i x k b e))

  -- a rank is below the number of the block's buckets up to any later bucket
  pub rank_before
      : (x z : ℕ) → x < h.buckets → x < z → rank (table h a) x < held (table h a) (block_of (table h a) x) z
  unfolding held
  rank_before x z l k =
      let j = block_of (table h a) x in
      omega (arith, rank_held x l, count_rises (λ x. eqb (block_of (table h a) x) j) x z (eq-eqb j j refl) k)

  -- so in a block ranks rise
  rank_less
      : (x z : ℕ) → x < z → z < h.buckets → block_of (table h a) x ≡ block_of (table h a) z
      → rank (table h a) x < rank (table h a) z
  rank_less x z l k e =
      omega (arith, rank_before x z (omega arith) l, rank_held z k, ap (λ j. held (table h a) j z) e)

  -- two buckets of one block and one rank are one
  pub rank_once
      : (x z : ℕ) → x < h.buckets → z < h.buckets
      → block_of (table h a) x ≡ block_of (table h a) z → rank (table h a) x ≡ rank (table h a) z → x ≡ z
  rank_once x z l k e r =
      ⊎_elim
      (λ m. absurd (omega (arith, rank_less x z m k e)))
      (λ m. ⊎_elim (λ n. absurd (omega (arith, rank_less z x n l (sym e)))) (λ n. omega arith) (below_or z x))
      (below_or x z)

  -- and every rank below the number of a block's buckets is the rank of one of them
  pub rank_reached
      : (j r : ℕ) → r < held (table h a) j h.buckets
      → (x : ℕ) × (x < h.buckets) × (block_of (table h a) x ≡ j) × (rank (table h a) x ≡ r)
  unfolding held
  rank_reached j r l =
      let (x, below, test, same) = count_reaches (λ x. eqb (block_of (table h a) x) j) h.buckets r l in
      let block = eqb-true (block_of (table h a) x) j test in
      (x, below, block, rank_held x below ∙ ap (λ j. held (table h a) j x) block ∙ same)
