-- Laws of places: the block of a bin, that every bin of a formed table holds its due size, and that the mapping is balanced.
-- Assumes nothing.
use Prim.Native.Nat.{ℕ, zero, suc, ◌+◌, ◌-◌, ◌*◌, ◌/◌, ◌%◌, min, ◌≤◌, ◌<◌}
use mathlib.Core.Path.{◌≡◌, refl, sym, ◌∙◌, ap}
use mathlib.Core.Logic.{⊎_elim}
use mathlib.Core.List.{List, [], ◌∷◌}
use native.Mathlib.Nat.{
  not-suc-le-zero,
  zero-mul,
  one-mul,
  suc-mul,
  add-mul,
  mul-le-mul_right,
  div-add-mod',
  mod-lt,
  div_self,
  mod_self,
  div-eq_of_lt,
  mod-eq_of_lt,
  mul-add-div,
  mul-add-mod_self_left,
}
use native.Mathlib.Decide.{ℕ_discrete}
use native.Mathlib.Omega.{arith}
use lib.Dec.{ltb, eqb}
use lib.ListN.{get_or, take}
use lib.Seq.{get_or-take, length-take-le}
use borrow.Author.Tests.{lt-ltb, le-ltb}
use Rattle.model.specs.Basics.{if◌then◌otherwise◌, bit, count, before}
use Rattle.model.specs.Table.{Shape, bins, shape, first_bin, block_bins, Arrays, table}
use Rattle.model.specs.Place.{block_of, rank, bin, held, size, bin_size}
use Rattle.model.specs.Search.{block_of_bin}
use Rattle.model.specs.Due.{due, due_of_bins, due_of_block}
use Rattle.model.specs.Balance.{due_below}
use Rattle.model.specs.Sound.{Formed}
use Rattle.model.specs.TableClaims.{SizeDue, TableBalanced}
use Rattle.model.specs.declared.table.Header.{Header}
use Rattle.model.proofs.Counts.{bit_lt, bit_ge, bit_le, bit_eq, bit_ne, below_or, sum_ext}
use Rattle.model.proofs.Dues.{due_more, due_less, closed_form_lem}
use Rattle.model.proofs.Balances.{modulo_size, shaped}
use Rattle.model.proofs.Intervals.{Rising, before_mono}
use Rattle.model.proofs.Ranks.{sum_ranks, entry_of, block_below_lem, rank_held}

-- two tests of equality that agree
bit_same : (a b c d : ℕ) → (a ≡ b → c ≡ d) → (c ≡ d → a ≡ b) → bit (eqb a b) ≡ bit (eqb c d)
bit_same a b c d f g =
    elim (ℕ_discrete a b) [
      | yes e ↦ bit_eq a b e ∙ sym (bit_eq c d (f e))
      | no e ↦ bit_ne a b e ∙ sym (bit_ne c d (λ q. e (g q)))
    ]

-- DUES

-- a due as B / n and a bit
due_bit : (s : Shape) (y : ℕ) → due s y ≡ s.buckets / s.bins + bit (ltb y (s.buckets % s.bins))
due_bit s y =
    ⊎_elim
    (λ l. omega (arith, due_more s y l, bit_lt y (s.buckets % s.bins) l))
    (λ l. omega (arith, due_less s y l, bit_ge y (s.buckets % s.bins) l))
    (below_or y (s.buckets % s.bins))

-- d bins that share q each and e more
due_shared : (d q e m : ℕ) → m < d → e ≤ d → due (shaped (d * q + e) d) m ≡ q + bit (ltb m e)
due_shared d q e m l k =
    ⊎_elim
    (λ n.
    omega (
      arith,
      due_bit (shaped (d * q + e) d) m,
      mul-add-div some q e,
      div-eq_of_lt n,
      ap (λ r. bit (ltb m r)) (mul-add-mod_self_left d q e ∙ mod-eq_of_lt n),
    ))
    (λ n.
    let full : e ≡ d = omega arith in
    omega (
      arith,
      due_bit (shaped (d * q + e) d) m,
      mul-add-div some q e,
      ap (λ e. e / d) full,
      div_self some,
      ap (λ r. bit (ltb m r)) (mul-add-mod_self_left d q e ∙ ap (λ e. e % d) full ∙ mod_self d),
      bit_ge m 0 (omega arith),
      bit_lt m e (omega arith),
    ))
    (below_or e d)
  where
    some : 1 ≤ d
    some = omega arith

-- what d bins from f on are due, shared out among d bins, gives each its due
due_part : (s : Shape) (f d m : ℕ) → m < d → due (shaped (due_of_bins s f d) d) m ≡ due s (f + m)
unfolding due_below
due_part s f d m l =
    let q = s.buckets / s.bins in
    let r = s.buckets % s.bins in
    let e = min (f + d) r - min f r in
    let whole : due_of_bins s f d ≡ d * q + e = omega (arith, closed_form_lem s f d, add-mul f d q) in
    ap (λ b. due (shaped b d) m) whole
    ∙ due_shared d q e m l (omega arith)
    ∙ ap (λ b. q + b)
    (⊎_elim
    (λ k. bit_lt m e (omega arith) ∙ sym (bit_lt (f + m) r k))
    (λ k. bit_ge m e (omega arith) ∙ sym (bit_ge (f + m) r k))
    (below_or (f + m) r))
    ∙ sym (due_bit s (f + m))

-- the numbers below b that are m modulo n are p * n + m for the p below the due of bin m
module _ (b n m : ℕ) (l : m < n) where
  -- that due is b / n rounded up past m
  due_bounds : (b ≤ due (shaped b n) m * n + m) × (due (shaped b n) m * n + m < b + n)
  due_bounds =
      ⊎_elim
      (λ k.
      omega (
        arith,
        ap (λ v. v * n) (due_more (shaped b n) m k),
        add-mul (b / n) 1 n,
        one-mul n,
        div-add-mod' b n,
        mod-lt b {m = n} (omega arith),
      ))
      (λ k.
      omega (
        arith,
        ap (λ v. v * n) (due_less (shaped b n) m k),
        div-add-mod' b n,
        mod-lt b {m = n} (omega arith),
      ))
      (below_or m (b % n))

  pub below_due : (p : ℕ) → p * n + m < b → p < due (shaped b n) m
  below_due p k =
      ⊎_elim
      (λ e. e)
      (λ e. absurd (omega (arith, due_bounds, mul-le-mul_right n e)))
      (below_or p (due (shaped b n) m))

  pub due_below_lem : (p : ℕ) → p < due (shaped b n) m → p * n + m < b
  due_below_lem p k = omega (arith, due_bounds, mul-le-mul_right n k, suc-mul p n)

-- THE BLOCK OF A BIN

-- the first top past a bin is its block's
Block_of
    : (xs : List ℕ) (j y : ℕ) → ((i : ℕ) → i < j → get_or xs i 0 ≤ y) → y < get_or xs j 0 → block_of_bin xs y ≡ j
unfolding block_of_bin if◌then◌otherwise◌
Block_of [] j y before after = absurd (not-suc-le-zero after)
Block_of (x ∷ xs) zero y before after = rw (lt-ltb y x after)
Block_of (x ∷ xs) (suc j) y before after =
    rw (le-ltb y x (before 0 (omega arith))) (ap suc (Block_of xs j y (λ i l. before (suc i) (omega arith)) after))

-- taking a list's first n entries changes none of those
before_take : (n : ℕ) (xs : List ℕ) (j : ℕ) → j ≤ n → before (take n xs) j ≡ before xs j
unfolding before
before_take n xs zero l = refl
before_take n xs (suc j) l = get_or-take n xs j 0 l

module _ (h : Header) (a : Arrays) (s : Formed h a) where
  -- the tops of the table rise, and the last of them is the number of bins
  tops_rise_lem : Rising (table h a).tops h.block_count
  unfolding table
  tops_rise_lem j l =
      omega (
        arith,
        s.tops_rise j l,
        before_take h.block_count a.tops j (omega arith),
        get_or-take h.block_count a.tops j 0 l,
      )

  bins_last : bins (table h a) ≡ before (table h a).tops h.block_count
  unfolding bins table
  bins_last =
      ap (before (take h.block_count a.tops)) (length-take-le h.block_count a.tops s.tops_long)

  -- a block holds what its bins are due
  held_due
      : (j : ℕ) → j < h.block_count
      → held (table h a) j h.buckets
      ≡ due_of_bins (shape (table h a)) (first_bin (table h a).tops j) (block_bins (table h a).tops j)
  unfolding due_of_block first_bin block_bins table
  held_due j l =
      rw
      (before_take h.block_count a.tops j (omega arith), get_or-take h.block_count a.tops j 0 l)
      (s.holdings j l)

  -- no block is without a bin
  pub some_bins_lem : (j : ℕ) → j < h.block_count → 1 ≤ block_bins (table h a).tops j
  unfolding block_bins first_bin
  some_bins_lem j l = omega (arith, tops_rise_lem j l)

  -- a bin from the first one of block j on, and before the next block's, is of block j
  pub bin_within
      : (j m : ℕ) → j < h.block_count → m < block_bins (table h a).tops j
      → (block_of_bin (table h a).tops (first_bin (table h a).tops j + m) ≡ j)
      × (first_bin (table h a).tops j + m < bins (table h a))
  unfolding block_bins first_bin before
  bin_within j m l k = (
    Block_of (table h a).tops j (before (table h a).tops j + m)
        (λ i n. omega (arith, rising j (suc i) n (omega arith)))
        (omega arith),
    omega (arith, bins_last, rising h.block_count (suc j) l (omega arith)),
  )
    where
      rising : (j i : ℕ) → i ≤ j → j ≤ h.block_count → before (table h a).tops i ≤ before (table h a).tops j
      rising = before_mono (table h a).tops h.block_count tops_rise_lem

  -- and every bin is of a block
  pub bin_block
      : (y : ℕ) → y < bins (table h a)
      → (j : ℕ) × (m : ℕ) × (j < h.block_count) × (m < block_bins (table h a).tops j) × (y ≡ first_bin (table h a).tops j + m)
  unfolding block_bins first_bin
  bin_block y l =
      let (j, k, from, to) = entry_of (table h a).tops h.block_count y (omega (arith, bins_last)) in
      (j, y - before (table h a).tops j, k, omega arith, omega arith)

  -- the bin of a bucket, by its block
  bin_held
      : (x : ℕ) → x < h.buckets → (j : ℕ) → block_of (table h a) x ≡ j
      → bin (table h a) x ≡ first_bin (table h a).tops j + held (table h a) j x % block_bins (table h a).tops j
  unfolding bin
  bin_held x l j e =
      rw (rank_held h a s x l, e)

  -- and it is a bin of that block
  pub bin_of_lem
      : (x : ℕ) → x < h.buckets
      → (block_of_bin (table h a).tops (bin (table h a) x) ≡ block_of (table h a) x) × (bin (table h a) x < bins (table h a))
  unfolding bin
  bin_of_lem x l =
      let below = block_below_lem h a s x l in
      bin_within (block_of (table h a) x) _ below (mod-lt (rank (table h a) x) (some_bins_lem (block_of (table h a) x) below))

  module _ (j m : ℕ) (l : j < h.block_count) (k : m < block_bins (table h a).tops j) where
    -- the buckets of a bin are those of its block whose rank is its place in the block, modulo the block's bins
    bin_bit
        : (x : ℕ) → x < h.buckets
        → bit (eqb (bin (table h a) x) (first_bin (table h a).tops j + m))
        ≡ bit (eqb (block_of (table h a) x) j) * bit (eqb (held (table h a) j x % block_bins (table h a).tops j) m)
    bin_bit x b =
        let y = first_bin (table h a).tops j + m in
        let r = held (table h a) j x % block_bins (table h a).tops j in
        elim (ℕ_discrete (block_of (table h a) x) j) [
          | yes e ↦
              let from = bin_held x b j e in
              omega (
                arith,
                ap (λ v. v * bit (eqb r m)) (bit_eq (block_of (table h a) x) j e),
                one-mul (bit (eqb r m)),
                bit_same (bin (table h a) x) y r m (λ q. omega arith) (λ q. omega arith),
              )
          | no e ↦
              omega (
                arith,
                ap (λ v. v * bit (eqb r m)) (bit_ne (block_of (table h a) x) j e),
                zero-mul (bit (eqb r m)),
                bit_ne (bin (table h a) x) y
                    (λ q. e (sym (bin_of_lem x b).0 ∙ ap (block_of_bin (table h a).tops) q ∙ (bin_within j m l k).0)),
              )
        ]

    -- so a bin's size is its due in its block
    pub bin_size_lem
        : bin_size (table h a) (first_bin (table h a).tops j + m)
        ≡ due (shaped (held (table h a) j h.buckets) (block_bins (table h a).tops j)) m
    unfolding bin_size count held size table
    bin_size_lem =
        sum_ext _ _ h.buckets bin_bit
        ∙ sum_ranks (λ x. eqb (block_of (table h a) x) j) (λ r. bit (eqb (r % block_bins (table h a).tops j) m)) h.buckets
        ∙ modulo_size (held (table h a) j h.buckets) (block_bins (table h a).tops j) m (some_bins_lem j l) k

-- every bin holds its due
pub size_due_lem : SizeDue
size_due_lem h a s y l =
    let (j, m, below, k, e) = bin_block h a s y l in
    ap (bin_size (table h a)) e
    ∙ bin_size_lem h a s j m below k
    ∙ ap (λ b. due (shaped b (block_bins (table h a).tops j)) m) (held_due h a s j below)
    ∙ due_part (shape (table h a)) (first_bin (table h a).tops j) (block_bins (table h a).tops j) m k
    ∙ ap (due (shape (table h a))) (sym e)

-- and no two dues differ by more than 1
pub table_balanced_lem : TableBalanced
unfolding shape bin_size size table
table_balanced_lem h a s =
    record {
      within = λ x l. (bin_of_lem h a s x l).1;
      even =
          λ y z l k.
          omega (
            arith,
            size_due_lem h a s y l,
            size_due_lem h a s z k,
            due_bit (shape (table h a)) y,
            due_bit (shape (table h a)) z,
            bit_le (ltb y (h.buckets % bins (table h a))),
          );
    }
