-- Laws of a lent table's intervals: which one a bucket is in, and how many buckets of a block lie before a bucket.
-- Assumes nothing.
use Prim.Native.Nat.{ℕ, zero, suc, ◌+◌, ◌-◌, ◌≤◌, ◌<◌}
use mathlib.Core.Path.{◌≡◌, ◌∙◌, ap}
use mathlib.Core.Logic.{⊎_elim}
use mathlib.Core.Bool.{not}
use mathlib.Core.List.{List}
use native.Mathlib.Nat.{le_refl, le_trans}
use native.Mathlib.Omega.{arith}
use lib.Dec.{eqb}
use lib.ListN.{get_or}
use borrow.Author.Tests.{lt-ltb, le-ltb}
use Rattle.model.specs.Basics.{if◌then◌otherwise◌, bit, sum, count, from, before}
use Rattle.model.specs.Table.{Interval, interval, Arrays, table}
use Rattle.model.specs.Place.{interval_of, block_of, rank, held, others}
use Rattle.model.specs.declared.table.Header.{Header}
use Rattle.model.proofs.Counts.{bit_eq, bit_ne, bit_not, below_or, sum_add, sum_ext, sum_const, sum_split, sum_zero}

-- A RISING LIST

-- the first n entries rise strictly from 0
abbrev pub Rising : List ℕ → ℕ → Type 0
Rising xs n = (i : ℕ) → i < n → before xs i < get_or xs i 0

pub before_mono : (xs : List ℕ) (n : ℕ) → Rising xs n → (j i : ℕ) → i ≤ j → j ≤ n → before xs i ≤ before xs j
unfolding before
before_mono xs n r zero i l k = let same : i ≡ 0 = omega arith in rw same (le_refl 0)
before_mono xs n r (suc j) i l k =
    ⊎_elim
    (λ h. omega (arith, before_mono xs n r j i (omega arith) (omega arith), r j k))
    (λ h. let same : i ≡ suc j = omega arith in rw same (le_refl (get_or xs j 0)))
    (below_or i (suc j))

-- THE INTERVAL OF A BUCKET

interval_from_lem
    : (f : ℕ → Interval) (n i m x : ℕ) → i ≤ m → m < i + n
    → ((l : ℕ) → i ≤ l → l < m → (f l).end ≤ x) → x < (f m).end → interval_of (from f i n) x ≡ f m
unfolding interval_of from if◌then◌otherwise◌
interval_from_lem f zero i m x le lt before after = absurd (omega arith)
interval_from_lem f (suc n) i m x le lt before after =
    ⊎_elim
    (λ h.
    rw (le-ltb x (f i).end (before i (le_refl i) h))
    (interval_from_lem f n (suc i) m x h (omega arith) (λ l a b. before l (omega arith) b) after))
    (λ h.
    let same : i ≡ m = omega arith in
    let inside : x < (f i).end = rw same after in
    rw (lt-ltb x (f i).end inside) (ap f same))
    (below_or i m)

module _ (h : Header) (a : Arrays) (r : Rising a.ends h.interval_count) where
  -- a bucket from the start of interval i up to its end is in that interval
  pub interval_at_lem
      : (i x : ℕ) → i < h.interval_count → before a.ends i ≤ x → x < get_or a.ends i 0
      → interval_of (table h a).intervals x ≡ interval (get_or a.ends i 0) (get_or a.blocks i 0) (get_or a.adjustments i 0)
  unfolding table before
  interval_at_lem i x l s e =
      interval_from_lem
      (λ i. interval (get_or a.ends i 0) (get_or a.blocks i 0) (get_or a.adjustments i 0))
      h.interval_count 0 i x (omega arith) (omega arith)
      (λ m c d. le_trans (end_before m d) s)
      e
    where
      end_before : (m : ℕ) → m < i → get_or a.ends m 0 ≤ before a.ends i
      end_before m d = before_mono a.ends h.interval_count r i (suc m) d (omega arith)

  pub block_at
      : (i x : ℕ) → i < h.interval_count → before a.ends i ≤ x → x < get_or a.ends i 0
      → block_of (table h a) x ≡ get_or a.blocks i 0
  unfolding block_of
  block_at i x l s e = ap (λ v. v.block) (interval_at_lem i x l s e)

  pub rank_at_lem
      : (i x : ℕ) → i < h.interval_count → before a.ends i ≤ x → x < get_or a.ends i 0
      → rank (table h a) x ≡ x - get_or a.adjustments i 0
  unfolding rank
  rank_at_lem i x l s e = ap (λ v. x - v.adjustment) (interval_at_lem i x l s e)

  -- HOW MANY OF A BLOCK

  held_more
      : (i j n : ℕ) → i < h.interval_count → before a.ends i + n ≤ get_or a.ends i 0
      → held (table h a) j (before a.ends i + n)
      ≡ held (table h a) j (before a.ends i) + sum (λ x. bit (eqb (get_or a.blocks i 0) j)) n
  unfolding held count
  held_more i j n l e =
      sum_split (λ x. bit (eqb (block_of (table h a) x) j)) (before a.ends i) n
      ∙ ap (λ m. sum (λ x. bit (eqb (block_of (table h a) x) j)) (before a.ends i) + m)
      (sum_ext
      (λ x. bit (eqb (block_of (table h a) (before a.ends i + x)) j))
      (λ x. bit (eqb (get_or a.blocks i 0) j))
      n
      (λ x k. ap (λ b. bit (eqb b j)) (block_at i (before a.ends i + x) l (omega arith) (omega arith))))

  -- up to a bucket of interval i, or its end: of its own block all from its start on, of another none
  pub held_own
      : (i j x : ℕ) → i < h.interval_count → before a.ends i ≤ x → x ≤ get_or a.ends i 0 → get_or a.blocks i 0 ≡ j
      → held (table h a) j x ≡ held (table h a) j (before a.ends i) + (x - before a.ends i)
  held_own i j x l s e b =
      let n = x - before a.ends i in
      let whole : before a.ends i + n ≡ x = omega arith in
      omega (
        arith,
        ap (held (table h a) j) whole,
        held_more i j n l (omega arith),
        sum_ext (λ x. bit (eqb (get_or a.blocks i 0) j)) (λ x. 1) n (λ x k. bit_eq (get_or a.blocks i 0) j b),
        sum_const 1 n,
      )

  pub held_other
      : (i j x : ℕ) → i < h.interval_count → before a.ends i ≤ x → x ≤ get_or a.ends i 0
      → (get_or a.blocks i 0 ≡ j → ⊥) → held (table h a) j x ≡ held (table h a) j (before a.ends i)
  held_other i j x l s e b =
      let n = x - before a.ends i in
      let whole : before a.ends i + n ≡ x = omega arith in
      omega (
        arith,
        ap (held (table h a) j) whole,
        held_more i j n l (omega arith),
        sum_zero (λ x. bit (eqb (get_or a.blocks i 0) j)) n (λ x k. bit_ne (get_or a.blocks i 0) j b),
      )

-- those of a block and the others are all
pub held_others : (h : Header) (a : Arrays) (j m : ℕ) → held (table h a) j m + others (table h a) j m ≡ m
unfolding held others count
held_others h a j m =
    omega (
      arith,
      sum_add (λ x. bit (eqb (block_of (table h a) x) j)) (λ x. bit (not (eqb (block_of (table h a) x) j))) m,
      sum_ext
          (λ x. bit (eqb (block_of (table h a) x) j) + bit (not (eqb (block_of (table h a) x) j)))
          (λ x. 1)
          m
          (λ x l. omega (arith, bit_not (eqb (block_of (table h a) x) j))),
      sum_const 1 m,
    )
