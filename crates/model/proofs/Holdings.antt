-- Laws of rules 15 and 16: that what a block holds depends on ends and blocks alone, the array of sums over the intervals,
-- a block's due in closed form, and what makes the test of 15 hold or not. Assumes nothing.
use Prim.Native.Nat.{ℕ, zero, suc, ◌+◌, ◌-◌, ◌/◌, ◌≤◌, ◌<◌}
use mathlib.Core.Path.{◌≡◌, refl, sym, ◌∙◌, ap}
use mathlib.Core.Logic.{⊎_elim}
use mathlib.Core.Bool.{true, false, not}
use mathlib.Core.List.{List}
use native.Mathlib.Nat.{zero-mul, mul-le-mul_right, div-add-mod}
use native.Mathlib.Decide.{ℕ_discrete}
use native.Mathlib.Omega.{arith}
use lib.Dec.{eqb}
use lib.ListN.{length, get_or, take, set, replicate, length-set, length-replicate, get_or-replicate}
use lib.Seq.{length-take-le, get_or-take, get_or-set_same, get_or-set_other}
use borrow.Author.Tests.{lt-ltb, le-ltb, eq-eqb, ne_eqb}
use Rattle.model.specs.Basics.{if◌then◌otherwise◌, bit, sum, count, from, before}
use Rattle.model.specs.Limits.{max_blocks}
use Rattle.model.specs.Table.{Shape, interval, bins, shape, Arrays, arrays, table}
use Rattle.model.specs.Place.{interval_of, block_of, held, others}
use Rattle.model.specs.Due.{due_of_block}
use Rattle.model.specs.Refusal.{holdings_wrong, adjustment_of, adjustments_wrong}
use Rattle.model.specs.Balance.{due_below}
use Rattle.model.specs.declared.table.Header.{Header}
use Rattle.model.proofs.Counts.{below_or, all_holds, sum_ext}
use Rattle.model.proofs.Intervals.{Rising, before_mono, held_own, held_other, held_others}
use Rattle.model.proofs.Rules.{all_fails, all_ext, before_next, before_some}

-- WHAT HOLDINGS DEPEND ON

block_same
    : (e b c c' : ℕ → ℕ) (n i x : ℕ)
    → (interval_of (from (λ i. interval (e i) (b i) (c i)) i n) x).block
    ≡ (interval_of (from (λ i. interval (e i) (b i) (c' i)) i n) x).block
unfolding interval_of from if◌then◌otherwise◌
block_same e b c c' zero i x = refl
block_same e b c c' (suc n) i x =
    ⊎_elim
    (λ h. rw (lt-ltb x (e i) h))
    (λ h. rw (le-ltb x (e i) h) (block_same e b c c' n (suc i) x))
    (below_or x (e i))

-- what a block holds does not depend on tops or adjustments, and so the other rules' arrays don't matter to rules 15 and 16
module _ (h : Header) (e b : List ℕ) where
  pub held_same
      : (t t' c c' : List ℕ) (j m : ℕ) → held (table h (arrays t e b c)) j m ≡ held (table h (arrays t' e b c')) j m
  unfolding held count block_of table
  held_same t t' c c' j m =
      sum_ext _ _ m
      (λ x l.
      ap (λ v. bit (eqb v j))
      (block_same (λ i. get_or e i 0) (λ i. get_or b i 0) (λ i. get_or c i 0) (λ i. get_or c' i 0) h.interval_count 0 x))

  pub holdings_same : (t c c' : List ℕ) → holdings_wrong h (arrays t e b c) ≡ holdings_wrong h (arrays t e b c')
  unfolding holdings_wrong shape bins table
  holdings_same t c c' =
      ap not
      (all_ext _ _ h.block_count
      (λ j l. ap (λ v. eqb v (due_of_block (shape (table h (arrays t e b c))) t j)) (held_same t t c c' j h.buckets)))

  pub adjustment_same
      : (t t' c c' : List ℕ) (i : ℕ) → adjustment_of h (arrays t e b c) i ≡ adjustment_of h (arrays t' e b c') i
  unfolding adjustment_of
  adjustment_same t t' c c' i =
      let j = get_or b i 0 in
      let m = before e i in
      omega (arith, held_same t t' c c' j m, held_others h (arrays t e b c) j m, held_others h (arrays t' e b c') j m)

  pub adjustments_same : (t t' c : List ℕ) → adjustments_wrong h (arrays t e b c) ≡ adjustments_wrong h (arrays t' e b c)
  unfolding adjustments_wrong
  adjustments_same t t' c =
      ap not (all_ext _ _ h.interval_count (λ i l. ap (eqb (get_or c i 0)) (adjustment_same t t' c c i)))

-- THE ARRAY OF SUMS

-- a walk over the intervals that has come to interval i, which starts at bucket `start`: cell j of the array has the number
-- of buckets before it that belong to block j
pub record Sums (h : Header) (a : Arrays) (i start : ℕ) (sums : List ℕ) : Type 0 where
  pub starts : start ≡ before a.ends i
  pub cells : length sums ≡ max_blocks
  pub cell : (j : ℕ) → j < max_blocks → get_or sums j 0 ≡ held (table h a) j start

module _ (h : Header) (a : Arrays) where
  pub sums_none : Sums h a 0 0 (replicate max_blocks 0)
  unfolding held count sum before
  sums_none =
      record {
        starts = refl;
        cells = length-replicate {A = ℕ} max_blocks 0;
        cell = λ j l. get_or-replicate max_blocks j 0 0 l;
      }

  -- a cell is at most the bucket up to which it counts
  pub sums_below
      : (i start : ℕ) (sums : List ℕ) → Sums h a i start sums → (j : ℕ) → j < max_blocks → get_or sums j 0 ≤ start
  sums_below i start sums s j l = omega (arith, s.cell j l, held_others h a j start)

  -- interval i adds its length to the cell of its block b, which then has v, and ends at bucket e
  pub sums_more
      : (i start b e v : ℕ) (sums : List ℕ) → Rising a.ends h.interval_count → i < h.interval_count
      → Sums h a i start sums → get_or a.blocks i 0 ≡ b → get_or a.ends i 0 ≡ e → b < max_blocks
      → v + start ≡ get_or sums b 0 + e → Sums h a (i + 1) e (set sums b v)
  sums_more i start b e v sums r l s o q m w =
      record {
        starts = sym (before_next a.ends i ∙ q);
        cells = length-set sums b v ∙ s.cells;
        cell = λ j k. elim (ℕ_discrete j b) [ yes y ↦ rw y own | no n ↦ other j k n ];
      }
    where
      own : get_or (set sums b v) b 0 ≡ held (table h a) b e
      own =
          omega (
            arith,
            get_or-set_same sums b v 0 (omega (arith, s.cells)),
            s.cell b m,
            s.starts,
            ap (held (table h a) b) s.starts,
            r i l,
            held_own h a r i b e l (omega (arith, r i l)) (omega arith) o,
          )

      other : (j : ℕ) → j < max_blocks → (j ≡ b → ⊥) → get_or (set sums b v) j 0 ≡ held (table h a) j e
      other j k n =
          get_or-set_other sums b j v 0 n
          ∙ s.cell j k
          ∙ ap (held (table h a) j) s.starts
          ∙ sym (held_other h a r i j e l (omega (arith, r i l)) (omega arith) (λ u. n (sym u ∙ o)))

  -- the right adjustment of interval i, of block b, is its start less the cell of its block
  pub sums_adjustment
      : (i start b : ℕ) (sums : List ℕ) → Sums h a i start sums → get_or a.blocks i 0 ≡ b → b < max_blocks
      → get_or sums b 0 + adjustment_of h a i ≡ start
  unfolding adjustment_of
  sums_adjustment i start b sums s o m =
      omega (
        arith,
        s.cell b m,
        held_others h a b start,
        ap (others (table h a) b) s.starts,
        ap (λ j. others (table h a) j (before a.ends i)) o,
      )

-- DUES

-- the sizes that a header and tops give
abbrev pub lent_shape : Header → List ℕ → Shape
lent_shape h tops = record { buckets = h.buckets; bins = get_or tops (h.block_count - 1) 0 }

before_take : (n : ℕ) (xs : List ℕ) → n ≤ length xs → before (take n xs) (length (take n xs)) ≡ before xs n
unfolding before
before_take zero xs l = refl
before_take (suc n) xs l = rw (length-take-le (suc n) xs l) (get_or-take (suc n) xs n 0 (omega arith))

pub shape_lent
    : (h : Header) (a : Arrays) → 1 ≤ h.block_count → h.block_count ≤ length a.tops
    → shape (table h a) ≡ lent_shape h a.tops
unfolding shape bins table
shape_lent h a o l =
    ap (λ n. record { buckets = h.buckets; bins = n })
    (before_take h.block_count a.tops l ∙ before_some a.tops h.block_count o)

-- before the first block nothing is due
pub due_none : (s : Shape) (tops : List ℕ) → due_below s (before tops 0) ≡ 0
unfolding due_below before
due_none s tops = omega (arith, zero-mul (s.buckets / s.bins))

-- the bins up to and including a block are due no more than all buckets
pub due_fits
    : (h : Header) (tops : List ℕ) → Rising tops h.block_count
    → (j : ℕ) → j < h.block_count → due_below (lent_shape h tops) (get_or tops j 0) ≤ h.buckets
unfolding due_below
due_fits h tops r j l =
    let few : get_or tops j 0 ≤ get_or tops (h.block_count - 1) 0 =
    omega (
      arith,
      before_mono tops h.block_count r h.block_count (j + 1) (omega arith) (omega arith),
      before_next tops j,
      before_some tops h.block_count (omega arith),
    )
    in
    omega (
      arith,
      mul-le-mul_right (h.buckets / get_or tops (h.block_count - 1) 0) few,
      div-add-mod h.buckets (get_or tops (h.block_count - 1) 0),
    )

-- RULE 15

module _
    (h : Header) (a : Arrays) (o : 1 ≤ h.block_count) (t : h.block_count ≤ length a.tops)
  where
    pub holdings_right
        : ((j : ℕ) → j < h.block_count → held (table h a) j h.buckets ≡ due_of_block (lent_shape h a.tops) a.tops j)
        → holdings_wrong h a ≡ false
    unfolding holdings_wrong
    holdings_right r =
        ap not
        (all_holds _ h.block_count
        (λ j l. eq-eqb _ _ (r j l ∙ ap (λ s. due_of_block s a.tops j) (sym (shape_lent h a o t)))))

    pub holdings_fail
        : (j : ℕ) → j < h.block_count
        → (held (table h a) j h.buckets ≡ due_of_block (lent_shape h a.tops) a.tops j → ⊥) → holdings_wrong h a ≡ true
    unfolding holdings_wrong
    holdings_fail j l f =
        ap not
        (all_fails _ h.block_count j l
        (ne_eqb _ _ (λ e. f (e ∙ ap (λ s. due_of_block s a.tops j) (shape_lent h a o t)))))
