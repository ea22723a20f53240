-- Laws of an accepted growth: what its tests say of the sizes, the new tops, and the dues of old and new blocks. Assumes nothing.
use Prim.Native.Nat.{ℕ, zero, suc, ◌≤◌, ◌<◌}
use mathlib.Core.Path.{◌≡◌, sym, ◌∙◌, ap, subst}
use mathlib.Core.Logic.{◌⊎◌, inl, inr, ⊎_elim}
use mathlib.Core.Bool.{Bool, true, false, false≢true}
use mathlib.Core.List.{List, [], ◌∷◌, ◌++◌}
use native.Mathlib.Nat.{not-suc-le-zero}
use native.Mathlib.Omega.{arith}
use lib.Dec.{leb}
use lib.ListN.{length, get_or, length-append, get_or-append}
use lib.Seq.{get_or-append_seam}
use borrow.Author.Tests.{ltb-false, eqb-false, le-leb, leb-true, lt-ltb, le-ltb, not-true, not-false}
use Rattle.model.specs.Basics.{if◌then◌otherwise◌, ◌and◌, sum, before}
use Rattle.model.specs.Limits.{max_buckets, max_bins, max_blocks}
use Rattle.model.specs.Table.{Shape, Interval, Table, bins, shape}
use Rattle.model.specs.Place.{block_of, held, size}
use Rattle.model.specs.Due.{due_of_block}
use Rattle.model.specs.Refusal.{first, size_outside, few_buckets, shrinks, unchanged, blocks_full, overfills}
use Rattle.model.specs.Expansion.{grown_tops, has, due_after, some_fall}
use Rattle.model.specs.Calls.{size_tests, growth_tests}
use Rattle.model.specs.Balance.{due_below, most}
use Rattle.model.proofs.Counts.{below_or, all_at, all_holds, sum_le, sum_ext}
use Rattle.model.proofs.Dues.{one_way, block_dues_below, dues_below, dues_sum_lem}
use Rattle.model.proofs.Intervals.{Rising}
use Rattle.model.proofs.Listed.{Tells, tells_placed, size_zero, size_other, sizes_all}
use Rattle.model.proofs.Wells.{due_same, held_size, Well}
use Rattle.model.proofs.Refusals.{first_number, first_both, or_split, inside}
use Rattle.model.proofs.Tables.{before_same}

-- TESTS

-- two tests that don't both hold, of which the first does
and_false : (a b : Bool) → a and b ≡ false → a ≡ true → b ≡ false
unfolding ◌and◌
and_false true b h e = h
and_false false b h e = absurd (false≢true e)

-- what the tests of a growth say
pub record Accepted (t : Table) (s : Shape) : Type 0 where
  pub some_buckets : 1 ≤ s.buckets
  pub bucket_limit : s.buckets ≤ max_buckets
  pub some_bins : 1 ≤ s.bins
  pub bin_limit : s.bins ≤ max_bins
  pub bins_few : s.bins ≤ s.buckets
  pub more_buckets : t.buckets ≤ s.buckets
  pub more_bins : bins t ≤ s.bins
  pub block_room : bins t < s.bins → length t.tops ≡ max_blocks → ⊥

pub accepted : (t : Table) (s : Shape) → first (growth_tests t s) ≡ 0 → Accepted t s
unfolding growth_tests size_tests size_outside few_buckets shrinks blocks_full
accepted t s h =
    let (sizes, h₂) = first_number 1 (size_outside s) _ (omega arith) h in
    let (few, h₃) = first_number 2 (few_buckets s) _ (omega arith) h₂ in
    let (shrunk, h₄) = first_number 3 (shrinks t s) _ (omega arith) h₃ in
    let (same, h₅) = first_number 4 (unchanged t s) _ (omega arith) h₄ in
    let (full, h₆) = first_number 5 (blocks_full t s) _ (omega arith) h₅ in
    let (b, n) = or_split _ _ sizes in
    let (lessBuckets, lessBins) = or_split _ _ shrunk in
    let (some_buckets, bucket_limit) = inside max_buckets s.buckets b in
    let (some_bins, bin_limit) = inside max_bins s.bins n in
    record {
      some_buckets = some_buckets;
      bucket_limit = bucket_limit;
      some_bins = some_bins;
      bin_limit = bin_limit;
      bins_few = ltb-false _ _ few;
      more_buckets = ltb-false _ _ lessBuckets;
      more_bins = ltb-false _ _ lessBins;
      block_room = λ l. eqb-false _ _ (and_false _ _ full (lt-ltb _ _ l));
    }

-- and that no bin is due more than the capacity
pub roomy : (t : Table) (s : Shape) → first (growth_tests t s) ≡ 0 → overfills t.capacity s ≡ false
unfolding growth_tests size_tests
roomy t s h =
    let (sized, h₂) = first_both (size_tests s) _ (omega arith) h in
    let (shrunk, h₃) = first_number 3 (shrinks t s) _ (omega arith) h₂ in
    let (same, h₄) = first_number 4 (unchanged t s) _ (omega arith) h₃ in
    let (full, h₅) = first_number 5 (blocks_full t s) _ (omega arith) h₄ in
    (first_number 31 (overfills t.capacity s) _ (omega arith) h₅).0

-- THE NEW TOPS

-- the new block is there just where there are more bins
pub tops_more : (t : Table) (s : Shape) → bins t < s.bins → grown_tops t s ≡ t.tops ++ (s.bins ∷ [])
unfolding grown_tops if◌then◌otherwise◌
tops_more t s l = rw (lt-ltb (bins t) s.bins l)

pub tops_same : (t : Table) (s : Shape) → s.bins ≤ bins t → grown_tops t s ≡ t.tops
unfolding grown_tops if◌then◌otherwise◌
tops_same t s l = rw (le-ltb (bins t) s.bins l)

-- the old blocks keep their tops
pub tops_old : (t : Table) (s : Shape) (j : ℕ) → j < length t.tops → get_or (grown_tops t s) j 0 ≡ get_or t.tops j 0
tops_old t s j l =
    ⊎_elim
    (λ m. ap (λ l. get_or l j 0) (tops_more t s m) ∙ get_or-append t.tops (s.bins ∷ []) 0 j l)
    (λ m. ap (λ l. get_or l j 0) (tops_same t s m))
    (below_or (bins t) s.bins)

pub before_old : (t : Table) (s : Shape) (j : ℕ) → j ≤ length t.tops → before (grown_tops t s) j ≡ before t.tops j
before_old t s = before_same (grown_tops t s) t.tops (length t.tops) (tops_old t s)

pub top_new : (t : Table) (s : Shape) → bins t < s.bins → get_or (grown_tops t s) (length t.tops) 0 ≡ s.bins
top_new t s l = ap (λ l. get_or l (length t.tops) 0) (tops_more t s l) ∙ get_or-append_seam t.tops s.bins [] 0

-- so their dues are those of the old tops
pub due_old
    : (t : Table) (s : Shape) (j : ℕ) → j < length t.tops → due_after t s j ≡ due_of_block s t.tops j
unfolding due_after
due_old t s = due_same s (grown_tops t s) t.tops (length t.tops) (tops_old t s)

-- the dues of all blocks sum to B
pub dues_all
    : (s : Shape) (tops : List ℕ) → 1 ≤ s.bins → Rising tops (length tops) → before tops (length tops) ≡ s.bins
    → sum (due_of_block s tops) (length tops) ≡ s.buckets
dues_all s tops some rise last =
    block_dues_below s tops (length tops) rise ∙ ap (due_below s) last ∙ sym (dues_below s s.bins) ∙ dues_sum_lem s some

-- terms that are no larger, and sum to no less, are equal
pub sum_tight
    : (f g : ℕ → ℕ) (n : ℕ) → ((x : ℕ) → x < n → f x ≤ g x) → sum g n ≤ sum f n → (x : ℕ) → x < n → g x ≤ f x
unfolding sum
sum_tight f g zero le more x l = absurd (not-suc-le-zero l)
sum_tight f g (suc n) le more x l =
    let rest = sum_le f g n (λ x l. le x (omega arith)) in
    let here = le n (omega arith) in
    ⊎_elim
    (λ k. sum_tight f g n (λ x l. le x (omega arith)) (omega arith) x k)
    (λ k. let same : x ≡ n = omega arith in omega (arith, ap f same, ap g same))
    (below_or x n)

-- the block of an old bucket is an old one
pub old_below : (t : Table) → Well t → (x : ℕ) → x < t.buckets → block_of t x < length t.tops
old_below t w x l =
    (tells_placed (block_of t) (length t.tops) 0 t.intervals t.buckets w.tells x (omega arith) l).below

module _ (t : Table) (s : Shape) (w : Well t) (a : Accepted t s) where
  -- the number of blocks
  pub length_more : bins t < s.bins → length (grown_tops t s) ≡ suc (length t.tops)
  length_more l = ap length (tops_more t s l) ∙ length-append t.tops (s.bins ∷ []) ∙ omega arith

  pub length_same : s.bins ≤ bins t → length (grown_tops t s) ≡ length t.tops
  length_same l = ap length (tops_same t s l)

  pub length_either
      : ((bins t < s.bins) × (length (grown_tops t s) ≡ suc (length t.tops)))
      ⊎ ((s.bins ≡ bins t) × (length (grown_tops t s) ≡ length t.tops))
  length_either =
      ⊎_elim
      (λ l. inl (l, length_more l))
      (λ l. inr (omega (arith, a.more_bins), length_same l))
      (below_or (bins t) s.bins)

  pub block_limits : (1 ≤ length (grown_tops t s)) × (length (grown_tops t s) ≤ max_blocks)
  block_limits =
      ⊎_elim
      (λ l. (
        omega arith,
        ⊎_elim
            (λ k. omega arith)
            (λ k. absurd (a.block_room l.0 (omega (arith, w.block_limit))))
            (below_or (length t.tops) max_blocks),
      ))
      (λ l. (omega (arith, w.some_blocks), omega (arith, w.block_limit)))
      length_either

  -- the last of them is n'
  pub tops_last : before (grown_tops t s) (length (grown_tops t s)) ≡ s.bins
  unfolding before bins
  tops_last =
      ⊎_elim
      (λ l. ap (before (grown_tops t s)) l.1 ∙ top_new t s l.0)
      (λ l. ap (before (grown_tops t s)) l.1 ∙ before_old t s (length t.tops) (omega arith) ∙ sym l.0)
      length_either

  -- and they rise
  pub new_rise : Rising (grown_tops t s) (length (grown_tops t s))
  unfolding bins
  new_rise j l =
      ⊎_elim
      (λ m. omega (arith, w.tops_rise j m, tops_old t s j m, before_old t s j (omega arith)))
      (λ m.
      ⊎_elim
      (λ e.
      let same : j ≡ length t.tops = omega arith in
      rw same (omega (arith, before_old t s (length t.tops) (omega arith), top_new t s e.0)))
      (λ e. absurd (omega arith))
      length_either)
      (below_or j (length t.tops))

  -- DUES

  -- the new dues sum to B'
  pub new_dues : sum (due_after t s) (length (grown_tops t s)) ≡ s.buckets
  unfolding due_after
  new_dues = dues_all s (grown_tops t s) a.some_bins new_rise tops_last

  -- those of the old blocks sum to T
  pub old_most : sum (due_after t s) (length t.tops) ≡ most (shape t) s
  unfolding most shape bins
  old_most =
      sum_ext (due_after t s) (due_of_block s t.tops) (length t.tops) (due_old t s)
      ∙ block_dues_below s t.tops (length t.tops) w.tops_rise

  -- and what the old blocks have to B
  pub old_dues : sum (has t) (length t.tops) ≡ t.buckets
  unfolding has held size
  old_dues = sizes_all (block_of t) t.buckets (length t.tops) (old_below t w)

  -- an old block has its due, and a new one has nothing
  pub has_due : (j : ℕ) → j < length t.tops → has t j ≡ due_of_block (shape t) t.tops j
  unfolding has
  has_due j l = held_size t j t.buckets ∙ w.holdings j l

  pub has_none : (j : ℕ) → length t.tops ≤ j → has t j ≡ 0
  unfolding has
  has_none j l =
      held_size t j t.buckets
      ∙ size_other (block_of t) j 0 t.buckets (omega arith) (λ x b k e. omega (arith, old_below t w x k))
      ∙ size_zero (block_of t) j

  -- where no old block is due less than it has, no block is
  pub none_falls : some_fall t s ≡ false → (j : ℕ) → has t j ≤ due_after t s j
  unfolding some_fall
  none_falls h j =
      ⊎_elim
      (λ l. leb-true _ _ (all_at (λ j. leb (has t j) (due_after t s j)) (length t.tops) (not-false _ h) j l))
      (λ l. omega (arith, has_none j l))
      (below_or j (length t.tops))

  -- where one is, not all are due at least what they have
  one_falls : some_fall t s ≡ true → ((j : ℕ) → j < length t.tops → has t j ≤ due_after t s j) → ⊥
  unfolding some_fall
  one_falls h up =
      false≢true
      (sym (not-true _ h)
      ∙ all_holds (λ j. leb (has t j) (due_after t s j)) (length t.tops) (λ j l. le-leb (has t j) (due_after t s j) (up j l)))

  -- so none is due more
  pub some_falls : some_fall t s ≡ true → (j : ℕ) → j < length t.tops → due_after t s j ≤ has t j
  some_falls h j l =
      ⊎_elim
      (λ up. absurd (one_falls h (λ j l. omega (arith, up j, has_due j l, due_old t s j l))))
      (λ down. omega (arith, down j, has_due j l, due_old t s j l))
      (one_way (shape t) s t.tops)

  -- and there are more bins: with as many bins the dues would sum to less
  pub some_more : some_fall t s ≡ true → bins t < s.bins
  some_more h =
      ⊎_elim
      (λ l. l.0)
      (λ l.
      absurd
      (one_falls h
      (sum_tight (due_after t s) (has t) (length t.tops) (some_falls h)
      (omega (arith, old_dues, new_dues, ap (sum (due_after t s)) l.1, a.more_buckets)))))
      length_either

-- a list of intervals that tells a map of the new buckets in which every block has its due
pub record Grown (t : Table) (s : Shape) (b : ℕ → ℕ) (is : List Interval) : Type 0 where
  pub tells : Tells b (length (grown_tops t s)) 0 is s.buckets
  pub dues : (j : ℕ) → j < length (grown_tops t s) → size b s.buckets j ≡ due_after t s j

-- where every block has its due, the buckets are B'
pub grown
    : (t : Table) (s : Shape) → Well t → Accepted t s → (b : ℕ → ℕ) (is : List Interval) (e : ℕ)
    → Tells b (length (grown_tops t s)) 0 is e → ((j : ℕ) → j < length (grown_tops t s) → size b e j ≡ due_after t s j)
    → Grown t s b is
grown t s w a b is e tells dues =
    record {
      tells = subst (Tells b (length (grown_tops t s)) 0 is) end tells;
      dues = λ j l. ap (λ m. size b m j) (sym end) ∙ dues j l;
    }
  where
    end : e ≡ s.buckets
    end =
        sym (sizes_all b e (length (grown_tops t s))
        (λ x l. (tells_placed b (length (grown_tops t s)) 0 is e tells x (omega arith) l).below))
        ∙ sum_ext (size b e) (due_after t s) (length (grown_tops t s)) dues
        ∙ new_dues t s w a
