-- Laws of the tests of rules 11 to 14: of their parts, and what it shows that one does not hold. Assumes nothing.
use Prim.Native.Nat.{ℕ, zero, suc, ◌+◌, ◌-◌, ◌≤◌, ◌<◌}
use mathlib.Core.Path.{◌≡◌, refl, sym, ◌∙◌, ap}
use mathlib.Core.Logic.{⊎_elim}
use mathlib.Core.Bool.{Bool, true, false, not, false≢true}
use mathlib.Core.List.{List}
use native.Mathlib.Numerals.{add-one}
use native.Mathlib.Omega.{arith}
use lib.Dec.{ltb}
use lib.ListN.{length, get_or}
use borrow.Author.Tests.{le-ltb, ltb-true, ltb-false, eqb-true, not-false}
use Rattle.model.specs.Basics.{◌or◌, all, before}
use Rattle.model.specs.Limits.{max_buckets, max_bins, max_blocks, max_intervals}
use Rattle.model.specs.Table.{Arrays}
use Rattle.model.specs.Refusal.{
  rises,
  header_outside,
  arrays_short,
  tops_wrong,
  ends_wrong,
  blocks_wrong,
}
use Rattle.model.specs.declared.table.Header.{Header}
use Rattle.model.proofs.Counts.{bit_cases, and_both, all_at, all_holds}
use Rattle.model.proofs.Dues.{rises_at}
use Rattle.model.proofs.Intervals.{Rising}
use Rattle.model.proofs.Refusals.{or_left, or_right, not_clear, inside}

-- TESTS

-- `or` with a first test that holds, and with one that does not
pub or_first : (a b : Bool) → a ≡ true → a or b ≡ true
unfolding ◌or◌
or_first a b h = rw h

pub or_last : (a b : Bool) → a ≡ false → a or b ≡ b
unfolding ◌or◌
or_last a b h = rw h

-- a test of all numbers below n: one that fails, and two tests that agree
pub all_fails : (p : ℕ → Bool) (n i : ℕ) → i < n → p i ≡ false → all p n ≡ false
all_fails p n i l f =
    ⊎_elim (λ t. absurd (false≢true (sym f ∙ all_at p n t.0 i l))) (λ t. t.0) (bit_cases (all p n))

pub all_ext : (p q : ℕ → Bool) (n : ℕ) → ((i : ℕ) → i < n → p i ≡ q i) → all p n ≡ all q n
unfolding all
all_ext p q zero e = refl
all_ext p q (suc n) e = rw (all_ext p q n (λ i l. e i (omega arith)), e n (omega arith))

-- a test of all numbers below n that fails, fails at one
pub all_fails_at : (p : ℕ → Bool) (n : ℕ) → all p n ≡ false → (i : ℕ) × (i < n) × (p i ≡ false)
unfolding all
all_fails_at p zero e = absurd (false≢true (sym e))
all_fails_at p (suc n) e =
    ⊎_elim
    (λ y. (n, omega arith, ⊎_elim (λ w. absurd (false≢true (sym e ∙ and_both (all p n) (p n) y.0 w.0))) (λ w. w.0) (bit_cases (p n))))
    (λ f. let at = all_fails_at p n f.0 in (at.0, omega (arith, at.1), at.2))
    (bit_cases (all p n))

-- a negated test over all numbers below n, and the other way
pub all_not : (p : ℕ → Bool) (n : ℕ) → not (all p n) ≡ false → (i : ℕ) → i < n → p i ≡ true
all_not p n e = all_at p n (not-false (all p n) e)

pub not_all : (p : ℕ → Bool) (n : ℕ) → ((i : ℕ) → i < n → p i ≡ true) → not (all p n) ≡ false
not_all p n e = not_clear (all p n) (all_holds p n e)

-- RISING LISTS

-- the entry before the next place, and before a place other than the first
pub before_next : (xs : List ℕ) (i : ℕ) → before xs (i + 1) ≡ get_or xs i 0
unfolding before
before_next xs i = rw (add-one i)

pub before_some : (xs : List ℕ) (n : ℕ) → 1 ≤ n → before xs n ≡ get_or xs (n - 1) 0
before_some xs n l = let same : n ≡ n - 1 + 1 = omega arith in ap (before xs) same ∙ before_next xs (n - 1)

pub rises_fails : (xs : List ℕ) (n i : ℕ) → i < n → get_or xs i 0 ≤ before xs i → rises xs n ≡ false
unfolding rises
rises_fails xs n i l f = all_fails (λ i. ltb (before xs i) (get_or xs i 0)) n i l (le-ltb (before xs i) (get_or xs i 0) f)

-- RULE 11

module _ (h : Header) (w : header_outside h ≡ false) where
  pub buckets_inside : (1 ≤ h.buckets) × (h.buckets ≤ max_buckets)
  unfolding header_outside
  buckets_inside = inside max_buckets h.buckets (or_left _ _ (or_left _ _ w))

  pub blocks_inside : (1 ≤ h.block_count) × (h.block_count ≤ max_blocks)
  unfolding header_outside
  blocks_inside = inside max_blocks h.block_count (or_right _ _ (or_left _ _ w))

  pub intervals_inside : (1 ≤ h.interval_count) × (h.interval_count ≤ max_intervals)
  unfolding header_outside
  intervals_inside = inside max_intervals h.interval_count (or_right _ _ w)

module _ (h : Header) (a : Arrays) (w : arrays_short h a ≡ false) where
  pub tops_long_lem : h.block_count ≤ length a.tops
  unfolding arrays_short
  tops_long_lem = ltb-false _ _ (or_left _ _ (or_left _ _ (or_left _ _ w)))

  pub ends_long_lem : h.interval_count ≤ length a.ends
  unfolding arrays_short
  ends_long_lem = ltb-false _ _ (or_right _ _ (or_left _ _ (or_left _ _ w)))

  pub blocks_long_lem : h.interval_count ≤ length a.blocks
  unfolding arrays_short
  blocks_long_lem = ltb-false _ _ (or_right _ _ (or_left _ _ w))

  pub adjustments_long_lem : h.interval_count ≤ length a.adjustments
  unfolding arrays_short
  adjustments_long_lem = ltb-false _ _ (or_right _ _ w)

-- RULE 12

module _ (h : Header) (tops : List ℕ) (w : tops_wrong h tops ≡ false) where
  pub tops_rise_lem : Rising tops h.block_count
  unfolding tops_wrong
  tops_rise_lem = rises_at tops h.block_count (not-false _ (or_left _ _ (or_left _ _ w)))

  pub last_top : (before tops h.block_count ≤ max_bins) × (before tops h.block_count ≤ h.buckets)
  unfolding tops_wrong
  last_top = (ltb-false _ _ (or_right _ _ (or_left _ _ w)), ltb-false _ _ (or_right _ _ w))

-- RULE 13

module _ (h : Header) (ends : List ℕ) (w : ends_wrong h ends ≡ false) where
  pub ends_rise_lem : Rising ends h.interval_count
  unfolding ends_wrong
  ends_rise_lem = rises_at ends h.interval_count (not-false _ (or_left _ _ w))

  pub last_end : before ends h.interval_count ≡ h.buckets
  unfolding ends_wrong
  last_end = eqb-true _ _ (not-false _ (or_right _ _ w))

-- RULE 14

pub blocks_below_lem
    : (h : Header) (blocks : List ℕ) → blocks_wrong h blocks ≡ false
    → (i : ℕ) → i < h.interval_count → get_or blocks i 0 < h.block_count
unfolding blocks_wrong
blocks_below_lem h blocks w i l =
    ltb-true _ _ (all_at (λ i. ltb (get_or blocks i 0) h.block_count) h.interval_count (not-false _ w) i l)
