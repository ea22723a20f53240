-- Laws of due sizes: the closed form, that two sizes differ one way in every bin, and that the dues sum to B. Assumes nothing.
use Prim.Native.Nat.{ℕ, zero, suc, ◌+◌, ◌-◌, ◌/◌, ◌%◌, ◌≤◌, ◌<◌}
use mathlib.Core.Path.{◌≡◌, sym, ◌∙◌, ap}
use mathlib.Core.Logic.{◌⊎◌, inl, inr, ⊎_elim}
use mathlib.Core.Bool.{true}
use mathlib.Core.List.{List}
use native.Mathlib.Nat.{zero-mul, suc-mul, div-add-mod, mod-lt, le_of_lt}
use native.Mathlib.Omega.{arith}
use lib.Dec.{ltb}
use lib.ListN.{length, get_or}
use borrow.Author.Tests.{lt-ltb, le-ltb, ltb-true}
use Rattle.model.specs.Basics.{if◌then◌otherwise◌, sum, before}
use Rattle.model.specs.Table.{Shape, first_bin, block_bins}
use Rattle.model.specs.Due.{due, due_of_bins, due_of_block}
use Rattle.model.specs.Refusal.{rises}
use Rattle.model.specs.Balance.{due_below}
use Rattle.model.specs.Claims.{ClosedForm, OneWay, DuesSum, BlockDuesSum}
use Rattle.model.proofs.Counts.{below_or, all_at, sum_le, sum_split}

-- the due of a bin below the remainder, and of one that is not
pub due_more : (s : Shape) (y : ℕ) → y < s.buckets % s.bins → due s y ≡ s.buckets / s.bins + 1
unfolding due if◌then◌otherwise◌
due_more s y h = rw (lt-ltb y (s.buckets % s.bins) h)

pub due_less : (s : Shape) (y : ℕ) → s.buckets % s.bins ≤ y → due s y ≡ s.buckets / s.bins
unfolding due if◌then◌otherwise◌
due_less s y h = rw (le-ltb y (s.buckets % s.bins) h)

-- the first m bins
pub dues_below : (s : Shape) (m : ℕ) → sum (due s) m ≡ due_below s m
unfolding sum due_below
dues_below s zero = omega (arith, zero-mul (s.buckets / s.bins))
dues_below s (suc m) =
    ⊎_elim
    (λ h. omega (arith, dues_below s m, suc-mul m (s.buckets / s.bins), due_more s m h))
    (λ h. omega (arith, dues_below s m, suc-mul m (s.buckets / s.bins), due_less s m h))
    (below_or m (s.buckets % s.bins))

pub closed_form_lem : ClosedForm
unfolding due_of_bins
closed_form_lem s f d = omega (arith, dues_below s f, dues_below s (f + d), sum_split (due s) f d)

-- all bins
pub dues_sum_lem : DuesSum
unfolding due_below
dues_sum_lem s h =
    omega (arith, dues_below s s.bins, div-add-mod s.buckets s.bins, mod-lt s.buckets h)

-- between two sizes no bin's due falls, or none rises
due_one_way : (s s' : Shape) → ((y : ℕ) → due s y ≤ due s' y) ⊎ ((y : ℕ) → due s' y ≤ due s y)
due_one_way s s' =
    ⊎_elim
    (λ h. inl (λ y. omega (arith, upper s y, lower s' y)))
    (λ h.
    ⊎_elim
    (λ k. inr (λ y. omega (arith, upper s' y, lower s y)))
    (λ k.
    ⊎_elim
    (λ r. inr (λ y. fewer s' s y (omega arith) (omega arith)))
    (λ r. inl (λ y. fewer s s' y (omega arith) r))
    (below_or (s'.buckets % s'.bins) (s.buckets % s.bins)))
    (below_or (s'.buckets / s'.bins) (s.buckets / s.bins)))
    (below_or (s.buckets / s.bins) (s'.buckets / s'.bins))
  where
    upper : (s : Shape) (y : ℕ) → due s y ≤ s.buckets / s.bins + 1
    upper s y =
        ⊎_elim (λ h. omega (arith, due_more s y h)) (λ h. omega (arith, due_less s y h)) (below_or y (s.buckets % s.bins))

    lower : (s : Shape) (y : ℕ) → s.buckets / s.bins ≤ due s y
    lower s y =
        ⊎_elim (λ h. omega (arith, due_more s y h)) (λ h. omega (arith, due_less s y h)) (below_or y (s.buckets % s.bins))

    -- equal quotients: the larger remainder has the larger dues
    fewer
        : (s s' : Shape) (y : ℕ)
        → s.buckets / s.bins ≡ s'.buckets / s'.bins → s.buckets % s.bins ≤ s'.buckets % s'.bins → due s y ≤ due s' y
    fewer s s' y e r =
        ⊎_elim
        (λ h. omega (arith, due_more s y h, due_more s' y (omega arith)))
        (λ h. omega (arith, due_less s y h, lower s' y))
        (below_or y (s.buckets % s.bins))

pub one_way : OneWay
unfolding due_of_block due_of_bins
one_way s s' tops =
    ⊎_elim
    (λ h. inl (λ j. sum_le _ _ (block_bins tops j) (λ i l. h (first_bin tops j + i))))
    (λ h. inr (λ j. sum_le _ _ (block_bins tops j) (λ i l. h (first_bin tops j + i))))
    (due_one_way s s')

-- a block in closed form
pub Block_closed
    : (s : Shape) (tops : List ℕ) (j : ℕ)
    → before tops j ≤ get_or tops j 0 → due_of_block s tops j + due_below s (before tops j) ≡ due_below s (get_or tops j 0)
unfolding due_of_block first_bin block_bins
Block_closed s tops j h =
    closed_form_lem s (before tops j) (get_or tops j 0 - before tops j) ∙ ap (due_below s) (omega arith)

pub rises_at : (xs : List ℕ) (n : ℕ) → rises xs n ≡ true → (i : ℕ) → i < n → before xs i < get_or xs i 0
unfolding rises
rises_at xs n h i l = ltb-true (before xs i) (get_or xs i 0) (all_at (λ i. ltb (before xs i) (get_or xs i 0)) n h i l)

-- the first m blocks
pub block_dues_below
    : (s : Shape) (tops : List ℕ) (m : ℕ)
    → ((j : ℕ) → j < m → before tops j < get_or tops j 0) → sum (due_of_block s tops) m ≡ due_below s (before tops m)
unfolding sum before
block_dues_below s tops zero r = omega (arith, dues_below s 0)
block_dues_below s tops (suc m) r =
    omega
    (arith, block_dues_below s tops m (λ j l. r j (omega arith)), Block_closed s tops m (le_of_lt (r m (omega arith))))

pub block_dues_sum_lem : BlockDuesSum
block_dues_sum_lem s tops h r e =
    block_dues_below s tops (length tops) (rises_at tops (length tops) r)
    ∙ ap (due_below s) e
    ∙ sym (dues_below s s.bins)
    ∙ dues_sum_lem s h
