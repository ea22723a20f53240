-- Laws of the capacity: the first bin is due the most, and in a table that passes rules 11 to 16 the bins hold their dues. Assumes nothing.
use Prim.Native.Nat.{ℕ, ◌+◌, ◌-◌, ◌*◌, ◌%◌, ◌≤◌, ◌<◌}
use mathlib.Core.Path.{◌≡◌, sym, ◌∙◌, ap}
use mathlib.Core.Logic.{⊎_elim}
use mathlib.Core.Bool.{true, false, not}
use native.Mathlib.Nat.{suc-mul, add-mul, mul-le-mul_right}
use native.Mathlib.Omega.{arith}
use lib.Dec.{ltb}
use borrow.Author.Tests.{ltb-true, ltb-false, lt-ltb, le-ltb, not-true, not-false}
use Rattle.model.specs.Basics.{◌or◌}
use Rattle.model.specs.Limits.{max_capacity, label}
use Rattle.model.specs.Table.{Shape, bins, shape, Arrays, table}
use Rattle.model.specs.Place.{bin_size}
use Rattle.model.specs.Due.{due}
use Rattle.model.specs.Refusal.{overfull, some_overfull, overfills, capacity_outside, capacity_wrong}
use Rattle.model.specs.Sound.{Formed, Sound}
use Rattle.model.specs.TableClaims.{OverfillsWhere, NoneOverfull}
use Rattle.model.specs.declared.table.Header.{Header}
use Rattle.model.proofs.Counts.{below_or, bit_cases}
use Rattle.model.proofs.Dues.{due_more, due_less}
use Rattle.model.proofs.Refusals.{or_left, or_right, or_both, inside, not_outside}
use Rattle.model.proofs.Rules.{or_first, or_last, all_fails, all_fails_at, all_ext, all_not, not_all}
use Rattle.model.proofs.Places.{below_due, due_below_lem, some_bins_lem, bin_within, size_due_lem}

-- OVERFULL BINS

-- what a bin holds that is overfull, or is not, and the other way
module _ (p m : ℕ) where
  full : overfull p m ≡ true → p < m + 8
  unfolding overfull
  full e = ltb-true p (m + label) e

  within : overfull p m ≡ false → m + 8 ≤ p
  unfolding overfull
  within e = ltb-false p (m + label) e

  is_full : p < m + 8 → overfull p m ≡ true
  unfolding overfull
  is_full l = lt-ltb p (m + label) l

  is_within : m + 8 ≤ p → overfull p m ≡ false
  unfolding overfull
  is_within l = le-ltb p (m + label) l

-- a bin with no more buckets than one that is not overfull is not
overfull_less : (p m k : ℕ) → m ≤ k → overfull p k ≡ false → overfull p m ≡ false
overfull_less p m k l e = is_within p m (omega (arith, within p k e))

-- none of n bins is overfull, and the other way
module _ (p : ℕ) (holds : ℕ → ℕ) (n : ℕ) where
  pub none_overfull_lem : ((y : ℕ) → y < n → overfull p (holds y) ≡ false) → some_overfull p holds n ≡ false
  unfolding some_overfull
  none_overfull_lem e = not_all _ n (λ y l. ap not (e y l))

  pub overfull_none : some_overfull p holds n ≡ false → (y : ℕ) → y < n → overfull p (holds y) ≡ false
  unfolding some_overfull
  overfull_none e y l = not-true _ (all_not (λ y. not (overfull p (holds y))) n e y l)

-- sizes overfill a bin exactly where some bin is due more
pub overfills_where_lem : OverfillsWhere
unfolding overfills some_overfull
overfills_where_lem p s = (
  λ e.
      let (y, l, f) = all_fails_at (λ y. not (overfull p (due s y))) s.bins (not-true _ e) in
      (y, l, full p (due s y) (not-false _ f)),
  λ w.
      ap not
      (all_fails (λ y. not (overfull p (due s y))) s.bins w.0 w.1 (ap not (is_full p (due s w.0) w.2))),
)

-- where they do not, what each bin is due, plus 8, is within P
pub due_within : (p : ℕ) (s : Shape) → overfills p s ≡ false → (y : ℕ) → y < s.bins → due s y + 8 ≤ p
unfolding overfills
due_within p s e y l = within p (due s y) (overfull_none p (due s) s.bins e y l)

-- bins that hold as many
overfull_ext
    : (p : ℕ) (f g : ℕ → ℕ) (n : ℕ) → ((y : ℕ) → y < n → f y ≡ g y) → some_overfull p f n ≡ some_overfull p g n
unfolding some_overfull
overfull_ext p f g n e = ap not (all_ext _ _ n (λ y l. ap (λ m. not (overfull p m)) (e y l)))

-- THE FIRST BIN

-- no bin is due more than the first
pub due_first : (s : Shape) (y : ℕ) → due s y ≤ due s 0
due_first s y =
    let r = s.buckets % s.bins in
    ⊎_elim
    (λ l. omega (arith, due_more s y l, due_more s 0 (omega arith)))
    (λ l.
    ⊎_elim
    (λ k. omega (arith, due_less s y l, due_more s 0 k))
    (λ k. omega (arith, due_less s y l, due_less s 0 k))
    (below_or 0 r))
    (below_or y r)

module _ (p : ℕ) (s : Shape) (some : 1 ≤ s.bins) where
  -- so some bin is overfull exactly where the first is
  overfills_first : overfills p s ≡ overfull p (due s 0)
  unfolding overfills some_overfull
  overfills_first =
      ⊎_elim
      (λ o. ap not (all_fails _ s.bins 0 some (ap not o.0)) ∙ sym o.0)
      (λ o.
      none_overfull_lem p (due s) s.bins (λ y l. overfull_less p (due s y) (due s 0) (due_first s y) o.0) ∙ sym o.0)
      (bit_cases (overfull p (due s 0)))

  -- which is where the positions of all bins are fewer than B and the labels of all bins
  first_product : overfull p (due s 0) ≡ ltb (p * s.bins) (s.buckets + label * s.bins)
  first_product =
      ⊎_elim
      (λ l. is_full p (due s 0) l ∙ sym (lt-ltb (p * s.bins) (s.buckets + label * s.bins) (many l)))
      (λ l. is_within p (due s 0) l ∙ sym (le-ltb (p * s.bins) (s.buckets + label * s.bins) (few l)))
      (below_or p (due s 0 + 8))
    where
      many : p < due s 0 + 8 → p * s.bins < s.buckets + label * s.bins
      many l =
          ⊎_elim
          (λ k. omega (arith, mul-le-mul_right s.bins k, suc-mul p s.bins))
          (λ k.
          let q = p - label in
          let whole : p ≡ q + label = omega arith in
          omega (
            arith,
            due_below_lem s.buckets s.bins 0 some q (omega arith),
            ap (λ p. p * s.bins) whole,
            add-mul q label s.bins,
          ))
          (below_or p label)

      few : due s 0 + 8 ≤ p → s.buckets + label * s.bins ≤ p * s.bins
      few l =
          let q = p - label in
          let whole : p ≡ q + label = omega arith in
          ⊎_elim
          (λ k. absurd (omega (arith, below_due s.buckets s.bins 0 some q (omega arith))))
          (λ k. omega (arith, ap (λ p. p * s.bins) whole, add-mul q label s.bins))
          (below_or (q * s.bins) s.buckets)

  pub overfills_product : overfills p s ≡ ltb (p * s.bins) (s.buckets + label * s.bins)
  overfills_product = overfills_first ∙ first_product

-- the first bin is due some bucket, so a capacity of 8 or less has no room for it
first_some : (s : Shape) → 1 ≤ s.buckets → 1 ≤ s.bins → 1 ≤ due s 0
first_some s b n = below_due s.buckets s.bins 0 n 0 (omega arith)

pub no_room : (p : ℕ) (s : Shape) → p ≤ 8 → 1 ≤ s.buckets → 1 ≤ s.bins → overfills p s ≡ true
no_room p s l b n = (overfills_where_lem p s).1 (0, n, omega (arith, first_some s b n))

-- A TABLE'S CAPACITY

module _ (h : Header) (a : Arrays) (formed : Formed h a) where
  -- its bins hold their dues, so 30 is told by them
  pub capacity_due : capacity_wrong h a ≡ capacity_outside h.capacity or overfills h.capacity (shape (table h a))
  unfolding capacity_wrong overfills shape
  capacity_due =
      ap (λ b. capacity_outside h.capacity or b)
      (overfull_ext h.capacity (bin_size (table h a)) (due (shape (table h a))) (bins (table h a)) (size_due_lem h a formed))

  -- where 30 lets it pass, it is sound
  pub formed_sound : capacity_wrong h a ≡ false → Sound h a
  unfolding capacity_wrong capacity_outside
  formed_sound e =
      let (some, limit) = inside max_capacity h.capacity (or_left _ _ e) in
      record {
        formed = formed;
        some_capacity = some;
        capacity_limit = limit;
        none_overfull = overfull_none h.capacity (bin_size (table h a)) (bins (table h a)) (or_right _ _ e);
      }

  -- so it is where P is within its limits and no bin is due more
  pub due_sound : capacity_outside h.capacity ≡ false → overfills h.capacity (shape (table h a)) ≡ false → Sound h a
  due_sound e d = formed_sound (capacity_due ∙ or_both _ _ e d)

-- soundness is the table's: arrays that hold the table of sound ones, and pass rules 11 to 16, are sound
pub sound_again : (h : Header) (a b : Arrays) → Sound h a → Formed h b → table h b ≡ table h a → Sound h b
sound_again h a b s formed e =
    record {
      formed = formed;
      some_capacity = s.some_capacity;
      capacity_limit = s.capacity_limit;
      none_overfull = rw e s.none_overfull;
    }

-- 30 lets a sound table pass
pub sound_capacity : (h : Header) (a : Arrays) → Sound h a → capacity_wrong h a ≡ false
unfolding capacity_wrong capacity_outside
sound_capacity h a s =
    or_both _ _
    (not_outside max_capacity h.capacity s.some_capacity s.capacity_limit)
    (none_overfull_lem h.capacity (bin_size (table h a)) (bins (table h a)) s.none_overfull)

-- and none of its bins, with its label, holds more than P
pub held_within : NoneOverfull
held_within h a s y l = within h.capacity (bin_size (table h a) y) (s.none_overfull y l)

-- a capacity of 8 or less is wrong in every table
pub capacity_small : (h : Header) (a : Arrays) → Formed h a → h.capacity ≤ 8 → capacity_wrong h a ≡ true
unfolding shape table
capacity_small h a formed l =
    let some = (bin_within h a formed 0 0 formed.some_blocks (some_bins_lem h a formed 0 formed.some_blocks)).1 in
    let full = no_room h.capacity (shape (table h a)) l formed.some_buckets (omega (arith, some)) in
    capacity_due h a formed
    ∙ ⊎_elim (λ o. or_first _ _ o.0) (λ o. or_last _ _ o.0 ∙ full) (bit_cases (capacity_outside h.capacity))
