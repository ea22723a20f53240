-- Laws of balanced maps: sizes sum up, every bin has B / n buckets or one more, the old bins hold at most T, and x % n is
-- balanced. Assumes nothing.
use Prim.Native.Nat.{ℕ, zero, suc, ◌+◌, ◌-◌, ◌*◌, ◌/◌, ◌%◌, ◌≤◌, ◌<◌}
use mathlib.Core.Path.{◌≡◌, sym, ◌∙◌, ap}
use mathlib.Core.Logic.{⊎_elim}
use native.Mathlib.Nat.{add-mul, mul-suc, zero-div, zero-mod, div-add-mod, mod-lt, div_self, mod_self, div-eq_of_lt, mod-eq_of_lt}
use native.Mathlib.Nat.{mul-add-div, mul-add-mod_self_left}
use native.Mathlib.Omega.{arith}
use lib.Dec.{ltb, eqb}
use Rattle.model.specs.Basics.{bit, sum, count}
use Rattle.model.specs.Table.{Shape}
use Rattle.model.specs.Place.{size}
use Rattle.model.specs.Due.{due}
use Rattle.model.specs.Balance.{Balanced, held_below, due_below, most}
use Rattle.model.specs.Claims.{BalancedExists, MostHeld}
use Rattle.model.proofs.Counts.{bit_lt, bit_eq, bit_ne, below_or, sum_ext, sum_split, sum_const, sum_upper, sum_lower, sum_upper_at, sum_swap, sum_point}
use Rattle.model.proofs.Dues.{due_more, due_less, dues_below}

-- the sizes of the first n bins sum to what those bins hold
pub sizes_below : (f : ℕ → ℕ) (b n : ℕ) → sum (size f b) n ≡ held_below f b n
unfolding size held_below count
sizes_below f b n =
    sum_swap (λ x y. bit (eqb (f x) y)) b n
    ∙ sum_ext (λ x. sum (λ y. bit (eqb (f x) y)) n) (λ x. bit (ltb (f x) n)) b (λ x l. sum_point (f x) n)

-- and all of them to B
pub sizes_sum : (s : Shape) (f : ℕ → ℕ) → Balanced s f → sum (size f s.buckets) s.bins ≡ s.buckets
unfolding held_below count
sizes_sum s f b =
    sizes_below f s.buckets s.bins
    ∙ sum_ext (λ x. bit (ltb (f x) s.bins)) (λ x. 1) s.buckets (λ x l. bit_lt (f x) s.bins (b.within x l))
    ∙ sum_const 1 s.buckets
    ∙ omega arith

module _ (s : Shape) (f : ℕ → ℕ) (b : Balanced s f) where
  -- no bin has more than B / n + 1
  pub size_upper : (y : ℕ) → y < s.bins → size f s.buckets y ≤ s.buckets / s.bins + 1
  size_upper y l =
      ⊎_elim
      (λ h.
      absurd
      (omega (
        arith,
        sum_lower (size f s.buckets) s.bins (suc (s.buckets / s.bins)) (λ z k. omega (arith, b.even y z l k)),
        sizes_sum s f b,
        mul-suc s.bins (s.buckets / s.bins),
        div-add-mod s.buckets s.bins,
        mod-lt s.buckets {m = s.bins} (omega arith),
      )))
      (λ h. h)
      (below_or (s.buckets / s.bins + 1) (size f s.buckets y))

  -- and none has fewer than B / n
  pub size_lower : (y : ℕ) → y < s.bins → s.buckets / s.bins ≤ size f s.buckets y
  size_lower y l =
      ⊎_elim
      (λ h.
      absurd
      (omega (
        arith,
        sum_upper_at (size f s.buckets) s.bins (s.buckets / s.bins) y l (λ z k. omega (arith, b.even z y k l)),
        sizes_sum s f b,
        div-add-mod s.buckets s.bins,
      )))
      (λ h. h)
      (below_or (size f s.buckets y) (s.buckets / s.bins))

-- none holds more than T
pub held_at_most
    : (s s' : Shape) (g : ℕ → ℕ) → s.bins ≤ s'.bins → Balanced s' g → held_below g s'.buckets s.bins ≤ most s s'
unfolding most due_below
held_at_most s s' g le b =
    let q = s'.buckets / s'.bins in
    let d = s'.bins - s.bins in
    let whole : s.bins + d ≡ s'.bins = omega arith in
    omega (
      arith,
      sizes_below g s'.buckets s.bins,
      sum_upper (size g s'.buckets) s.bins (suc q) (λ y l. omega (arith, size_upper s' g b y (omega arith))),
      mul-suc s.bins q,
      sum_split (size g s'.buckets) s.bins d,
      ap (sum (size g s'.buckets)) whole,
      sizes_sum s' g b,
      sum_lower (λ i. size g s'.buckets (s.bins + i)) d q (λ y l. size_lower s' g b (s.bins + y) (omega arith)),
      add-mul s.bins d q,
      ap (λ n. n * q) whole,
      div-add-mod s'.buckets s'.bins,
    )

-- x % n gives every bin its due

module _ (b n : ℕ) (some : 1 ≤ n) where
  one_more : suc b ≡ n * (b / n) + suc (b % n)
  one_more = omega (arith, div-add-mod b n)

  next_div : suc b / n ≡ b / n + suc (b % n) / n
  next_div = ap (λ m. m / n) one_more ∙ mul-add-div some (b / n) (suc (b % n))

  next_mod : suc b % n ≡ suc (b % n) % n
  next_mod = ap (λ m. m % n) one_more ∙ mul-add-mod_self_left n (b / n) (suc (b % n))

abbrev pub shaped : ℕ → ℕ → Shape
shaped b n = record { buckets = b; bins = n }

-- one bucket more raises the due of bin B % n by 1, and no other
due_next
    : (b n y : ℕ) → 1 ≤ n → y < n → due (shaped (suc b) n) y ≡ due (shaped b n) y + bit (eqb (b % n) y)
due_next b n y some l =
    ⊎_elim
    (λ h.
    let quotient : suc b / n ≡ b / n = omega (arith, next_div b n some, div-eq_of_lt h) in
    let remainder : suc b % n ≡ suc (b % n) = next_mod b n some ∙ mod-eq_of_lt h in
    ⊎_elim
    (λ k.
    omega (
      arith,
      due_more (shaped (suc b) n) y (omega arith),
      due_more (shaped b n) y k,
      bit_ne (b % n) y (λ e. omega arith),
    ))
    (λ k.
    ⊎_elim
    (λ m.
    omega (
      arith,
      due_less (shaped (suc b) n) y (omega arith),
      due_less (shaped b n) y k,
      bit_ne (b % n) y (λ e. omega arith),
    ))
    (λ m.
    omega (
      arith,
      due_more (shaped (suc b) n) y (omega arith),
      due_less (shaped b n) y k,
      bit_eq (b % n) y (omega arith),
    ))
    (below_or (b % n) y))
    (below_or y (b % n)))
    (λ h.
    let full : suc (b % n) ≡ n = omega (arith, mod-lt b some) in
    let quotient : suc b / n ≡ b / n + 1 = omega (arith, next_div b n some, ap (λ m. m / n) full, div_self some) in
    let remainder : suc b % n ≡ 0 = next_mod b n some ∙ ap (λ m. m % n) full ∙ mod_self n in
    ⊎_elim
    (λ k.
    omega (
      arith,
      due_less (shaped (suc b) n) y (omega arith),
      due_more (shaped b n) y k,
      bit_ne (b % n) y (λ e. omega arith),
    ))
    (λ k.
    omega (
      arith,
      due_less (shaped (suc b) n) y (omega arith),
      due_less (shaped b n) y k,
      bit_eq (b % n) y (omega arith),
    ))
    (below_or y (b % n)))
    (below_or (suc (b % n)) n)

pub modulo_size : (b n y : ℕ) → 1 ≤ n → y < n → size (λ x. x % n) b y ≡ due (shaped b n) y
unfolding size count sum
modulo_size zero n y some l = sym (due_less (shaped 0 n) y (omega (arith, zero-mod n)) ∙ zero-div n)
modulo_size (suc b) n y some l = omega (arith, modulo_size b n y some l, due_next b n y some l)

pub balanced_exists_lem : BalancedExists
balanced_exists_lem s some =
    record {
      within = λ x l. mod-lt x some;
      even = λ y z l k. omega (arith, at y l, at z k, bounds y, bounds z);
    }
  where
    at : (y : ℕ) → y < s.bins → size (λ x. x % s.bins) s.buckets y ≡ due s y
    at y l = modulo_size s.buckets s.bins y some l

    bounds : (y : ℕ) → (s.buckets / s.bins ≤ due s y) × (due s y ≤ s.buckets / s.bins + 1)
    bounds y =
        ⊎_elim (λ h. omega (arith, due_more s y h)) (λ h. omega (arith, due_less s y h)) (below_or y (s.buckets % s.bins))

-- T is the most that the old bins hold
pub most_held_lem : MostHeld
unfolding most
most_held_lem s s' grows = (
  λ g b. held_at_most s s' g grows.bins b,
  ((λ x. x % s'.bins), balanced_exists_lem s' some, held),
)
  where
    some : 1 ≤ s'.bins
    some = omega arith

    held : held_below (λ x. x % s'.bins) s'.buckets s.bins ≡ due_below s' s.bins
    held =
        sym (sizes_below (λ x. x % s'.bins) s'.buckets s.bins)
        ∙ sum_ext (size (λ x. x % s'.bins) s'.buckets) (due s') s.bins
        (λ y l. modulo_size s'.buckets s'.bins y some (omega arith))
        ∙ dues_below s' s.bins
