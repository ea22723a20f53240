-- A number's first two or eight digits, stored with a zero before a single first one; the blank before them; and more behind them.
-- Assumes nothing.
use Prim.Native.Nat.{ℕ, suc, ◌+◌, ◌-◌, ◌/◌, ◌%◌, ◌^◌, ◌≤◌, ◌<◌}
use mathlib.Core.Path.{◌≡◌, refl, sym, ◌∙◌, ap}
use mathlib.Core.Logic.{◌⊎◌, inl, inr, ⊎_elim}
use mathlib.Core.List.{List, [], ◌∷◌, ◌++◌}
use native.Mathlib.Omega.{arith}
use lib.ListN.{length, set}
use lib.Dec.{ltb}
use lib.Seq.{sets, set-set, length-sets}
use mir.Val.{bool_byte}
use borrow.Author.Tests.{ltb-true, ltb-false}
use Rattle.model.proofs.Counts.{bit_cases}
use Rattle.model.specs.Decimal.{decimal}
use Rattle.digits.specs.Parts.{pair_of, four_of}
use Rattle.model.proofs.Decimals.{decimal_one, decimal_few}
use Rattle.decimal.proofs.Pairs.{decimal_two, decimal_pair, decimal_four}
use Rattle.model.proofs.Entries.{sets_swap, put_none, put_more}

-- zs, stored from place o on, are the digits ds of a number whose blank goes to place `at`: with a zero there, or without
abbrev pub Lead : ℕ → ℕ → List ℕ → List ℕ → Type 0
Lead at o ds zs = ((zs ≡ ds) × (o ≡ suc at)) ⊎ ((zs ≡ 48 ∷ ds) × (o ≡ at))

-- the digits and the blank are stored
pub lead_done
    : {at o : ℕ} {ds zs : List ℕ} → Lead at o ds zs → {end : ℕ} {new : List ℕ} (out : List ℕ) → new ≡ sets out o zs → end ≡ o + length zs
    → (end ≡ at + length (32 ∷ ds)) × (set new at 32 ≡ sets out at (32 ∷ ds))
lead_done {at} {o} {ds} {zs} lead {end} {new} out e p =
    ⊎_elim
    (λ same. (
      omega (arith, ap length same.0, same.1),
      ap (λ (m : List ℕ). set m at 32) (e ∙ ap (sets out o) same.0 ∙ ap (λ k. sets out k ds) same.1)
          ∙ sym (sets_swap (32 ∷ []) ds out at (suc at) (omega arith)),
    ))
    (λ zero. (
      omega (arith, ap length zero.0, zero.1),
      ap (λ (m : List ℕ). set m at 32) (e ∙ ap (sets out o) zero.0 ∙ ap (λ k. sets out k (48 ∷ ds)) zero.1)
          ∙ sym (sets_swap (32 ∷ []) ds (set out at 48) at (suc at) (omega arith))
          ∙ ap (λ (m : List ℕ). sets m (suc at) ds) (set-set out at 48 32),
    ))
    lead

-- more digits behind the first
lead_more
    : {at o : ℕ} {zs : List ℕ} (n m : ℕ) (tail : List ℕ) → decimal n ≡ decimal m ++ tail → Lead at o (decimal m) zs
    → Lead at o (decimal n) (zs ++ tail)
lead_more n m tail e lead =
    ⊎_elim
    (λ same. inl (ap (λ (xs : List ℕ). xs ++ tail) same.0 ∙ sym e, same.1))
    (λ zero. inr (ap (λ (xs : List ℕ). xs ++ tail) zero.0 ∙ ap (λ xs. 48 ∷ xs) (sym e), zero.1))
    lead

-- the digits of a number that is at least `least` begin behind place `at`, and those of a smaller one a place before
abbrev First : ℕ → ℕ → ℕ → ℕ → Type 0
First n least at o = ((least ≤ n) × (o ≡ suc at)) ⊎ ((n < least) × (o ≡ at))

lead_two : (n at o : ℕ) → n < 100 → First n 10 at o → Lead at o (decimal n) (pair_of n)
lead_two n at o u b =
    ⊎_elim
    (λ m. inl (sym (decimal_two n m.0 u), m.1))
    (λ l.
    let none : 48 + n / 10 ≡ 48 = omega (arith, l.0) in
    let ones : 48 + n % 10 ≡ 48 + n = omega (arith, l.0) in
    inr (rw (none, ones, decimal_one n l.0), l.1))
    b

lead_eight
    : (n at o : ℕ) → 1_000_000 ≤ n → n < 100_000_000 → First n 10_000_000 at o
    → Lead at o (decimal n) (four_of (n / 10_000) ++ four_of (n % 10_000))
lead_eight n at o l u b =
    let first : First (n / 10_000 / 100) 10 at o =
    ⊎_elim (λ m. inl (omega (arith, m.0), m.1)) (λ l. inr (omega (arith, l.0), l.1)) b
    in
    lead_more n (n / 10_000) (four_of (n % 10_000)) (decimal_four n (omega arith) (omega arith))
    (lead_more (n / 10_000) (n / 10_000 / 100) (pair_of (n / 10_000 % 100))
    (decimal_pair (n / 10_000) (omega arith) (omega arith))
    (lead_two (n / 10_000 / 100) at o (omega arith) first))

-- STORED

-- r is 1 below `least`, and 0 from it on
pub most : (n least r : ℕ) → r ≡ bool_byte (ltb n least) → r ≤ 1
most n least r b =
    ⊎_elim
    (λ t. let one : r ≡ 1 = b ∙ rw t.0 in omega arith)
    (λ t. let none : r ≡ 0 = b ∙ rw t.0 in omega arith)
    (bit_cases (ltb n least))

-- two digits or eight up to place `end`, and the blank
module _ (n at r end : ℕ) (old new : List ℕ) where
  begins : (least k : ℕ) → r ≡ bool_byte (ltb n least) → 1 ≤ k → end ≡ at + (k + 1 - r) → First n least at (end - k)
  begins least k b some e =
      ⊎_elim
      (λ t. let one : r ≡ 1 = b ∙ rw t.0 in inr (ltb-true n least t.0, omega (arith, one)))
      (λ t. let none : r ≡ 0 = b ∙ rw t.0 in inl (ltb-false n least t.0, omega (arith, none)))
      (bit_cases (ltb n least))

  pub two_done
      : n < 100 → r ≡ bool_byte (ltb n 10) → end ≡ at + (3 - r) → new ≡ sets old (end - 2) (pair_of n)
      → (end ≡ at + length (32 ∷ decimal n)) × (set new at 32 ≡ sets old at (32 ∷ decimal n))
  two_done u b e s =
      lead_done (lead_two n at (end - 2) u (begins 10 2 b (omega arith) e)) old s (omega (arith, e, most n 10 r b))

  pub eight_done
      : 1_000_000 ≤ n → n < 100_000_000 → r ≡ bool_byte (ltb n 10_000_000) → end ≡ at + (9 - r)
      → new ≡ sets old (end - 8) (four_of (n / 10_000) ++ four_of (n % 10_000))
      → (end ≡ at + length (32 ∷ decimal n)) × (set new at 32 ≡ sets old at (32 ∷ decimal n))
  eight_done l u b e s =
      lead_done (lead_eight n at (end - 8) l u (begins 10_000_000 8 b (omega arith) e)) old s (omega (arith, e, most n 10_000_000 r b))

-- the digits of m are stored, and behind them the others of n
pub stored_more
    : (at end m n : ℕ) (old out new tail : List ℕ) → decimal n ≡ decimal m ++ tail → end ≡ at + length (32 ∷ decimal m)
    → out ≡ sets old at (32 ∷ decimal m) → new ≡ sets out end tail
    → (end + length tail ≡ at + length (32 ∷ decimal n)) × (new ≡ sets old at (32 ∷ decimal n))
stored_more at end m n old out new tail e p q r =
    let both = put_more (put_more (put_none at old) (32 ∷ decimal m) q p) tail r refl in
    let whole : (32 ∷ decimal m) ++ tail ≡ 32 ∷ decimal n = ap (λ (ds : List ℕ). 32 ∷ ds) (sym e) in
    (both.place ∙ ap (λ (ds : List ℕ). at + length ds) whole, both.holds ∙ ap (sets old at) whole)

-- with room for k more behind the j digits of m
pub stored_room
    : (at end m j k : ℕ) (old out : List ℕ) → m < 10 ^ suc j → suc j + k ≤ 10 → at + 11 ≤ length old
    → end ≡ at + length (32 ∷ decimal m) → out ≡ sets old at (32 ∷ decimal m) → end + k ≤ length out
stored_room at end m j k old out few fit h p q =
    omega (arith, decimal_few j m few, ap length q, length-sets old at (32 ∷ decimal m))
