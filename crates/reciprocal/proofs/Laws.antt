-- Division as a multiply and a shift, after Granlund and Montgomery, "Division by Invariant Integers using Multiplication" (1994), Theorem 4.2.
-- Assumes nothing.
use Prim.Native.Nat.{ℕ, zero, suc, ◌+◌, ◌-◌, ◌*◌, ◌/◌, ◌%◌, ◌^◌, ◌≤◌, ◌<◌}
use mathlib.Core.Path.{◌≡◌, sym, ◌∙◌, ap, subst}
use native.Mathlib.Nat.{
  le_refl,
  le_trans,
  le_of_eq,
  le_of_lt,
  lt_of_lt_of_le,
  lt_of_le_of_lt,
  lt-suc_self,
  add-lt-add_of_le_of_lt,
  mul_right_comm,
  mul_assoc,
  mul-add,
  suc-mul,
  one-mul,
  mul-le-mul_left,
  mul-le-mul_right,
  lt_of_mul-lt-mul_right,
  div-mul-le_self,
  div-lt_iff_lt-mul,
  div-eq_of_lt-le,
}
use native.Mathlib.Numerals.{add-one}
use native.Mathlib.Omega.{arith}
use lib.Dec.{lit<}
use lib.Pow.{pow-add, shl_lt, shl_exact}
use lib.Count.{count_leading_zeros, leading_length}
use Rattle.reciprocal.specs.Divides.{Divides}

-- n / d is the quotient of n * m by P, where m * d is at least P and exceeds it by at most e, and n * e is below P

quotient_le : (d m P n : ℕ) → P ≤ m * d → n / d * P ≤ n * m
quotient_le d m P n lo =
    le_trans (mul-le-mul_left (n / d) lo)
    (le_trans (le_of_eq (sym (mul_assoc (n / d) m d) ∙ mul_right_comm (n / d) m d)) (mul-le-mul_right m (div-mul-le_self n d)))

product_le : (d m P e n : ℕ) → m * d ≤ P + e → n * m * d ≤ n * P + n * e
product_le d m P e n hi = le_trans (le_of_eq (mul_assoc n m d)) (le_trans (mul-le-mul_left n hi) (le_of_eq (mul-add n P e)))

next_le : (d P n : ℕ) → zero < d → n * P + P ≤ suc (n / d) * P * d
next_le d P n hd =
    le_trans (le_of_eq (sym (suc-mul n P)))
    (le_trans (mul-le-mul_right P ((div-lt_iff_lt-mul hd).0 (lt-suc_self (n / d)))) (le_of_eq (mul_right_comm (suc (n / d)) d P)))

quotient_lt : (d m P e n : ℕ) → zero < d → m * d ≤ P + e → n * e < P → n * m < suc (n / d) * P
quotient_lt d m P e n hd hi small =
    lt_of_mul-lt-mul_right d
    (lt_of_lt_of_le (lt_of_le_of_lt (product_le d m P e n hi) (add-lt-add_of_le_of_lt (le_refl (n * P)) small)) (next_le d P n hd))

multiplied : (d m P e n : ℕ) → zero < d → P ≤ m * d → m * d ≤ P + e → n * e < P → n * m / P ≡ n / d
multiplied d m P e n hd lo hi small =
    div-eq_of_lt-le P (quotient_le d m P n lo)
    (subst (λ (x : ℕ). n * m < x * P) (sym (add-one (n / d))) (quotient_lt d m P e n hd hi small))

-- the reciprocal of d, whose length in bits is l
module _ (d l : ℕ) (some : 1 ≤ d) (below : d < 2 ^ l) (length : 2 ^ l ≤ 2 * d + 1) (few : l ≤ 32) where
  abbrev P : ℕ
  P = 2 ^ (30 + l)

  P_is : P ≡ 2 ^ 30 * 2 ^ l
  P_is = pow-add 2 30 l

  -- the factor times d, and how large it is
  factor_times : (P / d + 1) * d ≡ P / d * d + d
  factor_times = ap (λ k. k * d) (add-one (P / d)) ∙ suc-mul (P / d) d

  factor_lower : P ≤ (P / d + 1) * d
  factor_lower = omega (arith, factor_times, suc-mul (P / d) d, (div-lt_iff_lt-mul some).0 (lt-suc_self (P / d)))

  factor_upper : (P / d + 1) * d ≤ P + 2 ^ l
  factor_upper = omega (arith, factor_times, div-mul-le_self P d, below)

  factor_small : P / d + 1 < 2 ^ 34
  factor_small =
      let most : P / d < 2 ^ 33 = (div-lt_iff_lt-mul some).1 (omega (arith, P_is, length)) in
      omega arith

  divides : Divides (record { factor = P / d + 1; bits = 30 + l }) d
  divides =
      record {
        bits = omega arith;
        fits = λ x h. lt_of_le_of_lt (mul-le-mul_left x (le_of_lt factor_small)) (shl_lt 30 34 h);
        same = λ x h. multiplied d (P / d + 1) P (2 ^ l) x some factor_lower factor_upper (shl_lt 30 l h);
      }

-- what is worked out for a divisor: 30 more than its length, and the reciprocal
length_of : (d : ℕ) → d < 2 ^ 32 → (l : ℕ) × (62 - count_leading_zeros 32 d ≡ 30 + l) × (d < 2 ^ l) × (2 ^ l ≤ 2 * d + 1) × (l ≤ 32)
length_of d h =
    let s = leading_length 32 d h in
    (s.0, omega (arith, s.1), s.2, s.3, omega (arith, s.1))

-- `1 << l` at 64 bits, which is a product cut to 64 bits, is 2 ^ l
one_shifted : (l : ℕ) → l < 64 → (1 * 2 ^ l) % 2 ^ 64 ≡ 2 ^ l
one_shifted l h = shl_exact {a = 1} 1 l 64 (lit< tt) (omega arith) ∙ one-mul (2 ^ l)

pub reciprocal_divides
    : (d : ℕ) → 1 ≤ d → d < 2 ^ 32
    → Divides (record { factor = (1 * 2 ^ (62 - count_leading_zeros 32 d)) % 2 ^ 64 / d + 1; bits = 62 - count_leading_zeros 32 d }) d
reciprocal_divides d some h =
    let (l, e, below, length, few) = length_of d h in
    rw (e, one_shifted (30 + l) (omega (arith, few))) (divides d l some below length few)
