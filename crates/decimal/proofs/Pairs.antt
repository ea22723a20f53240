-- Laws of a number's decimal digits by pairs. Assumes nothing.
use Prim.Native.Nat.{ℕ, ◌+◌, ◌/◌, ◌%◌, ◌≤◌, ◌<◌}
use mathlib.Core.Path.{◌≡◌, ◌∙◌, ap}
use mathlib.Core.List.{List, [], ◌∷◌, ◌++◌, append_assoc}
use native.Mathlib.Omega.{arith}
use Rattle.model.specs.Decimal.{decimal}
use Rattle.model.proofs.Decimals.{decimal_one, decimal_more}
use Rattle.digits.specs.Parts.{pair_of, four_of}

-- two digits
pub decimal_two : (n : ℕ) → 10 ≤ n → n < 100 → decimal n ≡ pair_of n
decimal_two n l h =
    decimal_more n (omega arith) l
    ∙ ap (λ (ds : List ℕ). ds ++ (48 + n % 10) ∷ []) (decimal_one (n / 10) (omega arith))

-- more than two: the last two follow those of a hundredth
pub decimal_pair : (n : ℕ) → n < 10_000_000_000 → 100 ≤ n → decimal n ≡ decimal (n / 100) ++ pair_of (n % 100)
decimal_pair n f l =
    let hundredth : n / 10 / 10 ≡ n / 100 = omega arith in
    let tens : n / 10 % 10 ≡ n % 100 / 10 = omega arith in
    let ones : n % 10 ≡ n % 100 % 10 = omega arith in
    decimal_more n f (omega arith)
    ∙ ap (λ (ds : List ℕ). ds ++ (48 + n % 10) ∷ []) (decimal_more (n / 10) (omega arith) (omega arith))
    ∙ append_assoc (decimal (n / 10 / 10)) ((48 + n / 10 % 10) ∷ []) ((48 + n % 10) ∷ [])
    ∙ rw (hundredth, tens, ones)

-- and of four or eight
pub decimal_four
    : (n : ℕ) → n < 10_000_000_000 → 10_000 ≤ n → decimal n ≡ decimal (n / 10_000) ++ four_of (n % 10_000)
decimal_four n f l =
    let first : n / 100 / 100 ≡ n / 10_000 = omega arith in
    let high : n / 100 % 100 ≡ n % 10_000 / 100 = omega arith in
    let low : n % 100 ≡ n % 10_000 % 100 = omega arith in
    decimal_pair n f (omega arith)
    ∙ ap (λ (ds : List ℕ). ds ++ pair_of (n % 100)) (decimal_pair (n / 100) (omega arith) (omega arith))
    ∙ append_assoc (decimal (n / 100 / 100)) (pair_of (n / 100 % 100)) (pair_of (n % 100))
    ∙ rw (first, high, low)

pub decimal_eight
    : (n : ℕ) → n < 10_000_000_000 → 100_000_000 ≤ n
    → decimal n ≡ decimal (n / 100_000_000) ++ (four_of (n % 100_000_000 / 10_000) ++ four_of (n % 100_000_000 % 10_000))
decimal_eight n f l =
    let first : n / 10_000 / 10_000 ≡ n / 100_000_000 = omega arith in
    let high : n / 10_000 % 10_000 ≡ n % 100_000_000 / 10_000 = omega arith in
    let low : n % 10_000 ≡ n % 100_000_000 % 10_000 = omega arith in
    decimal_four n f (omega arith)
    ∙ ap (λ (ds : List ℕ). ds ++ four_of (n % 10_000)) (decimal_four (n / 10_000) (omega arith) (omega arith))
    ∙ append_assoc (decimal (n / 10_000 / 10_000)) (four_of (n / 10_000 % 10_000)) (four_of (n % 10_000))
    ∙ rw (first, high, low)
