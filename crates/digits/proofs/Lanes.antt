-- Laws of numbers that stand side by side in a word, each divided at once. Assumes nothing.
use Prim.Native.Nat.{ℕ, zero, suc, ◌+◌, ◌-◌, ◌*◌, ◌/◌, ◌%◌, ◌^◌, ◌<◌}
use mathlib.Core.Path.{◌≡◌, refl, ◌∙◌, ap, ap₂}
use mathlib.Core.List.{[], ◌∷◌, ◌++◌}
use native.Mathlib.Nat.{mod-eq_of_lt, add-mul-mod_self_left}
use native.Mathlib.Omega.{arith}
use lib.Bits.{bit_and, and_block, and_mask}
use lib.ListN.{get_or}
use Rattle.std.specs.Int.{w64, from_be_bytes, to_be_bytes}
use Rattle.std.proofs.lemmas.Nat.{be_bytes_8}
use Rattle.digits.specs.Parts.{pair_of, four_of}

-- a mask of the low j bits of each lane of w bits: the lowest lane by itself
lane
    : (w j q m l v : ℕ) → l < 2 ^ w → 2 ^ j - 1 < 2 ^ w → l % 2 ^ j ≡ v
    → bit_and (q * 2 ^ w + l) (m * 2 ^ w + (2 ^ j - 1)) ≡ bit_and q m * 2 ^ w + v
lane w j q m l v a b e = and_block w q m l (2 ^ j - 1) a b ∙ ap (λ x. bit_and q m * 2 ^ w + x) (and_mask l j ∙ e)

-- THE HUNDREDS OF TWO NUMBERS

hundredth : (x : ℕ) → x < 10_000 → x * 5_243 / 524_288 ≡ x / 100
hundredth x h = omega arith

hundreds_lane
    : (x y m : ℕ) → x < 10_000
    → bit_and ((4_294_967_296 * y + x) * 5_243 / 524_288) (m * 4_294_967_296 + 127)
    ≡ bit_and (y * 5_243 / 524_288) m * 4_294_967_296 + x / 100
hundreds_lane x y m h =
    let over = y * 5_243 % 524_288 in
    let l = x / 100 + 128 * (64 * over) in
    let split : (4_294_967_296 * y + x) * 5_243 / 524_288 ≡ y * 5_243 / 524_288 * 4_294_967_296 + l = omega (arith, hundredth x h) in
    let few : x / 100 < 128 = omega arith in
    ap (λ k. bit_and k (m * 4_294_967_296 + 127)) split
    ∙ lane 32 7 (y * 5_243 / 524_288) m l (x / 100) (omega arith) (omega arith)
    (add-mul-mod_self_left (x / 100) 128 (64 * over) ∙ mod-eq_of_lt few)

hundreds
    : (high low : ℕ) → high < 10_000 → low < 10_000
    → bit_and ((4_294_967_296 * low + high) * 5_243 / 524_288) 545_460_846_719 ≡ 4_294_967_296 * (low / 100) + high / 100
hundreds high low h l =
    let few : low * 5_243 / 524_288 < 128 = omega (arith, hundredth low l) in
    hundreds_lane high low 127 h
    ∙ omega (arith, and_mask (low * 5_243 / 524_288) 7, mod-eq_of_lt few, hundredth low l)

-- THE TENS OF FOUR PAIRS

tenth : (x : ℕ) → x < 100 → x * 103 / 1_024 ≡ x / 10
tenth x h = omega arith

tens_lane
    : (x y m : ℕ) → x < 100
    → bit_and ((65_536 * y + x) * 103 / 1_024) (m * 65_536 + 15) ≡ bit_and (y * 103 / 1_024) m * 65_536 + x / 10
tens_lane x y m h =
    let over = y * 103 % 1_024 in
    let l = x / 10 + 16 * (4 * over) in
    let split : (65_536 * y + x) * 103 / 1_024 ≡ y * 103 / 1_024 * 65_536 + l = omega (arith, tenth x h) in
    let few : x / 10 < 16 = omega arith in
    ap (λ k. bit_and k (m * 65_536 + 15)) split
    ∙ lane 16 4 (y * 103 / 1_024) m l (x / 10) (omega arith) (omega arith)
    (add-mul-mod_self_left (x / 10) 16 (4 * over) ∙ mod-eq_of_lt few)

tens
    : (a b c d : ℕ) → a < 100 → b < 100 → c < 100 → d < 100
    → bit_and ((65_536 * (65_536 * (65_536 * d + c) + b) + a) * 103 / 1_024) 4_222_189_076_152_335
    ≡ 65_536 * (65_536 * (65_536 * (d / 10) + c / 10) + b / 10) + a / 10
tens a b c d ha hb hc hd =
    let few : d * 103 / 1_024 < 16 = omega (arith, tenth d hd) in
    let first = tens_lane a (65_536 * (65_536 * d + c) + b) 64_425_492_495 ha in
    let second = tens_lane b (65_536 * d + c) 983_055 hb in
    let third = tens_lane c d 15 hc in
    first ∙ omega (arith, second, third, and_mask (d * 103 / 1_024) 4, mod-eq_of_lt few, tenth d hd)

-- THE DIGITS OF FOUR PAIRS

-- the characters of four pairs, the last pair lowest, from the pairs and their tens
pairs_text
    : (p q r s : ℕ)
    → 65_536 * (65_536 * (65_536 * s + r) + q)
    + p
    + 246 * (65_536 * (65_536 * (65_536 * (s / 10) + r / 10) + q / 10) + p / 10)
    + 3_472_328_296_227_680_304
    ≡ from_be_bytes w64 (pair_of s ++ pair_of r ++ pair_of q ++ pair_of p)
pairs_text p q r s = omega arith

-- each is a byte
bytes_eight
    : (a b c d e f g h : ℕ) → a < 256 → b < 256 → c < 256 → d < 256 → e < 256 → f < 256 → g < 256 → h < 256
    → (i : ℕ) → get_or (a ∷ b ∷ c ∷ d ∷ e ∷ f ∷ g ∷ h ∷ []) i 0 < 256
bytes_eight a b c d e f g h la lb lc ld le lf lg lh zero = la
bytes_eight a b c d e f g h la lb lc ld le lf lg lh (suc zero) = lb
bytes_eight a b c d e f g h la lb lc ld le lf lg lh (suc (suc zero)) = lc
bytes_eight a b c d e f g h la lb lc ld le lf lg lh (suc (suc (suc zero))) = ld
bytes_eight a b c d e f g h la lb lc ld le lf lg lh (suc (suc (suc (suc zero)))) = le
bytes_eight a b c d e f g h la lb lc ld le lf lg lh (suc (suc (suc (suc (suc zero))))) = lf
bytes_eight a b c d e f g h la lb lc ld le lf lg lh (suc (suc (suc (suc (suc (suc zero)))))) = lg
bytes_eight a b c d e f g h la lb lc ld le lf lg lh (suc (suc (suc (suc (suc (suc (suc zero))))))) = lh
bytes_eight a b c d e f g h la lb lc ld le lf lg lh (suc (suc (suc (suc (suc (suc (suc (suc i)))))))) = omega arith

-- the four pairs of eight digits, from their halves and the hundreds of these
halves_pairs
    : (high low : ℕ)
    → 4_294_967_296 * high + low + 65_436 * (4_294_967_296 * (high / 100) + low / 100)
    ≡ 65_536 * (65_536 * (65_536 * (high / 100) + high % 100) + low / 100) + low % 100
halves_pairs high low = omega arith

module _ (n : ℕ) (small : n < 100_000_000) where
  abbrev high : ℕ
  high = n / 10_000

  abbrev low : ℕ
  low = n % 10_000

  high_few : high < 10_000
  high_few = omega arith

  low_few : low < 10_000
  low_few = omega arith

  abbrev fours : ℕ
  fours = n + 4_294_957_296 * (n / 10_000)

  abbrev hundreds_of : ℕ
  hundreds_of = bit_and (fours * 5_243 / 524_288) 545_460_846_719

  abbrev pairs : ℕ
  pairs = fours + 65_436 * hundreds_of

  abbrev tens_of : ℕ
  tens_of = bit_and (pairs * 103 / 1_024) 4_222_189_076_152_335

  abbrev digits : ℕ
  digits = pairs + 246 * tens_of

  fours_made : fours ≡ 4_294_967_296 * high + low
  fours_made = omega arith

  hundreds_made : hundreds_of ≡ 4_294_967_296 * (high / 100) + low / 100
  hundreds_made = ap (λ k. bit_and (k * 5_243 / 524_288) 545_460_846_719) fours_made ∙ hundreds low high low_few high_few

  pairs_made : pairs ≡ 65_536 * (65_536 * (65_536 * (high / 100) + high % 100) + low / 100) + low % 100
  pairs_made = ap₂ (λ x y. x + 65_436 * y) fours_made hundreds_made ∙ halves_pairs high low

  tens_made : tens_of ≡ 65_536 * (65_536 * (65_536 * (high / 100 / 10) + high % 100 / 10) + low / 100 / 10) + low % 100 / 10
  tens_made =
      ap (λ k. bit_and (k * 103 / 1_024) 4_222_189_076_152_335) pairs_made
      ∙ tens (low % 100) (low / 100) (high % 100) (high / 100) (omega arith) (omega arith) (omega arith) (omega arith)

  text_made : digits + 3_472_328_296_227_680_304 ≡ from_be_bytes w64 (four_of high ++ four_of low)
  text_made =
      ap₂ (λ x y. x + 246 * y + 3_472_328_296_227_680_304) pairs_made tens_made
      ∙ pairs_text (low % 100) (low / 100) (high % 100) (high / 100)

  pub text_bytes : to_be_bytes w64 (digits + 3_472_328_296_227_680_304) ≡ four_of high ++ four_of low
  text_bytes =
      be_bytes_8 (four_of high ++ four_of low) _ refl
      (bytes_eight _ _ _ _ _ _ _ _ (omega arith) (omega arith) (omega arith) (omega arith)
      (omega arith) (omega arith) (omega arith) (omega arith))
      text_made
