-- Laws of bytes at a place of a text: each by itself, and eight digits by fours. Assumes nothing.
use Prim.Native.Nat.{ℕ, suc, ◌+◌, ◌-◌, ◌*◌, ◌/◌, ◌%◌, ◌≤◌, ◌<◌}
use mathlib.Core.Path.{◌≡◌, refl, sym, ◌∙◌, ap}
use mathlib.Core.Bool.{Bool, true, false, ◌&&◌}
use mathlib.Core.List.{List, [], ◌∷◌, ◌++◌}
use native.Mathlib.Nat.{add-zero, div-eq_of_lt, mod-eq_of_lt, mul-add-div, mul-add-mod_self_left}
use native.Mathlib.Numerals.{add-one}
use native.Mathlib.Omega.{arith}
use mathlib.Core.Logic.{⊎_elim}
use lib.ListN.{length, take, drop, get_or, drop_of_length-le}
use lib.Seq.{drop-cons, drop-drop, take-add}
use lib.Dec.{leb}
use Rattle.std.specs.Char.{is_ascii_digit}
use borrow.Author.Tests.{leb-true}
use Rattle.model.specs.Basics.{◌and◌}
use Rattle.model.specs.Decimal.{digits_only, value_from, value}
use Rattle.model.proofs.Counts.{bit_cases, and_left, and_right, and_both}
use Rattle.lines.specs.Words.{bytes_at}

-- a byte that is a digit
pub digit_is : (c : ℕ) → leb 48 c and leb c 57 ≡ true → (48 ≤ c) × (c ≤ 57)
digit_is c h = (leb-true _ _ (and_left _ _ h), leb-true _ _ (and_right _ _ h))

-- the byte at place i, and those behind it
pub bytes_next
    : (l : List ℕ) (i j n : ℕ) → i < length l → j ≡ i + 1 → bytes_at l i (suc n) ≡ get_or l i 0 ∷ bytes_at l j n
bytes_next l i j n h e = rw (drop-cons l i 0 h, e, add-one i)

-- A TEST OF ALL

both : (a b c : Bool) → a and (b and c) ≡ (a && b) and c
unfolding ◌and◌
both true b c = refl
both false b c = refl

and_true : (a : Bool) → a and true ≡ a
unfolding ◌and◌
and_true true = refl
and_true false = refl

ascii_digit : (c : ℕ) → is_ascii_digit c ≡ leb 48 c and leb c 57
unfolding ◌and◌
ascii_digit c = ⊎_elim (λ t. rw t.0) (λ t. rw t.0) (bit_cases (leb 48 c))

-- the test of those before place i is `all`
abbrev pub Passed : List ℕ → ℕ → Bool → Type 0
Passed l i all = all and digits_only (drop i l) ≡ digits_only l

pub passed_none : (l : List ℕ) → Passed l 0 true
unfolding ◌and◌
passed_none l = refl

pub passed_more
    : (l : List ℕ) (i : ℕ) (all b : Bool) → i < length l → b ≡ is_ascii_digit (get_or l i 0) → Passed l i all
    → Passed l (i + 1) (all && b)
unfolding digits_only
passed_more l i all b h e p =
    let rest : drop i l ≡ get_or l i 0 ∷ drop (i + 1) l = rw (drop-cons l i 0 h, add-one i) in
    sym (both all b (digits_only (drop (i + 1) l)))
    ∙ rw (e, ascii_digit (get_or l i 0)) (ap (λ (r : List ℕ). all and digits_only r) (sym rest))
    ∙ p

pub passed_all : (l : List ℕ) (i : ℕ) (all : Bool) → length l ≤ i → Passed l i all → all ≡ digits_only l
unfolding digits_only
passed_all l i all h p = sym (and_true all) ∙ rw (drop_of_length-le l h) at p

-- EIGHT DIGITS BY FOURS

-- a number by its quotient and its remainder
module _ (m x q r : ℕ) (e : x ≡ m * q + r) (h : r < m) where
  quotient : x / m ≡ q
  quotient = ap (λ x. x / m) e ∙ mul-add-div (omega arith) q r ∙ rw (div-eq_of_lt h) (add-zero q)

  remainder : x % m ≡ r
  remainder = ap (λ x. x % m) e ∙ mul-add-mod_self_left m q r ∙ mod-eq_of_lt h

-- four digits: their bytes, and what they are worth
pub record Four (l : List ℕ) (i : ℕ) : Type 0 where
  pub a : (48 ≤ get_or l i 0) × (get_or l i 0 ≤ 57)
  pub b : (48 ≤ get_or l (i + 1) 0) × (get_or l (i + 1) 0 ≤ 57)
  pub c : (48 ≤ get_or l (i + 2) 0) × (get_or l (i + 2) 0 ≤ 57)
  pub d : (48 ≤ get_or l (i + 3) 0) × (get_or l (i + 3) 0 ≤ 57)
  pub is : value (bytes_at l i 4) + 53_328 ≡ 1_000 * get_or l i 0 + 100 * get_or l (i + 1) 0 + 10 * get_or l (i + 2) 0 + get_or l (i + 3) 0
  pub small : value (bytes_at l i 4) ≤ 9_999

module _ (l : List ℕ) (i : ℕ) (h : i + 4 ≤ length l) where
  four_bytes : bytes_at l i 4 ≡ get_or l i 0 ∷ get_or l (i + 1) 0 ∷ get_or l (i + 2) 0 ∷ get_or l (i + 3) 0 ∷ []
  four_bytes =
      bytes_next l i (i + 1) 3 (omega arith) refl
      ∙ ap (λ (w : List ℕ). get_or l i 0 ∷ w)
      (bytes_next l (i + 1) (i + 2) 2 (omega arith) (omega arith)
      ∙ ap (λ (w : List ℕ). get_or l (i + 1) 0 ∷ w)
      (bytes_next l (i + 2) (i + 3) 1 (omega arith) (omega arith)
      ∙ ap (λ (w : List ℕ). get_or l (i + 2) 0 ∷ w) (bytes_next l (i + 3) (i + 4) 0 (omega arith) (omega arith))))

  -- behind a number x
  from_four : (x : ℕ) → value_from x (bytes_at l i 4) ≡ 10_000 * x + value (bytes_at l i 4)
  unfolding value value_from
  from_four x = rw four_bytes (omega arith)

  pub four_at : digits_only (bytes_at l i 4) ≡ true → Four l i
  unfolding value value_from digits_only
  four_at t =
      let all = sym (ap digits_only four_bytes) ∙ t in
      let more = and_right _ _ all in
      let last = and_right _ _ more in
      let a = digit_is (get_or l i 0) (and_left _ _ all) in
      let b = digit_is (get_or l (i + 1) 0) (and_left _ _ more) in
      let c = digit_is (get_or l (i + 2) 0) (and_left _ _ last) in
      let d = digit_is (get_or l (i + 3) 0) (and_left _ _ (and_right _ _ last)) in
      let is = ap value four_bytes in
      record { a = a; b = b; c = c; d = d; is = omega (arith, is, a, b, c, d); small = omega (arith, is, a, b, c, d) }

-- four digits in the bytes of one number w, and their pairs in those of its sum with ten times itself, shifted by a byte
module _ (a b c d w : ℕ) (small : (a ≤ 9) × (b ≤ 9) × (c ≤ 9) × (d ≤ 9)) (is : w ≡ a + 256 * b + 65_536 * c + 16_777_216 * d) where
  shifted : w / 256 ≡ b + 256 * c + 65_536 * d
  shifted = quotient 256 w (b + 256 * c + 65_536 * d) a (omega arith) (omega (arith, small))

  summed : 10 * w + w / 256 ≡ 256 * (10 * b + c + 256 * (10 * c + d) + 65_536 * (10 * d)) + (10 * a + b)
  summed = omega (arith, shifted, is)

  first_pair : (10 * w + w / 256) % 256 ≡ 10 * a + b
  first_pair = remainder 256 _ _ (10 * a + b) summed (omega (arith, small))

  last_pair : (10 * w + w / 256) / 65_536 % 256 ≡ 10 * c + d
  last_pair =
      let over : (10 * w + w / 256) / 65_536 ≡ 256 * (10 * d) + (10 * c + d) =
      quotient 65_536 _ _ (10 * a + b + 256 * (10 * b + c)) (summed ∙ omega arith) (omega (arith, small))
      in
      remainder 256 _ _ (10 * c + d) over (omega (arith, small))

  pairs_value : 100 * ((10 * w + w / 256) % 256) + (10 * w + w / 256) / 65_536 % 256 ≡ 1_000 * a + 100 * b + 10 * c + d
  pairs_value = rw (first_pair, last_pair) (omega arith)

pub four_value
    : {l : List ℕ} {i : ℕ} → Four l i → (w : ℕ)
    → w ≡ get_or l i 0 + 256 * get_or l (i + 1) 0 + 65_536 * get_or l (i + 2) 0 + 16_777_216 * get_or l (i + 3) 0 - 808_464_432
    → 100 * ((10 * w + w / 256) % 256) + (10 * w + w / 256) / 65_536 % 256 ≡ value (bytes_at l i 4)
four_value {l} {i} f w e =
    pairs_value (get_or l i 0 - 48) (get_or l (i + 1) 0 - 48) (get_or l (i + 2) 0 - 48) (get_or l (i + 3) 0 - 48) w
    (omega (arith, f.a), omega (arith, f.b), omega (arith, f.c), omega (arith, f.d))
    (omega (arith, f.a, f.b, f.c, f.d))
    ∙ omega (arith, f.is, f.a, f.b, f.c, f.d)

-- digits, and more of them
digits_both : (u v : List ℕ) → digits_only (u ++ v) ≡ true → (digits_only u ≡ true) × (digits_only v ≡ true)
unfolding digits_only
digits_both [] v h = (refl, h)
digits_both (c ∷ u) v h = let t = digits_both u v (and_right _ _ h) in (and_both _ _ (and_left _ _ h) t.0, t.1)

value_both : (x : ℕ) (u v : List ℕ) → value_from x (u ++ v) ≡ value_from (value_from x u) v
unfolding value_from
value_both x [] v = refl
value_both x (c ∷ u) v = value_both (10 * x + (c - 48)) u v

-- eight digits: the fours, and what they are worth
pub record Eight (l : List ℕ) (i : ℕ) : Type 0 where
  pub first : digits_only (bytes_at l i 4) ≡ true
  pub second : digits_only (bytes_at l (i + 4) 4) ≡ true
  pub high : value (bytes_at l i 4) ≤ 9_999
  pub low : value (bytes_at l (i + 4) 4) ≤ 9_999
  pub is : value (bytes_at l i 8) ≡ 10_000 * value (bytes_at l i 4) + value (bytes_at l (i + 4) 4)

pub eight_at : (l : List ℕ) (i : ℕ) → i + 8 ≤ length l → digits_only (bytes_at l i 8) ≡ true → Eight l i
unfolding value
eight_at l i h t =
    let halves : bytes_at l i 8 ≡ bytes_at l i 4 ++ bytes_at l (i + 4) 4 =
    take-add 4 4 (drop i l) ∙ ap (λ (r : List ℕ). bytes_at l i 4 ++ take 4 r) (drop-drop 4 i l)
    in
    let both = digits_both (bytes_at l i 4) (bytes_at l (i + 4) 4) (sym (ap digits_only halves) ∙ t) in
    record {
      first = both.0;
      second = both.1;
      high = (four_at l i (omega arith) both.0).small;
      low = (four_at l (i + 4) (omega arith) both.1).small;
      is =
          ap (value_from 0) halves
          ∙ value_both 0 (bytes_at l i 4) (bytes_at l (i + 4) 4)
          ∙ from_four l (i + 4) (omega arith) (value_from 0 (bytes_at l i 4));
    }
