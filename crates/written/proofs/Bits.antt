-- The ones among a word's low k bits are the written buckets among its first k. Assumes nothing.
use Prim.Native.Nat.{ℕ, zero, suc, ◌+◌, ◌*◌, ◌/◌, ◌%◌, ◌^◌, ◌≤◌, ◌<◌}
use mathlib.Core.Path.{◌≡◌, refl, sym, ◌∙◌, ap, ap₂}
use mathlib.Core.List.{List}
use native.Mathlib.Nat.{le_refl, le_of_suc-le-suc, not-suc-le-zero, add-zero, add-suc, mod-lt, mod-one, mod-eq_of_lt}
use native.Mathlib.Omega.{arith}
use lib.Dec.{lit<, eqb}
use lib.Pow.{pow_pos, mod-pow-add, shl_exact}
use lib.Count.{ones, ones_cat}
use lib.ListN.{get_or, length, take, drop, length-take}
use lib.Seq.{get_or-take, get_or-drop}
use Rattle.model.specs.Basics.{bit, sum, count}
use Rattle.model.proofs.Counts.{count_suc}
use Rattle.written.specs.Written.{bit_of, written}

-- ONES

-- a bit has itself
ones_bit : (r : ℕ) → r < 2 → ones r ≡ r
unfolding ones
ones_bit zero l = refl
ones_bit (suc zero) l = refl
ones_bit (suc (suc r)) l = absurd (not-suc-le-zero (le_of_suc-le-suc (le_of_suc-le-suc l)))

bit_one : (r : ℕ) → r < 2 → bit (eqb r 1) ≡ r
unfolding bit
bit_one zero l = refl
bit_one (suc zero) l = refl
bit_one (suc (suc r)) l = absurd (not-suc-le-zero (le_of_suc-le-suc (le_of_suc-le-suc l)))

-- one bit more of w
ones_more : (w k : ℕ) → ones (w % 2 ^ suc k) ≡ ones (w % 2 ^ k) + w / 2 ^ k % 2
ones_more w k =
    let next : suc k ≡ 1 + k = omega arith in
    omega (
      arith,
      ap (λ n. ones (w % 2 ^ n)) next ∙ ap ones (mod-pow-add w 1 k),
      ones_cat k (w / 2 ^ k % 2) (w % 2 ^ k) (mod-lt w (pow_pos k)),
      ones_bit (w / 2 ^ k % 2) (mod-lt (w / 2 ^ k) (lit< tt)),
    )

-- the machine's 1 << k
pub one_shifted : (k : ℕ) → k < 64 → (1 * 2 ^ k) % 2 ^ 64 ≡ 2 ^ k
one_shifted k l = omega (arith, shl_exact {a = 1} 1 k 64 (lit< tt) (omega arith))

-- THE BUCKETS OF A WORD

-- bucket k of word q
bucket_bit : (bits : List ℕ) (q k : ℕ) → k < 64 → bit (written bits (64 * q + k)) ≡ get_or bits q 0 / 2 ^ k % 2
unfolding written bit_of
bucket_bit bits q k l =
    bit_one (bit_of bits (64 * q + k)) (mod-lt _ (lit< tt))
    ∙ ap₂ (λ (i j : ℕ). get_or bits i 0 / 2 ^ j % 2) (omega arith) (omega arith)

-- and bit k weighs 2 ^ k in the word: those of its first k buckets make up its low k bits
weights
    : (bits : List ℕ) (q k : ℕ) → k ≤ 64
    → sum (λ j. bit (written bits (64 * q + j)) * 2 ^ j) k ≡ get_or bits q 0 % 2 ^ k
unfolding sum
weights bits q zero l = sym (mod-one (get_or bits q 0))
weights bits q (suc k) l =
    let next : 1 + k ≡ suc k = omega arith in
    omega (
      arith,
      weights bits q k (omega arith),
      ap (λ d. d * 2 ^ k) (bucket_bit bits q k (omega arith)),
      mod-pow-add (get_or bits q 0) 1 k,
      ap (λ n. get_or bits q 0 % 2 ^ n) next,
    )

pub word_weights
    : (bits : List ℕ) (q : ℕ) → get_or bits q 0 < 2 ^ 64
    → sum (λ j. bit (written bits (64 * q + j)) * 2 ^ j) 64 ≡ get_or bits q 0
word_weights bits q l = weights bits q 64 (le_refl 64) ∙ mod-eq_of_lt l

-- its first k
first_buckets
    : (bits : List ℕ) (q k : ℕ) → k ≤ 64
    → count (written bits) (64 * q + k) ≡ count (written bits) (64 * q) + ones (get_or bits q 0 % 2 ^ k)
first_buckets bits q zero l =
    omega (
      arith,
      ap (count (written bits)) (add-zero (64 * q)),
      ap ones (mod-one (get_or bits q 0)),
      ones_bit 0 (lit< tt),
    )
first_buckets bits q (suc k) l =
    omega (
      arith,
      first_buckets bits q k (omega arith),
      ap (count (written bits)) (add-suc (64 * q) k),
      count_suc (written bits) (64 * q + k),
      bucket_bit bits q k (omega arith),
      ones_more (get_or bits q 0) k,
    )

-- those below bucket x, where the machine cuts the word
pub buckets_below
    : (bits : List ℕ) (x : ℕ)
    → count (written bits) (64 * (x / 64)) + ones (get_or bits (x / 64) 0 % ((1 * 2 ^ (x % 64)) % 2 ^ 64)) ≡ count (written bits) x
buckets_below bits x =
    let whole : 64 * (x / 64) + x % 64 ≡ x = omega arith in
    omega (
      arith,
      first_buckets bits (x / 64) (x % 64) (omega arith),
      ap (count (written bits)) whole,
      ap (λ m. ones (get_or bits (x / 64) 0 % m)) (one_shifted (x % 64) (omega arith)),
    )

-- none of them on a word's edge
pub edge : (bits : List ℕ) (x : ℕ) → x % 64 ≡ 0 → count (written bits) (64 * (x / 64)) ≡ count (written bits) x
edge bits x e = let whole : 64 * (x / 64) ≡ x = omega arith in ap (count (written bits)) whole

-- all 64
pub whole_word
    : (bits : List ℕ) (q : ℕ) → get_or bits q 0 < 2 ^ 64
    → count (written bits) (64 * (q + 1)) ≡ count (written bits) (64 * q) + ones (get_or bits q 0)
whole_word bits q l =
    let next : 64 * (q + 1) ≡ 64 * q + 64 = omega arith in
    omega (
      arith,
      ap (count (written bits)) next,
      first_buckets bits q 64 (le_refl 64),
      ap ones (mod-eq_of_lt l),
    )

-- word i of a part of the words, which begins at word q
module _ (bits : List ℕ) (q n i : ℕ) (h : i < length (take n (drop q bits))) where
  part_word : get_or (take n (drop q bits)) i 0 ≡ get_or bits (q + i) 0
  part_word = get_or-take n (drop q bits) i 0 (omega (arith, length-take n (drop q bits))) ∙ get_or-drop q bits i 0

  -- its buckets with those before them
  pub counted
      : get_or bits (q + i) 0 < 2 ^ 64
      → count (written bits) (64 * (q + (i + 1))) ≡ count (written bits) (64 * (q + i)) + ones (get_or (take n (drop q bits)) i 0)
  counted l =
      let next : q + (i + 1) ≡ q + i + 1 = omega arith in
      omega (
        arith,
        whole_word bits (q + i) l,
        ap (λ m. count (written bits) (64 * m)) next,
        ap ones part_word,
      )
