-- Document 02, S-8: one bit a bucket, 1 for written, bucket 0 in the lowest bit of the first 64-bit word. Assumes nothing.
use Rattle.std.specs.Prelude.{ℕ, ◌*◌, ◌/◌, ◌%◌, ◌^◌, Bool, List, length, get_or, ltb, eqb}

-- bucket x's bit, 0 or 1: bit x mod 64, from the lowest, of word x / 64
unfoldable pub bit_of : List ℕ → ℕ → ℕ
bit_of bits x = get_or bits (x / 64) 0 / 2 ^ (x % 64) % 2

-- whether bucket x is written
unfoldable pub written : List ℕ → ℕ → Bool
written bits x = eqb (bit_of bits x) 1

-- 42: fewer words than the bits of b buckets need
unfoldable pub bits_short : ℕ → List ℕ → Bool
bits_short b bits = ltb (64 * length bits) b
