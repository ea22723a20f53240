-- Document 02, S-7, 'The mover', and S-8, blank buckets: one call. Assumes nothing.
use Rattle.std.specs.Prelude.{ℕ, ◌+◌, ◌*◌, Bool, true, false, List, [], ◌∷◌, ◌++◌, length, get_or, set, ltb}
use Rattle.model.specs.Basics.{if◌then◌otherwise◌, ◌and◌}
use Rattle.model.specs.Table.{Shape, Table, Arrays, table}
use Rattle.model.specs.Refusal.{Test, first, order_past}
use Rattle.model.specs.Expansion.{expanded}
use Rattle.model.specs.Calls.{answer, table_tests, growth_tests, rows_of}
use Rattle.model.specs.declared.table.Header.{Header}
use Rattle.model.specs.declared.reply.CarryReply.{CarryReply}
use Rattle.written.specs.Written.{written, bits_short}

-- WHAT ALL CALLS OF A RUN ARE GIVEN

-- an old table, as it is lent, and the sizes asked for
pub record Growth : Type 0 where
  pub header : Header
  pub arrays : Arrays
  pub sizes : Shape

abbrev pub growth : Header → Arrays → Shape → Growth
growth h a s = record { header = h; arrays = a; sizes = s }

-- the map before and after
abbrev pub old_table : Growth → Table
old_table g = table g.header g.arrays

abbrev pub new_table : Growth → Table
new_table g = expanded (old_table g) g.sizes

-- the rows of the move list: that of order number m, its bucket, and how many there are
unfoldable pub row_at : Growth → ℕ → List ℕ
row_at g m = get_or (rows_of g.header g.arrays g.sizes) m []

abbrev pub bucket_at : Growth → ℕ → ℕ
bucket_at g m = get_or (row_at g m) 0 0

unfoldable pub total : Growth → ℕ
total g = length (rows_of g.header g.arrays g.sizes)

-- WHICH BUCKETS ARE WRITTEN, as a call is told

-- `carry` is told nothing, and takes every bucket for a written one; `carry_written` is told by one bit a bucket, in 64-bit words
pub data Told : Type 0 where
  every : Told
  bits : List ℕ → Told

unfoldable pub is_written : Told → ℕ → Bool
is_written every x = true
is_written (bits ws) x = written ws x

-- 42: fewer words than B bits need, B that of the old table
unfoldable pub told_short : Growth → Told → Bool
told_short g every = false
told_short g (bits ws) = bits_short g.header.buckets ws

-- WORDS

-- the word of a place, where the capacity is p: at bin (drawer) y × P + position q
unfoldable pub word_at : ℕ → ℕ → ℕ → ℕ
word_at p y q = y * p + q

-- the words of row m's old place and of its new one
unfoldable pub source : Growth → ℕ → ℕ
source g m = word_at g.header.capacity (get_or (row_at g m) 1 0) (get_or (row_at g m) 2 0)

unfoldable pub target : Growth → ℕ → ℕ
target g m = word_at g.header.capacity (get_or (row_at g m) 3 0) (get_or (row_at g m) 4 0)

-- the lent array with v at row m's new place, and with the word of its old place there
unfoldable pub put : Growth → ℕ → ℕ → List ℕ → List ℕ
put g m v ws = set ws (target g m) v

unfoldable pub copied : Growth → ℕ → List ℕ → List ℕ
copied g m ws = put g m (get_or ws (source g m) 0) ws

-- THE CALL, told which buckets are written, and given an array `ws` of words and a mark m

-- whether it copies: there is a row m, and its bucket is written
unfoldable pub copies : Growth → Told → ℕ → Bool
copies g told m = ltb m (total g) and is_written told (bucket_at g m)

-- 40: an array shorter than the new number of bins × P
unfoldable pub words_short : Growth → List ℕ → Bool
words_short g ws = ltb (length ws) (g.sizes.bins * g.header.capacity)

-- the checks of the move list, but for 9; then 40; then 42; then 41, a mark above the total
unfoldable pub carry_tests : Growth → Told → List ℕ → ℕ → List Test
carry_tests g told ws m = (40, words_short g ws) ∷ (42, told_short g told) ∷ (41, order_past (total g) m) ∷ []

unfoldable pub carry_refusal : Growth → Told → List ℕ → ℕ → ℕ
carry_refusal g told ws m =
    first (table_tests g.header g.arrays ++ (growth_tests (old_table g) g.sizes ++ carry_tests g told ws m))

-- the mark raised by one; or, where it has reached the total, as it was, and this said
unfoldable pub carry_reply : Growth → Told → List ℕ → ℕ → CarryReply
carry_reply g told ws m =
    answer (carry_refusal g told ws m)
    (if ltb m (total g) then record { refusal = 0; mark = m + 1; finished = 0 } otherwise record { refusal = 0; mark = m; finished = 1 })
    (record { refusal = carry_refusal g told ws m; mark = 0; finished = 0 })

-- one row's copy, or none
unfoldable pub carry_words : Growth → Told → List ℕ → ℕ → List ℕ
carry_words g told ws m = answer (carry_refusal g told ws m) (if copies g told m then copied g m ws otherwise ws) ws
