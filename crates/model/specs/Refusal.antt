-- Document 01, 'Who brings a refusal about', and the numbers that requests add to it: the conditions, in the order of docs/REFUSALS.md. Those of a
-- file stand in Saved, that of a sheet in Sheet, those of the program's lines in Console, those of the mover in crate `mover`, the order of a call's
-- tests in Calls. Assumes nothing.
use Rattle.std.specs.Prelude.{ℕ, ◌+◌, ◌*◌, Bool, not, List, [], ◌∷◌, length, get_or, leb, ltb, eqb}
use Rattle.model.specs.Basics.{if◌then◌otherwise◌, ◌and◌, ◌or◌, all, before}
use Rattle.model.specs.Limits.{max_buckets, max_capacity, label, max_bins, max_blocks, max_intervals, max_expansions}
use Rattle.model.specs.Table.{Shape, Table, bins, shape, Arrays, table}
use Rattle.model.specs.Place.{held, others, bin_size}
use Rattle.model.specs.Due.{due, due_of_block}
use Rattle.model.specs.Expansion.{expanded}
use Rattle.model.specs.declared.table.Header.{Header}

-- a refusal's number and the test that brings it about
abbrev pub Test : Type 0
Test = ℕ × Bool

-- the number of the first test that holds, or 0: no refusal
unfoldable pub first : List Test → ℕ
first [] = 0
first (t ∷ rest) = if t.1 then t.0 otherwise first rest

-- the refusal r that a search itself answers, as a test: 0 is none
unfoldable pub searched : ℕ → List Test
searched r = (r, not (eqb r 0)) ∷ []

-- THE SIZES ASKED FOR

-- x is 0 or above its limit
unfoldable pub outside : ℕ → ℕ → Bool
outside limit x = eqb x 0 or ltb limit x

-- 1: a size is 0 or above its limit
unfoldable pub size_outside : Shape → Bool
size_outside s = outside max_buckets s.buckets or outside max_bins s.bins

-- 2: n > B in the map asked for
unfoldable pub few_buckets : Shape → Bool
few_buckets s = ltb s.buckets s.bins

-- 3: a size is below the old one
unfoldable pub shrinks : Table → Shape → Bool
shrinks t s = ltb s.buckets t.buckets or ltb s.bins (bins t)

-- 4: both sizes equal the old ones
unfoldable pub unchanged : Table → Shape → Bool
unchanged t s = eqb s.buckets t.buckets and eqb s.bins (bins t)

-- 5: n' > n with all blocks present
unfoldable pub blocks_full : Table → Shape → Bool
blocks_full t s = ltb (bins t) s.bins and eqb (length t.tops) max_blocks

-- a bin that holds m buckets, where the capacity is p, is overfull: its buckets plus the label exceed p
unfoldable pub overfull : ℕ → ℕ → Bool
overfull p m = ltb p (m + label)

-- some of the bins below n is; `holds` says how many buckets each holds
unfoldable pub some_overfull : ℕ → (ℕ → ℕ) → ℕ → Bool
some_overfull p holds n = not (all (λ y. not (overfull p (holds y))) n)

-- 31: some bin of the map asked for would be overfull
unfoldable pub overfills : ℕ → Shape → Bool
overfills p s = some_overfull p (due s) s.bins

-- 8: the new table needs more than 2,081 intervals
unfoldable pub intervals_full : Table → Shape → Bool
intervals_full t s = ltb max_intervals (length (expanded t s).intervals)

-- WHAT IS ASKED OF A MAP

-- 6: bucket number not below B
unfoldable pub bucket_past : Table → ℕ → Bool
bucket_past t x = leb t.buckets x

-- and in a list of buckets, some bucket not below B
unfoldable pub some_past : Table → List ℕ → Bool
some_past t xs = not (all (λ i. not (bucket_past t (get_or xs i 0))) (length xs))

-- 7: bin not below n, or a position of that bin's label, or one not below its size plus the label. Finding tests the bin; at
-- such a position its search answers that there is none (`FindRefused`).
unfoldable pub bin_past : Table → ℕ → Bool
bin_past t y = leb (bins t) y

unfoldable pub labelled : ℕ → Bool
labelled p = ltb p label

unfoldable pub place_past : Table → ℕ → ℕ → Bool
place_past t y p = bin_past t y or labelled p or leb (bin_size t y + label) p

-- 9: order number q above the total number of rows; m expansions, above 64
abbrev pub order_past : ℕ → ℕ → Bool
order_past total q = ltb total q

abbrev pub expansions_past : ℕ → Bool
expansions_past m = ltb max_expansions m

-- 32: in a list of buckets, one smaller than the one before it
unfoldable pub falls : List ℕ → Bool
falls xs = not (all (λ i. leb (before xs i) (get_or xs i 0)) (length xs))

-- A LENT TABLE OR A FILE

-- the first n entries rise strictly, and the first of them is not 0
unfoldable pub rises : List ℕ → ℕ → Bool
rises xs n = all (λ i. ltb (before xs i) (get_or xs i 0)) n

-- 11: B, G or k outside its limits
unfoldable pub header_outside : Header → Bool
header_outside h = outside max_buckets h.buckets or outside max_blocks h.block_count or outside max_intervals h.interval_count

-- or a lent array shorter than its count
unfoldable pub arrays_short : Header → Arrays → Bool
arrays_short h a =
    ltb (length a.tops) h.block_count
    or ltb (length a.ends) h.interval_count
    or ltb (length a.blocks) h.interval_count
    or ltb (length a.adjustments) h.interval_count

-- 12: tops that don't rise strictly, a first top of 0, a last top above its limit or above B
unfoldable pub tops_wrong : Header → List ℕ → Bool
tops_wrong h tops =
    not (rises tops h.block_count)
    or ltb max_bins (before tops h.block_count)
    or ltb h.buckets (before tops h.block_count)

-- 13: ends that don't rise strictly, a first end of 0, or a last end other than B
unfoldable pub ends_wrong : Header → List ℕ → Bool
ends_wrong h ends = not (rises ends h.interval_count) or not (eqb (before ends h.interval_count) h.buckets)

-- 14: an interval's block not below G
unfoldable pub blocks_wrong : Header → List ℕ → Bool
blocks_wrong h blocks = not (all (λ i. ltb (get_or blocks i 0) h.block_count) h.interval_count)

-- 15: a block whose intervals hold another number than its due
unfoldable pub holdings_wrong : Header → Arrays → Bool
holdings_wrong h a =
    not (all (λ j. eqb (held (table h a) j h.buckets) (due_of_block (shape (table h a)) a.tops j)) h.block_count)

-- the adjustment of interval i: the number of buckets before its start that belong to other blocks
unfoldable pub adjustment_of : Header → Arrays → ℕ → ℕ
adjustment_of h a i = others (table h a) (get_or a.blocks i 0) (before a.ends i)

-- 16: a wrong adjustment
unfoldable pub adjustments_wrong : Header → Arrays → Bool
adjustments_wrong h a = not (all (λ i. eqb (get_or a.adjustments i 0) (adjustment_of h a i)) h.interval_count)

-- 30: P is 0 or above its limit
unfoldable pub capacity_outside : ℕ → Bool
capacity_outside p = outside max_capacity p

-- or, in a lent or loaded map, some bin is overfull
unfoldable pub capacity_wrong : Header → Arrays → Bool
capacity_wrong h a =
    capacity_outside h.capacity or some_overfull h.capacity (bin_size (table h a)) (bins (table h a))

-- LENT ROOM

-- 21: room for a new table below 65 tops or below 2,081 of any interval array
unfoldable pub room_short : Arrays → Bool
room_short a =
    ltb (length a.tops) max_blocks
    or ltb (length a.ends) max_intervals
    or ltb (length a.blocks) max_intervals
    or ltb (length a.adjustments) max_intervals

-- 33: a lent result shorter than two numbers a bucket
unfoldable pub result_short : List ℕ → List ℕ → Bool
result_short xs out = ltb (length out) (2 * length xs)
