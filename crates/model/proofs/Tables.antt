-- Laws of a table as its four arrays: lists that are counted out, entries written over others, and what depends on which
-- entries. Assumes nothing.
use Prim.Native.Nat.{ℕ, zero, suc, ◌+◌, ◌-◌, ◌≤◌, ◌<◌}
use mathlib.Core.Path.{◌≡◌, refl, sym, ◌∙◌, ap, ap₂}
use mathlib.Core.Logic.{⊎_elim}
use mathlib.Core.List.{List, ◌∷◌, ◌++◌, map}
use native.Mathlib.Nat.{zero-add, add-zero, add-suc, suc-add, not-suc-le-zero, le_refl}
use native.Mathlib.Omega.{arith}
use lib.Dec.{eqb}
use lib.ListN.{length, get_or, take, drop, length-append, length-drop, length-map, get_or-append, get_or-map}
use lib.Seq.{length-take-le, take-length, take_at, take-append_seam, get_or-take, ext_get_or}
use borrow.Author.Tests.{lt-ltb, le-ltb}
use Rattle.model.specs.Basics.{if◌then◌otherwise◌, bit, count, from, before}
use Rattle.model.specs.Table.{
  Shape,
  Interval,
  interval,
  Table,
  bins,
  shape,
  first_bin,
  block_bins,
  Arrays,
  table,
  header,
  over,
  written,
}
use Rattle.model.specs.Place.{interval_of, block_of, held, others}
use Rattle.model.specs.Due.{due_of_bins, due_of_block}
use Rattle.model.specs.Refusal.{adjustment_of}
use Rattle.model.specs.declared.table.Header.{Header}
use Rattle.model.proofs.Counts.{below_or, sum_ext}
use Rattle.model.proofs.Intervals.{held_others}

-- LISTS THAT ARE COUNTED OUT

module _ {A : Type 0} where
  -- n entries, and entry m is that of i + m
  pub length_from : (f : ℕ → A) (i n : ℕ) → length (from f i n) ≡ n
  unfolding from
  length_from f i zero = refl
  length_from f i (suc n) = ap suc (length_from f (suc i) n)

  pub get_d_from : (f : ℕ → A) (i n m : ℕ) (d : A) → m < n → get_or (from f i n) m d ≡ f (i + m)
  unfolding from
  get_d_from f i zero m d l = absurd (not-suc-le-zero l)
  get_d_from f i (suc n) zero d l = rw add-zero
  get_d_from f i (suc n) (suc m) d l = get_d_from f (suc i) n m d (omega arith) ∙ ap f (omega arith)

  -- the same entries make the same list
  pub from_ext
      : (f g : ℕ → A) (i n : ℕ) → ((m : ℕ) → i ≤ m → m < i + n → f m ≡ g m) → from f i n ≡ from g i n
  unfolding from
  from_ext f g i zero e = refl
  from_ext f g i (suc n) e =
      ap₂ {A = A} {B = List A} {C = List A} (λ x xs. x ∷ xs)
      (e i (le_refl i) (omega arith))
      (from_ext f g (suc i) n (λ m l k. e m (omega arith) (omega arith)))

  -- counting from one more
  pub from_shift : (f : ℕ → A) (i n : ℕ) → from f (suc i) n ≡ from (λ m. f (suc m)) i n
  unfolding from
  from_shift f i zero = refl
  from_shift f i (suc n) = rw (from_shift f (suc i) n)

  -- n more entries after m
  pub from_append : (f : ℕ → A) (i m n : ℕ) → from f i m ++ from f (i + m) n ≡ from f i (m + n)
  unfolding from
  from_append f i zero n = rw (add-zero i, zero-add n)
  from_append f i (suc m) n = rw (suc-add m n, add-suc i m, ← suc-add i m, from_append f (suc i) m n)

  -- the first n entries of a list
  pub from_get_d : (xs : List A) (d : A) (n : ℕ) → n ≤ length xs → from (λ i. get_or xs i d) 0 n ≡ take n xs
  from_get_d xs d n l =
      ext_get_or d (from (λ i. get_or xs i d) 0 n) (take n xs)
      (length_from (λ i. get_or xs i d) 0 n ∙ sym (length-take-le n xs l))
      (λ i k.
      let b : i < n = omega (arith, length_from (λ i. get_or xs i d) 0 n) in
      get_d_from (λ i. get_or xs i d) 0 n i d b ∙ ap (λ m. get_or xs m d) (zero-add i) ∙ sym (get_or-take n xs i d b))

-- a function of each entry
pub map_from
    : {A B : Type 0} (g : A → B) (f : ℕ → A) (i n : ℕ) → map g (from f i n) ≡ from (λ m. g (f m)) i n
unfolding from
map_from g f i zero = refl
map_from g f i (suc n) = rw (map_from g f (suc i) n)

-- ENTRIES WRITTEN OVER OTHERS

module _ (new old : List ℕ) where
  -- a lent array keeps its length where the new entries fit, and is never shorter than they are
  pub length_over : length new ≤ length old → length (over new old) ≡ length old
  unfolding over
  length_over l = omega (arith, length-append new (drop (length new) old), length-drop (length new) old)

  pub over_long : length new ≤ length (over new old)
  unfolding over
  over_long = omega (arith, length-append new (drop (length new) old))

  -- it begins with the new entries
  pub get_d_over : (i : ℕ) → i < length new → get_or (over new old) i 0 ≡ get_or new i 0
  unfolding over
  get_d_over i l = get_or-append new (drop (length new) old) 0 i l

  pub take_over : take (length new) (over new old) ≡ new
  unfolding over
  take_over = take-append_seam new (drop (length new) old)

-- what stands over the first of a list's entries
pub taken : (xs old new : List ℕ) (n : ℕ) → new ≡ over xs old → length xs ≡ n → take n new ≡ xs
unfolding over
taken xs old new n e l = ap (take n) e ∙ take_at xs (drop (length xs) old) n l

-- A TABLE WRITTEN

-- interval i of the lent arrays
abbrev pub lent_interval : Arrays → ℕ → Interval
lent_interval a i = interval (get_or a.ends i 0) (get_or a.blocks i 0) (get_or a.adjustments i 0)

-- a table written into arrays is there
pub table_written : (t : Table) (out : Arrays) → table (header t) (written t out) ≡ t
unfolding table header written
table_written t out = λ i. record {
  buckets = t.buckets;
  capacity = t.capacity;
  tops = take_over t.tops out.tops i;
  intervals = all_intervals i;
}
  where
    none : Interval
    none = interval 0 0 0

    column
        : (g : Interval → ℕ) (old : List ℕ) (i : ℕ) → i < length t.intervals → g none ≡ 0
        → get_or (over (map g t.intervals) old) i 0 ≡ g (get_or t.intervals i none)
    column g old i l z =
        get_d_over (map g t.intervals) old i (omega (arith, length-map t.intervals g))
        ∙ ap (get_or (map g t.intervals) i) (sym z)
        ∙ get_or-map g t.intervals i none

    all_intervals : from (lent_interval (written t out)) 0 (length t.intervals) ≡ t.intervals
    all_intervals =
        from_ext (lent_interval (written t out)) (λ i. get_or t.intervals i none) 0 (length t.intervals)
        (λ m l k.
        let b : m < length t.intervals = omega arith in
        λ i.
        interval
        (column (λ v. v.end) out.ends m b refl i)
        (column (λ v. v.block) out.blocks m b refl i)
        (column (λ v. v.adjustment) out.adjustments m b refl i))
        ∙ from_get_d t.intervals none (length t.intervals) (le_refl (length t.intervals))
        ∙ take-length t.intervals

-- the header of the table that a header and arrays give
pub header_table : (h : Header) (a : Arrays) → h.block_count ≤ length a.tops → header (table h a) ≡ h
unfolding header table
header_table h a l = λ i. record {
  buckets = h.buckets;
  capacity = h.capacity;
  block_count = length-take-le h.block_count a.tops l i;
  interval_count = length_from (lent_interval a) 0 h.interval_count i;
}

-- that table written into other arrays
pub table_again
    : (h : Header) (a out : Arrays) → h.block_count ≤ length a.tops → table h (written (table h a) out) ≡ table h a
table_again h a out l =
    ap (λ g. table g (written (table h a) out)) (sym (header_table h a l)) ∙ table_written (table h a) out

-- WHAT DEPENDS ON WHICH ENTRIES

-- the entry before a place
pub before_same
    : (xs ys : List ℕ) (n : ℕ) → ((i : ℕ) → i < n → get_or xs i 0 ≡ get_or ys i 0)
    → (i : ℕ) → i ≤ n → before xs i ≡ before ys i
unfolding before
before_same xs ys n e zero l = refl
before_same xs ys n e (suc i) l = e i l

-- n: the last top
pub bins_table
    : (h : Header) (a : Arrays) → h.block_count ≤ length a.tops → bins (table h a) ≡ before a.tops h.block_count
unfolding bins table
bins_table h a l =
    let g = h.block_count in
    ap (before (take g a.tops)) (length-take-le g a.tops l)
    ∙ before_same (take g a.tops) a.tops g (λ j k. get_or-take g a.tops j 0 k) g (le_refl g)

-- the block of a bucket depends only on the ends and the blocks
block_from
    : (f g : ℕ → Interval) (i n x : ℕ)
    → ((m : ℕ) → i ≤ m → m < i + n → ((f m).end ≡ (g m).end) × ((f m).block ≡ (g m).block))
    → (interval_of (from f i n) x).block ≡ (interval_of (from g i n) x).block
unfolding interval_of from if◌then◌otherwise◌
block_from f g i zero x e = refl
block_from f g i (suc n) x e =
    let here = e i (le_refl i) (omega arith) in
    ⊎_elim
    (λ l. rw (lt-ltb x (f i).end l, lt-ltb x (g i).end (omega arith)) here.1)
    (λ l.
    rw (le-ltb x (f i).end l, le-ltb x (g i).end (omega arith))
    (block_from f g (suc i) n x (λ m p q. e m (omega arith) (omega arith))))
    (below_or x (f i).end)

-- two lent tables with the same tops, ends and blocks; their adjustments may differ
pub record Alike (h : Header) (a b : Arrays) : Type 0 where
  pub tops : (j : ℕ) → j < h.block_count → get_or a.tops j 0 ≡ get_or b.tops j 0
  pub ends : (i : ℕ) → i < h.interval_count → get_or a.ends i 0 ≡ get_or b.ends i 0
  pub blocks : (i : ℕ) → i < h.interval_count → get_or a.blocks i 0 ≡ get_or b.blocks i 0

module _ (h : Header) (a b : Arrays) (s : Alike h a b) where
  -- in them the blocks of buckets, what blocks hold, the adjustments, the sizes and the dues are the same
  pub block_alike : (x : ℕ) → block_of (table h a) x ≡ block_of (table h b) x
  unfolding block_of table
  block_alike x =
      block_from (lent_interval a) (lent_interval b) 0 h.interval_count x
      (λ m l k. (s.ends m (omega arith), s.blocks m (omega arith)))

  pub held_alike : (j m : ℕ) → held (table h a) j m ≡ held (table h b) j m
  unfolding held count
  held_alike j m =
      sum_ext
      (λ x. bit (eqb (block_of (table h a) x) j))
      (λ x. bit (eqb (block_of (table h b) x) j))
      m
      (λ x l. ap (λ v. bit (eqb v j)) (block_alike x))

  pub others_alike : (j m : ℕ) → others (table h a) j m ≡ others (table h b) j m
  others_alike j m = omega (arith, held_alike j m, held_others h a j m, held_others h b j m)

  pub adjustment_alike : (i : ℕ) → i < h.interval_count → adjustment_of h a i ≡ adjustment_of h b i
  unfolding adjustment_of
  adjustment_alike i l =
      others_alike (get_or a.blocks i 0) (before a.ends i)
      ∙ ap₂ (others (table h b)) (s.blocks i l) (before_same a.ends b.ends h.interval_count s.ends i (omega arith))

  pub shape_alike
      : h.block_count ≤ length a.tops → h.block_count ≤ length b.tops → shape (table h a) ≡ shape (table h b)
  unfolding shape table
  shape_alike l k = λ i. record { buckets = h.buckets; bins = same i }
    where
      same : bins (table h a) ≡ bins (table h b)
      same =
          bins_table h a l
          ∙ before_same a.tops b.tops h.block_count s.tops h.block_count (le_refl h.block_count)
          ∙ sym (bins_table h b k)

  pub due_alike : (z : Shape) (j : ℕ) → j < h.block_count → due_of_block z a.tops j ≡ due_of_block z b.tops j
  unfolding due_of_block first_bin block_bins
  due_alike z j l =
      ap₂ (λ v w. due_of_bins z w (v - w)) (s.tops j l)
      (before_same a.tops b.tops h.block_count s.tops j (omega arith))

  -- alike with the same adjustments: the same table
  pub table_alike
      : h.block_count ≤ length a.tops → h.block_count ≤ length b.tops
      → ((i : ℕ) → i < h.interval_count → get_or a.adjustments i 0 ≡ get_or b.adjustments i 0) → table h a ≡ table h b
  unfolding table
  table_alike l k e =
      λ i. record { buckets = h.buckets; capacity = h.capacity; tops = same_tops i; intervals = same_intervals i }
    where
      same_tops : take h.block_count a.tops ≡ take h.block_count b.tops
      same_tops =
          sym (from_get_d a.tops 0 h.block_count l)
          ∙ from_ext (λ j. get_or a.tops j 0) (λ j. get_or b.tops j 0) 0 h.block_count (λ j x y. s.tops j (omega arith))
          ∙ from_get_d b.tops 0 h.block_count k

      same_intervals
          : from (lent_interval a) 0 h.interval_count ≡ from (lent_interval b) 0 h.interval_count
      same_intervals =
          from_ext (lent_interval a) (lent_interval b) 0 h.interval_count
          (λ m x y.
          let q : m < h.interval_count = omega arith in
          λ i. interval (s.ends m q i) (s.blocks m q i) (e m q i))

-- A LENT TABLE WRITTEN INTO OTHER ARRAYS

module _ (h : Header) (a : Arrays) where
  -- the tops that are written: as many as the table has
  pub tops_long_lem
      : (old : List ℕ) → h.block_count ≤ length a.tops → h.block_count ≤ length (over (table h a).tops old)
  unfolding table
  tops_long_lem old l =
      omega (arith, over_long (take h.block_count a.tops) old, length-take-le h.block_count a.tops l)

  -- one column of the intervals: its length and its entries
  pub column_length : (g : Interval → ℕ) → length (map g (table h a).intervals) ≡ h.interval_count
  unfolding table
  column_length g =
      length-map (from (lent_interval a) 0 h.interval_count) g ∙ length_from (lent_interval a) 0 h.interval_count

  pub column_long : (g : Interval → ℕ) (old : List ℕ) → h.interval_count ≤ length (over (map g (table h a).intervals) old)
  column_long g old = omega (arith, over_long (map g (table h a).intervals) old, column_length g)

  pub column_at
      : (g : Interval → ℕ) (old : List ℕ) (i : ℕ) → i < h.interval_count
      → get_or (over (map g (table h a).intervals) old) i 0 ≡ g (lent_interval a i)
  unfolding table
  column_at g old i l =
      get_d_over (map g (from (lent_interval a) 0 h.interval_count)) old i (omega (arith, column_length g))
      ∙ ap (λ xs. get_or xs i 0) (map_from g (lent_interval a) 0 h.interval_count)
      ∙ get_d_from (λ m. g (lent_interval a m)) 0 h.interval_count i 0 l
      ∙ ap (λ m. g (lent_interval a m)) (zero-add i)

  -- so what is written is alike
  pub written_alike : (out : Arrays) → h.block_count ≤ length a.tops → Alike h a (written (table h a) out)
  unfolding table written
  written_alike out l =
      record {
        tops =
            λ j k.
            sym
            (get_d_over (take h.block_count a.tops) out.tops j
            (omega (arith, length-take-le h.block_count a.tops l))
            ∙ get_or-take h.block_count a.tops j 0 k);
        ends = λ i k. sym (column_at (λ v. v.end) out.ends i k);
        blocks = λ i k. sym (column_at (λ v. v.block) out.blocks i k);
      }
