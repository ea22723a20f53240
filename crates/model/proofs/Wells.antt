-- Laws of tables and the arrays that hold them: a table written into arrays is read back, formed arrays hold a well formed
-- table, and arrays into which one is written are formed. Assumes nothing.
use Prim.Native.Nat.{ℕ, zero, suc, ◌+◌, ◌≤◌, ◌<◌}
use mathlib.Core.Path.{◌≡◌, refl, sym, ◌∙◌, ap}
use mathlib.Core.List.{List, [], ◌∷◌, map}
use native.Mathlib.Nat.{not-suc-le-zero, le_of_suc-le-suc}
use native.Mathlib.Omega.{arith}
use lib.ListN.{length, get_or, drop, length-map, get_or-append, get_or-map}
use lib.Seq.{get_or-take, length-take-le}
use Rattle.model.specs.Basics.{from, before}
use Rattle.model.specs.Limits.{max_buckets, max_bins, max_blocks, max_intervals}
use Rattle.model.specs.Table.{
  Shape,
  Interval,
  interval,
  Table,
  bins,
  shape,
  first_bin,
  block_bins,
  Arrays,
  table,
  header,
  over,
  written,
}
use Rattle.model.specs.Place.{block_of, held, size}
use Rattle.model.specs.Due.{due_of_block}
use Rattle.model.specs.Refusal.{adjustment_of}
use Rattle.model.specs.Sound.{Formed}
use Rattle.model.specs.Lent.{TopsFormed}
use Rattle.model.specs.declared.table.Header.{Header}
use Rattle.model.proofs.Intervals.{Rising, before_mono, block_at, held_others}
use Rattle.model.proofs.Listed.{Told, Tells, tells_same}
use Rattle.model.proofs.Tables.{length_from, before_same, get_d_over, over_long, table_written}

-- ENTRIES

-- the entry before place i stands at place i behind a 0
pub before_cons : (xs : List ℕ) (i : ℕ) → before xs i ≡ get_or (0 ∷ xs) i 0
unfolding before
before_cons xs zero = refl
before_cons xs (suc i) = refl

-- two lists with the same first n entries have the same dues of their first n blocks
pub due_same
    : (s : Shape) (xs ys : List ℕ) (n : ℕ) → ((i : ℕ) → i < n → get_or xs i 0 ≡ get_or ys i 0)
    → (j : ℕ) → j < n → due_of_block s xs j ≡ due_of_block s ys j
unfolding due_of_block first_bin block_bins
due_same s xs ys n e j l = rw (before_same xs ys n e j (omega arith), e j l)

-- A TABLE THAT IS WRITTEN AND READ

-- a column of the intervals, written over old entries
pub column_at
    : (f : Interval → ℕ) (is : List Interval) (old : List ℕ) (i : ℕ) → i < length is
    → get_or (over (map f is) old) i (f (interval 0 0 0)) ≡ f (get_or is i (interval 0 0 0))
unfolding over
column_at f is old i l =
    get_or-append (map f is) (drop (length (map f is)) old) (f (interval 0 0 0)) i (omega (arith, length-map is f))
    ∙ get_or-map f is i (interval 0 0 0)

pub column_long : (f : Interval → ℕ) (is : List Interval) (old : List ℕ) → length is ≤ length (over (map f is) old)
column_long f is old = omega (arith, over_long (map f is) old, length-map is f)

-- the start of an interval, from its written ends
pub start_at
    : (is : List Interval) (old : List ℕ) (i : ℕ) → i ≤ length is
    → before (over (map (λ v. v.end) is) old) i ≡ get_or (0 ∷ map (λ v. v.end) is) i 0
start_at is old i l =
    before_same _ (map (λ v. v.end) is) (length is)
    (λ i l. get_d_over (map (λ v. v.end) is) old i (omega (arith, length-map is (λ v. v.end))))
    i l
    ∙ before_cons (map (λ v. v.end) is) i

-- A WELL FORMED TABLE

-- rules 11 to 16 of a table itself
pub record Well (t : Table) : Type 0 where
  pub some_buckets : 1 ≤ t.buckets
  pub bucket_limit : t.buckets ≤ max_buckets
  pub some_blocks : 1 ≤ length t.tops
  pub block_limit : length t.tops ≤ max_blocks
  pub interval_limit : length t.intervals ≤ max_intervals
  pub tops_rise : Rising t.tops (length t.tops)
  pub bin_limit : bins t ≤ max_bins
  pub bins_few : bins t ≤ t.buckets
  pub tells : Tells (block_of t) (length t.tops) 0 t.intervals t.buckets
  pub holdings : (j : ℕ) → j < length t.tops → size (block_of t) t.buckets j ≡ due_of_block (shape t) t.tops j

-- there is a bin
pub some_bins_lem : (t : Table) → Well t → 1 ≤ bins t
unfolding bins before
some_bins_lem t w =
    omega (
      arith,
      w.tops_rise 0 w.some_blocks,
      before_mono t.tops (length t.tops) w.tops_rise (length t.tops) 1 w.some_blocks (omega arith),
    )

-- what a block holds is its size
pub held_size : (t : Table) (j m : ℕ) → held t j m ≡ size (block_of t) m j
unfolding held size
held_size t j m = refl

module _ (h : Header) (a : Arrays) (s : Formed h a) where
  abbrev pub lent_tops : TopsFormed h a.tops
  lent_tops = record { ends = a.ends; blocks = a.blocks; adjustments = a.adjustments; formed = s }

  -- the tops of the table are the first G
  pub tops_length : length (table h a).tops ≡ h.block_count
  unfolding table
  tops_length = length-take-le h.block_count a.tops s.tops_long

  tops_at : (j : ℕ) → j < h.block_count → get_or (table h a).tops j 0 ≡ get_or a.tops j 0
  unfolding table
  tops_at j l = get_or-take h.block_count a.tops j 0 l

  tops_before : (j : ℕ) → j ≤ h.block_count → before (table h a).tops j ≡ before a.tops j
  tops_before = before_same (table h a).tops a.tops h.block_count tops_at

  -- an adjustment is at most its interval's start
  pub adjustment_most : (i : ℕ) → i < h.interval_count → get_or a.adjustments i 0 ≤ before a.ends i
  unfolding adjustment_of
  adjustment_most i l = omega (arith, s.adjusted i l, held_others h a (get_or a.blocks i 0) (before a.ends i))

  -- the intervals from place i on
  entries_tell
      : (n i e : ℕ) → i + n ≡ e → e ≤ h.interval_count
      → Tells (block_of (table h a)) h.block_count (before a.ends i)
      (from (λ i. interval (get_or a.ends i 0) (get_or a.blocks i 0) (get_or a.adjustments i 0)) i n)
      (before a.ends e)
  unfolding from before adjustment_of
  entries_tell zero i e q l = let same : i ≡ e = omega arith in ap (before a.ends) same
  entries_tell (suc n) i e q l = (
    record {
      some = s.ends_rise i (omega arith);
      own = λ x b z. block_at h a s.ends_rise i x (omega arith) b z;
      below = s.blocks_below i (omega arith);
      adjusted =
          omega (
            arith,
            s.adjusted i (omega arith),
            held_others h a (get_or a.blocks i 0) (before a.ends i),
            held_size (table h a) (get_or a.blocks i 0) (before a.ends i),
          );
    },
    entries_tell n (suc i) e (omega arith) l,
  )

  -- all of them
  pub intervals_length : length (table h a).intervals ≡ h.interval_count
  unfolding table
  intervals_length = length_from _ 0 h.interval_count

  table_tells : Tells (block_of (table h a)) (length (table h a).tops) 0 (table h a).intervals (table h a).buckets
  unfolding table before
  table_tells =
      tells_same (block_of (table h a)) (block_of (table h a)) h.block_count (length (table h a).tops) 0
      (table h a).intervals
      h.buckets
      (λ x l. refl)
      (omega (arith, tops_length))
      (rw s.last_end at (entries_tell h.interval_count 0 h.interval_count (omega arith) (omega arith)))

  -- n is the last of the first G tops
  pub bins_last : bins (table h a) ≡ before a.tops h.block_count
  unfolding bins
  bins_last = ap (before (table h a).tops) tops_length ∙ tops_before h.block_count (omega arith)

  -- the table in formed arrays
  pub formed_well : Well (table h a)
  unfolding table
  formed_well =
      record {
        some_buckets = s.some_buckets;
        bucket_limit = s.bucket_limit;
        some_blocks = omega (arith, tops_length, s.some_blocks);
        block_limit = omega (arith, tops_length, s.block_limit);
        interval_limit = omega (arith, intervals_length, s.interval_limit);
        tops_rise =
            λ j l.
            let below : j < h.block_count = omega (arith, tops_length) in
            omega (arith, s.tops_rise j below, tops_at j below, tops_before j (omega arith));
        bin_limit = omega (arith, bins_last, s.bin_limit);
        bins_few = omega (arith, bins_last, s.bins_few);
        tells = table_tells;
        holdings =
            λ j l.
            let below : j < h.block_count = omega (arith, tops_length) in
            sym (held_size (table h a) j (table h a).buckets)
            ∙ s.holdings j below
            ∙ due_same (shape (table h a)) a.tops (table h a).tops h.block_count (λ i l. sym (tops_at i l)) j below;
      }

-- WELL FORMED TABLES IN ARRAYS

-- the interval at place i, from the end before it on
pub told_at
    : (b : ℕ → ℕ) (g s : ℕ) (is : List Interval) (e : ℕ) → Tells b g s is e → (i : ℕ) → i < length is
    → Told b g (get_or (s ∷ map (λ v. v.end) is) i 0) (get_or is i (interval 0 0 0))
told_at b g s [] e h i l = absurd (not-suc-le-zero l)
told_at b g s (v ∷ is) e h zero l = h.0
told_at b g s (v ∷ is) e h (suc i) l = told_at b g v.end is e h.1 i (le_of_suc-le-suc l)

-- there is one
pub some_told : (b : ℕ → ℕ) (g : ℕ) (is : List Interval) (e : ℕ) → 1 ≤ e → Tells b g 0 is e → 1 ≤ length is
some_told b g [] e l h = absurd (omega arith)
some_told b g (v ∷ is) e l h = omega arith

-- the last end
pub last_end
    : (b : ℕ → ℕ) (g s : ℕ) (is : List Interval) (e : ℕ) → Tells b g s is e
    → get_or (s ∷ map (λ v. v.end) is) (length is) 0 ≡ e
last_end b g s [] e h = h
last_end b g s (v ∷ is) e h = last_end b g v.end is e h.1

module _ (u : Table) (w : Well u) (out : Arrays) where
  -- what interval i tells
  told
      : (i : ℕ) → i < length u.intervals
      → Told (block_of u) (length u.tops) (before (written u out).ends i) (get_or u.intervals i (interval 0 0 0))
  unfolding written
  told i l =
      rw (start_at u.intervals out.ends i (omega arith))
      (told_at (block_of u) (length u.tops) 0 u.intervals u.buckets w.tells i l)

  -- the arrays that the table is written to
  pub well_formed : Formed (header u) (written u out)
  unfolding header written adjustment_of bins
  well_formed =
      record {
        some_buckets = w.some_buckets;
        bucket_limit = w.bucket_limit;
        some_blocks = w.some_blocks;
        block_limit = w.block_limit;
        some_intervals = some_told (block_of u) (length u.tops) u.intervals u.buckets w.some_buckets w.tells;
        interval_limit = w.interval_limit;
        tops_long = over_long u.tops out.tops;
        ends_long = column_long (λ v. v.end) u.intervals out.ends;
        blocks_long = column_long (λ v. v.block) u.intervals out.blocks;
        adjustments_long = column_long (λ v. v.adjustment) u.intervals out.adjustments;
        tops_rise = λ j l. omega (arith, w.tops_rise j l, top j l, firsts j (omega arith));
        bin_limit = omega (arith, w.bin_limit, firsts (length u.tops) (omega arith));
        bins_few = omega (arith, w.bins_few, firsts (length u.tops) (omega arith));
        ends_rise = λ i l. omega (arith, (told i l).some, column_at (λ v. v.end) u.intervals out.ends i l);
        last_end =
            start_at u.intervals out.ends (length u.intervals) (omega arith)
            ∙ last_end (block_of u) (length u.tops) 0 u.intervals u.buckets w.tells;
        blocks_below = λ i l. omega (arith, (told i l).below, column_at (λ v. v.block) u.intervals out.blocks i l);
        holdings =
            λ j l.
            rw (table_written u out)
            (held_size u j u.buckets
            ∙ w.holdings j l
            ∙ sym (due_same (shape u) (over u.tops out.tops) u.tops (length u.tops) top j l));
        adjusted =
            λ i l.
            let j = get_or (over (map (λ v. v.block) u.intervals) out.blocks) i 0 in
            let start = before (over (map (λ v. v.end) u.intervals) out.ends) i in
            omega (
              arith,
              (told i l).adjusted,
              column_at (λ v. v.adjustment) u.intervals out.adjustments i l,
              held_others (header u) (written u out) j start,
              ap (λ t. held t j start) (table_written u out),
              held_size u j start,
              ap (size (block_of u) start) (column_at (λ v. v.block) u.intervals out.blocks i l),
            );
      }
    where
      top : (j : ℕ) → j < length u.tops → get_or (over u.tops out.tops) j 0 ≡ get_or u.tops j 0
      top j l = get_d_over u.tops out.tops j l

      firsts : (j : ℕ) → j ≤ length u.tops → before (over u.tops out.tops) j ≡ before u.tops j
      firsts = before_same (over u.tops out.tops) u.tops (length u.tops) top
