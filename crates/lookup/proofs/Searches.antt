-- Laws of placing in a formed table: the search for a bucket's interval, and the bin and position. Assumes nothing.
use Prim.Native.Nat.{ℕ, zero, suc, ◌+◌, ◌-◌, ◌≤◌, ◌<◌}
use mathlib.Core.Path.{◌≡◌, refl, ap, ap₂, sym, ◌∙◌}
use mathlib.Core.Logic.{⊎_elim}
use native.Mathlib.Nat.{le_trans, zero-add}
use native.Mathlib.Omega.{arith}
use lib.ListN.{get_or}
use lib.Seq.{get_or-take}
use borrow.Author.Tests.{lt-ltb, le-ltb, le-leb, lt-leb}
use Rattle.model.specs.Basics.{if◌then◌otherwise◌, from, before}
use Rattle.model.specs.Table.{Interval, interval, Table, first_bin, block_bins, Arrays, table}
use Rattle.model.specs.Place.{bin_of, position_of}
use Rattle.model.specs.Search.{interval_at, index_of, located, place_of, place_at}
use Rattle.model.specs.Refusal.{adjustment_of, bucket_past}
use Rattle.model.specs.Sound.{Formed}
use Rattle.model.specs.declared.table.Header.{Header}
use Rattle.std.specs.Prelude.{Some, None}
use Rattle.model.specs.declared.search.Located.{Located}
use Rattle.model.proofs.Counts.{below_or}
use Rattle.model.proofs.Intervals.{before_mono, rank_at_lem, held_others}
use Rattle.model.proofs.Ranks.{interval_of_lem}
use Rattle.model.proofs.Finds.{entry}
use Rattle.model.proofs.Tables.{get_d_from}

index_from
    : (f : ℕ → Interval) (n i m x : ℕ) → m < n → ((l : ℕ) → l < m → (f (i + l)).end ≤ x) → x < (f (i + m)).end
    → index_of (from f i n) x ≡ m
unfolding index_of from if◌then◌otherwise◌
index_from f zero i m x l before after = absurd (omega arith)
index_from f (suc n) i zero x l before after =
    let here : i + 0 ≡ i = omega arith in
    let inside : x < (f i).end = rw here at after in
    rw (lt-ltb x (f i).end inside)
index_from f (suc n) i (suc m) x l before after =
    let here : i + 0 ≡ i = omega arith in
    let past : (f i).end ≤ x = rw here at (before 0 (omega arith)) in
    let next : (k : ℕ) → i + suc k ≡ suc i + k = λ k. omega arith in
    rw (le-ltb x (f i).end past)
    (ap suc
    (index_from f n (suc i) m x (omega arith)
    (λ k d. rw (next k) at (before (suc k) (omega arith)))
    (rw (next m) at after)))

module _ (h : Header) (a : Arrays) (s : Formed h a) where
  -- an adjustment is at most its interval's start
  pub adjustment_below : (i : ℕ) → i < h.interval_count → get_or a.adjustments i 0 ≤ before a.ends i
  unfolding adjustment_of
  adjustment_below i l =
      omega (arith, s.adjusted i l, held_others h a (get_or a.blocks i 0) (before a.ends i))

  pub located_at
      : (i x : ℕ) → i < h.interval_count → before a.ends i ≤ x → x < get_or a.ends i 0 → x < h.buckets
      → located (table h a) x ≡ Some (record { interval = i; rank = x - get_or a.adjustments i 0 })
  unfolding located bucket_past if◌then◌otherwise◌ table before
  located_at i x l b e inside =
      rw (lt-leb h.buckets x inside)
      (ap₂ (λ i r. Some (record { interval = i; rank = r }))
      (index_from
      (λ i. interval (get_or a.ends i 0) (get_or a.blocks i 0) (get_or a.adjustments i 0))
      h.interval_count 0 i x l
      (λ m d.
      rw (zero-add m)
      (le_trans (before_mono a.ends h.interval_count s.ends_rise i (suc m) d (omega arith)) b))
      (rw (zero-add i) e))
      (rank_at_lem h a s.ends_rise i x l b e))

pub located_outside : (h : Header) (a : Arrays) (x : ℕ) → h.buckets ≤ x → located (table h a) x ≡ None
unfolding located bucket_past if◌then◌otherwise◌ table
located_outside h a x l = rw (le-leb h.buckets x l)

-- WHAT THE ANSWER OF THE SEARCH SAYS

-- interval i of a table, as it is lent
pub interval_kept : (h : Header) (a : Arrays) (i : ℕ) → i < h.interval_count → (interval_at (table h a) i).block ≡ get_or a.blocks i 0
unfolding interval_at table
interval_kept h a i l =
    ap (λ v. v.block) (get_d_from (entry a) 0 h.interval_count i (interval 0 0 0) l)
    ∙ ap (λ i. get_or a.blocks i 0) (zero-add i)

-- the interval of bucket x and its rank, which were found
pub record Reached (h : Header) (a : Arrays) (x i r : ℕ) : Type 0 where
  pub below : i < h.interval_count
  pub block : (interval_at (table h a) i).block ≡ get_or a.blocks i 0
  pub block_below : get_or a.blocks i 0 < h.block_count
  pub inside : x < h.buckets
  pub rank_most : r ≤ x

pub reached
    : (h : Header) (a : Arrays) → Formed h a → (x : ℕ) (f : Located) → located (table h a) x ≡ Some f → Reached h a x f.interval f.rank
reached h a s x f e =
    ⊎_elim
    (λ inside.
    let (m, below, b, d) = interval_of_lem h a s x inside in
    let found : Some (record { interval = m; rank = x - get_or a.adjustments m 0 }) ≡ Some f = sym (located_at h a s m x below b d inside) ∙ e in
    let same : m ≡ f.interval = cc in
    let ranked : x - get_or a.adjustments m 0 ≡ f.rank = cc in
    let here : f.interval < h.interval_count = omega arith in
    record {
      below = here;
      block = interval_kept h a f.interval here;
      block_below = s.blocks_below f.interval here;
      inside = inside;
      rank_most = omega arith;
    })
    (λ past.
    let clash : None ≡ Some f = sym (located_outside h a x past) ∙ e in
    let never : ◌≡◌ {A = ℕ} 0 1 = cc in
    absurd (omega arith))
    (below_or x h.buckets)

-- PLACING

module _ (h : Header) (a : Arrays) where
  -- a top of the table is the lent one
  pub top_kept : (j : ℕ) → j < h.block_count → get_or (table h a).tops j 0 ≡ get_or a.tops j 0
  unfolding table
  top_kept j l = get_or-take h.block_count a.tops j 0 l

  pub first_kept : (j : ℕ) → j ≤ h.block_count → first_bin (table h a).tops j ≡ before a.tops j
  unfolding first_bin before table
  first_kept zero l = refl
  first_kept (suc j) l = get_or-take h.block_count a.tops j 0 l

  pub bins_kept
      : (j : ℕ) → j < h.block_count → block_bins (table h a).tops j ≡ get_or a.tops j 0 - before a.tops j
  unfolding block_bins
  bins_kept j l = ap₂ ◌-◌ (top_kept j l) (first_kept j (omega arith))

  first_same : (j : ℕ) → j < h.block_count → first_bin (table h a).tops j ≡ first_bin a.tops j
  unfolding first_bin
  first_same j l = first_kept j (omega arith)

  bins_same : (j : ℕ) → j < h.block_count → block_bins (table h a).tops j ≡ block_bins a.tops j
  unfolding block_bins first_bin
  bins_same j l = bins_kept j l

  -- the place of a rank in the block of interval i, whose tops are the lent ones
  pub place_at_lem
      : (x : ℕ) (f : Located) → located (table h a) x ≡ Some f → Reached h a x f.interval f.rank
      → place_at (table h a) x
      ≡ record {
        refusal = 0;
        bin = bin_of a.tops (get_or a.blocks f.interval 0) f.rank;
        position = position_of a.tops (get_or a.blocks f.interval 0) f.rank;
      }
  unfolding place_at place_of
  place_at_lem x f e found =
      let j = get_or a.blocks f.interval 0 in
      rw (e, found.block, bins_same j found.block_below, first_same j found.block_below)

pub place_past_lem : (t : Table) (x : ℕ) → located t x ≡ None → place_at t x ≡ record { refusal = 6; bin = 0; position = 0 }
unfolding place_at place_of
place_past_lem t x e = rw e
