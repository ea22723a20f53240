-- Laws of finding: the search for a rank of a block finds its bucket, so find undoes place, and place undoes find.
-- Assumes nothing.
use Prim.Native.Nat.{ℕ, zero, suc, ◌+◌, ◌-◌, ◌*◌, ◌/◌, ◌%◌, ◌≤◌, ◌<◌}
use mathlib.Core.Path.{◌≡◌, refl, sym, ◌∙◌, ap, ap₂}
use mathlib.Core.Logic.{◌⊎◌, inl, inr, ⊎_elim}
use mathlib.Core.Bool.{true, false, false≢true}
use mathlib.Core.List.{List, []}
use native.Mathlib.Nat.{zero-add, div-add-mod', mod-lt, div-eq_of_lt, mod-eq_of_lt, mul-add-div_right, mul-add-mod_self_right}
use native.Mathlib.Omega.{arith}
use lib.ListN.{get_or}
use borrow.Author.Tests.{eq-eqb, le-leb, lt-leb, lt-ltb, le-ltb, eqb-true, leb-true, ltb-true}
use Rattle.model.specs.Basics.{if◌then◌otherwise◌, from, before}
use Rattle.model.specs.Limits.{label}
use Rattle.model.specs.Table.{Table, bins, Interval, interval, first_bin, block_bins, Arrays, table}
use Rattle.model.specs.Place.{block_of, rank, bin, position, held, bin_size}
use Rattle.model.specs.Refusal.{searched, bin_past, labelled, place_past}
use Rattle.model.specs.Search.{
  interval_at,
  block_of_bin,
  rank_at,
  includes,
  holder,
  found_of,
  held_at,
  found_at,
  bucket_at,
}
use Rattle.model.specs.Calls.{find_tests}
use Rattle.model.specs.Sound.{Formed}
use Rattle.model.specs.TableClaims.{PositionSource, PositionBelow, FindPlaced, PlaceFound, FindRefused}
use Rattle.model.specs.declared.table.Header.{Header}
use Rattle.std.specs.Prelude.{Some, None}
use Rattle.model.proofs.Counts.{bit_cases, below_or, and_both, and_left, and_right}
use Rattle.model.proofs.Intervals.{before_mono, block_at}
use Rattle.model.proofs.Refusals.{or_both, first_none, first_skip, first_here}
use Rattle.model.proofs.Rules.{or_first, or_last}
use Rattle.model.proofs.Searches.{bin_searched}
use Rattle.model.proofs.Ranks.{interval_of_lem, rank_adjusted, block_below_lem, rank_held, rank_before, rank_once, rank_reached}
use Rattle.model.proofs.Places.{below_due, due_below_lem, some_bins_lem, bin_within, bin_block, bin_of_lem, bin_size_lem}
use Rattle.model.proofs.Capacities.{held_within}
use Rattle.model.proofs.Tables.{get_d_from}

-- THE SEARCH FOR A RANK

-- interval i as it is lent
abbrev pub entry : Arrays → ℕ → Interval
entry a i = interval (get_or a.ends i 0) (get_or a.blocks i 0) (get_or a.adjustments i 0)

-- interval i is of block j and its ranks include r
pub record Including (a : Arrays) (i j r : ℕ) : Type 0 where
  pub block : get_or a.blocks i 0 ≡ j
  pub start : before a.ends i ≤ r + get_or a.adjustments i 0
  pub end : r + get_or a.adjustments i 0 < get_or a.ends i 0

-- that is what the test says
pub includes_holds
    : (a : Arrays) (i j r : ℕ) → Including a i j r → includes (before a.ends i) (entry a i) j r ≡ true
unfolding includes
includes_holds a i j r c =
    and_both _ _ (and_both _ _ (eq-eqb _ _ c.block) (le-leb _ _ c.start)) (lt-ltb _ _ c.end)

pub includes_true
    : (a : Arrays) (i j r : ℕ) → includes (before a.ends i) (entry a i) j r ≡ true → Including a i j r
unfolding includes
includes_true a i j r e =
    record {
      block = eqb-true _ _ (and_left _ _ (and_left _ _ e));
      start = leb-true _ _ (and_right _ _ (and_left _ _ e));
      end = ltb-true _ _ (and_right _ _ e);
    }

-- the search answers an interval that includes the rank, or that there is none where none does
abbrev Answered : Arrays → ℕ → ℕ → ℕ → ℕ → Type 0
Answered a j r n i =
    ((holder (from (entry a) i n) (before a.ends i) i j r ≡ None)
    × ((k : ℕ) → i ≤ k → k < i + n → Including a k j r → ⊥))
    ⊎ ((m : ℕ) × (m < i + n) × Including a m j r × (holder (from (entry a) i n) (before a.ends i) i j r ≡ Some m))

answered_from : (a : Arrays) (j r n i : ℕ) → Answered a j r n i
unfolding holder from if◌then◌otherwise◌ before
answered_from a j r zero i = inl (refl, λ k le lt c. omega arith)
answered_from a j r (suc n) i =
    ⊎_elim
    (λ t. inr (i, omega arith, includes_true a i j r t.0, rw t.0))
    (λ t.
    ⊎_elim
    (λ q. inl (
      rw t.0 q.0,
      λ k le lt c.
          ⊎_elim
          (λ l. q.1 k l (omega arith) c)
          (λ l.
          let same : k ≡ i = omega arith in
          false≢true (sym t.0 ∙ includes_holds a i j r (rw same at c)))
          (below_or i k),
    ))
    (λ q. let (m, below, d, e) = q in inr (m, omega arith, d, rw t.0 e))
    (answered_from a j r n (suc i)))
    (bit_cases (includes (before a.ends i) (entry a i) j r))

module _ (h : Header) (a : Arrays) (j r : ℕ) where
  -- where one of a table's intervals includes the rank, the search answers one that does
  holder_answers
      : (i : ℕ) → i < h.interval_count → Including a i j r
      → (m : ℕ) × (m < h.interval_count) × Including a m j r × (holder (table h a).intervals 0 0 j r ≡ Some m)
  unfolding table before
  holder_answers i l c =
      ⊎_elim
      (λ q. absurd (q.1 i (omega arith) (omega arith) c))
      (λ q. let (m, below, d, e) = q in (m, omega arith, d, e))
      (answered_from a j r h.interval_count 0)

  -- an interval that it answers includes the rank
  pub holder_in
      : (i : ℕ) → holder (table h a).intervals 0 0 j r ≡ Some i → (i < h.interval_count) × Including a i j r
  unfolding table before
  holder_in i e =
      ⊎_elim
      (λ q.
      let clash : None ≡ Some i = sym q.0 ∙ e in
      let never : ◌≡◌ {A = ℕ} 0 1 = cc in
      absurd (omega arith))
      (λ q.
      let (m, below, d, f) = q in
      let found : Some m ≡ Some i = sym f ∙ e in
      let same : m ≡ i = cc in
      rw (← same) (omega arith, d))
      (answered_from a j r h.interval_count 0)

  -- where none includes it, the search says so
  holder_none
      : ((i : ℕ) → i < h.interval_count → Including a i j r → ⊥) → holder (table h a).intervals 0 0 j r ≡ None
  unfolding table before
  holder_none none =
      ⊎_elim
      (λ q. q.0)
      (λ q. let (m, below, d, e) = q in absurd (none m (omega arith) d))
      (answered_from a j r h.interval_count 0)

-- the bucket that an answer gives
pub found_in
    : (h : Header) (a : Arrays) (r m : ℕ) → m < h.interval_count
    → found_of (table h a) r (Some m) ≡ record { refusal = 0; bucket = r + get_or a.adjustments m 0 }
unfolding table found_of interval_at
found_in h a r m l =
    ap (λ v. record { refusal = 0; bucket = r + v.adjustment })
    (get_d_from (entry a) 0 h.interval_count m (interval 0 0 0) l)
    ∙ ap (λ m. record { refusal = 0; bucket = r + get_or a.adjustments m 0 }) (zero-add m)

module _ (h : Header) (a : Arrays) (s : Formed h a) where
  -- an interval that includes a bucket's rank is the bucket's own
  including_own
      : (x i : ℕ) → x < h.buckets → i < h.interval_count → Including a i (block_of (table h a) x) (rank (table h a) x)
      → rank (table h a) x + get_or a.adjustments i 0 ≡ x
  unfolding before
  including_own x i l k c =
      let z = rank (table h a) x + get_or a.adjustments i 0 in
      rank_once h a s z x
      (omega (
        arith,
        before_mono a.ends h.interval_count s.ends_rise h.interval_count (suc i) k (omega arith),
        s.last_end,
      ))
      l
      (block_at h a s.ends_rise i z k c.start c.end ∙ c.block)
      (omega (arith, rank_adjusted h a s i z k c.start c.end))

  -- the search finds the bucket of a rank
  holder_finds
      : (x : ℕ) → x < h.buckets
      → found_of (table h a) (rank (table h a) x)
      (holder (table h a).intervals 0 0 (block_of (table h a) x) (rank (table h a) x))
      ≡ record { refusal = 0; bucket = x }
  holder_finds x l =
      let r = rank (table h a) x in
      let (i, k, b, e) = interval_of_lem h a s x l in
      let whole = rank_adjusted h a s i x k b e in
      let own : Including a i (block_of (table h a) x) r =
      record { block = sym (block_at h a s.ends_rise i x k b e); start = omega arith; end = omega arith } in
      let (m, below, c, found) = holder_answers h a (block_of (table h a) x) r i k own in
      ap (found_of (table h a) r) found
      ∙ found_in h a r m below
      ∙ ap (λ x. record { refusal = 0; bucket = x }) (including_own x m l below c)

  -- PLACES AND BUCKETS

  -- finding at a place answers the bucket of the place's block and rank; p is the position past the label
  found_at_lem
      : (x j m p : ℕ) → x < h.buckets → j < h.block_count → m < block_bins (table h a).tops j
      → block_of (table h a) x ≡ j → rank (table h a) x ≡ p * block_bins (table h a).tops j + m
      → found_at (table h a) (first_bin (table h a).tops j + m) (p + label) ≡ record { refusal = 0; bucket = x }
  unfolding found_at held_at labelled rank_at if◌then◌otherwise◌
  found_at_lem x j m p l below k b r =
      let y = first_bin (table h a).tops j + m in
      let place : m ≡ y - first_bin (table h a).tops j = omega arith in
      let block : block_of_bin (table h a).tops y ≡ j = (bin_within h a s j m below k).0 in
      let source : p + label - label ≡ p = omega arith in
      rw (le-ltb (p + label) label (omega arith), block, source, ← place, ← r, ← b) (holder_finds x l)

  bucket_at_lem
      : (x j m p : ℕ) → x < h.buckets → j < h.block_count → m < block_bins (table h a).tops j
      → block_of (table h a) x ≡ j → rank (table h a) x ≡ p * block_bins (table h a).tops j + m
      → bucket_at (table h a) (first_bin (table h a).tops j + m) (p + label) ≡ x
  unfolding bucket_at
  bucket_at_lem x j m p l below k b r = ap (λ z. z.bucket) (found_at_lem x j m p l below k b r)

-- the position of a bucket, by its rank
pub position_source_lem : PositionSource
unfolding position
position_source_lem h a s x l = (rank_held h a s x l, refl)

-- the place of a bucket has its block and rank
pub find_placed_lem : FindPlaced
unfolding bin position
find_placed_lem h a s x l =
    let j = block_of (table h a) x in
    let r = rank (table h a) x in
    let d = block_bins (table h a).tops j in
    let below = block_below_lem h a s x l in
    let k : r % d < d = mod-lt r (some_bins_lem h a s j below) in
    let whole : r / d * d + r % d ≡ r = div-add-mod' r d in (
      (bin_of_lem h a s x l).1,
      omega arith,
      omega (
        arith,
        bin_size_lem h a s j (r % d) below k,
        below_due (held (table h a) j h.buckets) d (r % d) k (r / d) (omega (arith, rank_before h a s x h.buckets l l)),
      ),
      bucket_at_lem h a s x j (r % d) (r / d) l below k refl (sym whole),
    )

-- so it is below P where no bin is overfull
pub position_below_lem : PositionBelow
position_below_lem h a s x l =
    let (inside, past, under, back) = find_placed_lem h a s.formed x l in
    omega (arith, under, held_within h a s (bin (table h a) x) inside)

-- a position past the label, below a bin's size from there, has a rank below the number of the block's buckets, so there is a
-- bucket of that rank
pub place_found : PlaceFound
unfolding bin position
place_found h a s y p l past k =
    let q = p - label in
    let whole : p ≡ q + label = omega arith in
    let (j, m, below, inside, e) = bin_block h a s y l in
    let d = block_bins (table h a).tops j in
    let size = ap (bin_size (table h a)) e ∙ bin_size_lem h a s j m below inside in
    let reached = due_below_lem (held (table h a) j h.buckets) d m inside q (omega arith) in
    let (x, b, block, rank) = rank_reached h a s j (q * d + m) reached in
    let found : bucket_at (table h a) y p ≡ x =
    ap₂ (bucket_at (table h a)) e whole ∙ bucket_at_lem h a s x j m q b below inside block rank in
    rw (found, block, rank) (
      b,
      omega (arith, mul-add-mod_self_right q d m, mod-eq_of_lt inside),
      omega (arith, mul-add-div_right (some_bins_lem h a s j below) q m, div-eq_of_lt inside),
    )

-- THE TEST OF A PLACE

-- the block and rank of a place, as numbers
rank_at_place
    : (tops : List ℕ) (y p j m : ℕ) → block_of_bin tops y ≡ j → y ≡ first_bin tops j + m
    → rank_at tops y p ≡ (p - label) * block_bins tops j + m
unfolding rank_at
rank_at_place tops y p j m block e = rw block (omega arith)

module _ (h : Header) (a : Arrays) (s : Formed h a) (y p : ℕ) (l : y < bins (table h a)) where
  -- at a position of the label there is none
  found_labelled : p < label → (found_at (table h a) y p).refusal ≡ 7
  unfolding found_at held_at labelled found_of if◌then◌otherwise◌
  found_labelled k = rw (lt-ltb p label k)

  -- a position past the label, below the bin's size from there, has a bucket
  found_inside : label ≤ p → p < bin_size (table h a) y + label → (found_at (table h a) y p).refusal ≡ 0
  found_inside past k =
      let t = table h a in
      let q = p - label in
      let whole : p ≡ q + label = omega arith in
      let (j, m, below, inside, e) = bin_block h a s y l in
      let size = ap (bin_size t) e ∙ bin_size_lem h a s j m below inside in
      let (x, under, owner, ranked) =
      rank_reached h a s j (q * block_bins t.tops j + m)
      (due_below_lem (held t j h.buckets) (block_bins t.tops j) m inside q (omega arith)) in
      ap₂ (λ y p. (found_at t y p).refusal) e whole
      ∙ ap (λ z. z.refusal) (found_at_lem h a s x j m q under below inside owner ranked)

  -- at one that is not, no interval includes the rank
  found_outside : bin_size (table h a) y + label ≤ p → (found_at (table h a) y p).refusal ≡ 7
  unfolding found_at held_at labelled found_of before if◌then◌otherwise◌
  found_outside k =
      let t = table h a in
      let (j, m, below, inside, e) = bin_block h a s y l in
      let size = ap (bin_size t) e ∙ bin_size_lem h a s j m below inside in
      let block : block_of_bin t.tops y ≡ j = ap (block_of_bin t.tops) e ∙ (bin_within h a s j m below inside).0 in
      let ranked = rank_at_place t.tops y p j m block e in
      let none : (i : ℕ) → i < h.interval_count → Including a i (block_of_bin t.tops y) (rank_at t.tops y p) → ⊥ =
      λ i q c.
      let x = rank_at t.tops y p + get_or a.adjustments i 0 in
      let under : x < h.buckets =
      omega (
        arith,
        c.end,
        before_mono a.ends h.interval_count s.ends_rise h.interval_count (suc i) q (omega arith),
        s.last_end,
      ) in
      let owner : block_of t x ≡ j = block_at h a s.ends_rise i x q c.start c.end ∙ c.block ∙ block in
      let reached : rank t x < held t j h.buckets = rw owner at (rank_before h a s x h.buckets under under) in
      omega (
        arith,
        below_due (held t j h.buckets) (block_bins t.tops j) m inside (p - label)
            (omega (arith, rank_adjusted h a s i x q c.start c.end)),
      ) in
      rw (le-ltb p label (omega arith), holder_none h a (block_of_bin t.tops y) (rank_at t.tops y p) none)

-- document 01's rule 7, of a bin that there is
module _ (t : Table) (y p : ℕ) (l : y < bins t) where
  place_labelled : p < label → place_past t y p ≡ true
  unfolding place_past bin_past labelled
  place_labelled k = or_first _ _ (or_last _ _ (lt-leb (bins t) y l) ∙ lt-ltb p label k)

  place_inside : label ≤ p → p < bin_size t y + label → place_past t y p ≡ false
  unfolding place_past bin_past labelled
  place_inside past k =
      or_both _ _ (or_both _ _ (lt-leb (bins t) y l) (le-ltb p label past)) (lt-leb (bin_size t y + label) p k)

  place_outside : bin_size t y + label ≤ p → place_past t y p ≡ true
  unfolding place_past bin_past labelled
  place_outside k =
      or_last _ _ (or_both _ _ (lt-leb (bins t) y l) (le-ltb p label (omega arith))) ∙ le-leb (bin_size t y + label) p k

-- and of one that there is not
place_past_lem : (t : Table) (y p : ℕ) → bins t ≤ y → (bin_past t y ≡ true) × (place_past t y p ≡ true)
unfolding place_past bin_past
place_past_lem t y p l = (le-leb (bins t) y l, or_first _ _ (or_first _ _ (le-leb (bins t) y l)))

-- so finding's tests are that rule
pub find_refused_lem : FindRefused
unfolding find_tests
find_refused_lem h a s y p =
    let t = table h a in
    ⊎_elim
    (λ l.
    bin_searched t y p l
    ∙ ⊎_elim
    (λ b. found_labelled h a s y p l b ∙ sym (first_here (7, place_past t y p) [] (place_labelled t y p l b)))
    (λ b.
    ⊎_elim
    (λ k. found_inside h a s y p l b k ∙ sym (first_skip (7, place_past t y p) [] (place_inside t y p l b k) ∙ first_none))
    (λ k. found_outside h a s y p l k ∙ sym (first_here (7, place_past t y p) [] (place_outside t y p l k)))
    (below_or p (bin_size t y + label)))
    (below_or p label))
    (λ l.
    let (none, past) = place_past_lem t y p l in
    first_here (7, bin_past t y) (searched (found_at t y p).refusal) none ∙ sym (first_here (7, place_past t y p) [] past))
    (below_or y (bins t))
