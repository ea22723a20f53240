-- Laws of finding in a formed table: a bin's block and size, and the search for a rank. Assumes nothing.
use Prim.Native.Nat.{ℕ, suc, ◌+◌, ◌-◌, ◌*◌, ◌/◌, ◌%◌, ◌≤◌, ◌<◌}
use mathlib.Core.Path.{◌≡◌, refl, ap, sym, ◌∙◌}
use mathlib.Core.Logic.{⊎_elim}
use mathlib.Core.Bool.{true, false}
use mathlib.Core.List.{List, ◌∷◌}
use native.Mathlib.Numerals.{add-one}
use native.Mathlib.Omega.{arith}
use lib.ListN.{length, get_or, take}
use borrow.Author.Tests.{lt-ltb, le-ltb, le-leb, lt-leb, ltb-false}
use Rattle.std.proofs.Common.{ltb, cond, not, unwrap_or, position}
use Rattle.std.specs.List.{position_or_len}
use Rattle.std.proofs.lemmas.List.Sums.{prefix_len-le-length}
use Rattle.std.proofs.lemmas.List.Recursion.{is_position_or_len}
use Rattle.model.specs.Basics.{if◌then◌otherwise◌, from, before}
use Rattle.model.specs.Limits.{label}
use Rattle.model.specs.Table.{Shape, Table, first_bin, Arrays, bins, shape, table}
use Rattle.model.specs.Search.{block_of_bin, includes, holder, rank_at, found_of, held_at, found_at}
use Rattle.model.specs.Due.{due}
use Rattle.model.specs.Refusal.{first, bin_past, labelled}
use Rattle.model.specs.Sound.{Formed}
use Rattle.model.specs.Calls.{answer, bin_size_answer, bin_size_tests, find_answer, find_tests}
use Rattle.model.specs.declared.table.Header.{Header}
use Rattle.std.specs.Prelude.{Some, None}
use Rattle.model.proofs.Counts.{bit_cases}
use Rattle.model.proofs.Dues.{due_more, due_less}
use Rattle.model.proofs.Intervals.{before_mono}
use Rattle.model.proofs.Places.{size_due_lem}
use Rattle.model.proofs.Finds.{entry, Including, includes_holds, includes_true, holder_in, found_in}
use Rattle.model.proofs.Places.{bin_block, bin_within}
use Rattle.model.proofs.Searches.{bin_searched, found_whole}
use Rattle.model.proofs.Rules.{before_next}
use Rattle.lookup.proofs.Searches.{first_kept, bins_kept}

-- THE BLOCK OF A BIN

block_next : (y top : ℕ) (rest : List ℕ) → block_of_bin (top ∷ rest) y ≡ cond (ltb y top) 0 (1 + block_of_bin rest y)
unfolding block_of_bin if◌then◌otherwise◌
block_next y top rest = ⊎_elim (λ t. rw t.0) (λ t. rw t.0 (omega arith)) (bit_cases (ltb y top))

-- the first top past the bin, or how many tops there are
pub block_first : (tops : List ℕ) (y : ℕ) → unwrap_or (position (ltb y) tops) (length tops) ≡ block_of_bin tops y
unfolding block_of_bin
block_first tops y =
    let same = is_position_or_len (λ l. block_of_bin l y) (ltb y) refl (block_next y) tops in
    ⊎_elim
    (λ t. rw t.0 (sym same))
    (λ t. rw t.0 (omega (arith, same, ltb-false _ _ t.0, prefix_len-le-length (λ x. not (ltb y x)) tops)))
    (bit_cases (ltb (position_or_len (ltb y) tops) (length tops)))

-- THE SEARCH FOR A RANK, from interval i on

module _ (a : Arrays) (count j r : ℕ) where
  -- the search over all intervals answers what the search from interval i on answers
  abbrev pub Searching : ℕ → ℕ → Type 0
  Searching i start =
      (i ≤ count)
      × (start ≡ before a.ends i)
      × (holder (from (entry a) 0 count) 0 0 j r ≡ holder (from (entry a) i (count - i)) start i j r)

  pub searching_starts : Searching 0 0
  unfolding before
  searching_starts = (omega arith, refl, ap (λ n. holder (from (entry a) 0 n) 0 0 j r) (omega arith))

  pub searching_ends
      : (i start : ℕ) → Searching i start → count ≤ i → None ≡ holder (from (entry a) 0 count) 0 0 j r
  unfolding holder from
  searching_ends i start s l =
      let none : count - i ≡ 0 = omega arith in
      sym (s.2 ∙ rw none)

  pub searching_found
      : (i start : ℕ) → Searching i start → i < count → get_or a.blocks i 0 ≡ j
      → start ≤ r + get_or a.adjustments i 0 → r + get_or a.adjustments i 0 < get_or a.ends i 0
      → Some i ≡ holder (from (entry a) 0 count) 0 0 j r
  unfolding holder from if◌then◌otherwise◌
  searching_found i start s l b c d =
      let more : count - i ≡ suc (count - suc i) = omega arith in
      let test : includes start (entry a i) j r ≡ true =
      rw s.1 (includes_holds a i j r (record { block = b; start = omega arith; end = d })) in
      sym (s.2 ∙ rw (more, test))

  pub searching_more
      : (i start : ℕ) → Searching i start → i < count
      → (get_or a.blocks i 0 ≡ j → start ≤ r + get_or a.adjustments i 0 → get_or a.ends i 0 ≤ r + get_or a.adjustments i 0)
      → Searching (i + 1) (get_or a.ends i 0)
  unfolding holder from if◌then◌otherwise◌
  searching_more i start s l none =
      let more : count - i ≡ suc (count - (i + 1)) = omega arith in
      let test : includes start (entry a i) j r ≡ false =
      ⊎_elim
      (λ t.
      let c = includes_true a i j r (rw s.1 at t.0) in
      absurd (omega (arith, none c.block (omega arith))))
      (λ t. t.0)
      (bit_cases (includes start (entry a i) j r)) in (
        omega arith,
        sym (before_next a.ends i),
        s.2 ∙ rw (more, test, ← add-one i),
      )

-- THE SIZE OF A BIN, where n is the number of bins

pub size_past
    : (h : Header) (a : Arrays) (n y : ℕ) → n ≡ bins (table h a) → n ≤ y
    → record { refusal = 7; buckets = 0 } ≡ bin_size_answer (first (bin_size_tests (table h a) y)) (table h a) y
unfolding bin_size_answer answer first bin_size_tests bin_past if◌then◌otherwise◌
size_past h a n y e l = rw (le-leb (bins (table h a)) y (omega arith))

abbrev sized : ℕ → ℕ → Shape
sized b n = record { buckets = b; bins = n }

module _ (h : Header) (a : Arrays) (s : Formed h a) (n y : ℕ) (e : n ≡ bins (table h a)) (l : y < n) where
  size_answer
      : (v : ℕ) → v ≡ due (shape (table h a)) y
      → record { refusal = 0; buckets = v } ≡ bin_size_answer (first (bin_size_tests (table h a) y)) (table h a) y
  unfolding bin_size_answer answer first bin_size_tests bin_past if◌then◌otherwise◌
  size_answer v d = rw (lt-leb (bins (table h a)) y (omega arith), d, ← size_due_lem h a s y (omega arith))

  shape_table : shape (table h a) ≡ sized h.buckets n
  unfolding shape table
  shape_table = ap (sized h.buckets) (sym e)

  pub size_more
      : y < h.buckets % n
      → record { refusal = 0; buckets = h.buckets / n + 1 } ≡ bin_size_answer (first (bin_size_tests (table h a) y)) (table h a) y
  size_more k = size_answer (h.buckets / n + 1) (sym (ap (λ s. due s y) shape_table ∙ due_more (sized h.buckets n) y k))

  pub size_less
      : h.buckets % n ≤ y
      → record { refusal = 0; buckets = h.buckets / n } ≡ bin_size_answer (first (bin_size_tests (table h a) y)) (table h a) y
  size_less k = size_answer (h.buckets / n) (sym (ap (λ s. due s y) shape_table ∙ due_less (sized h.buckets n) y k))

-- THE BUCKET AT A PLACE

-- the bucket of a rank that an interval includes is below B
pub bucket_below
    : (h : Header) (a : Arrays) → Formed h a → (i j r : ℕ) → i < h.interval_count → Including a i j r
    → r + get_or a.adjustments i 0 < h.buckets
unfolding before
bucket_below h a s i j r l c =
    omega (
      arith,
      c.end,
      before_mono a.ends h.interval_count s.ends_rise h.interval_count (suc i) l (omega arith),
      s.last_end,
    )

module _
    (h : Header) (a : Arrays) (s : Formed h a)
    (y p : ℕ) (l : y < bins (table h a))
    (block first : ℕ)
    (e : block ≡ block_of_bin (take h.block_count a.tops) y)
    (f : first ≡ before a.tops block)
  where
    -- the bin is one of its block
    pub block_below_lem : (block < h.block_count) × (first ≤ y) × (first < get_or a.tops block 0)
    unfolding table
    block_below_lem =
        let (j, m, below, inside, g) = bin_block h a s y l in
        let same : block ≡ j = e ∙ ap (block_of_bin (table h a).tops) g ∙ (bin_within h a s j m below inside).0 in
        let low : first ≡ first_bin (table h a).tops j =
        f ∙ ap (before a.tops) same ∙ sym (first_kept h a j (omega arith)) in
        (omega arith, omega arith, omega (arith, s.tops_rise block (omega arith)))

    -- p is the position from the label's end
    pub rank_here : p * (get_or a.tops block 0 - first) + (y - first) ≡ rank_at (table h a).tops y (p + label)
    unfolding rank_at table
    rank_here =
        let source : p + label - label ≡ p = omega arith in
        rw (← e, bins_kept h a block block_below_lem.0, first_kept h a block (omega (arith, block_below_lem.0)), ← f, source)

    module _ (rank : ℕ) (g : rank ≡ rank_at (table h a).tops y (p + label)) where
      -- what the search for the rank answers is what finding answers
      pub answer_here
          : found_of (table h a) rank (holder (table h a).intervals 0 0 block rank) ≡ found_at (table h a) y (p + label)
      unfolding found_at held_at labelled table if◌then◌otherwise◌
      answer_here = rw (← g, ← e, le-ltb (p + label) label (omega arith))

      pub find_nothing
          : holder (table h a).intervals 0 0 block rank ≡ None
          → record { refusal = 7; bucket = 0 } ≡ found_at (table h a) y (p + label)
      unfolding found_of
      find_nothing n = sym (ap (found_of (table h a) rank) n) ∙ answer_here

      pub find_in
          : (i : ℕ) → holder (table h a).intervals 0 0 block rank ≡ Some i
          → record { refusal = 0; bucket = rank + get_or a.adjustments i 0 } ≡ found_at (table h a) y (p + label)
      find_in i n =
          sym (found_in h a rank i (holder_in h a block rank i n).0) ∙ sym (ap (found_of (table h a) rank) n) ∙ answer_here

-- THE TEST OF A PLACE

-- a bin past the last
pub bin_refused
    : (t : Table) (n y p : ℕ) → n ≡ bins t → n ≤ y
    → record { refusal = 7; bucket = 0 } ≡ find_answer (first (find_tests t y p)) t y p
unfolding find_answer answer first find_tests bin_past if◌then◌otherwise◌
bin_refused t n y p e l = rw (le-leb (bins t) y (omega arith))

-- a position of the label
pub label_refused : (t : Table) (y p : ℕ) → p < label → record { refusal = 7; bucket = 0 } ≡ found_at t y p
unfolding found_at held_at labelled found_of if◌then◌otherwise◌
label_refused t y p l = rw (lt-ltb p label l)

-- otherwise the search answers
pub bin_accepted
    : (t : Table) (n y p : ℕ) → n ≡ bins t → y < n → found_at t y p ≡ find_answer (first (find_tests t y p)) t y p
unfolding find_answer found_at
bin_accepted t n y p e l =
    sym
    (ap (λ r. answer r (found_at t y p) (record { refusal = r; bucket = 0 })) (bin_searched t y p (omega arith))
    ∙ found_whole t (rank_at t.tops y p) (held_at t y p))
