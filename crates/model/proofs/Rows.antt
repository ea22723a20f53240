-- Laws of the rows of the buckets below m: those of a part that stays or moves whole, and what a growth's rows say. Assumes nothing.
use Prim.Native.Nat.{ℕ, zero, suc, ◌+◌, ◌-◌, ◌/◌, ◌%◌, ◌≤◌, ◌<◌}
use mathlib.Core.Path.{◌≡◌, refl, sym, ◌∙◌, ap, ap₂}
use mathlib.Core.Logic.{⊎_elim}
use mathlib.Core.Bool.{Bool, true, false, false≢true}
use mathlib.Core.List.{List, [], ◌∷◌, ◌++◌, append-nil, append_assoc}
use native.Mathlib.Nat.{le_refl, le_of_lt, zero-add}
use native.Mathlib.Omega.{arith}
use lib.ListN.{length, get_or, take, length-append}
use lib.Seq.{get_or-take, get_or_at}
use borrow.Author.Tests.{eq-eqb, ne_eqb}
use Rattle.model.specs.Basics.{if◌then◌otherwise◌, ◌and◌, sum, count, from, joined, before}
use Rattle.model.specs.Limits.{label}
use Rattle.model.specs.Table.{Shape, Interval, Table, Arrays, table, bins, shape, first_bin, block_bins}
use Rattle.model.specs.Place.{block_of, rank, bin, position, size}
use Rattle.model.specs.Refusal.{first}
use Rattle.model.specs.Sound.{Formed}
use Rattle.model.specs.Expansion.{due_after, some_fall, drained, expanded, differs}
use Rattle.model.specs.Relocations.{row, row_if, rows}
use Rattle.model.specs.Calls.{growth_tests, rows_of}
use Rattle.model.specs.Balance.{least}
use Rattle.model.specs.declared.table.Header.{Header}
use Rattle.model.proofs.Counts.{bit_cases, below_or, span_in, span_out}
use Rattle.model.proofs.Intervals.{before_mono, block_at, rank_at_lem}
use Rattle.model.proofs.Tables.{length_from, from_append, lent_interval, before_same}
use Rattle.model.proofs.Listed.{size_zero, size_next, size_skip, size_most, size_own, size_other}
use Rattle.model.proofs.Ranks.{block_below_lem, rank_adjusted, rank_held}
use Rattle.model.proofs.Places.{bin_of_lem}
use Rattle.model.proofs.Wells.{held_size, Well, tops_length, formed_well}
use Rattle.model.proofs.Growths.{Accepted, accepted, before_old, top_new, none_falls, some_more}
use Rattle.model.proofs.Filled.{filled_least}
use Rattle.model.proofs.Drained.{drained_block, drained_stays, drained_moves, drained_grown}
use Rattle.model.proofs.Expanded.{grown_placed, grown_block, expanded_drained}
use Rattle.model.proofs.Kept.{places_kept, moved_is_least}

-- LISTS

pub joined_append : {A : Type 0} (xs ys : List (List A)) → joined (xs ++ ys) ≡ joined xs ++ joined ys
unfolding joined
joined_append [] ys = refl
joined_append (x ∷ xs) ys = rw (joined_append xs ys) (sym (append_assoc x (joined xs) (joined ys)))

module _ {A : Type 0} (f : ℕ → List A) where
  -- lists that are all empty, or all of one entry
  joined_none : (i n : ℕ) → ((x : ℕ) → i ≤ x → x < i + n → f x ≡ []) → joined (from f i n) ≡ []
  unfolding joined from
  joined_none i zero e = refl
  joined_none i (suc n) e =
      rw (e i (le_refl i) (omega arith), joined_none (suc i) n (λ x l k. e x (omega arith) (omega arith)))

  joined_one
      : (g : ℕ → A) (i n : ℕ) → ((x : ℕ) → i ≤ x → x < i + n → f x ≡ g x ∷ []) → joined (from f i n) ≡ from g i n
  unfolding joined from
  joined_one g i zero e = refl
  joined_one g i (suc n) e =
      rw (e i (le_refl i) (omega arith), joined_one g (suc i) n (λ x l k. e x (omega arith) (omega arith)))

-- THE ROWS OF THE BUCKETS BELOW m

abbrev pub rows_below : Table → Table → ℕ → List (List ℕ)
rows_below t u m = joined (from (row_if t u) 0 m)

module _ (t u : Table) where
  -- the rows of the buckets below m, and of the n behind them
  pub rows_more : (m n : ℕ) → rows_below t u (m + n) ≡ rows_below t u m ++ joined (from (row_if t u) m n)
  rows_more m n =
      ap joined (sym (from_append (row_if t u) 0 m n))
      ∙ joined_append (from (row_if t u) 0 m) (from (row_if t u) (0 + m) n)
      ∙ ap (λ i. rows_below t u m ++ joined (from (row_if t u) i n)) (zero-add m)

  -- buckets from m up to e of which none moves, or each
  rows_stay
      : (m e : ℕ) → m ≤ e → ((x : ℕ) → m ≤ x → x < e → differs t u x ≡ false) → rows_below t u e ≡ rows_below t u m
  unfolding row_if if◌then◌otherwise◌
  rows_stay m e l same =
      let whole : e ≡ m + (e - m) = omega arith in
      ap (rows_below t u) whole
      ∙ rows_more m (e - m)
      ∙ ap (λ l. rows_below t u m ++ l)
      (joined_none (row_if t u) m (e - m) (λ x b k. rw (same x b (omega arith))))
      ∙ append-nil (rows_below t u m)

  rows_move
      : (m e : ℕ) → m ≤ e → ((x : ℕ) → m ≤ x → x < e → differs t u x ≡ true)
      → rows_below t u e ≡ rows_below t u m ++ from (row t u) m (e - m)
  unfolding row_if if◌then◌otherwise◌
  rows_move m e l other =
      let whole : e ≡ m + (e - m) = omega arith in
      ap (rows_below t u) whole
      ∙ rows_more m (e - m)
      ∙ ap (λ l. rows_below t u m ++ l)
      (joined_one (row_if t u) (row t u) m (e - m) (λ x b k. rw (other x b (omega arith))))

-- what holds of m holds of all numbers from m up to m + 1
only : {m : ℕ} {b : Bool} (f : ℕ → Bool) (x : ℕ) → m ≤ x → x < suc m → f m ≡ b → f x ≡ b
only {m} f x l k e = let same : x ≡ m = omega arith in ap f same ∙ e

-- ORDER NUMBERS

module _ (t u : Table) where
  -- the rows of the buckets below m are as many as the moved ones
  pub rows_order : (m : ℕ) → length (rows_below t u m) ≡ count (differs t u) m
  unfolding joined from count sum
  rows_order zero = refl
  rows_order (suc m) =
      let ih = rows_order m in
      ⊎_elim
      (λ e.
      omega (
        arith,
        ap length (rows_move t u m (suc m) (omega arith) (λ x b c. only (differs t u) x b c e.0)),
        length-append (rows_below t u m) (from (row t u) m (suc m - m)),
        length_from (row t u) m (suc m - m),
        e.1,
      ))
      (λ e.
      omega (
        arith,
        ap length (rows_stay t u m (suc m) (omega arith) (λ x b c. only (differs t u) x b c e.0)),
        e.1,
      ))
      (bit_cases (differs t u m))

  -- a moved bucket's row stands at its order number: the number of moved buckets below it
  pub row_at_lem
      : (x : ℕ) → x < t.buckets → differs t u x ≡ true → get_or (rows t u) (count (differs t u) x) [] ≡ row t u x
  unfolding rows joined from row_if if◌then◌otherwise◌
  row_at_lem x l e =
      let whole : t.buckets ≡ suc x + (t.buckets - suc x) = omega arith in
      let one : suc x - x ≡ 1 = omega arith in
      let rest = joined (from (row_if t u) (suc x) (t.buckets - suc x)) in
      let here : rows_below t u (suc x) ≡ rows_below t u x ++ (row t u x ∷ []) =
      rows_move t u x (suc x) (omega arith) (λ z b c. only (differs t u) z b c e)
      ∙ ap (λ n. rows_below t u x ++ from (row t u) x n) one in
      let split : rows t u ≡ rows_below t u x ++ (row t u x ∷ rest) =
      ap (rows_below t u) whole
      ∙ rows_more t u (suc x) (t.buckets - suc x)
      ∙ ap (λ rs. rs ++ rest) here
      ∙ append_assoc (rows_below t u x) (row t u x ∷ []) rest in
      ap (λ rs. get_or rs (count (differs t u) x) []) split
      ∙ get_or_at (rows_below t u x) (row t u x) rest [] (count (differs t u) x) (rows_order x)

-- A GROWTH BY WHICH SOME OLD BLOCK IS DUE LESS

module _ (t : Table) (s : Shape) (w : Well t) (a : Accepted t s) (falls : some_fall t s ≡ true) where
  -- the block and rank of a bucket in the new table
  drained_block_lem : (x : ℕ) → x < s.buckets → block_of (expanded t s) x ≡ drained_block t s x
  drained_block_lem x l =
      rw (expanded_drained t s falls)
      (grown_block t s (drained_block t s) (drained t s) (drained_grown t s w a falls) x l)

  drained_rank : (x : ℕ) → x < s.buckets → rank (expanded t s) x ≡ size (drained_block t s) x (drained_block t s x)
  unfolding rank
  drained_rank x l =
      rw (expanded_drained t s falls)
      (grown_placed t s (drained_block t s) (drained t s) (drained_grown t s w a falls) x l).rank

  -- the new block's first bin and bins
  new_first : first_bin (expanded t s).tops (length t.tops) ≡ bins t
  unfolding expanded first_bin bins
  new_first = before_old t s (length t.tops) (omega arith)

  new_bins : block_bins (expanded t s).tops (length t.tops) ≡ s.bins - bins t
  unfolding expanded block_bins
  new_bins = ap₂ (λ m n. m - n) (top_new t s (some_more t s w a falls)) new_first

  -- so the place of a bucket of the new block
  new_place
      : (x r : ℕ) → x < s.buckets → drained_block t s x ≡ length t.tops → size (drained_block t s) x (length t.tops) ≡ r
      → (bin (expanded t s) x ≡ bins t + r % (s.bins - bins t)) × (position (expanded t s) x ≡ r / (s.bins - bins t) + label)
  unfolding bin position
  new_place x r l e q =
      let block = drained_block_lem x l ∙ e in
      let ranked = drained_rank x l ∙ ap (size (drained_block t s) x) e ∙ q in
      (rw (block, ranked, new_first, new_bins), rw (block, ranked, new_bins))

-- A SOUND TABLE AND AN ACCEPTED GROWTH

-- the old table and the new one
abbrev old : Header → Arrays → Table
old h a = table h a

abbrev new : Header → Arrays → Shape → Table
new h a s = expanded (table h a) s

-- an interval from `start` on, of a block that is due `due`, cut at bucket p: the ranks before it are below the due, the others not
pub record Cut (due start : ℕ) (i : Interval) (p : ℕ) : Type 0 where
  pub after : start ≤ p
  pub within : p ≤ i.end
  pub kept : (x : ℕ) → start ≤ x → x < p → x < due + i.adjustment
  pub gone : (x : ℕ) → p ≤ x → x < i.end → due + i.adjustment ≤ x

-- how many rows are before those of interval i
abbrev pub rows_before : Header → Arrays → Shape → ℕ → ℕ
rows_before h a s i = length (rows_below (old h a) (new h a s) (before a.ends i))

-- the first bin and the number of bins of a block, as they are lent
abbrev pub lent_first : Arrays → ℕ → ℕ
lent_first a j = before a.tops j

abbrev pub lent_bins : Arrays → ℕ → ℕ
lent_bins a j = get_or a.tops j 0 - before a.tops j

-- an interval ends at B or before
pub end_within
    : (h : Header) (a : Arrays) → Formed h a → (i : ℕ) → i < h.interval_count → get_or a.ends i 0 ≤ h.buckets
unfolding before
end_within h a formed i k =
    omega (
      arith,
      before_mono a.ends h.interval_count formed.ends_rise h.interval_count (suc i) k (le_refl _),
      formed.last_end,
    )

-- the place of a bucket of interval i
pub lent_place
    : (h : Header) (a : Arrays) → Formed h a
    → (i x : ℕ) → i < h.interval_count → before a.ends i ≤ x → x < get_or a.ends i 0
    → (bin (table h a) x
    ≡ lent_first a (get_or a.blocks i 0) + (x - get_or a.adjustments i 0) % lent_bins a (get_or a.blocks i 0))
    × (position (table h a) x ≡ (x - get_or a.adjustments i 0) / lent_bins a (get_or a.blocks i 0) + label)
unfolding bin position first_bin block_bins table
lent_place h a formed i x k b e =
    let block = block_at h a formed.ends_rise i x k b e in
    let ranked = rank_at_lem h a formed.ends_rise i x k b e in
    let top = get_or-take h.block_count a.tops (get_or a.blocks i 0) 0 (formed.blocks_below i k) in
    let first =
    before_same (take h.block_count a.tops) a.tops h.block_count
    (λ j l. get_or-take h.block_count a.tops j 0 l)
    (get_or a.blocks i 0)
    (le_of_lt (formed.blocks_below i k)) in
    (rw (block, ranked, top, first), rw (block, ranked, top, first))

module _ (h : Header) (a : Arrays) (s : Shape) (formed : Formed h a) (ok : first (growth_tests (table h a) s) ≡ 0) where
  -- the rows are max(0, B - T)
  pub rows_least : length (rows (old h a) (new h a s)) ≡ least (shape (old h a)) s
  rows_least = let (count, same) = moved_is_least h a s formed ok in same ∙ count

  -- where no old block is due less there is none
  pub rows_filled : some_fall (old h a) s ≡ false → length (rows (old h a) (new h a s)) ≡ 0
  rows_filled e =
      let well = formed_well h a formed in
      let sizes = accepted (old h a) s ok in
      rows_least ∙ filled_least (old h a) s well sizes (none_falls (old h a) s well sizes e)

  -- so where there is one, some old block is due less
  pub rows_falls : (q : ℕ) → q < length (rows_of h a s) → some_fall (old h a) s ≡ true
  unfolding rows_of
  rows_falls q l =
      ⊎_elim (λ e. e.0) (λ e. absurd (omega (arith, rows_filled e.0))) (bit_cases (some_fall (old h a) s))

  -- a bucket of interval i: its rank
  module _ (i x : ℕ) (k : i < h.interval_count) (b : before a.ends i ≤ x) (e : x < get_or a.ends i 0) where
    old_inside : x < h.buckets
    old_inside = omega (arith, end_within h a formed i k)

    old_rank
        : (block_of (old h a) x ≡ get_or a.blocks i 0)
        × (size (block_of (old h a)) x (block_of (old h a) x) + get_or a.adjustments i 0 ≡ x)
    old_rank = (
      block_at h a formed.ends_rise i x k b e,
      omega (
        arith,
        rank_adjusted h a formed i x k b e,
        rank_held h a formed x old_inside,
        held_size (old h a) (block_of (old h a) x) x,
      ),
    )

  module _ (falls : some_fall (old h a) s ≡ true) where
    -- old buckets are buckets
    more : h.buckets ≤ s.buckets
    unfolding table
    more = (accepted (old h a) s ok).more_buckets

    -- an old bucket of the new block moves, and one of its old block stays
    moves
        : (x : ℕ) → x < h.buckets → drained_block (old h a) s x ≡ length (old h a).tops
        → differs (old h a) (new h a s) x ≡ true
    unfolding differs
    moves x l e =
        let place =
        new_place (old h a) s (formed_well h a formed) (accepted (old h a) s ok) falls x _ (omega (arith, more)) e refl in
        rw
        (ne_eqb (bin (old h a) x) (bin (new h a s) x)
        (λ q. omega (arith, place.0, (bin_of_lem h a formed x l).1)))

    stays
        : (x : ℕ) → x < h.buckets → drained_block (old h a) s x ≡ block_of (old h a) x
        → differs (old h a) (new h a s) x ≡ false
    unfolding differs
    stays x l e =
        let block =
        drained_block_lem (old h a) s (formed_well h a formed) (accepted (old h a) s ok) falls x (omega (arith, more)) in
        ⊎_elim
        (λ q. rw (eq-eqb (bin (old h a) x) (bin (new h a s) x) (sym q.0)))
        (λ q. absurd (omega (arith, q.1, block, block_below_lem h a formed x l)))
        (places_kept h a s formed ok x l)

    -- a bucket of a rank below its block's due is of its old block
    kept
        : (x : ℕ) → x < h.buckets → size (block_of (old h a)) x (block_of (old h a) x) < due_after (old h a) s (block_of (old h a) x)
        → drained_block (old h a) s x ≡ block_of (old h a) x
    unfolding table
    kept x l k = drained_stays (table h a) s x l k

    -- so the rows of the buckets below m are those of the new block
    pub rows_size
        : (m : ℕ) → m ≤ h.buckets
        → length (rows_below (old h a) (new h a s) m) ≡ size (drained_block (old h a) s) m (length (old h a).tops)
    unfolding joined from
    rows_size zero l = sym (size_zero (drained_block (old h a) s) (length (old h a).tops))
    rows_size (suc m) l =
        let ih = rows_size m (omega arith) in
        let below = block_below_lem h a formed m l in
        ⊎_elim
        (λ k.
        let e = kept m l k in
        omega (
          arith,
          ap length (rows_stay (old h a) (new h a s) m (suc m) (omega arith) (λ x b c. only (differs (old h a) (new h a s)) x b c (stays m l e))),
          size_skip (drained_block (old h a) s) m (length (old h a).tops) (λ q. omega (arith, tops_length h a formed)),
        ))
        (λ k.
        let e = drained_moves (old h a) s m k in
        omega (
          arith,
          ap length (rows_move (old h a) (new h a s) m (suc m) (omega arith) (λ x b c. only (differs (old h a) (new h a s)) x b c (moves m l e))),
          length-append (rows_below (old h a) (new h a s) m) (from (row (old h a) (new h a s)) m (suc m - m)),
          length_from (row (old h a) (new h a s)) m (suc m - m),
          size_next (drained_block (old h a) s) m (length (old h a).tops) e,
        ))
        (below_or (size (block_of (old h a)) m (block_of (old h a) m)) (due_after (old h a) s (block_of (old h a) m)))

    -- a moved bucket is of the new block, and its rank there is its order number
    pub moved_place
        : (x : ℕ) → x < h.buckets → differs (old h a) (new h a s) x ≡ true
        → (bin (new h a s) x ≡ bins (old h a) + count (differs (old h a) (new h a s)) x % (s.bins - bins (old h a)))
        × (position (new h a s) x ≡ count (differs (old h a) (new h a s)) x / (s.bins - bins (old h a)) + label)
    moved_place x l e =
        ⊎_elim
        (λ k. absurd (false≢true (sym (stays x l (kept x l k)) ∙ e)))
        (λ k.
        new_place (old h a) s (formed_well h a formed) (accepted (old h a) s ok) falls x _ (omega (arith, more))
        (drained_moves (old h a) s x k)
        (sym (rows_size x (omega arith)) ∙ rows_order (old h a) (new h a s) x))
        (below_or (size (block_of (old h a)) x (block_of (old h a) x)) (due_after (old h a) s (block_of (old h a) x)))

    -- THE ROWS OF INTERVAL i, of which the buckets from p on move: those whose rank is not below the block's due

    module _
        (i p : ℕ) (k : i < h.interval_count)
        (cut : Cut (due_after (old h a) s (get_or a.blocks i 0)) (before a.ends i) (lent_interval a i) p) where
      part_kept : (x : ℕ) → before a.ends i ≤ x → x < p → drained_block (old h a) s x ≡ block_of (old h a) x
      unfolding table
      part_kept x c d =
          let ranks = old_rank i x k c (omega (arith, cut.within)) in
          drained_stays (old h a) s x (old_inside i x k c (omega (arith, cut.within)))
          (omega (arith, ranks.1, cut.kept x c d, ap (due_after (old h a) s) ranks.0))

      part_gone : (x : ℕ) → p ≤ x → x < get_or a.ends i 0 → drained_block (old h a) s x ≡ length (old h a).tops
      part_gone x c d =
          let ranks = old_rank i x k (omega (arith, cut.after)) d in
          drained_moves (old h a) s x (omega (arith, ranks.1, cut.gone x c d, ap (due_after (old h a) s) ranks.0))

      pub part_moves : (x : ℕ) → p ≤ x → x < get_or a.ends i 0 → differs (old h a) (new h a s) x ≡ true
      part_moves x c d = moves x (old_inside i x k (omega (arith, cut.after)) d) (part_gone x c d)

      part_stays : (x : ℕ) → before a.ends i ≤ x → x < p → differs (old h a) (new h a s) x ≡ false
      part_stays x c d = stays x (old_inside i x k c (omega (arith, cut.within))) (part_kept x c d)

      pub part_rows_lem
          : rows_below (old h a) (new h a s) (get_or a.ends i 0)
          ≡ rows_below (old h a) (new h a s) (before a.ends i) ++ from (row (old h a) (new h a s)) p (get_or a.ends i 0 - p)
      part_rows_lem =
          rows_move (old h a) (new h a s) p (get_or a.ends i 0) cut.within part_moves
          ∙ ap (λ l. l ++ from (row (old h a) (new h a s)) p (get_or a.ends i 0 - p))
          (rows_stay (old h a) (new h a s) (before a.ends i) p cut.after part_stays)

      -- so their order numbers go on from that of its start
      pub part_order
          : (x : ℕ) → p ≤ x → x ≤ get_or a.ends i 0
          → count (differs (old h a) (new h a s)) x ≡ count (differs (old h a) (new h a s)) (before a.ends i) + (x - p)
      part_order x c d =
          omega (
            arith,
            ap length (rows_move (old h a) (new h a s) p x c (λ z b e. part_moves z b (omega arith))),
            ap length (rows_stay (old h a) (new h a s) (before a.ends i) p cut.after part_stays),
            length-append (rows_below (old h a) (new h a s) p) (from (row (old h a) (new h a s)) p (x - p)),
            length_from (row (old h a) (new h a s)) p (x - p),
            rows_order (old h a) (new h a s) x,
            rows_order (old h a) (new h a s) (before a.ends i),
          )

      -- of the interval's buckets both move and pass a test q those from p on that pass it
      pub part_count
          : (q : ℕ → Bool)
          → count (λ x. differs (old h a) (new h a s) x and q x) (before a.ends i) + count q (get_or a.ends i 0)
          ≡ count (λ x. differs (old h a) (new h a s) x and q x) (get_or a.ends i 0) + count q p
      part_count q =
          omega (
            arith,
            span_in (differs (old h a) (new h a s)) q p (get_or a.ends i 0) cut.within part_moves,
            span_out (differs (old h a) (new h a s)) q (before a.ends i) p cut.after part_stays,
          )

      -- their ranks in the new block go on from w, the number of rows before the interval's
      part_rank
          : (x : ℕ) → p ≤ x → x < get_or a.ends i 0
          → size (drained_block (old h a) s) x (length (old h a).tops) ≡ x - (p - rows_before h a s i)
      part_rank x c d =
          let inside = old_inside i x k (omega (arith, cut.after)) d in
          omega (
            arith,
            size_own (drained_block (old h a) s) (length (old h a).tops) p x c (λ y l m. part_gone y l (omega arith)),
            size_other (drained_block (old h a) s) (length (old h a).tops) (before a.ends i) p cut.after
                (λ y l m q.
                omega (
                  arith,
                  part_kept y l m,
                  block_below_lem h a formed y (old_inside i y k l (omega arith)),
                  tops_length h a formed,
                )),
            rows_size (before a.ends i) (omega (arith, cut.after)),
            size_most (drained_block (old h a) s) (before a.ends i) (length (old h a).tops),
            cut.after,
          )

      -- each of them, by its old and its new adjustment
      pub part_row
          : (x : ℕ) → p ≤ x → x < get_or a.ends i 0
          → row (old h a) (new h a s) x
          ≡ x
          ∷ (lent_first a (get_or a.blocks i 0) + (x - get_or a.adjustments i 0) % lent_bins a (get_or a.blocks i 0))
          ∷ ((x - get_or a.adjustments i 0) / lent_bins a (get_or a.blocks i 0) + label)
          ∷ (bins (old h a) + (x - (p - rows_before h a s i)) % (s.bins - bins (old h a)))
          ∷ ((x - (p - rows_before h a s i)) / (s.bins - bins (old h a)) + label)
          ∷ []
      unfolding row
      part_row x c d =
          let (at, place) = lent_place h a formed i x k (omega (arith, cut.after)) d in
          let (at', place') =
          new_place (old h a) s (formed_well h a formed) (accepted (old h a) s ok) falls x (x - (p - rows_before h a s i))
          (omega (arith, more, old_inside i x k (omega (arith, cut.after)) d))
          (part_gone x c d)
          (part_rank x c d) in
          rw (at, place, at', place')
