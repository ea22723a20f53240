-- Laws of a growth's moves: what stays keeps its place, what moves goes to the new block, and the moved count is max(0, B - T).
-- Assumes nothing.
use Prim.Native.Nat.{ℕ, zero, suc, ◌+◌, ◌-◌, ◌≤◌, ◌<◌}
use mathlib.Core.Path.{◌≡◌, refl, sym, ◌∙◌, ap, ap₂}
use mathlib.Core.Logic.{◌⊎◌, inl, inr, ⊎_elim}
use mathlib.Core.Bool.{Bool}
use mathlib.Core.List.{List, [], ◌∷◌, ◌++◌, append-nil}
use native.Mathlib.Nat.{add-zero, zero-add, add-suc, suc-add}
use native.Mathlib.Omega.{arith}
use lib.Dec.{ltb, eqb}
use lib.ListN.{length, get_or, take, drop, length-append, take-append-drop, get_or-append}
use lib.Seq.{length-take-le}
use borrow.Author.Tests.{ltb-false, lt-ltb, le-ltb}
use Rattle.model.specs.Basics.{if◌then◌otherwise◌, bit, sum, count, from, joined, before}
use Rattle.model.specs.Table.{Shape, Table, bins, shape, first_bin, block_bins, Arrays, table}
use Rattle.model.specs.Place.{block_of, bin, position, held, size}
use Rattle.model.specs.Due.{due_of_block}
use Rattle.model.specs.Refusal.{first, shrinks}
use Rattle.model.specs.Sound.{Formed}
use Rattle.model.specs.Expansion.{grown_tops, expanded, differs, moved}
use Rattle.model.specs.Relocations.{row_if, rows}
use Rattle.model.specs.Calls.{size_tests, growth_tests}
use Rattle.model.specs.Balance.{held_below, due_below, most, least, Grows}
use Rattle.model.specs.ExpansionClaims.{Stays, ExpandStays, ExpandPlaces, MovedLeast}
use Rattle.model.specs.declared.table.Header.{Header}
use Rattle.model.proofs.Counts.{
  bit_cases,
  bit_lt,
  bit_ge,
  bit_eq,
  bit_ne,
  bit_not,
  below_or,
  sum_suc,
  sum_ext,
  sum_add,
  sum_split,
  sum_const,
  sum_zero,
}
use Rattle.model.proofs.Dues.{block_dues_below}
use Rattle.model.proofs.Balances.{sizes_below}
use Rattle.model.proofs.Ranks.{block_below_lem}
use Rattle.model.proofs.Places.{some_bins_lem, bin_within, bin_of_lem}
use Rattle.model.proofs.Refusals.{first_both, first_number, or_split}

-- THE NEW TOPS

-- a list's entries stay where others come after them
before_append : (xs ys : List ℕ) (j : ℕ) → j ≤ length xs → before (xs ++ ys) j ≡ before xs j
unfolding before
before_append xs ys zero l = refl
before_append xs ys (suc j) l = get_or-append xs ys 0 j l

-- the new tops are the old ones, and what comes after them
new_tops : (t : Table) (s : Shape) → (ys : List ℕ) × ((expanded t s).tops ≡ t.tops ++ ys)
unfolding expanded grown_tops if◌then◌otherwise◌
new_tops t s =
    ⊎_elim
    (λ l. (s.bins ∷ [], rw (lt-ltb (bins t) s.bins l)))
    (λ l. ([], rw (le-ltb (bins t) s.bins l) (sym (append-nil t.tops))))
    (below_or (bins t) s.bins)

-- so an old block keeps its bins
first_bin_kept
    : (t : Table) (s : Shape) (j : ℕ) → j ≤ length t.tops → first_bin (expanded t s).tops j ≡ first_bin t.tops j
unfolding first_bin
first_bin_kept t s j l = let (ys, e) = new_tops t s in rw e (before_append t.tops ys j l)

block_bins_kept
    : (t : Table) (s : Shape) (j : ℕ) → j < length t.tops → block_bins (expanded t s).tops j ≡ block_bins t.tops j
unfolding block_bins
block_bins_kept t s j l =
    let (ys, e) = new_tops t s in
    omega (arith, first_bin_kept t s j (omega arith), ap (λ xs. get_or xs j 0) e, get_or-append t.tops ys 0 j l)

-- a bucket of the same block and rank, where the block has the same bins, is in the same place
same_place
    : (t u : Table) (x : ℕ) → Stays t u x
    → first_bin u.tops (block_of t x) ≡ first_bin t.tops (block_of t x)
    → block_bins u.tops (block_of t x) ≡ block_bins t.tops (block_of t x)
    → (bin u x ≡ bin t x) × (position u x ≡ position t x)
unfolding bin position
same_place t u x stays f d = (rw (stays.0, stays.1, f, d), rw (stays.0, stays.1, d))

-- COUNTS

-- two tests of which just one holds of each number below n
count_either : (p q : ℕ → Bool) (n : ℕ) → ((x : ℕ) → x < n → bit (p x) + bit (q x) ≡ 1) → count p n + count q n ≡ n
unfolding count
count_either p q n one =
    omega (
      arith,
      sum_add (λ x. bit (p x)) (λ x. bit (q x)) n,
      sum_ext (λ x. bit (p x) + bit (q x)) (λ x. 1) n one,
      sum_const 1 n,
    )

-- those below b and those from b on
count_split : (p : ℕ → Bool) (b n : ℕ) → b ≤ n → count p n ≡ count p b + count (λ i. p (b + i)) (n - b)
unfolding count
count_split p b n l =
    let whole : b + (n - b) ≡ n = omega arith in
    omega (arith, ap (sum (λ x. bit (p x))) whole, sum_split (λ x. bit (p x)) b (n - b))

-- THE ROWS

-- joined lists are as long as all of them together
joined_length
    : {A : Type 0} (f : ℕ → List A) (n i : ℕ)
    → length (joined (from f i n)) + sum (λ x. length (f x)) i ≡ sum (λ x. length (f x)) (i + n)
unfolding joined from
joined_length f zero i = omega (arith, ap (sum (λ x. length (f x))) (add-zero i))
joined_length f (suc n) i =
    omega (
      arith,
      length-append (f i) (joined (from f (suc i) n)),
      joined_length f n (suc i),
      sum_suc (λ x. length (f x)) i,
      ap (sum (λ x. length (f x))) (add-suc i n ∙ sym (suc-add i n)),
    )

row_length : (t u : Table) (x : ℕ) → length (row_if t u x) ≡ bit (differs t u x)
unfolding row_if if◌then◌otherwise◌ bit
row_length t u x = ⊎_elim (λ e. rw e.0) (λ e. rw e.0) (bit_cases (differs t u x))

-- the rows are as many as the moved buckets
rows_counted : (t u : Table) → length (rows t u) ≡ moved t u
unfolding rows moved count sum
rows_counted t u =
    omega (
      arith,
      joined_length (row_if t u) t.buckets 0,
      ap (sum (λ x. length (row_if t u x))) (zero-add t.buckets),
      sum_ext (λ x. length (row_if t u x)) (λ x. bit (differs t u x)) t.buckets (λ x l. row_length t u x),
    )

-- A GROWTH

-- the table that a growth makes
abbrev after : Header → Arrays → Shape → Table
after h a s = expanded (table h a) s

-- the old blocks hold their new dues after a growth
abbrev pub OldHoldings : Type 0
OldHoldings =
    (h : Header) (a : Arrays) (s : Shape) → Formed h a → first (growth_tests (table h a) s) ≡ 0
    → (j : ℕ) → j < h.block_count → held (expanded (table h a) s) j s.buckets ≡ due_of_block s a.tops j

module _ (h : Header) (a : Arrays) (s : Shape) (formed : Formed h a) where
  -- the old blocks are those below G, and the first bin after them is n
  block_count : length (table h a).tops ≡ h.block_count
  unfolding table
  block_count = length-take-le h.block_count a.tops formed.tops_long

  bins_before : bins (table h a) ≡ before a.tops h.block_count
  unfolding bins table
  bins_before =
      let xs = take h.block_count a.tops in
      sym (before_append xs (drop h.block_count a.tops) (length xs) (omega arith))
      ∙ ap₂ before (take-append-drop h.block_count a.tops) block_count

  -- a bucket that stays keeps its place
  Place_kept
      : (x : ℕ) → x < h.buckets → Stays (table h a) (after h a s) x
      → (bin (after h a s) x ≡ bin (table h a) x) × (position (after h a s) x ≡ position (table h a) x)
  Place_kept x l stays =
      let j = block_of (table h a) x in
      let below : j < length (table h a).tops = omega (arith, block_below_lem h a formed x l, block_count) in
      same_place (table h a) (after h a s) x stays
      (first_bin_kept (table h a) s j (omega arith))
      (block_bins_kept (table h a) s j below)

  -- one of the new block is in a new bin
  place_new : (x : ℕ) → block_of (after h a s) x ≡ h.block_count → bins (table h a) ≤ bin (after h a s) x
  unfolding bins bin first_bin
  place_new x e =
      omega (
        arith,
        ap (first_bin (after h a s).tops) (e ∙ sym block_count),
        first_bin_kept (table h a) s (length (table h a).tops) (omega arith),
      )

  -- an old bucket that stays does not move, and is in an old block
  stays_bits
      : (x : ℕ) → x < h.buckets → Stays (table h a) (after h a s) x
      → (bit (differs (table h a) (after h a s) x) ≡ 0) × (bit (ltb (block_of (after h a s) x) h.block_count) ≡ 1)
  unfolding differs
  stays_bits x l stays =
      let y = bin (table h a) x in
      let z = bin (after h a s) x in (
        omega (arith, bit_not (eqb y z), bit_eq y z (sym (Place_kept x l stays).0)),
        bit_lt (block_of (after h a s) x) h.block_count (omega (arith, block_below_lem h a formed x l)),
      )

  -- one of the new block moves, and is in no old block
  new_bits
      : (x : ℕ) → x < h.buckets → block_of (after h a s) x ≡ h.block_count
      → (bit (differs (table h a) (after h a s) x) ≡ 1) × (bit (ltb (block_of (after h a s) x) h.block_count) ≡ 0)
  unfolding differs
  new_bits x l e =
      let y = bin (table h a) x in
      let z = bin (after h a s) x in (
        omega (arith, bit_not (eqb y z), bit_ne y z (λ same. omega (arith, place_new x e, bin_of_lem h a formed x l))),
        bit_ge (block_of (after h a s) x) h.block_count (omega arith),
      )

  module _ (accepted : first (growth_tests (table h a) s) ≡ 0) where
    -- rule 3 and a first block: sizes that a growth may lead from and to
    pub grows : Grows (shape (table h a)) s
    unfolding growth_tests size_tests shrinks shape
    grows =
        let third = (first_both (size_tests s) _ (omega arith) accepted).1 in
        let tests = or_split _ _ (first_number 3 _ _ (omega arith) third).0 in
        record {
          some = omega (arith, bin_within h a formed 0 0 formed.some_blocks (some_bins_lem h a formed 0 formed.some_blocks));
          buckets = ltb-false _ _ tests.0;
          bins = ltb-false _ _ tests.1;
        }

    -- after the growth the old blocks hold T
    old_held : OldHoldings → held_below (block_of (after h a s)) s.buckets h.block_count ≡ most (shape (table h a)) s
    unfolding most shape size held
    old_held dues =
        sym (sizes_below (block_of (after h a s)) s.buckets h.block_count)
        ∙ sum_ext _ _ h.block_count (dues h a s formed accepted)
        ∙ block_dues_below s a.tops h.block_count formed.tops_rise
        ∙ ap (due_below s) (sym bins_before)

    module _ (stays : ExpandStays) where
      -- an old bucket stays, or goes to the new block
      stays_or_new
          : (x : ℕ) → x < h.buckets → Stays (table h a) (after h a s) x ⊎ (block_of (after h a s) x ≡ h.block_count)
      unfolding shape table
      stays_or_new x l =
          ⊎_elim
          (λ none. inl (none x l))
          (λ each. ⊎_elim (λ e. inl e.1) (λ e. inr e) (each.1 x (omega (arith, grows))))
          (stays h a s formed accepted)

      -- so the moved buckets and the old ones in old blocks are B
      moved_and_old
          : moved (table h a) (after h a s) + held_below (block_of (after h a s)) h.buckets h.block_count ≡ h.buckets
      unfolding moved held_below table
      moved_and_old =
          count_either (differs (table h a) (after h a s)) (λ x. ltb (block_of (after h a s) x) h.block_count) h.buckets
          (λ x l.
          ⊎_elim
          (λ e. omega (arith, stays_bits x l e))
          (λ e. omega (arith, new_bits x l e))
          (stays_or_new x l))

      -- and either none moves, or no new bucket is in an old block
      moved_count_lem : OldHoldings → moved (table h a) (after h a s) ≡ least (shape (table h a)) s
      unfolding least moved count held_below shape table
      moved_count_lem dues =
          let p : ℕ → Bool = λ x. ltb (block_of (after h a s) x) h.block_count in
          let kept = moved_and_old in
          let split = count_split p h.buckets s.buckets (omega (arith, grows)) in
          let most = old_held dues in
          ⊎_elim
          (λ none.
          omega
          (arith, sum_zero (λ x. bit (differs (table h a) (after h a s) x)) h.buckets (λ x l. (stays_bits x l (none x l)).0)))
          (λ each.
          omega (
            arith,
            sum_zero (λ i. bit (p (h.buckets + i))) (s.buckets - h.buckets)
                (λ i l.
                ⊎_elim
                (λ e. absurd (omega arith))
                (λ e. bit_ge (block_of (after h a s) (h.buckets + i)) h.block_count (omega arith))
                (each.1 (h.buckets + i) (omega arith))),
          ))
          (stays h a s formed accepted)

-- a bucket that stays keeps its place, and the others go to the new block's bins
pub expand_places_lem : ExpandStays → ExpandPlaces
expand_places_lem stays h a s formed accepted x l =
    ⊎_elim
    (λ e. inl (Place_kept h a s formed x l e))
    (λ e. inr (place_new h a s formed x e, e))
    (stays_or_new h a s formed accepted stays x l)

-- the moved count, and the rows
pub moved_least_lem : ExpandStays → OldHoldings → MovedLeast
moved_least_lem stays dues h a s formed accepted =
    (moved_count_lem h a s formed accepted stays dues, rows_counted (table h a) (expanded (table h a) s))
