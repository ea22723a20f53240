-- How many intervals a growth makes at most: one more for each block after it. Assumes nothing.
use Prim.Native.Nat.{ℕ, zero, suc, ◌+◌, ◌-◌, ◌≤◌, ◌<◌}
use mathlib.Core.Path.{◌≡◌, refl, sym, ◌∙◌, ap}
use mathlib.Core.Bool.{false}
use mathlib.Core.Logic.{⊎_elim}
use mathlib.Core.List.{List, [], ◌∷◌}
use native.Mathlib.Nat.{le_refl}
use native.Mathlib.Omega.{arith}
use lib.Dec.{ltb, eqb}
use lib.ListN.{length, length-append}
use borrow.Author.Tests.{eq-eqb, ne_eqb, le-ltb}
use Rattle.model.specs.Basics.{if◌then◌otherwise◌, bit, sum}
use Rattle.model.specs.Limits.{max_intervals}
use Rattle.model.specs.Table.{Shape, Interval, interval, Table, Arrays, table}
use Rattle.model.specs.Place.{block_of, size}
use Rattle.model.specs.Refusal.{first, intervals_full}
use Rattle.model.specs.Sound.{Formed}
use Rattle.model.specs.Calls.{growth_tests}
use Rattle.model.specs.Expansion.{
  grown_tops,
  due_after,
  some_fall,
  last_block,
  lengthened,
  gain,
  length_to,
  pieces,
  filled,
  parts,
  plan_for,
  parted,
  moved_after,
  extended,
  drained,
  expanded,
}
use Rattle.model.specs.declared.table.Header.{Header}
use Rattle.model.proofs.Counts.{bit_lt, bit_ge, bit_eq, bit_ne, bit_le, bit_cases, below_or, sum_le, sum_add, sum_upper, sum_point}
use Rattle.model.proofs.Listed.{equal_or, size_own, size_other, Told, Tells}
use Rattle.model.proofs.Wells.{Well, formed_well, tops_length, intervals_length}
use Rattle.model.proofs.Growths.{accepted, length_more, some_more}
use Rattle.model.proofs.Drained.{plan_stay, plan_move, plan_split}
use Rattle.model.proofs.Filled.{last_of, pieces_last, pieces_none, pieces_one}
use Rattle.model.proofs.Expanded.{expanded_filled}
use Rattle.model.proofs.Steps.{drained_count, filled_length}

-- NEW BUCKETS

-- a last interval made longer is no new one
lengthened_count : (m : ℕ) (is : List Interval) → length (lengthened m is) ≡ length is
unfolding lengthened
lengthened_count m [] = refl
lengthened_count m (i ∷ []) = refl
lengthened_count m (i ∷ (j ∷ is)) = ap suc (lengthened_count m (j ∷ is))

-- so the new buckets of a growth that drains make one at most
extended_few : (g b m w : ℕ) (is : List Interval) → length (extended g b m w is) ≤ length is + 1
unfolding extended if◌then◌otherwise◌
extended_few g b m w is =
    ⊎_elim
    (λ l. rw (eq-eqb (last_block is) g l) (omega (arith, lengthened_count m is)))
    (λ l.
    ⊎_elim
    (λ z. rw (ne_eqb (last_block is) g l, eq-eqb m 0 z) (omega arith))
    (λ z.
    rw (ne_eqb (last_block is) g l, ne_eqb m 0 z)
    (omega (arith, length-append is (interval (b + m) g (b - w) ∷ []))))
    (equal_or m 0))
    (equal_or (last_block is) g)

-- INTERVALS THAT SPLIT

module _ (t : Table) (s : Shape) where
  abbrev g : ℕ
  g = length t.tops

  -- 1 where block j has less than its due before bucket x, else 0; and how many blocks have less
  unfoldable short : ℕ → ℕ → ℕ
  short x j = bit (ltb (size (block_of t) x j) (due_after t s j))

  unfoldable lacking : ℕ → ℕ
  lacking x = sum (short x) g

  module _ (start : ℕ) (i : Interval) (h : Told (block_of t) g start i) where
    -- behind an interval no block has less than before it
    size_rises : (j : ℕ) → size (block_of t) start j ≤ size (block_of t) i.end j
    size_rises j =
        let some = h.some in
        ⊎_elim
        (λ e. omega (arith, size_own (block_of t) j start i.end (omega arith) (λ x c d. h.own x c d ∙ e)))
        (λ n. omega (arith, size_other (block_of t) j start i.end (omega arith) (λ x c d e. n (sym (h.own x c d) ∙ e))))
        (equal_or i.block j)

    short_falls : (j : ℕ) → short i.end j ≤ short start j
    unfolding short
    short_falls j =
        let more = size_rises j in
        let due = due_after t s j in
        ⊎_elim
        (λ l. omega (arith, bit_lt (size (block_of t) i.end j) due l, bit_lt (size (block_of t) start j) due (omega arith)))
        (λ l. omega (arith, bit_ge (size (block_of t) i.end j) due l))
        (below_or (size (block_of t) i.end j) due)

    lacking_falls : lacking i.end ≤ lacking start
    unfolding lacking
    lacking_falls = sum_le (short i.end) (short start) g (λ j l. short_falls j)

    -- and behind one that splits its block has its due, which it did not have before it
    lacking_less
        : due_after t s i.block < i.end - i.adjustment → start - i.adjustment < due_after t s i.block
        → lacking i.end + 1 ≤ lacking start
    unfolding lacking short
    lacking_less l k =
        let some = h.some in
        let b = i.block in
        let own = size_own (block_of t) b start i.end (omega arith) h.own in
        let due = due_after t s b in
        let ends = bit_ge (size (block_of t) i.end b) due (omega (arith, h.adjusted)) in
        let starts = bit_lt (size (block_of t) start b) due (omega (arith, h.adjusted)) in
        omega (
          arith,
          sum_add (short i.end) (λ j. bit (eqb b j)) g,
          sum_point b g,
          bit_lt b g h.below,
          sum_le (λ j. short i.end j + bit (eqb b j)) (short start) g (λ j q.
              ⊎_elim
              (λ e.
              let at : short i.end b + 1 ≤ short start b = omega arith in
              omega (arith, bit_eq b j e, ap (short i.end) e, ap (short start) e))
              (λ n. omega (arith, bit_ne b j n, short_falls j))
              (equal_or b j)),
        )

  -- so one interval a block splits at most
  parted_few
      : (start : ℕ) (is : List Interval) (w e : ℕ) → Tells (block_of t) g start is e
      → length (parted t s start is w) ≤ length is + lacking start
  unfolding parted plan_for parts
  parted_few start [] w e h = omega arith
  parted_few start (i ∷ is) w e h =
      let due = due_after t s i.block in
      let cut = due + i.adjustment in
      let less = lacking_falls start i h.0 in
      ⊎_elim
      (λ l.
      ⊎_elim
      (λ k.
      rw (plan_split due start i w l k)
      (omega (arith, parted_few i.end is (w + (i.end - cut)) e h.1, lacking_less start i h.0 l k)))
      (λ k. rw (plan_move due start i w l k) (omega (arith, parted_few i.end is (w + (i.end - start)) e h.1)))
      (below_or (start - i.adjustment) due))
      (λ l. rw (plan_stay due start i w l) (omega (arith, parted_few i.end is w e h.1)))
      (below_or due (i.end - i.adjustment))

  drained_few : Well t → length (drained t s) ≤ length t.intervals + length t.tops + 1
  unfolding drained lacking short
  drained_few w =
      omega (
        arith,
        extended_few g t.buckets (s.buckets - t.buckets) (moved_after t s 0 t.intervals 0) (parted t s 0 t.intervals 0),
        parted_few 0 t.intervals 0 t.buckets w.tells,
        sum_upper (short 0) g 1 (λ j l. bit_le _),
      )

  -- a block has one piece at most
  pieces_few : (n j c : ℕ) → length (pieces t s c j n) ≤ n
  unfolding pieces
  pieces_few zero j c = le_refl 0
  pieces_few (suc n) j c =
      ⊎_elim
      (λ e. rw (pieces_last t s c j n e) (omega (arith, pieces_few n (suc j) c)))
      (λ e.
      ⊎_elim
      (λ z. rw (pieces_none t s c j n e z) (omega (arith, pieces_few n (suc j) c)))
      (λ z. rw (pieces_one t s c j n e z) (omega (arith, pieces_few n (suc j) (c + gain t s j))))
      (equal_or (gain t s j) 0))
      (equal_or j (last_of t))

-- THE TWO CASES

-- where some old block is due less
pub drained_most
    : (h : Header) (a : Arrays) (s : Shape) → Formed h a
    → length (drained (table h a) s) ≤ h.interval_count + h.block_count + 1
drained_most h a s formed =
    omega (arith, drained_few (table h a) s (formed_well h a formed), intervals_length h a formed, tops_length h a formed)

-- where none is
pub filled_most
    : (h : Header) (a : Arrays) (s : Shape) → Formed h a
    → length (filled (table h a) s) ≤ h.interval_count + length (grown_tops (table h a) s)
filled_most h a s formed =
    let t = table h a in
    omega (arith, filled_length h a s formed, pieces_few t s (length (grown_tops t s)) 0 (length_to t s))

-- in either case
pub expanded_few
    : (h : Header) (a : Arrays) (s : Shape) → Formed h a → first (growth_tests (table h a) s) ≡ 0
    → length (expanded (table h a) s).intervals ≤ h.interval_count + length (grown_tops (table h a) s)
expanded_few h a s formed asked =
    let t = table h a in
    let w = formed_well h a formed in
    let q = accepted t s asked in
    ⊎_elim
    (λ f.
    omega (
      arith,
      drained_count h a s formed asked f.0,
      drained_most h a s formed,
      tops_length h a formed,
      length_more t s w q (some_more t s w q f.0),
    ))
    (λ f.
    omega (arith, ap (λ (u : Table). length u.intervals) (expanded_filled t s f.0), filled_most h a s formed))
    (bit_cases (some_fall t s))

-- so a table of few intervals and blocks needs no count
pub few_fit
    : (h : Header) (a : Arrays) (s : Shape) → Formed h a → first (growth_tests (table h a) s) ≡ 0
    → h.interval_count + length (grown_tops (table h a) s) ≤ max_intervals → intervals_full (table h a) s ≡ false
unfolding intervals_full
few_fit h a s formed asked few =
    le-ltb max_intervals (length (expanded (table h a) s).intervals) (omega (arith, expanded_few h a s formed asked))
