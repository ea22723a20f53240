-- Laws of a growth over a lent table, one interval or block at a time: the walk over the old intervals, the pieces of the
-- blocks, and the intervals and moves of the two cases. Assumes nothing.
use Prim.Native.Nat.{ℕ, zero, suc, ◌+◌, ◌-◌, ◌≤◌, ◌<◌}
use mathlib.Core.Path.{◌≡◌, refl, sym, ◌∙◌, ap, subst}
use mathlib.Core.Logic.{⊎_elim}
use mathlib.Core.Bool.{true, false}
use mathlib.Core.List.{List, [], ◌∷◌, ◌++◌}
use native.Mathlib.Nat.{sub-zero, zero-add}
use native.Mathlib.Omega.{arith}
use lib.ListN.{length, get_or, length-append}
use Rattle.model.specs.Basics.{from, before}
use Rattle.model.specs.Table.{Shape, Interval, interval, Table, Arrays, table}
use Rattle.model.specs.Place.{block_of}
use Rattle.model.specs.Refusal.{first}
use Rattle.model.specs.Sound.{Formed}
use Rattle.model.specs.Expansion.{
  grown_tops,
  has,
  due_after,
  some_fall,
  last_block,
  lengthened,
  gain,
  length_to,
  pieces,
  filled,
  parts,
  plan_for,
  parted,
  moved_after,
  extended,
  drained,
  expanded,
  moved,
}
use Rattle.model.specs.Calls.{growth_tests}
use Rattle.model.specs.declared.plan.Plan.{Plan}
use Rattle.model.specs.declared.table.Header.{Header}
use Rattle.model.proofs.Intervals.{before_mono}
use Rattle.model.proofs.Tables.{lent_interval, length_from}
use Rattle.model.proofs.Rules.{before_next}
use Rattle.model.proofs.Listed.{Tells, equal_or, size_most}
use Rattle.model.proofs.Wells.{held_size, adjustment_most, Well, formed_well}
use Rattle.model.proofs.Growths.{Accepted, accepted, none_falls}
use Rattle.model.proofs.Filled.{last_of, pieces_last, pieces_none, pieces_one, filled_block, filled_grown, filled_least}
use Rattle.model.proofs.Drained.{drained_least}
use Rattle.model.proofs.Expanded.{expanded_drained, expanded_filled}
use Rattle.model.proofs.Walks.{walked, walked_more, plan_bounds, tells_bounds, last_from, lengthened_from}
use Rattle.model.proofs.Kept.{moved_is_least}

-- THE INTERVALS AHEAD

module _ (h : Header) (a : Arrays) where
  -- the intervals of a lent table from place i on
  unfoldable pub ahead : ℕ → List Interval
  ahead i = from (lent_interval a) i (h.interval_count - i)

  -- all of them, one and those behind it, and none
  pub ahead_all : ahead 0 ≡ (table h a).intervals
  unfolding ahead table
  ahead_all = ap (from (lent_interval a) 0) (sub-zero h.interval_count)

  pub ahead_next : (i : ℕ) → i < h.interval_count → ahead i ≡ lent_interval a i ∷ ahead (i + 1)
  unfolding ahead from
  ahead_next i l =
      let one : h.interval_count - i ≡ suc (h.interval_count - (i + 1)) = omega arith in
      let next : suc i ≡ i + 1 = omega arith in
      ap (from (lent_interval a) i) one
      ∙ ap (λ k. lent_interval a i ∷ from (lent_interval a) k (h.interval_count - (i + 1))) next

  pub ahead_none : (i : ℕ) → h.interval_count ≤ i → ahead i ≡ []
  unfolding ahead from
  ahead_none i l =
      let none : h.interval_count - i ≡ 0 = omega arith in
      ap (from (lent_interval a) i) none

  -- the last interval's block, and the intervals with the last one made longer
  module _ (some : 1 ≤ h.interval_count) where
    last_one : h.interval_count ≡ suc (h.interval_count - 1)
    last_one = omega arith

    pub last_lent : last_block (table h a).intervals ≡ get_or a.blocks (h.interval_count - 1) 0
    unfolding table
    last_lent =
        ap (λ k. last_block (from (lent_interval a) 0 k)) last_one
        ∙ last_from (lent_interval a) 0 (h.interval_count - 1)
        ∙ ap (λ k. get_or a.blocks k 0) (zero-add (h.interval_count - 1))

    pub lengthened_lent
        : (m : ℕ)
        → lengthened m (table h a).intervals
        ≡ from (lent_interval a) 0 (h.interval_count - 1)
        ++ (interval
        (get_or a.ends (h.interval_count - 1) 0 + m)
        (get_or a.blocks (h.interval_count - 1) 0)
        (get_or a.adjustments (h.interval_count - 1) 0)
        ∷ [])
    unfolding table
    lengthened_lent m =
        let n = h.interval_count - 1 in
        ap (λ k. lengthened m (from (lent_interval a) 0 k)) last_one
        ∙ lengthened_from (lent_interval a) m 0 n
        ∙ ap
        (λ k.
        from (lent_interval a) 0 n
        ++ (interval (get_or a.ends k 0 + m) (get_or a.blocks k 0) (get_or a.adjustments k 0) ∷ []))
        (zero-add n)

-- an interval ends at B or before, and the last one at B
module _ (h : Header) (a : Arrays) (formed : Formed h a) where
  pub end_within : (i : ℕ) → i < h.interval_count → get_or a.ends i 0 ≤ h.buckets
  end_within i l =
      omega (
        arith,
        before_next a.ends i,
        before_mono a.ends h.interval_count formed.ends_rise h.interval_count (i + 1) (omega arith) (omega arith),
        formed.last_end,
      )

  pub end_last : (i : ℕ) → i + 1 ≡ h.interval_count → get_or a.ends i 0 ≡ h.buckets
  end_last i n = sym (before_next a.ends i) ∙ ap (before a.ends) n ∙ formed.last_end

-- THE WALK

module _ (h : Header) (a : Arrays) (s : Shape) where
  abbrev t : Table
  t = table h a

  -- the walk has come to interval i, which starts at `start`, and w buckets have moved before it
  pub record Walk (i start w : ℕ) : Type 0 where
    pub starts : start ≡ before a.ends i
    pub below : w ≤ start
    pub after : moved_after t s start (ahead h a i) w ≡ moved_after t s 0 t.intervals 0

  pub walk_start : Walk 0 0 0
  unfolding before
  walk_start = record { starts = refl; below = omega arith; after = ap (λ is. moved_after t s 0 is 0) (ahead_all h a) }

  module _ (i start w : ℕ) (l : i < h.interval_count) (p : Plan) (e : p ≡ plan_for t s start (lent_interval a i) w) where
    -- one interval further
    pub walk_next : Formed h a → Walk i start w → Walk (i + 1) (get_or a.ends i 0) p.moved
    unfolding moved_after plan_for
    walk_next formed k =
        let bounds =
        plan_bounds (due_after t s (get_or a.blocks i 0)) start (lent_interval a i) w
        (omega (arith, k.starts, formed.ends_rise i l))
        (omega (arith, k.starts, adjustment_most h a formed i l))
        k.below
        in
        record {
          starts = sym (before_next a.ends i);
          below = omega (arith, bounds.1, ap (λ (q : Plan). q.moved) e);
          after =
              ap (moved_after t s (get_or a.ends i 0) (ahead h a (i + 1))) (ap (λ (q : Plan). q.moved) e)
              ∙ ap (λ is. moved_after t s start is w) (sym (ahead_next h a i l))
              ∙ k.after;
        }

    -- what is made of it comes before the rest, if it is not the last one,
    pub walked_next
        : i + 1 < h.interval_count
        → walked t s start (ahead h a i) w
        ≡ parts p.action (lent_interval a i) (length t.tops) [] ++ walked t s (get_or a.ends i 0) (ahead h a (i + 1)) p.moved
    walked_next n =
        let more = ahead_next h a (i + 1) n in
        ap (λ is. walked t s start is w) (ahead_next h a i l ∙ ap (λ is. lent_interval a i ∷ is) more)
        ∙ walked_more t s start (lent_interval a i) (lent_interval a (i + 1)) (ahead h a (i + 1 + 1)) w
        ∙ ap
        (λ (q : Plan).
        parts q.action (lent_interval a i) (length t.tops) []
        ++ walked t s (get_or a.ends i 0) (lent_interval a (i + 1) ∷ ahead h a (i + 1 + 1)) q.moved)
        (sym e)
        ∙ ap
        (λ is. parts p.action (lent_interval a i) (length t.tops) [] ++ walked t s (get_or a.ends i 0) is p.moved)
        (sym more)

    -- and if it is, with the new buckets
    pub walked_last
        : i + 1 ≡ h.interval_count
        → walked t s start (ahead h a i) w
        ≡ extended (length t.tops) h.buckets (s.buckets - h.buckets) p.moved
        (parts p.action (lent_interval a i) (length t.tops) [])
    unfolding walked moved_after parted table
    walked_last n =
        ap (λ is. walked t s start is w)
        (ahead_next h a i l ∙ ap (λ is. lent_interval a i ∷ is) (ahead_none h a (i + 1) (omega arith)))
        ∙ ap
        (λ (q : Plan).
        extended (length t.tops) h.buckets (s.buckets - h.buckets) q.moved
        (parts q.action (lent_interval a i) (length t.tops) []))
        (sym e)

  -- past the last interval the buckets moved in all are known
  pub walk_end : (i start w : ℕ) → h.interval_count ≤ i → Walk i start w → w ≡ moved_after t s 0 t.intervals 0
  unfolding moved_after
  walk_end i start w l k = ap (λ is. moved_after t s start is w) (sym (ahead_none h a i l)) ∙ k.after

  -- the walk makes the drained intervals
  pub walked_drained : drained t s ≡ walked t s 0 (ahead h a 0) 0
  unfolding drained walked
  walked_drained = ap (λ is. walked t s 0 is 0) (sym (ahead_all h a))

-- THE PIECES

module _ (t : Table) (s : Shape) where
  -- their number does not depend on where they begin
  pub pieces_length : (n j c d : ℕ) → length (pieces t s c j n) ≡ length (pieces t s d j n)
  unfolding pieces
  pieces_length zero j c d = refl
  pieces_length (suc n) j c d =
      ⊎_elim
      (λ e.
      ap length (pieces_last t s c j n e) ∙ pieces_length n (suc j) c d ∙ sym (ap length (pieces_last t s d j n e)))
      (λ e.
      ⊎_elim
      (λ z.
      ap length (pieces_none t s c j n e z)
      ∙ pieces_length n (suc j) c d
      ∙ sym (ap length (pieces_none t s d j n e z)))
      (λ z.
      ap length (pieces_one t s c j n e z)
      ∙ ap suc (pieces_length n (suc j) (c + gain t s j) (d + gain t s j))
      ∙ sym (ap length (pieces_one t s d j n e z)))
      (equal_or (gain t s j) 0))
      (equal_or j (last_of t))

  -- no block has more than all buckets
  pub has_most : (j : ℕ) → has t j ≤ t.buckets
  unfolding has
  has_most j = omega (arith, held_size t j t.buckets, size_most (block_of t) t.buckets j)

  -- an interval of the filled list ends at B' or before
  pub Filled_within
      : Well t → Accepted t s → ((j : ℕ) → has t j ≤ due_after t s j)
      → (is : List Interval) (i : Interval) (js : List Interval) → filled t s ≡ is ++ (i ∷ js) → i.end ≤ s.buckets
  Filled_within w a up is i js e =
      (tells_bounds (filled_block t s) (length (grown_tops t s)) 0 is i js s.buckets
      (subst (λ l. Tells (filled_block t s) (length (grown_tops t s)) 0 l s.buckets) e (filled_grown t s w a up).tells)
      ).0

-- THE TWO CASES

module _ (h : Header) (a : Arrays) (s : Shape) (formed : Formed h a) where
  -- the lengthened intervals are as many as the old ones
  lengthened_count : (m : ℕ) → length (lengthened m (table h a).intervals) ≡ h.interval_count
  lengthened_count m =
      let some = formed.some_intervals in
      omega (
        arith,
        simp length-append at (ap length (lengthened_lent h a some m)),
        length_from (lent_interval a) 0 (h.interval_count - 1),
      )

  pub filled_length
      : length (filled (table h a) s)
      ≡ h.interval_count + length (pieces (table h a) s (length_to (table h a) s) 0 (length (grown_tops (table h a) s)))
  unfolding filled
  filled_length =
      omega (
        arith,
        length-append (lengthened (gain (table h a) s (last_of (table h a))) (table h a).intervals)
            (pieces (table h a) s (length_to (table h a) s) 0 (length (grown_tops (table h a) s))),
        lengthened_count (gain (table h a) s (last_of (table h a))),
      )

  module _ (asked : first (growth_tests (table h a) s) ≡ 0) where
    -- some old block is due less
    pub drained_count : some_fall (table h a) s ≡ true → length (expanded (table h a) s).intervals ≡ length (drained (table h a) s)
    drained_count e = ap (λ u. length u.intervals) (expanded_drained (table h a) s e)

    pub drained_moves
        : some_fall (table h a) s ≡ true
        → moved_after (table h a) s 0 (table h a).intervals 0 ≡ moved (table h a) (expanded (table h a) s)
    drained_moves e =
        drained_least (table h a) s (formed_well h a formed) (accepted (table h a) s asked) e
        ∙ sym (moved_is_least h a s formed asked).0

    -- none is
    pub filled_count
        : some_fall (table h a) s ≡ false
        → length (expanded (table h a) s).intervals
        ≡ h.interval_count + length (pieces (table h a) s (length_to (table h a) s) 0 (length (grown_tops (table h a) s)))
    filled_count e = ap (λ u. length u.intervals) (expanded_filled (table h a) s e) ∙ filled_length

    pub filled_moves : some_fall (table h a) s ≡ false → 0 ≡ moved (table h a) (expanded (table h a) s)
    filled_moves e =
        let w = formed_well h a formed in
        let q = accepted (table h a) s asked in
        sym ((moved_is_least h a s formed asked).0 ∙ filled_least (table h a) s w q (none_falls (table h a) s w q e))
