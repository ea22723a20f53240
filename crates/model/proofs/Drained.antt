-- A growth by which some old block is due less than it has: what it is due stays, in the same places, and all the rest goes to
-- the new block. Assumes nothing.
use Prim.Native.Nat.{ℕ, zero, suc, ◌+◌, ◌-◌, min, ◌≤◌, ◌<◌}
use mathlib.Core.Path.{◌≡◌, refl, sym, ◌∙◌, ap, subst}
use mathlib.Core.Logic.{⊎_elim}
use mathlib.Core.Bool.{true}
use mathlib.Core.List.{List, [], ◌∷◌}
use native.Mathlib.Omega.{arith}
use lib.Dec.{ltb}
use lib.ListN.{length}
use borrow.Author.Tests.{eq-eqb, ne_eqb, lt-ltb, le-ltb, le-leb, lt-leb}
use Rattle.model.specs.Basics.{if◌then◌otherwise◌, ◌and◌, sum}
use Rattle.model.specs.Table.{Shape, Interval, interval, Table, shape}
use Rattle.model.specs.Place.{block_of, size}
use Rattle.model.specs.Expansion.{
  has,
  due_after,
  some_fall,
  last_block,
  plan,
  parts,
  plan_for,
  parted,
  moved_after,
  extended,
  drained,
}
use Rattle.model.specs.Balance.{least}
use Rattle.model.specs.declared.plan.Action.TheVariants.{Stay, Move, Split}
use Rattle.model.proofs.Counts.{below_or, sum_suc, sum_ext}
use Rattle.model.proofs.Listed.{
  Told,
  Tells,
  equal_or,
  positive,
  up_to,
  size_zero,
  size_next,
  size_skip,
  size_most,
  size_own,
  size_other,
  sizes_all,
  told_placed,
  tells_le,
  tells_append,
  tells_lengthened,
  tells_placed,
}
use Rattle.model.proofs.Wells.{held_size, Well}
use Rattle.model.proofs.Growths.{Accepted, length_more, new_dues, old_most, some_falls, some_more, Grown}

-- THE MAP

-- the block of bucket x after the growth: an old bucket stays if its rank is below what its block is due
unfoldable pub drained_block : Table → Shape → ℕ → ℕ
drained_block t s x =
    if ltb x t.buckets and ltb (size (block_of t) x (block_of t x)) (due_after t s (block_of t x)) then block_of t x
    otherwise length t.tops

module _ (t : Table) (s : Shape) where
  -- a bucket of a rank below its block's due stays, one of another rank moves, and a new one is of the new block
  pub drained_stays
      : (x : ℕ) → x < t.buckets → size (block_of t) x (block_of t x) < due_after t s (block_of t x)
      → drained_block t s x ≡ block_of t x
  unfolding drained_block if◌then◌otherwise◌ ◌and◌
  drained_stays x l k = rw (lt-ltb x t.buckets l, lt-ltb _ _ k)

  pub drained_moves
      : (x : ℕ) → due_after t s (block_of t x) ≤ size (block_of t) x (block_of t x) → drained_block t s x ≡ length t.tops
  unfolding drained_block if◌then◌otherwise◌ ◌and◌
  drained_moves x k =
      ⊎_elim
      (λ l. rw (lt-ltb x t.buckets l, le-ltb _ _ k))
      (λ l. rw (le-ltb x t.buckets l))
      (below_or x t.buckets)

  pub drained_new : (x : ℕ) → t.buckets ≤ x → drained_block t s x ≡ length t.tops
  unfolding drained_block if◌then◌otherwise◌ ◌and◌
  drained_new x l = rw (le-ltb x t.buckets l)

  -- of an old block, what it has stays up to its due
  pub drained_kept
      : (j m : ℕ) → j < length t.tops → m ≤ t.buckets
      → size (drained_block t s) m j ≡ min (size (block_of t) m j) (due_after t s j)
  drained_kept j zero l k = omega (arith, size_zero (drained_block t s) j, size_zero (block_of t) j)
  drained_kept j (suc m) l k =
      let ih = drained_kept j m l (omega arith) in
      ⊎_elim
      (λ e.
      let more = size_next (block_of t) m j e in
      let here : size (block_of t) m (block_of t m) ≡ size (block_of t) m j = ap (size (block_of t) m) e in
      let due : due_after t s (block_of t m) ≡ due_after t s j = ap (due_after t s) e in
      ⊎_elim
      (λ b. omega (arith, size_next (drained_block t s) m j (drained_stays m k b ∙ e)))
      (λ b. omega (arith, size_skip (drained_block t s) m j (λ f. omega (arith, drained_moves m b))))
      (below_or (size (block_of t) m (block_of t m)) (due_after t s (block_of t m))))
      (λ e.
      let same = size_skip (block_of t) m j e in
      ⊎_elim
      (λ b. omega (arith, size_skip (drained_block t s) m j (λ f. e (sym (drained_stays m k b) ∙ f))))
      (λ b. omega (arith, size_skip (drained_block t s) m j (λ f. omega (arith, drained_moves m b))))
      (below_or (size (block_of t) m (block_of t m)) (due_after t s (block_of t m))))
      (equal_or (block_of t m) j)

-- THE PLAN FOR AN INTERVAL

module _ (due start : ℕ) (i : Interval) (w : ℕ) where
  -- it stays if all its ranks are below the due, moves if none is, and splits at the due otherwise
  pub plan_stay : i.end - i.adjustment ≤ due → plan due start i w ≡ record { action = Stay; moved = w }
  unfolding plan if◌then◌otherwise◌
  plan_stay l = rw (le-leb (i.end - i.adjustment) due l)

  pub plan_move
      : due < i.end - i.adjustment → due ≤ start - i.adjustment
      → plan due start i w ≡ record { action = Move (start - w); moved = w + (i.end - start) }
  unfolding plan if◌then◌otherwise◌
  plan_move l k = rw (lt-leb (i.end - i.adjustment) due l, le-leb due (start - i.adjustment) k)

  pub plan_split
      : due < i.end - i.adjustment → start - i.adjustment < due
      → plan due start i w
      ≡ record {
        action = Split (due + i.adjustment) (due + i.adjustment - w);
        moved = w + (i.end - (due + i.adjustment));
      }
  unfolding plan if◌then◌otherwise◌
  plan_split l k = rw (lt-leb (i.end - i.adjustment) due l, lt-leb due (start - i.adjustment) k)

-- THE PARTS OF AN OLD INTERVAL

module _ (t : Table) (s : Shape) (start : ℕ) (i : Interval) where
  module _ (h : Told (block_of t) (length t.tops) start i) (within : i.end ≤ t.buckets) where
    -- the buckets whose rank is below the block's due stay, and the others move
    part_stays
        : (x : ℕ) → start ≤ x → x < i.end → x < due_after t s i.block + i.adjustment → drained_block t s x ≡ i.block
    part_stays x l k b =
        let p = told_placed (block_of t) (length t.tops) start x i h l k in
        drained_stays t s x (omega arith) (omega (arith, p.whole, ap (due_after t s) p.block)) ∙ sym p.block

    part_moves
        : (x : ℕ) → start ≤ x → x < i.end → due_after t s i.block + i.adjustment ≤ x
        → drained_block t s x ≡ length t.tops
    part_moves x l k b =
        let p = told_placed (block_of t) (length t.tops) start x i h l k in
        drained_moves t s x (omega (arith, p.whole, ap (due_after t s) p.block))

    -- the part up to bucket e that stays, with its old adjustment
    stay_told
        : (e : ℕ) → start < e → e ≤ i.end → e ≤ due_after t s i.block + i.adjustment
        → Told (drained_block t s) (suc (length t.tops)) start (interval e i.block i.adjustment)
    stay_told e l k b =
        record {
          some = l;
          own = λ x c d. part_stays x c (omega arith) (omega arith);
          below = omega (arith, h.below);
          adjusted = omega (arith, h.adjusted, drained_kept t s i.block start h.below (omega arith));
        }

    -- it adds nothing to what has moved
    stay_moved
        : (e : ℕ) → start ≤ e → e ≤ i.end → e ≤ due_after t s i.block + i.adjustment
        → size (drained_block t s) e (length t.tops) ≡ size (drained_block t s) start (length t.tops)
    stay_moved e l k b =
        size_other (drained_block t s) (length t.tops) start e l
        (λ x c d f. omega (arith, part_stays x c (omega arith) (omega arith), h.below))

    -- the part from bucket c on that moves, whose ranks go on from what has moved
    move_told
        : (c w : ℕ) → start ≤ c → c < i.end → due_after t s i.block + i.adjustment ≤ c
        → w ≡ size (drained_block t s) c (length t.tops)
        → Told (drained_block t s) (suc (length t.tops)) c (interval i.end (length t.tops) (c - w))
    move_told c w l k b q =
        record {
          some = k;
          own = λ x d e. part_moves x (omega arith) e (omega arith);
          below = omega arith;
          adjusted = omega (arith, size_most (drained_block t s) c (length t.tops));
        }

    -- it adds its buckets to them
    move_moved
        : (c : ℕ) → start ≤ c → c ≤ i.end → due_after t s i.block + i.adjustment ≤ c
        → size (drained_block t s) i.end (length t.tops)
        ≡ size (drained_block t s) c (length t.tops) + (i.end - c)
    move_moved c l k b =
        size_own (drained_block t s) (length t.tops) c i.end k (λ x d e. part_moves x (omega arith) e (omega arith))

-- the parts of all of them from `start` on, where w buckets have moved
parted_tell
    : (t : Table) (s : Shape) (start : ℕ) (is : List Interval) (w : ℕ)
    → Tells (block_of t) (length t.tops) start is t.buckets → w ≡ size (drained_block t s) start (length t.tops)
    → Tells (drained_block t s) (suc (length t.tops)) start (parted t s start is w) t.buckets
    × (moved_after t s start is w ≡ size (drained_block t s) t.buckets (length t.tops))
unfolding parted moved_after plan_for parts
parted_tell t s start [] w h q = (h, q ∙ ap (λ m. size (drained_block t s) m (length t.tops)) h)
parted_tell t s start (i ∷ is) w h q =
    let due = due_after t s i.block in
    let cut = due + i.adjustment in
    let some = h.0.some in
    let adjusted = h.0.adjusted in
    let within = tells_le (block_of t) (length t.tops) i.end is t.buckets h.1 in
    ⊎_elim
    (λ l.
    ⊎_elim
    (λ k.
    let moved = q ∙ sym (stay_moved t s start i h.0 within cut (omega arith) (omega arith) (omega arith)) in
    let left = stay_told t s start i h.0 within cut (omega arith) (omega arith) (omega arith) in
    let right = move_told t s start i h.0 within cut w (omega arith) (omega arith) (omega arith) moved in
    let past = move_moved t s start i h.0 within cut (omega arith) (omega arith) (omega arith) in
    let (tells, all) = parted_tell t s i.end is (w + (i.end - cut)) h.1 (omega arith) in
    rw (plan_split due start i w l k) ((left, (right, tells)), all))
    (λ k.
    let right = move_told t s start i h.0 within start w (omega arith) some (omega arith) q in
    let past = move_moved t s start i h.0 within start (omega arith) (omega arith) (omega arith) in
    let (tells, all) = parted_tell t s i.end is (w + (i.end - start)) h.1 (omega arith) in
    rw (plan_move due start i w l k) ((right, tells), all))
    (below_or (start - i.adjustment) due))
    (λ l.
    let moved = q ∙ sym (stay_moved t s start i h.0 within i.end (omega arith) (omega arith) (omega arith)) in
    let left = stay_told t s start i h.0 within i.end some (omega arith) (omega arith) in
    let (tells, all) = parted_tell t s i.end is w h.1 moved in
    rw (plan_stay due start i w l) ((left, tells), all))
    (below_or due (i.end - i.adjustment))

-- THE WHOLE LIST

-- the new buckets of block k behind a list
pub tells_extended
    : (b : ℕ → ℕ) (g k m w : ℕ) (is : List Interval) (e : ℕ) → 1 ≤ e → Tells b g 0 is e → k < g
    → ((x : ℕ) → e ≤ x → b x ≡ k) → w ≡ size b e k → Tells b g 0 (extended k e m w is) (e + m)
unfolding extended if◌then◌otherwise◌
tells_extended b g k m w is e some h below own q =
    ⊎_elim
    (λ l.
    rw (eq-eqb (last_block is) k l)
    (tells_lengthened b g 0 m is e some h (λ x c d. own x c ∙ sym l)))
    (λ l.
    ⊎_elim
    (λ z.
    let same : e ≡ e + m = omega arith in
    rw (ne_eqb (last_block is) k l, eq-eqb m 0 z) (subst (Tells b g 0 is) same h))
    (λ z.
    rw (ne_eqb (last_block is) k l, ne_eqb m 0 z)
    (tells_append b g 0 is e (interval (e + m) k (e - w) ∷ []) (e + m) h (
      record {
        some = positive e m z;
        own = λ x c d. own x c;
        below = below;
        adjusted = omega (arith, size_most b e k);
      },
      refl,
    )))
    (equal_or m 0))
    (equal_or (last_block is) k)

-- the walk over the old intervals counts the old buckets that move
pub drained_moved
    : (t : Table) (s : Shape) → Well t
    → moved_after t s 0 t.intervals 0 ≡ size (drained_block t s) t.buckets (length t.tops)
drained_moved t s w =
    (parted_tell t s 0 t.intervals 0 w.tells (sym (size_zero (drained_block t s) (length t.tops)))).1

module _ (t : Table) (s : Shape) (w : Well t) (a : Accepted t s) (falls : some_fall t s ≡ true) where
  -- the whole list tells the map
  drained_tells : Tells (drained_block t s) (suc (length t.tops)) 0 (drained t s) s.buckets
  unfolding drained
  drained_tells =
      let tells =
      (parted_tell t s 0 t.intervals 0 w.tells (sym (size_zero (drained_block t s) (length t.tops)))).0 in
      let end : t.buckets + (s.buckets - t.buckets) ≡ s.buckets = omega (arith, a.more_buckets) in
      subst (Tells (drained_block t s) (suc (length t.tops)) 0 (drained t s)) end
      (tells_extended (drained_block t s) (suc (length t.tops)) (length t.tops) (s.buckets - t.buckets) _ _ t.buckets
      w.some_buckets
      tells
      (omega arith)
      (drained_new t s)
      (drained_moved t s w))

  -- an old block keeps its due, all of it old buckets
  drained_due : (j : ℕ) → j < length t.tops → size (drained_block t s) t.buckets j ≡ due_after t s j
  unfolding has
  drained_due j l =
      omega (
        arith,
        drained_kept t s j t.buckets l (omega arith),
        held_size t j t.buckets,
        some_falls t s w a falls j l,
      )

  drained_old : (j : ℕ) → j < length t.tops → size (drained_block t s) s.buckets j ≡ due_after t s j
  drained_old j l =
      size_other (drained_block t s) j t.buckets s.buckets a.more_buckets
      (λ x c d e. omega (arith, drained_new t s x c))
      ∙ drained_due j l

  -- all blocks are old ones or the new one
  drained_below : (x : ℕ) → x < s.buckets → drained_block t s x < suc (length t.tops)
  drained_below x l =
      (tells_placed (drained_block t s) (suc (length t.tops)) 0 (drained t s) s.buckets drained_tells x (omega arith) l).below

  -- and the new block has its own, as all dues sum to B'
  drained_fresh : size (drained_block t s) s.buckets (length t.tops) ≡ due_after t s (length t.tops)
  drained_fresh =
      let g = length t.tops in
      omega (
        arith,
        sizes_all (drained_block t s) s.buckets (suc g) drained_below,
        ap (sum (due_after t s)) (length_more t s w a (some_more t s w a falls)),
        new_dues t s w a,
        sum_suc (size (drained_block t s) s.buckets) g,
        sum_suc (due_after t s) g,
        sum_ext (size (drained_block t s) s.buckets) (due_after t s) g drained_old,
      )

  -- so every block gets its due
  pub drained_grown : Grown t s (drained_block t s) (drained t s)
  drained_grown =
      let more = length_more t s w a (some_more t s w a falls) in
      record {
        tells = rw more drained_tells;
        dues =
            λ j l.
            up_to (λ j. size (drained_block t s) s.buckets j ≡ due_after t s j) (length t.tops) drained_old drained_fresh j
            (omega arith);
      }

  -- the old buckets that the old blocks are not due move
  pub drained_least : moved_after t s 0 t.intervals 0 ≡ least (shape t) s
  unfolding least shape
  drained_least =
      let g = length t.tops in
      omega (
        arith,
        drained_moved t s w,
        sizes_all (drained_block t s) t.buckets (suc g)
            (λ x l. drained_below x (omega (arith, a.more_buckets))),
        sum_suc (size (drained_block t s) t.buckets) g,
        sum_ext (size (drained_block t s) t.buckets) (due_after t s) g drained_due,
        old_most t s w a,
      )
