-- Laws of the walk to a bucket's interval: the intervals that the bucket is past. Assumes nothing.
use Prim.Native.Nat.{ℕ, zero, suc, ◌+◌, ◌-◌, ◌≤◌, ◌<◌}
use mathlib.Core.Path.{◌≡◌, ap}
use mathlib.Core.List.{List}
use mathlib.Core.Logic.{⊎_elim}
use native.Mathlib.Omega.{arith}
use lib.ListN.{length, get_or, take, drop, length-drop}
use lib.Seq.{get_or-drop}
use native.Mathlib.Numerals.{add-one}
use borrow.Author.Tests.{le-leb, lt-leb}
use Rattle.std.proofs.Common.{leb, count_by}
use Rattle.std.proofs.lemmas.List.Sums.{count_by_more_no, count_by_more_yes}
use Rattle.model.specs.Basics.{before}
use Rattle.model.proofs.Counts.{below_or}
use Rattle.model.proofs.Intervals.{Rising, before_mono}
use Rattle.model.proofs.Rules.{before_next}
use Rattle.lookup.specs.Search.{Among, Ends}

-- of the intervals from place `from` on, i have been looked at, and the bucket is past the first `count` of them
pub record Passing (ends : List ℕ) (from bucket count i : ℕ) : Type 0 where
  pub most : count ≤ i
  pub after : before ends (from + count) ≤ bucket
  pub stop : count < i → bucket < get_or ends (from + count) 0

pub passing_none : (ends : List ℕ) (from bucket : ℕ) → before ends from ≤ bucket → Passing ends from bucket 0 0
passing_none ends from bucket l =
    let here : from + 0 ≡ from = omega arith in
    record { most = omega arith; after = rw here l; stop = λ k. absurd (omega arith) }

module _ {ends : List ℕ} {n from bucket count i : ℕ} (rise : Rising ends n) (l : from + i < n) (s : Passing ends from bucket count i) where
  -- where the bucket is past the next one, it was past all before it
  all_past : get_or ends (from + i) 0 ≤ bucket → count ≡ i
  all_past p =
      ⊎_elim
      (λ k.
      let later = before_mono ends n rise (from + i + 1) (from + count + 1) (omega arith) (omega arith) in
      absurd (omega (arith, s.stop k, later, before_next ends (from + i), before_next ends (from + count))))
      (λ k. omega (arith, s.most))
      (below_or count i)

  -- the next one: the bucket is past it, or not
  pub passing_more : get_or ends (from + i) 0 ≤ bucket → Passing ends from bucket (count + 1) (i + 1)
  passing_more p =
      let same = all_past p in
      let there : from + (count + 1) ≡ from + i + 1 = omega (arith, same) in
      record {
        most = omega (arith, same);
        after = rw there (omega (arith, before_next ends (from + i), p));
        stop = λ k. absurd (omega (arith, k, same));
      }

  pub passing_same : bucket < get_or ends (from + i) 0 → Passing ends from bucket count (i + 1)
  passing_same m =
      record {
        most = omega (arith, s.most);
        after = s.after;
        stop =
            λ k.
            ⊎_elim
            (λ (e : count < i). s.stop e)
            (λ (e : i ≤ count). let same : from + count ≡ from + i = omega (arith, s.most) in rw same m)
            (below_or count i);
      }

-- after the last one but the one that it cannot be past
pub passing_ends
    : {ends : List ℕ} {n from bucket count most : ℕ} → Among ends n bucket from (most + 1) → Passing ends from bucket count most
    → Among ends n bucket (from + count) 1
passing_ends {ends} {n} {from} {bucket} {count} {most} m s =
    record {
      some = omega arith;
      within = omega (arith, m.within, s.most);
      from = s.after;
      to =
          ⊎_elim
          (λ (k : count < most). omega (arith, s.stop k, before_next ends (from + count)))
          (λ (k : most ≤ count).
          let same : from + count + 1 ≡ from + (most + 1) = omega (arith, s.most) in
          rw same m.to)
          (below_or count most);
    }

-- of i ends from place `from` on, counted
passing_counted
    : (ends : List ℕ) (from bucket i : ℕ) → Ends ends (length ends) → from + i ≤ length ends → before ends from ≤ bucket
    → Passing ends from bucket (count_by (λ end. leb end bucket) (take i (drop from ends))) i
passing_counted ends from bucket zero e l b = passing_none ends from bucket b
passing_counted ends from bucket (suc i) e l b =
    let rest = drop from ends in
    let inside : i < length rest = omega (arith, length-drop from ends) in
    let s = passing_counted ends from bucket i e (omega arith) b in
    rw (← add-one i)
    (⊎_elim
    (λ (k : bucket < get_or ends (from + i) 0).
    let no = count_by_more_no (λ end. leb end bucket) rest i 0 inside (rw (get_or-drop from ends i 0) (lt-leb _ _ k)) in
    rw no (passing_same e.rise (omega arith) s k))
    (λ (k : get_or ends (from + i) 0 ≤ bucket).
    let yes = count_by_more_yes (λ end. leb end bucket) rest i 0 inside (rw (get_or-drop from ends i 0) (le-leb _ _ k)) in
    rw yes (passing_more e.rise (omega arith) s k))
    (below_or bucket (get_or ends (from + i) 0)))

-- of m intervals from place i on and one more, the bucket's is the one past those that are counted
pub among_counted
    : (ends : List ℕ) (bucket i m r : ℕ) → Ends ends (length ends) → i + m < length ends → before ends i ≤ bucket
    → bucket < get_or ends (i + m) 0 → r ≡ count_by (λ end. leb end bucket) (take m (drop i ends))
    → Among ends (length ends) bucket (i + r) 1
among_counted ends bucket i m r e l from to counted =
    let last : i + (m + 1) ≡ i + m + 1 = omega arith in
    passing_ends {most = m}
    (record { some = omega arith; within = omega arith; from = from; to = omega (arith, ap (before ends) last, before_next ends (i + m), to) })
    (rw counted (passing_counted ends i bucket m e (omega arith) from))

-- past the end before place j
pub Is_among_later
    : {ends : List ℕ} {k bucket i count : ℕ} (j : ℕ) → before ends j ≤ bucket → j < k → i + count ≡ k → Among ends k bucket i count
    → Among ends k bucket j (k - j)
Is_among_later {ends} {k} {bucket} {i} {count} j p l e m =
    let last : i + count ≡ j + (k - j) = omega arith in
    record { some = omega arith; within = omega arith; from = p; to = rw last at m.to }
