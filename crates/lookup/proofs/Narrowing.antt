-- Laws of the search for a bucket's interval: what a turn of it leaves. Assumes nothing.
use Prim.Native.Nat.{ℕ, zero, suc, ◌+◌, ◌-◌, ◌*◌, ◌≤◌, ◌<◌}
use mathlib.Core.Path.{◌≡◌, refl}
use mathlib.Core.List.{List}
use mathlib.Core.Logic.{◌⊎◌, ⊎_elim}
use native.Mathlib.Nat.{zero-add}
use native.Mathlib.Omega.{arith}
use lib.ListN.{length, get_or, take}
use lib.Seq.{length-take-le, get_or-take}
use Rattle.model.specs.Basics.{before}
use Rattle.model.proofs.Intervals.{Rising, before_mono}
use Rattle.model.proofs.Rules.{before_next, before_some}
use Rattle.lookup.specs.Search.{Among, Ends}

-- what a comparison of the bucket with an end answers
abbrev pub Past : ℕ → ℕ → ℕ → Type 0
Past end bucket r = ((end ≤ bucket) × (r ≡ 1)) ⊎ ((bucket < end) × (r ≡ 0))

pub past_most : {end bucket r : ℕ} → Past end bucket r → r ≤ 1
past_most w = ⊎_elim (λ y. omega (arith, y.1)) (λ n. omega (arith, n.1)) w

-- at first: all
pub among_all : (ends : List ℕ) (k bucket : ℕ) → 1 ≤ k → bucket < before ends k → Among ends k bucket 0 k
unfolding before
among_all ends k bucket h l =
    record { some = h; within = omega arith; from = omega arith; to = rw (zero-add k) l }

-- the first k ends, as a list of their own
module _ (ends : List ℕ) (k : ℕ) (long : k ≤ length ends) where
  before_taken : (i : ℕ) → i ≤ k → before (take k ends) i ≡ before ends i
  unfolding before
  before_taken zero l = refl
  before_taken (suc i) l = get_or-take k ends i 0 l

  pub ends_taken : Rising ends k → Ends (take k ends) (length (take k ends))
  ends_taken rise =
      rw (length-take-le k ends long)
      (record {
        long = omega (arith, length-take-le k ends long);
        rise = λ i l. rw (before_taken i (omega arith), get_or-take k ends i 0 l) (rise i l);
      })

  pub among_taken : {bucket low count : ℕ} → Among ends k bucket low count → Among (take k ends) k bucket low count
  among_taken {bucket} {low} {count} s =
      record {
        some = s.some;
        within = s.within;
        from = omega (arith, s.from, before_taken low (omega (arith, s.within)));
        to = omega (arith, s.to, before_taken (low + count) (omega (arith, s.within)));
      }

  pub among_kept
      : {bucket low count : ℕ} → Among (take k ends) (length (take k ends)) bucket low count → Among ends k bucket low count
  among_kept {bucket} {low} {count} s =
      let all = length-take-le k ends long in
      record {
        some = s.some;
        within = omega (arith, s.within, all);
        from = omega (arith, s.from, s.within, all, before_taken low (omega (arith, s.within, all)));
        to = omega (arith, s.to, before_taken (low + count) (omega (arith, s.within, all)));
      }

module _ {ends : List ℕ} {k bucket low count : ℕ} (rise : Rising ends k) (s : Among ends k bucket low count) where
  -- fewer, from a place not past the bucket on, that reach past some end after the bucket
  fewer
      : (at left next : ℕ) → 1 ≤ left → at + left ≤ low + count → next ≤ at + left → before ends at ≤ bucket
      → bucket < before ends next → Among ends k bucket at left
  fewer at left next one in_all reach from to =
      record {
        some = one;
        within = omega (arith, s.within);
        from = from;
        to = omega (arith, before_mono ends k rise (at + left) next reach (omega (arith, s.within)));
      }

  -- one interval fewer
  pub among_less
      : (r : ℕ) → 1 < count → Past (get_or ends low 0) bucket r → Among ends k bucket (low + r) (count - 1)
  among_less r more w =
      let next = before_next ends low in
      ⊎_elim
      (λ y.
      let there : low + r ≡ low + 1 = omega (arith, y.1) in
      rw there (fewer (low + 1) (count - 1) (low + count) (omega arith) (omega arith) (omega arith) (omega arith) s.to))
      (λ n.
      let there : low + r ≡ low = omega (arith, n.1) in
      rw there (fewer low (count - 1) (low + 1) (omega arith) (omega arith) (omega arith) s.from (omega arith)))
      w

  -- a quarter of them
  module _
      (q a b c : ℕ) (some : 1 ≤ q) (fits : 4 * q ≤ count)
      (first : Past (get_or ends (low + q - 1) 0) bucket a)
      (second : Past (get_or ends (low + 2 * q - 1) 0) bucket b)
      (third : Past (get_or ends (low + 3 * q - 1) 0) bucket c)
    where
      one : before ends (low + q) ≡ get_or ends (low + q - 1) 0
      one = before_some ends (low + q) (omega arith)

      two : before ends (low + 2 * q) ≡ get_or ends (low + 2 * q - 1) 0
      two = before_some ends (low + 2 * q) (omega arith)

      three : before ends (low + 3 * q) ≡ get_or ends (low + 3 * q - 1) 0
      three = before_some ends (low + 3 * q) (omega arith)

      rises : (before ends (low + q) ≤ before ends (low + 2 * q)) × (before ends (low + 2 * q) ≤ before ends (low + 3 * q))
      rises = (
        before_mono ends k rise (low + 2 * q) (low + q) (omega arith) (omega (arith, s.within)),
        before_mono ends k rise (low + 3 * q) (low + 2 * q) (omega arith) (omega (arith, s.within)),
      )

      -- a jump by d
      jump
          : (d next : ℕ) → q * (a + b + c) ≡ d → d ≤ 3 * q → next ≤ low + d + (count - 3 * q) → before ends (low + d) ≤ bucket
          → bucket < before ends next → Among ends k bucket (low + q * (a + b + c)) (count - 3 * q)
      jump d next e most reach from to =
          rw e (fewer (low + d) (count - 3 * q) next (omega arith) (omega arith) reach from to)

      pub among_quarter : Among ends k bucket (low + q * (a + b + c)) (count - 3 * q)
      among_quarter =
          ⊎_elim
          (λ x.
          ⊎_elim
          (λ y.
          ⊎_elim
          (λ z. jump (3 * q) (low + count) (rw (x.1, y.1, z.1) (omega arith)) (omega arith) (omega arith) (omega (arith, three)) s.to)
          (λ z. jump (2 * q) (low + 3 * q) (rw (x.1, y.1, z.1) (omega arith)) (omega arith) (omega arith) (omega (arith, two)) (omega (arith, three)))
          third)
          (λ y.
          ⊎_elim
          (λ z. absurd (omega (arith, two, three, rises)))
          (λ z. jump q (low + 2 * q) (rw (x.1, y.1, z.1) (omega arith)) (omega arith) (omega arith) (omega (arith, one)) (omega (arith, two)))
          third)
          second)
          (λ x.
          ⊎_elim
          (λ y. absurd (omega (arith, one, two, rises)))
          (λ y.
          ⊎_elim
          (λ z. absurd (omega (arith, two, three, rises)))
          (λ z.
          let here : low + 0 ≡ low = omega arith in
          jump 0 (low + q) (rw (x.1, y.1, z.1) (omega arith)) (omega arith) (omega arith) (rw here s.from) (omega (arith, one)))
          third)
          second)
          first
