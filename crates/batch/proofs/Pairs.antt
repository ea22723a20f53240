-- Laws of places written in turn: those of buckets that lie in one interval, and those of the whole list. Assumes nothing.
use Prim.Native.Nat.{ℕ, ◌+◌, ◌-◌, ◌*◌, ◌≤◌, ◌<◌}
use mathlib.Core.Path.{◌≡◌, refl, sym, ◌∙◌, ap, subst}
use mathlib.Core.Bool.{false}
use mathlib.Core.List.{List, ◌++◌}
use mathlib.Core.Logic.{⊎_elim}
use native.Mathlib.Omega.{arith}
use lib.ListN.{length, get_or, take, drop, length-drop}
use lib.Seq.{sets, length-sets, get_or-drop, drop-drop, take-add, length-take-le}
use Rattle.model.specs.Basics.{joined}
use Rattle.model.proofs.Counts.{below_or}
use Rattle.model.proofs.Mapped.{mapped_length, mapped_append, mapped_next}
use Rattle.model.proofs.Entries.{Put, put_none, put_more, sets_more}
use Rattle.model.proofs.Batches.{falls_not}
use Rattle.model.specs.Refusal.{falls}
use Rattle.table.specs.declared.Placing.{Placing}
use Rattle.batch.specs.Slots.{slot_pair, slot_pairs, Placeable, Placed}

-- the buckets from number `from` up to i are below `end`, and their places are written
pub record Filling (p : Placing) (end : ℕ) (xs : List ℕ) (from i : ℕ) (old out : List ℕ) : Type 0 where
  pub on : from ≤ i
  pub within : i ≤ length xs
  pub below : (k : ℕ) → from ≤ k → k < i → get_or xs k 0 < end
  pub put : Put (2 * from) (2 * i) (slot_pairs p (take (i - from) (drop from xs))) old out

pub filling_none : (p : Placing) (end : ℕ) (xs : List ℕ) (from : ℕ) (old : List ℕ) → from ≤ length xs → Filling p end xs from from old old
unfolding joined
filling_none p end xs from old l =
    let none : from - from ≡ 0 = omega arith in
    record { on = omega arith; within = l; below = λ k a b. absurd (omega arith); put = rw none (put_none (2 * from) old) }

module _ {p : Placing} {end : ℕ} {xs : List ℕ} {from i : ℕ} {old out : List ℕ} (f : Filling p end xs from i old out) where
  pub filling_more
      : {out' : List ℕ} → i < length xs → get_or xs i 0 < end → out' ≡ sets out (2 * i) (slot_pair p (get_or xs i 0))
      → Filling p end xs from (i + 1) old out'
  filling_more {out'} l b e =
      let next : i + 1 - from ≡ i - from + 1 = omega (arith, f.on) in
      let at : from + (i - from) ≡ i = omega (arith, f.on) in
      let inside : i - from < length (drop from xs) = omega (arith, length-drop from xs, f.on) in
      let here : get_or (drop from xs) (i - from) 0 ≡ get_or xs i 0 = get_or-drop from xs (i - from) 0 ∙ ap (λ k. get_or xs k 0) at in
      record {
        on = omega (arith, f.on);
        within = omega arith;
        below =
            λ k a c.
            ⊎_elim
            (λ m. f.below k a m)
            (λ (m : i ≤ k). let same : k ≡ i = omega arith in rw same b)
            (below_or k i);
        put =
            rw (next, mapped_next (slot_pair p) (drop from xs) (i - from) inside, here)
            (put_more f.put (slot_pair p (get_or xs i 0)) e (omega arith));
      }

  -- up to a number that is given in another way
  pub filling_at : {j : ℕ} → i ≡ j → Filling p end xs from j old out
  filling_at e = subst (λ k. Filling p end xs from k old out) e f

-- WHAT IS ASKED OF THE BUCKETS

-- of the later ones, and of a list of the same length to write to
pub placeable_later
    : {p : Placing} {xs : List ℕ} {from i : ℕ} {out out' : List ℕ} → from ≤ i → length out' ≡ length out
    → Placeable p xs from out → Placeable p xs i out'
placeable_later l e a =
    record {
      rise = a.rise;
      places = λ k b c. a.places k (omega arith) c;
      room = omega (arith, a.room);
    }

-- the buckets before one that is below `end` are below it
pub before_below
    : (xs : List ℕ) (i j end : ℕ) → falls xs ≡ false → i ≤ j → j < length xs → get_or xs j 0 < end → get_or xs i 0 < end
before_below xs i j end f l m b = omega (arith, falls_not xs f i j l m, b)

-- PLACES BEHIND PLACES

pub placed_length
    : {p : Placing} {end : ℕ} {xs : List ℕ} {from r : ℕ} {old out : List ℕ} → Placed p end xs from r old out → length out ≡ length old
placed_length {p} {xs = xs} {from = from} {r = r} {old = old} a =
    ap length a.holds ∙ length-sets old (2 * from) (slot_pairs p (take (r - from) (drop from xs)))

module _ {p : Placing} {end : ℕ} {xs : List ℕ} {from i r : ℕ} {old out out' : List ℕ} (a : Placed p end xs from i old out)
    (b : Placed p end xs i r out out') where
  pairs_length : length (slot_pairs p (take (i - from) (drop from xs))) ≡ 2 * (i - from)
  pairs_length =
      let few = length-take-le (i - from) (drop from xs) (omega (arith, length-drop from xs, a.within, a.on)) in
      mapped_length (slot_pair p) 2 (λ x. refl) (take (i - from) (drop from xs)) ∙ ap (λ n. 2 * n) few

  pairs_both
      : slot_pairs p (take (i - from) (drop from xs)) ++ slot_pairs p (take (r - i) (drop i xs))
      ≡ slot_pairs p (take (r - from) (drop from xs))
  pairs_both =
      let all : i - from + (r - i) ≡ r - from = omega (arith, a.on, b.on) in
      let here : from + (i - from) ≡ i = omega (arith, a.on) in
      ap (λ n. slot_pairs p (take (i - from) (drop from xs)) ++ slot_pairs p (take (r - i) (drop n xs))) (sym here)
      ∙ ap (λ (ys : List ℕ). slot_pairs p (take (i - from) (drop from xs)) ++ slot_pairs p (take (r - i) ys)) (sym (drop-drop (i - from) from xs))
      ∙ sym (mapped_append (slot_pair p) (take (i - from) (drop from xs)) (take (r - i) (drop (i - from) (drop from xs))))
      ∙ ap (slot_pairs p) (sym (take-add (i - from) (r - i) (drop from xs)))
      ∙ ap (λ n. slot_pairs p (take n (drop from xs))) all

  pub placed_both : Placed p end xs from r old out'
  placed_both =
      let at : 2 * i ≡ 2 * from + length (slot_pairs p (take (i - from) (drop from xs))) = omega (arith, pairs_length, a.on) in
      record {
        on = omega (arith, a.on, b.on);
        within = b.within;
        below = λ k c d. ⊎_elim (λ m. a.below k c m) (λ m. b.below k m d) (below_or k i);
        holds =
            b.holds
            ∙ ap (λ (m : List ℕ). sets m (2 * i) (slot_pairs p (take (r - i) (drop i xs)))) a.holds
            ∙ ap (λ n. sets (sets old (2 * from) (slot_pairs p (take (i - from) (drop from xs)))) n (slot_pairs p (take (r - i) (drop i xs)))) at
            ∙ sets_more (slot_pairs p (take (i - from) (drop from xs))) (slot_pairs p (take (r - i) (drop i xs))) old (2 * from)
            ∙ ap (sets old (2 * from)) pairs_both;
      }
