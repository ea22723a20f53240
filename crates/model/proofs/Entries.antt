-- Laws of entries stored one after the other in a list (`sets` of lib.Seq). Assumes nothing.
use Prim.Native.Nat.{ℕ, suc, ◌+◌, ◌≤◌, ◌<◌}
use mathlib.Core.Path.{◌≡◌, refl, sym, ◌∙◌, ap, subst}
use mathlib.Core.List.{List, [], ◌∷◌, ◌++◌}
use native.Mathlib.Nat.{add-zero, zero-add}
use native.Mathlib.Numerals.{add-one}
use native.Mathlib.Omega.{arith}
use lib.ListN.{length, get_or, take, drop, set, length-append}
use lib.Seq.{length-take-le, take-suc, set_comm, sets, sets-eq, length-sets}
use Rattle.model.specs.Basics.{from}
use Rattle.model.specs.Table.{over}
use Rattle.model.proofs.Loads.{from_next}

-- more entries behind those stored
pub sets_more
    : (xs ys l : List ℕ) (o : ℕ) → sets (sets l o xs) (o + length xs) ys ≡ sets l o (xs ++ ys)
sets_more [] ys l o = ap (λ k. sets l k ys) (add-zero o)
sets_more (x ∷ xs) ys l o =
    let next : o + suc (length xs) ≡ suc o + length xs = omega arith in
    ap (λ k. sets (sets (set l o x) (suc o) xs) k ys) next ∙ sets_more xs ys (set l o x) (suc o)

-- two entries, one behind the other
pub two_stores : (l : List ℕ) (o a b : ℕ) → set (set l o a) (o + 1) b ≡ sets l o (a ∷ b ∷ [])
two_stores l o a b = rw (add-one o)

-- an entry behind those stored may come first
sets_behind
    : (xs l : List ℕ) (o i v : ℕ) → o + length xs ≤ i → set (sets l o xs) i v ≡ sets (set l i v) o xs
sets_behind [] l o i v h = refl
sets_behind (x ∷ xs) l o i v h =
    sets_behind xs (set l o x) (suc o) i v (omega arith)
    ∙ ap (λ (m : List ℕ). sets m (suc o) xs) (set_comm l o i x v (λ e. omega arith))

-- and so may others behind them
pub sets_swap
    : (xs ys l : List ℕ) (o i : ℕ) → o + length xs ≤ i → sets (sets l o xs) i ys ≡ sets (sets l i ys) o xs
sets_swap xs [] l o i h = refl
sets_swap xs (y ∷ ys) l o i h =
    ap (λ (m : List ℕ). sets m (suc i) ys) (sets_behind xs l o i y h)
    ∙ sets_swap xs ys (set l i y) o (suc i) (omega arith)

-- entries stored from the first place on
pub sets_over : (xs l : List ℕ) → length xs ≤ length l → sets l 0 xs ≡ over xs l
unfolding over
sets_over xs l e =
    sets-eq xs l 0 (omega arith) ∙ ap (λ k. xs ++ drop k l) (zero-add (length xs))

-- one entry behind those stored from the first place on
pub store_behind
    : (xs old out : List ℕ) (k v : ℕ) → out ≡ sets old 0 xs → k ≡ length xs → k < length old
    → set out k v ≡ over (xs ++ (v ∷ [])) old
store_behind xs old out k v e c l =
    let at : k ≡ 0 + length xs = omega arith in
    ap (λ (m : List ℕ). set m k v) e
    ∙ ap (λ n. set (sets old 0 xs) n v) at
    ∙ sets_more xs (v ∷ []) old 0
    ∙ sets_over (xs ++ (v ∷ [])) old (omega (arith, length-append xs (v ∷ [])))

-- one entry more of a copy
pub copy_next
    : (xs old out : List ℕ) (i : ℕ) → i < length xs → out ≡ sets old 0 (take i xs)
    → set out i (get_or xs i 0) ≡ sets old 0 (take (i + 1) xs)
copy_next xs old out i l e =
    let at : i ≡ 0 + length (take i xs) = omega (arith, length-take-le i xs (omega arith)) in
    ap (λ (m : List ℕ). set m i (get_or xs i 0)) e
    ∙ ap (λ k. set (sets old 0 (take i xs)) k (get_or xs i 0)) at
    ∙ sets_more (take i xs) (get_or xs i 0 ∷ []) old 0
    ∙ ap (sets old 0) (sym (take-suc xs i 0 l) ∙ ap (λ k. take k xs) (sym (add-one i)))

-- A LOOP THAT WRITES

-- the list `out` is `old` with new entries from place `at` up to place o
pub record Put (at o : ℕ) (new old out : List ℕ) : Type 0 where
  pub place : o ≡ at + length new
  pub holds : out ≡ sets old at new

-- at its start
pub put_none : (at : ℕ) (old : List ℕ) → Put at at [] old old
put_none at old = record { place = sym (add-zero at); holds = refl }

module _ {at o : ℕ} {new old out : List ℕ} (p : Put at o new old out) where
  -- the length is kept
  pub put_length : length out ≡ length old
  put_length = ap length p.holds ∙ length-sets old at new

  -- more entries at the place reached
  pub put_more
      : {o' : ℕ} {out' : List ℕ} (more : List ℕ) → out' ≡ sets out o more → o' ≡ o + length more
      → Put at o' (new ++ more) old out'
  put_more more e c =
      record {
        place = omega (arith, p.place, length-append new more);
        holds =
            e
            ∙ ap (λ (m : List ℕ). sets m o more) p.holds
            ∙ ap (λ k. sets (sets old at new) k more) p.place
            ∙ sets_more new more old at;
      }

-- from the first place on, where there is room
pub put_over : {o : ℕ} {new old out : List ℕ} → Put 0 o new old out → o ≤ length old → out ≡ over new old
put_over {new = new} {old = old} p l = p.holds ∙ sets_over new old (omega (arith, p.place))

-- of g a, g (a + 1), ..: the next of them
pub put_next
    : {i : ℕ} {old out : List ℕ} (g : ℕ → ℕ) (a v : ℕ) → Put 0 i (from g a i) old out → v ≡ g (a + i)
    → Put 0 (i + 1) (from g a (i + 1)) old (set out i v)
put_next {i} {old} {out} g a v p e =
    subst (λ (new : List ℕ). Put 0 (i + 1) new old (set out i v))
    (ap (λ w. from g a i ++ w ∷ []) e ∙ sym (from_next g a i))
    (put_more p (v ∷ []) refl refl)
