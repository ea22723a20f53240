-- Laws of a text stored in a list. Assumes nothing.
use Prim.Native.Nat.{ℕ, ◌+◌, ◌≤◌, ◌<◌}
use mathlib.Core.Path.{◌≡◌, sym, ◌∙◌, ap}
use mathlib.Core.List.{List, [], ◌∷◌, ◌++◌}
use native.Mathlib.Numerals.{add-one}
use native.Mathlib.Omega.{arith}
use lib.ListN.{length, get_or, take, set}
use lib.Seq.{sets, take-suc, take_all, length-take-le}
use Rattle.model.proofs.Entries.{sets_more}

-- the first entries of a list, and the next
pub take_next
    : (xs : List ℕ) (i : ℕ) → i < length xs → take (i + 1) xs ≡ take i xs ++ (get_or xs i 0 ∷ [])
take_next xs i l = rw (add-one i) (take-suc xs i 0 l)

-- they are stored from place `at` on, and so is the next
pub stored_next
    : (xs old out : List ℕ) (at i : ℕ) → i < length xs → out ≡ sets old at (take i xs)
    → set out (at + i) (get_or xs i 0) ≡ sets old at (take (i + 1) xs)
stored_next xs old out at i l e =
    let behind : at + i ≡ at + length (take i xs) = omega (arith, length-take-le i xs (omega arith)) in
    ap (λ (m : List ℕ). set m (at + i) (get_or xs i 0)) e
    ∙ ap (λ k. set (sets old at (take i xs)) k (get_or xs i 0)) behind
    ∙ sets_more (take i xs) (get_or xs i 0 ∷ []) old at
    ∙ ap (sets old at) (sym (take_next xs i l))

pub stored_all
    : (xs old out : List ℕ) (at i : ℕ) → length xs ≤ i → out ≡ sets old at (take i xs) → out ≡ sets old at xs
stored_all xs old out at i h e = e ∙ ap (sets old at) (take_all i xs h)
