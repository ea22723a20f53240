-- Laws of the lists that a list's entries give, one after the other: bytes of numbers, places of buckets. Assumes nothing.
use Prim.Native.Nat.{ℕ, suc, ◌+◌, ◌*◌, ◌<◌}
use mathlib.Core.Path.{◌≡◌, refl, sym, ◌∙◌, ap, ap₂}
use mathlib.Core.List.{List, [], ◌∷◌, ◌++◌, map, append-nil, append_assoc}
use native.Mathlib.Nat.{mul-suc}
use native.Mathlib.Numerals.{add-one}
use native.Mathlib.Omega.{arith}
use lib.ListN.{length, get_or, take, length-append}
use lib.Seq.{take-suc}
use Rattle.model.specs.Basics.{joined}

-- n entries for each
pub mapped_length
    : (f : ℕ → List ℕ) (n : ℕ) → ((x : ℕ) → length (f x) ≡ n) → (xs : List ℕ) → length (joined (map f xs)) ≡ n * length xs
unfolding joined
mapped_length f n e [] = omega arith
mapped_length f n e (x ∷ xs) =
    omega (arith, length-append (f x) (joined (map f xs)), e x, mapped_length f n e xs, mul-suc n (length xs))

-- of two lists
pub mapped_append : (f : ℕ → List ℕ) (xs ys : List ℕ) → joined (map f (xs ++ ys)) ≡ joined (map f xs) ++ joined (map f ys)
unfolding joined
mapped_append f [] ys = refl
mapped_append f (x ∷ xs) ys =
    ap (λ (l : List ℕ). f x ++ l) (mapped_append f xs ys) ∙ sym (append_assoc (f x) (joined (map f xs)) (joined (map f ys)))

-- of one entry more
pub mapped_next
    : (f : ℕ → List ℕ) (xs : List ℕ) (i : ℕ) → i < length xs
    → joined (map f (take (i + 1) xs)) ≡ joined (map f (take i xs)) ++ f (get_or xs i 0)
unfolding joined
mapped_next f xs i l =
    rw (add-one i, take-suc xs i 0 l)
    (mapped_append f (take i xs) (get_or xs i 0 ∷ []) ∙ ap (λ (l : List ℕ). joined (map f (take i xs)) ++ l) (append-nil (f (get_or xs i 0))))

-- of two maps that agree on the entries
pub mapped_same
    : (f g : ℕ → List ℕ) (xs : List ℕ) → ((i : ℕ) → i < length xs → f (get_or xs i 0) ≡ g (get_or xs i 0))
    → joined (map f xs) ≡ joined (map g xs)
unfolding joined
mapped_same f g [] e = refl
mapped_same f g (x ∷ xs) e = ap₂ ◌++◌ (e 0 (omega arith)) (mapped_same f g xs (λ i l. e (suc i) (omega arith)))
