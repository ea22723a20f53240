-- Laws of lists of m entries each, one after the other: their length, one of them, and how they are stored. Assumes nothing.
use Prim.Native.Nat.{ℕ, zero, suc, ◌+◌, ◌*◌, ◌<◌}
use mathlib.Core.Path.{◌≡◌, sym, ◌∙◌, ap, subst}
use mathlib.Core.List.{List, ◌++◌, append-nil, append_assoc}
use native.Mathlib.Nat.{add-zero, zero-add, mul-suc}
use native.Mathlib.Numerals.{add-one}
use native.Mathlib.Omega.{arith}
use lib.ListN.{length, take, drop, length-append}
use lib.Seq.{take_at, drop-append-add, sets}
use Rattle.model.specs.Basics.{from, joined}
use Rattle.model.proofs.Tables.{from_append}
use Rattle.model.proofs.Rows.{joined_append}
use Rattle.model.proofs.Entries.{Put, put_more}

-- all of them
pub parts_length
    : (g : ℕ → List ℕ) (m : ℕ) → ((i : ℕ) → length (g i) ≡ m) → (i k : ℕ) → length (joined (from g i k)) ≡ m * k
unfolding from joined
parts_length g m e i zero = omega arith
parts_length g m e i (suc k) =
    omega (arith, length-append (g i) (joined (from g (suc i) k)), e i, parts_length g m e (suc i) k, mul-suc m k)

-- list j of them
pub part_at
    : (g : ℕ → List ℕ) (m : ℕ) → ((i : ℕ) → length (g i) ≡ m) → (i n j : ℕ) (rest : List ℕ) → j < n
    → take m (drop (m * j) (joined (from g i n) ++ rest)) ≡ g (i + j)
unfolding from joined
part_at g m e i zero j rest l = absurd (omega arith)
part_at g m e i (suc n) zero rest l =
    let none : m * 0 ≡ 0 = omega arith in
    rw (none, add-zero i) (ap (take m) (append_assoc (g i) (joined (from g (suc i) n)) rest) ∙ take_at (g i) _ m (e i))
part_at g m e i (suc n) (suc j) rest l =
    let on : m * suc j ≡ length (g i) + m * j = omega (arith, e i, mul-suc m j) in
    let next : suc i + j ≡ i + suc j = omega arith in
    rw on
    (ap (λ (xs : List ℕ). take m (drop (length (g i) + m * j) xs)) (append_assoc (g i) (joined (from g (suc i) n)) rest)
    ∙ ap (take m) (drop-append-add (g i) (joined (from g (suc i) n) ++ rest) (m * j))
    ∙ part_at g m e (suc i) n j rest (omega arith)
    ∙ ap g next)

-- one more
pub joined_next : (g : ℕ → List ℕ) (i : ℕ) → joined (from g 0 (i + 1)) ≡ joined (from g 0 i) ++ g i
unfolding from joined
joined_next g i =
    ap joined (sym (from_append g 0 i 1))
    ∙ joined_append (from g 0 i) (from g (0 + i) 1)
    ∙ ap (λ (l : List ℕ). joined (from g 0 i) ++ l) (append-nil (g (0 + i)) ∙ ap g (zero-add i))

-- stored one after the other: one more
pub part_stored
    : (g : ℕ → List ℕ) (m : ℕ) → ((i : ℕ) → length (g i) ≡ m) → (j : ℕ) {old out done : List ℕ}
    → Put 0 (m * j) (joined (from g 0 j)) old out → done ≡ sets out (m * j) (g j)
    → Put 0 (m * (j + 1)) (joined (from g 0 (j + 1))) old done
part_stored g m size j {old} {out} {done} p e =
    let next : m * (j + 1) ≡ m * j + length (g j) = ap (λ k. m * k) (add-one j) ∙ omega (arith, mul-suc m j, size j) in
    subst (λ (l : List ℕ). Put 0 (m * (j + 1)) l old done) (sym (joined_next g j)) (put_more p (g j) e next)
