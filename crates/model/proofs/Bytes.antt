-- Laws of a saved table's bytes: those of one more number, its parts, and that adjustments are not among them. Assumes nothing.
use Prim.Native.Nat.{ℕ, ◌+◌, ◌*◌, ◌≤◌, ◌<◌}
use mathlib.Core.Path.{◌≡◌, sym, ◌∙◌, ap}
use mathlib.Core.List.{List, ◌∷◌, ◌++◌, map}
use native.Mathlib.Omega.{arith}
use lib.ListN.{length, get_or, take}
use lib.Seq.{length-take-le}
use Rattle.model.specs.Basics.{joined}
use Rattle.model.specs.Table.{Arrays, arrays, table}
use Rattle.model.specs.Saved.{bytes_of, saved}
use Rattle.model.specs.declared.table.Header.{Header}
use Rattle.model.proofs.Mapped.{mapped_append, mapped_next}
use Rattle.model.proofs.Files.{length_joined, Long, saved_numbers_lem}

-- the bytes of numbers, one after the other
abbrev pub bytes_of_all : List ℕ → List ℕ
bytes_of_all xs = joined (map bytes_of xs)

pub bytes_append : (xs ys : List ℕ) → bytes_of_all (xs ++ ys) ≡ bytes_of_all xs ++ bytes_of_all ys
bytes_append = mapped_append bytes_of

-- the first i numbers of a list: the length of their bytes, and those of one more
pub bytes_length : (xs : List ℕ) (i : ℕ) → i ≤ length xs → length (bytes_of_all (take i xs)) ≡ 4 * i
bytes_length xs i l = omega (arith, length_joined (take i xs), length-take-le i xs l)

pub bytes_next
    : (xs : List ℕ) (i : ℕ) → i < length xs
    → bytes_of_all (take (i + 1) xs) ≡ bytes_of_all (take i xs) ++ bytes_of (get_or xs i 0)
bytes_next = mapped_next bytes_of

-- A SAVED TABLE

-- its parts: B, G, k, the tops, the ends and the blocks
pub saved_parts
    : (h : Header) (a : Arrays) → Long h a
    → saved (table h a)
    ≡ bytes_of h.buckets
    ++ bytes_of h.block_count
    ++ bytes_of h.interval_count
    ++ bytes_of_all (take h.block_count a.tops)
    ++ bytes_of_all (take h.interval_count a.ends)
    ++ bytes_of_all (take h.interval_count a.blocks)
unfolding saved joined bytes_of
saved_parts h a l =
    ap bytes_of_all (saved_numbers_lem h a l)
    ∙ bytes_append
    (h.buckets ∷ h.block_count ∷ h.interval_count ∷ take h.block_count a.tops ++ take h.interval_count a.ends)
    (take h.interval_count a.blocks)
    ∙ ap (λ (x : List ℕ). x ++ bytes_of_all (take h.interval_count a.blocks))
    (bytes_append
    (h.buckets ∷ h.block_count ∷ h.interval_count ∷ take h.block_count a.tops)
    (take h.interval_count a.ends))

-- adjustments are not saved
pub saved_same
    : (h : Header) (t e b c c' : List ℕ) → Long h (arrays t e b c)
    → saved (table h (arrays t e b c)) ≡ saved (table h (arrays t e b c'))
saved_same h t e b c c' l =
    saved_parts h (arrays t e b c) l
    ∙ sym (saved_parts h (arrays t e b c') (record { tops = l.tops; ends = l.ends; blocks = l.blocks }))
