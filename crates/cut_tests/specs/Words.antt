-- The words of a rack, and which of them differ. Assumes nothing.
use Rattle.std.specs.Prelude.{ℕ, ◌+◌, ◌*◌, ◌-◌, ◌^◌, ◌%◌, min, if◌then◌else◌, ◌==◌, not, List, count_by, zip, take}

-- a bucket's own word
abbrev pub own_word : ℕ → ℕ
own_word x = min (x + 1000000) (2 ^ 32 - 1)

-- the word at a place where no bucket's is
abbrev pub vacant_word : ℕ → ℕ
vacant_word at = min (at + 2000000) (2 ^ 32 - 1)

-- the word that a cut copy may leave at a place
abbrev pub junk_word : ℕ → ℕ
junk_word at = if at % 2 == 0 then 666666666 else own_word 0

-- which word is at a position of a bin
abbrev pub place_word : ℕ → ℕ → ℕ → ℕ
place_word capacity bin position = min (min (bin * capacity) (2 ^ 32 - 1) + position) (2 ^ 32 - 1)

-- how many of the first n words differ
abbrev pub differing : List ℕ → List ℕ → ℕ → ℕ
differing ws right n = count_by (λ pair. not (pair.0 == pair.1)) (take n (zip ws right))
