-- The last lines of what a run counted, as bytes. Assumes nothing.
use Rattle.std.specs.Prelude.{ℕ, if◌then◌else◌, ◌==◌, List, [], ◌++◌, codes, slice_index, flat_map}
use Rattle.std.specs.List.{enumerate_from}
use Rattle.std.specs.Fmt.{decimal}
use Rattle.cut_tests.specs.declared.tally.Tally.{Tally}

-- words, two numbers and a text, in turn
abbrev pub two_text : List ℕ → ℕ → ℕ → List ℕ → List ℕ
two_text words m n rest = words ++ (decimal m ++ (codes " " ++ (decimal n ++ rest)))

-- the cuts, by their kinds
abbrev pub cuts_text : List ℕ → List ℕ
cuts_text cuts =
    codes "copies cut: old word, new word, junk "
    ++ (decimal (slice_index cuts 0)
    ++ two_text
    (codes " ")
    (slice_index cuts 1)
    (slice_index cuts 2)
    (two_text (codes "\nmarks cut: old mark, new mark ") (slice_index cuts 3) (slice_index cuts 4) (codes "\n")))

-- the line of one number, unless its count is 0
abbrev pub refusal_text : ℕ → ℕ → List ℕ
refusal_text number count = if count == 0 then [] else two_text (codes "calls refused by ") number count (codes "\n")

abbrev pub refusals_text : List ℕ → List ℕ
refusals_text counts = flat_map (λ entry. refusal_text entry.0 entry.1) (enumerate_from 0 counts)

-- all of it
abbrev pub tally_text : Tally → List ℕ
tally_text tally =
    cuts_text tally.cuts
    ++ (refusals_text tally.refused ++ two_text (codes "comparisons, failed ") tally.comparisons tally.failed [])
