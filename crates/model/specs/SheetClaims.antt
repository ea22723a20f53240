-- What is proved of the rack sheet. Each claim is a type. Assumes nothing.
use Rattle.std.specs.Prelude.{ℕ, zero, suc, ◌+◌, ◌-◌, ◌*◌, ◌^◌, ◌≤◌, ◌<◌, ◌≡◌, ◌↔◌, true, List, [], ◌∷◌, length, get_or, take, drop, replicate, eqb}
use Rattle.model.specs.Basics.{if◌then◌otherwise◌, before}
use Rattle.model.specs.Decimal.{digits_only, value}
use Rattle.model.specs.Limits.{max_capacity}
use Rattle.model.specs.Table.{sizes, Arrays, table}
use Rattle.model.specs.Place.{block_of, bin}
use Rattle.model.specs.Sound.{Sound}
use Rattle.model.specs.Sheet.{field, sheet_line, interval_numbers, sheet}
use Rattle.model.specs.Calls.{sheet_refusal, sheet_reply, sheet_bytes}
use Rattle.model.specs.Console.{text, lines_of}
use Rattle.model.specs.TableClaims.{with_capacity}
use Rattle.model.specs.Figures.{blank, grown}
use Rattle.model.specs.History.{State, started}
use Rattle.model.specs.declared.table.Header.{Header}

-- READING A SHEET BACK

-- a field from its first character on that is not a blank
unfoldable pub unblanked : List ℕ → List ℕ
unblanked [] = []
unblanked (c ∷ cs) = if eqb c 32 then unblanked cs otherwise c ∷ cs

-- its number: the blanks skipped, the digits read as a decimal
unfoldable pub field_read : List ℕ → ℕ
field_read f = value (unblanked f)

-- the numbers of m fields of 10 characters
unfoldable pub fields_read : ℕ → List ℕ → List ℕ
fields_read zero l = []
fields_read (suc m) l = field_read (take 10 l) ∷ fields_read m (drop 10 l)

-- the five numbers of a line
unfoldable pub line_read : List ℕ → List ℕ
line_read l = fields_read 5 l

-- A FIELD

-- of every number of up to ten digits: 10 characters; behind the blanks there are digits alone, and they say the number
abbrev pub FieldWidth : Type 0
FieldWidth =
    (n : ℕ) → n < 10_000_000_000
    → (length (field n) ≡ 10) × (digits_only (unblanked (field n)) ≡ true) × (field_read (field n) ≡ n)

-- column i, from 0, is a blank exactly where the number has no digit in it: it is not the last, and the number is too small
abbrev pub FieldBlanks : Type 0
FieldBlanks =
    (n i : ℕ) → n < 10_000_000_000 → i < 10
    → (get_or (field n) i 0 ≡ 32) ↔ ((i < 9) × (n < 10 ^ (9 - i)))

-- A SHEET

-- there is room in a buffer for the sheet of the header's k intervals
abbrev pub SheetFits : Header → List ℕ → Type 0
SheetFits h buffer = 51 * h.interval_count ≤ length buffer

-- 34 is answered exactly where the table is sound and there is none
abbrev pub SheetLast : Type 0
SheetLast =
    (h : Header) (a : Arrays) (buffer : List ℕ)
    → (sheet_refusal h a buffer ≡ 34) ↔ (Sound h a × (length buffer < 51 * h.interval_count))

-- a sound table's sheet is written into any buffer with room. Its lines have 51 characters each, and it has as many as the reply says.
abbrev pub SheetLength : Type 0
SheetLength =
    (h : Header) (a : Arrays) (buffer : List ℕ) → Sound h a → SheetFits h buffer
    → ((sheet_reply h a buffer).refusal ≡ 0)
    × ((sheet_reply h a buffer).length ≡ 51 * h.interval_count)
    × (length (sheet (table h a)) ≡ 51 * h.interval_count)
    × ((i : ℕ) → i < h.interval_count → length (sheet_line (interval_numbers (table h a) i)) ≡ 51)

-- the text that `sheet` leaves in a buffer: as many of its first bytes as the reply says; and line i of it
abbrev pub sheet_text : Header → Arrays → List ℕ → List ℕ
sheet_text h a buffer = take (sheet_reply h a buffer).length (sheet_bytes h a buffer)

abbrev pub line_at : Header → Arrays → List ℕ → ℕ → List ℕ
line_at h a buffer i = get_or (lines_of (sheet_text h a buffer)) i []

-- the text has one line an interval, of 50 characters before its line feed; line i, read, gives the interval's first bucket, its last,
-- its block, the block's first bin and how many bins the block has
abbrev pub SheetRead : Type 0
SheetRead =
    (h : Header) (a : Arrays) (buffer : List ℕ) → Sound h a → SheetFits h buffer
    → (length (lines_of (sheet_text h a buffer)) ≡ h.interval_count)
    × ((i : ℕ) → i < h.interval_count
    → (length (line_at h a buffer i) ≡ 50)
    × (line_read (line_at h a buffer i)
    ≡ before a.ends i
    ∷ (get_or a.ends i 0 - 1)
    ∷ get_or a.blocks i 0
    ∷ before a.tops (get_or a.blocks i 0)
    ∷ (get_or a.tops (get_or a.blocks i 0) 0 - before a.tops (get_or a.blocks i 0))
    ∷ []))

-- number m of line i, from 0
abbrev pub number_read : Header → Arrays → List ℕ → ℕ → ℕ → ℕ
number_read h a buffer i m = get_or (line_read (line_at h a buffer i)) m 0

-- what is read off it is so: a bucket from a line's first to its last is of the line's block, and lies in one of as many bins as the
-- line says, from its first bin on
abbrev pub SheetPlaces : Type 0
SheetPlaces =
    (h : Header) (a : Arrays) (buffer : List ℕ) → Sound h a → SheetFits h buffer
    → (i x : ℕ) → i < h.interval_count → number_read h a buffer i 0 ≤ x → x ≤ number_read h a buffer i 1
    → (block_of (table h a) x ≡ number_read h a buffer i 2)
    × (number_read h a buffer i 3 ≤ bin (table h a) x)
    × (bin (table h a) x < number_read h a buffer i 3 + number_read h a buffer i 4)

-- the map of document 01 after (14, 5)
unfoldable pub example : State
example = grown (started (sizes 10 2) max_capacity blank) (sizes 10 3 ∷ sizes 14 4 ∷ sizes 14 5 ∷ [])

-- its sheet
abbrev pub SheetExample : Type 0
SheetExample =
    sheet (table example.header example.arrays)
    ≡ text
    "         0         5         0         0         2\n         6         6         3         4         1\n         7         9         1         2         1\n        10        10         3         4         1\n        11        13         2         3         1\n"

-- 255 bytes are enough for it and 254 are not, which 34 says; with P = 0 it is refused by 30 all the same
abbrev pub SheetEdges : Type 0
SheetEdges =
    (sheet_refusal example.header example.arrays (replicate 255 0) ≡ 0)
    × (sheet_refusal example.header example.arrays (replicate 254 0) ≡ 34)
    × (sheet_refusal (with_capacity 0 example.header) example.arrays (replicate 254 0) ≡ 30)

pub record SheetClaims : Type 0 where
  pub field_width : FieldWidth
  pub field_blanks : FieldBlanks
  pub sheet_last : SheetLast
  pub sheet_length : SheetLength
  pub sheet_read : SheetRead
  pub sheet_places : SheetPlaces
  pub sheet_example : SheetExample
  pub sheet_edges : SheetEdges
