-- Where lines and words end, and the parts of a line as the functions of this crate read them. Assumes nothing.
use Rattle.std.specs.Prelude.{ℕ, ◌+◌, ◌<◌, ◌≤◌, ◌≡◌, true, List, [], ◌∷◌, length, take, drop, eqb, Option, Some, None}
use Rattle.model.specs.Basics.{if◌then◌otherwise◌}
use Rattle.model.specs.Decimal.{value}
use Rattle.model.specs.Console.{text, same, is_number, read}
use Rattle.model.specs.declared.command.Command.{Command}
use Rattle.model.specs.declared.command.Command.TheVariants.{Fresh, Grow, Where, At, Unreadable}
use Rattle.lines.specs.declared.asked.Asked.{Asked}
use Rattle.lines.specs.declared.Parsed.{Parsed}

-- the bytes before the first e; all where there is none
unfoldable pub up_to : ℕ → List ℕ → List ℕ
up_to e [] = []
up_to e (c ∷ rest) = if eqb c e then [] otherwise c ∷ up_to e rest

-- the bytes before the first line feed
abbrev pub up_to_feed : List ℕ → List ℕ
up_to_feed l = up_to 10 l

-- the word at place i: up to the next blank or the line's end
abbrev pub word_at : List ℕ → ℕ → List ℕ
word_at l i = up_to 32 (drop i l)

-- the number at place i and where it ends
unfoldable pub number_at : List ℕ → ℕ → Option Parsed
number_at l i =
    if is_number (word_at l i) then Some (record { value = value (word_at l i); end = i + length (word_at l i) })
    otherwise None

-- what the word w says before two numbers
unfoldable pub with_two : List ℕ → ℕ → ℕ → Command
with_two w a b =
    if same w (text "fresh") then Fresh a b
    otherwise if same w (text "grow") then Grow a b
    otherwise if same w (text "at") then At a b
    otherwise Unreadable

-- A LINE READ WHERE IT STANDS

-- n bytes from place i on
abbrev pub bytes_at : List ℕ → ℕ → ℕ → List ℕ
bytes_at l i n = take n (drop i l)

-- the bytes from place i up to the next line feed, at place `end`, are a number b
pub record DigitsTo (l : List ℕ) (i b end : ℕ) : Type 0 where
  pub within : end < length l
  pub ends : end ≡ i + length (up_to_feed (drop i l))
  pub number : is_number (up_to_feed (drop i l)) ≡ true
  pub is : b ≡ value (up_to_feed (drop i l))

-- the line from place i up to the next line feed, at place `end`, asks for the bucket b
pub record AsksFor (l : List ℕ) (i b end : ℕ) : Type 0 where
  pub within : end < length l
  pub ends : end ≡ i + length (up_to_feed (drop i l))
  pub reads : read (up_to_feed (drop i l)) ≡ Where b

-- the bytes from place i up to the next line feed are no number
abbrev pub NoDigits : List ℕ → ℕ → Type 0
NoDigits l i = is_number (up_to_feed (drop i l)) ≡ true → ⊥

-- the line from place i on asks for no bucket, if the block has as many bytes left as the longest line that does
abbrev pub AsksForNone : List ℕ → ℕ → Type 0
AsksForNone l i = i + 17 ≤ length l → (b : ℕ) → read (up_to_feed (drop i l)) ≡ Where b → ⊥

-- what holds of a bucket and a place, and what holds where there is none
unfoldable pub by_asked : (ℕ → ℕ → Type 0) → Type 0 → Option Asked → Type 0
by_asked p none (Some a) = p a.bucket a.end
by_asked p none None = none
