-- Document 01, 'The program rackmap': its lines, what it prints, and a session. Text is a list of bytes. Assumes nothing.
use Rattle.std.specs.Prelude.{ℕ, Bool, true, false, not, List, [], ◌∷◌, ◌++◌, map, length, leb, eqb}
use Prim.Native.Char.{code}
use Prim.Native.String.{String, [] as end_of_text, ◌∷◌ as ◌before_text◌}
use Rattle.model.specs.Basics.{if◌then◌otherwise◌, ◌and◌, joined}
use Rattle.model.specs.Decimal.{digits_only, value, decimal}
use Rattle.model.specs.Limits.{max_capacity}
use Rattle.model.specs.Table.{Table, sizes}
use Rattle.model.specs.Search.{place_at, found_at}
use Rattle.model.specs.Refusal.{Test, first, intervals_full}
use Rattle.model.specs.Initial.{initial}
use Rattle.model.specs.Expansion.{expanded, moved}
use Rattle.model.specs.Relocations.{rows}
use Rattle.model.specs.Calls.{answer, fresh_tests, growth_tests, place_tests, find_tests}
use Rattle.model.specs.declared.answer.Answer.{Answer}
use Rattle.model.specs.declared.answer.Answer.TheVariants as says
use Rattle.model.specs.declared.command.Command.{Command}
use Rattle.model.specs.declared.command.Command.TheVariants.{Fresh, Grow, Where, At, Moves, Unreadable}

-- the bytes of a text
unfoldable pub text : String → List ℕ
text end_of_text = []
text (c before_text rest) = code c ∷ text rest

-- LINES

-- c in front of the first of the lists
unfoldable pub in_front : ℕ → List (List ℕ) → List (List ℕ)
in_front c [] = (c ∷ []) ∷ []
in_front c (l ∷ ls) = (c ∷ l) ∷ ls

-- the lines of the input: each up to a line feed, and the bytes after the last line feed, if any
unfoldable pub lines_of : List ℕ → List (List ℕ)
lines_of [] = []
lines_of (c ∷ rest) = if eqb c 10 then [] ∷ lines_of rest otherwise in_front c (lines_of rest)

-- the words of a line: what stands before, between and after its blanks
unfoldable pub words_of : List ℕ → List (List ℕ)
words_of [] = [] ∷ []
words_of (c ∷ rest) = if eqb c 32 then [] ∷ words_of rest otherwise in_front c (words_of rest)

unfoldable pub same : List ℕ → List ℕ → Bool
same [] [] = true
same [] (d ∷ ds) = false
same (c ∷ cs) [] = false
same (c ∷ cs) (d ∷ ds) = eqb c d and same cs ds

-- a decimal number: one to ten digits, at most 4,294,967,295
unfoldable pub is_number : List ℕ → Bool
is_number w = leb 1 (length w) and leb (length w) 10 and digits_only w and leb (value w) 4_294_967_295

-- a word and its numbers
unfoldable pub command : List (List ℕ) → Command
command [] = Unreadable
command (w ∷ []) = if same w (text "moves") then Moves otherwise Unreadable
command (w ∷ a ∷ []) = if same w (text "where") and is_number a then Where (value a) otherwise Unreadable
command (w ∷ a ∷ b ∷ []) =
    if not (is_number a and is_number b) then Unreadable
    otherwise if same w (text "fresh") then Fresh (value a) (value b)
    otherwise if same w (text "grow") then Grow (value a) (value b)
    otherwise if same w (text "at") then At (value a) (value b)
    otherwise Unreadable
command (w ∷ a ∷ b ∷ c ∷ rest) = Unreadable

-- what a line says; one of more than 64 bytes is unreadable
unfoldable pub read : List ℕ → Command
read l = if leb (length l) 64 then command (words_of l) otherwise Unreadable

-- PRINTING

-- a word and its numbers, with single blanks between, and a line feed
unfoldable pub line : String → List ℕ → List ℕ
line w ns = text w ++ joined (map (λ n. 32 ∷ decimal n) ns) ++ (10 ∷ [])

-- A SESSION: its maps have the capacity 1,000,000,000

-- no map; a fresh map; the map before the latest growth and the map after it
pub data Session : Type 0 where
  empty : Session
  fresh : Table → Session
  grown : Table → Table → Session

unfoldable pub no_map : Session → Bool
no_map empty = true
no_map (fresh t) = false
no_map (grown t u) = false

unfoldable pub current : Session → Table
current empty = record { buckets = 0; capacity = 0; tops = []; intervals = [] }
current (fresh t) = t
current (grown t u) = u

unfoldable pub is_fresh : Command → Bool
is_fresh (Fresh b n) = true
is_fresh (Grow b n) = false
is_fresh (Where x) = false
is_fresh (At y p) = false
is_fresh Moves = false
is_fresh Unreadable = false

unfoldable pub is_unreadable : Command → Bool
is_unreadable (Fresh b n) = false
is_unreadable (Grow b n) = false
is_unreadable (Where x) = false
is_unreadable (At y p) = false
is_unreadable Moves = false
is_unreadable Unreadable = true

-- the tests of every line. 23: it is unreadable. 10: there is no map, and it is not a readable `fresh`
unfoldable pub line_tests : Session → Command → List Test
line_tests s c =
    (23, is_unreadable c)
    ∷ (10, no_map s and not (is_fresh c))
    ∷ []

-- the tests of a command on the table t
unfoldable pub command_tests : Table → Command → List Test
command_tests t (Fresh b n) = fresh_tests (sizes b n) max_capacity
command_tests t (Grow b n) = growth_tests t (sizes b n) ++ ((8, intervals_full t (sizes b n)) ∷ [])
command_tests t (Where x) = place_tests t x
command_tests t (At y p) = find_tests t y p
command_tests t Moves = []
command_tests t Unreadable = []

-- the first of them that holds
unfoldable pub command_refusal : Session → Command → ℕ
command_refusal s c = first (line_tests s c ++ command_tests (current s) c)

-- the rows of the latest growth, and the `move` lines of rows
unfoldable pub moves_of : Session → List (List ℕ)
moves_of empty = []
moves_of (fresh t) = []
moves_of (grown t u) = rows t u

unfoldable pub move_text : List (List ℕ) → List ℕ
move_text rs = joined (map (line "move") rs)

-- what an accepted command leaves, and what it answers; an unreadable line is not accepted
unfoldable pub accepted : Session → Command → Session
accepted s (Fresh b n) = fresh (initial (sizes b n) max_capacity)
accepted s (Grow b n) = grown (current s) (expanded (current s) (sizes b n))
accepted s (Where x) = s
accepted s (At y p) = s
accepted s Moves = s
accepted s Unreadable = s

unfoldable pub accepted_answer : Session → Command → Answer
accepted_answer s (Fresh b n) = says.Table 0 (length (initial (sizes b n) max_capacity).intervals)
accepted_answer s (Grow b n) =
    says.Table
    (moved (current s) (expanded (current s) (sizes b n)))
    (length (expanded (current s) (sizes b n)).intervals)
accepted_answer s (Where x) = says.Place (place_at (current s) x).bin (place_at (current s) x).position
accepted_answer s (At y p) = says.Bucket (found_at (current s) y p).bucket
accepted_answer s Moves = says.Moves
accepted_answer s Unreadable = says.Refused 23

-- the answer to a command
unfoldable pub command_answer : Session → Command → Answer
command_answer s c = answer (command_refusal s c) (accepted_answer s c) (says.Refused (command_refusal s c))

-- what an answer prints; `moves` the lines of the latest growth
unfoldable pub answer_text : Session → Answer → List ℕ
answer_text s (says.Refused r) = line "refused" (r ∷ [])
answer_text s (says.Table m k) = line "ok" (m ∷ k ∷ [])
answer_text s (says.Place y p) = line "place" (y ∷ p ∷ [])
answer_text s (says.Bucket x) = line "bucket" (x ∷ [])
answer_text s says.Moves = move_text (moves_of s)

-- a line: the session after it, and what is printed; a refused line changes nothing
unfoldable pub after : Session → List ℕ → Session
after s l = answer (command_refusal s (read l)) (accepted s (read l)) s

unfoldable pub printed : Session → List ℕ → List ℕ
printed s l = answer_text s (command_answer s (read l))

-- all lines of an input: the session after them, and what is printed
unfoldable pub after_all : Session → List (List ℕ) → Session
after_all s [] = s
after_all s (l ∷ ls) = after_all (after s l) ls

unfoldable pub printed_all : Session → List (List ℕ) → List ℕ
printed_all s [] = []
printed_all s (l ∷ ls) = printed s l ++ printed_all (after s l) ls

unfoldable pub output : List ℕ → List ℕ
output input = printed_all empty (lines_of input)
