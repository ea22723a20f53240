-- What is proved of a session's lines. Each claim is a type. Assumes nothing.
use Rattle.std.specs.Prelude.{ℕ, ◌≡◌, ◌⊎◌, Bool, true, false, not, List, [], ◌∷◌, eqb}
use Rattle.model.specs.Basics.{◌and◌, ◌or◌}
use Rattle.model.specs.Refusal.{first}
use Rattle.model.specs.Calls.{answer}
use Rattle.model.specs.Console.{text, read, Session, empty, no_map, current, is_fresh, is_unreadable, command_tests, command_refusal}
use Rattle.model.specs.Console.{line, accepted, after, printed, after_all, output}
use Rattle.model.specs.declared.command.Command.{Command}
use Rattle.model.specs.declared.command.Command.TheVariants.{Fresh, Unreadable}

-- THE TWO ORDERS

-- the refusal of a command in document 01's order, 10 before 23
unfoldable pub ten_first : Session → Command → ℕ
ten_first s c = first ((10, no_map s and not (is_fresh c)) ∷ (23, is_unreadable c) ∷ command_tests (current s) c)

-- the session after a line in that order
unfoldable pub after_ten_first : Session → List ℕ → Session
after_ten_first s l = answer (ten_first s (read l)) (accepted s (read l)) s

-- the refusals of a command: where there is no map and it is unreadable 10 in document 01's order and 23 in the program's, and in every
-- other case equal
abbrev pub Orders : Session → Command → Type 0
Orders s c =
    ((no_map s and is_unreadable c ≡ true) × (ten_first s c ≡ 10) × (command_refusal s c ≡ 23))
    ⊎ ((no_map s and is_unreadable c ≡ false) × (ten_first s c ≡ command_refusal s c))

-- of every line; and the session after it is the same in both
abbrev pub TwoOrders : Type 0
TwoOrders = (s : Session) (l : List ℕ) → Orders s (read l) × (after s l ≡ after_ten_first s l)

-- WHAT IS PRINTED

-- the line prints that it is refused by r, and changes nothing
abbrev pub Refuses : ℕ → Session → List ℕ → Type 0
Refuses r s l = (printed s l ≡ line "refused" (r ∷ [])) × (after s l ≡ s)

-- an unreadable line by 23, whether there is a map or not; while there is none, a readable line other than `fresh` by 10
abbrev pub LinesRefused : Type 0
LinesRefused =
    ((s : Session) (l : List ℕ) → read l ≡ Unreadable → Refuses 23 s l)
    × ((l : List ℕ) → (read l ≡ Unreadable → ⊥) → ((b n : ℕ) → read l ≡ Fresh b n → ⊥) → Refuses 10 empty l)

-- THE FIRST MAP

-- a line is an accepted `fresh`; some line of a list is, each on the session that those before it leave
unfoldable pub begins : Session → List ℕ → Bool
begins s l = is_fresh (read l) and eqb (command_refusal s (read l)) 0

unfoldable pub some_begins : Session → List (List ℕ) → Bool
some_begins s [] = false
some_begins s (l ∷ ls) = begins s l or some_begins (after s l) ls

-- a session has no map exactly until the first accepted `fresh`: a refused one leaves it without
abbrev pub FirstMap : Type 0
FirstMap = (s : Session) (ls : List (List ℕ)) → no_map (after_all s ls) ≡ (no_map s and not (some_begins s ls))

-- mistyped lines before the first map, after a refused `fresh` and after an accepted one
abbrev pub Mistyped : Type 0
Mistyped =
    output (text "fresh 10\nwhere 3\nfresh 0 1\nfrehs 10 2\nmoves\n\nfresh 10 2\nwhere\nwhere 3\n")
    ≡ text "refused 23\nrefused 10\nrefused 1\nrefused 23\nrefused 10\nrefused 23\nok 0 1\nrefused 23\nplace 1 9\n"

pub record ConsoleClaims : Type 0 where
  pub two_orders : TwoOrders
  pub lines_refused : LinesRefused
  pub first_map : FirstMap
  pub mistyped : Mistyped
