-- Numbers in decimal, as the program reads and prints them and as the rack sheet has them. Text is a list of bytes. Assumes nothing.
use Rattle.std.specs.Prelude.{ℕ, zero, suc, ◌+◌, ◌-◌, ◌*◌, ◌/◌, ◌%◌, Bool, true, List, [], ◌∷◌, ◌++◌, leb, ltb}
use Rattle.model.specs.Basics.{if◌then◌otherwise◌, ◌and◌}

-- READING

unfoldable pub digits_only : List ℕ → Bool
digits_only [] = true
digits_only (c ∷ cs) = leb 48 c and leb c 57 and digits_only cs

-- the value of a word's digits after v
unfoldable pub value_from : ℕ → List ℕ → ℕ
value_from v [] = v
value_from v (c ∷ cs) = value_from (10 * v + (c - 48)) cs

unfoldable pub value : List ℕ → ℕ
value w = value_from 0 w

-- PRINTING

-- the digits of n, at most k of them, the highest first
unfoldable pub digits : ℕ → ℕ → List ℕ
digits zero n = []
digits (suc k) n = (if ltb n 10 then [] otherwise digits k (n / 10)) ++ ((48 + n % 10) ∷ [])

-- a number of up to ten digits in decimal
unfoldable pub decimal : ℕ → List ℕ
decimal n = digits 10 n
