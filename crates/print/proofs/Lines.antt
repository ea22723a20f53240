-- Laws of printed lines: the numbers of one, and how long it can be. Assumes nothing.
use Prim.Native.Nat.{ℕ, ◌+◌, ◌-◌, ◌*◌, ◌≤◌, ◌<◌}
use Prim.Native.String.{String}
use mathlib.Core.Path.{◌≡◌, refl, ◌∙◌, ap}
use mathlib.Core.List.{List, [], ◌∷◌, ◌++◌, map, map-append, append-nil, append_assoc}
use native.Mathlib.Omega.{arith}
use lib.ListN.{length, get_or, take, set, length-append}
use lib.Seq.{sets, take_all, length-take-le}
use Rattle.model.specs.Basics.{joined}
use Rattle.model.specs.Decimal.{decimal}
use Rattle.model.specs.Console.{text, line}
use Rattle.model.proofs.Entries.{Put, put_length, put_more}
use Rattle.model.proofs.Rows.{joined_append}
use Rattle.print.specs.Numbers.{move_room, numbers, line_of}
use Rattle.model.proofs.Decimals.{decimal_short}
use Rattle.print.proofs.Stores.{take_next}

numbers_append : (ms ns : List ℕ) → numbers (ms ++ ns) ≡ numbers ms ++ numbers ns
unfolding numbers
numbers_append ms ns =
    ap joined (map-append (λ n. 32 ∷ decimal n) ms ns) ∙ joined_append (map (λ n. 32 ∷ decimal n) ms) (map (λ n. 32 ∷ decimal n) ns)

-- one more number
pub numbers_next
    : (ns : List ℕ) (i : ℕ) → i < length ns → numbers (take (i + 1) ns) ≡ numbers (take i ns) ++ (32 ∷ decimal (get_or ns i 0))
unfolding numbers joined
numbers_next ns i h =
    ap numbers (take_next ns i h)
    ∙ numbers_append (take i ns) (get_or ns i 0 ∷ [])
    ∙ ap (λ (ds : List ℕ). numbers (take i ns) ++ ds) (append-nil (32 ∷ decimal (get_or ns i 0)))

-- a blank and at most ten digits each
pub numbers_short : (ns : List ℕ) → length (numbers ns) ≤ 11 * length ns
unfolding numbers joined
numbers_short [] = omega arith
numbers_short (n ∷ ns) =
    omega (arith, decimal_short n, numbers_short ns, length-append (32 ∷ decimal n) (numbers ns))

pub line_short : (w : String) (ns : List ℕ) → length (line w ns) ≤ length (text w) + 11 * length ns + 1
unfolding line numbers
line_short w ns =
    omega (
      arith,
      numbers_short ns,
      length-append (text w) (numbers ns),
      length-append (text w ++ numbers ns) (10 ∷ []),
    )

pub move_short : (row : List ℕ) → length row ≡ 5 → length (line "move" row) ≤ move_room
unfolding text
move_short row five = omega (arith, line_short "move" row)

-- A LINE IN PROGRESS: the word and its first i numbers are stored from place `at` up to place `end`
pub record Begun (word ns : List ℕ) (at i end : ℕ) (old out : List ℕ) : Type 0 where
  pub some : i ≤ length ns
  pub stored : Put at end (word ++ numbers (take i ns)) old out

module _ {word ns : List ℕ} {at : ℕ} {old : List ℕ} where
  pub begun_none
      : {end : ℕ} {out : List ℕ} → end ≡ at + length word → out ≡ sets old at word → Begun word ns at 0 end old out
  unfolding numbers joined
  begun_none p e = record { some = omega arith; stored = rw append-nil (record { place = p; holds = e }) }

  pub begun_more
      : {i end : ℕ} {out : List ℕ} → Begun word ns at i end old out → {next : ℕ} {new : List ℕ} → i < length ns
      → next ≡ end + length (32 ∷ decimal (get_or ns i 0)) → new ≡ sets out end (32 ∷ decimal (get_or ns i 0))
      → Begun word ns at (i + 1) next old new
  begun_more {i} b h p e =
      record {
        some = omega arith;
        stored = rw (numbers_next ns i h, ← append_assoc) (put_more b.stored (32 ∷ decimal (get_or ns i 0)) e p);
      }

  -- with room for those that are left and the line feed
  pub begun_room
      : {i end : ℕ} {out : List ℕ} → Begun word ns at i end old out → at + length word + 11 * length ns < length old
      → end + 11 * (length ns - i) < length out
  begun_room {i} b h =
      omega (
        arith,
        b.some,
        b.stored.place,
        put_length b.stored,
        numbers_short (take i ns),
        length-take-le i ns b.some,
        length-append word (numbers (take i ns)),
      )

  pub begun_done
      : {i end : ℕ} {out : List ℕ} → Begun word ns at i end old out → length ns ≤ i
      → Put at (end + 1) (line_of word ns) old (set out end 10)
  unfolding line_of
  begun_done {i} b h =
      let all : take i ns ≡ ns = take_all i ns h in
      rw all at (put_more b.stored (10 ∷ []) refl refl)
