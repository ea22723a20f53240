-- Laws of bytes recorded on a log. Assumes nothing.
use Prim.Native.Nat.{ℕ, zero, suc, ◌+◌, ◌-◌, ◌≤◌, ◌<◌, min}
use mathlib.Core.Path.{◌≡◌, refl, sym, ◌∙◌, ap, ap₂, subst}
use mathlib.Core.Logic.{⊎_elim}
use mathlib.Core.List.{List, [], ◌∷◌, ◌++◌}
use native.Mathlib.Omega.{arith}
use lib.ListN.{length, take, drop, set, length-append, length-set, take-append-drop, drop_of_length-le}
use lib.Seq.{take_all, length-take-le, sets, sets-eq, length-sets, paste}
use Rattle.model.proofs.Counts.{below_or}
use Rattle.model.proofs.Entries.{sets_more}
use Rattle.streams.specs.Streams.{Logged}

-- a store past the end changes nothing
set_past : (l : List ℕ) (i v : ℕ) → length l ≤ i → set l i v ≡ l
set_past [] i v h = refl
set_past (x ∷ l) zero v h = absurd (omega arith)
set_past (x ∷ l) (suc i) v h = ap (λ (m : List ℕ). x ∷ m) (set_past l i v (omega arith))

sets_past : (vs l : List ℕ) (i : ℕ) → length l ≤ i → sets l i vs ≡ l
sets_past [] l i h = refl
sets_past (v ∷ vs) l i h = sets_past vs (set l i v) (suc i) (omega (arith, length-set l i v)) ∙ set_past l i v h

-- THE COPY THAT RECORDS

-- as many bytes as there are, or as there is room for
module _ (log : List ℕ) (n : ℕ) (bytes : List ℕ) (count : ℕ) (h : n ≤ length log) (c : count ≡ min (length bytes) (length log - n)) where
  abbrev some : List ℕ
  some = take count bytes

  pub some_length : length some ≡ count
  some_length = length-take-le count bytes (omega arith)

  -- the bytes that have no room change nothing
  some_all : sets log n some ≡ sets log n bytes
  some_all =
      ⊎_elim
      (λ (full : count < length bytes).
      sym (sets_past (drop count bytes) (sets log n some) (n + length some) (omega (arith, some_length, length-sets log n some))))
      (λ (all : length bytes ≤ count). ap (sets (sets log n some) (n + length some)) (sym (drop_of_length-le bytes {i = count} all)))
      (below_or count (length bytes))
      ∙ sets_more some (drop count bytes) log n
      ∙ ap (sets log n) (take-append-drop count bytes)

  pub logged_some : {log' : List ℕ} → log' ≡ paste log n some count → Logged log n bytes log' (n + count)
  logged_some e =
      record {
        holds =
            e
            ∙ ap₂ (λ (b : List ℕ) (i : ℕ). take n log ++ b ++ drop (n + i) log) (take_all count some (omega (arith, some_length)))
            (sym some_length)
            ∙ sym (sets-eq some log n (omega (arith, some_length)))
            ∙ some_all;
        place = omega arith;
      }

-- LOGS

pub logged_none : (log : List ℕ) (n : ℕ) → n ≤ length log → Logged log n [] log n
logged_none log n h = record { holds = refl; place = omega arith }

module _ {log : List ℕ} {n : ℕ} {bytes log' : List ℕ} {n' : ℕ} (t : Logged log n bytes log' n') where
  pub logged_length : length log' ≡ length log
  logged_length = ap length t.holds ∙ length-sets log n bytes

  -- the place reached is on the log
  pub logged_place : n' ≤ length log'
  logged_place = omega (arith, t.place, logged_length)

  -- the same bytes, said in another way
  pub logged_same : {bytes' : List ℕ} → bytes ≡ bytes' → Logged log n bytes' log' n'
  logged_same e = subst (λ (b : List ℕ). Logged log n b log' n') e t

  -- more bytes behind those recorded
  pub logged_more : {more log'' : List ℕ} {n'' : ℕ} → Logged log' n' more log'' n'' → Logged log n (bytes ++ more) log'' n''
  logged_more {more} u =
      record {
        holds =
            u.holds
            ∙ ⊎_elim
            (λ (fits : n + length bytes < length log). ap (λ k. sets log' k more) (omega (arith, t.place)))
            (λ (full : length log ≤ n + length bytes).
            sets_past more log' n' (omega (arith, t.place, logged_length))
            ∙ sym (sets_past more log' (n + length bytes) (omega (arith, logged_length))))
            (below_or (n + length bytes) (length log))
            ∙ ap (λ (l : List ℕ). sets l (n + length bytes) more) t.holds
            ∙ sets_more bytes more log n;
        place = omega (arith, t.place, u.place, logged_length, length-append bytes more);
      }
