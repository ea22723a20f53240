-- Laws of the pages of a move list: rows as numbers, and as lines. Assumes nothing.
use Prim.Native.Nat.{ℕ, zero, suc, ◌+◌, ◌*◌, ◌/◌, ◌≤◌}
use mathlib.Core.Path.{◌≡◌, refl, sym, ◌∙◌, ap, ap₂, subst}
use mathlib.Core.Bool.{false, true≢false}
use mathlib.Core.List.{List, [], ◌∷◌, ◌++◌, map, map-append, append-nil}
use native.Mathlib.Decide.{ℕ_discrete}
use native.Mathlib.Nat.{zero-add, add-zero}
use native.Mathlib.Numerals.{add-one}
use native.Mathlib.Omega.{arith}
use lib.ListN.{length, get_or, take, drop, length-append}
use lib.Seq.{get_or-drop, drop-drop, sets}
use borrow.Author.Tests.{le-ltb}
use Rattle.model.specs.Basics.{if◌then◌otherwise◌, from, joined}
use Rattle.model.specs.Table.{Shape, Table, over}
use Rattle.model.specs.Refusal.{first}
use Rattle.model.specs.Expansion.{expanded}
use Rattle.model.specs.Relocations.{rows, page}
use Rattle.model.specs.Calls.{growth_tests, order_tests, relocations_answer, buffer_after}
use Rattle.model.specs.Console.{line, moves_of, move_text}
use Rattle.model.specs.declared.reply.RelocationsReply.{RelocationsReply}
use Rattle.model.proofs.Refusals.{first_after, accepted, refused}
use Rattle.model.proofs.Soundness.{growth_numbered}
use Rattle.model.proofs.Tables.{from_append, length_over}
use Rattle.model.proofs.Rows.{joined_append}
use Rattle.model.proofs.Pages.{Fives, fives_length, fives_page, fives_rows, page_length, page_past}
use Rattle.expansion.specs.Replies.{moves_refusal, MovesReply}
use Rattle.print.specs.Numbers.{move_room}
use Rattle.print.proofs.Lines.{move_short}
use Rattle.session.specs.Maps.{Maps, is_grown, map_of, before_of, session_at, session, sizes_of, GrownFrom}
use Rattle.session.specs.declared.state.Stage.{Stage}
use Rattle.session.specs.declared.state.Stage.TheVariants as stage
use Rattle.console.specs.Listing.{row_at, rows_in, Lines, growth_rows, Growth, Listed}

-- ROWS AS NUMBERS

-- the rows of numbers that begin with joined rows are those rows
rows_from
    : (rs : List (List ℕ)) (i : ℕ) (xs rest : List ℕ) → Fives rs → drop (5 * i) xs ≡ joined rs ++ rest
    → from (row_at xs) i (length rs) ≡ rs
unfolding from joined row_at
rows_from [] i xs rest h e = refl
rows_from ((a ∷ b ∷ c ∷ d ∷ v ∷ []) ∷ rs) i xs rest h e =
    let at : (j : ℕ) → get_or xs (5 * i + j) 0 ≡ get_or (a ∷ b ∷ c ∷ d ∷ v ∷ (joined rs ++ rest)) j 0 =
    λ j. sym (get_or-drop (5 * i) xs j 0) ∙ ap (λ (l : List ℕ). get_or l j 0) e in
    let none : get_or xs (5 * i) 0 ≡ a = ap (λ k. get_or xs k 0) (sym (add-zero (5 * i))) ∙ at 0 in
    let next : drop (5 * suc i) xs ≡ joined rs ++ rest =
    let more : 5 * suc i ≡ 5 * i + 5 = omega arith in
    ap (λ k. drop k xs) more ∙ sym (drop-drop 5 (5 * i) xs) ∙ ap (drop 5) e in
    rw (none, at 1, at 2, at 3, at 4, rows_from rs (suc i) xs rest h.1 next)
rows_from ([] ∷ rs) i xs rest h e = absurd (let n : 0 ≡ 5 = h.0 in omega arith)
rows_from ((a ∷ []) ∷ rs) i xs rest h e = absurd (let n : 1 ≡ 5 = h.0 in omega arith)
rows_from ((a ∷ b ∷ []) ∷ rs) i xs rest h e = absurd (let n : 2 ≡ 5 = h.0 in omega arith)
rows_from ((a ∷ b ∷ c ∷ []) ∷ rs) i xs rest h e = absurd (let n : 3 ≡ 5 = h.0 in omega arith)
rows_from ((a ∷ b ∷ c ∷ d ∷ []) ∷ rs) i xs rest h e = absurd (let n : 4 ≡ 5 = h.0 in omega arith)
rows_from ((a ∷ b ∷ c ∷ d ∷ v ∷ w ∷ more) ∷ rs) i xs rest h e =
    absurd (let n : suc (suc (suc (suc (suc (suc (length more)))))) ≡ 5 = h.0 in omega arith)

pub rows_over : (rs : List (List ℕ)) (old : List ℕ) → Fives rs → rows_in (over (joined rs) old) (length rs) ≡ rs
unfolding rows_in over
rows_over rs old h = rows_from rs 0 _ _ h refl

-- row i, by the place of its first number
pub row_at_lem
    : (xs : List ℕ) (i k : ℕ) → k ≡ 5 * i
    → row_at xs i
    ≡ get_or xs k 0
    ∷ get_or xs (k + 1) 0
    ∷ get_or xs (k + 2) 0
    ∷ get_or xs (k + 3) 0
    ∷ get_or xs (k + 4) 0
    ∷ []
unfolding row_at
row_at_lem xs i k e = rw e refl

-- ROWS AS LINES

pub text_next : (xs : List ℕ) (i : ℕ) → move_text (rows_in xs (i + 1)) ≡ move_text (rows_in xs i) ++ line "move" (row_at xs i)
unfolding move_text rows_in from joined
text_next xs i =
    ap (λ (rs : List (List ℕ)). joined (map (line "move") rs)) (sym (from_append (row_at xs) 0 i 1))
    ∙ ap joined (map-append (line "move") (from (row_at xs) 0 i) (row_at xs (0 + i) ∷ []))
    ∙ joined_append (map (line "move") (from (row_at xs) 0 i)) (line "move" (row_at xs (0 + i)) ∷ [])
    ∙ ap (λ l. joined (map (line "move") (from (row_at xs) 0 i)) ++ l)
    (append-nil (line "move" (row_at xs (0 + i))) ∙ ap (λ k. line "move" (row_at xs k)) (zero-add i))

pub text_short : (xs : List ℕ) (i : ℕ) → length (move_text (rows_in xs i)) ≤ move_room * i
unfolding move_text rows_in from joined row_at
text_short xs zero = omega arith
text_short xs (suc i) =
    omega (
      arith,
      text_short xs i,
      ap (λ k. length (move_text (rows_in xs k))) (sym (add-one i)),
      ap length (text_next xs i),
      length-append (move_text (rows_in xs i)) (line "move" (row_at xs i)),
      row_short xs i,
    )
  where
    row_short : (xs : List ℕ) (i : ℕ) → length (line "move" (row_at xs i)) ≤ move_room
    row_short xs i = move_short (row_at xs i) refl

text_append : (rs ss : List (List ℕ)) → move_text rs ++ move_text ss ≡ move_text (rs ++ ss)
unfolding move_text
text_append rs ss =
    sym (ap joined (map-append (line "move") rs ss) ∙ joined_append (map (line "move") rs) (map (line "move") ss))

-- a page and the rows behind it make up the list from the page's first row on
pub pages_whole
    : (q n : ℕ) (rs : List (List ℕ))
    → move_text (page q n rs) ++ move_text (drop (q + length (page q n rs)) rs) ≡ move_text (drop q rs)
unfolding page
pages_whole q n rs =
    text_append (take (n / 5) (drop q rs)) (drop (q + length (take (n / 5) (drop q rs))) rs)
    ∙ ap (λ (ss : List (List ℕ)). move_text (take (n / 5) (drop q rs) ++ ss)) (sym (drop-drop (length (take (n / 5) (drop q rs))) q rs))
    ∙ ap move_text (page_rest (n / 5) (drop q rs))
  where
    page_rest : (n : ℕ) (rs : List (List ℕ)) → take n rs ++ drop (length (take n rs)) rs ≡ rs
    page_rest zero rs = refl
    page_rest (suc n) [] = refl
    page_rest (suc n) (r ∷ rs) = rw (page_rest n rs)

-- A PAGE

rows_five : (t u : Table) → Fives (rows t u)
unfolding rows
rows_five t u = fives_rows t u 0 t.buckets

-- z is the reply of the move list of a growth, whatever is asked for
module _ (t : Table) (s : Shape) (q : ℕ) (buffer after : List ℕ) (z : RelocationsReply) (m : MovesReply t s q buffer after z) where
  abbrev numbers : List (List ℕ)
  numbers = page q (length buffer) (growth_rows t s)

  few : 5 * length numbers ≤ length buffer
  few = omega (arith, page_length q (length buffer) (growth_rows t s))

  five : Fives numbers
  five = fives_page q (length buffer) _ (rows_five t (expanded t s))

  -- the numbers written, and their lines, have room
  pub moves_room : (out : List ℕ) → Lines (length buffer / 5) out → (5 * z.written ≤ length after) × Lines z.written out
  unfolding relocations_answer buffer_after
  moves_room out h =
      elim (ℕ_discrete (moves_refusal t s q) 0) [
        | yes e ↦
            let written : z.written ≡ length numbers = ap (λ (y : RelocationsReply). y.written) (m.reply ∙ accepted _ _ _ e) in
            let long : length after ≡ length buffer =
            ap length (m.lent ∙ accepted _ _ _ e) ∙ length_over (joined numbers) buffer (omega (arith, few, fives_length numbers five)) in
            omega (arith, few)
        | no n ↦
            let written : z.written ≡ 0 = ap (λ (y : RelocationsReply). y.written) (m.reply ∙ refused _ _ _ n) in
            omega arith
      ]

  -- an accepted growth to sizes s₀ with at least q rows, where those are asked for
  module _ (s₀ : Shape) (g : Growth t s₀ q) (asked : s ≡ s₀) where
    abbrev here : List (List ℕ)
    here = page q (length buffer) (growth_rows t s₀)

    unrefused : moves_refusal t s q ≡ 0
    unfolding order_tests first if◌then◌otherwise◌
    unrefused =
        rw asked (first_after (growth_tests t s₀) _ (growth_numbered t s₀) g.0 ∙ rw (le-ltb (length (growth_rows t s₀)) q g.1))

    replied : z ≡ record { refusal = 0; written = length here; total = length (growth_rows t s₀) }
    unfolding relocations_answer
    replied = rw (← asked) (m.reply ∙ accepted _ _ _ unrefused)

    stored : after ≡ over (joined here) buffer
    unfolding buffer_after
    stored = rw (← asked) (m.lent ∙ accepted _ _ _ unrefused)

    same : rows_in after z.written ≡ here
    same =
        ap₂ rows_in stored (ap (λ (y : RelocationsReply). y.written) replied)
        ∙ rows_over here buffer (fives_page q (length buffer) _ (rows_five t (expanded t s₀)))

    pub moves_listed
        : (x n total : ℕ) (old new : List ℕ) → Lines (length buffer / 5) old → x ≡ length (move_text (rows_in after z.written))
        → new ≡ sets old 0 (move_text (rows_in after z.written)) → n ≡ z.written → total ≡ z.total
        → Listed (growth_rows t s₀) q buffer after old new (record { rows = n; total = total; length = x })
    moves_listed x n total old new room a b few whole =
        record {
          rows = few ∙ ap (λ (y : RelocationsReply). y.written) replied;
          total = whole ∙ ap (λ (y : RelocationsReply). y.total) replied;
          numbers = stored;
          size = a ∙ ap (λ rs. length (move_text rs)) same;
          fits = omega (arith, a, text_short after z.written, moves_room old room);
          bytes = b ∙ ap (λ rs. sets old 0 (move_text rs)) same;
        }

-- no rows
pub none_listed : (q : ℕ) (buffer old : List ℕ) → Listed [] q buffer buffer old old (record { rows = 0; total = 0; length = 0 })
unfolding move_text joined
none_listed q buffer old =
    let none = page_past q [] buffer (omega arith) in
    let empty : page q (length buffer) [] ≡ [] = length_zero _ none.0 in
    record { rows = none.0; total = refl; numbers = none.1; size = rw empty; fits = omega arith; bytes = rw empty }
  where
    length_zero : {A : Type 0} (l : List A) → 0 ≡ length l → l ≡ []
    length_zero [] e = refl
    length_zero (x ∷ l) e = absurd (omega arith)

-- the rows of a session: of none and of a fresh map none, of a map that has grown those of the growth
pub moves_none : (m : Maps) → is_grown m.state.stage ≡ false → moves_of (session m) ≡ []
unfolding moves_of session session_at is_grown
moves_none m = at m.state.stage
  where
    at : (g : Stage) → is_grown g ≡ false → moves_of (session_at g (before_of m) (map_of m)) ≡ []
    at stage.Empty e = refl
    at stage.Fresh e = refl
    at stage.Grown e = absurd (true≢false e)

pub moves_grown
    : (m : Maps) → m.state.stage ≡ stage.Grown → GrownFrom m → moves_of (session m) ≡ growth_rows (before_of m) (sizes_of m.state)
unfolding moves_of session session_at
moves_grown m e g = ap (λ st. moves_of (session_at st (before_of m) (map_of m))) e ∙ ap (rows (before_of m)) g.made

-- a page's reply is one on the same table, and the same reply is one
pub page_reply
    : {t u : Table} {s : Shape} {q : ℕ} {buffer left : List ℕ} {r z : RelocationsReply}
    → t ≡ u → z ≡ r → MovesReply t s q buffer left r → MovesReply u s q buffer left z
page_reply {t} {u} {s} {q} {buffer} {left} {r} {z} e f g =
    subst (λ t. MovesReply t s q buffer left z) e (subst (MovesReply t s q buffer left) (sym f) g)
