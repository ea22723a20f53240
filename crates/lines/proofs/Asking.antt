-- A line that asks for a bucket, read where it stands. Assumes nothing.
use Prim.Native.Nat.{ℕ, ◌+◌, ◌-◌, ◌≤◌, ◌<◌}
use mathlib.Core.Path.{◌≡◌, refl, sym, ◌∙◌, ap}
use mathlib.Core.Bool.{Bool, true, false, not, false≢true}
use mathlib.Core.List.{List, [], ◌∷◌, ◌++◌, append-nil}
use native.Mathlib.Omega.{arith}
use mathlib.Core.Logic.{⊎_elim}
use lib.Dec.{eqb, leb}
use Rattle.std.specs.Prelude.{Option, Some, None}
use lib.ListN.{length, take, drop, get_or, take-append-drop, length-drop}
use lib.Seq.{drop-drop, take_all}
use lib.Pointwise.{pointwise}
use Rattle.std.specs.List.{starts_with}
use Rattle.std.proofs.lemmas.Bool.Decides.{Decides-eqb, same_from_decides}
use Rattle.std.proofs.lemmas.Slice.Eq.{slice_eq-Decides}
use borrow.Author.Tests.{le-leb, eqb-true, ne_eqb}
use Rattle.model.specs.Basics.{if◌then◌otherwise◌, ◌and◌}
use Rattle.model.specs.Decimal.{digits_only, value}
use Rattle.model.specs.Console.{text, in_front, words_of, same, is_number, command, read}
use Rattle.model.specs.declared.command.Command.{Command}
use Rattle.model.specs.declared.command.Command.TheVariants.{Fresh, Grow, Where, At, Moves, Unreadable}
use Rattle.model.proofs.Counts.{bit_cases, and_left, and_right}
use Rattle.lines.specs.Words.{up_to, bytes_at, DigitsTo, NoDigits, AsksFor, AsksForNone, by_asked}
use Rattle.lines.specs.declared.asked.Asked.{Asked}
use Rattle.lines.proofs.Spans.{span_first, none_at}
use Rattle.lines.proofs.Matches.{same_decides}
use Rattle.lines.proofs.Numbers.{Digits, digits_none, digits_run, digits_value, digits_ended, digits_number, number_is, first_digit}

-- eight digits passed at once, or none yet
pub eight_passed
    : (l : List ℕ) (from end v n : ℕ) → from + 8 ≤ length l → digits_only (bytes_at l from 8) ≡ true → n ≡ value (bytes_at l from 8)
    → n ≤ 4_294_967_295 → v ≡ n → end ≡ from + 8 → Digits 10 l from end v
unfolding value
eight_passed l from end v n h d is fits worth at =
    rw (worth, is, at) (digits_run 8 from 0 (digits_none 10 l from (omega arith)) h (omega arith) d (omega (arith, is)))

pub none_passed : (l : List ℕ) (from end v : ℕ) → from ≤ length l → v ≡ 0 → end ≡ from → Digits 10 l from end v
none_passed l from end v h worth at = rw (worth, at) (digits_none 10 l from h)

-- digits up to a line feed at place `end`
pub digits_to
    : {l : List ℕ} {from end v : ℕ} → Digits 10 l from end v → end < length l → get_or l end 0 ≡ 10 → (end ≡ from → ⊥)
    → end ≤ from + 10 → v ≤ 4_294_967_295 → DigitsTo l from v end
digits_to {l} {from} {end} {v} s within feed some few fits =
    let none = none_at s.reached within feed in
    record {
      within = within;
      ends = digits_ended s none;
      number = digits_number s none some (omega arith) fits;
      is = sym (digits_value s none);
    }

-- digits are one word
words_digits : (w : List ℕ) → digits_only w ≡ true → words_of w ≡ w ∷ []
unfolding words_of in_front if◌then◌otherwise◌ digits_only
words_digits [] h = refl
words_digits (c ∷ w) h =
    let one = first_digit c w h in
    rw (ne_eqb c 32 (λ e. omega (arith, one)), words_digits w (and_right _ _ h))

where_reads : (w : List ℕ) → is_number w ≡ true → read (119 ∷ 104 ∷ 101 ∷ 114 ∷ 101 ∷ 32 ∷ w) ≡ Where (value w)
unfolding read words_of in_front command same text ◌and◌ if◌then◌otherwise◌
where_reads w h =
    let n = number_is w h in
    rw (le-leb (length (119 ∷ 104 ∷ 101 ∷ 114 ∷ 101 ∷ 32 ∷ w)) 64 (omega (arith, n.few)), words_digits w n.digits, h)

-- A LINE THAT ASKS FOR A BUCKET

-- words, a blank before each
unfoldable blanks : List (List ℕ) → List ℕ
blanks [] = []
blanks (w ∷ ws) = 32 ∷ w ++ blanks ws

blanks_front : (c : ℕ) (l : List ℕ) (ws : List (List ℕ)) → 32 ∷ l ≡ blanks ws → 32 ∷ c ∷ l ≡ blanks (in_front c ws)
unfolding blanks in_front
blanks_front c l [] h = absurd (omega (arith, ap length h))
blanks_front c l (w ∷ ws) h = let rest : l ≡ w ++ blanks ws = cc in rw rest

blanks_words : (l : List ℕ) → 32 ∷ l ≡ blanks (words_of l)
unfolding blanks words_of if◌then◌otherwise◌
blanks_words [] = refl
blanks_words (c ∷ l) =
    ⊎_elim
    (λ t. rw (t.0, ← blanks_words l, eqb-true c 32 t.0))
    (λ t. rw t.0 (blanks_front c l (words_of l) (blanks_words l)))
    (bit_cases (eqb c 32))

-- what makes a line ask for a bucket: a number behind the word and a blank
pub record Asking (l : List ℕ) : Type 0 where
  pub word : List ℕ
  pub line : l ≡ 119 ∷ 104 ∷ 101 ∷ 114 ∷ 101 ∷ 32 ∷ word
  pub number : is_number word ≡ true

unfoldable is_where : Command → Bool
is_where (Where b) = true
is_where (Fresh a b) = false
is_where (Grow a b) = false
is_where (At a b) = false
is_where Moves = false
is_where Unreadable = false

neither : (t : Bool) (x y : Command) → is_where x ≡ false → is_where y ≡ false → is_where (if t then x otherwise y) ≡ false
unfolding if◌then◌otherwise◌
neither true x y p q = p
neither false x y p q = q

-- of a command that is `where` only if a test holds
tested : (t : Bool) (x : Command) → is_where (if t then x otherwise Unreadable) ≡ true → (t ≡ true) × (is_where x ≡ true)
unfolding if◌then◌otherwise◌ is_where
tested true x h = (refl, h)
tested false x h = absurd (false≢true h)

command_where
    : (ws : List (List ℕ)) → is_where (command ws) ≡ true → (a : List ℕ) × (ws ≡ text "where" ∷ a ∷ []) × (is_number a ≡ true)
unfolding command is_where
command_where [] h = absurd (false≢true h)
command_where (w ∷ []) h = absurd (false≢true (sym (neither (same w (text "moves")) Moves Unreadable refl refl) ∙ h))
command_where (w ∷ a ∷ []) h =
    let both = (tested (same w (text "where") and is_number a) (Where (value a)) h).0 in
    (a, ap (λ (v : List ℕ). v ∷ a ∷ []) ((same_decides w (text "where")).0 (and_left _ _ both)), and_right _ _ both)
command_where (w ∷ a ∷ b ∷ []) h =
    absurd
    (false≢true
    (sym
    (neither (not (is_number a and is_number b)) Unreadable _ refl
    (neither (same w (text "fresh")) (Fresh (value a) (value b)) _ refl
    (neither (same w (text "grow")) (Grow (value a) (value b)) _ refl
    (neither (same w (text "at")) (At (value a) (value b)) Unreadable refl refl))))
    ∙ h))
command_where (w ∷ a ∷ b ∷ c ∷ rest) h = absurd (false≢true h)

reads_where : (l : List ℕ) (b : ℕ) → read l ≡ Where b → Asking l
unfolding read is_where blanks text
reads_where l b e =
    let found = command_where (words_of l) (tested (leb (length l) 64) (command (words_of l)) (ap is_where e)).1 in
    let whole = blanks_words l ∙ ap blanks found.1 in
    let line : l ≡ 119 ∷ 104 ∷ 101 ∷ 114 ∷ 101 ∷ 32 ∷ (found.0 ++ []) = cc in
    record { word = found.0; line = rw append-nil at line; number = found.2 }

-- a test of the word and its blank
pub starts_where
    : (l : List ℕ) (i : ℕ) (r : Bool) → i + 6 ≤ length l
    → r ≡ starts_with eqb (take (length l - i) (drop i l)) (119 ∷ 104 ∷ 101 ∷ 114 ∷ 101 ∷ 32 ∷ [])
    → r ≡ same (bytes_at l i 6) (text "where ")
unfolding text
starts_where l i r w h =
    let word : List ℕ = 119 ∷ 104 ∷ 101 ∷ 114 ∷ 101 ∷ 32 ∷ [] in
    let all : take (length l - i) (drop i l) ≡ drop i l = take_all _ (drop i l) (omega (arith, length-drop i l)) in
    let tested : r ≡ pointwise eqb word (bytes_at l i 6) = rw all at h in
    let front = slice_eq-Decides Decides-eqb word (bytes_at l i 6) r tested in
    let whole = same_decides (bytes_at l i 6) word in
    same_from_decides _ _ (λ e. sym (front.0 e), λ e. front.1 (sym e)) whole

module _ (l : List ℕ) (i : ℕ) (e : same (bytes_at l i 6) (text "where ") ≡ true) where
  line_where : drop i l ≡ 119 ∷ 104 ∷ 101 ∷ 114 ∷ 101 ∷ 32 ∷ drop (i + 6) l
  unfolding text
  line_where =
      sym (take-append-drop 6 (drop i l))
      ∙ ap (λ (w : List ℕ). w ++ drop 6 (drop i l)) ((same_decides (bytes_at l i 6) (text "where ")).0 e)
      ∙ ap (λ (r : List ℕ). text "where " ++ r) (drop-drop 6 i l)

  line : up_to 10 (drop i l) ≡ 119 ∷ 104 ∷ 101 ∷ 114 ∷ 101 ∷ 32 ∷ up_to 10 (drop (i + 6) l)
  unfolding up_to if◌then◌otherwise◌
  line = ap (up_to 10) line_where

  -- a number behind the word and its blank
  pub asks_for : (r : Option Asked) → by_asked (DigitsTo l (i + 6)) (NoDigits l (i + 6)) r → by_asked (AsksFor l i) (AsksForNone l i) r
  unfolding by_asked
  asks_for (Some a) d =
      record {
        within = d.within;
        ends = omega (arith, d.ends, ap length line);
        reads = ap read line ∙ where_reads (up_to 10 (drop (i + 6) l)) d.number ∙ ap Where (sym d.is);
      }
  asks_for None d = λ few b is.
      let a = reads_where (up_to 10 (drop i l)) b is in
      let word : a.word ≡ up_to 10 (drop (i + 6) l) = cc (a.line, line) in
      d (ap is_number (sym word) ∙ a.number)

-- another word
pub asks_none : (l : List ℕ) (i : ℕ) → same (bytes_at l i 6) (text "where ") ≡ false → AsksForNone l i
unfolding same text ◌and◌
asks_none l i e few b is =
    let a = reads_where (up_to 10 (drop i l)) b is in
    let n = length (up_to 10 (drop i l)) in
    let front = sym (take-append-drop n (drop i l)) ∙ ap (λ (w : List ℕ). w ++ drop n (drop i l)) (span_first 10 (drop i l) ∙ a.line) in
    let word : bytes_at l i 6 ≡ text "where " = ap (take 6) front in
    false≢true (sym e ∙ ap (λ (w : List ℕ). same w (text "where ")) word)
