-- What a line says, by its words as they are found. Assumes nothing.
use Prim.Native.Nat.{ℕ, ◌+◌, ◌≤◌, ◌<◌}
use mathlib.Core.Path.{◌≡◌, refl, sym, ◌∙◌, ap}
use mathlib.Core.Bool.{Bool, true, false}
use mathlib.Core.Logic.{⊎_elim}
use mathlib.Core.List.{List, [], ◌∷◌}
use native.Mathlib.Omega.{arith}
use Rattle.std.specs.Prelude.{Some, None, unwrap_or}
use Rattle.std.specs.Bool.{then_some}
use Rattle.std.proofs.lemmas.Option.{none-some}
use lib.ListN.{length, take, drop, length-drop}
use borrow.Author.Tests.{le-leb, lt-leb}
use Rattle.model.specs.Basics.{if◌then◌otherwise◌, ◌and◌}
use Rattle.model.specs.Decimal.{value}
use Rattle.model.specs.Console.{text, words_of, same, is_number, command, read}
use Rattle.model.specs.declared.command.Command.TheVariants.{Where, Moves, Unreadable}
use Rattle.model.proofs.Counts.{bit_cases}
use Rattle.lines.specs.Words.{word_at, number_at, with_two}
use Rattle.lines.specs.declared.Parsed.{Parsed}
use Rattle.lines.proofs.Spans.{span_first, span_within}
use Rattle.lines.proofs.Words.{behind, words_split, words_last, words_more}

-- THE ANSWERS OF `number`

not_read : (l : List ℕ) (i : ℕ) → number_at l i ≡ None → is_number (word_at l i) ≡ false
unfolding number_at if◌then◌otherwise◌
not_read l i =
    ⊎_elim
    (λ t. rw t.0 (λ h. absurd (none-some _ (sym h))))
    (λ t h. t.0)
    (bit_cases (is_number (word_at l i)))

-- a number v at place i, up to place `end`
pub record NumberAt (l : List ℕ) (i v end : ℕ) : Type 0 where
  pub is : is_number (word_at l i) ≡ true
  pub reads : v ≡ value (word_at l i)
  pub ends : end ≡ i + length (word_at l i)
  pub within : end ≤ length l

was_read : (l : List ℕ) (i v end : ℕ) → i ≤ length l → number_at l i ≡ Some (record { value = v; end = end }) → NumberAt l i v end
unfolding number_at if◌then◌otherwise◌
was_read l i v end w =
    ⊎_elim
    (λ t.
    rw t.0
    (λ h.
    let same : ◌≡◌ {A = Parsed} (record { value = value (word_at l i); end = i + length (word_at l i) }) (record { value = v; end = end }) = cc in
    let ends : end ≡ i + length (word_at l i) = sym (ap (λ (p : Parsed). p.end) same) in
    record {
      is = t.0;
      reads = sym (ap (λ (p : Parsed). p.value) same);
      ends = ends;
      within = omega (arith, span_within 32 (drop i l), length-drop i l);
    }))
    (λ t. rw t.0 (λ h. absurd (none-some _ h)))
    (bit_cases (is_number (word_at l i)))

-- A LINE'S PARTS, AS THEY ARE FOUND

-- the first word ends at place `end`
pub record First (l : List ℕ) (end : ℕ) : Type 0 where
  pub short : length l ≤ 64
  pub ends : end ≡ length (word_at l 0)
  pub within : end ≤ length l

-- and a number a stands behind it, up to place `second`
pub record Second (l : List ℕ) (end a second : ℕ) : Type 0 where
  pub first : First l end
  pub more : end < length l
  pub number : NumberAt l (end + 1) a second

-- and a number b behind that, up to place `third`
pub record Third (l : List ℕ) (end a second b third : ℕ) : Type 0 where
  pub seconds : Second l end a second
  pub more : second < length l
  pub number : NumberAt l (second + 1) b third

pub first : (l : List ℕ) (end : ℕ) → length l ≤ 64 → end ≡ 0 + length (word_at l 0) → First l end
first l end s e = record { short = s; ends = omega arith; within = omega (arith, span_within 32 l) }

pub second
    : {l : List ℕ} {end : ℕ} → First l end → (end ≡ length l → ⊥) → (a next : ℕ)
    → number_at l (end + 1) ≡ Some (record { value = a; end = next }) → Second l end a next
second {l} {end} f n a next h =
    let more : end < length l = omega (arith, f.within) in
    record { first = f; more = more; number = was_read l (end + 1) a next (omega arith) h }

pub third
    : {l : List ℕ} {end a next : ℕ} → Second l end a next → (next ≡ length l → ⊥) → (b last : ℕ)
    → number_at l (next + 1) ≡ Some (record { value = b; end = last }) → Third l end a next b last
third {l} {end} {a} {next} s n b last h =
    let more : next < length l = omega (arith, s.number.within) in
    record { seconds = s; more = more; number = was_read l (next + 1) b last (omega arith) h }

-- THE LINE

-- a line of more than 64 bytes
pub read_long : (l : List ℕ) → 64 < length l → Unreadable ≡ read l
unfolding read if◌then◌otherwise◌
read_long l h = rw (lt-leb (length l) 64 h)

-- words whose second is no number, or whose third is none
second_wrong : (w x : List ℕ) (ws : List (List ℕ)) → is_number x ≡ false → command (w ∷ x ∷ ws) ≡ Unreadable
unfolding command if◌then◌otherwise◌ ◌and◌
second_wrong w x [] h = rw h (⊎_elim (λ t. rw t.0) (λ t. rw t.0) (bit_cases (same w (text "where"))))
second_wrong w x (y ∷ []) h = rw h
second_wrong w x (y ∷ z ∷ ws) h = refl

third_wrong : (w x y : List ℕ) (ws : List (List ℕ)) → is_number y ≡ false → command (w ∷ x ∷ y ∷ ws) ≡ Unreadable
unfolding command if◌then◌otherwise◌ ◌and◌
third_wrong w x y [] h = rw h (⊎_elim (λ t. rw t.0) (λ t. rw t.0) (bit_cases (is_number x)))
third_wrong w x y (z ∷ ws) h = refl

module _ {l : List ℕ} {end : ℕ} (f : First l end) where
  read_words : read l ≡ command (words_of l)
  unfolding read if◌then◌otherwise◌
  read_words = rw (le-leb (length l) 64 f.short)

  first_word : word_at l 0 ≡ take end l
  first_word = sym (ap (λ n. take n l) f.ends ∙ span_first 32 l)

  -- one word
  module _ (e : end ≡ length l) where
    one : words_of l ≡ take end l ∷ []
    one =
        words_last l 0 end (omega arith) (omega (arith, f.ends)) e
        ∙ ap (λ (w : List ℕ). w ∷ []) first_word

    pub read_moves : (b : Bool) → b ≡ same (take end l) (text "moves") → unwrap_or (then_some b Moves) Unreadable ≡ read l
    unfolding command if◌then◌otherwise◌
    read_moves true h = sym (read_words ∙ ap command one ∙ rw (sym h))
    read_moves false h = sym (read_words ∙ ap command one ∙ rw (sym h))

  -- and more
  several : end < length l → read l ≡ command (take end l ∷ words_of (drop (end + 1) l))
  several h =
      read_words
      ∙ ap command
      (words_more l 0 end (omega arith) (omega (arith, f.ends)) h
      ∙ ap (λ (w : List ℕ). w ∷ words_of (drop (end + 1) l)) first_word)

  pub read_no_second : (end ≡ length l → ⊥) → number_at l (end + 1) ≡ None → Unreadable ≡ read l
  read_no_second n h =
      sym
      (several (omega (arith, f.within))
      ∙ ap (λ (ws : List (List ℕ)). command (take end l ∷ ws)) (words_split (drop (end + 1) l))
      ∙ second_wrong (take end l) (word_at l (end + 1)) (behind (drop (end + 1) l)) (not_read l (end + 1) h))

module _ {l : List ℕ} {end a second : ℕ} (s : Second l end a second) where
  -- two words
  module _ (e : second ≡ length l) where
    two : read l ≡ command (take end l ∷ word_at l (end + 1) ∷ [])
    two =
        several s.first s.more
        ∙ ap (λ (ws : List (List ℕ)). command (take end l ∷ ws))
        (words_last l (end + 1) second (omega (arith, s.more)) s.number.ends e)

    pub read_where : (b : Bool) → b ≡ same (take end l) (text "where") → unwrap_or (then_some b (Where a)) Unreadable ≡ read l
    unfolding command if◌then◌otherwise◌ ◌and◌
    read_where true h = sym (two ∙ rw (sym h, s.number.is, ← s.number.reads))
    read_where false h = sym (two ∙ rw (sym h))

  -- and more
  further : second < length l → read l ≡ command (take end l ∷ word_at l (end + 1) ∷ words_of (drop (second + 1) l))
  further h =
      several s.first s.more
      ∙ ap (λ (ws : List (List ℕ)). command (take end l ∷ ws))
      (words_more l (end + 1) second (omega (arith, s.more)) s.number.ends h)

  pub read_no_third : (second ≡ length l → ⊥) → number_at l (second + 1) ≡ None → Unreadable ≡ read l
  read_no_third n h =
      sym
      (further (omega (arith, s.number.within))
      ∙ ap (λ (ws : List (List ℕ)). command (take end l ∷ word_at l (end + 1) ∷ ws)) (words_split (drop (second + 1) l))
      ∙ third_wrong (take end l) (word_at l (end + 1)) (word_at l (second + 1)) (behind (drop (second + 1) l)) (not_read l (second + 1) h))

module _ {l : List ℕ} {end a second b third : ℕ} (s : Third l end a second b third) where
  -- three words
  pub read_two : length l ≤ third → with_two (take end l) a b ≡ read l
  unfolding command if◌then◌otherwise◌ ◌and◌ with_two
  read_two h =
      sym
      (further s.seconds s.more
      ∙ ap (λ (ws : List (List ℕ)). command (take end l ∷ word_at l (end + 1) ∷ ws))
      (words_last l (second + 1) third (omega (arith, s.more)) s.number.ends (omega (arith, s.number.within)))
      ∙ rw (s.seconds.number.is, s.number.is, ← s.seconds.number.reads, ← s.number.reads))

  -- and more
  pub read_more : third < length l → Unreadable ≡ read l
  unfolding command
  read_more h =
      sym
      (further s.seconds s.more
      ∙ ap (λ (ws : List (List ℕ)). command (take end l ∷ word_at l (end + 1) ∷ ws))
      (words_more l (second + 1) third (omega (arith, s.more)) s.number.ends h
      ∙ ap (λ (ws : List (List ℕ)). word_at l (second + 1) ∷ ws) (words_split (drop (third + 1) l))))
