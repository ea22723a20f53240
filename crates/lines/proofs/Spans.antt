-- Laws of the bytes before the first e (`up_to`), and what a loop that looks for it keeps. Assumes nothing.
use Prim.Native.Nat.{ℕ, ◌+◌, ◌≤◌, ◌<◌}
use mathlib.Core.Path.{◌≡◌, refl, sym, ◌∙◌, ap}
use mathlib.Core.Bool.{cond}
use mathlib.Core.List.{List, [], ◌∷◌}
use mathlib.Core.Logic.{⊎_elim}
use native.Mathlib.Numerals.{add-one}
use native.Mathlib.Omega.{arith}
use lib.ListN.{length, take, drop, get_or, drop_of_length-le}
use lib.Seq.{drop-cons}
use lib.Dec.{eqb, ltb}
use Rattle.std.specs.Prelude.{Option, Some, None}
use Rattle.std.specs.List.{position_or_len}
use Rattle.std.proofs.lemmas.List.Recursion.{is_position_or_len}
use Rattle.std.proofs.lemmas.Option.{none-some, cond_some}
use borrow.Author.Tests.{eq-eqb, ne_eqb, ltb-false}
use Rattle.model.specs.Basics.{if◌then◌otherwise◌}
use Rattle.model.proofs.Counts.{bit_cases}
use Rattle.lines.specs.Words.{up_to}

-- they stand first
pub span_first : (e : ℕ) (l : List ℕ) → take (length (up_to e l)) l ≡ up_to e l
unfolding up_to if◌then◌otherwise◌
span_first e [] = refl
span_first e (c ∷ l) =
    ⊎_elim (λ t. rw t.0) (λ t. rw t.0 (ap (λ (r : List ℕ). c ∷ r) (span_first e l))) (bit_cases (eqb c e))

pub span_within : (e : ℕ) (l : List ℕ) → length (up_to e l) ≤ length l
unfolding up_to if◌then◌otherwise◌
span_within e [] = omega arith
span_within e (c ∷ l) =
    ⊎_elim (λ t. rw t.0 (omega arith)) (λ t. rw t.0 (omega (arith, span_within e l))) (bit_cases (eqb c e))

-- from place i on a byte other than e is the first of them
pub span_next
    : (e : ℕ) (l : List ℕ) (i : ℕ) → i < length l → (get_or l i 0 ≡ e → ⊥)
    → up_to e (drop i l) ≡ get_or l i 0 ∷ up_to e (drop (i + 1) l)
unfolding up_to if◌then◌otherwise◌
span_next e l i h k = rw (drop-cons l i 0 h, ne_eqb (get_or l i 0) e k, add-one i)

-- A LOOP THAT LOOKS FOR e

-- place i is not past the first e from place `start` on
pub record Reached (e : ℕ) (l : List ℕ) (start i : ℕ) : Type 0 where
  pub later : start ≤ i
  pub within : i ≤ length l
  pub ends : start + length (up_to e (drop start l)) ≡ i + length (up_to e (drop i l))

pub reached_start : (e : ℕ) (l : List ℕ) (start : ℕ) → start ≤ length l → Reached e l start start
reached_start e l start h = record { later = omega arith; within = h; ends = refl }

module _ {e : ℕ} {l : List ℕ} {start i : ℕ} (s : Reached e l start i) where
  pub reached_next : i < length l → (get_or l i 0 ≡ e → ⊥) → Reached e l start (i + 1)
  reached_next h k =
      record {
        later = omega (arith, s.later);
        within = omega arith;
        ends = omega (arith, s.ends, ap length (span_next e l i h k));
      }

  -- none are left at the end and at e
  pub none_at_end : length l ≤ i → up_to e (drop i l) ≡ []
  unfolding up_to
  none_at_end h = rw (drop_of_length-le l h)

  pub none_at : i < length l → get_or l i 0 ≡ e → up_to e (drop i l) ≡ []
  unfolding up_to if◌then◌otherwise◌
  none_at h k = rw (drop-cons l i 0 h, eq-eqb (get_or l i 0) e k)

  pub reached_end : up_to e (drop i l) ≡ [] → i ≡ start + length (up_to e (drop start l))
  reached_end h = omega (arith, s.ends, ap length h)

-- HOW MANY THEY ARE

-- the place of the first e
pub span_position : (e : ℕ) (l : List ℕ) → length (up_to e l) ≡ position_or_len (λ c. eqb c e) l
unfolding up_to if◌then◌otherwise◌
span_position e =
    is_position_or_len (λ l. length (up_to e l)) (λ c. eqb c e) refl
    (λ c l. ⊎_elim (λ t. rw t.0) (λ t. rw t.0 (omega arith)) (bit_cases (eqb c e)))

-- what a search for it answers
abbrev pub Searched : ℕ → List ℕ → Option ℕ → Type 0
Searched e l r =
    r ≡ cond (ltb (position_or_len (λ c. eqb c e) l) (length l)) (Some (position_or_len (λ c. eqb c e) l)) None

pub searched_some : (e : ℕ) (l : List ℕ) (r : Option ℕ) (n : ℕ) → Searched e l r → r ≡ Some n → n ≡ length (up_to e l)
searched_some e l r n h k =
    let found = cond_some (ltb (position_or_len (λ c. eqb c e) l) (length l)) (position_or_len (λ c. eqb c e) l) n (sym h ∙ k) in
    sym (span_position e l ∙ found.1)

pub searched_none : (e : ℕ) (l : List ℕ) (r : Option ℕ) → Searched e l r → r ≡ None → length l ≡ length (up_to e l)
searched_none e l r h k =
    let p = position_or_len (λ c. eqb c e) l in
    ⊎_elim
    (λ t. let some : r ≡ Some p = h ∙ rw t.0 in absurd (none-some p (sym k ∙ some)))
    (λ t. omega (arith, span_position e l, span_within e l, ltb-false p (length l) t.0))
    (bit_cases (ltb p (length l)))
