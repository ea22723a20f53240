-- Laws of a line's words: the first, and those behind the first blank. Assumes nothing.
use Prim.Native.Nat.{ℕ, suc, ◌+◌, ◌≤◌, ◌<◌}
use mathlib.Core.Path.{◌≡◌, refl, ◌∙◌, ap}
use mathlib.Core.Logic.{⊎_elim}
use mathlib.Core.List.{List, [], ◌∷◌}
use native.Mathlib.Omega.{arith}
use lib.ListN.{length, drop, length-drop}
use lib.Seq.{drop-drop}
use lib.Dec.{eqb}
use Rattle.model.specs.Basics.{if◌then◌otherwise◌}
use Rattle.model.specs.Console.{in_front, words_of}
use Rattle.model.proofs.Counts.{bit_cases}
use Rattle.lines.specs.Words.{up_to, word_at}

-- the words behind the first
unfoldable pub behind : List ℕ → List (List ℕ)
behind [] = []
behind (c ∷ l) = if eqb c 32 then words_of l otherwise behind l

pub words_split : (l : List ℕ) → words_of l ≡ up_to 32 l ∷ behind l
unfolding words_of up_to behind in_front if◌then◌otherwise◌
words_split [] = refl
words_split (c ∷ l) = ⊎_elim (λ t. rw t.0) (λ t. rw (t.0, words_split l)) (bit_cases (eqb c 32))

-- none where the first word is the whole line, and otherwise the words behind a blank
behind_none : (l : List ℕ) → length (up_to 32 l) ≡ length l → behind l ≡ []
unfolding up_to behind if◌then◌otherwise◌
behind_none [] = λ h. refl
behind_none (c ∷ l) =
    ⊎_elim
    (λ t. rw t.0 (λ h. absurd (omega arith)))
    (λ t. rw t.0 (λ h. behind_none l (omega arith)))
    (bit_cases (eqb c 32))

behind_some
    : (l : List ℕ) → length (up_to 32 l) < length l → behind l ≡ words_of (drop (suc (length (up_to 32 l))) l)
unfolding up_to behind if◌then◌otherwise◌
behind_some [] = λ h. absurd (omega arith)
behind_some (c ∷ l) =
    ⊎_elim
    (λ t. rw t.0 (λ h. refl))
    (λ t. rw t.0 (λ h. behind_some l (omega arith)))
    (bit_cases (eqb c 32))

-- the words from place i on, where the first of them ends at place `end`
module _ (l : List ℕ) (i end : ℕ) (w : i ≤ length l) (e : end ≡ i + length (word_at l i)) where
  pub words_last : end ≡ length l → words_of (drop i l) ≡ word_at l i ∷ []
  words_last h =
      words_split (drop i l)
      ∙ ap (λ (ws : List (List ℕ)). word_at l i ∷ ws) (behind_none (drop i l) (omega (arith, length-drop i l)))

  pub words_more : end < length l → words_of (drop i l) ≡ word_at l i ∷ words_of (drop (end + 1) l)
  words_more h =
      let next : i + suc (length (word_at l i)) ≡ end + 1 = omega arith in
      words_split (drop i l)
      ∙ ap (λ (ws : List (List ℕ)). word_at l i ∷ ws)
      (behind_some (drop i l) (omega (arith, length-drop i l))
      ∙ ap words_of (drop-drop (suc (length (word_at l i))) i l ∙ ap (λ n. drop n l) next))
