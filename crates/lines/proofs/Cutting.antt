-- Laws of the cut of an input into lines. Assumes nothing.
use Prim.Native.Nat.{ℕ, zero, suc, ◌<◌}
use mathlib.Core.Path.{◌≡◌, refl, sym, ◌∙◌, ap}
use mathlib.Core.Logic.{⊎_elim}
use mathlib.Core.List.{List, [], ◌∷◌, ◌++◌}
use native.Mathlib.Omega.{arith}
use lib.ListN.{length, take, drop}
use lib.Seq.{take_all, take-append-le, length-take-le, take-take}
use lib.Dec.{eqb}
use borrow.Author.Tests.{lt-leb}
use Rattle.model.specs.Basics.{if◌then◌otherwise◌}
use Rattle.model.specs.Console.{in_front, lines_of, read}
use Rattle.model.proofs.Counts.{bit_cases, below_or}
use Rattle.lines.specs.Words.{up_to, up_to_feed}

-- the first line feed ends a line, whatever follows
pub lines_cut
    : (l more : List ℕ) → length (up_to_feed l) < length l
    → lines_of (l ++ more) ≡ up_to_feed l ∷ lines_of (drop (suc (length (up_to_feed l))) l ++ more)
unfolding lines_of in_front up_to if◌then◌otherwise◌
lines_cut [] more = λ h. absurd (omega arith)
lines_cut (c ∷ l) more =
    ⊎_elim
    (λ t. rw t.0 (λ h. refl))
    (λ t. rw t.0 (λ h. ap (in_front c) (lines_cut l more (omega arith))))
    (bit_cases (eqb c 10))

-- AN UNFINISHED LINE, one without a line feed

-- its front is one too
pub front_unfinished : (n : ℕ) (p : List ℕ) → up_to_feed p ≡ p → up_to_feed (take n p) ≡ take n p
unfolding up_to if◌then◌otherwise◌
front_unfinished zero p = λ e. refl
front_unfinished (suc n) [] = λ e. refl
front_unfinished (suc n) (c ∷ p) =
    ⊎_elim
    (λ t. rw t.0 (λ e. absurd (omega (arith, ap length e))))
    (λ t. rw t.0 (λ e. ap (λ (l : List ℕ). c ∷ l) (front_unfinished n p (ap (drop 1) e))))
    (bit_cases (eqb c 10))

-- p in front of the first of the lists
unfoldable ahead : List ℕ → List (List ℕ) → List (List ℕ)
ahead [] ls = ls
ahead (c ∷ p) ls = in_front c (ahead p ls)

ahead_some : (p l : List ℕ) (ls : List (List ℕ)) → ahead p (l ∷ ls) ≡ (p ++ l) ∷ ls
unfolding ahead in_front
ahead_some [] l ls = refl
ahead_some (c ∷ p) l ls = rw (ahead_some p l ls)

ahead_none : (c : ℕ) (p : List ℕ) → ahead (c ∷ p) [] ≡ (c ∷ p) ∷ []
unfolding ahead in_front
ahead_none c [] = refl
ahead_none c (d ∷ p) = rw (ahead_none d p)

lines_ahead : (p more : List ℕ) → up_to_feed p ≡ p → lines_of (p ++ more) ≡ ahead p (lines_of more)
unfolding ahead lines_of up_to if◌then◌otherwise◌
lines_ahead [] more = λ e. refl
lines_ahead (c ∷ p) more =
    ⊎_elim
    (λ t. rw t.0 (λ e. absurd (omega (arith, ap length e))))
    (λ t. rw t.0 (λ e. ap (in_front c) (lines_ahead p more (ap (drop 1) e))))
    (bit_cases (eqb c 10))

module _ (c : ℕ) (p : List ℕ) (e : up_to_feed (c ∷ p) ≡ c ∷ p) where
  -- what follows it, up to a line feed, belongs to it
  pub lines_on : (more l : List ℕ) (ls : List (List ℕ)) → lines_of more ≡ l ∷ ls → lines_of ((c ∷ p) ++ more) ≡ ((c ∷ p) ++ l) ∷ ls
  lines_on more l ls h = lines_ahead (c ∷ p) more e ∙ ap (ahead (c ∷ p)) h ∙ ahead_some (c ∷ p) l ls

  -- at the end of the input it is a line
  pub lines_last : (more : List ℕ) → lines_of more ≡ [] → lines_of ((c ∷ p) ++ more) ≡ (c ∷ p) ∷ []
  lines_last more h = lines_ahead (c ∷ p) more e ∙ ap (ahead (c ∷ p)) h ∙ ahead_none c p

-- THE FIRST BYTES OF A LINE, more than a readable line has

module _ (n : ℕ) (many : 64 < n) where
  -- they say what it says
  pub enough : (l : List ℕ) → read (take n l) ≡ read l
  unfolding read if◌then◌otherwise◌
  enough l =
      ⊎_elim
      (λ s. ap read (take_all n l (omega arith)))
      (λ s.
      let cut : 64 < length (take n l) = omega (arith, length-take-le n l s) in
      rw (lt-leb (length (take n l)) 64 cut, lt-leb (length l) 64 (omega arith)))
      (below_or (length l) n)

  -- whatever follows them
  pub front_enough : (p more : List ℕ) → read (take n p ++ more) ≡ read (p ++ more)
  front_enough p more =
      sym (enough (take n p ++ more))
      ∙ ⊎_elim
      (λ s. ap (λ (q : List ℕ). read (take n (q ++ more))) (take_all n p (omega arith)))
      (λ s.
      ap read
      (take-append-le n (take n p) more (omega (arith, length-take-le n p s))
      ∙ take-take n n p (omega arith)
      ∙ sym (take-append-le n p more s)))
      (below_or (length p) n)
      ∙ enough (p ++ more)
