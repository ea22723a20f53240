-- What goes on from one standing to another: a line, a page, an unfinished line of which the first bytes are kept. Assumes nothing.
use Prim.Native.Nat.{ℕ, zero, suc, ◌+◌, ◌<◌}
use mathlib.Core.Path.{◌≡◌, refl, sym, ◌∙◌, ap}
use mathlib.Core.Bool.{true, false}
use mathlib.Core.Logic.{⊎_elim}
use mathlib.Core.List.{List, [], ◌∷◌, ◌++◌, append_assoc}
use native.Mathlib.Omega.{arith}
use lib.ListN.{length, take, drop, drop_of_length-le}
use lib.Dec.{ltb}
use borrow.Author.Tests.{ltb-false}
use Rattle.model.specs.Basics.{if◌then◌otherwise◌, joined}
use Rattle.model.specs.Relocations.{page}
use Rattle.model.specs.Console.{Session, lines_of, read, after, printed, after_all, printed_all, moves_of, move_text}
use Rattle.model.proofs.Counts.{bit_cases}
use Rattle.lines.specs.Words.{up_to_feed}
use Rattle.lines.proofs.Cutting.{lines_cut, front_unfinished, lines_on, lines_last, enough, front_enough}
use Rattle.session.specs.Maps.{listed}
use Rattle.console.proofs.Rows.{pages_whole}
use Rattle.standing.specs.Standing.{Standing, due, ending, Goes}

pub goes_none : {put : List ℕ} {s : Standing} → Goes put s put s
goes_none = record { text = λ more. refl; session = λ more. refl }

pub Goes_then
    : {put put' put'' : List ℕ} {s s' s'' : Standing} → Goes put s put' s' → Goes put' s' put'' s'' → Goes put s put'' s''
Goes_then g h =
    record { text = λ more. h.text more ∙ g.text more; session = λ more. h.session more ∙ g.session more }

-- texts in front of x
front : (a b c d x : List ℕ) → a ++ b ≡ c ++ d → a ++ (b ++ x) ≡ c ++ (d ++ x)
front a b c d x e = sym (append_assoc a b x) ∙ ap (λ (l : List ℕ). l ++ x) e ∙ append_assoc c d x

-- A LINE

-- the first line of what is left answered: what it prints is put, or a list in progress
pub line_goes
    : {put put' : List ℕ} {s s' : Standing} (l : List ℕ) → l ≡ up_to_feed s.rest → s.listing ≡ false
    → length (up_to_feed s.rest) < length s.rest → s'.session ≡ after s.session l
    → s'.rest ≡ drop (suc (length l)) s.rest
    → put' ++ listed s'.listing s'.row s'.session ≡ put ++ printed s.session l → Goes put s put' s'
unfolding due ending listed if◌then◌otherwise◌ printed_all after_all
line_goes {put} {put'} {s} {s'} l e n h a r t =
    record {
      text = λ more.
          rw (n, lines_cut s.rest more h, ← e, ← r, ← a)
          (front put' (listed s'.listing s'.row s'.session) put (printed s.session l)
          (printed_all s'.session (lines_of (s'.rest ++ more))) t);
      session = λ more. rw (lines_cut s.rest more h, ← e, ← r, a);
    }

-- A PAGE

-- the text of a page, and what is left of the list
listed_after
    : (rs : List (List ℕ)) (q n k left : ℕ) → k ≡ length (page q n rs) → q + k + left ≡ length rs
    → move_text (page q n rs) ++ (if ltb 0 left then move_text (drop (q + k) rs) otherwise []) ≡ move_text (drop q rs)
unfolding if◌then◌otherwise◌ move_text joined
listed_after rs q n k left e t =
    ⊎_elim
    (λ b. rw (b.0, e) (pages_whole q n rs))
    (λ b.
    let none : drop (q + length (page q n rs)) rs ≡ [] =
    drop_of_length-le rs {i = q + length (page q n rs)} (omega (arith, ltb-false 0 left b.0)) in
    rw b.0 (ap (λ (ss : List (List ℕ)). move_text (page q n rs) ++ move_text ss) (sym none) ∙ pages_whole q n rs))
    (bit_cases (ltb 0 left))

pub page_goes
    : {put : List ℕ} {s : Standing} (rs : List (List ℕ)) (n k left : ℕ) → rs ≡ moves_of s.session → s.listing ≡ true
    → k ≡ length (page s.row n rs) → s.row + k + left ≡ length rs → put ≡ move_text (page s.row n rs)
    → Goes [] s put (record { listing = ltb 0 left; row = s.row + k; session = s.session; rest = s.rest })
unfolding due ending listed if◌then◌otherwise◌
page_goes {put} {s} rs n k left m l e t p =
    record {
      text = λ more.
          rw (l, p, ← m)
          (front (move_text (page s.row n rs)) (if ltb 0 left then move_text (drop (s.row + k) rs) otherwise [])
          [] (move_text (drop s.row rs))
          (printed_all s.session (lines_of (s.rest ++ more))) (listed_after rs s.row n k left e t));
      session = λ more. refl;
    }

-- AN UNFINISHED LINE

-- lines that say the same are answered alike
alike
    : (s : Session) (l l' : List ℕ) (ls : List (List ℕ)) → read l ≡ read l'
    → (printed_all s (l ∷ ls) ≡ printed_all s (l' ∷ ls)) × (after_all s (l ∷ ls) ≡ after_all s (l' ∷ ls))
unfolding printed_all after_all printed after
alike s l l' ls e = (rw e, rw e)

-- its first bytes, more than a readable line has, are answered as all of it, whatever follows
kept_lines
    : (s : Session) (n : ℕ) (p more : List ℕ) → 64 < n → up_to_feed p ≡ p
    → (printed_all s (lines_of (take n p ++ more)) ≡ printed_all s (lines_of (p ++ more)))
    × (after_all s (lines_of (take n p ++ more)) ≡ after_all s (lines_of (p ++ more)))
kept_lines s zero p more h e = absurd (omega arith)
kept_lines s (suc n) [] more h e = (refl, refl)
kept_lines s (suc n) (c ∷ p) more h e = go (lines_of more) refl
  where
    go
        : (ls : List (List ℕ)) → lines_of more ≡ ls
        → (printed_all s (lines_of (take (suc n) (c ∷ p) ++ more)) ≡ printed_all s (lines_of ((c ∷ p) ++ more)))
        × (after_all s (lines_of (take (suc n) (c ∷ p) ++ more)) ≡ after_all s (lines_of ((c ∷ p) ++ more)))
    go [] r =
        rw (lines_last c p e more r, lines_last c (take n p) (front_unfinished (suc n) (c ∷ p) e) more r)
        (alike s (take (suc n) (c ∷ p)) (c ∷ p) [] (enough (suc n) h (c ∷ p)))
    go (l ∷ ls) r =
        rw (lines_on c p e more l ls r, lines_on c (take n p) (front_unfinished (suc n) (c ∷ p) e) more l ls r)
        (alike s (take (suc n) (c ∷ p) ++ l) ((c ∷ p) ++ l) ls (front_enough (suc n) h (c ∷ p) l))

pub kept_Goes
    : {put : List ℕ} {s : Standing} (n : ℕ) → 64 < n → up_to_feed s.rest ≡ s.rest
    → Goes put s put (record { listing = s.listing; row = s.row; session = s.session; rest = take n s.rest })
unfolding due ending
kept_Goes {put} {s} n h e =
    record {
      text = λ more.
          ap (λ (x : List ℕ). put ++ (listed s.listing s.row s.session ++ x)) (kept_lines s.session n s.rest more h e).0;
      session = λ more. (kept_lines s.session n s.rest more h e).1;
    }
