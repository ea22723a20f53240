-- Laws of a call's tests: the Boolean words, limits, and the first test that holds. Assumes nothing.
use Prim.Native.Nat.{ℕ, ◌≤◌}
use mathlib.Core.Path.{◌≡◌, refl, sym, ◌∙◌}
use mathlib.Core.Logic.{⊎_elim}
use mathlib.Core.Bool.{Bool, true, false, not, false≢true}
use mathlib.Core.List.{List, [], ◌∷◌, ◌++◌}
use native.Mathlib.Omega.{arith}
use borrow.Author.Tests.{ltb-false, le-ltb, eqb-false, ne_eqb}
use Rattle.model.specs.Basics.{if◌then◌otherwise◌, ◌and◌, ◌or◌}
use Rattle.model.specs.Refusal.{Test, first, outside}
use Rattle.model.specs.Calls.{answer}
use Rattle.model.proofs.Counts.{bit_cases}

-- BOOLEAN WORDS

-- `or` is false exactly where both are
pub or_left : (a b : Bool) → a or b ≡ false → a ≡ false
unfolding ◌or◌
or_left true b h = h
or_left false b h = refl

pub or_right : (a b : Bool) → a or b ≡ false → b ≡ false
unfolding ◌or◌
or_right true b h = absurd (false≢true (sym h))
or_right false b h = h

-- both at once
pub or_split : (a b : Bool) → a or b ≡ false → (a ≡ false) × (b ≡ false)
or_split a b h = (or_left a b h, or_right a b h)

pub or_both : (a b : Bool) → a ≡ false → b ≡ false → a or b ≡ false
unfolding ◌or◌
or_both a b h k = rw (h, k)

-- `and` is false where the second is
pub and_false : (b : Bool) → b and false ≡ false
unfolding ◌and◌
and_false true = refl
and_false false = refl

-- not false, from true: the other way of `not_false`
pub not_clear : (b : Bool) → b ≡ true → not b ≡ false
not_clear b h = rw h

-- LIMITS

-- a number outside no limit is from 1 to it, and the other way
pub inside : (limit x : ℕ) → outside limit x ≡ false → (1 ≤ x) × (x ≤ limit)
unfolding outside
inside limit x h =
    omega (arith, eqb-false x 0 (or_left _ _ h), ltb-false limit x (or_right _ _ h))

pub not_outside : (limit x : ℕ) → 1 ≤ x → x ≤ limit → outside limit x ≡ false
unfolding outside
not_outside limit x h k = or_both _ _ (ne_eqb x 0 (λ e. omega arith)) (le-ltb limit x k)

-- THE FIRST TEST THAT HOLDS

-- no refusal: the first test fails, and so do those after it
pub first_clear
    : (t : Test) (ts : List Test) → (t.0 ≡ 0 → ⊥) → first (t ∷ ts) ≡ 0 → (t.1 ≡ false) × (first ts ≡ 0)
unfolding first if◌then◌otherwise◌
first_clear t ts n = go t.1
  where
    go : (b : Bool) → (if b then t.0 otherwise first ts) ≡ 0 → (b ≡ false) × (first ts ≡ 0)
    go true e = absurd (n e)
    go false e = (refl, e)

-- the same of a number and a test
pub first_number
    : (n : ℕ) (t : Bool) (ts : List Test) → 1 ≤ n → first ((n, t) ∷ ts) ≡ 0 → (t ≡ false) × (first ts ≡ 0)
first_number n t ts l = first_clear (n, t) ts (λ z. omega arith)

-- and the other way: `first_pass` test by test, `first_none` at the end
pub first_pass : (t : Test) (ts : List Test) → t.1 ≡ false → first ts ≡ 0 → first (t ∷ ts) ≡ 0
unfolding first if◌then◌otherwise◌
first_pass t ts h e = rw h e

pub first_none : first [] ≡ 0
unfolding first
first_none = refl

-- a test that fails is passed over
pub first_skip : (t : Test) (ts : List Test) → t.1 ≡ false → first (t ∷ ts) ≡ first ts
unfolding first if◌then◌otherwise◌
first_skip t ts h = rw h

-- a test that holds is the answer
pub first_here : (t : Test) (ts : List Test) → t.1 ≡ true → first (t ∷ ts) ≡ t.0
unfolding first if◌then◌otherwise◌
first_here t ts h = rw h

-- another number than the first test's is given by those after it
pub first_other : (n m : ℕ) (t : Bool) (ts : List Test) → (n ≡ m → ⊥) → first ((n, t) ∷ ts) ≡ m → (t ≡ false) × (first ts ≡ m)
first_other n m t ts d e =
    ⊎_elim
    (λ h. absurd (d (sym (first_here (n, t) ts h.0) ∙ e)))
    (λ h. (h.0, sym (first_skip (n, t) ts h.0) ∙ e))
    (bit_cases t)

-- no number of the list is 0
abbrev pub Numbered : List Test → Type 0
Numbered [] = Unit
Numbered (t ∷ ts) = (t.0 ≡ 0 → ⊥) × Numbered ts

-- of two lists of tests: a refusal by the first stands, and otherwise the second answers
pub first_found : (ts us : List Test) → (first ts ≡ 0 → ⊥) → first (ts ++ us) ≡ first ts
first_found [] us n = absurd (n first_none)
first_found (t ∷ ts) us n =
    ⊎_elim
    (λ h. first_here t (ts ++ us) h.0 ∙ sym (first_here t ts h.0))
    (λ h.
    first_skip t (ts ++ us) h.0
    ∙ first_found ts us (λ e. n (first_pass t ts h.0 e))
    ∙ sym (first_skip t ts h.0))
    (bit_cases t.1)

pub first_after : (ts us : List Test) → Numbered ts → first ts ≡ 0 → first (ts ++ us) ≡ first us
first_after [] us n e = refl
first_after (t ∷ ts) us n e =
    let c = first_clear t ts n.0 e in
    first_skip t (ts ++ us) c.0 ∙ first_after ts us n.1 c.1

-- no refusal by both
pub first_both : (ts us : List Test) → Numbered ts → first (ts ++ us) ≡ 0 → (first ts ≡ 0) × (first us ≡ 0)
first_both [] us n e = (first_none, e)
first_both (t ∷ ts) us n e =
    let c = first_clear t (ts ++ us) n.0 e in
    let d = first_both ts us n.1 c.1 in
    (first_pass t ts c.0 d.0, d.1)

-- an accepted call gives its answer
pub accepted : {A : Type 0} (r : ℕ) (a b : A) → r ≡ 0 → answer r a b ≡ a
unfolding answer if◌then◌otherwise◌
accepted r a b h = rw h

-- and a refused one its refusal
pub refused : {A : Type 0} (r : ℕ) (a b : A) → (r ≡ 0 → ⊥) → answer r a b ≡ b
unfolding answer if◌then◌otherwise◌
refused r a b h = rw (ne_eqb r 0 h)
