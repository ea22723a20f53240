-- A flag that a loop keeps in place of an early return: whether the entries so far pass a test. Assumes nothing.
use Prim.Native.Nat.{ℕ, ◌+◌, ◌-◌, ◌≤◌}
use mathlib.Core.Path.{◌≡◌, refl, sym, ◌∙◌, ap}
use mathlib.Core.Bool.{Bool, true, false, ◌&&◌}
use mathlib.Core.List.{List}
use native.Mathlib.Numerals.{add-one}
use lib.ListN.{get_or}
use lib.Dec.{ltb}
use Rattle.model.specs.Basics.{◌and◌, all, before}
use Rattle.model.specs.Refusal.{rises}
use Rattle.model.proofs.Rules.{before_some}

pub and_true : (a b : Bool) → b ≡ true → a and b ≡ a
unfolding ◌and◌
and_true true b h = h
and_true false b h = refl

pub all_pass : (p : ℕ → Bool) (i : ℕ) → p i ≡ true → all p (i + 1) ≡ all p i
unfolding all
all_pass p i h = rw (add-one i) (and_true (all p i) (p i) h)

and_same : (a b : Bool) → a && b ≡ a and b
unfolding ◌and◌
and_same true b = refl
and_same false b = refl

all_next : (p : ℕ → Bool) (i : ℕ) → all p (i + 1) ≡ all p i and p i
unfolding all
all_next p i = rw (add-one i)

-- the flag of entries that pass a test, gathered with no branch
pub All_more
    : (p : ℕ → Bool) (i : ℕ) (flag : Bool) → flag ≡ all p i → flag && p i ≡ all p (i + 1)
All_more p i flag e = and_same flag (p i) ∙ ap (λ t. t and p i) e ∙ sym (all_next p i)

-- of entries that rise
pub rises_more
    : (xs : List ℕ) (i : ℕ) (flag : Bool) → 1 ≤ i → flag ≡ rises xs i
    → flag && ltb (get_or xs (i - 1) 0) (get_or xs i 0) ≡ rises xs (i + 1)
unfolding rises
rises_more xs i flag l e =
    ap (λ x. flag && ltb x (get_or xs i 0)) (sym (before_some xs i l)) ∙ All_more (λ k. ltb (before xs k) (get_or xs k 0)) i flag e
