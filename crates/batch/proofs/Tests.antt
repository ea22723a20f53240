-- Laws of the tests of a list of buckets, in a formed table t. Assumes nothing.
use Prim.Native.Nat.{ℕ, ◌+◌, ◌≤◌, ◌<◌}
use mathlib.Core.Path.{◌≡◌, refl, sym, ◌∙◌}
use mathlib.Core.Bool.{true, false}
use mathlib.Core.List.{List, [], ◌∷◌}
use native.Mathlib.Omega.{arith}
use lib.ListN.{length, get_or}
use borrow.Author.Tests.{le-leb, lt-leb}
use Rattle.model.specs.Basics.{if◌then◌otherwise◌, all, joined}
use Rattle.model.specs.Table.{Table, over}
use Rattle.model.specs.Place.{places}
use Rattle.model.specs.Refusal.{first, falls, some_past}
use Rattle.model.specs.Calls.{answer, places_tests}
use Rattle.model.proofs.Refusals.{first_here, first_skip, first_pass, first_none}
use Rattle.model.proofs.Batches.{last_decides, past_none}

module _ (t : Table) (xs : List ℕ) where
  -- an empty list is accepted, and writes nothing
  pub none_asked
      : (out : List ℕ) → length xs ≡ 0 → (0 ≡ first (places_tests t xs)) × (out ≡ answer 0 (over (places t xs) out) out)
  unfolding places_tests first falls some_past all if◌then◌otherwise◌ answer over places joined
  none_asked out e = none xs e
    where
      none : (ys : List ℕ) → length ys ≡ 0 → (0 ≡ first (places_tests t ys)) × (out ≡ answer 0 (over (places t ys) out) out)
      none [] e = (refl, refl)
      none (y ∷ ys) e = absurd (omega arith)

  -- one that falls is refused by 32
  pub falls_refused : falls xs ≡ true → 32 ≡ first (places_tests t xs)
  unfolding places_tests
  falls_refused e = sym (first_here (32, falls xs) _ e)

  -- and of the others the last bucket decides
  module _ (n : ℕ) (e : length xs ≡ n + 1) (rise : falls xs ≡ false) where
    pub last_refused : t.buckets ≤ get_or xs n 0 → 6 ≡ first (places_tests t xs)
    unfolding places_tests
    last_refused l =
        sym
        (first_skip (32, falls xs) _ rise
        ∙ first_here (6, some_past t xs) [] (last_decides t xs n e rise ∙ le-leb t.buckets (get_or xs n 0) l))

    none_past : get_or xs n 0 < t.buckets → some_past t xs ≡ false
    none_past l = last_decides t xs n e rise ∙ lt-leb t.buckets (get_or xs n 0) l

    pub last_passes : get_or xs n 0 < t.buckets → 0 ≡ first (places_tests t xs)
    unfolding places_tests
    last_passes l = sym (first_pass (32, falls xs) _ rise (first_pass (6, some_past t xs) [] (none_past l) first_none))

    pub all_inside : get_or xs n 0 < t.buckets → (i : ℕ) → i < length xs → get_or xs i 0 < t.buckets
    all_inside l = past_none t xs (none_past l)
