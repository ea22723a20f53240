-- The mover is refused as the move list is, and then by 40 and 41. Assumes nothing.
use Prim.Native.Nat.{ℕ, ◌*◌, ◌≤◌, ◌<◌}
use mathlib.Core.Path.{◌≡◌, sym, ◌∙◌}
use mathlib.Core.Logic.{⊎_elim}
use mathlib.Core.Bool.{Bool}
use mathlib.Core.List.{List, [], ◌∷◌, ◌++◌}
use native.Mathlib.Decide.{ℕ_discrete}
use native.Mathlib.Omega.{arith}
use borrow.Author.Tests.{ltb-true, ltb-false, lt-ltb, le-ltb}
use lib.ListN.{length}
use Rattle.model.specs.Table.{Shape, Table, Arrays}
use Rattle.model.specs.Refusal.{Test, first, order_past}
use Rattle.model.specs.Calls.{table_tests, size_tests, growth_tests, order_tests, relocations_refusal}
use Rattle.model.specs.declared.table.Header.{Header}
use Rattle.model.proofs.Counts.{bit_cases}
use Rattle.model.proofs.Refusals.{first_here, first_skip, first_none, first_other, first_found, first_after, Numbered}
use Rattle.model.proofs.Soundness.{sound_iff_lem, table_numbered, growth_numbered}
use Rattle.model.proofs.Expanded.{first_only, growth_alike}
use Rattle.mover.specs.Carry.{Growth, old_table, total, words_short, carry_tests, carry_refusal}
use Rattle.mover.specs.Claims.{Checks, CarryAlike, CarryRefused}
use Rattle.mover.proofs.Spots.{forty, accepted_ready, ready_accepted}

-- 40 AND 41

-- tests whose numbers are below r bring about none from r on
under : (n : ℕ) (b : Bool) (ts : List Test) (r : ℕ) → n < r → first ts < r → first ((n, b) ∷ ts) < r
under n b ts r l k =
    ⊎_elim
    (λ t. omega (arith, first_here (n, b) ts t.0))
    (λ f. omega (arith, first_skip (n, b) ts f.0))
    (bit_cases b)

table_under : (h : Header) (a : Arrays) → first (table_tests h a) < 40
unfolding table_tests
table_under h a =
    under 11 _ _ 40 (omega arith) (under 12 _ _ 40 (omega arith) (under 13 _ _ 40 (omega arith)
    (under 14 _ _ 40 (omega arith) (under 15 _ _ 40 (omega arith) (under 16 _ _ 40 (omega arith)
    (under 30 _ [] 40 (omega arith) (omega (arith, first_none))))))))

growth_under : (t : Table) (s : Shape) → first (growth_tests t s) < 40
unfolding growth_tests size_tests
growth_under t s =
    under 1 _ _ 40 (omega arith) (under 2 _ _ 40 (omega arith) (under 3 _ _ 40 (omega arith)
    (under 4 _ _ 40 (omega arith) (under 5 _ _ 40 (omega arith) (under 31 _ [] 40 (omega arith) (omega (arith, first_none)))))))

-- so where r is from 40 on, they pass and the tests after them answer it
later : (ts us : List Test) (r : ℕ) → Numbered ts → first ts < 40 → 40 ≤ r → first (ts ++ us) ≡ r → (first ts ≡ 0) × (first us ≡ r)
later ts us r n l k e =
    elim (ℕ_discrete (first ts) 0) [
      | yes z ↦ (z, sym (first_after ts us n z) ∙ e)
      | no z ↦ absurd (omega (arith, first_found ts us z))
    ]

module _ (g : Growth) (ws : List ℕ) (m : ℕ) where
  last : (r : ℕ) → 40 ≤ r → carry_refusal g ws m ≡ r → Checks g × (first (carry_tests g ws m) ≡ r)
  unfolding carry_refusal
  last r l e =
      let (tests, rest) =
      later (table_tests g.header g.arrays) _ r (table_numbered g.header g.arrays) (table_under g.header g.arrays) l e in
      let (growth, end) =
      later (growth_tests (old_table g) g.sizes) _ r (growth_numbered (old_table g) g.sizes) (growth_under (old_table g) g.sizes) l rest in
      ((tests, growth), end)

  back : Checks g → carry_refusal g ws m ≡ first (carry_tests g ws m)
  unfolding carry_refusal
  back c =
      first_after (table_tests g.header g.arrays) _ (table_numbered g.header g.arrays) c.0
      ∙ first_after (growth_tests (old_table g) g.sizes) _ (growth_numbered (old_table g) g.sizes) c.1

pub carry_refused_lem : CarryRefused
unfolding carry_tests words_short
carry_refused_lem g ws m = (
  (
    λ e.
        let (c, end) = last g ws m 40 (omega arith) e in (
          c,
          ⊎_elim (λ t. ltb-true (length ws) (g.sizes.bins * g.header.capacity) t.0) (λ f. absurd (first_only 41 _ 40 (λ z. omega arith) (λ z. omega arith) (sym (first_skip (40, words_short g ws) _ f.0) ∙ end))) (bit_cases (words_short g ws)),
        ),
    λ c. back g ws m c.0 ∙ forty g ws m (lt-ltb _ _ c.1),
  ),
  (
    λ e.
        let (c, end) = last g ws m 41 (omega arith) e in
        let (short, rest) = first_other 40 41 (words_short g ws) _ (λ z. omega arith) end in (
          c,
          ltb-false _ _ short,
          ⊎_elim (λ t. ltb-true _ _ t.0) (λ f. absurd (omega (arith, first_skip (41, order_past (total g) m) [] f.0, first_none))) (bit_cases (order_past (total g) m)),
        ),
    λ c.
        back g ws m c.0
        ∙ first_skip (40, words_short g ws) _ (le-ltb _ _ c.1)
        ∙ first_here (41, order_past (total g) m) _ (lt-ltb _ _ c.2),
  ),
  (
    λ e.
        let (ready, within) = accepted_ready g ws m e in
        (((sound_iff_lem g.header g.arrays).1 ready.sound, ready.asked), ready.long, within),
    λ c.
        ready_accepted g ws m
        (record { sound = (sound_iff_lem g.header g.arrays).0 c.0.0; asked = c.0.1; long = c.1 })
        c.2,
  ),
)

-- AS THE MOVE LIST

-- two tests bring about their own numbers alone
first_two
    : (k n : ℕ) (b c : Bool) (r : ℕ) → (r ≡ 0 → ⊥) → (r ≡ k → ⊥) → (r ≡ n → ⊥) → first ((k, b) ∷ (n, c) ∷ []) ≡ r → ⊥
first_two k n b c r none one two e =
    ⊎_elim
    (λ t. one (sym e ∙ first_here (k, b) _ t.0))
    (λ f. first_only n c r none two (sym (first_skip (k, b) _ f.0) ∙ e))
    (bit_cases b)

pub carry_alike_lem : CarryAlike
unfolding carry_refusal carry_tests relocations_refusal order_tests
carry_alike_lem g ws m q r none nine forty more = (
  growth_alike g.header g.arrays g.sizes _ _ r (λ z. absurd (first_two 40 41 _ _ r none forty more z)),
  growth_alike g.header g.arrays g.sizes _ _ r (λ z. absurd (first_only 9 _ r none nine z)),
)
