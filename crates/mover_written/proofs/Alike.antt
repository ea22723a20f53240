-- The mover is refused as the move list is, and then by 40, 42 and 41; the counting call as the move list is, and then by 42. Assumes
-- nothing.
use Prim.Native.Nat.{ℕ, ◌*◌, ◌≤◌, ◌<◌}
use mathlib.Core.Path.{◌≡◌, sym, ◌∙◌}
use mathlib.Core.Logic.{⊎_elim}
use mathlib.Core.Bool.{Bool}
use mathlib.Core.List.{List, [], ◌∷◌, ◌++◌}
use native.Mathlib.Decide.{ℕ_discrete}
use native.Mathlib.Omega.{arith}
use borrow.Author.Tests.{ltb-true, ltb-false, lt-ltb, le-ltb}
use lib.ListN.{length}
use Rattle.model.specs.Table.{Shape, Table, Arrays}
use Rattle.model.specs.Refusal.{Test, first, order_past}
use Rattle.model.specs.Calls.{table_tests, size_tests, growth_tests, order_tests, relocations_refusal}
use Rattle.model.specs.declared.table.Header.{Header}
use Rattle.model.proofs.Counts.{bit_cases}
use Rattle.model.proofs.Refusals.{first_here, first_skip, first_none, first_number, first_both, first_pass, first_other, first_found, first_after, Numbered}
use Rattle.model.proofs.Soundness.{sound_iff_lem, table_numbered, growth_numbered}
use Rattle.model.proofs.Expanded.{first_only, growth_alike}
use Rattle.written.specs.Written.{bits_short}
use Rattle.written_relocations.specs.Count.{written_tests, written_refusal}
use Rattle.mover_written.specs.Carry.{Growth, old_table, total, Told, told_short, words_short, carry_tests, carry_refusal}
use Rattle.mover_written.specs.Run.{Enough}
use Rattle.mover_written.specs.Claims.{Checks, Long, CarryAlike, CarryRefused}
use Rattle.mover_written.specs.WrittenClaims.{CountAlike, CountRefused}
use Rattle.mover_written.proofs.Spots.{told_enough, enough_told, forty, accepted_ready, ready_accepted}

-- 40 TO 42

-- tests whose numbers are below r bring about none from r on
under : (n : ℕ) (b : Bool) (ts : List Test) (r : ℕ) → n < r → first ts < r → first ((n, b) ∷ ts) < r
under n b ts r l k =
    ⊎_elim
    (λ t. omega (arith, first_here (n, b) ts t.0))
    (λ f. omega (arith, first_skip (n, b) ts f.0))
    (bit_cases b)

table_under : (h : Header) (a : Arrays) → first (table_tests h a) < 40
unfolding table_tests
table_under h a =
    under 11 _ _ 40 (omega arith) (under 12 _ _ 40 (omega arith) (under 13 _ _ 40 (omega arith)
    (under 14 _ _ 40 (omega arith) (under 15 _ _ 40 (omega arith) (under 16 _ _ 40 (omega arith)
    (under 30 _ [] 40 (omega arith) (omega (arith, first_none))))))))

growth_under : (t : Table) (s : Shape) → first (growth_tests t s) < 40
unfolding growth_tests size_tests
growth_under t s =
    under 1 _ _ 40 (omega arith) (under 2 _ _ 40 (omega arith) (under 3 _ _ 40 (omega arith)
    (under 4 _ _ 40 (omega arith) (under 5 _ _ 40 (omega arith) (under 31 _ [] 40 (omega arith) (omega (arith, first_none)))))))

-- so where r is from 40 on, they pass and the tests after them answer it
later : (ts us : List Test) (r : ℕ) → Numbered ts → first ts < 40 → 40 ≤ r → first (ts ++ us) ≡ r → (first ts ≡ 0) × (first us ≡ r)
later ts us r n l k e =
    elim (ℕ_discrete (first ts) 0) [
      | yes z ↦ (z, sym (first_after ts us n z) ∙ e)
      | no z ↦ absurd (omega (arith, first_found ts us z))
    ]

module _ (g : Growth) (us : List Test) where
  -- the refusal of a call whose last tests are us
  abbrev refusal : ℕ
  refusal = first (table_tests g.header g.arrays ++ (growth_tests (old_table g) g.sizes ++ us))

  pub last : (r : ℕ) → 40 ≤ r → refusal ≡ r → Checks g × (first us ≡ r)
  last r l e =
      let (tests, rest) =
      later (table_tests g.header g.arrays) _ r (table_numbered g.header g.arrays) (table_under g.header g.arrays) l e in
      let (growth, end) =
      later (growth_tests (old_table g) g.sizes) _ r (growth_numbered (old_table g) g.sizes) (growth_under (old_table g) g.sizes) l rest in
      ((tests, growth), end)

  pub back : Checks g → refusal ≡ first us
  back c =
      first_after (table_tests g.header g.arrays) _ (table_numbered g.header g.arrays) c.0
      ∙ first_after (growth_tests (old_table g) g.sizes) _ (growth_numbered (old_table g) g.sizes) c.1

-- a test alone, and two and three, bring about their own numbers alone
first_two
    : (k n : ℕ) (b c : Bool) (r : ℕ) → (r ≡ 0 → ⊥) → (r ≡ k → ⊥) → (r ≡ n → ⊥) → first ((k, b) ∷ (n, c) ∷ []) ≡ r → ⊥
first_two k n b c r none one two e =
    ⊎_elim
    (λ t. one (sym e ∙ first_here (k, b) _ t.0))
    (λ f. first_only n c r none two (sym (first_skip (k, b) _ f.0) ∙ e))
    (bit_cases b)

first_three
    : (k n o : ℕ) (b c d : Bool) (r : ℕ) → (r ≡ 0 → ⊥) → (r ≡ k → ⊥) → (r ≡ n → ⊥) → (r ≡ o → ⊥)
    → first ((k, b) ∷ (n, c) ∷ (o, d) ∷ []) ≡ r → ⊥
first_three k n o b c d r none one two three e =
    ⊎_elim
    (λ t. one (sym e ∙ first_here (k, b) _ t.0))
    (λ f. first_two n o c d r none two three (sym (first_skip (k, b) _ f.0) ∙ e))
    (bit_cases b)

module _ (g : Growth) (told : Told) (ws : List ℕ) (m : ℕ) where
  -- what 40, 42 and 41 say, and when
  by_forty : carry_refusal g told ws m ≡ 40 → Checks g × (length ws < g.sizes.bins * g.header.capacity)
  unfolding carry_refusal carry_tests words_short
  by_forty e =
      let (c, end) = last g _ 40 (omega arith) e in (
        c,
        ⊎_elim
            (λ t. ltb-true (length ws) (g.sizes.bins * g.header.capacity) t.0)
            (λ f. absurd (first_two 42 41 _ _ 40 (λ z. omega arith) (λ z. omega arith) (λ z. omega arith) (sym (first_skip (40, words_short g ws) _ f.0) ∙ end)))
            (bit_cases (words_short g ws)),
      )

  by_bits : carry_refusal g told ws m ≡ 42 → Checks g × Long g ws × (Enough g told → ⊥)
  unfolding carry_refusal carry_tests words_short
  by_bits e =
      let (c, end) = last g _ 42 (omega arith) e in
      let (short, rest) = first_other 40 42 (words_short g ws) _ (λ z. omega arith) end in (
        c,
        ltb-false _ _ short,
        λ enough. first_only 41 _ 42 (λ z. omega arith) (λ z. omega arith) (sym (first_skip (42, told_short g told) _ (enough_told g told enough)) ∙ rest),
      )

  by_mark : carry_refusal g told ws m ≡ 41 → Checks g × Long g ws × Enough g told × (total g < m)
  unfolding carry_refusal carry_tests words_short
  by_mark e =
      let (c, end) = last g _ 41 (omega arith) e in
      let (short, rest) = first_other 40 41 (words_short g ws) _ (λ z. omega arith) end in
      let (few, rest₂) = first_other 42 41 (told_short g told) _ (λ z. omega arith) rest in (
        c,
        ltb-false _ _ short,
        told_enough g told few,
        ⊎_elim
            (λ t. ltb-true _ _ t.0)
            (λ f. absurd (omega (arith, first_skip (41, order_past (total g) m) [] f.0, first_none)))
            (bit_cases (order_past (total g) m)),
      )

  forty_two : Checks g × Long g ws × (Enough g told → ⊥) → carry_refusal g told ws m ≡ 42
  unfolding carry_refusal carry_tests words_short
  forty_two c =
      back g _ c.0
      ∙ first_skip (40, words_short g ws) _ (le-ltb _ _ c.1)
      ∙ ⊎_elim
      (λ t. first_here (42, told_short g told) _ t.0)
      (λ f. absurd (c.2 (told_enough g told f.0)))
      (bit_cases (told_short g told))

  forty_one : Checks g × Long g ws × Enough g told × (total g < m) → carry_refusal g told ws m ≡ 41
  unfolding carry_refusal carry_tests words_short
  forty_one c =
      back g _ c.0
      ∙ first_skip (40, words_short g ws) _ (le-ltb _ _ c.1)
      ∙ first_skip (42, told_short g told) _ (enough_told g told c.2)
      ∙ first_here (41, order_past (total g) m) _ (lt-ltb _ _ c.3)

pub carry_refused_lem : CarryRefused
unfolding carry_refusal words_short
carry_refused_lem g told ws m = (
  (by_forty g told ws m, λ c. back g _ c.0 ∙ forty g told ws m (lt-ltb _ _ c.1)),
  (by_bits g told ws m, forty_two g told ws m),
  (by_mark g told ws m, forty_one g told ws m),
  (
    λ e.
        let (ready, enough, within) = accepted_ready g told ws m e in
        (((sound_iff_lem g.header g.arrays).1 ready.sound, ready.asked), ready.long, enough, within),
    λ c.
        ready_accepted g told ws m
        (record { sound = (sound_iff_lem g.header g.arrays).0 c.0.0; asked = c.0.1; long = c.1 })
        c.2
        c.3,
  ),
)

-- AS THE MOVE LIST

pub carry_alike_lem : CarryAlike
unfolding carry_refusal carry_tests relocations_refusal order_tests
carry_alike_lem g told ws m q r none nine forty more few = (
  growth_alike g.header g.arrays g.sizes _ _ r (λ z. absurd (first_three 40 42 41 _ _ _ r none forty few more z)),
  growth_alike g.header g.arrays g.sizes _ _ r (λ z. absurd (first_only 9 _ r none nine z)),
)

-- THE COUNT OF WRITTEN MOVED BUCKETS

pub count_alike_lem : CountAlike
unfolding written_refusal written_tests relocations_refusal order_tests
count_alike_lem g ws q r none nine few = (
  growth_alike g.header g.arrays g.sizes _ _ r (λ z. absurd (first_only 42 _ r none few z)),
  growth_alike g.header g.arrays g.sizes _ _ r (λ z. absurd (first_only 9 _ r none nine z)),
)

pub count_refused_lem : CountRefused
unfolding written_refusal written_tests bits_short
count_refused_lem g ws = (
  (
    λ e.
        let (c, end) = last g _ 42 (omega arith) e in (
          c,
          ⊎_elim
              (λ t. ltb-true (64 * length ws) g.header.buckets t.0)
              (λ f. absurd (omega (arith, first_skip (42, bits_short g.header.buckets ws) [] f.0, first_none)))
              (bit_cases (bits_short g.header.buckets ws)),
        ),
    λ c. back g _ c.0 ∙ first_here (42, bits_short g.header.buckets ws) _ (lt-ltb _ _ c.1),
  ),
  (
    λ e.
        let (tests, e₁) = first_both (table_tests g.header g.arrays) _ (table_numbered g.header g.arrays) e in
        let (growth, e₂) = first_both (growth_tests (old_table g) g.sizes) _ (growth_numbered (old_table g) g.sizes) e₁ in
        let (few, _) = first_number 42 (bits_short g.header.buckets ws) _ (omega arith) e₂ in
        ((tests, growth), ltb-false (64 * length ws) g.header.buckets few),
    λ c. back g _ c.0 ∙ first_pass (42, bits_short g.header.buckets ws) _ (le-ltb _ _ c.1) first_none,
  ),
)
