-- Laws of the sizes that a growth asks for: the answer of its tests, by the sizes. Assumes nothing.
use Prim.Native.Nat.{◌≤◌, ◌<◌}
use mathlib.Core.Path.{◌≡◌, refl, ◌∙◌}
use mathlib.Core.Bool.{Bool, true, false}
use mathlib.Core.List.{[], ◌∷◌}
use native.Mathlib.Omega.{arith}
use lib.ListN.{length}
use borrow.Author.Tests.{lt-ltb, le-ltb, eq-eqb, ne_eqb}
use Rattle.model.specs.Basics.{if◌then◌otherwise◌, ◌and◌, ◌or◌}
use Rattle.model.specs.Limits.{max_blocks}
use Rattle.model.specs.Table.{Shape, Table, bins}
use Rattle.model.specs.Refusal.{first, shrinks, unchanged, blocks_full, overfills}
use Rattle.model.specs.Calls.{size_tests, growth_tests}
use Rattle.model.proofs.Refusals.{first_found, first_after}

and_none : (a b : Bool) → b ≡ false → a and b ≡ false
unfolding ◌and◌
and_none true b h = h
and_none false b h = refl

module _ (t : Table) (s : Shape) where
  -- rules 1 and 2 come first
  pub asked_sizes : (first (size_tests s) ≡ 0 → ⊥) → first (growth_tests t s) ≡ first (size_tests s)
  unfolding growth_tests
  asked_sizes n = first_found (size_tests s) _ n

  module _ (sized : first (size_tests s) ≡ 0) where
    -- then come rules 3 to 5, and 31
    asked_rest
        : first (growth_tests t s)
        ≡ first ((3, shrinks t s) ∷ (4, unchanged t s) ∷ (5, blocks_full t s) ∷ (31, overfills t.capacity s) ∷ [])
    unfolding growth_tests size_tests
    asked_rest = first_after (size_tests s) _ (omega arith) sized

    pub asked_fewer : s.buckets < t.buckets → first (growth_tests t s) ≡ 3
    unfolding first if◌then◌otherwise◌ shrinks ◌or◌
    asked_fewer b = asked_rest ∙ rw (lt-ltb s.buckets t.buckets b)

    module _ (kept : t.buckets ≤ s.buckets) where
      pub asked_narrower : s.bins < bins t → first (growth_tests t s) ≡ 3
      unfolding first if◌then◌otherwise◌ shrinks ◌or◌
      asked_narrower n = asked_rest ∙ rw (le-ltb s.buckets t.buckets kept, lt-ltb s.bins (bins t) n)

      -- more bins: a block more
      pub asked_full : bins t < s.bins → length t.tops ≡ max_blocks → first (growth_tests t s) ≡ 5
      unfolding first if◌then◌otherwise◌ shrinks ◌or◌ unchanged blocks_full ◌and◌
      asked_full n g =
          asked_rest
          ∙ rw (
            le-ltb s.buckets t.buckets kept,
            le-ltb s.bins (bins t) (omega arith),
            and_none _ _ (ne_eqb s.bins (bins t) (λ e. omega arith)),
            lt-ltb (bins t) s.bins n,
            eq-eqb (length t.tops) max_blocks g,
          )

      pub asked_wider : bins t < s.bins → (length t.tops ≡ max_blocks → ⊥) → first (growth_tests t s) ≡ first ((31, overfills t.capacity s) ∷ [])
      unfolding first if◌then◌otherwise◌ shrinks ◌or◌ unchanged blocks_full ◌and◌
      asked_wider n g =
          asked_rest
          ∙ rw (
            le-ltb s.buckets t.buckets kept,
            le-ltb s.bins (bins t) (omega arith),
            and_none _ _ (ne_eqb s.bins (bins t) (λ e. omega arith)),
            lt-ltb (bins t) s.bins n,
            ne_eqb (length t.tops) max_blocks g,
          )

      -- as many bins: more buckets, or nothing changes
      pub asked_same : s.bins ≡ bins t → s.buckets ≡ t.buckets → first (growth_tests t s) ≡ 4
      unfolding first if◌then◌otherwise◌ shrinks ◌or◌ unchanged ◌and◌
      asked_same n b =
          asked_rest
          ∙ rw (
            le-ltb s.buckets t.buckets kept,
            le-ltb s.bins (bins t) (omega arith),
            eq-eqb s.buckets t.buckets b,
            eq-eqb s.bins (bins t) n,
          )

      pub asked_more : s.bins ≡ bins t → (s.buckets ≡ t.buckets → ⊥) → first (growth_tests t s) ≡ first ((31, overfills t.capacity s) ∷ [])
      unfolding first if◌then◌otherwise◌ shrinks ◌or◌ unchanged blocks_full ◌and◌
      asked_more n b =
          asked_rest
          ∙ rw (
            le-ltb s.buckets t.buckets kept,
            le-ltb s.bins (bins t) (omega arith),
            ne_eqb s.buckets t.buckets b,
            le-ltb (bins t) s.bins (omega arith),
          )
