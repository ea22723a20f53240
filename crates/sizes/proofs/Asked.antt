-- Laws of the sizes asked for: what the tests of rules 1 and 2 answer, by what is asked of the sizes. Assumes nothing.
use Prim.Native.Nat.{ℕ, ◌≤◌, ◌<◌}
use mathlib.Core.Path.{◌≡◌}
use mathlib.Core.Bool.{true, false}
use borrow.Author.Tests.{lt-ltb, le-ltb}
use Rattle.model.specs.Basics.{if◌then◌otherwise◌, ◌or◌}
use Rattle.model.specs.Limits.{max_buckets, max_bins}
use Rattle.model.specs.Table.{sizes}
use Rattle.model.specs.Refusal.{first, outside, size_outside, few_buckets}
use Rattle.model.specs.Calls.{size_tests}

-- rule 1: by the buckets, or by the bins
pub asked_buckets : (b n : ℕ) → outside max_buckets b ≡ true → 1 ≡ first (size_tests (sizes b n))
unfolding first size_tests size_outside ◌or◌ if◌then◌otherwise◌
asked_buckets b n h = rw (h)

pub asked_bins : (b n : ℕ) → outside max_buckets b ≡ false → outside max_bins n ≡ true → 1 ≡ first (size_tests (sizes b n))
unfolding first size_tests size_outside ◌or◌ if◌then◌otherwise◌
asked_bins b n g h = rw (g, h)

module _ (b n : ℕ) (g : outside max_buckets b ≡ false) (h : outside max_bins n ≡ false) where
  -- rule 2
  pub asked_few : b < n → 2 ≡ first (size_tests (sizes b n))
  unfolding first size_tests size_outside few_buckets ◌or◌ if◌then◌otherwise◌
  asked_few l = rw (g, h, lt-ltb b n l)

  -- neither
  pub asked_right : n ≤ b → 0 ≡ first (size_tests (sizes b n))
  unfolding first size_tests size_outside few_buckets ◌or◌ if◌then◌otherwise◌
  asked_right l = rw (g, h, le-ltb b n l)
