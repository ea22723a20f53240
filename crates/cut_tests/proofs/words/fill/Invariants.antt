use Rattle.std.proofs.Common.{◌≡◌, ℕ, ◌<◌, length, get_or}
use Rattle.cut_tests.specs.Words.{vacant_word}
use Rattle.cut_tests.proofs.words.fill.Given as goal

abbrev pub invariant-loop-at : goal.invariant-loop-at
invariant-loop-at l = (length l.words ≡ 13865) × ((k : ℕ) → k < l.at → get_or l.words k 0 ≡ vacant_word k)
