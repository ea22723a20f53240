-- The words passed are counted.
use Rattle.std.proofs.Common.{◌≡◌, ◌+◌, ◌*◌, ◌/◌}
use Rattle.model.specs.Basics.{count}
use Rattle.written.specs.Written.{written}
use Rattle.written.proofs.among.Given as goal

abbrev pub invariant-loop-word : goal.invariant-loop-word
invariant-loop-word l =
    count (written l.bits) (64 * (l.a / 64)) + l.n ≡ count (written l.bits) (64 * (l.a / 64 + l.word-index))
