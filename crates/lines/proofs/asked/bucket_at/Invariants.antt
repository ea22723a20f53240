-- The bytes passed are digits of the value.
use Rattle.std.proofs.Common.{◌+◌, ◌≤◌, ◌≡◌}
use Rattle.lines.proofs.Numbers.{Digits}
use Rattle.lines.proofs.asked.bucket_at.Given as goal

abbrev pub invariant-loop-c : goal.invariant-loop-c
invariant-loop-c l =
    record {
      at : l.end ≡ l.initial.end + l.c-index;
      near : l.initial.end ≤ l.first + 10;
      passed : Digits 10 l.block l.first l.end l.value;
    }
