-- The bytes passed are digits of the value.
use Rattle.std.proofs.Common.{◌+◌, ◌≡◌}
use Rattle.lines.proofs.Numbers.{Digits}
use Rattle.lines.proofs.number.Given as goal

abbrev pub invariant-loop-c : goal.invariant-loop-c
invariant-loop-c l = record { at : l.end ≡ l.from + l.c-index; passed : Digits 32 l.line l.from l.end l.value }
