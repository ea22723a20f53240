use Rattle.std.proofs.Common.{take}
use Rattle.std.specs.Prelude.{flat_map}
use Rattle.std.specs.List.{enumerate_from}
use Rattle.std.specs.Fmt.{HasWritten, IsPlainFormatter}
use Rattle.cut_tests.specs.Text.{refusal_text}
use Rattle.cut_tests.proofs.print.RefusalsDisplay.fmt.Given as goal

abbrev pub invariant-loop-number : goal.invariant-loop-number
invariant-loop-number g l =
    IsPlainFormatter l.initial.f
    → HasWritten
    g.W.Write.write_str_gives
    l.initial.f
    (flat_map (λ entry. refusal_text entry.0 entry.1) (take l.number (enumerate_from 0 l.self.0)))
    l.f
