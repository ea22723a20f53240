use Prim.Native.Nat.{◌*◌}
use mathlib.Core.Path.{◌≡◌}
use mathlib.Core.List.{[]}
use Rattle.model.specs.Basics.{from, joined, before}
use Rattle.model.specs.Table.{arrays}
use Rattle.model.proofs.Entries.{Put}
use Rattle.model.proofs.Sheets.{lent_line}
use Rattle.sheet.proofs.write_few.Given as goal

abbrev pub invariant-loop-i : goal.invariant-loop-i
invariant-loop-i l =
    record {
      start : l.start ≡ before l.ends l.i;
      put : Put 0 (51 * l.i) (joined (from (lent_line (arrays l.tops l.ends l.blocks [])) 0 l.i)) l.initial.out l.out;
    }
