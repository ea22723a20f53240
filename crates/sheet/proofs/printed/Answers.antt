use mathlib.Core.Path.{refl}
use native.Mathlib.Omega.{arith}
use Rattle.model.specs.Sheet.{sheet_length}
use Rattle.sheet.proofs.Answers.{sheet_short_lem, sheet_done}
use Rattle.sheet.proofs.printed.Goals as goal

pub returns-then-buffer-length : goal.returns-then-buffer-length
unfolding sheet_length
returns-then-buffer-length c =
    let (reply, bytes) = sheet_short_lem _ _ _ c.if-buffer-length.true in
    record { reply = reply; bytes = bytes }

pub returns : goal.returns
unfolding sheet_length
returns c =
    let (reply, bytes) = sheet_done _ _ _ _ _ refl c.if-buffer-length.false c.write_sheet.ensures in
    record { reply = reply; bytes = bytes }

pub write_sheet-requires-clause-room : goal.write_sheet-requires-clause-room
unfolding sheet_length
write_sheet-requires-clause-room c = omega (arith, c.if-buffer-length.false)
