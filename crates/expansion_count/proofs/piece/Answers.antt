use mathlib.Core.Path.{sym}
use Rattle.expansion_count.proofs.Pieces.{piece_last, piece_gained}
use Rattle.expansion_count.proofs.piece.Goals as goal

pub returns-then-j-last : goal.returns-then-j-last
returns-then-j-last c t s shares = sym (piece_last shares _ c.if-j-last.true)

pub returns : goal.returns
returns c t s shares = sym (piece_gained shares _ c.requires.0 c.if-j-last.false)
