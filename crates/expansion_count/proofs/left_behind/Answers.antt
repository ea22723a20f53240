use mathlib.Core.Path.{sym}
use Rattle.expansion_count.proofs.Parts.{behind_none, behind_all}
use Rattle.expansion_count.proofs.left_behind.Goals as goal

pub returns-then-i-h : goal.returns-then-i-h
returns-then-i-h c = sym (behind_none _ _ _ c.if-i-h.true)

pub returns : goal.returns
returns c = sym (behind_all _ _ _ c.if-i-h.false)
