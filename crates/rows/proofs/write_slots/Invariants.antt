use Rattle.rows.proofs.Spans.{Spanning}
use Rattle.rows.proofs.write_slots.Given as goal

-- the rows up to bucket x are written, and the slots are those of x
abbrev pub invariant-loop-x : goal.invariant-loop-x
invariant-loop-x l = Spanning l.span l.at l.fn.rows l.rows l.here l.there l.x l.entry
