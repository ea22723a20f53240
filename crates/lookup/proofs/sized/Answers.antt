use native.Mathlib.Omega.{arith}
use Rattle.lookup.proofs.Finding.{size_past, size_more, size_less}
use Rattle.lookup.proofs.sized.Goals as goal

pub returns-then-bins-bin : goal.returns-then-bins-bin
returns-then-bins-bin c ends blocks adjustments formed =
    size_past _ _ _ _ (c.bin_count-bins.ensures ends blocks adjustments) (omega arith)

pub returns-then-bin-h : goal.returns-then-bin-h
returns-then-bin-h c ends blocks adjustments formed =
    size_more _ _ formed _ _ (c.bin_count-bins.ensures _ _ _) (omega arith) c.if-bin-h.true

pub returns : goal.returns
returns c ends blocks adjustments formed =
    size_less _ _ formed _ _ (c.bin_count-bins.ensures _ _ _) (omega arith) c.if-bin-h.false
