use Rattle.std.proofs.Common.{◌≡◌, [], ap, ◌∙◌, arith}
use Rattle.model.specs.Basics.{before}
use Rattle.model.specs.Place.{held}
use Rattle.model.proofs.Holdings.{sums_none}
use Rattle.soundness.proofs.Turns.{turn, turned}
use Rattle.soundness.proofs.laid_out.LaidOut.summed.Goals as goal

pub loop-i-init : goal.loop-i-init
loop-i-init c = sums_none _ _

pub overflow_sub-sums : goal.overflow_sub-sums
overflow_sub-sums c =
    let t = turn _ [] _ _ [] c.args.self.intervals_right _ _ _ c.loop-i.invariant (omega arith) in omega arith

pub bounds-sums-block : goal.bounds-sums-block
bounds-sums-block c =
    let t = turn _ [] _ _ [] c.args.self.intervals_right _ _ _ c.loop-i.invariant (omega arith) in omega arith

pub overflow_add-sums : goal.overflow_add-sums
overflow_add-sums c =
    let t = turn _ [] _ _ [] c.args.self.intervals_right _ _ _ c.loop-i.invariant (omega arith) in omega arith

pub loop-i-preserved : goal.loop-i-preserved
loop-i-preserved c = turned _ [] _ _ [] c.args.self.intervals_right _ _ _ c.loop-i.invariant (omega arith)

pub returns : goal.returns
returns c =
    let same : c.loop-i.i ≡ c.args.self.header.interval_count = omega arith in
    let sums = c.loop-i.invariant in
    record {
      cell = λ j l. sums.cell j l ∙ ap (held _ j) (sums.starts ∙ ap (before _) same ∙ c.args.self.intervals_right.last);
    }
