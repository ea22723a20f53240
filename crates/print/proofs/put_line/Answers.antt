use Rattle.std.proofs.Common.{◌∙◌, arith}
use Rattle.print.proofs.Lines.{begun_none, begun_more, begun_room, begun_done}
use Rattle.print.proofs.put_line.Goals as goal
use Rattle.print.proofs.put_line.Goals.{then-ns-i-eq0, else-ns-i-eq0}

pub loop-i-init : goal.loop-i-init
loop-i-init c = let word = c.put_word-end.ensures in begun_none word.place word.bytes

pub put_small-end-requires : goal.put_small-end-requires
put_small-end-requires c = omega (arith, begun_room c.loop-i.invariant c.requires)

pub put_number-end-requires : goal.put_number-end-requires
put_number-end-requires c = omega (arith, begun_room c.loop-i.invariant c.requires)

pub loop-i-preserved : goal.loop-i-preserved
loop-i-preserved c =
    elim c.if-ns-i-eq0.branch [
      | then-ns-i-eq0 w ↦
          begun_more c.loop-i.invariant c.loop-i-test.true (w.end-is ∙ w.put_small-end.ensures.place)
          (w.out-is ∙ w.put_small-end.ensures.bytes)
      | else-ns-i-eq0 w ↦
          begun_more c.loop-i.invariant c.loop-i-test.true (w.end-is ∙ w.put_number-end.ensures.place)
          (w.out-is ∙ w.put_number-end.ensures.bytes)
    ]

pub bounds-out-end : goal.bounds-out-end
bounds-out-end c = omega (arith, begun_room c.loop-i.invariant c.requires)

pub overflow_add-result : goal.overflow_add-result
overflow_add-result c = omega (arith, begun_room c.loop-i.invariant c.requires)

pub returns : goal.returns
returns c =
    let done = begun_done c.loop-i.invariant c.loop-i-test.false in
    record { place = done.place; bytes = done.holds }
