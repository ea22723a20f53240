use mathlib.Core.Path.{refl}
use native.Mathlib.Omega.{arith}
use Rattle.rows.proofs.Runs.{running_starts, running_same, running_more, running_two, running_ends}
use Rattle.rows.proofs.write_run.Goals.{then-count-eq1, else-count-eq1}
use Rattle.rows.proofs.write_run.Goals as goal

pub loop-pair-init : goal.loop-pair-init
loop-pair-init c =
    elim c.if-count-eq1.branch [
      | then-count-eq1 w ↦ (
        running_same w.rows-is w.here-is w.there-is (omega (arith, w.start-is)) w.entry-is
            (running_more c.args.count c.requires.count_in_bounds running_starts (omega (arith, w.if-count-eq1.true)) w.write_places.ensures),
        omega (arith, w.start-is, w.if-count-eq1.true),
      )
      | else-count-eq1 w ↦ (
        running_same w.rows-is w.here-is w.there-is (omega (arith, w.start-is)) w.entry-is running_starts,
        omega (arith, w.start-is, w.if-count-eq1.false),
      )
    ]

pub loop-pair-preserved : goal.loop-pair-preserved
loop-pair-preserved c =
    let s = c.loop-pair.invariant in (
      running_same refl refl refl (omega arith) refl
          (running_two c.args.count c.requires.count_in_bounds s.0 (omega (arith, s.1, c.loop-pair-test.true))
          c.write_places-in-loop-pair.ensures c.write_places-in-loop-pair-2.ensures),
      s.1,
    )

pub returns : goal.returns
returns c =
    let s = c.loop-pair.invariant in
    running_ends c.args.count s.0 (omega (arith, s.1))
