use native.Mathlib.Omega.{arith}
use Rattle.rows.proofs.Runs.{run_few, turning_starts, turning_fits, turning_more}
use Rattle.rows.proofs.write_runs.Goals as goal

pub loop-left-init : goal.loop-left-init
loop-left-init c = turning_starts c.requires c.turn_of-here.ensures c.turn_of-there.ensures

pub write_run-requires-clause-count_bound : goal.write_run-requires-clause-count_bound
write_run-requires-clause-count_bound c =
    let s = c.loop-left.invariant in
    let few = run_few c.min.ensures c.min-run.ensures c.loop-left-test.true s.old_turn.some s.new_turn.some in
    let fits = turning_fits c.requires s c.min-run.result few.2 few.3 c.loop-left-test.true in
    (omega (arith, few.1, s.ends, c.args.span.within), omega (arith, fits.0), omega (arith, fits.1))

pub loop-left-preserved : goal.loop-left-preserved
loop-left-preserved c =
    let s = c.loop-left.invariant in
    let few = run_few c.min.ensures c.min-run.ensures c.loop-left-test.true s.old_turn.some s.new_turn.some in
    turning_more c.requires s few.1 few.2 few.3 c.write_run.ensures c.after_run-here.ensures c.after_run-there.ensures
