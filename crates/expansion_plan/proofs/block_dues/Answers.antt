use mathlib.Core.Path.{◌≡◌, sym}
use native.Mathlib.Omega.{arith}
use Rattle.model.specs.Table.{sizes}
use Rattle.model.specs.Balance.{due_below}
use Rattle.model.proofs.Rules.{before_next}
use Rattle.model.proofs.Holdings.{due_none}
use Rattle.expansion_plan.proofs.Turns.{due_turn}
use Rattle.expansion_plan.proofs.Written.{dues_none, dues_more}
use Rattle.expansion_plan.proofs.block_dues.Goals as goal

pub loop-j-init : goal.loop-j-init
loop-j-init c = (sym (due_none _ _), dues_none _ _ _)

pub due_below-through-requires : goal.due_below-through-requires
unfolding due_below
due_below-through-requires c =
    let t = due_turn (sizes c.args.buckets c.args.bins) _ _ c.requires.tops_within c.loop-j.j c.loop-j-test.true in
    omega (arith, t.fits, c.ranges.buckets.fits)

pub overflow_sub-dues : goal.overflow_sub-dues
unfolding due_below
overflow_sub-dues c =
    let t = due_turn (sizes c.args.buckets c.args.bins) _ _ c.requires.tops_within c.loop-j.j c.loop-j-test.true in
    omega (arith, t.closed, c.loop-j.invariant.0, c.due_below-through.ensures)

pub loop-j-preserved : goal.loop-j-preserved
unfolding due_below
loop-j-preserved c =
    let t = due_turn (sizes c.args.buckets c.args.bins) _ _ c.requires.tops_within c.loop-j.j c.loop-j-test.true in (
      rw before_next c.due_below-through.ensures,
      dues_more _ _ _ _ _ _ c.loop-j.invariant.1 (omega (arith, c.requires.count_in_bounds))
          (omega (arith, t.closed, c.loop-j.invariant.0, c.due_below-through.ensures)),
    )

pub returns : goal.returns
returns c =
    let all : c.loop-j.j ≡ c.args.count = omega (arith, c.loop-j-test.false, c.loop-j.auto.j-end) in
    rw all at c.loop-j.invariant.1
