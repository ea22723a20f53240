use mathlib.Core.Path.{◌≡◌, sym, ◌∙◌, ap}
use mathlib.Core.Bool.{not, ◌&&◌}
use native.Mathlib.Omega.{arith}
use lib.Dec.{leb}
use lib.ListN.{length, get_or}
use borrow.Author.Tests.{le-leb}
use Rattle.model.specs.Basics.{◌and◌, all, before}
use Rattle.model.specs.Refusal.{falls}
use Rattle.model.proofs.Flags.{All_more}
use Rattle.model.proofs.Rules.{before_some}
use Rattle.batch.proofs.falls.Goals as goal

pub loop-next-init : goal.loop-next-init
unfolding all before ◌and◌
loop-next-init c = sym (le-leb 0 (get_or c.args.buckets.now 0 0) (omega arith))

pub loop-next-preserved : goal.loop-next-preserved
loop-next-preserved c =
    let l = c.loop-next in
    let xs = c.args.buckets.now in
    ap (λ x. l.rise && leb x (get_or xs l.next 0)) (sym (before_some xs l.next (omega arith)))
    ∙ All_more (λ k. leb (before xs k) (get_or xs k 0)) l.next l.rise l.invariant

pub returns : goal.returns
unfolding falls
returns c =
    let same : c.loop-next.next ≡ length c.args.buckets.now = omega arith in
    ap not (rw same at c.loop-next.invariant)
