use Rattle.std.proofs.Common.{◌≡◌, ◌∙◌, ap, refl, arith}
use Prim.Native.Nat.{ℕ}
use lib.Seq.{sets}
use Rattle.model.specs.Basics.{from, joined}
use Rattle.model.proofs.Entries.{put_none}
use Rattle.model.proofs.Parts.{part_stored}
use Rattle.digits.specs.Parts.{pair_of}
use Rattle.fields.specs.Parts.{pairs_to}
use Rattle.fields.proofs.put_pairs.Goals as goal

pub loop-n-init : goal.loop-n-init
unfolding pairs_to from joined
loop-n-init c = put_none _ _

pub loop-n-preserved : goal.loop-n-preserved
unfolding pairs_to
loop-n-preserved c = part_stored pair_of 2 (λ i. refl) c.loop-n.n c.loop-n.invariant c.put_pair.ensures

pub returns : goal.returns
returns c =
    let all : c.loop-n.n ≡ 100 = omega arith in
    c.loop-n.invariant.holds ∙ ap (λ (n : ℕ). sets c.args.out.now 0 (pairs_to n)) all
