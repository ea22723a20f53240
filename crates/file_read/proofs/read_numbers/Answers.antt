use Rattle.std.proofs.Common.{◌≡◌, ap, ◌∙◌, arith}
use Rattle.model.specs.Basics.{from}
use Rattle.model.specs.Table.{over}
use Rattle.model.specs.Saved.{number}
use Rattle.model.proofs.Entries.{put_none, put_next, put_over}
use Rattle.file_read.proofs.read_numbers.Goals as goal

pub loop-i-init : goal.loop-i-init
unfolding from
loop-i-init c = put_none 0 _

pub loop-i-preserved : goal.loop-i-preserved
loop-i-preserved c = put_next _ _ _ c.loop-i.invariant c.number_at.ensures

pub returns : goal.returns
returns c =
    let all : c.loop-i.i ≡ c.args.count = omega arith in
    put_over c.loop-i.invariant (omega arith)
    ∙ ap (λ i. over (from (number c.args.f.now) c.args.first i) c.args.out.now) all
