use Rattle.std.proofs.Common.{◌≡◌, ◌+◌, get_or, ap, ◌∙◌, arith}
use lib.ListN.{get_or-append}
use Rattle.model.specs.Basics.{from}
use Rattle.model.specs.Table.{over}
use Rattle.model.specs.Saved.{number}
use Rattle.model.proofs.Entries.{put_none, put_next, put_over}
use Rattle.model.proofs.Tables.{length_from, get_d_from}
use Rattle.file_read.proofs.copy_numbers.Goals as goal

pub loop-i-init : goal.loop-i-init
unfolding from
loop-i-init c = put_none 0 _

pub loop-i-preserved : goal.loop-i-preserved
unfolding over
loop-i-preserved c =
    let f = c.args.f.now in
    let read : get_or c.read_numbers.new.out c.loop-i.i 0 ≡ number f (c.args.first + c.loop-i.i) =
    ap (λ xs. get_or xs c.loop-i.i 0) c.read_numbers.ensures
    ∙ get_or-append (from (number f) c.args.first c.args.count) _ 0 c.loop-i.i (omega (arith, length_from (number f) c.args.first c.args.count))
    ∙ get_d_from _ _ _ _ _ (omega arith)
    in
    put_next _ _ _ c.loop-i.invariant read

pub returns : goal.returns
returns c =
    let all : c.loop-i.i ≡ c.args.count = omega arith in
    put_over c.loop-i.invariant (omega arith)
    ∙ ap (λ i. over (from (number c.args.f.now) c.args.first i) c.args.out.now) all
