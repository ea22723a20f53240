use Prim.Native.Nat.{◌+◌, ◌-◌}
use mathlib.Core.Path.{refl, ◌∙◌, ap}
use mathlib.Core.List.{[], ◌∷◌, ◌++◌}
use native.Mathlib.Omega.{arith}
use lib.ListN.{get_or}
use lib.Seq.{sets}
use Rattle.model.specs.Table.{first_bin, block_bins}
use Rattle.model.specs.Sheet.{field}
use Rattle.model.proofs.Entries.{put_none, put_more}
use Rattle.model.proofs.Sheets.{field_length}
use Rattle.sheet.specs.Lines.{tail_of}
use Rattle.sheet.proofs.Parts.{regrouped}
use Rattle.sheet.proofs.put_tail.Goals as goal

pub returns : goal.returns
unfolding tail_of first_bin block_bins
returns c =
    let at = c.args.at in
    let tops = c.args.tops.now in
    let j = c.args.block in
    let first = c.before-first.result in
    let bins = get_or tops j 0 - first in
    let one = put_more (put_none at c.args.out.now) {o' = at + 10} (field j) c.put_field.ensures (omega (arith, field_length j)) in
    let two = put_more one {o' = at + 20} (field first) c.put_field-2.ensures (omega (arith, field_length first)) in
    let three = put_more two {o' = at + 30} (field bins) c.put_field-3.ensures (omega (arith, field_length bins)) in
    let all = put_more three {o' = at + 31} (10 ∷ []) refl (omega arith) in
    all.holds
    ∙ ap (sets c.args.out.now at)
    (regrouped (field j) (field first) (field bins) (10 ∷ [])
    ∙ ap (λ f. field j ++ (field f ++ (field (get_or tops j 0 - f) ++ (10 ∷ [])))) c.before-first.ensures)
