use mathlib.Core.Path.{◌∙◌, ap₂}
use mathlib.Core.List.{[], ◌∷◌}
use lib.Seq.{sets}
use Rattle.rows.specs.Spans.{pair_row}
use Rattle.model.specs.declared.given.Slot.{Slot}
use Rattle.rows.proofs.write_places.Goals as goal

pub returns : goal.returns
unfolding pair_row
returns c =
    c.write_row.ensures
    ∙ ap₂ (λ (s s' : Slot). sets c.args.rows.now c.args.at (c.args.bucket ∷ s.bin ∷ s.position ∷ s'.bin ∷ s'.position ∷ []))
    c.unpacked.ensures c.unpacked-2.ensures
