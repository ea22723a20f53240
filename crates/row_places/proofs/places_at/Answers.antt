use Prim.Native.Nat.{◌-◌}
use mathlib.Core.Path.{sym, ◌∙◌, ap, ap₂, subst}
use native.Mathlib.Omega.{arith}
use Rattle.table.specs.Placing.{placing, Places}
use Rattle.row_places.proofs.Places.{bins_rise, old_places_lem, new_places_lem, row_places_lem}
use Rattle.row_places.proofs.places_at.Goals as goal

pub overflow_sub-new : goal.overflow_sub-new
overflow_sub-new c =
    omega (arith, c.bins-old_bins.ensures, (bins_rise _ _ _ _ c.requires.1 _ _ c.requires.2).0)

pub slot_of-requires : goal.slot_of-requires
slot_of-requires c =
    subst (λ p. Places p c.args.moved.bucket) (sym c.placing.ensures) (old_places_lem _ _ _ _ c.requires.1 _ _ c.requires.2)

pub slot_of-requires-2 : goal.slot_of-requires-2
slot_of-requires-2 c =
    subst (λ n. Places (placing n (c.args.bins - n) 0) c.args.order) (sym c.bins-old_bins.ensures)
    (new_places_lem _ _ _ _ c.requires.1 _ _ c.requires.2)

pub returns : goal.returns
returns c buckets row found =
    ap₂ (λ o n. record { old = o; new = n }) c.slot_of.ensures c.slot_of-2.ensures
    ∙ row_places_lem _ _ _ _ row _ _ found _ _ c.placing.ensures
    (ap (λ n. placing n (c.args.bins - n) 0) c.bins-old_bins.ensures)
