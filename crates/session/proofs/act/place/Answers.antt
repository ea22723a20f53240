use Rattle.std.proofs.Common.{refl, sym, ◌∙◌}
use Rattle.model.specs.declared.command.Command.TheVariants.{Where}
use Rattle.model.proofs.Results.{number_some}
use Rattle.model.specs.Table.{arrays}
use Rattle.session.specs.Maps.{maps, map_of, is_grow, performed}
use Rattle.session.proofs.Steps.{refused_step, told_step, place_refusal, place_told}
use Rattle.session.proofs.act.place.Goals as goal

pub returns-in-Ok : goal.returns-in-Ok
unfolding map_of is_grow performed
returns-in-Ok c other =
    let m = maps c.args.state (arrays c.args.tops.now c.args.ends.now c.args.blocks.now c.args.adjustments.now) other in
    let told = c.in-Ok.ensures in
    told_step m (Where _) _ _ c.told.ensures (place_refusal m c.requires.0 _ _ told) refl refl (place_told m c.requires.0 _ _ told)

pub returns-in-Err : goal.returns-in-Err
unfolding map_of
returns-in-Err c other =
    let m = maps c.args.state (arrays c.args.tops.now c.args.ends.now c.args.blocks.now c.args.adjustments.now) other in
    let told = c.in-Err.ensures in
    refused_step m (Where _) _ _ c.refused.ensures (place_refusal m c.requires.0 _ _ told ∙ sym c.number.ensures)
    (λ q. number_some _ (sym c.number.ensures ∙ q))

pub invariant_of-table : goal.invariant_of-table
invariant_of-table c = record { formed = c.requires.1.formed }
