use Rattle.std.proofs.Common.{refl, sym, ◌∙◌}
use Rattle.model.specs.declared.command.Command.TheVariants.{At}
use Rattle.model.proofs.Results.{number_some}
use Rattle.model.specs.Table.{arrays}
use Rattle.session.specs.Maps.{maps, map_of, is_grow, performed}
use Rattle.session.proofs.Steps.{refused_step, told_step, find_refusal, find_told}
use Rattle.session.proofs.act.find.Goals as goal

pub returns-in-Ok : goal.returns-in-Ok
unfolding map_of is_grow performed
returns-in-Ok c other =
    let m = maps c.args.state (arrays c.args.tops.now c.args.ends.now c.args.blocks.now c.args.adjustments.now) other in
    let told = c.in-Ok.ensures in
    told_step m (At _ _) _ _ c.told.ensures (find_refusal m c.requires.0 _ _ _ told) refl refl (find_told m c.requires.0 _ _ _ told refl)

pub returns-in-Err : goal.returns-in-Err
unfolding map_of
returns-in-Err c other =
    let m = maps c.args.state (arrays c.args.tops.now c.args.ends.now c.args.blocks.now c.args.adjustments.now) other in
    let told = c.in-Err.ensures in
    refused_step m (At _ _) _ _ c.refused.ensures (find_refusal m c.requires.0 _ _ _ told ∙ sym c.number.ensures)
    (λ q. number_some _ (sym c.number.ensures ∙ q))

pub invariant_of-table : goal.invariant_of-table
invariant_of-table c = record { formed = c.requires.1.formed }
