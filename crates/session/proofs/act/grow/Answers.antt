use Rattle.std.proofs.Common.{false, refl, ◌∙◌, ap}
use Rattle.model.specs.declared.answer.Answer.TheVariants as says
use Rattle.model.proofs.Results.{number_some}
use Rattle.model.specs.Table.{arrays}
use Rattle.session.specs.Maps.{maps, map_of}
use Rattle.session.proofs.Steps.{grow_refused, grow_step}
use Rattle.session.proofs.act.grow.Goals as goal

pub returns-in-Err : goal.returns-in-Err
unfolding map_of
returns-in-Err c =
    grow_refused (maps c.args.state (arrays c.args.tops.now c.args.ends.now c.args.blocks.now c.args.adjustments.now) (arrays c.args.new_tops.now c.args.new_ends.now c.args.new_blocks.now c.args.new_adjustments.now)) c.requires.has_map.0 _ _ _ _
    c.in-Err.ensures _
    (c.refused.ensures ∙ ap (λ n. record { state = c.args.state; flip = false; answer = says.Refused n }) c.number.ensures)
    (number_some _)

pub returns : goal.returns
unfolding map_of
returns c =
    grow_step (maps c.args.state (arrays c.args.tops.now c.args.ends.now c.args.blocks.now c.args.adjustments.now) (arrays c.args.new_tops.now c.args.new_ends.now c.args.new_blocks.now c.args.new_adjustments.now)) c.requires.has_map.0 _ _ _ _
    c.in-Ok.ensures refl

pub invariant_of-table : goal.invariant_of-table
invariant_of-table c = record { formed = c.requires.has_map.1.formed }
