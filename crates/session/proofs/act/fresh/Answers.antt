use Rattle.std.proofs.Common.{sym, ◌∙◌, arith}
use mathlib.Core.Path.{refl}
use Rattle.model.specs.declared.command.Command.TheVariants.{Fresh}
use Rattle.model.proofs.Results.{number_some}
use Rattle.model.specs.Table.{arrays}
use Rattle.session.specs.Maps.{maps}
use Rattle.session.proofs.Steps.{fresh_refusal_lem, refused_step, fresh_step}
use Rattle.session.proofs.act.fresh.Goals as goal

pub returns-in-Err : goal.returns-in-Err
returns-in-Err c other =
    let m = maps c.args.state (arrays c.args.tops.now c.args.ends.now c.args.blocks.now c.args.adjustments.now) other in
    refused_step m (Fresh _ _) _ _ c.refused.ensures (fresh_refusal_lem m _ _ ∙ sym c.in-Err.ensures ∙ sym c.number.ensures)
    (λ q. number_some _ (sym c.number.ensures ∙ q))

pub returns : goal.returns
returns c other =
    fresh_step (maps c.args.state (arrays c.args.tops.now c.args.ends.now c.args.blocks.now c.args.adjustments.now) other) _ _ _ _ _ c.in_default.ensures refl (c.write_initial.ensures _) (omega arith)
