use Rattle.std.proofs.Common.{false, refl, sym, ◌∙◌, ap}
use Rattle.model.specs.declared.answer.Answer.TheVariants as says
use Rattle.model.proofs.Results.{number_some}
use Rattle.model.specs.Console.{is_fresh}
use Rattle.model.specs.declared.command.Command.TheVariants.{Grow, Where, At, Moves}
use Rattle.session.proofs.Steps.{passed_sound, step_of, line_step, moves_step, unreadable_step}
use Rattle.session.proofs.act.act.Goals as goal

pub returns-in-Err : goal.returns-in-Err
returns-in-Err c =
    line_step _ _ _ _ c.refused.ensures (c.number.ensures ∙ c.in-Err.ensures _ _) (λ q. number_some _ (sym c.number.ensures ∙ q))

pub grow-requires-clause-has_map : goal.grow-requires-clause-has_map
unfolding is_fresh
grow-requires-clause-has_map c =
    passed_sound _ (Grow _ _) c.in-Grow.is refl (c.in_default.ensures _ _) refl c.requires

pub place-requires : goal.place-requires
unfolding is_fresh
place-requires c = passed_sound _ (Where _) c.in-Where.is refl (c.in_default.ensures _ _) refl c.requires

pub find-requires : goal.find-requires
unfolding is_fresh
find-requires c = passed_sound _ (At _ _) c.in-At.is refl (c.in_default.ensures _ _) refl c.requires

pub returns-in-Moves : goal.returns-in-Moves
unfolding is_fresh
returns-in-Moves c =
    step_of _ c.in-Moves.is
    (moves_step _ _ c.told.ensures
    (passed_sound _ Moves c.in-Moves.is refl (c.in_default.ensures _ _) refl c.requires).0)

pub returns-in-Unreadable : goal.returns-in-Unreadable
returns-in-Unreadable c = step_of _ c.in-Unreadable.is (unreadable_step _ _ (c.refused-in-Unreadable.ensures ∙ ap (λ n. record { state = c.args.state; flip = false; answer = says.Refused n }) c.number-in-Unreadable.ensures))
