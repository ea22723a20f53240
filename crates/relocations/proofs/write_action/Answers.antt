use mathlib.Core.Path.{refl, ◌∙◌}
use mathlib.Core.Logic.{inl, inr}
use Rattle.relocations.proofs.Actions.{MovesFrom, rows_stay, paged_none, moves_part, moves_rows}
use Rattle.relocations.proofs.write_action.Goals.{in-Move, in-Split}
use Rattle.relocations.proofs.write_action.Goals as goal

pub returns-in-Stay : goal.returns-in-Stay
returns-in-Stay c w moves b g l =
    let a = c.args in
    rw (rows_stay a.action a.start a.end a.old a.first_bin a.bins b g l c.in-Stay.is) (paged_none a.first w a.rows.now)

pub invariant_of-span : goal.invariant_of-span
invariant_of-span c =
    let a = c.args in
    let from : MovesFrom a.action a.start c.match-action.bucket.0 c.match-action.bucket.1 =
    elim c.match-action.branch [
      | in-Move w ↦ rw w.bucket-is (inl (refl, w.in-Move.is))
      | in-Split w ↦ rw w.bucket-is (inr w.in-Split.is)
    ] in
    let part = moves_part a.action a.start a.end a.old a.first_bin a.bins c.requires.0 _ _ c.requires.1 from in
    record { places = (part.old_places, part.new_places); within = (part.within, part.limit) }

pub returns : goal.returns
returns c w moves b g l =
    let a = c.args in
    let from : MovesFrom a.action a.start c.match-action.bucket.0 c.match-action.bucket.1 =
    elim c.match-action.branch [
      | in-Move w ↦ rw w.bucket-is (inl (refl, w.in-Move.is))
      | in-Split w ↦ rw w.bucket-is (inr w.in-Split.is)
    ] in
    c.write_part.ensures
    ∙ moves_rows a.action a.start a.end a.old a.first_bin a.bins w _ _ moves from a.first a.rows.now b g l
