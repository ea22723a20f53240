use mathlib.Core.Path.{◌≡◌, refl, sym}
use native.Mathlib.Omega.{arith}
use Rattle.std.proofs.lemmas.Result.{err_from_is_err_and}
use Rattle.model.specs.Basics.{if◌then◌otherwise◌}
use Rattle.model.specs.Table.{arrays}
use Rattle.model.specs.Calls.{answer, places_refusal}
use Rattle.model.specs.Results.{number}
use Rattle.model.proofs.Refusals.{refused}
use Rattle.model.proofs.Results.{number_some}
use Rattle.model.proofs.Checked.{stands}
use Rattle.irr.proofs.Answers.{same_table, places_short, places_later, places_answers, places_listed}
use Rattle.irr.proofs.results.places.Goals as goal

-- the refusal of a wrong table
of_table
    : (c : goal.After-from_residual)
    → number c.in_err-table.field-0.0
    ≡ places_refusal c.args.header (arrays c.args.tops.now c.args.ends.now c.args.blocks.now c.args.adjustments.now) c.args.buckets.now c.args.places.now
of_table c =
    places_later _ _ _ _ _ (omega (arith, c.if-places-buckets.false)) (stands _ _ _ c.in_err-table.ensures.refusal _ (number_some _))

pub returns-then-places-buckets-clause-value : goal.returns-then-places-buckets-clause-value
returns-then-places-buckets-clause-value c = (places_answers _ _ _ _ 33 (places_short _ _ _ _ (omega (arith, c.if-places-buckets.true))) refl).0

pub returns-then-places-buckets-clause-places_left : goal.returns-then-places-buckets-clause-places_left
unfolding answer if◌then◌otherwise◌
returns-then-places-buckets-clause-places_left c = (places_answers _ _ _ _ 33 (places_short _ _ _ _ (omega (arith, c.if-places-buckets.true))) refl).1

pub returns-in_err-table-clause-value : goal.returns-in_err-table-clause-value
returns-in_err-table-clause-value c =
    let p = err_from_is_err_and c.from_residual.result c.from_residual.ensures.1 in
    rw (p.1, p.2) ((places_answers _ _ _ _ _ (of_table c) (sym (refused _ _ _ (number_some _)))).0)

pub returns-in_err-table-clause-places_left : goal.returns-in_err-table-clause-places_left
returns-in_err-table-clause-places_left c = (places_answers _ _ _ _ _ (of_table c) (sym (refused _ _ _ (number_some _)))).1

pub placed_each-requires : goal.placed_each-requires
placed_each-requires c = omega (arith, c.if-places-buckets.false)

pub returns-clause-value : goal.returns-clause-value
returns-clause-value c =
    (places_listed _ _ _ _ _ (same_table c.in_ok-table.ensures.table) c.in_ok-table.ensures.refusal (omega (arith, c.if-places-buckets.false))
    _ c.placed_each.ensures.value c.placed_each.ensures.out_left).0

pub returns-clause-places_left : goal.returns-clause-places_left
returns-clause-places_left c =
    (places_listed _ _ _ _ _ (same_table c.in_ok-table.ensures.table) c.in_ok-table.ensures.refusal (omega (arith, c.if-places-buckets.false))
    _ c.placed_each.ensures.value c.placed_each.ensures.out_left).1
