use mathlib.Core.Path.{◌≡◌, refl, sym, ◌∙◌}
use mathlib.Core.List.{[]}
use native.Mathlib.Omega.{arith}
use Rattle.std.proofs.lemmas.Result.{err_from_is_err_and}
use Rattle.model.specs.Table.{arrays, sizes}
use Rattle.model.specs.Results.{number}
use Rattle.model.proofs.Refusals.{first_here, first_skip, first_none}
use Rattle.model.proofs.Results.{number_some}
use Rattle.model.proofs.Soundness.{allowed}
use Rattle.fresh.specs.Fresh.{fresh_refusal}
use Rattle.fresh.proofs.Answers.{fresh_sizes, fresh_last, fresh_outside, fresh_within, fresh_refused, fresh_accepted}
use Rattle.fresh.proofs.mapped.Goals as goal

-- the number of each return
sized : (c : goal.After-from_residual) → number c.in_err-sizes_allowed.field-0.0 ≡ fresh_refusal (sizes c.args.buckets c.args.bins) c.args.capacity
sized c = fresh_within _ _ _ (sym c.is_outside.ensures ∙ c.if-is_outside.false) (fresh_sizes _ _ _ c.in_err-sizes_allowed.ensures)

full : (c : goal.Then-overfull) → 31 ≡ fresh_refusal (sizes c.args.buckets c.args.bins) c.args.capacity
full c =
    fresh_within _ _ _ (sym c.is_outside.ensures ∙ c.if-is_outside.false)
    (fresh_last _ _ _ (sym c.in_ok-sizes_allowed.ensures) (sym (first_here (31, _) [] (sym c.overfull.ensures ∙ c.if-overfull.true))))

pub returns-then-is_outside-clause-value : goal.returns-then-is_outside-clause-value
returns-then-is_outside-clause-value c = (fresh_refused _ _ 30 (fresh_outside _ _ (sym c.is_outside.ensures ∙ c.if-is_outside.true)) (λ z. omega arith) (arrays [] [] [] [])).0

pub returns-then-is_outside-clause-arrays_left : goal.returns-then-is_outside-clause-arrays_left
returns-then-is_outside-clause-arrays_left c = (fresh_refused _ _ 30 (fresh_outside _ _ (sym c.is_outside.ensures ∙ c.if-is_outside.true)) (λ z. omega arith) _).1

pub returns-in_err-sizes_allowed-clause-value : goal.returns-in_err-sizes_allowed-clause-value
returns-in_err-sizes_allowed-clause-value c =
    let p = err_from_is_err_and c.from_residual.result c.from_residual.ensures.1 in
    rw (p.1, p.2) ((fresh_refused _ _ _ (sized c) (number_some _) (arrays [] [] [] [])).0)

pub returns-in_err-sizes_allowed-clause-arrays_left : goal.returns-in_err-sizes_allowed-clause-arrays_left
returns-in_err-sizes_allowed-clause-arrays_left c = (fresh_refused _ _ _ (sized c) (number_some _) _).1

pub overfull-requires : goal.overfull-requires
overfull-requires c = (allowed _ (sym c.in_ok-sizes_allowed.ensures)).some_bins

pub returns-then-overfull-clause-value : goal.returns-then-overfull-clause-value
returns-then-overfull-clause-value c = (fresh_refused _ _ 31 (full c) (λ z. omega arith) (arrays [] [] [] [])).0

pub returns-then-overfull-clause-arrays_left : goal.returns-then-overfull-clause-arrays_left
returns-then-overfull-clause-arrays_left c = (fresh_refused _ _ 31 (full c) (λ z. omega arith) _).1

-- no test holds
pub returns-clause-value : goal.returns-clause-value
returns-clause-value c =
    let none = sym (first_skip (31, _) [] (sym c.overfull.ensures ∙ c.if-overfull.false) ∙ first_none) in
    (fresh_accepted _ _ _ (fresh_within _ _ _ (sym c.is_outside.ensures ∙ c.if-is_outside.false) (fresh_last _ _ _ (sym c.in_ok-sizes_allowed.ensures) none)) refl (arrays [] [] [] [])).0

pub returns-clause-arrays_left : goal.returns-clause-arrays_left
returns-clause-arrays_left c =
    let none = sym (first_skip (31, _) [] (sym c.overfull.ensures ∙ c.if-overfull.false) ∙ first_none) in
    c.write_initial.ensures _ ∙ (fresh_accepted _ _ _ (fresh_within _ _ _ (sym c.is_outside.ensures ∙ c.if-is_outside.false) (fresh_last _ _ _ (sym c.in_ok-sizes_allowed.ensures) none)) refl _).1
