use mathlib.Core.Path.{◌≡◌, sym, ◌∙◌}
use mathlib.Core.Logic.{⊎_elim}
use native.Mathlib.Omega.{arith}
use lib.Seq.{length-take-le}
use Rattle.std.proofs.lemmas.Result.{err_from_is_err_and}
use Rattle.model.specs.Table.{table, sizes}
use Rattle.model.specs.Lent.{lent}
use Rattle.model.specs.Calls.{growth_tests}
use Rattle.model.proofs.Asked.{asked_fewer, asked_narrower, asked_full, asked_wider, asked_same, asked_more}
use Rattle.model.proofs.Results.{refused_first}
use Rattle.model.proofs.Soundness.{allowed}
use Rattle.expansion_plan.proofs.growth_allowed.Goals as goal

pub returns-in_err-sizes_allowed : goal.returns-in_err-sizes_allowed
unfolding growth_tests
returns-in_err-sizes_allowed c ends blocks adjustments =
    let p = err_from_is_err_and c.from_residual.result c.from_residual.ensures.1 in
    rw (p.1, p.2) (refused_first _ _ _ c.in_err-sizes_allowed.ensures)

pub returns-then-buckets-h : goal.returns-then-buckets-h
unfolding table
returns-then-buckets-h c ends blocks adjustments =
    let t = lent c.args.h c.args.tops.now ends blocks adjustments in
    let z = sizes c.args.buckets c.args.bins in
    let sized = sym c.in_ok-sizes_allowed.ensures in
    ⊎_elim
    (λ fewer. sym (asked_fewer t z sized fewer))
    (λ kept. sym (asked_narrower t z sized kept.0 (omega (arith, c.bin_count-old.ensures ends blocks adjustments, kept.1))))
    c.then-buckets-h.either

pub returns-then-buckets-h-2 : goal.returns-then-buckets-h-2
unfolding table
returns-then-buckets-h-2 c ends blocks adjustments =
    let t = lent c.args.h c.args.tops.now ends blocks adjustments in
    let z = sizes c.args.buckets c.args.bins in
    sym
    (asked_same t z (sym c.in_ok-sizes_allowed.ensures) c.if-buckets-h.false
    (c.if-bins-old-2.true ∙ c.bin_count-old.ensures ends blocks adjustments)
    c.if-buckets-h-2.true)

pub returns-then-h-eq-MAX_BLOCKS : goal.returns-then-h-eq-MAX_BLOCKS
unfolding table
returns-then-h-eq-MAX_BLOCKS c ends blocks adjustments =
    let t = lent c.args.h c.args.tops.now ends blocks adjustments in
    let z = sizes c.args.buckets c.args.bins in
    sym
    (asked_full t z (sym c.in_ok-sizes_allowed.ensures) c.if-buckets-h.false
    (omega (arith, c.bin_count-old.ensures ends blocks adjustments, c.if-old-bins.true))
    (length-take-le _ _ c.requires.formed.tops_long ∙ c.if-h-eq-MAX_BLOCKS.true))

pub capacity_allowed-requires : goal.capacity_allowed-requires
capacity_allowed-requires c = (allowed _ (sym c.in_ok-sizes_allowed.ensures)).some_bins

pub returns : goal.returns
unfolding table
returns c ends blocks adjustments =
    let t = lent c.args.h c.args.tops.now ends blocks adjustments in
    let z = sizes c.args.buckets c.args.bins in
    let sized = sym c.in_ok-sizes_allowed.ensures in
    let n = c.bin_count-old.ensures ends blocks adjustments in
    c.capacity_allowed.ensures
    ∙ ⊎_elim
    (λ wider.
    sym
    (asked_wider t z sized c.if-buckets-h.false (omega (arith, n, wider.0))
    (λ e. wider.1 (sym (length-take-le _ _ c.requires.formed.tops_long) ∙ e))))
    (λ narrow.
    let same : c.args.bins ≡ c.bin_count-old.result = omega (arith, narrow, c.if-bins-old.false) in
    sym
    (asked_more t z sized c.if-buckets-h.false (same ∙ n)
    (⊎_elim (λ other. other.1) (λ other. absurd (other same)) c.else-bins-old-2.either)))
    c.else-old-bins.either
