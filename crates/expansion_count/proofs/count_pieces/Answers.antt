use Prim.Native.Nat.{◌-◌}
use mathlib.Core.Path.{◌≡◌, sym, ◌∙◌, ap}
use native.Mathlib.Nat.{sub-zero}
use native.Mathlib.Omega.{arith}
use lib.ListN.{length}
use Rattle.model.specs.Expansion.{pieces}
use Rattle.model.proofs.Steps.{pieces_length}
use Rattle.expansion_count.proofs.Pieces.{count_skip, count_take}
use Rattle.expansion_count.proofs.count_pieces.Goals.{then-piece-ne0, else-piece-ne0}
use Rattle.expansion_count.proofs.count_pieces.Goals as goal

pub loop-j-init : goal.loop-j-init
loop-j-init c = (omega arith, λ t s shares. omega (arith, ap (λ n. length (pieces t s 0 0 n)) (sub-zero c.args.count)))

pub loop-j-preserved : goal.loop-j-preserved
loop-j-preserved c =
    let j = c.loop-j.j in
    let n = c.args.count in
    let l = c.loop-j-test.true in
    elim c.if-piece-ne0.branch [
      | then-piece-ne0 w ↦ (
        omega (arith, w.gaining-is, c.loop-j.invariant.0),
        λ t s shares.
            let own = c.piece.ensures t s shares in
            omega (arith, w.gaining-is, c.loop-j.invariant.1 t s shares, count_take t s j n l (λ z. w.if-piece-ne0.true (own ∙ z))),
      )
      | else-piece-ne0 w ↦ (
        omega (arith, w.gaining-is, c.loop-j.invariant.0),
        λ t s shares.
            let own = c.piece.ensures t s shares in
            omega (arith, w.gaining-is, c.loop-j.invariant.1 t s shares, count_skip t s j n l (sym own ∙ w.if-piece-ne0.false)),
      )
    ]

pub returns-clause-counted : goal.returns-clause-counted
unfolding pieces
returns-clause-counted c t s b shares =
    let n = c.args.count in
    let none : n - c.loop-j.j ≡ 0 = omega (arith, c.loop-j-test.false) in
    omega (
      arith,
      c.loop-j.invariant.1 t s shares,
      ap (λ k. length (pieces t s 0 c.loop-j.j k)) none,
      pieces_length t s n 0 0 b,
    )
