use Prim.Native.Nat.{◌-◌}
use mathlib.Core.List.{◌++◌}
use mathlib.Core.Path.{◌≡◌, refl, sym, ◌∙◌, ap}
use native.Mathlib.Nat.{sub-zero}
use native.Mathlib.Omega.{arith}
use Rattle.model.specs.Expansion.{pieces}
use Rattle.expansion_count.specs.Growths.{old_table, new_sizes}
use Rattle.expansion_count.proofs.Pieces.{growth_fills, growth_shares, fills_rise, blocks_few, had_below, pieces_skip}
use Rattle.expansion_drain.proofs.Stores.{writing_start, writing_part, writing_more, writing_end, writing_all, stored_same}
use Rattle.expansion_table.proofs.Filling.{start_most, piece_fits, piece_turn}
use Rattle.expansion_table.proofs.write_pieces.Goals.{then-gained-ne0, else-gained-ne0}
use Rattle.expansion_table.proofs.write_pieces.Goals as goal

pub loop-j-init : goal.loop-j-init
loop-j-init c = (omega arith, rw sub-zero (writing_start _ _ _ _ _))

pub piece-gained-requires : goal.piece-gained-requires
piece-gained-requires c =
    let g = c.args.growth.now in
    let fills = growth_fills g c.requires.none_falls in
    (omega (arith, c.loop-j-test.true, blocks_few _ _ _ _ _ fills _ g.grows.counted), fills_rise _ _ _ _ _ fills)

pub overflow_add-interval : goal.overflow_add-interval
overflow_add-interval c =
    let g = c.args.growth.now in
    let few = blocks_few _ _ _ _ _ (growth_fills g c.requires.none_falls) _ g.grows.counted in
    let own = c.piece-gained.ensures _ _ (growth_shares g _ c.last_block-last.ensures) in
    let w = c.loop-j.invariant.1 in
    let turn = piece_turn g c.loop-j.j c.loop-j.at _ c.loop-j-test.true (omega (arith, c.loop-j-test.true, few)) own c.if-gained-ne0.true in
    let fits = piece_fits g c.requires.none_falls _ c.requires.start_value w.done _ _ (ap (λ is. w.done ++ is) (sym turn.joined) ∙ w.split) in
    omega (arith, fits)

pub bounds-growth-j : goal.bounds-growth-j
bounds-growth-j c =
    let g = c.args.growth.now in
    omega (arith, c.loop-j-test.true, blocks_few _ _ _ _ _ (growth_fills g c.requires.none_falls) _ g.grows.counted)

pub overflow_sub-interval : goal.overflow_sub-interval
overflow_sub-interval c =
    let g = c.args.growth.now in
    let fills = growth_fills g c.requires.none_falls in
    had_below _ _ _ _ _ fills _ _ (omega (arith, c.loop-j-test.true, blocks_few _ _ _ _ _ fills _ g.grows.counted))
    (omega (arith, start_most _ _ _ _ _ fills, c.requires.start_value, c.loop-j.invariant.0))

pub write_interval-requires : goal.write_interval-requires
write_interval-requires c =
    let g = c.args.growth.now in
    let few = blocks_few _ _ _ _ _ (growth_fills g c.requires.none_falls) _ g.grows.counted in
    let own = c.piece-gained.ensures _ _ (growth_shares g _ c.last_block-last.ensures) in
    let turn = piece_turn g c.loop-j.j c.loop-j.at _ c.loop-j-test.true (omega (arith, c.loop-j-test.true, few)) own c.if-gained-ne0.true in
    writing_part c.loop-j.invariant.1 turn c.requires.room

pub overflow_add-o : goal.overflow_add-o
overflow_add-o c =
    let g = c.args.growth.now in
    let few = blocks_few _ _ _ _ _ (growth_fills g c.requires.none_falls) _ g.grows.counted in
    let own = c.piece-gained.ensures _ _ (growth_shares g _ c.last_block-last.ensures) in
    let turn = piece_turn g c.loop-j.j c.loop-j.at _ c.loop-j-test.true (omega (arith, c.loop-j-test.true, few)) own c.if-gained-ne0.true in
    omega (
      arith,
      (writing_part c.loop-j.invariant.1 turn c.requires.room).ends,
      (stored_same c.loop-j.invariant.1.stored).0,
      c.well_formed,
    )

pub loop-j-preserved : goal.loop-j-preserved
loop-j-preserved c =
    let g = c.args.growth.now in
    let few = blocks_few _ _ _ _ _ (growth_fills g c.requires.none_falls) _ g.grows.counted in
    let own = c.piece-gained.ensures _ _ (growth_shares g _ c.last_block-last.ensures) in
    let inv = c.loop-j.invariant in
    elim c.if-gained-ne0.branch [
      | then-gained-ne0 w ↦
          let turn =
          piece_turn g c.loop-j.j c.loop-j.at _ c.loop-j-test.true (omega (arith, c.loop-j-test.true, few)) own w.if-gained-ne0.true in
          rw (w.at-is, w.o-is, w.new_ends-is, w.new_blocks-is, w.new_adjustments-is) (
            omega (arith, inv.0),
            writing_more inv.1 _ turn w.write_interval.ensures refl,
          )
      | else-gained-ne0 w ↦
          let skip =
          pieces_skip (old_table g) (new_sizes g) c.loop-j.j c.loop-j.at g.block_count c.loop-j-test.true
          (sym own ∙ w.if-gained-ne0.false) in
          rw (w.at-is, w.o-is, w.new_ends-is, w.new_blocks-is, w.new_adjustments-is) (inv.0, rw skip at inv.1)
    ]

pub returns-clause-place : goal.returns-clause-place
unfolding pieces
returns-clause-place c =
    let g = c.args.growth.now in
    let none : g.block_count - c.loop-j.j ≡ 0 = omega (arith, c.loop-j-test.false) in
    writing_all c.loop-j.invariant.1 (ap (pieces (old_table g) (new_sizes g) c.loop-j.at c.loop-j.j) none)

pub returns-clause-stored : goal.returns-clause-stored
unfolding pieces
returns-clause-stored c =
    let g = c.args.growth.now in
    let none : g.block_count - c.loop-j.j ≡ 0 = omega (arith, c.loop-j-test.false) in
    writing_end c.loop-j.invariant.1 (ap (pieces (old_table g) (new_sizes g) c.loop-j.at c.loop-j.j) none)
