use Rattle.std.proofs.Common.{◌≡◌, ◌+◌, ◌*◌, ◌/◌, refl, arith}
use Rattle.model.specs.Table.{Arrays}
use Rattle.file_rules.specs.Judging.{file_arrays}
use Rattle.file_rules.proofs.Adjusted.{Adjusted, Turn, adjusted_none, adjusted_turn, adjusted_next, adjusted_all, pair_fits, adjusted_pair}
use Rattle.file_rules.proofs.File.adjust.Goals.{After-block_at-block-2}
use Rattle.file_rules.proofs.File.adjust.Goals as goal

pub loop-j-init : goal.loop-j-init
loop-j-init c = rw c.requires.room.1 (adjusted_none _ _ _ _ _)

pub overflow_sub-adjustment : goal.overflow_sub-adjustment
overflow_sub-adjustment c =
    (adjusted_turn _ _ _ _ c.requires.intervals_right _ _ _ _ _ c.loop-j.invariant _ _
    c.block_at-block.ensures c.end_at-middle.ensures (omega arith)).within

pub overflow_sub-next : goal.overflow_sub-next
overflow_sub-next c =
    (pair_fits _ _ _ _ c.requires.intervals_right _ _ _ _ _ c.loop-j.invariant _ _ _ _ _
    c.block_at-block.ensures c.block_at-other.ensures c.end_at-middle.ensures c.end_at-end.ensures (omega arith)
    c.origin.ensures.0 c.origin.ensures.1).2

pub overflow_sub-sums-in-loop-j : goal.overflow_sub-sums-in-loop-j
overflow_sub-sums-in-loop-j c =
    (pair_fits _ _ _ _ c.requires.intervals_right _ _ _ _ _ c.loop-j.invariant _ _ _ _ _
    c.block_at-block.ensures c.block_at-other.ensures c.end_at-middle.ensures c.end_at-end.ensures (omega arith)
    c.origin.ensures.0 c.origin.ensures.1).3

pub loop-j-preserved : goal.loop-j-preserved
loop-j-preserved c =
    let two : 2 * (c.loop-j.j + 1) ≡ 2 * c.loop-j.j + 1 + 1 = omega arith in
    rw two
    (adjusted_pair _ _ _ _ c.requires.intervals_right _ _ _ _ _ c.loop-j.invariant _ _ _ _ _
    c.block_at-block.ensures c.block_at-other.ensures c.end_at-middle.ensures c.end_at-end.ensures (omega arith)
    c.origin.ensures.0 c.origin.ensures.1)

pub returns-then-i-count : goal.returns-then-i-count
returns-then-i-count c =
    let all = adjusted_all _ _ _ _ c.requires.intervals_right _ _ _ _ _ c.loop-j.invariant (omega arith) (omega arith) in
    record { held = all.0; out_left = all.1 }

-- the last of an odd number of intervals
module _ (c : After-block_at-block-2) where
  abbrev file : Arrays
  file = file_arrays c.args.self.bytes.now c.args.self.header

  -- before it
  ended
      : Adjusted c.args.self.header file.tops file.ends file.blocks (2 * (c.args.self.header.interval_count / 2))
      c.loop-j.start c.loop-j.sums c.args.out.now c.loop-j.out
  ended =
      let all_pairs : c.loop-j.j ≡ c.args.self.header.interval_count / 2 = omega arith in
      rw all_pairs at c.loop-j.invariant

  last : Turn c.loop-j.start c.block_at-block-2.result c.end_at-end-2.result c.loop-j.sums
  last =
      adjusted_turn _ _ _ _ c.requires.intervals_right _ _ _ _ _ ended _ _ c.block_at-block-2.ensures c.end_at-end-2.ensures (omega arith)

pub overflow_sub-last : goal.overflow_sub-last
overflow_sub-last c = (last (goal.at.overflow_sub-last c).After-block_at-block-2).within

pub returns : goal.returns
returns c =
    let k = (goal.at.returns c).After-block_at-block-2 in
    let t = last k in
    let all =
    adjusted_all _ _ _ _ c.requires.intervals_right _ _ _ _ _
    (adjusted_next _ _ _ _ c.requires.intervals_right _ _ _ _ _ (ended k) _ _
    c.block_at-block-2.ensures c.end_at-end-2.ensures (omega arith) _ _ _ refl (omega arith) (omega arith))
    (omega arith) (omega arith)
    in
    record { held = all.0; out_left = all.1 }
