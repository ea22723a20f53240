use mathlib.Core.Path.{◌∙◌}
use Rattle.relocations.proofs.Pages.{paged_past, paged_full, paged_cut}
use Rattle.relocations.proofs.write_part.Goals.{then-span-skip-via-then-span-skip, then-span-skip-via-else-span-skip+then-room-at}
use Rattle.relocations.proofs.write_part.Goals as goal
use native.Mathlib.Omega.{arith}

pub returns-then-span-skip : goal.returns-then-span-skip
returns-then-span-skip c =
    let s = c.args.span in
    elim c.then-span-skip.branch [
      | then-span-skip-via-then-span-skip w ↦ paged_past _ s.bucket s.end c.args.first _ c.args.rows.now (omega (arith, w.if-span-skip.true))
      | then-span-skip-via-else-span-skip+then-room-at w ↦ paged_full _ s.bucket s.end c.args.first _ c.args.rows.now (omega (arith, w.if-room-at.true))
    ]

pub returns : goal.returns
returns c =
    let s = c.args.span in
    c.write_span.ensures
    ∙ paged_cut _ s.bucket s.end c.args.first _ c.args.rows.now c.saturating_sub-at.result c.saturating_sub-skip.result
    c.saturating_sub-at.ensures c.saturating_sub-skip.ensures c.min-count.result c.min-count.ensures
