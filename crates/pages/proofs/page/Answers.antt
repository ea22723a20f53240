use Rattle.std.proofs.Common.{arith}
use Rattle.pages.proofs.Paging.{page_row, paged_more, paged_end}
use Rattle.pages.proofs.page.Goals as goal
use Rattle.pages.proofs.page.Goals.{then-more, else-more}

pub overflow_add-row : goal.overflow_add-row
overflow_add-row c = omega (arith, page_row _ _ _ _ _ _ _ _ c.in-Some.is c.args.program.now.sane c.list-page.ensures)

pub overflow_sub-left : goal.overflow_sub-left
overflow_sub-left c = page_row _ _ _ _ _ _ _ _ c.in-Some.is c.args.program.now.sane c.list-page.ensures

pub returns : goal.returns
returns c =
    elim c.if-more.branch [
      | then-more w ↦
          paged_more _ _ _ _ _ _ _ _ c.in-Some.is c.args.program.now.sane c.list-page.ensures _ (omega arith) w.program-is w.if-more.true
      | else-more w ↦
          paged_end _ _ _ _ _ _ _ _ c.in-Some.is c.args.program.now.sane c.list-page.ensures _ (omega arith) w.program-is w.if-more.false
    ]
