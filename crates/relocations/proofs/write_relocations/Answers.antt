use Prim.Native.Nat.{ℕ, ◌<◌}
use mathlib.Core.Path.{◌≡◌}
use mathlib.Core.List.{List}
use native.Mathlib.Omega.{arith}
use lib.ListN.{length}
use Rattle.model.specs.Table.{Shape, sizes}
use Rattle.model.specs.Refusal.{first}
use Rattle.model.specs.Calls.{growth_tests, rows_of}
use Rattle.model.proofs.Wells.{lent_tops}
use Rattle.model.proofs.Rows.{rows_falls}
use Rattle.model.proofs.Pages.{page_past, page_length}
use Rattle.table.specs.Formed.{table_of}
use Rattle.table.specs.declared.formed.FormedTable.{FormedTable}
use Rattle.expansion_plan.specs.Shares.{DuesAfter}
use Rattle.relocations.specs.Parts.{moves_of, Moves}
use Rattle.relocations.proofs.write_relocations.Goals as goal

-- where there is a row of order number q, some old block is due less
falling
    : (t : FormedTable) (s : Shape) (q : ℕ) (dues : List ℕ) → first (growth_tests (table_of t) s) ≡ 0
    → q < length (moves_of (table_of t) s) → DuesAfter (table_of t) s dues → Moves (table_of t) s dues
unfolding rows_of
falling t s q dues asked l after =
    record { asked = asked; falls = rows_falls t.header _ s t.formed asked q l; after = after }

pub returns-then-left-eq0-clause-value : goal.returns-then-left-eq0-clause-value
returns-then-left-eq0-clause-value c =
    (page_past c.args.first _ c.args.rows.now (omega (arith, c.if-left-eq0.true, c.requires.left_value))).0

pub returns-then-left-eq0-clause-rows_left : goal.returns-then-left-eq0-clause-rows_left
returns-then-left-eq0-clause-rows_left c =
    (page_past c.args.first _ c.args.rows.now (omega (arith, c.if-left-eq0.true, c.requires.left_value))).1

pub dues_after-requires-clause-tops_asked : goal.dues_after-requires-clause-tops_asked
dues_after-requires-clause-tops_asked c =
    record { whole = lent_tops _ _ c.args.table.formed; asked = c.requires.bins_value }

pub write_moved-requires : goal.write_moved-requires
write_moved-requires c =
    let other = c.if-left-eq0.false in (
      c.args.buckets,
      falling c.args.table _ c.args.first _ c.requires.bins_value (omega (arith, c.requires.left_value)) (c.dues_after.ensures _ _ _),
    )

pub returns-clause-value : goal.returns-clause-value
returns-clause-value c =
    let page = page_length c.args.first (length c.args.rows.now) (moves_of (table_of c.args.table) (sizes c.args.buckets c.args.bins)) in
    omega (arith, c.min.ensures, c.write_moved.auto.rows, c.requires.left_value)

pub returns-clause-rows_left : goal.returns-clause-rows_left
returns-clause-rows_left c =
    let other = c.if-left-eq0.false in
    c.write_moved.ensures c.args.buckets
    (falling c.args.table _ c.args.first _ c.requires.bins_value (omega (arith, c.requires.left_value)) (c.dues_after.ensures _ _ _))
