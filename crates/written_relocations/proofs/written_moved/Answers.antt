use mathlib.Core.Path.{◌≡◌, sym, ◌∙◌}
use mathlib.Core.Bool.{true}
use mathlib.Core.List.{List}
use Prim.Native.Nat.{ℕ, ◌*◌, ◌≤◌}
use lib.ListN.{length}
use Rattle.model.specs.Table.{Shape, sizes}
use Rattle.model.specs.Refusal.{first}
use Rattle.model.specs.Expansion.{some_fall}
use Rattle.model.specs.Calls.{growth_tests}
use Rattle.model.proofs.Wells.{lent_tops}
use Rattle.table.specs.Formed.{table_of, arrays_of}
use Rattle.table.specs.declared.formed.FormedTable.{FormedTable}
use Rattle.expansion_plan.specs.Shares.{DuesAfter}
use Rattle.written_relocations.specs.Walk.{Drains}
use Rattle.written_relocations.proofs.Walk.{none_moved}
use Rattle.written_relocations.proofs.written_moved.Goals as goal

pub some_fall-requires : goal.some_fall-requires
some_fall-requires c = record { whole = lent_tops _ _ c.args.table.formed; asked = c.requires.bins_value }

pub returns-then-not-some_fall : goal.returns-then-not-some_fall
returns-then-not-some_fall c =
    none_moved c.args.table.header (arrays_of c.args.table) (sizes c.args.buckets c.args.bins) c.args.bits.now c.args.table.formed
    c.requires.bins_value
    (sym (c.some_fall.ensures _ _ _ c.args.table.formed) ∙ c.if-not-some_fall.true)

pub dues_after-requires-clause-tops_asked : goal.dues_after-requires-clause-tops_asked
dues_after-requires-clause-tops_asked c = record { whole = lent_tops _ _ c.args.table.formed; asked = c.requires.bins_value }

-- what the count is given
drains
    : (t : FormedTable) (s : Shape) (dues bits : List ℕ) → first (growth_tests (table_of t) s) ≡ 0
    → some_fall (table_of t) s ≡ true → DuesAfter (table_of t) s dues → t.header.buckets ≤ 64 * length bits
    → Drains t.header (arrays_of t) s dues bits
drains t s dues bits asked falls after long =
    record { formed = t.formed; asked = asked; falls = falls; after = after; long = long }

pub count_moved-requires : goal.count_moved-requires
count_moved-requires c = (
  sizes c.args.buckets c.args.bins,
  drains c.args.table _ _ _ c.requires.bins_value (sym (c.some_fall.ensures _ _ _ c.args.table.formed) ∙ c.if-not-some_fall.false)
      (c.dues_after.ensures _ _ _)
      c.requires.buckets_bound,
)

pub returns : goal.returns
returns c =
    c.count_moved.ensures _
    (drains c.args.table _ _ _ c.requires.bins_value (sym (c.some_fall.ensures _ _ _ c.args.table.formed) ∙ c.if-not-some_fall.false)
    (c.dues_after.ensures _ _ _)
    c.requires.buckets_bound)
