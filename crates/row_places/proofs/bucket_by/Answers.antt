use Prim.Native.Nat.{ℕ, ◌≤◌}
use mathlib.Core.Path.{sym, ◌∙◌}
use mathlib.Core.List.{List}
use native.Mathlib.Omega.{arith}
use lib.ListN.{length}
use Rattle.model.specs.Table.{Shape, table}
use Rattle.model.proofs.Growths.{accepted, due_old}
use Rattle.model.proofs.Wells.{tops_length, bins_last}
use Rattle.table.specs.Formed.{arrays_of}
use Rattle.table.specs.declared.formed.FormedTable.{FormedTable}
use Rattle.expansion_plan.specs.Shares.{Dues}
use Rattle.expansion_plan.proofs.Turns.{formed_tops}
use Rattle.expansion_plan.proofs.Written.{dues_first}
use Rattle.row_places.specs.Rows.{Listed, Drains}
use Rattle.row_places.proofs.bucket_by.Goals as goal

-- by the old tops an old block is due what it is by the new ones
drains
    : (t : FormedTable) (s : Shape) (q : ℕ) (given dues : List ℕ) → Listed t.header (arrays_of t) s q
    → t.header.block_count ≤ length given → Dues s t.tops.now t.header.block_count given dues
    → Drains t.header (arrays_of t) s dues q
unfolding table
drains t s q given dues row room d =
    record {
      row = row;
      long = omega (arith, d.cells);
      after =
          λ j l.
          dues_first _ _ _ _ _ d row.formed.tops_long j l
          ∙ sym (due_old (table t.header (arrays_of t)) s j (omega (arith, tops_length _ _ row.formed)));
    }

pub block_dues-requires-clause-tops_within : goal.block_dues-requires-clause-tops_within
block_dues-requires-clause-tops_within g c =
    let row = c.requires.listed in
    formed_tops _ _ row.formed _ (omega (arith, bins_last _ _ row.formed, (accepted _ _ row.asked).more_bins))

pub bucket_at-requires : goal.bucket_at-requires
bucket_at-requires g c =
    (_, drains c.args.table _ c.args.order _ _ c.requires.listed (omega (arith, c.requires.block_count_in_bounds)) c.block_dues.ensures)

pub returns : goal.returns
returns g c =
    c.bucket_at.ensures _
    (drains c.args.table _ c.args.order _ _ c.requires.listed (omega (arith, c.requires.block_count_in_bounds)) c.block_dues.ensures)
