-- `table::bin_count` meets its contract: the last top is n. Assumes nothing.
use mathlib.Core.Path.{sym, ◌∙◌}
use Rattle.model.specs.Table.{arrays}
use Rattle.model.proofs.Tables.{bins_table}
use borrow.Author.Rules.{rules}
use Rattle.table.proofs.bin_count.Statement.{statement}
use Rattle.table.proofs.bin_count.Tie as tie

cast-before : tie.Need-overflow_cast-h
cast-before c = search rules

before-requires : tie.Need-before-requires
before-requires c κs = c.before.before.requires.formed.tops_long

returns : tie.Need-returns
returns c ends blocks adjustments =
    let start = c.before.before.before in
    c.before-2.ensures ∙ sym (bins_table start.args.h (arrays _ ends blocks adjustments) start.requires.formed.tops_long)

pub bin_count_spec : {M : Type 1} → statement M
bin_count_spec = tie.close (tie.spec
    cast-before
    before-requires
    returns)
