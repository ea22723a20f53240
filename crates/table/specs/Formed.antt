-- What a table in lent memory is. Assumes nothing.
use Rattle.model.specs.Table.{Table, Arrays, arrays}
use Rattle.model.specs.Lent.{lent}
use Rattle.table.specs.declared.formed.FormedTable.{FormedTable}

-- its arrays, whole, and the table that they and its header are
abbrev pub arrays_of : FormedTable → Arrays
arrays_of t = arrays t.tops.now t.ends.now t.blocks.now t.adjustments.now

abbrev pub table_of : FormedTable → Table
table_of t = lent t.header t.tops.now t.ends.now t.blocks.now t.adjustments.now
