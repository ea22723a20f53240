-- What a growth is of. Assumes nothing.
use Rattle.model.specs.Table.{Shape, Table, sizes}
use Rattle.table.specs.Formed.{table_of}
use Rattle.expansion_count.specs.declared.growth.Growth.{Growth}

-- the old table, and the sizes asked for
abbrev pub old_table : Growth → Table
old_table g = table_of g.table

abbrev pub new_sizes : Growth → Shape
new_sizes g = sizes g.buckets g.bins
