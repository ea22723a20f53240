-- A table's arrays as the program holds them. Assumes nothing.
use Rattle.model.specs.Table.{Arrays, arrays}
use Rattle.session.specs.declared.arrays.Arrays.{Arrays as Whole}

-- the four arrays, as they are lent
abbrev pub arrays_of : Whole → Arrays
arrays_of a = arrays a.tops a.ends a.blocks a.adjustments
