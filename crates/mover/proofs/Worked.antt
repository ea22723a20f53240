-- The growth that is worked out, computed by the checker. Assumes nothing.
use mathlib.Core.Path.{refl}
use Rattle.model.specs.Basics.{if◌then◌otherwise◌, ◌and◌, ◌or◌, bit, sum, count, all, from, joined, before}
use Rattle.model.specs.Table.{bins, shape, first_bin, block_bins, table}
use Rattle.model.specs.Place.{interval_of, block_of, rank, bin, position, held, others, size, bin_size}
use Rattle.model.specs.Due.{due, due_of_bins, due_of_block}
use Rattle.model.specs.Refusal.{first, outside, rises, header_outside, arrays_short, tops_wrong, ends_wrong, blocks_wrong, holdings_wrong}
use Rattle.model.specs.Refusal.{adjustment_of, adjustments_wrong, size_outside, few_buckets, shrinks, unchanged, blocks_full}
use Rattle.model.specs.Refusal.{overfull, some_overfull, overfills, capacity_outside, capacity_wrong}
use Rattle.model.specs.Expansion.{grown_tops, has, due_after, some_fall, last_block, lengthened, plan, parts, plan_for, parted, moved_after}
use Rattle.model.specs.Expansion.{extended, drained, expanded, differs}
use Rattle.model.specs.Relocations.{row, row_if, rows}
use Rattle.model.specs.Calls.{answer, table_tests, size_tests, growth_tests, rows_of}
use Rattle.mover.specs.Carry.{row_at, total, word_at, source, target, put, copied, words_short, carry_tests, carry_refusal, carry_reply, carry_words}
use Rattle.mover.specs.Run.{carried, calls}
use Rattle.mover.specs.Claims.{worked, rack, CarryWorked}

pub carry_worked_lem : CarryWorked
unfolding if◌then◌otherwise◌ ◌and◌ ◌or◌ bit sum count all from joined before bins shape first_bin block_bins table interval_of
    block_of rank bin position held others size bin_size due due_of_bins due_of_block first outside rises header_outside
    arrays_short tops_wrong ends_wrong blocks_wrong holdings_wrong adjustment_of adjustments_wrong size_outside few_buckets shrinks
    unchanged blocks_full overfull some_overfull overfills capacity_outside capacity_wrong grown_tops has due_after some_fall
    last_block lengthened plan parts plan_for parted moved_after extended drained expanded differs row row_if rows answer
    table_tests size_tests growth_tests rows_of row_at total word_at source target put copied words_short carry_tests carry_refusal
    carry_reply carry_words carried calls worked rack
carry_worked_lem = (refl, refl, refl)
