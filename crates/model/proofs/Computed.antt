-- The claims that the checker computes: document 01's starred figures, its listing, mistyped lines, and the sheet of its example. Assumes nothing.
use mathlib.Core.Path.{refl}
use Rattle.model.specs.Basics.{if◌then◌otherwise◌, ◌and◌, ◌or◌, bit, sum, count, all, from, joined, before}
use Rattle.model.specs.Table.{bins, shape, first_bin, block_bins, table, header, over, written}
use Rattle.model.specs.Place.{interval_of, block_of, rank, bin, position, held, others, size, bin_size}
use Rattle.model.specs.Search.{interval_at, index_of, located, place_of, place_at, block_of_bin, rank_at, includes, holder, found_of, held_at, found_at}
use Rattle.model.specs.Due.{due, due_of_bins, due_of_block}
use Rattle.model.specs.Refusal.{first, searched, outside, rises, header_outside, arrays_short, tops_wrong, ends_wrong, blocks_wrong, intervals_full}
use Rattle.model.specs.Refusal.{holdings_wrong, adjustment_of, adjustments_wrong, size_outside, few_buckets, shrinks, unchanged}
use Rattle.model.specs.Refusal.{blocks_full, overfull, some_overfull, overfills, bucket_past, bin_past, labelled, capacity_outside, capacity_wrong, room_short}
use Rattle.model.specs.Initial.{initial}
use Rattle.model.specs.Expansion.{grown_tops, has, due_after, some_fall, last_block, lengthened, gain, pieces, filled, plan, parts, plan_for}
use Rattle.model.specs.Expansion.{parted, moved_after, extended, drained, expanded, differs, moved}
use Rattle.model.specs.Relocations.{row, row_if, rows, page}
use Rattle.model.specs.Calls.{answer, table_tests, size_tests, fresh_tests, growth_tests, table_reply, arrays_after, initial_refusal}
use Rattle.model.specs.Calls.{initial_reply, initial_arrays, expand_refusal, expand_reply, expand_arrays, relocations_answer, buffer_after}
use Rattle.model.specs.Calls.{order_tests, rows_of, relocations_refusal, relocations_reply, relocations_rows, place_answer, find_answer}
use Rattle.model.specs.Calls.{bin_size_answer, place_tests, find_tests, bin_size_tests, place_reply, find_reply, bin_size_reply, room_refusal}
use Rattle.model.specs.Calls.{sheet_tests, sheet_refusal}
use Rattle.model.specs.Calls.{room_reply, save_tests, save_refusal, save_reply, save_bytes, load_tests, load_refusal, load_reply, load_arrays}
use Rattle.model.specs.Decimal.{digits_only, value_from, value, digits, decimal}
use Rattle.model.specs.Sheet.{field, sheet_line, interval_numbers, sheet, sheet_length}
use Rattle.model.specs.Console.{text, in_front, lines_of, words_of, same, is_number, command, read}
use Rattle.model.specs.Console.{line, no_map, current, is_fresh, is_unreadable, line_tests, command_tests, command_refusal, moves_of, move_text}
use Rattle.model.specs.Console.{accepted, accepted_answer, command_answer, answer_text, after, printed, printed_all, output}
use Rattle.model.specs.History.{started, reply_of, next, added, played, handed_on}
use Rattle.model.specs.Figures.{blank, grown, answered, computed, starred}
use Rattle.model.specs.Claims.{Figures, Listing}
use Rattle.model.specs.SheetClaims.{example, SheetExample, SheetEdges}
use Rattle.model.specs.ConsoleClaims.{Mistyped}

pub figures : Figures
unfolding if◌then◌otherwise◌ ◌and◌ ◌or◌ bit sum count all from joined before bins shape first_bin block_bins table header
    over written interval_of index_of block_of rank bin position held others size bin_size interval_at located place_of place_at
    block_of_bin rank_at includes holder found_of held_at found_at due due_of_bins due_of_block first searched outside rises
    header_outside arrays_short tops_wrong ends_wrong blocks_wrong holdings_wrong adjustment_of adjustments_wrong size_outside
    few_buckets shrinks unchanged blocks_full overfull some_overfull overfills capacity_outside capacity_wrong bucket_past bin_past labelled room_short initial grown_tops has due_after some_fall
    last_block lengthened gain pieces filled plan parts plan_for parted moved_after extended drained expanded differs moved
    row row_if rows page answer table_tests size_tests fresh_tests growth_tests intervals_full table_reply arrays_after initial_refusal
    initial_reply initial_arrays expand_refusal expand_reply expand_arrays relocations_answer buffer_after order_tests rows_of
    relocations_refusal relocations_reply relocations_rows place_answer find_answer bin_size_answer place_tests find_tests
    bin_size_tests place_reply find_reply bin_size_reply room_refusal room_reply save_tests save_refusal save_reply save_bytes
    load_tests load_refusal load_reply load_arrays text in_front lines_of words_of same digits_only value_from value is_number
    command read digits decimal line no_map current is_fresh is_unreadable line_tests command_tests command_refusal moves_of move_text accepted
    accepted_answer command_answer answer_text after printed printed_all output started reply_of next added played handed_on
    blank grown answered computed starred
figures = refl

-- the outputs: of the listing, and of mistyped lines
pub listing : Listing × Mistyped
unfolding if◌then◌otherwise◌ ◌and◌ ◌or◌ bit sum count all from joined before bins shape first_bin block_bins table header
    over written interval_of index_of block_of rank bin position held others size bin_size interval_at located place_of place_at
    block_of_bin rank_at includes holder found_of held_at found_at due due_of_bins due_of_block first searched outside rises
    header_outside arrays_short tops_wrong ends_wrong blocks_wrong holdings_wrong adjustment_of adjustments_wrong size_outside
    few_buckets shrinks unchanged blocks_full overfull some_overfull overfills capacity_outside capacity_wrong bucket_past bin_past labelled room_short initial grown_tops has due_after some_fall
    last_block lengthened gain pieces filled plan parts plan_for parted moved_after extended drained expanded differs moved
    row row_if rows page answer table_tests size_tests fresh_tests growth_tests intervals_full table_reply arrays_after initial_refusal
    initial_reply initial_arrays expand_refusal expand_reply expand_arrays relocations_answer buffer_after order_tests rows_of
    relocations_refusal relocations_reply relocations_rows place_answer find_answer bin_size_answer place_tests find_tests
    bin_size_tests place_reply find_reply bin_size_reply room_refusal room_reply save_tests save_refusal save_reply save_bytes
    load_tests load_refusal load_reply load_arrays text in_front lines_of words_of same digits_only value_from value is_number
    command read digits decimal line no_map current is_fresh is_unreadable line_tests command_tests command_refusal moves_of move_text accepted
    accepted_answer command_answer answer_text after printed printed_all output started reply_of next added played handed_on
    blank grown answered computed starred
listing = (refl, refl)

pub sheet_example_lem : SheetExample
unfolding if◌then◌otherwise◌ ◌and◌ ◌or◌ bit sum count all from joined before bins shape first_bin block_bins table header
    over written interval_of index_of block_of rank bin position held others size bin_size interval_at located place_of place_at
    block_of_bin rank_at includes holder found_of held_at found_at due due_of_bins due_of_block first searched outside rises
    header_outside arrays_short tops_wrong ends_wrong blocks_wrong holdings_wrong adjustment_of adjustments_wrong size_outside
    few_buckets shrinks unchanged blocks_full overfull some_overfull overfills capacity_outside capacity_wrong bucket_past bin_past labelled room_short initial grown_tops has due_after some_fall
    last_block lengthened gain pieces filled plan parts plan_for parted moved_after extended drained expanded differs moved
    row row_if rows page answer table_tests size_tests fresh_tests growth_tests intervals_full table_reply arrays_after initial_refusal
    initial_reply initial_arrays expand_refusal expand_reply expand_arrays relocations_answer buffer_after order_tests rows_of
    relocations_refusal relocations_reply relocations_rows place_answer find_answer bin_size_answer place_tests find_tests
    bin_size_tests place_reply find_reply bin_size_reply room_refusal room_reply save_tests save_refusal save_reply save_bytes
    load_tests load_refusal load_reply load_arrays text in_front lines_of words_of same digits_only value_from value is_number
    command read digits decimal line no_map current is_fresh is_unreadable line_tests command_tests command_refusal moves_of move_text accepted
    accepted_answer command_answer answer_text after printed printed_all output started reply_of next added played handed_on
    blank grown answered computed starred
    field sheet_line interval_numbers sheet example
sheet_example_lem = refl

pub sheet_edges_lem : SheetEdges
unfolding if◌then◌otherwise◌ ◌and◌ ◌or◌ bit sum count all from joined before bins shape first_bin block_bins table header
    over written interval_of index_of block_of rank bin position held others size bin_size interval_at located place_of place_at
    block_of_bin rank_at includes holder found_of held_at found_at due due_of_bins due_of_block first searched outside rises
    header_outside arrays_short tops_wrong ends_wrong blocks_wrong holdings_wrong adjustment_of adjustments_wrong size_outside
    few_buckets shrinks unchanged blocks_full overfull some_overfull overfills capacity_outside capacity_wrong bucket_past bin_past labelled room_short initial grown_tops has due_after some_fall
    last_block lengthened gain pieces filled plan parts plan_for parted moved_after extended drained expanded differs moved
    row row_if rows page answer table_tests size_tests fresh_tests growth_tests intervals_full table_reply arrays_after initial_refusal
    initial_reply initial_arrays expand_refusal expand_reply expand_arrays relocations_answer buffer_after order_tests rows_of
    relocations_refusal relocations_reply relocations_rows place_answer find_answer bin_size_answer place_tests find_tests
    bin_size_tests place_reply find_reply bin_size_reply room_refusal room_reply save_tests save_refusal save_reply save_bytes
    load_tests load_refusal load_reply load_arrays text in_front lines_of words_of same digits_only value_from value is_number
    command read digits decimal line no_map current is_fresh is_unreadable line_tests command_tests command_refusal moves_of move_text accepted
    accepted_answer command_answer answer_text after printed printed_all output started reply_of next added played handed_on
    blank grown answered computed starred
    field sheet_line interval_numbers sheet example sheet_length sheet_tests sheet_refusal
sheet_edges_lem = (refl, refl, refl)
