-- The eleven calls of the map: for each its tests in document 01's order, its whole reply, and what every lent list holds
-- afterwards. The mover's call stands in its own crate, `mover`.
-- A refusal replies with its number and zeros, and changes no list. Assumes nothing.
use Rattle.std.specs.Prelude.{ℕ, List, [], ◌∷◌, ◌++◌, length, eqb}
use Rattle.model.specs.Basics.{if◌then◌otherwise◌, ◌or◌, joined}
use Rattle.model.specs.Table.{Shape, Table, Arrays, table, header, over, written}
use Rattle.model.specs.Place.{places, bin_size}
use Rattle.model.specs.Refusal.{
  Test,
  first,
  size_outside,
  few_buckets,
  shrinks,
  unchanged,
  blocks_full,
  overfills,
  intervals_full,
  some_past,
  bin_past,
  searched,
  order_past,
  expansions_past,
  falls,
  header_outside,
  arrays_short,
  tops_wrong,
  ends_wrong,
  blocks_wrong,
  holdings_wrong,
  adjustments_wrong,
  capacity_outside,
  capacity_wrong,
  room_short,
  result_short,
}
use Rattle.model.specs.Search.{place_at, found_at}
use Rattle.model.specs.Initial.{initial}
use Rattle.model.specs.Expansion.{expanded, moved}
use Rattle.model.specs.Relocations.{rows, page}
use Rattle.model.specs.Room.{room}
use Rattle.model.specs.Saved.{saved, saved_length, buffer_short, loaded_header, loaded_arrays, file_wrong}
use Rattle.model.specs.Sheet.{sheet, sheet_length, sheet_short}
use Rattle.model.specs.declared.table.Header.{Header}
use Rattle.model.specs.declared.reply.TableReply.{TableReply}
use Rattle.model.specs.declared.reply.RelocationsReply.{RelocationsReply}
use Rattle.model.specs.declared.reply.PlaceReply.{PlaceReply}
use Rattle.model.specs.declared.reply.PlacesReply.{PlacesReply}
use Rattle.model.specs.declared.reply.FindReply.{FindReply}
use Rattle.model.specs.declared.reply.BinSizeReply.{BinSizeReply}
use Rattle.model.specs.declared.reply.RoomReply.{RoomReply}
use Rattle.model.specs.declared.reply.SaveReply.{SaveReply}
use Rattle.model.specs.declared.reply.LoadReply.{LoadReply}
use Rattle.model.specs.declared.reply.SheetReply.{SheetReply}

-- what a call with refusal number r gives: a where it is accepted, b where it is refused
unfoldable pub answer : {A : Type 0} → ℕ → A → A → A
answer r a b = if eqb r 0 then a otherwise b

abbrev pub no_header : Header
no_header = record { buckets = 0; capacity = 0; block_count = 0; interval_count = 0 }

-- THE TESTS THAT CALLS SHARE

-- a lent table
unfoldable pub table_tests : Header → Arrays → List Test
table_tests h a =
    (11, header_outside h or arrays_short h a)
    ∷ (12, tops_wrong h a.tops)
    ∷ (13, ends_wrong h a.ends)
    ∷ (14, blocks_wrong h a.blocks)
    ∷ (15, holdings_wrong h a)
    ∷ (16, adjustments_wrong h a)
    ∷ (30, capacity_wrong h a)
    ∷ []

-- sizes asked for: of any map, of a fresh one of capacity p, and of a growth
unfoldable pub size_tests : Shape → List Test
size_tests s = (1, size_outside s) ∷ (2, few_buckets s) ∷ []

unfoldable pub fresh_tests : Shape → ℕ → List Test
fresh_tests s p = size_tests s ++ ((31, overfills p s) ∷ [])

unfoldable pub growth_tests : Table → Shape → List Test
growth_tests t s =
    size_tests s
    ++ ((3, shrinks t s) ∷ (4, unchanged t s) ∷ (5, blocks_full t s) ∷ (31, overfills t.capacity s) ∷ [])

-- A CALL THAT WRITES A TABLE: refusal r, m buckets moved, the table t, the arrays `out` to write it to

unfoldable pub table_reply : ℕ → ℕ → Table → TableReply
table_reply r m t =
    answer r
    (record { refusal = 0; moved = m; header = header t })
    (record { refusal = r; moved = 0; header = no_header })

unfoldable pub arrays_after : ℕ → Table → Arrays → Arrays
arrays_after r t out = answer r (written t out) out

-- initial (fresh): sizes s, and the capacity p

unfoldable pub initial_refusal : Shape → ℕ → Arrays → ℕ
initial_refusal s p out = first ((21, room_short out) ∷ (30, capacity_outside p) ∷ fresh_tests s p)

unfoldable pub initial_reply : Shape → ℕ → Arrays → TableReply
initial_reply s p out = table_reply (initial_refusal s p out) 0 (initial s p)

unfoldable pub initial_arrays : Shape → ℕ → Arrays → Arrays
initial_arrays s p out = arrays_after (initial_refusal s p out) (initial s p) out

-- expand (growth)

unfoldable pub expand_refusal : Header → Arrays → Shape → Arrays → ℕ
expand_refusal h a s out =
    first
    ((21, room_short out)
    ∷ table_tests h a
    ++ growth_tests (table h a) s
    ++ ((8, intervals_full (table h a) s) ∷ []))

unfoldable pub expand_reply : Header → Arrays → Shape → Arrays → TableReply
expand_reply h a s out =
    table_reply (expand_refusal h a s out) (moved (table h a) (expanded (table h a) s)) (expanded (table h a) s)

unfoldable pub expand_arrays : Header → Arrays → Shape → Arrays → Arrays
expand_arrays h a s out = arrays_after (expand_refusal h a s out) (expanded (table h a) s) out

-- relocations (move list), from order number q on, into a buffer; `rs` are all rows

unfoldable pub relocations_answer : ℕ → List (List ℕ) → ℕ → List ℕ → RelocationsReply
relocations_answer r rs q buffer =
    answer r
    (record { refusal = 0; written = length (page q (length buffer) rs); total = length rs })
    (record { refusal = r; written = 0; total = 0 })

unfoldable pub buffer_after : ℕ → List (List ℕ) → ℕ → List ℕ → List ℕ
buffer_after r rs q buffer = answer r (over (joined (page q (length buffer) rs)) buffer) buffer

unfoldable pub order_tests : List (List ℕ) → ℕ → List Test
order_tests rs q = (9, order_past (length rs) q) ∷ []

unfoldable pub rows_of : Header → Arrays → Shape → List (List ℕ)
rows_of h a s = rows (table h a) (expanded (table h a) s)

unfoldable pub relocations_refusal : Header → Arrays → Shape → ℕ → ℕ
relocations_refusal h a s q = first (table_tests h a ++ (growth_tests (table h a) s ++ order_tests (rows_of h a s) q))

unfoldable pub relocations_reply : Header → Arrays → Shape → ℕ → List ℕ → RelocationsReply
relocations_reply h a s q buffer = relocations_answer (relocations_refusal h a s q) (rows_of h a s) q buffer

unfoldable pub relocations_rows : Header → Arrays → Shape → ℕ → List ℕ → List ℕ
relocations_rows h a s q buffer = buffer_after (relocations_refusal h a s q) (rows_of h a s) q buffer

-- A CALL THAT READS A SOUND TABLE t, with refusal r

unfoldable pub place_answer : ℕ → Table → ℕ → PlaceReply
place_answer r t x = answer r (place_at t x) (record { refusal = r; bin = 0; position = 0 })

unfoldable pub find_answer : ℕ → Table → ℕ → ℕ → FindReply
find_answer r t y p = answer r (found_at t y p) (record { refusal = r; bucket = 0 })

unfoldable pub bin_size_answer : ℕ → Table → ℕ → BinSizeReply
bin_size_answer r t y = answer r (record { refusal = 0; buckets = bin_size t y }) (record { refusal = r; buckets = 0 })

-- their tests: placing and finding end with what the search answers
unfoldable pub place_tests : Table → ℕ → List Test
place_tests t x = searched (place_at t x).refusal

unfoldable pub find_tests : Table → ℕ → ℕ → List Test
find_tests t y p = (7, bin_past t y) ∷ searched (found_at t y p).refusal

unfoldable pub bin_size_tests : Table → ℕ → List Test
bin_size_tests t y = (7, bin_past t y) ∷ []

-- place

unfoldable pub place_reply : Header → Arrays → ℕ → PlaceReply
place_reply h a x = place_answer (first (table_tests h a ++ place_tests (table h a) x)) (table h a) x

-- places: a list of buckets xs, into a lent result

unfoldable pub places_tests : Table → List ℕ → List Test
places_tests t xs = (32, falls xs) ∷ (6, some_past t xs) ∷ []

unfoldable pub places_refusal : Header → Arrays → List ℕ → List ℕ → ℕ
places_refusal h a xs out = first ((33, result_short xs out) ∷ table_tests h a ++ places_tests (table h a) xs)

unfoldable pub places_reply : Header → Arrays → List ℕ → List ℕ → PlacesReply
places_reply h a xs out = record { refusal = places_refusal h a xs out }

unfoldable pub places_after : Header → Arrays → List ℕ → List ℕ → List ℕ
places_after h a xs out = answer (places_refusal h a xs out) (over (places (table h a) xs) out) out

-- find

unfoldable pub find_reply : Header → Arrays → ℕ → ℕ → FindReply
find_reply h a y p = find_answer (first (table_tests h a ++ find_tests (table h a) y p)) (table h a) y p

-- bin_size (drawer count)

unfoldable pub bin_size_reply : Header → Arrays → ℕ → BinSizeReply
bin_size_reply h a y = bin_size_answer (first (table_tests h a ++ bin_size_tests (table h a) y)) (table h a) y

-- room

unfoldable pub room_refusal : ℕ → ℕ
room_refusal m = first ((9, expansions_past m) ∷ [])

unfoldable pub room_reply : ℕ → RoomReply
room_reply m =
    answer (room_refusal m)
    (record { refusal = 0; intervals = room m })
    (record { refusal = room_refusal m; intervals = 0 })

-- save, into a buffer of bytes

unfoldable pub save_tests : Header → List ℕ → List Test
save_tests h buffer = (21, buffer_short h buffer) ∷ []

unfoldable pub save_refusal : Header → Arrays → List ℕ → ℕ
save_refusal h a buffer = first (table_tests h a ++ save_tests h buffer)

unfoldable pub save_reply : Header → Arrays → List ℕ → SaveReply
save_reply h a buffer =
    answer (save_refusal h a buffer)
    (record { refusal = 0; length = saved_length h.block_count h.interval_count })
    (record { refusal = save_refusal h a buffer; length = 0 })

unfoldable pub save_bytes : Header → Arrays → List ℕ → List ℕ
save_bytes h a buffer = answer (save_refusal h a buffer) (over (saved (table h a)) buffer) buffer

-- load, from a file of bytes, with the capacity p

unfoldable pub load_tests : List ℕ → ℕ → List Test
load_tests f p =
    (11, file_wrong f p)
    ∷ (12, tops_wrong (loaded_header f p) (loaded_arrays f p).tops)
    ∷ (13, ends_wrong (loaded_header f p) (loaded_arrays f p).ends)
    ∷ (14, blocks_wrong (loaded_header f p) (loaded_arrays f p).blocks)
    ∷ (15, holdings_wrong (loaded_header f p) (loaded_arrays f p))
    ∷ (30, capacity_wrong (loaded_header f p) (loaded_arrays f p))
    ∷ []

unfoldable pub load_refusal : List ℕ → ℕ → Arrays → ℕ
load_refusal f p out = first ((21, room_short out) ∷ load_tests f p)

-- the reply where the refusal is r and the file says the header h
abbrev pub load_answer : ℕ → Header → LoadReply
load_answer r h = answer r (record { refusal = 0; header = h }) (record { refusal = r; header = no_header })

unfoldable pub load_reply : List ℕ → ℕ → Arrays → LoadReply
load_reply f p out = load_answer (load_refusal f p out) (loaded_header f p)

unfoldable pub load_arrays : List ℕ → ℕ → Arrays → Arrays
load_arrays f p out = arrays_after (load_refusal f p out) (table (loaded_header f p) (loaded_arrays f p)) out

-- sheet (rack sheet), into a buffer of bytes

unfoldable pub sheet_tests : Header → List ℕ → List Test
sheet_tests h buffer = (34, sheet_short h buffer) ∷ []

unfoldable pub sheet_refusal : Header → Arrays → List ℕ → ℕ
sheet_refusal h a buffer = first (table_tests h a ++ sheet_tests h buffer)

-- the reply where the refusal is r, and what the buffer holds then; t is the table
unfoldable pub sheet_answer : ℕ → Header → SheetReply
sheet_answer r h =
    answer r (record { refusal = 0; length = sheet_length h.interval_count }) (record { refusal = r; length = 0 })

unfoldable pub sheet_after : ℕ → Table → List ℕ → List ℕ
sheet_after r t buffer = answer r (over (sheet t) buffer) buffer

unfoldable pub sheet_reply : Header → Arrays → List ℕ → SheetReply
sheet_reply h a buffer = sheet_answer (sheet_refusal h a buffer) h

unfoldable pub sheet_bytes : Header → Arrays → List ℕ → List ℕ
sheet_bytes h a buffer = sheet_after (sheet_refusal h a buffer) (table h a) buffer
