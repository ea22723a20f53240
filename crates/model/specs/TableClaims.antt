-- What is proved of lent tables and files: soundness, places, and keeping. Each claim is a type. Assumes nothing.
use Rattle.std.specs.Prelude.{ℕ, ◌+◌, ◌*◌, ◌/◌, ◌≤◌, ◌<◌, ◌≡◌, ◌↔◌, true, false, List, [], ◌∷◌, length, get_or, take}
use Rattle.model.specs.Table.{Shape, Table, bins, shape, block_bins, Arrays, table, header, written}
use Rattle.model.specs.Place.{block_of, rank, bin, position, held, bin_size}
use Rattle.model.specs.Due.{due}
use Rattle.model.specs.Refusal.{first, overfills, bucket_past, place_past, falls, arrays_short, capacity_wrong, room_short, result_short}
use Rattle.model.specs.Search.{bucket_at}
use Rattle.model.specs.Sound.{Formed, Sound}
use Rattle.model.specs.Initial.{initial}
use Rattle.model.specs.Saved.{saved, loaded_header, loaded_arrays}
use Rattle.model.specs.Calls.{
  table_tests,
  size_tests,
  place_tests,
  find_tests,
  place_reply,
  places_refusal,
  places_after,
  initial_refusal,
  initial_reply,
  initial_arrays,
  save_reply,
  save_bytes,
  load_refusal,
  load_reply,
  load_arrays,
}
use Rattle.model.specs.Balance.{Balanced}
use Rattle.model.specs.declared.table.Header.{Header}

-- the check answers 0 exactly where the table is sound
abbrev pub SoundIff : Type 0
SoundIff = (h : Header) (a : Arrays) → (first (table_tests h a) ≡ 0) ↔ Sound h a

-- it answers 30 exactly where rules 11 to 16 let the table pass and its capacity is wrong
abbrev pub CapacityLast : Type 0
CapacityLast = (h : Header) (a : Arrays) → (first (table_tests h a) ≡ 30) ↔ (Formed h a × (capacity_wrong h a ≡ true))

-- sizes overfill a bin exactly where what some bin would be due, plus 8, exceeds P
abbrev pub OverfillsWhere : Type 0
OverfillsWhere = (p : ℕ) (s : Shape) → (overfills p s ≡ true) ↔ ((y : ℕ) × (y < s.bins) × (p < due s y + 8))

-- so a P of 1 to 8 holds no map: a fresh one whose sizes pass rules 1 and 2 is refused by 31, a table that passes rules 11 to 16
-- by 30, and no file is loaded
abbrev pub LabelAlone : Type 0
LabelAlone =
    ((s : Shape) (p : ℕ) (out : Arrays) → room_short out ≡ false → 1 ≤ p → p ≤ 8 → first (size_tests s) ≡ 0
    → initial_refusal s p out ≡ 31)
    × ((h : Header) (a : Arrays) → Formed h a → h.capacity ≤ 8 → first (table_tests h a) ≡ 30)
    × ((f : List ℕ) (p : ℕ) (out : Arrays) → p ≤ 8 → load_refusal f p out ≡ 0 → ⊥)

-- soundness is the table's: arrays that hold the table of sound ones, and are no shorter than its counts, are sound
abbrev pub SameSound : Type 0
SameSound = (h : Header) (a b : Arrays) → Sound h a → table h b ≡ table h a → arrays_short h b ≡ false → Sound h b

-- the tables of accepted calls are sound
abbrev pub InitialSound : Type 0
InitialSound =
    (s : Shape) (p : ℕ) (out : Arrays) → initial_refusal s p out ≡ 0 → Sound (initial_reply s p out).header (initial_arrays s p out)

abbrev pub LoadSound : Type 0
LoadSound =
    (f : List ℕ) (p : ℕ) (out : Arrays) → load_refusal f p out ≡ 0 → Sound (load_reply f p out).header (load_arrays f p out)

-- a table written into arrays and read back is that table
abbrev pub WrittenRead : Type 0
WrittenRead = (t : Table) (out : Arrays) → table (header t) (written t out) ≡ t

-- so what an accepted call replies and writes holds the table of its definition: the header is the table's, and the arrays give it
abbrev pub Holds : Header → Arrays → Table → Type 0
Holds h a t = (h ≡ header t) × (table h a ≡ t)

abbrev pub InitialRead : Type 0
InitialRead =
    (s : Shape) (p : ℕ) (out : Arrays) → initial_refusal s p out ≡ 0
    → Holds (initial_reply s p out).header (initial_arrays s p out) (initial s p)

abbrev pub LoadRead : Type 0
LoadRead =
    (f : List ℕ) (p : ℕ) (out : Arrays) → load_refusal f p out ≡ 0
    → Holds (load_reply f p out).header (load_arrays f p out) (table (loaded_header f p) (loaded_arrays f p))

-- every bin of a formed table holds its due size, so the mapping is balanced
abbrev pub SizeDue : Type 0
SizeDue =
    (h : Header) (a : Arrays) → Formed h a
    → (y : ℕ) → y < bins (table h a) → bin_size (table h a) y ≡ due (shape (table h a)) y

abbrev pub TableBalanced : Type 0
TableBalanced = (h : Header) (a : Arrays) → Formed h a → Balanced (shape (table h a)) (bin (table h a))

-- the buckets of a bin of a sound table, plus 8, do not exceed P
abbrev pub NoneOverfull : Type 0
NoneOverfull =
    (h : Header) (a : Arrays) → Sound h a
    → (y : ℕ) → y < bins (table h a) → bin_size (table h a) y + 8 ≤ h.capacity

-- a position is the source's plus 8: the source's is the bucket's rank, which is how many buckets before it are of its block,
-- divided by the block's bins
abbrev pub PositionSource : Type 0
PositionSource =
    (h : Header) (a : Arrays) → Formed h a
    → (x : ℕ) → x < h.buckets
    → (rank (table h a) x ≡ held (table h a) (block_of (table h a) x) x)
    × (position (table h a) x ≡ rank (table h a) x / block_bins (table h a).tops (block_of (table h a) x) + 8)

-- and below P, in a sound table
abbrev pub PositionBelow : Type 0
PositionBelow = (h : Header) (a : Arrays) → Sound h a → (x : ℕ) → x < h.buckets → position (table h a) x < h.capacity

-- find undoes place, and the positions of a bin are 8 to its size plus 7
abbrev pub FindPlaced : Type 0
FindPlaced =
    (h : Header) (a : Arrays) → Formed h a
    → (x : ℕ) → x < h.buckets
    → (bin (table h a) x < bins (table h a))
    × (8 ≤ position (table h a) x)
    × (position (table h a) x < bin_size (table h a) (bin (table h a) x) + 8)
    × (bucket_at (table h a) (bin (table h a) x) (position (table h a) x) ≡ x)

-- place undoes find, and every position from 8 to a bin's size plus 7 has a bucket
abbrev pub PlaceFound : Type 0
PlaceFound =
    (h : Header) (a : Arrays) → Formed h a
    → (y p : ℕ) → y < bins (table h a) → 8 ≤ p → p < bin_size (table h a) y + 8
    → (bucket_at (table h a) y p < h.buckets)
    × (bin (table h a) (bucket_at (table h a) y p) ≡ y)
    × (position (table h a) (bucket_at (table h a) y p) ≡ p)

-- the searches refuse just where rules 6 and 7 do
abbrev pub PlaceRefused : Type 0
PlaceRefused = (t : Table) (x : ℕ) → first (place_tests t x) ≡ first ((6, bucket_past t x) ∷ [])

abbrev pub FindRefused : Type 0
FindRefused =
    (h : Header) (a : Arrays) → Formed h a
    → (y p : ℕ) → first (find_tests (table h a) y p) ≡ first ((7, place_past (table h a) y p) ∷ [])

-- a list falls exactly where one of its buckets is smaller than the one before it
abbrev pub FallsWhere : Type 0
FallsWhere = (xs : List ℕ) → (falls xs ≡ true) ↔ ((i : ℕ) × (i + 1 < length xs) × (get_or xs (i + 1) 0 < get_or xs i 0))

-- a list of buckets is placed as its buckets are one by one: accepted, it leaves at 2i and 2i + 1 the bin and the position of the accepted reply for bucket i
abbrev pub Single : Header → Arrays → List ℕ → List ℕ → Type 0
Single h a xs out =
    (i : ℕ) → i < length xs
    → ((place_reply h a (get_or xs i 0)).refusal ≡ 0)
    × (get_or (places_after h a xs out) (2 * i) 0 ≡ (place_reply h a (get_or xs i 0)).bin)
    × (get_or (places_after h a xs out) (2 * i + 1) 0 ≡ (place_reply h a (get_or xs i 0)).position)

-- some bucket of the list is by itself refused by 6
abbrev pub SomeOutside : Header → Arrays → List ℕ → Type 0
SomeOutside h a xs = (i : ℕ) × (i < length xs) × ((place_reply h a (get_or xs i 0)).refusal ≡ 6)

-- and it is refused by 6 exactly where the room and the table are right, the list does not fall, and some bucket of it is by itself
abbrev pub PlacesSingle : Type 0
PlacesSingle =
    (h : Header) (a : Arrays) (xs out : List ℕ)
    → (places_refusal h a xs out ≡ 0 → Single h a xs out)
    × ((places_refusal h a xs out ≡ 6)
    ↔ ((result_short xs out ≡ false) × (first (table_tests h a) ≡ 0) × (falls xs ≡ false) × SomeOutside h a xs))

-- there is room in a buffer for a saved map of the header's G and k
abbrev pub Fits : Header → List ℕ → Type 0
Fits h buffer = 12 + 4 * h.block_count + 8 * h.interval_count ≤ length buffer

-- a sound table is saved into any buffer with room, and its length is exactly 12 + 4G + 8k
abbrev pub SavedLength : Type 0
SavedLength =
    (h : Header) (a : Arrays) (buffer : List ℕ) → Sound h a → Fits h buffer
    → ((save_reply h a buffer).refusal ≡ 0)
    × ((save_reply h a buffer).length ≡ 12 + 4 * h.block_count + 8 * h.interval_count)
    × (length (saved (table h a)) ≡ 12 + 4 * h.block_count + 8 * h.interval_count)

-- the file that `save` leaves in a buffer: as many of its first bytes as the reply says
abbrev pub saved_file : Header → Arrays → List ℕ → List ℕ
saved_file h a buffer = take (save_reply h a buffer).length (save_bytes h a buffer)

-- a header with the capacity p
abbrev pub with_capacity : ℕ → Header → Header
with_capacity p h =
    record { buckets = h.buckets; capacity = p; block_count = h.block_count; interval_count = h.interval_count }

-- a sound table, saved into any buffer with room and loaded into any arrays with room, is the same map: with any capacity that it
-- allows, and with its own the same table
abbrev pub SavedLoaded : Type 0
SavedLoaded =
    (h : Header) (a : Arrays) (buffer : List ℕ) (p : ℕ) (out : Arrays)
    → Sound h a → Sound (with_capacity p h) a → Fits h buffer → room_short out ≡ false
    → (load_refusal (saved_file h a buffer) p out ≡ 0)
    × ((load_reply (saved_file h a buffer) p out).header ≡ with_capacity p h)
    × (table (with_capacity p h) (load_arrays (saved_file h a buffer) p out) ≡ table (with_capacity p h) a)

-- an accepted file of bytes, loaded with whatever capacity and saved into any buffer with room, is the same file
abbrev pub LoadedSaved : Type 0
LoadedSaved =
    (f : List ℕ) (p : ℕ) (out : Arrays) (buffer : List ℕ)
    → ((i : ℕ) → i < length f → get_or f i 0 < 256) → load_refusal f p out ≡ 0 → Fits (load_reply f p out).header buffer
    → ((save_reply (load_reply f p out).header (load_arrays f p out) buffer).refusal ≡ 0)
    × (saved_file (load_reply f p out).header (load_arrays f p out) buffer ≡ f)

pub record TableClaims : Type 0 where
  pub sound_iff : SoundIff
  pub capacity_last : CapacityLast
  pub overfills_where : OverfillsWhere
  pub label_alone : LabelAlone
  pub same_sound : SameSound
  pub initial_sound : InitialSound
  pub load_sound : LoadSound
  pub written_read : WrittenRead
  pub initial_read : InitialRead
  pub load_read : LoadRead
  pub size_due : SizeDue
  pub none_overfull : NoneOverfull
  pub table_balanced : TableBalanced
  pub position_source : PositionSource
  pub position_below : PositionBelow
  pub find_placed : FindPlaced
  pub place_found : PlaceFound
  pub place_refused : PlaceRefused
  pub find_refused : FindRefused
  pub falls_where : FallsWhere
  pub places_single : PlacesSingle
  pub saved_length : SavedLength
  pub saved_loaded : SavedLoaded
  pub loaded_saved : LoadedSaved
