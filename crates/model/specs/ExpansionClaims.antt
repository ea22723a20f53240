-- What is proved of growth and of demand 3. Each claim is a type. Assumes nothing.
use Rattle.std.specs.Prelude.{ℕ, ◌≤◌, ◌<◌, ◌≡◌, ◌⊎◌, ◌↔◌, false, List, length}
use Rattle.model.specs.Table.{Shape, Table, bins, shape, Arrays, table}
use Rattle.model.specs.Place.{block_of, rank, bin, position}
use Rattle.model.specs.Refusal.{first, room_short}
use Rattle.model.specs.Sound.{Formed, Sound}
use Rattle.model.specs.Expansion.{expanded, moved}
use Rattle.model.specs.Relocations.{rows}
use Rattle.model.specs.Calls.{growth_tests, initial_refusal, expand_refusal, expand_reply, expand_arrays, relocations_refusal, place_reply}
use Rattle.model.specs.Balance.{changed, least, Rival, total, AllOptimal}
use Rattle.model.specs.TableClaims.{Holds}
use Rattle.model.specs.History.{Call, State, started, history, Lends, handed_on}
use Rattle.model.specs.declared.table.Header.{Header}

-- the table of an accepted growth is sound
abbrev pub ExpandSound : Type 0
ExpandSound =
    (h : Header) (a : Arrays) (s : Shape) (out : Arrays) → expand_refusal h a s out ≡ 0
    → Sound (expand_reply h a s out).header (expand_arrays h a s out)

-- and what the growth replies and writes holds the table of its definition
abbrev pub ExpandRead : Type 0
ExpandRead =
    (h : Header) (a : Arrays) (s : Shape) (out : Arrays) → expand_refusal h a s out ≡ 0
    → Holds (expand_reply h a s out).header (expand_arrays h a s out) (expanded (table h a) s)

-- and it has the capacity of the table that the growth read
abbrev pub CapacityKept : Type 0
CapacityKept =
    (h : Header) (a : Arrays) (s : Shape) (out : Arrays) → expand_refusal h a s out ≡ 0
    → (expand_reply h a s out).header.capacity ≡ h.capacity

-- with room for its table, a growth and its move list are refused alike, but for 8 of the one and 9 of the other
abbrev pub RefusedAlike : Type 0
RefusedAlike =
    (h : Header) (a : Arrays) (s : Shape) (out : Arrays) (q r : ℕ)
    → room_short out ≡ false → (r ≡ 0 → ⊥) → (r ≡ 8 → ⊥) → (r ≡ 9 → ⊥)
    → (expand_refusal h a s out ≡ r) ↔ (relocations_refusal h a s q ≡ r)

-- a bucket has the same block and rank in two tables
abbrev pub Stays : Table → Table → ℕ → Type 0
Stays t u x = (block_of u x ≡ block_of t x) × (rank u x ≡ rank t x)

-- a growth either moves no old bucket, or adds a block to which it sends every bucket, old or new, that does not stay
abbrev pub ExpandStays : Type 0
ExpandStays =
    (h : Header) (a : Arrays) (s : Shape) → Formed h a → first (growth_tests (table h a) s) ≡ 0
    → ((x : ℕ) → x < h.buckets → Stays (table h a) (expanded (table h a) s) x)
    ⊎ ((bins (table h a) < s.bins)
    × ((x : ℕ) → x < s.buckets
    → ((x < h.buckets) × Stays (table h a) (expanded (table h a) s) x)
    ⊎ (block_of (expanded (table h a) s) x ≡ h.block_count)))

-- no bucket that stays in its bin changes its position, and every moved bucket goes to the new block's bins
abbrev pub ExpandPlaces : Type 0
ExpandPlaces =
    (h : Header) (a : Arrays) (s : Shape) → Formed h a → first (growth_tests (table h a) s) ≡ 0
    → (x : ℕ) → x < h.buckets
    → ((bin (expanded (table h a) s) x ≡ bin (table h a) x)
    × (position (expanded (table h a) s) x ≡ position (table h a) x))
    ⊎ ((bins (table h a) ≤ bin (expanded (table h a) s) x)
    × (block_of (expanded (table h a) s) x ≡ h.block_count))

-- the moved count is max(0, B - T), and the number of rows
abbrev pub MovedLeast : Type 0
MovedLeast =
    (h : Header) (a : Arrays) (s : Shape) → Formed h a → first (growth_tests (table h a) s) ≡ 0
    → (moved (table h a) (expanded (table h a) s) ≡ least (shape (table h a)) s)
    × (length (rows (table h a) (expanded (table h a) s)) ≡ moved (table h a) (expanded (table h a) s))

-- and, of an accepted growth, the number of old buckets that `place` finds in another bin of the table that it wrote than of the
-- table that it read
abbrev pub MovedReplies : Type 0
MovedReplies =
    (h : Header) (a : Arrays) (s : Shape) (out : Arrays) → expand_refusal h a s out ≡ 0
    → (expand_reply h a s out).moved
    ≡ changed
    (λ x. (place_reply h a x).bin)
    (λ x. (place_reply (expand_reply h a s out).header (expand_arrays h a s out) x).bin)
    h.buckets

-- demand 3: for every accepted fresh call, of whatever capacity, every list of growth calls, each lent any arrays that hold the table before it, and
-- every rival of the accepted sizes, our total equals the rival's just where each growth of the rival meets the condition, and
-- is smaller in every other case
abbrev pub LeastTotal : Type 0
LeastTotal =
    (s : Shape) (p : ℕ) (out : Arrays) (cs : List Call) → initial_refusal s p out ≡ 0 → Lends (started s p out) cs
    → (r : Rival s (history s p out cs).shapes)
    → (((history s p out cs).moved ≡ total r) ↔ AllOptimal r)
    × (((history s p out cs).moved ≡ total r → ⊥) → (history s p out cs).moved < total r)

-- the same, decided
abbrev pub LeastTotalDecided : Type 0
LeastTotalDecided =
    (s : Shape) (p : ℕ) (out : Arrays) (cs : List Call) → initial_refusal s p out ≡ 0 → Lends (started s p out) cs
    → (r : Rival s (history s p out cs).shapes)
    → (((history s p out cs).moved ≡ total r) × AllOptimal r)
    ⊎ (((history s p out cs).moved < total r) × (AllOptimal r → ⊥))

-- the condition on what is lent can be met, for any sizes and any arrays to write to: by the arrays that the latest accepted
-- call left
abbrev pub LeftLends : Type 0
LeftLends = (st : State) (asked : List (Shape × Arrays)) → Lends st (handed_on st asked)

-- these are sound, so by `SameSound` any others are that hold their table and are no shorter than its counts
abbrev pub LeftSound : Type 0
LeftSound =
    (s : Shape) (p : ℕ) (out : Arrays) (cs : List Call) → initial_refusal s p out ≡ 0
    → Sound (history s p out cs).left.header (history s p out cs).left.arrays

pub record ExpansionClaims : Type 0 where
  pub expand_sound : ExpandSound
  pub expand_read : ExpandRead
  pub capacity_kept : CapacityKept
  pub refused_alike : RefusedAlike
  pub expand_stays : ExpandStays
  pub expand_places : ExpandPlaces
  pub moved_least : MovedLeast
  pub moved_replies : MovedReplies
  pub least_total : LeastTotal
  pub least_total_decided : LeastTotalDecided
  pub left_lends : LeftLends
  pub left_sound : LeftSound
