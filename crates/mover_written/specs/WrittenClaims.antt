-- What is proved of the call that counts written moved buckets, and of the mover told by bits. Each claim is a type. Assumes nothing.
use Rattle.std.specs.Prelude.{ℕ, ◌+◌, ◌*◌, ◌^◌, ◌≤◌, ◌<◌, ◌≡◌, ◌↔◌, Bool, true, List, [], ◌∷◌, length, get_or}
use Rattle.model.specs.Basics.{bit, sum}
use Rattle.model.specs.Expansion.{moved}
use Rattle.model.specs.Calls.{relocations_refusal}
use Rattle.model.specs.declared.reply.WrittenReply.{WrittenReply}
use Rattle.written.specs.Written.{written}
use Rattle.written_relocations.specs.Count.{written_refusal, written_reply}
use Rattle.mover_written.specs.Carry.{Growth, old_table, new_table, total, Told, bits}
use Rattle.mover_written.specs.Run.{Stored, stored, Begun, Tells, calls, copies_made}
use Rattle.mover_written.specs.Claims.{Moves, Checks, worked, rack}

-- the counting call's refusal and its reply, for a growth
abbrev pub count_refusal : Growth → List ℕ → ℕ
count_refusal g ws = written_refusal g.header g.arrays g.sizes ws

abbrev pub count_reply : Growth → List ℕ → WrittenReply
count_reply g ws = written_reply g.header g.arrays g.sizes ws

-- the moved count of the growth
abbrev pub moved_count : Growth → ℕ
moved_count g = moved (old_table g) (new_table g)

-- the bits of the 64 buckets from 64q on, each by its weight, make up word q of the bits: bucket 64q has the lowest
abbrev pub BitsWord : Type 0
BitsWord =
    (ws : List ℕ) (q : ℕ) → get_or ws q 0 < 2 ^ 64
    → sum (λ k. bit (written ws (64 * q + k)) * 2 ^ k) 64 ≡ get_or ws q 0

-- the call is refused as the move list is, but for 9 of the one, and 42 of the other
abbrev pub CountAlike : Type 0
CountAlike =
    (g : Growth) (ws : List ℕ) (q r : ℕ) → (r ≡ 0 → ⊥) → (r ≡ 9 → ⊥) → (r ≡ 42 → ⊥)
    → (count_refusal g ws ≡ r) ↔ (relocations_refusal g.header g.arrays g.sizes q ≡ r)

-- where those checks pass, 42 is given exactly where B bits need more words, and the call is accepted exactly where they do not
abbrev pub CountRefused : Type 0
CountRefused =
    (g : Growth) (ws : List ℕ)
    → ((count_refusal g ws ≡ 42) ↔ (Checks g × (64 * length ws < g.header.buckets)))
    × ((count_refusal g ws ≡ 0) ↔ (Checks g × (g.header.buckets ≤ 64 * length ws)))

-- bits from B on, and words past those that B bits need, are ignored
abbrev pub CountPast : Type 0
CountPast =
    (g : Growth) (ws ws' : List ℕ) → g.header.buckets ≤ 64 * length ws → g.header.buckets ≤ 64 * length ws'
    → ((x : ℕ) → x < g.header.buckets → written ws x ≡ written ws' x)
    → count_reply g ws ≡ count_reply g ws'

-- the count is at most the moved count, and that itself where every moved bucket is written
abbrev pub CountMost : Type 0
CountMost = (g : Growth) (ws : List ℕ) → (count_reply g ws).count ≤ moved_count g

abbrev pub CountAll : Type 0
CountAll =
    (g : Growth) (ws : List ℕ) → count_refusal g ws ≡ 0 → ((x : ℕ) → Moves g x → written ws x ≡ true)
    → count_reply g ws ≡ record { refusal = 0; count = moved_count g }

-- it is the number of copies that a whole run makes, from its beginning to the total and on, whatever its calls are told of buckets
-- from B on
abbrev pub CountCopies : Type 0
CountCopies =
    (g : Growth) (wrote : ℕ → Bool) (content : ℕ → ℕ) (b : Stored) → Begun g wrote content b
    → (told : ℕ → Told) → ((i : ℕ) → Tells g wrote (told i))
    → (ws : List ℕ) → Tells g wrote (bits ws)
    → (k : ℕ) → total g ≤ k → count_reply g ws ≡ record { refusal = 0; count = copies_made g told k b }

-- THE GROWTH WORKED OUT, with bits: of the buckets 2 and 3, which move, none, one, the other and both are written; no word at all; runs in
-- which bucket 2 is blank, and 3 is; and the copies of one call and of two

abbrev pub CountWorked : Type 0
CountWorked =
    (count_reply worked (3 ∷ []) ≡ record { refusal = 0; count = 0 })
    × (count_reply worked (7 ∷ []) ≡ record { refusal = 0; count = 1 })
    × (count_reply worked (24 ∷ []) ≡ record { refusal = 0; count = 1 })
    × (count_reply worked (12 ∷ []) ≡ record { refusal = 0; count = 2 })
    × (count_reply worked [] ≡ record { refusal = 42; count = 0 })
    × (calls worked (λ i. bits (8 ∷ [])) 2 (stored (rack 0 0) 0) ≡ stored (rack 0 13) 2)
    × (calls worked (λ i. bits (4 ∷ [])) 2 (stored (rack 0 0) 0) ≡ stored (rack 12 0) 2)
    × (copies_made worked (λ i. bits (12 ∷ [])) 1 (stored (rack 0 0) 0) ≡ 1)
    × (copies_made worked (λ i. bits (4 ∷ [])) 2 (stored (rack 0 0) 0) ≡ 1)

pub record CountClaims : Type 0 where
  pub bits_word : BitsWord
  pub count_alike : CountAlike
  pub count_refused : CountRefused
  pub count_past : CountPast
  pub count_most : CountMost
  pub count_all : CountAll
  pub count_copies : CountCopies
  pub count_worked : CountWorked
