-- What is proved of the mover: of one call, and of every run. Each claim is a type. Assumes nothing.
use Rattle.std.specs.Prelude.{ℕ, ◌+◌, ◌*◌, ◌≤◌, ◌<◌, ◌≡◌, ◌↔◌, true, List, [], ◌∷◌, length, set}
use Rattle.model.specs.Basics.{count}
use Rattle.model.specs.Table.{arrays, sizes}
use Rattle.model.specs.Place.{bin, position}
use Rattle.model.specs.Refusal.{first}
use Rattle.model.specs.Expansion.{differs}
use Rattle.model.specs.Relocations.{row}
use Rattle.model.specs.Calls.{table_tests, growth_tests, relocations_refusal}
use Rattle.mover.specs.Carry.{Growth, growth, old_table, new_table, row_at, total, carry_refusal, carry_reply, carry_words}
use Rattle.mover.specs.Run.{Stored, stored, word_of, reads, mark_of, carried, calls, Run}

-- a moved bucket, and its order number: how many moved buckets are below it
abbrev pub Moves : Growth → ℕ → Type 0
Moves g x = (x < g.header.buckets) × (differs (old_table g) (new_table g) x ≡ true)

unfoldable pub order : Growth → ℕ → ℕ
order g x = count (differs (old_table g) (new_table g)) x

-- its row stands at that number in the move list
abbrev pub OrderRow : Type 0
OrderRow =
    (g : Growth) (x : ℕ) → Moves g x
    → (order g x < total g) × (row_at g (order g x) ≡ row (old_table g) (new_table g) x)

-- the checks of the move list, but for 9, pass
abbrev pub Checks : Growth → Type 0
Checks g = (first (table_tests g.header g.arrays) ≡ 0) × (first (growth_tests (old_table g) g.sizes) ≡ 0)

-- the mover is refused as the move list is, but for 9 of the one, and 40 and 41 of the other
abbrev pub CarryAlike : Type 0
CarryAlike =
    (g : Growth) (ws : List ℕ) (m q r : ℕ)
    → (r ≡ 0 → ⊥) → (r ≡ 9 → ⊥) → (r ≡ 40 → ⊥) → (r ≡ 41 → ⊥)
    → (carry_refusal g ws m ≡ r) ↔ (relocations_refusal g.header g.arrays g.sizes q ≡ r)

-- where those checks pass, 40 is given exactly where the array is shorter than the new bins × P, and 41 exactly where it is not and
-- the mark is above the total; a call is accepted exactly where they pass and neither is given
abbrev pub CarryRefused : Type 0
CarryRefused =
    (g : Growth) (ws : List ℕ) (m : ℕ)
    → ((carry_refusal g ws m ≡ 40) ↔ (Checks g × (length ws < g.sizes.bins * g.header.capacity)))
    × ((carry_refusal g ws m ≡ 41) ↔ (Checks g × (g.sizes.bins * g.header.capacity ≤ length ws) × (total g < m)))
    × ((carry_refusal g ws m ≡ 0) ↔ (Checks g × (g.sizes.bins * g.header.capacity ≤ length ws) × (m ≤ total g)))

-- where a call is accepted, every position of the new map is below P, and every bin below the new number of bins: also where
-- the new table would have too many intervals, which the mover does not ask
abbrev pub CarryFits : Type 0
CarryFits =
    (g : Growth) (ws : List ℕ) (m : ℕ) → carry_refusal g ws m ≡ 0
    → (x : ℕ) → x < g.sizes.buckets
    → (bin (new_table g) x < g.sizes.bins) × (position (new_table g) x < g.header.capacity)

-- ONE CALL

-- an accepted call at a mark below the total changes at most one word: that of the new place of the moved bucket whose order number
-- is the mark becomes that of its old place; and this is no old bucket's old place
abbrev pub CarryOne : Type 0
CarryOne =
    (g : Growth) (ws : List ℕ) (m : ℕ) → carry_refusal g ws m ≡ 0 → m < total g
    → (x : ℕ) × Moves g x × (order g x ≡ m)
    × (carry_words g ws m ≡ set ws (word_of (new_table g) x) (reads (old_table g) ws x))
    × (carry_reply g ws m ≡ record { refusal = 0; mark = m + 1; finished = 0 })
    × ((y : ℕ) → y < g.header.buckets → word_of (old_table g) y ≡ word_of (new_table g) x → ⊥)

-- a refused call changes none, and neither does an accepted one at the total, which says so
abbrev pub CarryNone : Type 0
CarryNone =
    (g : Growth) (ws : List ℕ) (m : ℕ)
    → ((carry_refusal g ws m ≡ 0 → ⊥)
    → (carry_words g ws m ≡ ws) × (carry_reply g ws m ≡ record { refusal = carry_refusal g ws m; mark = 0; finished = 0 }))
    × (carry_refusal g ws m ≡ 0 → total g ≤ m
    → (m ≡ total g) × (carry_words g ws m ≡ ws) × (carry_reply g ws m ≡ record { refusal = 0; mark = m; finished = 1 }))

-- EVERY RUN

-- there is one from any words at which a call with mark 0 is accepted, whatever each old bucket's word is
abbrev pub RunBegins : Type 0
RunBegins =
    (g : Growth) (ws : List ℕ) → carry_refusal g ws 0 ≡ 0
    → Run g (reads (old_table g) ws) (stored ws 0) (stored ws 0)

-- no call of it is refused, and the marks never fall
abbrev pub CarryMarks : Type 0
CarryMarks =
    (g : Growth) (content : ℕ → ℕ) (b st : Stored) → Run g content b st
    → (carry_refusal g st.words st.mark ≡ 0) × (st.mark ≤ mark_of g st) × (st.mark ≤ total g)

-- in every state, a moved bucket with an order number below the mark reads its word at its new place; and every old bucket reads it
-- at its old place
abbrev pub CarryReads : Type 0
CarryReads =
    (g : Growth) (content : ℕ → ℕ) (b st : Stored) → Run g content b st
    → ((x : ℕ) → Moves g x → order g x < st.mark → reads (new_table g) st.words x ≡ content x)
    × ((x : ℕ) → x < g.header.buckets → reads (old_table g) st.words x ≡ content x)

-- uncut calls from a state to the end store the words, all of them, and the mark that uncut calls from the beginning to the end do
abbrev pub CarryOn : Type 0
CarryOn =
    (g : Growth) (content : ℕ → ℕ) (b st : Stored) → Run g content b st
    → (n k : ℕ) → total g ≤ st.mark + n → total g ≤ k → calls g n st ≡ calls g k b

-- after the last row every old bucket reads its word at its place in the new map, and the calls that follow change nothing and say so
abbrev pub CarryEnds : Type 0
CarryEnds =
    (g : Growth) (content : ℕ → ℕ) (b st : Stored) → Run g content b st → total g ≤ st.mark
    → ((x : ℕ) → x < g.header.buckets → reads (new_table g) st.words x ≡ content x)
    × (carried g st ≡ st)
    × ((carry_reply g st.words st.mark).finished ≡ 1)

-- every cut is among the steps: where the mark q is below the total, and x is the bucket of row q, a run may leave any word at its
-- new place, with mark q; its own word there with mark q; and that with mark q + 1
abbrev pub CutsReach : Type 0
CutsReach =
    (g : Growth) (content : ℕ → ℕ) (b st : Stored) → Run g content b st → (x : ℕ) → Moves g x → order g x ≡ st.mark
    → ((v : ℕ) → Run g content b (stored (set st.words (word_of (new_table g) x) v) st.mark))
    × Run g content b (stored (set st.words (word_of (new_table g) x) (content x)) st.mark)
    × Run g content b (stored (set st.words (word_of (new_table g) x) (content x)) (st.mark + 1))

-- A GROWTH WORKED OUT: from (4, 1) to (4, 2) with P = 12, the words of buckets 0 to 3 being 10 to 13. Buckets 2 and 3 move, to
-- positions 8 and 9 of bin 1

unfoldable pub worked : Growth
worked =
    growth
    (record { buckets = 4; capacity = 12; block_count = 1; interval_count = 1 })
    (arrays (1 ∷ []) (4 ∷ []) (0 ∷ []) (0 ∷ []))
    (sizes 4 2)

-- the words of bin 0, and then those of bin 1: the label, and four positions of buckets
unfoldable pub rack : ℕ → ℕ → List ℕ
rack a b =
    0 ∷ 0 ∷ 0 ∷ 0 ∷ 0 ∷ 0 ∷ 0 ∷ 0 ∷ 10 ∷ 11 ∷ 12 ∷ 13
    ∷ 0 ∷ 0 ∷ 0 ∷ 0 ∷ 0 ∷ 0 ∷ 0 ∷ 0 ∷ a ∷ b ∷ 0 ∷ 0
    ∷ []

-- uncut; after a copy cut to junk at mark 1; and at the total
abbrev pub CarryWorked : Type 0
CarryWorked =
    (calls worked 2 (stored (rack 0 0) 0) ≡ stored (rack 12 13) 2)
    × (calls worked 1 (stored (rack 12 77) 1) ≡ stored (rack 12 13) 2)
    × (carry_reply worked (rack 12 13) 2 ≡ record { refusal = 0; mark = 2; finished = 1 })

pub record CarryClaims : Type 0 where
  pub order_row : OrderRow
  pub carry_alike : CarryAlike
  pub carry_refused : CarryRefused
  pub carry_fits : CarryFits
  pub carry_one : CarryOne
  pub carry_none : CarryNone
  pub run_begins : RunBegins
  pub carry_marks : CarryMarks
  pub carry_reads : CarryReads
  pub carry_on : CarryOn
  pub carry_ends : CarryEnds
  pub cuts_reach : CutsReach
  pub carry_worked : CarryWorked
