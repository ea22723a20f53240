-- What is proved of the mover: of one call, and of every run. Each claim is a type. Assumes nothing.
use Rattle.std.specs.Prelude.{ℕ, ◌+◌, ◌*◌, ◌≤◌, ◌<◌, ◌≡◌, ◌↔◌, Bool, true, false, List, [], ◌∷◌, length, get_or, set}
use Rattle.model.specs.Basics.{count}
use Rattle.model.specs.Table.{arrays, sizes}
use Rattle.model.specs.Place.{bin, position}
use Rattle.model.specs.Refusal.{first}
use Rattle.model.specs.Expansion.{differs}
use Rattle.model.specs.Relocations.{row}
use Rattle.model.specs.Calls.{table_tests, growth_tests, relocations_refusal}
use Rattle.written.specs.Written.{written}
use Rattle.mover_written.specs.Carry.{Growth, growth, old_table, new_table, row_at, total, Told, every, bits, is_written, carry_refusal, carry_reply, carry_words}
use Rattle.mover_written.specs.Run.{Stored, stored, word_of, reads, Enough, Tells, mark_of, carried, calls, Run}

-- a moved bucket, and its order number: how many moved buckets are below it
abbrev pub Moves : Growth → ℕ → Type 0
Moves g x = (x < g.header.buckets) × (differs (old_table g) (new_table g) x ≡ true)

unfoldable pub order : Growth → ℕ → ℕ
order g x = count (differs (old_table g) (new_table g)) x

-- its row stands at that number in the move list
abbrev pub OrderRow : Type 0
OrderRow =
    (g : Growth) (x : ℕ) → Moves g x
    → (order g x < total g) × (row_at g (order g x) ≡ row (old_table g) (new_table g) x)

-- the checks of the move list, but for 9, pass
abbrev pub Checks : Growth → Type 0
Checks g = (first (table_tests g.header g.arrays) ≡ 0) × (first (growth_tests (old_table g) g.sizes) ≡ 0)

-- the mover is refused as the move list is, but for 9 of the one, and 40, 41 and 42 of the other
abbrev pub CarryAlike : Type 0
CarryAlike =
    (g : Growth) (told : Told) (ws : List ℕ) (m q r : ℕ)
    → (r ≡ 0 → ⊥) → (r ≡ 9 → ⊥) → (r ≡ 40 → ⊥) → (r ≡ 41 → ⊥) → (r ≡ 42 → ⊥)
    → (carry_refusal g told ws m ≡ r) ↔ (relocations_refusal g.header g.arrays g.sizes q ≡ r)

-- an array of words for every place of the new bins
abbrev pub Long : Growth → List ℕ → Type 0
Long g ws = g.sizes.bins * g.header.capacity ≤ length ws

-- where those checks pass, 40 is given exactly where the array is shorter than the new bins × P; 42 exactly where it is not and there are
-- too few bits; 41 exactly where there are enough of both and the mark is above the total. A call is accepted exactly where they pass and
-- none of the three is given
abbrev pub CarryRefused : Type 0
CarryRefused =
    (g : Growth) (told : Told) (ws : List ℕ) (m : ℕ)
    → ((carry_refusal g told ws m ≡ 40) ↔ (Checks g × (length ws < g.sizes.bins * g.header.capacity)))
    × ((carry_refusal g told ws m ≡ 42) ↔ (Checks g × Long g ws × (Enough g told → ⊥)))
    × ((carry_refusal g told ws m ≡ 41) ↔ (Checks g × Long g ws × Enough g told × (total g < m)))
    × ((carry_refusal g told ws m ≡ 0) ↔ (Checks g × Long g ws × Enough g told × (m ≤ total g)))

-- where a call is accepted, every position of the new map is below P, and every bin below the new number of bins: also where
-- the new table would have too many intervals, which the mover does not ask
abbrev pub CarryFits : Type 0
CarryFits =
    (g : Growth) (told : Told) (ws : List ℕ) (m : ℕ) → carry_refusal g told ws m ≡ 0
    → (x : ℕ) → x < g.sizes.buckets
    → (bin (new_table g) x < g.sizes.bins) × (position (new_table g) x < g.header.capacity)

-- ONE CALL

-- an accepted call at a mark below the total changes at most one word: where the moved bucket whose order number is the mark is written,
-- that of its new place becomes that of its old place, and this is no old bucket's old place; where it is blank, none. The mark is
-- raised all the same
abbrev pub CarryOne : Type 0
CarryOne =
    (g : Growth) (told : Told) (ws : List ℕ) (m : ℕ) → carry_refusal g told ws m ≡ 0 → m < total g
    → (x : ℕ) × Moves g x × (order g x ≡ m)
    × (is_written told x ≡ true → carry_words g told ws m ≡ set ws (word_of (new_table g) x) (reads (old_table g) ws x))
    × (is_written told x ≡ false → carry_words g told ws m ≡ ws)
    × (carry_reply g told ws m ≡ record { refusal = 0; mark = m + 1; finished = 0 })
    × ((y : ℕ) → y < g.header.buckets → word_of (old_table g) y ≡ word_of (new_table g) x → ⊥)

-- a refused call changes none, and neither does an accepted one at the total, which says so
abbrev pub CarryNone : Type 0
CarryNone =
    (g : Growth) (told : Told) (ws : List ℕ) (m : ℕ)
    → ((carry_refusal g told ws m ≡ 0 → ⊥)
    → (carry_words g told ws m ≡ ws) × (carry_reply g told ws m ≡ record { refusal = carry_refusal g told ws m; mark = 0; finished = 0 }))
    × (carry_refusal g told ws m ≡ 0 → total g ≤ m
    → (m ≡ total g) × (carry_words g told ws m ≡ ws) × (carry_reply g told ws m ≡ record { refusal = 0; mark = m; finished = 1 }))

-- what a call does depends on what it is told of the old buckets alone: bits from B on, and words past those that B bits need, are
-- ignored; and `carry` is `carry_written` with the bit of every old bucket 1
abbrev pub CarryPast : Type 0
CarryPast =
    (g : Growth) (told told' : Told) → Enough g told → Enough g told'
    → ((x : ℕ) → x < g.header.buckets → is_written told x ≡ is_written told' x)
    → (ws : List ℕ) (m : ℕ)
    → (carry_reply g told ws m ≡ carry_reply g told' ws m) × (carry_words g told ws m ≡ carry_words g told' ws m)

-- EVERY RUN, of `carry`, of `carry_written` or of both

-- its calls may be told by any words that are enough, with the bits of the old buckets as `wrote` has them; and by nothing where these
-- are all written
abbrev pub RunTells : Type 0
RunTells =
    (g : Growth) (wrote : ℕ → Bool)
    → ((ws : List ℕ) → g.header.buckets ≤ 64 * length ws → ((x : ℕ) → x < g.header.buckets → written ws x ≡ wrote x)
    → Tells g wrote (bits ws))
    × (((x : ℕ) → x < g.header.buckets → wrote x ≡ true) → Tells g wrote every)

-- there is one from any words at which a call with mark 0 is accepted, whatever each written bucket's word is
abbrev pub RunBegins : Type 0
RunBegins =
    (g : Growth) (told : Told) (ws : List ℕ) → carry_refusal g told ws 0 ≡ 0
    → Run g (is_written told) (reads (old_table g) ws) (stored ws 0) (stored ws 0)

-- no call of it is refused, and the marks never fall
abbrev pub CarryMarks : Type 0
CarryMarks =
    (g : Growth) (wrote : ℕ → Bool) (content : ℕ → ℕ) (b st : Stored) → Run g wrote content b st
    → (told : Told) → Tells g wrote told
    → (carry_refusal g told st.words st.mark ≡ 0) × (st.mark ≤ mark_of g told st) × (st.mark ≤ total g)

-- in every state, a written moved bucket with an order number below the mark reads its word at its new place; and every written old
-- bucket reads it at its old place
abbrev pub CarryReads : Type 0
CarryReads =
    (g : Growth) (wrote : ℕ → Bool) (content : ℕ → ℕ) (b st : Stored) → Run g wrote content b st
    → ((x : ℕ) → Moves g x → wrote x ≡ true → order g x < st.mark → reads (new_table g) st.words x ≡ content x)
    × ((x : ℕ) → x < g.header.buckets → wrote x ≡ true → reads (old_table g) st.words x ≡ content x)

-- the words that no run changes: all but those of written moved buckets' new places. So what is read of an old bucket at its old place,
-- blank or written, is what was read there at the beginning; and so is what is read at a blank moved bucket's new place
abbrev pub CarryKeeps : Type 0
CarryKeeps =
    (g : Growth) (wrote : ℕ → Bool) (content : ℕ → ℕ) (b st : Stored) → Run g wrote content b st
    → (length st.words ≡ length b.words)
    × ((i : ℕ) → ((x : ℕ) → Moves g x → wrote x ≡ true → i ≡ word_of (new_table g) x → ⊥) → get_or st.words i 0 ≡ get_or b.words i 0)
    × ((x : ℕ) → x < g.header.buckets → reads (old_table g) st.words x ≡ reads (old_table g) b.words x)
    × ((x : ℕ) → Moves g x → wrote x ≡ false → reads (new_table g) st.words x ≡ reads (new_table g) b.words x)

-- uncut calls from a state to the end store the words, all of them, and the mark that uncut calls from the beginning to the end do
abbrev pub CarryOn : Type 0
CarryOn =
    (g : Growth) (wrote : ℕ → Bool) (content : ℕ → ℕ) (b st : Stored) → Run g wrote content b st
    → (told told' : ℕ → Told) → ((i : ℕ) → Tells g wrote (told i)) → ((i : ℕ) → Tells g wrote (told' i))
    → (n k : ℕ) → total g ≤ st.mark + n → total g ≤ k → calls g told n st ≡ calls g told' k b

-- after the last row every written old bucket reads its word at its place in the new map, and the calls that follow change nothing and
-- say so
abbrev pub CarryEnds : Type 0
CarryEnds =
    (g : Growth) (wrote : ℕ → Bool) (content : ℕ → ℕ) (b st : Stored) → Run g wrote content b st → total g ≤ st.mark
    → ((x : ℕ) → x < g.header.buckets → wrote x ≡ true → reads (new_table g) st.words x ≡ content x)
    × ((told : Told) → Tells g wrote told → (carried g told st ≡ st) × ((carry_reply g told st.words st.mark).finished ≡ 1))

-- every cut is among the steps: where the mark q is below the total, and the bucket x of row q is written, a run may leave any word at
-- its new place, with mark q; its own word there with mark q; and that with mark q + 1. Where x is blank, it may leave the words as they
-- were, with mark q + 1
abbrev pub CutsReach : Type 0
CutsReach =
    (g : Growth) (wrote : ℕ → Bool) (content : ℕ → ℕ) (b st : Stored) → Run g wrote content b st
    → (x : ℕ) → Moves g x → order g x ≡ st.mark
    → (wrote x ≡ true
    → ((v : ℕ) → Run g wrote content b (stored (set st.words (word_of (new_table g) x) v) st.mark))
    × Run g wrote content b (stored (set st.words (word_of (new_table g) x) (content x)) st.mark)
    × Run g wrote content b (stored (set st.words (word_of (new_table g) x) (content x)) (st.mark + 1)))
    × (wrote x ≡ false → Run g wrote content b (stored st.words (st.mark + 1)))

-- A GROWTH WORKED OUT: from (4, 1) to (4, 2) with P = 12, the words of buckets 0 to 3 being 10 to 13. Buckets 2 and 3 move, to
-- positions 8 and 9 of bin 1

unfoldable pub worked : Growth
worked =
    growth
    (record { buckets = 4; capacity = 12; block_count = 1; interval_count = 1 })
    (arrays (1 ∷ []) (4 ∷ []) (0 ∷ []) (0 ∷ []))
    (sizes 4 2)

-- the words of bin 0, and then those of bin 1: the label, and four positions of buckets
unfoldable pub rack : ℕ → ℕ → List ℕ
rack a b =
    0 ∷ 0 ∷ 0 ∷ 0 ∷ 0 ∷ 0 ∷ 0 ∷ 0 ∷ 10 ∷ 11 ∷ 12 ∷ 13
    ∷ 0 ∷ 0 ∷ 0 ∷ 0 ∷ 0 ∷ 0 ∷ 0 ∷ 0 ∷ a ∷ b ∷ 0 ∷ 0
    ∷ []

-- `carry`: one call; all; after a copy cut to junk at mark 1; and at the total
abbrev pub CarryWorked : Type 0
CarryWorked =
    (calls worked (λ i. every) 1 (stored (rack 0 0) 0) ≡ stored (rack 12 0) 1)
    × (calls worked (λ i. every) 2 (stored (rack 0 0) 0) ≡ stored (rack 12 13) 2)
    × (calls worked (λ i. every) 1 (stored (rack 12 77) 1) ≡ stored (rack 12 13) 2)
    × (carry_reply worked every (rack 12 13) 2 ≡ record { refusal = 0; mark = 2; finished = 1 })

pub record CarryClaims : Type 0 where
  pub order_row : OrderRow
  pub carry_alike : CarryAlike
  pub carry_refused : CarryRefused
  pub carry_fits : CarryFits
  pub carry_one : CarryOne
  pub carry_none : CarryNone
  pub carry_past : CarryPast
  pub run_tells : RunTells
  pub run_begins : RunBegins
  pub carry_marks : CarryMarks
  pub carry_reads : CarryReads
  pub carry_keeps : CarryKeeps
  pub carry_on : CarryOn
  pub carry_ends : CarryEnds
  pub cuts_reach : CutsReach
  pub carry_worked : CarryWorked
