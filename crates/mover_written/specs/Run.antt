-- Document 02, S-7, 'The mover', and S-8, blank buckets: what is stored in a run of calls, whichever write is cut. Assumes nothing.
use Rattle.std.specs.Prelude.{ℕ, zero, suc, ◌+◌, ◌*◌, ◌≤◌, ◌<◌, ◌≡◌, ◌⊎◌, Bool, true, List, length, get_or}
use Rattle.model.specs.Basics.{count}
use Rattle.model.specs.Table.{Table}
use Rattle.model.specs.Place.{bin, position}
use Rattle.mover_written.specs.Carry.{Growth, old_table, put, Told, every, bits, is_written, copies, carry_refusal, carry_reply, carry_words}

-- what a plant stores, and a power cut leaves: the words, and the mark
pub record Stored : Type 0 where
  pub words : List ℕ
  pub mark : ℕ

abbrev pub stored : List ℕ → ℕ → Stored
stored ws m = record { words = ws; mark = m }

-- where the word of bucket x is by the map of table t, at bin × P + position; and the word that is read there
abbrev pub word_of : Table → ℕ → ℕ
word_of t x = bin t x * t.capacity + position t x

abbrev pub reads : Table → List ℕ → ℕ → ℕ
reads t ws x = get_or ws (word_of t x) 0

-- a call is told of every old bucket: there are words for as many bits
abbrev pub Enough : Growth → Told → Type 0
Enough g every = Unit {0}
Enough g (bits ws) = g.header.buckets ≤ 64 * length ws

-- what a call of a run may be told, where `wrote` says which old buckets are written: just that of them, and anything of buckets from B
-- on. So all calls of a run are told the same of the old buckets
pub record Tells (g : Growth) (wrote : ℕ → Bool) (told : Told) : Type 0 where
  pub enough : Enough g told
  pub same : (x : ℕ) → x < g.header.buckets → is_written told x ≡ wrote x

-- a beginning: a first call, so told, is accepted, at mark 0, and every written old bucket's word is at its old place
pub record Begun (g : Growth) (wrote : ℕ → Bool) (content : ℕ → ℕ) (b : Stored) : Type 0 where
  pub told : Told
  pub tells : Tells g wrote told
  pub first : b.mark ≡ 0
  pub accepted : carry_refusal g told b.words b.mark ≡ 0
  pub placed : (x : ℕ) → x < g.header.buckets → wrote x ≡ true → reads (old_table g) b.words x ≡ content x

-- the words and the mark after a call that is given the stored mark
abbrev pub words_of : Growth → Told → Stored → List ℕ
words_of g told st = carry_words g told st.words st.mark

abbrev pub mark_of : Growth → Told → Stored → ℕ
mark_of g told st = (carry_reply g told st.words st.mark).mark

-- a call whose copy and mark are both stored
unfoldable pub carried : Growth → Told → Stored → Stored
carried g told st = stored (words_of g told st) (mark_of g told st)

-- n such calls, of which call i, from 0, is told `told i`; and how many of them copy
unfoldable pub calls : Growth → (ℕ → Told) → ℕ → Stored → Stored
calls g told zero st = st
calls g told (suc n) st = carried g (told n) (calls g told n st)

unfoldable pub copies_made : Growth → (ℕ → Told) → ℕ → Stored → ℕ
copies_made g told n st = count (λ i. copies g (told i) (calls g told i st).mark) n

-- a stored mark is old or new
abbrev pub OldOrNew : Growth → Told → Stored → ℕ → Type 0
OldOrNew g told st m = (m ≡ st.mark) ⊎ (m ≡ mark_of g told st)

-- what is stored in a run from b on, with no other writer: a call after another, or one that is cut
pub data Run (g : Growth) (wrote : ℕ → Bool) (content : ℕ → ℕ) (b : Stored) : Stored → Type 0 where
  begun : Begun g wrote content b → Run g wrote content b b
  -- a whole call
  whole : {st : Stored} (told : Told) → Tells g wrote told → Run g wrote content b st → Run g wrote content b (carried g told st)
  -- cut in the copy, if the call makes one: that one destination holds its old word, the new one or junk, so any word v, and the mark
  -- is as it was
  cut_copy
      : {st : Stored} (told : Told) (v : ℕ) → Tells g wrote told → copies g told st.mark ≡ true → Run g wrote content b st
      → Run g wrote content b (stored (put g st.mark v st.words) st.mark)
  -- cut in the storing of the mark m: it is old or new, whole
  cut_mark
      : {st : Stored} (told : Told) (m : ℕ) → Tells g wrote told → OldOrNew g told st m → Run g wrote content b st
      → Run g wrote content b (stored (words_of g told st) m)
