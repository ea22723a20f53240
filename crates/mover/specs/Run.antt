-- Document 02, S-7, 'The mover': what is stored in a run of calls, whichever write is cut. Assumes nothing.
use Rattle.std.specs.Prelude.{ℕ, zero, suc, ◌+◌, ◌*◌, ◌<◌, ◌≡◌, ◌⊎◌, List, get_or}
use Rattle.model.specs.Table.{Table}
use Rattle.model.specs.Place.{bin, position}
use Rattle.mover.specs.Carry.{Growth, old_table, total, put, carry_refusal, carry_reply, carry_words}

-- what a plant stores, and a power cut leaves: the words, and the mark
pub record Stored : Type 0 where
  pub words : List ℕ
  pub mark : ℕ

abbrev pub stored : List ℕ → ℕ → Stored
stored ws m = record { words = ws; mark = m }

-- where the word of bucket x is by the map of table t, at bin × P + position; and the word that is read there
abbrev pub word_of : Table → ℕ → ℕ
word_of t x = bin t x * t.capacity + position t x

abbrev pub reads : Table → List ℕ → ℕ → ℕ
reads t ws x = get_or ws (word_of t x) 0

-- a beginning: the first call is accepted, at mark 0, and every old bucket's word is at its old place
pub record Begun (g : Growth) (content : ℕ → ℕ) (b : Stored) : Type 0 where
  pub first : b.mark ≡ 0
  pub accepted : carry_refusal g b.words b.mark ≡ 0
  pub placed : (x : ℕ) → x < g.header.buckets → reads (old_table g) b.words x ≡ content x

-- the words and the mark after a call that is given the stored mark
abbrev pub words_of : Growth → Stored → List ℕ
words_of g st = carry_words g st.words st.mark

abbrev pub mark_of : Growth → Stored → ℕ
mark_of g st = (carry_reply g st.words st.mark).mark

-- a call whose copy and mark are both stored, and n such calls
unfoldable pub carried : Growth → Stored → Stored
carried g st = stored (words_of g st) (mark_of g st)

unfoldable pub calls : Growth → ℕ → Stored → Stored
calls g zero st = st
calls g (suc n) st = carried g (calls g n st)

-- a stored mark is old or new
abbrev pub OldOrNew : Growth → Stored → ℕ → Type 0
OldOrNew g st m = (m ≡ st.mark) ⊎ (m ≡ mark_of g st)

-- what is stored in a run from b on, with no other writer: a call after another, or one that is cut
pub data Run (g : Growth) (content : ℕ → ℕ) (b : Stored) : Stored → Type 0 where
  begun : Begun g content b → Run g content b b
  -- a whole call
  whole : {st : Stored} → Run g content b st → Run g content b (carried g st)
  -- cut in the copy: that one destination holds its old word, the new one or junk, so any word v, and the mark is as it was
  cut_copy
      : {st : Stored} (v : ℕ) → st.mark < total g → Run g content b st
      → Run g content b (stored (put g st.mark v st.words) st.mark)
  -- cut in the storing of the mark m: it is old or new, whole
  cut_mark
      : {st : Stored} (m : ℕ) → OldOrNew g st m → Run g content b st
      → Run g content b (stored (words_of g st) m)
