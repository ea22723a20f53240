-- Document 01, 'Figures to hold it to': those marked *, as one list, each a history of sizes with a question and its answer.
-- Assumes nothing.
use Rattle.std.specs.Prelude.{ℕ, List, [], ◌∷◌, map, take, replicate}
use Rattle.model.specs.Limits.{max_capacity, max_blocks, max_intervals}
use Rattle.model.specs.Table.{Shape, sizes, Arrays, arrays}
use Rattle.model.specs.Calls.{place_reply}
use Rattle.model.specs.History.{State, started, played, handed_on}

-- arrays of zeros to write to
unfoldable pub blank : Arrays
blank = arrays (replicate max_blocks 0) (replicate max_intervals 0) (replicate max_intervals 0) (replicate max_intervals 0)

-- what growths of the given sizes leave, each of the map that the one before it left
unfoldable pub grown : State → List Shape → State
grown st ss = (played st (handed_on st (map (λ s. (s, blank)) ss))).left

-- a question and its answer: the refusal, moved count and number of intervals of the last reply; an array of the table; the
-- bin and position of a bucket
pub data Answer : Type 0 where
  reply : ℕ → ℕ → ℕ → Answer
  ends : List ℕ → Answer
  blocks : List ℕ → Answer
  adjustments : List ℕ → Answer
  place : ℕ → ℕ → ℕ → Answer

-- the same question, answered by the definitions
unfoldable pub answered : State → Answer → Answer
answered st (reply r m k) = reply st.reply.refusal st.reply.moved st.reply.header.interval_count
answered st (ends xs) = ends (take st.header.interval_count st.arrays.ends)
answered st (blocks xs) = blocks (take st.header.interval_count st.arrays.blocks)
answered st (adjustments xs) = adjustments (take st.header.interval_count st.arrays.adjustments)
answered st (place x y p) =
    place x (place_reply st.header st.arrays x).bin (place_reply st.header st.arrays x).position

-- a figure: fresh sizes, the growths after it, and document 01's answers; the capacity is 1,000,000,000
pub record Figure : Type 0 where
  pub fresh : Shape
  pub growths : List Shape
  pub stated : List Answer

unfoldable pub computed : Figure → List Answer
computed f = map (answered (grown (started f.fresh max_capacity blank) f.growths)) f.stated

abbrev pub figure : Shape → List Shape → List Answer → Figure
figure s ss a = record { fresh = s; growths = ss; stated = a }

unfoldable pub starred : List Figure
starred =
    figure (sizes 10 2) [] (place 7 1 11 ∷ [])
    ∷ figure (sizes 10 2) (sizes 10 3 ∷ [])
    (ends (7 ∷ 10 ∷ []) ∷ blocks (0 ∷ 1 ∷ []) ∷ adjustments (0 ∷ 7 ∷ []) ∷ reply 0 3 2 ∷ [])
    ∷ figure (sizes 10 2) (sizes 10 3 ∷ sizes 14 4 ∷ [])
    (ends (7 ∷ 10 ∷ 11 ∷ 14 ∷ [])
    ∷ blocks (0 ∷ 1 ∷ 0 ∷ 2 ∷ [])
    ∷ adjustments (0 ∷ 7 ∷ 3 ∷ 11 ∷ [])
    ∷ reply 0 0 4
    ∷ [])
    ∷ figure (sizes 10 2) (sizes 10 3 ∷ sizes 14 4 ∷ sizes 14 5 ∷ [])
    (ends (6 ∷ 7 ∷ 10 ∷ 11 ∷ 14 ∷ [])
    ∷ blocks (0 ∷ 3 ∷ 1 ∷ 3 ∷ 2 ∷ [])
    ∷ adjustments (0 ∷ 6 ∷ 7 ∷ 9 ∷ 11 ∷ [])
    ∷ reply 0 2 5
    ∷ [])
    ∷ figure (sizes 10 2) (sizes 10 3 ∷ sizes 14 4 ∷ sizes 14 5 ∷ sizes 16 5 ∷ [])
    (ends (6 ∷ 7 ∷ 10 ∷ 11 ∷ 14 ∷ 15 ∷ 16 ∷ [])
    ∷ blocks (0 ∷ 3 ∷ 1 ∷ 3 ∷ 2 ∷ 0 ∷ 3 ∷ [])
    ∷ adjustments (0 ∷ 6 ∷ 7 ∷ 9 ∷ 11 ∷ 8 ∷ 13 ∷ [])
    ∷ [])
    ∷ figure (sizes 4 2) (sizes 6 2 ∷ []) (ends (6 ∷ []) ∷ [])
    ∷ figure (sizes 4 2) (sizes 5 4 ∷ []) (ends (3 ∷ 5 ∷ []) ∷ adjustments (0 ∷ 3 ∷ []) ∷ reply 0 1 2 ∷ [])
    ∷ figure (sizes 1 1) [] (reply 0 0 1 ∷ [])
    ∷ figure (sizes 1 2) [] (reply 2 0 0 ∷ [])
    ∷ []
