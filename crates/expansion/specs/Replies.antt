-- What the second halves of calls answer, on a formed table t and sizes s asked for. Assumes nothing.
use Rattle.std.specs.Prelude.{ℕ, ◌≡◌, List, [], ◌∷◌, ◌++◌}
use Rattle.model.specs.Table.{Shape, Table, shape, Arrays}
use Rattle.model.specs.Refusal.{first, intervals_full}
use Rattle.model.specs.Expansion.{expanded, moved}
use Rattle.model.specs.Relocations.{rows}
use Rattle.model.specs.Balance.{least as least_of}
use Rattle.model.specs.Calls.{growth_tests, table_reply, arrays_after, order_tests, relocations_answer, buffer_after}
use Rattle.model.specs.declared.reply.RelocationsReply.{RelocationsReply}
use Rattle.model.specs.declared.reply.TableReply.{TableReply}

-- the refusal number of a move list
abbrev pub moves_refusal : Table → Shape → ℕ → ℕ
moves_refusal t s q = first (growth_tests t s ++ order_tests (rows t (expanded t s)) q)

-- a move list's reply r, and what its buffer holds afterwards
pub record MovesReply (t : Table) (s : Shape) (q : ℕ) (buffer left : List ℕ) (r : RelocationsReply) : Type 0 where
  pub reply : r ≡ relocations_answer (moves_refusal t s q) (rows t (expanded t s)) q buffer
  pub lent : left ≡ buffer_after (moves_refusal t s q) (rows t (expanded t s)) q buffer

-- the refusal number of a growth with room for any table
abbrev pub grow_refusal : Table → Shape → ℕ
grow_refusal t s = first (growth_tests t s ++ ((8, intervals_full t s) ∷ []))

-- a growth's reply r, whose moved count is the formula with T too if the growth is accepted, and what the arrays lent to it
-- hold afterwards
pub record GrowReply (t : Table) (s : Shape) (out left : Arrays) (r : TableReply) : Type 0 where
  pub reply : r ≡ table_reply (grow_refusal t s) (moved t (expanded t s)) (expanded t s)
  pub least : grow_refusal t s ≡ 0 → r.moved ≡ least_of (shape t) s
  pub lent : left ≡ arrays_after (grow_refusal t s) (expanded t s) out
