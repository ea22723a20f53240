-- Document 02, S-8: how many of the buckets that a growth moves are written. Assumes nothing.
use Rattle.std.specs.Prelude.{ℕ, List, [], ◌∷◌, ◌++◌}
use Rattle.model.specs.Basics.{◌and◌, count}
use Rattle.model.specs.Table.{Shape, Table, Arrays, table}
use Rattle.model.specs.Refusal.{Test, first}
use Rattle.model.specs.Expansion.{expanded, differs}
use Rattle.model.specs.Calls.{answer, table_tests, growth_tests}
use Rattle.model.specs.declared.table.Header.{Header}
use Rattle.model.specs.declared.reply.WrittenReply.{WrittenReply}
use Rattle.written.specs.Written.{written, bits_short}

-- the old buckets, of table t, whose bin differs in table u, and that are written
unfoldable pub written_moved : Table → Table → List ℕ → ℕ
written_moved t u bits = count (λ x. differs t u x and written bits x) t.buckets

-- the checks of the move list, but for 9; then 42, for the bits of the old table's buckets
unfoldable pub written_tests : Header → List ℕ → List Test
written_tests h bits = (42, bits_short h.buckets bits) ∷ []

unfoldable pub written_refusal : Header → Arrays → Shape → List ℕ → ℕ
written_refusal h a s bits = first (table_tests h a ++ (growth_tests (table h a) s ++ written_tests h bits))

unfoldable pub written_reply : Header → Arrays → Shape → List ℕ → WrittenReply
written_reply h a s bits =
    answer (written_refusal h a s bits)
    (record { refusal = 0; count = written_moved (table h a) (expanded (table h a) s) bits })
    (record { refusal = written_refusal h a s bits; count = 0 })
