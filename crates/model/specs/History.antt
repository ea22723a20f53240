-- Histories: a fresh call and the growth calls after it, played by the replies and arrays that the contracts of `initial` and
-- `expand` cite. Demand 3 and the figures speak of them. Assumes nothing.
use Rattle.std.specs.Prelude.{ℕ, ◌+◌, ◌≡◌, List, [], ◌∷◌}
use Rattle.model.specs.Table.{Shape, Table, Arrays, table}
use Rattle.model.specs.Calls.{answer, initial_reply, initial_arrays, expand_reply, expand_arrays}
use Rattle.model.specs.declared.table.Header.{Header}
use Rattle.model.specs.declared.reply.TableReply.{TableReply}

-- a growth call: the arrays lent to read, the sizes asked for, and the arrays lent to write to
pub record Call : Type 0 where
  pub given : Arrays
  pub sizes : Shape
  pub out : Arrays

-- what calls leave: the reply of the latest one, and the header and arrays that the latest accepted one wrote
pub record State : Type 0 where
  pub reply : TableReply
  pub header : Header
  pub arrays : Arrays

-- their table
abbrev pub table_of : State → Table
table_of st = table st.header st.arrays

-- what a fresh call leaves
unfoldable pub started : Shape → ℕ → Arrays → State
started s p out =
    record { reply = initial_reply s p out; header = (initial_reply s p out).header; arrays = initial_arrays s p out }

-- a growth call's reply, and what it leaves: what it wrote, or, where it is refused, what was there, the table that it read
unfoldable pub reply_of : State → Call → TableReply
reply_of st c = expand_reply st.header c.given c.sizes c.out

unfoldable pub next : State → Call → State
next st c =
    record {
      reply = reply_of st c;
      header = answer (reply_of st c).refusal (reply_of st c).header st.header;
      arrays =
          answer (reply_of st c).refusal (expand_arrays st.header c.given c.sizes c.out) st.arrays;
    }

-- what a list of growth calls comes to: what it leaves, the sum of the moved counts in the replies, and the sizes of the
-- accepted calls
pub record Played : Type 0 where
  pub left : State
  pub moved : ℕ
  pub shapes : List Shape

-- a call of sizes s with reply r, added to what the calls after it come to
unfoldable pub added : TableReply → Shape → Played → Played
added r s p =
    record {
      left = p.left;
      moved = r.moved + p.moved;
      shapes = answer r.refusal (s ∷ p.shapes) p.shapes;
    }

unfoldable pub played : State → List Call → Played
played st [] = record { left = st; moved = 0; shapes = [] }
played st (c ∷ rest) = added (reply_of st c) c.sizes (played (next st c) rest)

-- a fresh call and growth calls after it
abbrev pub history : Shape → ℕ → Arrays → List Call → Played
history s p out cs = played (started s p out) cs

-- each call is lent arrays that hold the table which the calls before it left, of any length and with any entries past it. No
-- length is asked for: an array shorter than its count reads as 0 past its end, so it may hold the table, and rule 11 refuses the
-- call
abbrev pub Lends : State → List Call → Type 0
Lends st [] = Unit {0}
Lends st (c ∷ rest) = (table st.header c.given ≡ table_of st) × Lends (next st c) rest

-- calls of any sizes and any arrays to write to, each lent the very arrays that the latest accepted call before it left
unfoldable pub handed_on : State → List (Shape × Arrays) → List Call
handed_on st [] = []
handed_on st (asked ∷ rest) =
    let c : Call = record { given = st.arrays; sizes = asked.0; out = asked.1 } in c ∷ handed_on (next st c) rest
