-- What a save of a formed table answers. Assumes nothing.
use Rattle.std.specs.Prelude.{ℕ, List}
use Rattle.model.specs.Table.{Table, over}
use Rattle.model.specs.Saved.{saved, saved_length}
use Rattle.model.specs.Calls.{answer}
use Rattle.model.specs.declared.table.Header.{Header}
use Rattle.model.specs.declared.reply.SaveReply.{SaveReply}

-- the reply where the refusal is r, and what the buffer holds then; t is the table
abbrev pub save_answer : ℕ → Header → SaveReply
save_answer r h =
    answer r
    (record { refusal = 0; length = saved_length h.block_count h.interval_count })
    (record { refusal = r; length = 0 })

abbrev pub save_after : ℕ → Table → List ℕ → List ℕ
save_after r t buffer = answer r (over (saved t) buffer) buffer
