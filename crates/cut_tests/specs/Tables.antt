-- A table of the tests, and where its buckets' words are. Assumes nothing.
use Rattle.std.specs.Prelude.{ℕ, ◌-◌, ◌^◌, if◌then◌else◌, ◌==◌}
use Rattle.model.specs.Table.{Arrays, arrays}
use Rattle.model.specs.Calls.{place_reply}
use Rattle.model.specs.declared.table.Header.{Header}
use Rattle.model.specs.declared.reply.PlaceReply.{PlaceReply}
use Rattle.cut_tests.specs.Words.{place_word}
use Rattle.cut_tests.specs.declared.growth.Table.{Table}

abbrev pub arrays_of : Table → Arrays
arrays_of t = arrays t.tops t.ends t.blocks t.adjustments

-- the word that a reply to `place` says; past every word where it is refused
abbrev pub replied_word : ℕ → PlaceReply → ℕ
replied_word capacity reply =
    if reply.refusal == 0 then place_word capacity reply.bin reply.position else 2 ^ 32 - 1

abbrev pub bucket_word : Table → Header → ℕ → ℕ
bucket_word t h x = replied_word h.capacity (place_reply h (arrays_of t) x)
