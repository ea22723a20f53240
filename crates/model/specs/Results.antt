-- Document 01's number of each refusal, and the reply that the result of a call becomes: a refusal replies with its number and
-- zeros. Assumes nothing.
use Rattle.std.specs.Prelude.{ℕ, Bool, true, false, Ok, Err, ⊤}
use Rattle.std.specs.declared.result.Result.{Result}
use Rattle.model.specs.Calls.{no_header}
use Rattle.model.specs.declared.refusal.Refusal.{Refusal}
use Rattle.model.specs.declared.refusal.Refusal.TheVariants as refusal
use Rattle.model.specs.declared.given.Slot.{Slot}
use Rattle.model.specs.declared.given.Grown.{Grown}
use Rattle.model.specs.declared.given.Page.{Page}
use Rattle.model.specs.declared.given.Carried.{Carried}
use Rattle.model.specs.declared.table.Header.{Header}
use Rattle.model.specs.declared.reply.TableReply.{TableReply}
use Rattle.model.specs.declared.reply.RelocationsReply.{RelocationsReply}
use Rattle.model.specs.declared.reply.PlaceReply.{PlaceReply}
use Rattle.model.specs.declared.reply.PlacesReply.{PlacesReply}
use Rattle.model.specs.declared.reply.FindReply.{FindReply}
use Rattle.model.specs.declared.reply.BinSizeReply.{BinSizeReply}
use Rattle.model.specs.declared.reply.RoomReply.{RoomReply}
use Rattle.model.specs.declared.reply.SaveReply.{SaveReply}
use Rattle.model.specs.declared.reply.LoadReply.{LoadReply}
use Rattle.model.specs.declared.reply.SheetReply.{SheetReply}
use Rattle.model.specs.declared.reply.CarryReply.{CarryReply}
use Rattle.model.specs.declared.reply.WrittenReply.{WrittenReply}

abbrev pub number : Refusal → ℕ
number refusal.SizeOutside = 1
number refusal.FewBuckets = 2
number refusal.Shrinks = 3
number refusal.Unchanged = 4
number refusal.BlocksFull = 5
number refusal.BucketPast = 6
number refusal.NoneThere = 7
number refusal.IntervalsFull = 8
number refusal.OrderPast = 9
number refusal.NoMap = 10
number refusal.HeaderWrong = 11
number refusal.TopsWrong = 12
number refusal.EndsWrong = 13
number refusal.BlocksWrong = 14
number refusal.HoldingsWrong = 15
number refusal.AdjustmentsWrong = 16
number refusal.RoomShort = 21
number refusal.Unreadable = 23
number refusal.CapacityWrong = 30
number refusal.Overfills = 31
number refusal.Falls = 32
number refusal.ResultShort = 33
number refusal.SheetShort = 34
number refusal.WordsShort = 40
number refusal.MarkPast = 41
number refusal.BitsShort = 42

-- the number of the refusal that a result is, or 0
abbrev pub refusal_of : {A : Type 0} → Result A Refusal → ℕ
refusal_of (Ok a) = 0
refusal_of (Err r) = number r

-- 1 for a fact, else 0
abbrev pub flag : Bool → ℕ
flag true = 1
flag false = 0

-- THE REPLIES

abbrev pub table_told : Result Grown Refusal → TableReply
table_told (Ok grown) = record { refusal = 0; moved = grown.moved; header = grown.header }
table_told (Err r) = record { refusal = number r; moved = 0; header = no_header }

abbrev pub relocations_told : Result Page Refusal → RelocationsReply
relocations_told (Ok page) = record { refusal = 0; written = page.written; total = page.total }
relocations_told (Err r) = record { refusal = number r; written = 0; total = 0 }

abbrev pub place_told : Result Slot Refusal → PlaceReply
place_told (Ok slot) = record { refusal = 0; bin = slot.bin; position = slot.position }
place_told (Err r) = record { refusal = number r; bin = 0; position = 0 }

abbrev pub places_told : Result ⊤ Refusal → PlacesReply
places_told (Ok u) = record { refusal = 0 }
places_told (Err r) = record { refusal = number r }

abbrev pub find_told : Result ℕ Refusal → FindReply
find_told (Ok bucket) = record { refusal = 0; bucket = bucket }
find_told (Err r) = record { refusal = number r; bucket = 0 }

abbrev pub bin_size_told : Result ℕ Refusal → BinSizeReply
bin_size_told (Ok buckets) = record { refusal = 0; buckets = buckets }
bin_size_told (Err r) = record { refusal = number r; buckets = 0 }

abbrev pub room_told : Result ℕ Refusal → RoomReply
room_told (Ok intervals) = record { refusal = 0; intervals = intervals }
room_told (Err r) = record { refusal = number r; intervals = 0 }

abbrev pub save_told : Result ℕ Refusal → SaveReply
save_told (Ok length) = record { refusal = 0; length = length }
save_told (Err r) = record { refusal = number r; length = 0 }

abbrev pub load_told : Result Header Refusal → LoadReply
load_told (Ok header) = record { refusal = 0; header = header }
load_told (Err r) = record { refusal = number r; header = no_header }

abbrev pub sheet_told : Result ℕ Refusal → SheetReply
sheet_told (Ok length) = record { refusal = 0; length = length }
sheet_told (Err r) = record { refusal = number r; length = 0 }

abbrev pub carry_told : Result Carried Refusal → CarryReply
carry_told (Ok carried) = record { refusal = 0; mark = carried.mark; finished = flag carried.finished }
carry_told (Err r) = record { refusal = number r; mark = 0; finished = 0 }

abbrev pub written_told : Result ℕ Refusal → WrittenReply
written_told (Ok count) = record { refusal = 0; count = count }
written_told (Err r) = record { refusal = number r; count = 0 }
