-- Laws of results: no refusal has the number 0, and where one comes first among tests. Assumes nothing.
use mathlib.Core.Path.{◌≡◌, sym, ◌∙◌}
use mathlib.Core.List.{List, ◌++◌}
use native.Mathlib.Omega.{arith}
use Rattle.model.specs.Refusal.{Test, first}
use Rattle.model.specs.Results.{number}
use Rattle.model.specs.declared.refusal.Refusal.{Refusal}
use Rattle.model.specs.declared.refusal.Refusal.TheVariants as refusal
use Rattle.model.proofs.Refusals.{first_found}

pub number_some : (r : Refusal) → number r ≡ 0 → ⊥
number_some refusal.SizeOutside e = omega arith
number_some refusal.FewBuckets e = omega arith
number_some refusal.Shrinks e = omega arith
number_some refusal.Unchanged e = omega arith
number_some refusal.BlocksFull e = omega arith
number_some refusal.BucketPast e = omega arith
number_some refusal.NoneThere e = omega arith
number_some refusal.IntervalsFull e = omega arith
number_some refusal.OrderPast e = omega arith
number_some refusal.NoMap e = omega arith
number_some refusal.HeaderWrong e = omega arith
number_some refusal.TopsWrong e = omega arith
number_some refusal.EndsWrong e = omega arith
number_some refusal.BlocksWrong e = omega arith
number_some refusal.HoldingsWrong e = omega arith
number_some refusal.AdjustmentsWrong e = omega arith
number_some refusal.RoomShort e = omega arith
number_some refusal.Unreadable e = omega arith
number_some refusal.CapacityWrong e = omega arith
number_some refusal.Overfills e = omega arith
number_some refusal.Falls e = omega arith
number_some refusal.ResultShort e = omega arith
number_some refusal.SheetShort e = omega arith
number_some refusal.WordsShort e = omega arith
number_some refusal.MarkPast e = omega arith
number_some refusal.BitsShort e = omega arith

-- the refusal that the first tests find is that of all of them
pub refused_first : (r : Refusal) (ts us : List Test) → number r ≡ first ts → number r ≡ first (ts ++ us)
refused_first r ts us e = e ∙ sym (first_found ts us (λ z. number_some r (e ∙ z)))
