use Prim.Native.Nat.{ℕ, ◌+◌, ◌*◌, ◌/◌}
use mathlib.Core.Logic.{⊎_elim}
use lib.Dec.{ltb}
use borrow.Author.Tests.{lt-ltb, le-ltb}
use Rattle.std.proofs.Common.{◌≡◌, sym, ◌∙◌, arith}
use Rattle.model.proofs.Counts.{below_or}
use Rattle.written.specs.Written.{bits_short}
use Rattle.written.proofs.bits_short.Goals as goal

-- l words have fewer than b bits just where they are fewer than those that the bits need
short : (l b : ℕ) → ltb l ((b + 63) / 64) ≡ ltb (64 * l) b
short l b =
    ⊎_elim
    (λ k. lt-ltb l ((b + 63) / 64) (omega arith) ∙ sym (lt-ltb (64 * l) b k))
    (λ k. le-ltb l ((b + 63) / 64) (omega arith) ∙ sym (le-ltb (64 * l) b k))
    (below_or (64 * l) b)

pub returns : goal.returns
unfolding bits_short
returns c = short _ c.args.buckets
