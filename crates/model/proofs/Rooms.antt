-- Laws of room: the intervals for expansions; that the arrays lent for a new table are long enough; the initial table written to them. Assumes nothing.
use Prim.Native.Nat.{ℕ, ◌≤◌, ◌<◌}
use mathlib.Core.Path.{◌≡◌, refl}
use mathlib.Core.Bool.{false}
use mathlib.Core.List.{List, [], ◌∷◌}
use native.Mathlib.Nat.{not-suc-le-zero}
use native.Mathlib.Omega.{arith}
use lib.ListN.{length, set}
use borrow.Author.Tests.{ltb-false}
use Rattle.model.specs.Limits.{max_blocks, max_intervals}
use Rattle.model.specs.Table.{Shape, Arrays, arrays, over, written}
use Rattle.model.specs.Refusal.{room_short}
use Rattle.model.specs.Initial.{initial}
use Rattle.model.specs.Room.{room}
use Rattle.model.specs.Claims.{RoomSteps}
use Rattle.model.proofs.Refusals.{or_left, or_right}

-- the intervals for expansions, step by step
pub room_steps_lem : RoomSteps
unfolding room
room_steps_lem = (refl, (λ m. omega arith), refl)

-- room for any new table
pub record Roomy (a : Arrays) : Type 0 where
  pub tops : max_blocks ≤ length a.tops
  pub ends : max_intervals ≤ length a.ends
  pub blocks : max_intervals ≤ length a.blocks
  pub adjustments : max_intervals ≤ length a.adjustments

pub roomy : (a : Arrays) → room_short a ≡ false → Roomy a
unfolding room_short
roomy a h =
    record {
      tops = ltb-false _ _ (or_left _ _ (or_left _ _ (or_left _ _ h)));
      ends = ltb-false _ _ (or_right _ _ (or_left _ _ (or_left _ _ h)));
      blocks = ltb-false _ _ (or_right _ _ (or_left _ _ h));
      adjustments = ltb-false _ _ (or_right _ _ h);
    }

-- one entry over the first of a list
pub over_first : (xs : List ℕ) (v : ℕ) → 0 < length xs → set xs 0 v ≡ over (v ∷ []) xs
unfolding over
over_first [] v l = absurd (not-suc-le-zero l)
over_first (x ∷ xs) v l = refl

-- the initial table written: one entry of each array
pub initial_written
    : (s : Shape) (p : ℕ) (a : Arrays) → Roomy a
    → arrays (set a.tops 0 s.bins) (set a.ends 0 s.buckets) (set a.blocks 0 0) (set a.adjustments 0 0)
    ≡ written (initial s p) a
unfolding written initial
initial_written s p a r =
    rw (
      over_first a.tops s.bins (omega arith),
      over_first a.ends s.buckets (omega arith),
      over_first a.blocks 0 (omega arith),
      over_first a.adjustments 0 (omega arith),
    )
