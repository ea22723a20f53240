-- A word compared byte by byte (`same`) is equality. Assumes nothing.
use Prim.Native.Nat.{ℕ}
use mathlib.Core.Path.{◌≡◌, refl}
use mathlib.Core.Bool.{Bool, true, false, ◌&&◌}
use mathlib.Core.List.{List}
use lib.Pointwise.{pointwise}
use lib.Dec.{eqb}
use Rattle.std.specs.Bool.{Decides}
use Rattle.std.proofs.lemmas.Bool.Decides.{Decides-eqb, same_from_decides}
use Rattle.std.proofs.lemmas.Slice.Eq.{compares_Decides, slice_eq-Decides}
use Rattle.model.specs.Basics.{◌and◌}
use Rattle.model.specs.Console.{same}

both_hold : (a b : Bool) → a and b ≡ (a && b)
unfolding ◌and◌
both_hold true b = refl
both_hold false b = refl

pub same_decides : (w v : List ℕ) → Decides (same w v) (w ≡ v)
unfolding same
same_decides w v =
    compares_Decides same
    (record {
      empty = refl;
      shorter = λ y ys. refl;
      longer = λ x xs. refl;
      heads = λ x y xs ys. both_hold (eqb x y) (same xs ys);
    })
    w v

-- `==` of slices
pub same_is_eq : (w v : List ℕ) (r : Bool) → r ≡ pointwise eqb w v → r ≡ same w v
same_is_eq w v r h = same_from_decides _ _ (slice_eq-Decides Decides-eqb w v r h) (same_decides w v)
