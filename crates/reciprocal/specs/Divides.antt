-- What a reciprocal is of a divisor. Assumes nothing.
use Rattle.std.specs.Prelude.{ℕ, ◌*◌, ◌/◌, ◌^◌, ◌<◌, ◌≡◌}
use Rattle.reciprocal.specs.declared.Reciprocal.{Reciprocal}

-- r divides every number below 2 ^ 30 by d, in 64 bits
pub record Divides (r : Reciprocal) (d : ℕ) : Type 0 where
  pub bits : r.bits < 64
  pub fits : (x : ℕ) → x < 2 ^ 30 → x * r.factor < 2 ^ 64
  pub same : (x : ℕ) → x < 2 ^ 30 → x * r.factor / 2 ^ r.bits ≡ x / d
