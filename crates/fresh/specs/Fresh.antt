-- What refuses a fresh map that has room. Assumes nothing.
use Rattle.std.specs.Prelude.{ℕ, ◌∷◌}
use Rattle.model.specs.Table.{Shape}
use Rattle.model.specs.Refusal.{first, capacity_outside}
use Rattle.model.specs.Calls.{fresh_tests}

-- the refusal number of sizes s and the capacity p
abbrev pub fresh_refusal : Shape → ℕ → ℕ
fresh_refusal s p = first ((30, capacity_outside p) ∷ fresh_tests s p)
