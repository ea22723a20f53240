-- What the passes over a growth are given. Those over lent arrays take the arrays that they read, and no more; their contracts
-- speak of every table that has these. Assumes nothing.
use Rattle.std.specs.Prelude.{ℕ, ◌≤◌, ◌<◌, ◌≡◌, Bool, List, length, get_or}
use Rattle.model.specs.Limits.{max_blocks}
use Rattle.model.specs.Table.{Shape, Table, arrays, sizes}
use Rattle.model.specs.Refusal.{first}
use Rattle.model.specs.Sound.{Formed}
use Rattle.model.specs.Lent.{lent}
use Rattle.model.specs.Expansion.{grown_tops, some_fall, last_block}
use Rattle.model.specs.Calls.{growth_tests}
use Rattle.model.specs.declared.table.Header.{Header}
use Rattle.expansion_plan.specs.Shares.{DuesBefore, DuesAfter}

-- there are values of which P holds, which the function does not take
pub record Some {A B : Type 0} (P : A → B → Type 0) : Type 0 where
  pub one : A
  pub other : B
  pub holds : P one other

-- an accepted growth of table t to sizes s: what each block has, and is due after it, whether some old block is due less than it
-- has, and the number of blocks after it
pub record Grows (t : Table) (s : Shape) (olds dues : List ℕ) (falls : Bool) (count : ℕ) : Type 0 where
  pub asked : first (growth_tests t s) ≡ 0
  pub before : DuesBefore t olds
  pub after : DuesAfter t s dues
  pub falling : falls ≡ some_fall t s
  pub counted : count ≡ length (grown_tops t s)

-- an accepted growth of a formed table in lent arrays
pub record LentGrows
    (h : Header)
    (ends blocks adjustments : List ℕ)
    (buckets : ℕ)
    (olds dues : List ℕ)
    (falls : Bool)
    (count : ℕ)
    (tops : List ℕ)
    (bins : ℕ)
    : Type 0
  where
    pub formed : Formed h (arrays tops ends blocks adjustments)
    pub grows : Grows (lent h tops ends blocks adjustments) (sizes buckets bins) olds dues falls count

-- one with the dues after it, and no more
pub record Drains (h : Header) (ends blocks adjustments : List ℕ) (buckets : ℕ) (dues tops : List ℕ) (bins : ℕ) : Type 0 where
  pub formed : Formed h (arrays tops ends blocks adjustments)
  pub asked : first (growth_tests (lent h tops ends blocks adjustments) (sizes buckets bins)) ≡ 0
  pub after : DuesAfter (lent h tops ends blocks adjustments) (sizes buckets bins) dues

-- what the pieces are made from: the last interval's block, and what each block has and is due
pub record Shares (t : Table) (s : Shape) (last : ℕ) (olds dues : List ℕ) : Type 0 where
  pub own : last ≡ last_block t.intervals
  pub before : DuesBefore t olds
  pub after : DuesAfter t s dues

-- no block is due less than it has
abbrev pub NoneFalls : List ℕ → List ℕ → Type 0
NoneFalls olds dues = (j : ℕ) → j < max_blocks → get_or olds j 0 ≤ get_or dues j 0
