-- The tops that a growth reads, and arrays with a number for each block, as the contracts cite them. Assumes nothing.
use Rattle.std.specs.Prelude.{ℕ, ◌≤◌, ◌<◌, ◌≡◌, List, length, get_or}
use Rattle.model.specs.Basics.{before}
use Rattle.model.specs.Limits.{max_blocks}
use Rattle.model.specs.Table.{Shape, Interval, interval, Table, Arrays}
use Rattle.model.specs.Lent.{TopsFormed, lent}
use Rattle.model.specs.Due.{due_of_block}
use Rattle.model.specs.Refusal.{first}
use Rattle.model.specs.Expansion.{has, due_after}
use Rattle.model.specs.Calls.{growth_tests}
use Rattle.model.specs.declared.table.Header.{Header}

-- tops of a formed table whose growth to sizes s is accepted
pub record TopsAsked (h : Header) (tops : List ℕ) (s : Shape) : Type 0 where
  pub whole : TopsFormed h tops
  pub asked : first (growth_tests (lent h tops whole.ends whole.blocks whole.adjustments) s) ≡ 0

-- `count` rising tops of a map with at least that many bins
pub record TopsWithin (tops : List ℕ) (count bins : ℕ) : Type 0 where
  pub few : count ≤ max_blocks
  pub long : count ≤ length tops
  pub rise : (j : ℕ) → j < count → before tops j < get_or tops j 0
  pub within : before tops count ≤ bins
  pub some : 1 ≤ bins

-- the first `count` entries of `dues` are what the blocks with these tops are due, and the others are those given
pub record Dues (s : Shape) (tops : List ℕ) (count : ℕ) (given dues : List ℕ) : Type 0 where
  pub cells : length dues ≡ length given
  pub done : (j : ℕ) → j < count → get_or dues j 0 ≡ due_of_block s tops j
  pub kept : (j : ℕ) → count ≤ j → get_or dues j 0 ≡ get_or given j 0

-- what each block is due after a growth; 0 past the last block
abbrev pub DuesAfter : Table → Shape → List ℕ → Type 0
DuesAfter t s dues = (j : ℕ) → j < max_blocks → get_or dues j 0 ≡ due_after t s j

-- what each block has before it
abbrev pub DuesBefore : Table → List ℕ → Type 0
DuesBefore t dues = (j : ℕ) → j < max_blocks → get_or dues j 0 ≡ has t j

-- interval i of lent arrays
abbrev pub interval_at : Arrays → ℕ → Interval
interval_at a i = interval (get_or a.ends i 0) (get_or a.blocks i 0) (get_or a.adjustments i 0)
