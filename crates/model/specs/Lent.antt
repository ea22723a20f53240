-- What the contracts say of lent memory: the lists that a call is lent, or leaves. Assumes nothing.
use Rattle.std.specs.Prelude.{ℕ, List}
use Rattle.model.specs.Table.{Table, arrays, table}
use Rattle.model.specs.Sound.{Formed}
use Rattle.model.specs.declared.table.Header.{Header}

-- the table of a header and four lists
abbrev pub lent : Header → List ℕ → List ℕ → List ℕ → List ℕ → Table
lent h tops ends blocks adjustments = table h (arrays tops ends blocks adjustments)

-- it is formed: it passes rules 11 to 16
abbrev pub LentFormed : Header → List ℕ → List ℕ → List ℕ → List ℕ → Type 0
LentFormed h tops ends blocks adjustments = Formed h (arrays tops ends blocks adjustments)

-- tops of a formed table, for a function that reads no other array of it
pub record TopsFormed (h : Header) (tops : List ℕ) : Type 0 where
  pub ends : List ℕ
  pub blocks : List ℕ
  pub adjustments : List ℕ
  pub formed : Formed h (arrays tops ends blocks adjustments)

-- tops, ends and blocks of a formed table, for a function that reads no adjustments of it
pub record SpansFormed (h : Header) (tops ends blocks : List ℕ) : Type 0 where
  pub adjustments : List ℕ
  pub formed : Formed h (arrays tops ends blocks adjustments)
