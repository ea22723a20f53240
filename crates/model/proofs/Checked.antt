-- Laws of a table's check: what it passes is sound, and its refusal comes before those of the tests after it. Assumes nothing.
use Prim.Native.Nat.{ℕ}
use mathlib.Core.Path.{◌≡◌, sym, ◌∙◌}
use mathlib.Core.Bool.{true}
use mathlib.Core.List.{List, ◌++◌}
use Rattle.model.specs.Table.{Arrays}
use Rattle.model.specs.Refusal.{Test, first, header_outside, arrays_short}
use Rattle.model.specs.Sound.{Formed}
use Rattle.model.specs.Calls.{table_tests}
use Rattle.model.specs.declared.table.Header.{Header}
use Rattle.model.proofs.Refusals.{first_here, first_found, first_after}
use Rattle.model.proofs.Loads.{or_second}
use Rattle.model.proofs.Soundness.{sound_iff_lem, table_numbered}

-- a lent array that is too short is refused by the first test
pub short_refused : (h : Header) (a : Arrays) → arrays_short h a ≡ true → 11 ≡ first (table_tests h a)
unfolding table_tests
short_refused h a e = sym (first_here _ _ (or_second (header_outside h) (arrays_short h a) e))

module _ (h : Header) (a : Arrays) (r : ℕ) (e : r ≡ first (table_tests h a)) where
  -- a table that the check passes is sound, so it passes rules 11 to 16
  pub checked : r ≡ 0 → Formed h a
  checked z = ((sound_iff_lem h a).0 (sym e ∙ z)).formed

  -- a refusal by the table's tests stands
  pub stands : (us : List Test) → (r ≡ 0 → ⊥) → r ≡ first (table_tests h a ++ us)
  stands us n = e ∙ sym (first_found (table_tests h a) us (λ z. n (e ∙ z)))

  -- otherwise the tests after them answer
  pub passed : (us : List Test) → r ≡ 0 → first us ≡ first (table_tests h a ++ us)
  passed us z = sym (first_after (table_tests h a) us (table_numbered h a) (sym e ∙ z))
