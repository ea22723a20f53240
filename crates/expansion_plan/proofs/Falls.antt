-- Whether a growth drains some old block, from its sizes alone. Assumes nothing.
use Prim.Native.Nat.{ℕ, ◌+◌, ◌*◌, ◌/◌, ◌%◌, min, ◌≤◌, ◌<◌}
use mathlib.Core.Path.{◌≡◌, sym, ◌∙◌, ap}
use mathlib.Core.Bool.{true, false≢true}
use mathlib.Core.Logic.{⊎_elim}
use native.Mathlib.Omega.{arith}
use lib.Dec.{ltb}
use lib.ListN.{length}
use borrow.Author.Tests.{lt-ltb, le-ltb}
use Rattle.model.specs.Table.{Shape, Table, Arrays, shape, bins, table}
use Rattle.model.specs.Balance.{due_below, most}
use Rattle.model.specs.Expansion.{has, due_after, some_fall}
use Rattle.model.specs.Refusal.{first}
use Rattle.model.specs.Sound.{Formed}
use Rattle.model.specs.Calls.{growth_tests}
use Rattle.model.specs.declared.table.Header.{Header}
use Rattle.model.proofs.Counts.{bit_cases, below_or, sum_le}
use Rattle.model.proofs.Wells.{Well, formed_well}
use Rattle.model.proofs.Growths.{Accepted, accepted, sum_tight, old_most, old_dues, none_falls, some_falls}
use Rattle.model.proofs.Shares.{fall_none}

module _ (t : Table) (s : Shape) (w : Well t) (a : Accepted t s) where
  -- where some old block is due less no other is due more, so the old bins are due less than they have
  less : some_fall t s ≡ true → most (shape t) s < t.buckets
  less f =
      ⊎_elim
      (λ l. l)
      (λ l.
      absurd
      (false≢true
      (sym
      (fall_none t s
      (sum_tight (due_after t s) (has t) (length t.tops) (some_falls t s w a f) (omega (arith, old_most t s w a, old_dues t s w a))))
      ∙ f)))
      (below_or (most (shape t) s) t.buckets)

  -- so T tells whether one is
  pub falls_below : some_fall t s ≡ ltb (most (shape t) s) t.buckets
  falls_below =
      ⊎_elim
      (λ f. f.0 ∙ sym (lt-ltb _ _ (less f.0)))
      (λ f.
      let up = none_falls t s w a f.0 in
      let sums = sum_le (has t) (due_after t s) (length t.tops) (λ j l. up j) in
      let enough : t.buckets ≤ most (shape t) s = omega (arith, old_most t s w a, old_dues t s w a) in
      f.0 ∙ sym (le-ltb (most (shape t) s) t.buckets enough))
      (bit_cases (some_fall t s))

-- of a lent table with n bins, which are due m after the growth
pub falls_lent
    : (h : Header) (a : Arrays) (s : Shape) → Formed h a → first (growth_tests (table h a) s) ≡ 0
    → (n m : ℕ) → n ≡ bins (table h a) → m ≡ n * (s.buckets / s.bins) + min n (s.buckets % s.bins)
    → ltb m h.buckets ≡ some_fall (table h a) s
unfolding most due_below shape table
falls_lent h a s formed asked n m e q =
    ap (λ k. ltb k h.buckets) (q ∙ ap (due_below s) e)
    ∙ sym (falls_below (table h a) s (formed_well h a formed) (accepted (table h a) s asked))
