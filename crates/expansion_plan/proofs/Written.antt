-- The dues of blocks, written one by one into an array. Assumes nothing.
use Prim.Native.Nat.{ℕ, ◌+◌, ◌≤◌, ◌<◌}
use mathlib.Core.Path.{◌≡◌, refl, sym, ◌∙◌, ap}
use mathlib.Core.Logic.{⊎_elim}
use mathlib.Core.List.{List}
use native.Mathlib.Decide.{ℕ_discrete}
use native.Mathlib.Omega.{arith}
use lib.ListN.{length, get_or, take, set, replicate, length-set, length-replicate, get_or-replicate, get_or-eq_default}
use lib.Seq.{length-take-le, get_or-take, get_or-set_same, get_or-set_other}
use Rattle.model.specs.Limits.{max_blocks}
use Rattle.model.specs.Table.{Shape}
use Rattle.model.specs.Due.{due_of_block}
use Rattle.model.proofs.Counts.{below_or}
use Rattle.model.proofs.Wells.{due_same}
use Rattle.model.proofs.Shares.{due_past}
use Rattle.expansion_plan.specs.Shares.{Dues}

-- every entry of an array of zeros is 0, past its end too
zero : (j : ℕ) → get_or {A = ℕ} (replicate max_blocks 0) j 0 ≡ 0
zero j =
    ⊎_elim
    (λ b. get_or-replicate max_blocks j 0 0 b)
    (λ b. get_or-eq_default (replicate max_blocks 0) 0 {n = j} (omega (arith, length-replicate {A = ℕ} max_blocks 0)))
    (below_or j max_blocks)

module _ (s : Shape) (tops given : List ℕ) where
  pub dues_none : Dues s tops 0 given given
  dues_none = record { cells = refl; done = λ j l. absurd (omega arith); kept = λ j l. refl }

  -- one block more
  pub dues_more
      : (j v : ℕ) (dues : List ℕ) → Dues s tops j given dues → j < length given → v ≡ due_of_block s tops j
      → Dues s tops (j + 1) given (set dues j v)
  dues_more j v dues d l e =
      record {
        cells = length-set dues j v ∙ d.cells;
        done =
            λ k b.
            elim (ℕ_discrete k j) [
              | yes y ↦ rw y (get_or-set_same dues j v 0 (omega (arith, d.cells)) ∙ e)
              | no n ↦ get_or-set_other dues j k v 0 n ∙ d.done k (omega arith)
            ];
        kept = λ k b. get_or-set_other dues j k v 0 (λ y. omega arith) ∙ d.kept k (omega arith);
      }

  module _ (n : ℕ) (dues : List ℕ) (d : Dues s tops n given dues) (l : n ≤ length tops) where
    -- they are those of the first n tops alone
    pub dues_first : (j : ℕ) → j < n → get_or dues j 0 ≡ due_of_block s (take n tops) j
    dues_first j b = d.done j b ∙ due_same s tops (take n tops) n (λ i k. sym (get_or-take n tops i 0 k)) j b

    -- over zeros, past the last block too
    pub dues_whole : given ≡ replicate max_blocks 0 → (j : ℕ) → get_or dues j 0 ≡ due_of_block s (take n tops) j
    dues_whole e j =
        ⊎_elim
        (dues_first j)
        (λ b.
        d.kept j b
        ∙ ap (λ zeros. get_or zeros j 0) e
        ∙ zero j
        ∙ sym (due_past s (take n tops) j (omega (arith, length-take-le n tops l))))
        (below_or j n)
