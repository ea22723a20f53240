-- What the formed table and the array of dues show of one turn of a loop. Assumes nothing.
use Prim.Native.Nat.{ℕ, ◌+◌, ◌≤◌, ◌<◌}
use mathlib.Core.Path.{◌≡◌, ◌∙◌, ap}
use mathlib.Core.List.{List}
use native.Mathlib.Nat.{le_of_lt}
use native.Mathlib.Omega.{arith}
use lib.ListN.{get_or}
use Rattle.model.specs.Basics.{before}
use Rattle.model.specs.Table.{Shape, Arrays, table}
use Rattle.model.specs.Due.{due_of_block}
use Rattle.model.specs.Sound.{Formed}
use Rattle.model.specs.Expansion.{plan, plan_for}
use Rattle.model.specs.Balance.{due_below}
use Rattle.model.specs.declared.plan.Plan.{Plan}
use Rattle.model.specs.declared.table.Header.{Header}
use Rattle.model.proofs.Dues.{Block_closed}
use Rattle.model.proofs.Intervals.{before_mono}
use Rattle.model.proofs.Rules.{before_next}
use Rattle.model.proofs.Shares.{due_within}
use Rattle.expansion_plan.specs.Shares.{TopsWithin, DuesAfter, interval_at}

-- at block j: what the bins up to and including it are due is at most B, and is its due more than what those before it are
pub record DueTurn (s : Shape) (tops : List ℕ) (j : ℕ) : Type 0 where
  pub fits : due_below s (get_or tops j 0) ≤ s.buckets
  pub closed : due_of_block s tops j + due_below s (before tops j) ≡ due_below s (get_or tops j 0)

pub due_turn
    : (s : Shape) (tops : List ℕ) (count : ℕ) → TopsWithin tops count s.bins → (j : ℕ) → j < count → DueTurn s tops j
due_turn s tops count p j l =
    record {
      fits =
          due_within s (get_or tops j 0)
          (omega (
            arith,
            before_mono tops count p.rise count (j + 1) (omega arith) (omega arith),
            before_next tops j,
            p.within,
          ));
      closed = Block_closed s tops j (le_of_lt (p.rise j l));
    }

module _ (h : Header) (a : Arrays) (formed : Formed h a) where
  -- the tops of a formed table, in a map of at least as many bins
  pub formed_tops : (n : ℕ) → before a.tops h.block_count ≤ n → TopsWithin a.tops h.block_count n
  formed_tops n l =
      record {
        few = formed.block_limit;
        long = formed.tops_long;
        rise = formed.tops_rise;
        within = l;
        some =
            omega (
              arith,
              formed.tops_rise 0 formed.some_blocks,
              before_next a.tops 0,
              before_mono a.tops h.block_count formed.tops_rise h.block_count 1 formed.some_blocks (omega arith),
            );
      }

  -- the plan for interval i, from the array of dues
  pub planned
      : (s : Shape) (dues : List ℕ) → DuesAfter (table h a) s dues → (i start w : ℕ) → i < h.interval_count → (p : Plan)
      → p ≡ plan (get_or dues (get_or a.blocks i 0) 0) start (interval_at a i) w → p ≡ plan_for (table h a) s start (interval_at a i) w
  unfolding plan_for
  planned s dues after i start w l p e =
      e
      ∙ ap (λ due. plan due start (interval_at a i) w)
      (after (get_or a.blocks i 0) (omega (arith, formed.blocks_below i l, formed.block_limit)))
