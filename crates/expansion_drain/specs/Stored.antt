-- What the writers of a growth's table promise of the arrays lent to them. Assumes nothing.
use Rattle.std.specs.Prelude.{ℕ, ◌≤◌, ◌≡◌, List, map, length}
use Rattle.std.proofs.lemmas.List.Edits.{sets}
use Rattle.model.specs.Table.{Interval, interval, sizes}
use Rattle.model.specs.Lent.{lent}
use Rattle.model.specs.Expansion.{drained}
use Rattle.model.specs.declared.plan.Action.TheVariants.{Stay}
use Rattle.model.specs.declared.plan.Plan.{Plan}
use Rattle.model.specs.declared.table.Header.{Header}
use Rattle.expansion_count.specs.Given.{Drains}
use Rattle.expansion_drain.specs.declared.Interval.{Interval as Entry}

-- each of the three interval arrays has room for n entries
pub record Room (n : ℕ) (es bs cs : List ℕ) : Type 0 where
  pub ends : n ≤ length es
  pub blocks : n ≤ length bs
  pub adjustments : n ≤ length cs

-- the intervals are stored from place o on, and all other entries are kept
pub record Stored (o : ℕ) (is : List Interval) (es bs cs es' bs' cs' : List ℕ) : Type 0 where
  pub ends : es' ≡ sets es o (map (λ i. i.end) is)
  pub blocks : bs' ≡ sets bs o (map (λ i. i.block) is)
  pub adjustments : cs' ≡ sets cs o (map (λ i. i.adjustment) is)

-- the plan for an interval that stays, where w buckets have moved before it
abbrev pub staying : ℕ → Plan
staying w = record { action = Stay; moved = w }

-- an interval that is stored
abbrev pub interval_of : Entry → Interval
interval_of e = interval e.end e.block e.adjustment

-- a growth by which some old block is due less, whose intervals have room in the arrays es, bs and cs
pub record DrainsInto
    (es bs cs : List ℕ)
    (h : Header)
    (ends blocks adjustments : List ℕ)
    (buckets : ℕ)
    (dues tops : List ℕ)
    (bins : ℕ)
    : Type 0
  where
    pub drains : Drains h ends blocks adjustments buckets dues tops bins
    pub room : Room (length (drained (lent h tops ends blocks adjustments) (sizes buckets bins))) es bs cs
