-- Laws of the walk over the old intervals: each adds the written buckets of what it moves. Assumes nothing.
use Prim.Native.Nat.{ℕ, ◌+◌, ◌-◌, min, max, ◌≤◌, ◌<◌}
use mathlib.Core.Path.{◌≡◌, refl, sym, ◌∙◌, ap}
use mathlib.Core.Logic.{⊎_elim}
use mathlib.Core.Bool.{Bool, false}
use mathlib.Core.List.{List}
use native.Mathlib.Numerals.{add-one}
use native.Mathlib.Omega.{arith}
use lib.ListN.{get_or}
use Rattle.model.specs.Basics.{◌and◌, bit, count, before}
use Rattle.model.specs.Table.{Shape, Interval, Arrays, table}
use Rattle.model.specs.Refusal.{first}
use Rattle.model.specs.Sound.{Formed}
use Rattle.model.specs.Expansion.{due_after, some_fall, plan, expanded, differs}
use Rattle.model.specs.Relocations.{rows}
use Rattle.model.specs.Calls.{growth_tests}
use Rattle.model.specs.declared.table.Header.{Header}
use Rattle.model.specs.declared.plan.Plan.{Plan}
use Rattle.model.proofs.Counts.{bit_and, below_or, sum_ext, count_zero, count_most, count_and}
use Rattle.model.proofs.Tables.{lent_interval}
use Rattle.model.proofs.Wells.{adjustment_most}
use Rattle.model.proofs.Drained.{plan_stay, plan_move, plan_split}
use Rattle.model.proofs.Rows.{Cut, end_within, rows_order, rows_filled, part_count}
use Rattle.written.specs.Written.{written}
use Rattle.written_relocations.specs.Count.{written_moved}
use Rattle.written_relocations.specs.Walk.{Drains}

-- whether an old bucket both moves and is written
abbrev pub counts : Header → Arrays → Shape → List ℕ → ℕ → Bool
counts h a s bits x = differs (table h a) (expanded (table h a) s) x and written bits x

-- the definition counts these
Counts_all
    : (h : Header) (a : Arrays) (s : Shape) (bits : List ℕ)
    → count (counts h a s bits) h.buckets ≡ written_moved (table h a) (expanded (table h a) s) bits
unfolding written_moved count table
Counts_all h a s bits =
    sum_ext (λ x. bit (counts h a s bits x)) _ h.buckets
    (λ x l. omega (arith, bit_and (differs (table h a) (expanded (table h a) s) x) (written bits x)))

-- where no old block is due less none moves
pub none_moved
    : (h : Header) (a : Arrays) (s : Shape) (bits : List ℕ) → Formed h a → first (growth_tests (table h a) s) ≡ 0
    → some_fall (table h a) s ≡ false → 0 ≡ written_moved (table h a) (expanded (table h a) s) bits
unfolding rows table
none_moved h a s bits formed asked e =
    omega (
      arith,
      Counts_all h a s bits,
      rows_filled h a s formed asked e,
      rows_order (table h a) (expanded (table h a) s) h.buckets,
      count_and (differs (table h a) (expanded (table h a) s)) (written bits) h.buckets,
    )

-- what the plan for an interval moves, where none moved before it: the buckets whose rank is not below the due
plan_moves
    : (due start : ℕ) (i : Interval) → start < i.end → i.adjustment ≤ start
    → (plan due start i 0).moved ≡ i.end - min i.end (max start (due + i.adjustment))
plan_moves due start i some low =
    ⊎_elim
    (λ l.
    ⊎_elim
    (λ k. ap (λ (p : Plan). p.moved) (plan_split due start i 0 l k) ∙ omega arith)
    (λ k. ap (λ (p : Plan). p.moved) (plan_move due start i 0 l k) ∙ omega arith)
    (below_or (start - i.adjustment) due))
    (λ l. ap (λ (p : Plan). p.moved) (plan_stay due start i 0 l) ∙ omega arith)
    (below_or due (i.end - i.adjustment))

-- where the walk has come to interval i, which starts at `start`: n of the buckets before it are counted
pub record Counting (h : Header) (a : Arrays) (s : Shape) (bits : List ℕ) (i start n : ℕ) : Type 0 where
  pub within : i ≤ h.interval_count
  pub starts : start ≡ before a.ends i
  pub counted : n ≡ count (counts h a s bits) start

-- interval i, of which the last m buckets move: of these the written ones are counted
pub record Part (h : Header) (a : Arrays) (s : Shape) (bits : List ℕ) (i start m : ℕ) : Type 0 where
  pub within : start + m ≤ get_or a.ends i 0
  pub inside : get_or a.ends i 0 ≤ h.buckets
  pub few : count (counts h a s bits) (get_or a.ends i 0) ≤ h.buckets
  pub adds
      : count (counts h a s bits) start + count (written bits) (get_or a.ends i 0)
      ≡ count (counts h a s bits) (get_or a.ends i 0) + count (written bits) (get_or a.ends i 0 - m)

module _ (h : Header) (a : Arrays) (s : Shape) (dues bits : List ℕ) (d : Drains h a s dues bits) where
  pub counting_starts : Counting h a s bits 0 0 0
  unfolding before
  counting_starts =
      record { within = omega arith; starts = refl; counted = sym (count_zero (counts h a s bits)) }

  module _ (i start n : ℕ) (v : Counting h a s bits i start n) where
    -- after the last interval
    pub counting_ends : h.interval_count ≤ i → n ≡ written_moved (table h a) (expanded (table h a) s) bits
    counting_ends l =
        let same : i ≡ h.interval_count = omega (arith, v.within) in
        let last : start ≡ h.buckets = omega (arith, v.starts, ap (before a.ends) same, d.formed.last_end) in
        omega (arith, v.counted, ap (count (counts h a s bits)) last, Counts_all h a s bits)

    module _ (l : i < h.interval_count) where
      abbrev end : ℕ
      end = get_or a.ends i 0

      -- from where on interval i moves
      abbrev p : ℕ
      p = min end (max start (get_or dues (get_or a.blocks i 0) 0 + get_or a.adjustments i 0))

      bounds : (get_or a.adjustments i 0 ≤ start) × (start < end)
      bounds = (
        omega (arith, v.starts, adjustment_most h a d.formed i l),
        omega (arith, v.starts, d.formed.ends_rise i l),
      )

      here : Cut (due_after (table h a) s (get_or a.blocks i 0)) (before a.ends i) (lent_interval a i) p
      here =
          let due =
          d.after (get_or a.blocks i 0) (omega (arith, d.formed.blocks_below i l, d.formed.block_limit)) in
          let starts = v.starts in
          let (low, rise) = bounds in
          record {
            after = omega arith;
            within = omega arith;
            kept = λ x b e. omega arith;
            gone = λ x b e. omega arith;
          }

      -- what the plan moves of it
      pub counting_part
          : (m : Plan) → m ≡ plan (get_or dues (get_or a.blocks i 0) 0) start (lent_interval a i) 0
          → Part h a s bits i start m.moved
      counting_part m e =
          let moves : m.moved ≡ end - p =
          ap (λ (r : Plan). r.moved) e ∙ plan_moves _ start (lent_interval a i) bounds.1 bounds.0 in
          let first : end - m.moved ≡ p = omega arith in
          let inside = end_within h a d.formed i l in
          record {
            within = omega (arith, bounds);
            inside = inside;
            few = omega (arith, count_most (counts h a s bits) end, inside);
            adds =
                omega (
                  arith,
                  part_count h a s d.formed d.asked d.falls i p l here (written bits),
                  ap (count (counts h a s bits)) v.starts,
                  ap (count (written bits)) first,
                );
          }

      -- the next interval
      pub counting_next : (r : ℕ) → r ≡ count (counts h a s bits) end → Counting h a s bits (i + 1) end r
      unfolding before
      counting_next r e = record { within = omega arith; starts = rw (add-one i) refl; counted = e }
