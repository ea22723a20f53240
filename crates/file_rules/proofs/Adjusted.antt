-- One turn of working out a table's adjustments, from what rules 11 to 14 show of it. Assumes nothing.
use Prim.Native.Nat.{ℕ, ◌+◌, ◌-◌, ◌≤◌, ◌<◌}
use mathlib.Core.Path.{◌≡◌, refl, sym, ◌∙◌, ap}
use mathlib.Core.List.{List, []}
use native.Mathlib.Decide.{ℕ_discrete}
use native.Mathlib.Nat.{zero-add}
use native.Mathlib.Omega.{arith}
use lib.ListN.{length, get_or, set, replicate}
use lib.Seq.{get_or-set_same, get_or-set_other}
use Rattle.model.specs.Basics.{from, before}
use Rattle.model.specs.Limits.{max_blocks}
use Rattle.model.specs.Table.{arrays, over}
use Rattle.model.specs.Place.{held}
use Rattle.model.specs.Refusal.{adjustment_of}
use Rattle.model.specs.declared.table.Header.{Header}
use Rattle.model.proofs.Holdings.{Sums, sums_none, sums_more, sums_adjustment, held_same}
use Rattle.model.proofs.Entries.{Put, put_none, put_next, put_over}
use Rattle.soundness.specs.Passed.{IntervalsRight, Held}
use Rattle.soundness.proofs.Turns.{turn}

-- before interval i: the array has the sums, and the first i adjustments are written over `old`
pub record Adjusted (h : Header) (tops ends blocks : List ℕ) (i start : ℕ) (sums old out : List ℕ) : Type 0 where
  pub held : Sums h (arrays tops ends blocks []) i start sums
  pub put : Put 0 i (from (adjustment_of h (arrays tops ends blocks [])) 0 i) old out

-- at an interval of block b and end d: the block has a cell, which is at most the start, and the start is before the end
pub record Turn (start b d : ℕ) (sums : List ℕ) : Type 0 where
  pub block : b < max_blocks
  pub later : start < d
  pub within : get_or sums b 0 ≤ start

module _ (h : Header) (tops ends blocks : List ℕ) where
  pub adjusted_none : (old : List ℕ) → Adjusted h tops ends blocks 0 0 (replicate max_blocks 0) old old
  unfolding from
  adjusted_none old = record { held = sums_none _ _; put = put_none 0 _ }

  module _
      (p : IntervalsRight h ends blocks) (i start : ℕ) (sums old out : List ℕ)
      (s : Adjusted h tops ends blocks i start sums old out)
    where
      module _ (b d : ℕ) (o : b ≡ get_or blocks i 0) (q : d ≡ get_or ends i 0) (l : i < h.interval_count) where
        pub adjusted_turn : Turn start b d sums
        adjusted_turn =
            let t = turn h tops ends blocks [] p i start sums s.held l in
            record { block = rw o t.block; later = rw q t.later; within = rw o t.within }

        -- one interval more
        pub adjusted_next
            : (a v : ℕ) (sums' : List ℕ) → sums' ≡ set sums b v → a + get_or sums b 0 ≡ start → v + a ≡ d
            → Adjusted h tops ends blocks (i + 1) d sums' old (set out i a)
        adjusted_next a v sums' e r w =
            let t = adjusted_turn in
            let all = arrays tops ends blocks [] in
            record {
              held = rw e (sums_more h all i start b d v sums p.rise l s.held (sym o) (sym q) t.block (omega arith));
              put =
                  put_next _ 0 _ s.put
                  (rw zero-add (omega (arith, sums_adjustment h all i start b sums s.held (sym o) t.block)));
            }

      -- all of them
      pub adjusted_all
          : i ≡ h.interval_count → i ≤ length old
          → Held h ends blocks sums × (out ≡ over (from (adjustment_of h (arrays tops ends blocks [])) 0 h.interval_count) old)
      adjusted_all all long = (
        record {
          cell = λ j l.
              s.held.cell j l
              ∙ ap (held _ j) (s.held.starts ∙ ap (before ends) all ∙ p.last)
              ∙ held_same h ends blocks tops [] [] [] j _;
        },
        put_over s.put long ∙ ap (λ k. over (from (adjustment_of h (arrays tops ends blocks [])) 0 k) old) all,
      )

-- the second of two intervals, of block b', by the sums before the first, of block b and adjustment a, which ends at d
pub second_adjustment
    : (sums : List ℕ) (b b' start d a o : ℕ) → b < length sums → (b ≡ b' → o ≡ start) → ((b ≡ b' → ⊥) → o ≡ d)
    → a + get_or sums b 0 ≡ start → start < d → get_or (set sums b (d - a)) b' 0 ≤ d
    → (get_or sums b' 0 ≤ o) × (o - get_or sums b' 0 + get_or (set sums b (d - a)) b' 0 ≡ d)
second_adjustment sums b b' start d a o l one two r m w =
    elim (ℕ_discrete b b') [
      | yes e ↦
          let first = one e in
          let cell = ap (λ k. get_or sums k 0) e in
          let stored = ap (λ k. get_or (set sums b (d - a)) k 0) (sym e) ∙ get_or-set_same sums b (d - a) 0 l in
          (omega (arith, first, cell), omega (arith, first, cell, stored))
      | no n ↦
          let own = two n in
          let kept = get_or-set_other sums b b' (d - a) 0 (λ z. n (sym z)) in
          (omega (arith, own, kept), omega (arith, own, kept))
    ]

-- two intervals met in one turn, of blocks b and b', which end at d and d': `o` is what the second is adjusted from by what its
-- block holds before the first
module _
    (h : Header) (tops ends blocks : List ℕ) (p : IntervalsRight h ends blocks) (i start : ℕ) (sums old out : List ℕ)
    (s : Adjusted h tops ends blocks i start sums old out) (b b' d d' o : ℕ)
    (block : b ≡ get_or blocks i 0) (block' : b' ≡ get_or blocks (i + 1) 0)
    (end : d ≡ get_or ends i 0) (end' : d' ≡ get_or ends (i + 1) 0)
    (l : i + 1 < h.interval_count) (one : b ≡ b' → o ≡ start) (two : (b ≡ b' → ⊥) → o ≡ d)
  where
    abbrev first : ℕ
    first = start - get_or sums b 0

    abbrev next : ℕ
    next = o - get_or sums b' 0

    abbrev then : List ℕ
    then = set sums b (d - first)

    begun : Turn start b d sums
    begun = adjusted_turn h tops ends blocks p i start sums old out s b d block end (omega arith)

    halfway : Adjusted h tops ends blocks (i + 1) d then old (set out i first)
    halfway =
        let t = begun in
        adjusted_next h tops ends blocks p i start sums old out s b d block end (omega arith) first (d - first) then refl
        (omega arith) (omega arith)

    second : Turn d b' d' then
    second =
        adjusted_turn h tops ends blocks p (i + 1) d then old (set out i first) halfway b' d' block' end' l

    adjustments : (get_or sums b' 0 ≤ o) × (next + get_or then b' 0 ≡ d)
    adjustments =
        let t = begun in
        second_adjustment sums b b' start d first o (omega (arith, s.held.cells)) one two (omega arith) t.later second.within

    -- nothing falls below 0
    pub pair_fits : (get_or sums b 0 ≤ start) × (first ≤ d) × (get_or sums b' 0 ≤ o) × (next ≤ d')
    pair_fits =
        let t = begun in
        let u = second in
        let a = adjustments in
        (t.within, omega arith, a.0, omega (arith, a.1))

    pub adjusted_pair
        : Adjusted h tops ends blocks (i + 1 + 1) d' (set then b' (d' - next)) old (set (set out i first) (i + 1) next)
    adjusted_pair =
        let u = second in
        let a = adjustments in
        adjusted_next h tops ends blocks p (i + 1) d then old (set out i first) halfway b' d' block' end' l next (d' - next)
        (set then b' (d' - next)) refl a.1 (omega (arith, a.1))
