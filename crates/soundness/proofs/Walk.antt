-- The walk of rule 16 that keeps, for each block, the end less the adjustment of its latest interval, modulo 2^32: while
-- every adjustment so far is right that is what the block holds, and from the first wrong one on the gathered differences
-- are not 0. Assumes nothing.
use Rattle.std.proofs.Common.{◌≡◌, ℕ, ◌+◌, ◌-◌, ◌%◌, ◌<◌, Bool, false, not, eqb, List, [], get_or, set, replicate, sym, refl, ap, ◌∙◌, subst, add-one, arith, length-set, eq-eqb, ne_eqb}
use mathlib.Core.Bool.{false≢true}
use native.Mathlib.Nat.{div-add-mod}
use native.Mathlib.Decide.{ℕ_discrete}
use lib.Bits.{bit_or, bit_xor, and_le_l, and_le_r, or_add_and, xor_add_and, xor_self}
use Rattle.model.specs.Basics.{◌and◌, all, before}
use Rattle.model.specs.Limits.{max_blocks}
use Rattle.model.specs.Table.{Arrays, arrays}
use Rattle.model.specs.Place.{held}
use Rattle.model.specs.Refusal.{adjustment_of, adjustments_wrong}
use Rattle.model.specs.declared.table.Header.{Header}
use Rattle.model.proofs.Rules.{all_fails, before_next}
use Rattle.model.proofs.Holdings.{Sums, sums_none, sums_more, sums_adjustment, held_same}
use Rattle.soundness.specs.Passed.{IntervalsRight, Held, adjusted, Walked, Walks}
use Rattle.model.proofs.Flags.{all_pass}

-- MODULO 2^32

abbrev pub word : ℕ
word = 4294967296

unwrap : (x b o : ℕ) → b < word → (b + x) % word ≡ o + x → b ≡ o
unwrap x b o l e = omega (arith, div-add-mod (b + x) word)

unwrap_right : (x b o : ℕ) → b < word → (x + b) % word ≡ x + o → b ≡ o
unwrap_right x b o l e = omega (arith, div-add-mod (x + b) word)

-- GATHERED DIFFERENCES

-- none so far and none now
none_now : (bad a b : ℕ) → bad ≡ 0 → a ≡ b → bit_or bad (bit_xor a b) ≡ 0
none_now bad a b z e =
    omega (arith, or_add_and bad (bit_xor a b), ap (bit_xor a) (sym e) ∙ xor_self a)

-- one before stays, and one now counts
one_before : (bad x : ℕ) → (bad ≡ 0 → ⊥) → 0 < bit_or bad x
one_before bad x n = omega (arith, n, or_add_and bad x, and_le_r bad x)

one_now : (bad a b : ℕ) → (a ≡ b → ⊥) → 0 < bit_or bad (bit_xor a b)
one_now bad a b n =
    elim (ℕ_discrete (bit_xor a b) 0) [
      | yes y ↦ absurd (n (omega (arith, xor_add_and a b, and_le_l a b, and_le_r a b)))
      | no m ↦ omega (arith, or_add_and bad (bit_xor a b), and_le_l bad (bit_xor a b))
    ]

none_at_all : (bad : ℕ) → not (eqb bad 0) ≡ false → bad ≡ 0
none_at_all bad f =
    elim (ℕ_discrete bad 0) [
      | yes z ↦ z
      | no n ↦ absurd (false≢true (sym f ∙ ap not (ne_eqb bad 0 n)))
    ]

all_failed : (p : ℕ → Bool) (i : ℕ) → all p i ≡ false → all p (i + 1) ≡ false
unfolding all ◌and◌
all_failed p i h = rw (add-one i, h)

-- THE WALK

-- no interval walked
pub walked_none : (h : Header) (a : Arrays) → Walked h a 0 0 (replicate max_blocks 0) 0
unfolding all
walked_none h a =
    let none = sums_none h a in
    record { starts = none.starts; cells = none.cells; right = refl; cell = λ z. none.cell }

-- the same number of them, said otherwise
pub walked_at
    : {h : Header} {a : Arrays} {i j start : ℕ} {sums : List ℕ} {bad : ℕ} → Walked h a i start sums bad → i ≡ j
    → Walked h a j start sums bad
walked_at {h} {a} {start = start} {sums = sums} {bad = bad} w e = subst (λ n. Walked h a n start sums bad) e w

-- all walked
module _
    {h : Header} {ends blocks adjustments : List ℕ} {i start : ℕ} {sums : List ℕ} {bad : ℕ} (p : IntervalsRight h ends blocks)
    (w : Walked h (arrays [] ends blocks adjustments) i start sums bad) (e : i ≡ h.interval_count)
  where
    held_all : not (eqb bad 0) ≡ false → Held h ends blocks sums
    held_all f =
        record {
          cell = λ j l.
              w.cell (none_at_all bad f) j l
              ∙ ap (held _ j) (w.starts ∙ ap (before ends) e ∙ p.last)
              ∙ held_same _ _ _ _ _ _ _ j _;
        }

    pub walked_all : Walks h ends blocks adjustments (not (eqb bad 0)) sums
    unfolding adjustments_wrong adjusted
    walked_all = record { answer = ap not (rw e at w.right); holds = held_all }

-- one interval more
module _
    {h : Header} {ends blocks adjustments : List ℕ} {i start : ℕ} {sums : List ℕ} {bad : ℕ} (p : IntervalsRight h ends blocks)
    (l : i < h.interval_count) (w : Walked h (arrays [] ends blocks adjustments) i start sums bad) {r v : ℕ}
    (small : get_or adjustments i 0 < word) (rs : r < word) (vs : v < word)
    (re : (r + get_or adjustments i 0) % word ≡ start)
    (ve : (v + get_or adjustments i 0) % word ≡ get_or ends i 0)
  where
    abbrev a : Arrays
    a = arrays [] ends blocks adjustments

    abbrev cell : ℕ
    cell = get_or sums (get_or blocks i 0) 0

    abbrev Next : ℕ → Type 0
    Next n = Walked h a (i + 1) (get_or ends i 0) (set sums (get_or blocks i 0) v) n

    so_far : bad ≡ 0 → Sums h a i start sums
    so_far z = record { starts = w.starts; cells = w.cells; cell = w.cell z }

    had : bad ≡ 0 → cell + adjustment_of h a i ≡ start
    had z = sums_adjustment h a i start (get_or blocks i 0) sums (so_far z) refl (p.blocks_below i l)

    next_right : bad ≡ 0 → get_or adjustments i 0 ≡ adjustment_of h a i → Next (bit_or bad (bit_xor cell r))
    unfolding adjusted
    next_right z y =
        let held = had z in
        let later : start < get_or ends i 0 = omega (arith, p.rise i l, w.starts) in
        let same : r ≡ cell = unwrap (get_or adjustments i 0) r cell rs (re ∙ omega arith) in
        let then : v ≡ get_or ends i 0 - get_or adjustments i 0 =
        unwrap (get_or adjustments i 0) v (get_or ends i 0 - get_or adjustments i 0) vs (ve ∙ omega arith)
        in
        let more = sums_more h a i start (get_or blocks i 0) (get_or ends i 0) v sums p.rise l (so_far z) refl refl
        (p.blocks_below i l) (omega arith)
        in
        record {
          starts = more.starts;
          cells = more.cells;
          right =
              eq-eqb _ 0 (none_now bad cell r z (sym same))
              ∙ sym (all_pass (adjusted h a) i (eq-eqb _ _ y) ∙ sym w.right ∙ eq-eqb bad 0 z);
          cell = λ e. more.cell;
        }

    -- an adjustment is wrong: one before, or this one
    next_wrong : (n : ℕ) → 0 < n → all (adjusted h a) (i + 1) ≡ false → Next n
    next_wrong n some failed =
        record {
          starts = sym (before_next ends i);
          cells = length-set sums (get_or blocks i 0) v ∙ w.cells;
          right = ne_eqb n 0 (λ e. omega arith) ∙ sym failed;
          cell = λ e. absurd (omega arith);
        }

    now_wrong : bad ≡ 0 → (get_or adjustments i 0 ≡ adjustment_of h a i → ⊥) → Next (bit_or bad (bit_xor cell r))
    unfolding adjusted
    now_wrong z n =
        let held = had z in
        next_wrong _ (one_now bad cell r (λ e. n (unwrap_right r _ _ small (re ∙ omega arith))))
        (all_fails (adjusted h a) (i + 1) i (omega arith) (ne_eqb _ _ n))

    pub walked_more : Next (bit_or bad (bit_xor cell r))
    walked_more =
        elim (ℕ_discrete bad 0) [
          | yes z ↦
              elim (ℕ_discrete (get_or adjustments i 0) (adjustment_of h a i)) [
                | yes y ↦ next_right z y
                | no n ↦ now_wrong z n
              ]
          | no b ↦
              next_wrong _ (one_before bad (bit_xor cell r) b)
              (all_failed (adjusted h a) i (sym w.right ∙ ne_eqb bad 0 b))
        ]
