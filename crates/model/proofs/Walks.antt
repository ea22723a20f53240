-- The growth's new intervals, one old interval at a time; and the bounds of that walk. Assumes nothing.
use Prim.Native.Nat.{ℕ, zero, suc, ◌+◌, ◌-◌, ◌≤◌, ◌<◌}
use mathlib.Core.Path.{◌≡◌, refl, sym, ◌∙◌, ap}
use mathlib.Core.Logic.{⊎_elim}
use mathlib.Core.List.{List, [], ◌∷◌, ◌++◌}
use native.Mathlib.Nat.{add-zero}
use native.Mathlib.Omega.{arith}
use borrow.Author.Tests.{eq-eqb, ne_eqb}
use lib.ListN.{length}
use Rattle.model.specs.Basics.{if◌then◌otherwise◌, from}
use Rattle.model.specs.Table.{Shape, Interval, interval, Table}
use Rattle.model.specs.Expansion.{last_block, lengthened, plan, parts, plan_for, parted, moved_after, extended}
use Rattle.model.specs.declared.plan.Action.{Action}
use Rattle.model.specs.declared.plan.Action.TheVariants.{Stay, Move, Split}
use Rattle.model.proofs.Counts.{below_or}
use Rattle.model.proofs.Listed.{Tells, equal_or, tells_le}
use Rattle.model.proofs.Drained.{plan_stay, plan_move, plan_split}

-- THE WALK

-- with no new buckets nothing is longer
lengthened_none : (is : List Interval) → lengthened 0 is ≡ is
unfolding lengthened
lengthened_none [] = refl
lengthened_none (i ∷ []) = ap (λ e. interval e i.block i.adjustment ∷ []) (add-zero i.end)
lengthened_none (i ∷ (j ∷ is)) = ap (λ l. i ∷ l) (lengthened_none (j ∷ is))

pub extended_none : (g b w : ℕ) (is : List Interval) → extended g b 0 w is ≡ is
unfolding extended if◌then◌otherwise◌
extended_none g b w is =
    ⊎_elim
    (λ l. rw (eq-eqb (last_block is) g l) (lengthened_none is))
    (λ l. rw (ne_eqb (last_block is) g l) refl)
    (equal_or (last_block is) g)

-- behind a first interval that is not the last one, the new buckets go behind the others
extended_cons
    : (g b m w : ℕ) (i j : Interval) (is : List Interval)
    → extended g b m w (i ∷ (j ∷ is)) ≡ i ∷ extended g b m w (j ∷ is)
unfolding extended if◌then◌otherwise◌ last_block lengthened
extended_cons g b m w i j is =
    ⊎_elim
    (λ l. rw (eq-eqb (last_block (j ∷ is)) g l) refl)
    (λ l.
    ⊎_elim
    (λ z. rw (ne_eqb (last_block (j ∷ is)) g l, eq-eqb m 0 z) refl)
    (λ z. rw (ne_eqb (last_block (j ∷ is)) g l, ne_eqb m 0 z) refl)
    (equal_or m 0))
    (equal_or (last_block (j ∷ is)) g)

-- the parts of an interval are not none
parts_cons
    : (a : Action) (i : Interval) (g : ℕ) (rest : List Interval)
    → (j : Interval) × (js : List Interval) × (parts a i g rest ≡ j ∷ js)
unfolding parts
parts_cons Stay i g rest = (i, rest, refl)
parts_cons (Move c) i g rest = (interval i.end g c, rest, refl)
parts_cons (Split b c) i g rest = (interval b i.block i.adjustment, interval i.end g c ∷ rest, refl)

-- behind the parts of an interval that others follow, the new buckets go behind the others
extended_parts
    : (a : Action) (i : Interval) (g b m w : ℕ) (rest : List Interval) (j : Interval) (js : List Interval) → rest ≡ j ∷ js
    → extended g b m w (parts a i g rest) ≡ parts a i g [] ++ extended g b m w rest
unfolding parts
extended_parts Stay i g b m w rest j js q = rw q (extended_cons g b m w i j js)
extended_parts (Move c) i g b m w rest j js q = rw q (extended_cons g b m w (interval i.end g c) j js)
extended_parts (Split k c) i g b m w rest j js q =
    rw q
    (extended_cons g b m w (interval k i.block i.adjustment) (interval i.end g c) (j ∷ js)
    ∙ ap (λ l. interval k i.block i.adjustment ∷ l) (extended_cons g b m w (interval i.end g c) j js))

-- the old intervals from `start` on after their actions, w buckets having moved before them, and the new buckets
unfoldable pub walked : Table → Shape → ℕ → List Interval → ℕ → List Interval
walked t s start is w =
    extended (length t.tops) t.buckets (s.buckets - t.buckets) (moved_after t s start is w) (parted t s start is w)

-- the first of two or more of them: its parts come first
pub walked_more
    : (t : Table) (s : Shape) (start : ℕ) (i j : Interval) (is : List Interval) (w : ℕ)
    → walked t s start (i ∷ (j ∷ is)) w
    ≡ parts (plan_for t s start i w).action i (length t.tops) []
    ++ walked t s i.end (j ∷ is) (plan_for t s start i w).moved
unfolding walked moved_after parted
walked_more t s start i j is w =
    let p = plan_for t s start i w in
    let (k, ks, q) = parts_cons (plan_for t s i.end j p.moved).action j (length t.tops) _ in
    extended_parts p.action i (length t.tops) t.buckets (s.buckets - t.buckets) _ _ k ks q

-- BOUNDS

-- the buckets moved so far never pass the bucket that the walk has come to
pub plan_bounds
    : (due start : ℕ) (i : Interval) (w : ℕ) → start < i.end → i.adjustment ≤ start → w ≤ start
    → (w ≤ (plan due start i w).moved) × ((plan due start i w).moved ≤ i.end)
plan_bounds due start i w some adjusted below =
    ⊎_elim
    (λ l.
    ⊎_elim
    (λ k. rw (plan_split due start i w l k) (omega arith))
    (λ k. rw (plan_move due start i w l k) (omega arith))
    (below_or (start - i.adjustment) due))
    (λ l. rw (plan_stay due start i w l) (omega arith))
    (below_or due (i.end - i.adjustment))

-- a list in two: the second starts where the first ends
pub tells_split
    : (b : ℕ → ℕ) (g s : ℕ) (is js : List Interval) (e : ℕ) → Tells b g s (is ++ js) e
    → (m : ℕ) × Tells b g s is m × Tells b g m js e
tells_split b g s [] js e h = (s, refl, h)
tells_split b g s (i ∷ is) js e h =
    let (m, left, right) = tells_split b g i.end is js e h.1 in
    (m, (h.0, left), right)

-- so an interval anywhere in a list ends at the list's end or before, and its adjustment is at most its start
pub tells_bounds
    : (b : ℕ → ℕ) (g s : ℕ) (is : List Interval) (i : Interval) (js : List Interval) (e : ℕ) → Tells b g s (is ++ (i ∷ js)) e
    → (i.end ≤ e) × (i.block < g) × (i.adjustment < i.end)
tells_bounds b g s is i js e h =
    let (m, left, right) = tells_split b g s is (i ∷ js) e h in (
      tells_le b g i.end js e right.1,
      right.0.below,
      omega (arith, right.0.some, right.0.adjusted),
    )

-- THE LAST INTERVAL OF A LIST MADE ENTRY BY ENTRY

pub last_from : (f : ℕ → Interval) (i n : ℕ) → last_block (from f i (suc n)) ≡ (f (i + n)).block
unfolding from last_block
last_from f i zero = ap (λ m. (f m).block) (sym (add-zero i))
last_from f i (suc n) = let next : suc i + n ≡ i + suc n = omega arith in last_from f (suc i) n ∙ ap (λ m. (f m).block) next

pub lengthened_from
    : (f : ℕ → Interval) (m i n : ℕ)
    → lengthened m (from f i (suc n))
    ≡ from f i n ++ (interval ((f (i + n)).end + m) (f (i + n)).block (f (i + n)).adjustment ∷ [])
unfolding from lengthened
lengthened_from f m i zero =
    ap (λ k. interval ((f k).end + m) (f k).block (f k).adjustment ∷ []) (sym (add-zero i))
lengthened_from f m i (suc n) =
    let next : suc i + n ≡ i + suc n = omega arith in
    ap (λ l. f i ∷ l)
    (lengthened_from f m (suc i) n
    ∙ ap (λ k. from f (suc i) n ++ (interval ((f k).end + m) (f k).block (f k).adjustment ∷ [])) next)
