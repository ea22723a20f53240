-- Laws of lists of intervals: a list that tells the blocks of a map b, where b x is the block of bucket x. Assumes nothing.
use Prim.Native.Nat.{ℕ, suc, ◌+◌, ◌-◌, ◌≤◌, ◌<◌}
use mathlib.Core.Path.{◌≡◌, refl, sym, ◌∙◌, ap}
use mathlib.Core.Logic.{◌⊎◌, inl, inr, ⊎_elim}
use mathlib.Core.List.{List, [], ◌∷◌, ◌++◌}
use native.Mathlib.Decide.{ℕ_discrete}
use native.Mathlib.Omega.{arith}
use lib.Dec.{ltb, eqb}
use borrow.Author.Tests.{lt-ltb, le-ltb}
use Rattle.model.specs.Basics.{if◌then◌otherwise◌, bit, sum, count}
use Rattle.model.specs.Table.{Interval}
use Rattle.model.specs.Place.{interval_of, size}
use Rattle.model.specs.Expansion.{last_block, lengthened}
use Rattle.model.specs.Balance.{held_below}
use Rattle.model.proofs.Counts.{
  bit_lt,
  bit_le,
  bit_eq,
  bit_ne,
  below_or,
  sum_suc,
  sum_ext,
  sum_split,
  sum_const,
  sum_upper,
  sum_zero,
}
use Rattle.model.proofs.Balances.{sizes_below}

pub equal_or : (a b : ℕ) → (a ≡ b) ⊎ (a ≡ b → ⊥)
equal_or a b = elim (ℕ_discrete a b) [ yes e ↦ inl e | no e ↦ inr e ]

pub positive : (c d : ℕ) → (d ≡ 0 → ⊥) → c < c + d
positive c d z = ⊎_elim (λ l. l) (λ l. absurd (z (omega arith))) (below_or c (c + d))

-- what holds below j and at j holds below j + 1
pub up_to : (P : ℕ → Type 0) (j : ℕ) → ((k : ℕ) → k < j → P k) → P j → (k : ℕ) → k < suc j → P k
up_to P j below at k l = ⊎_elim (below k) (λ m. let same : k ≡ j = omega arith in rw same at) (below_or k j)

-- HOW MANY BUCKETS OF A BLOCK

-- one bucket more: of its own block, and of another
pub size_next : (b : ℕ → ℕ) (m j : ℕ) → b m ≡ j → size b (suc m) j ≡ size b m j + 1
unfolding size count
size_next b m j e = omega (arith, sum_suc (λ x. bit (eqb (b x) j)) m, bit_eq (b m) j e)

pub size_skip : (b : ℕ → ℕ) (m j : ℕ) → (b m ≡ j → ⊥) → size b (suc m) j ≡ size b m j
unfolding size count
size_skip b m j e = omega (arith, sum_suc (λ x. bit (eqb (b x) j)) m, bit_ne (b m) j e)

-- none below 0, and no more than there are
pub size_zero : (b : ℕ → ℕ) (j : ℕ) → size b 0 j ≡ 0
unfolding size count sum
size_zero b j = refl

pub size_most : (b : ℕ → ℕ) (m j : ℕ) → size b m j ≤ m
unfolding size count
size_most b m j = omega (arith, sum_upper (λ x. bit (eqb (b x) j)) m 1 (λ x l. bit_le (eqb (b x) j)))

-- two maps that agree below m
pub size_same : (b b' : ℕ → ℕ) (m j : ℕ) → ((x : ℕ) → x < m → b x ≡ b' x) → size b m j ≡ size b' m j
unfolding size count
size_same b b' m j e = sum_ext _ _ m (λ x l. ap (λ k. bit (eqb k j)) (e x l))

-- from s up to e all are of block j, or none is
pub size_own
    : (b : ℕ → ℕ) (j s e : ℕ) → s ≤ e → ((x : ℕ) → s ≤ x → x < e → b x ≡ j) → size b e j ≡ size b s j + (e - s)
unfolding size count
size_own b j s e le own =
    let whole : s + (e - s) ≡ e = omega arith in
    omega (
      arith,
      ap (sum (λ x. bit (eqb (b x) j))) whole,
      sum_split (λ x. bit (eqb (b x) j)) s (e - s),
      sum_ext (λ i. bit (eqb (b (s + i)) j)) (λ i. 1) (e - s)
          (λ i l. bit_eq (b (s + i)) j (own (s + i) (omega arith) (omega arith))),
      sum_const 1 (e - s),
    )

pub size_other
    : (b : ℕ → ℕ) (j s e : ℕ) → s ≤ e → ((x : ℕ) → s ≤ x → x < e → b x ≡ j → ⊥) → size b e j ≡ size b s j
unfolding size count
size_other b j s e le other =
    let whole : s + (e - s) ≡ e = omega arith in
    omega (
      arith,
      ap (sum (λ x. bit (eqb (b x) j))) whole,
      sum_split (λ x. bit (eqb (b x) j)) s (e - s),
      sum_zero (λ i. bit (eqb (b (s + i)) j)) (e - s)
          (λ i l. bit_ne (b (s + i)) j (other (s + i) (omega arith) (omega arith))),
    )

-- all blocks together hold all buckets
pub sizes_all : (b : ℕ → ℕ) (m g : ℕ) → ((x : ℕ) → x < m → b x < g) → sum (size b m) g ≡ m
unfolding held_below count
sizes_all b m g below =
    sizes_below b m g
    ∙ sum_ext (λ x. bit (ltb (b x) g)) (λ x. 1) m (λ x l. bit_lt (b x) g (below x l))
    ∙ sum_const 1 m
    ∙ omega arith

-- LISTS THAT TELL THE BLOCKS

-- interval i, from s on, tells the blocks of b, all below g: its buckets are of its block, and its adjustment and the buckets
-- of its block before it make up its start
pub record Told (b : ℕ → ℕ) (g s : ℕ) (i : Interval) : Type 0 where
  pub some : s < i.end
  pub own : (x : ℕ) → s ≤ x → x < i.end → b x ≡ i.block
  pub below : i.block < g
  pub adjusted : i.adjustment + size b s i.block ≡ s

-- the intervals from s on tell them up to e
abbrev pub Tells : (ℕ → ℕ) → ℕ → ℕ → List Interval → ℕ → Type 0
Tells b g s [] e = s ≡ e
Tells b g s (i ∷ is) e = Told b g s i × Tells b g i.end is e

pub tells_le : (b : ℕ → ℕ) (g s : ℕ) (is : List Interval) (e : ℕ) → Tells b g s is e → s ≤ e
tells_le b g s [] e h = omega arith
tells_le b g s (i ∷ is) e h = omega (arith, h.0.some, tells_le b g i.end is e h.1)

-- one list after another
pub tells_append
    : (b : ℕ → ℕ) (g s : ℕ) (is : List Interval) (m : ℕ) (js : List Interval) (e : ℕ)
    → Tells b g s is m → Tells b g m js e → Tells b g s (is ++ js) e
tells_append b g s [] m js e h k = rw h k
tells_append b g s (i ∷ is) m js e h k = (h.0, tells_append b g i.end is m js e h.1 k)

-- a map that agrees with b below e, and a higher bound
pub tells_same
    : (b b' : ℕ → ℕ) (g g' s : ℕ) (is : List Interval) (e : ℕ)
    → ((x : ℕ) → x < e → b x ≡ b' x) → g ≤ g' → Tells b g s is e → Tells b' g' s is e
tells_same b b' g g' s [] e same le h = h
tells_same b b' g g' s (i ∷ is) e same le h =
    let past = tells_le b g i.end is e h.1 in
    let some = h.0.some in (
      record {
        some = some;
        own = λ x l k. sym (same x (omega arith)) ∙ h.0.own x l k;
        below = omega (arith, h.0.below);
        adjusted = omega (arith, h.0.adjusted, size_same b b' s i.block (λ x l. same x (omega arith)));
      },
      tells_same b b' g g' i.end is e same le h.1,
    )

-- the last interval made longer over buckets of its block
pub tells_lengthened
    : (b : ℕ → ℕ) (g s m : ℕ) (is : List Interval) (e : ℕ) → s < e → Tells b g s is e
    → ((x : ℕ) → e ≤ x → x < e + m → b x ≡ last_block is) → Tells b g s (lengthened m is) (e + m)
unfolding last_block lengthened
tells_lengthened b g s m [] e l h own = absurd (omega arith)
tells_lengthened b g s m (i ∷ []) e l h own =
    let end = h.1 in (
      record {
        some = omega (arith, h.0.some);
        own =
            λ x a z. ⊎_elim (λ k. h.0.own x a k) (λ k. own x (omega arith) (omega arith)) (below_or x i.end);
        below = h.0.below;
        adjusted = h.0.adjusted;
      },
      omega arith,
    )
tells_lengthened b g s m (i ∷ (j ∷ is)) e l h own = (
  h.0,
  tells_lengthened b g i.end m (j ∷ is) e (omega (arith, h.1.0.some, tells_le b g j.end is e h.1.1)) h.1 own,
)

-- THE INTERVAL OF A BUCKET

-- what the interval of bucket x says: its block, and its rank, the number of buckets of its block before it
pub record Placed (b : ℕ → ℕ) (g x : ℕ) (i : Interval) : Type 0 where
  pub block : i.block ≡ b x
  pub below : b x < g
  pub rank : x - i.adjustment ≡ size b x (b x)
  pub whole : i.adjustment + size b x (b x) ≡ x

pub told_placed : (b : ℕ → ℕ) (g s x : ℕ) (i : Interval) → Told b g s i → s ≤ x → x < i.end → Placed b g x i
told_placed b g s x i h l k =
    let block = h.own x l k in
    let sized : size b x (b x) ≡ size b s i.block + (x - s) =
    ap (size b x) block ∙ size_own b i.block s x l (λ z a c. h.own z a (omega arith)) in
    let whole : i.adjustment + size b x (b x) ≡ x = omega (arith, h.adjusted) in
    record { block = sym block; below = omega (arith, h.below); rank = omega arith; whole = whole }

pub tells_placed
    : (b : ℕ → ℕ) (g s : ℕ) (is : List Interval) (e : ℕ) → Tells b g s is e
    → (x : ℕ) → s ≤ x → x < e → Placed b g x (interval_of is x)
unfolding interval_of if◌then◌otherwise◌
tells_placed b g s [] e h x l k = absurd (omega arith)
tells_placed b g s (i ∷ is) e h x l k =
    ⊎_elim
    (λ m. rw (lt-ltb x i.end m) (told_placed b g s x i h.0 l m))
    (λ m. rw (le-ltb x i.end m) (tells_placed b g i.end is e h.1 x m k))
    (below_or x i.end)
