-- The mathematics of demand 3: one growth, and any list of growths. Assumes nothing.
use Prim.Native.Nat.{ℕ, ◌+◌, ◌-◌, ◌≤◌, ◌<◌}
use mathlib.Core.Path.{◌≡◌, refl, ap}
use mathlib.Core.Logic.{◌⊎◌, inl, inr, ⊎_elim}
use mathlib.Core.Bool.{not}
use mathlib.Core.List.{List}
use native.Mathlib.Decide.{ℕ_discrete}
use native.Mathlib.Omega.{arith}
use lib.Dec.{ltb, eqb}
use Rattle.model.specs.Basics.{bit, sum, count}
use Rattle.model.specs.Table.{Shape}
use Rattle.model.specs.Balance.{
  Balanced,
  changed,
  held_below,
  most,
  least,
  MovesNone,
  EntersNone,
  Optimal,
  Grows,
  Growing,
  Rival,
  last,
  next,
  first_map,
  total,
  AllOptimal,
  least_total,
}
use Rattle.model.specs.Claims.{LeastOfOne, LeastOfAll, LeastDecided}
use Rattle.model.proofs.Counts.{
  bit_lt,
  bit_ge,
  bit_eq,
  bit_ne,
  bit_not,
  below_or,
  sum_ext,
  sum_add,
  sum_split,
  sum_const,
  sum_zero,
  term_zero,
}
use Rattle.model.proofs.Balances.{held_at_most}

-- ONE GROWTH, from f to g

module _ (s s' : Shape) (f g : ℕ → ℕ) where
  -- old buckets that stay in their bin
  stays : ℕ
  stays = sum (λ x. bit (eqb (f x) (g x))) s.buckets

  -- whether old bucket x enters an old bin
  enters : ℕ → ℕ
  enters x = bit (ltb (g x) s.bins) - bit (eqb (f x) (g x))

  -- how many old buckets, and how many new ones, enter an old bin
  old_enter : ℕ
  old_enter = sum enters s.buckets

  new_enter : ℕ
  new_enter = sum (λ i. bit (ltb (g (s.buckets + i)) s.bins)) (s'.buckets - s.buckets)

  changed_or_stays : changed f g s.buckets + stays ≡ s.buckets
  unfolding changed count stays
  changed_or_stays =
      omega (
        arith,
        sum_add (λ x. bit (not (eqb (f x) (g x)))) (λ x. bit (eqb (f x) (g x))) s.buckets,
        sum_ext (λ x. bit (not (eqb (f x) (g x))) + bit (eqb (f x) (g x))) (λ x. 1) s.buckets (λ x l. bit_not (eqb (f x) (g x))),
        sum_const 1 s.buckets,
      )

  module _ (grows : Grows s s') (b : Balanced s f) where
    -- an old bucket in an old bin stays or enters
    old_bin : (x : ℕ) → x < s.buckets → bit (ltb (g x) s.bins) ≡ bit (eqb (f x) (g x)) + enters x
    unfolding enters
    old_bin x l =
        elim (ℕ_discrete (f x) (g x)) [
          | yes e ↦ omega (arith, bit_eq (f x) (g x) e, bit_lt (g x) s.bins (omega (arith, b.within x l)))
          | no e ↦ omega (arith, bit_ne (f x) (g x) e)
        ]

    -- what the old bins hold
    held : held_below g s'.buckets s.bins ≡ stays + old_enter + new_enter
    unfolding held_below count stays old_enter new_enter
    held =
        let whole : s.buckets + (s'.buckets - s.buckets) ≡ s'.buckets = omega arith in
        omega (
          arith,
          ap (sum (λ x. bit (ltb (g x) s.bins))) whole,
          sum_split (λ x. bit (ltb (g x) s.bins)) s.buckets (s'.buckets - s.buckets),
          sum_ext (λ x. bit (ltb (g x) s.bins)) (λ x. bit (eqb (f x) (g x)) + enters x) s.buckets old_bin,
          sum_add (λ x. bit (eqb (f x) (g x))) enters s.buckets,
        )

    enters-none→ : EntersNone s s' f g → old_enter + new_enter ≡ 0
    unfolding old_enter new_enter enters
    enters-none→ none =
        omega (
          arith,
          sum_zero enters s.buckets (λ x l. ⊎_elim (λ h. omega (arith, bit_eq (f x) (g x) (none x (omega arith) h).1, bit_lt (g x) s.bins h))
              (λ h. omega (arith, bit_ge (g x) s.bins h)) (below_or (g x) s.bins)),
          sum_zero (λ i. bit (ltb (g (s.buckets + i)) s.bins)) (s'.buckets - s.buckets)
              (λ i l. ⊎_elim (λ h. absurd (omega (arith, (none (s.buckets + i) (omega arith) h).0))) (λ h. bit_ge (g (s.buckets + i)) s.bins h)
              (below_or (g (s.buckets + i)) s.bins)),
        )

    enters-none← : old_enter + new_enter ≡ 0 → EntersNone s s' f g
    unfolding old_enter new_enter enters
    enters-none← e x l h =
        ⊎_elim
        (λ k.
        elim (ℕ_discrete (f x) (g x)) [
          | yes m ↦ (k, m)
          | no m ↦
              absurd
              (omega
              (arith, term_zero enters s.buckets (omega arith) x k, bit_ne (f x) (g x) m, bit_lt (g x) s.bins h))
        ])
        (λ k.
        let i = x - s.buckets in
        let same : s.buckets + i ≡ x = omega arith in
        absurd
        (omega (
          arith,
          term_zero (λ i. bit (ltb (g (s.buckets + i)) s.bins)) (s'.buckets - s.buckets) (omega arith) i (omega arith),
          ap (λ x. bit (ltb (g x) s.bins)) same,
          bit_lt (g x) s.bins h,
        )))
        (below_or x s.buckets)

  moves_none→ : MovesNone s f g → changed f g s.buckets ≡ 0
  unfolding changed count
  moves_none→ none =
      sum_zero (λ x. bit (not (eqb (f x) (g x)))) s.buckets
      (λ x l. omega (arith, bit_not (eqb (f x) (g x)), bit_eq (f x) (g x) (none x l)))

  moves_none← : changed f g s.buckets ≡ 0 → MovesNone s f g
  unfolding changed count
  moves_none← e x l =
      elim (ℕ_discrete (f x) (g x)) [
        | yes m ↦ m
        | no m ↦
            absurd
            (omega (
              arith,
              term_zero (λ x. bit (not (eqb (f x) (g x)))) s.buckets e x l,
              bit_not (eqb (f x) (g x)),
              bit_ne (f x) (g x) m,
            ))
      ]

pub least_of_one_lem : LeastOfOne
unfolding least
least_of_one_lem s s' f g grows b b' = (
  omega (arith, kept, total_held, bound),
  (
    (λ e. elim (ℕ_discrete (changed f g s.buckets) 0) [
      | yes m ↦ inl (moves_none← s s' f g m)
      | no m ↦ inr (enters-none← s s' f g grows b (omega (arith, kept, total_held, bound)), omega (arith, kept, total_held, bound))
    ]),
    ⊎_elim
        (λ none. omega (arith, kept, total_held, bound, moves_none→ s s' f g none))
        (λ none. omega (arith, kept, total_held, bound, enters-none→ s s' f g grows b none.0, none.1)),
  ),
)
  where
    kept : changed f g s.buckets + stays s s' f g ≡ s.buckets
    kept = changed_or_stays s s' f g

    total_held
        : held_below g s'.buckets s.bins ≡ stays s s' f g + old_enter s s' f g + new_enter s s' f g
    total_held = held s s' f g grows b

    bound : held_below g s'.buckets s.bins ≤ most s s'
    bound = held_at_most s s' g grows.bins b'

-- ANY LIST OF GROWTHS

balanced_first : {s : Shape} {ss : List Shape} (r : Rival s ss) → Balanced s (first_map r)
balanced_first (last f b) = b
balanced_first (next f b r) = b

-- one growth, decided
one_decided
    : (s s' : Shape) (f g : ℕ → ℕ) → Grows s s' → Balanced s f → Balanced s' g
    → ((least s s' ≡ changed f g s.buckets) × Optimal s s' f g)
    ⊎ ((least s s' < changed f g s.buckets) × (Optimal s s' f g → ⊥))
one_decided s s' f g grows b b' =
    let one = least_of_one_lem s s' f g grows b b' in
    elim (ℕ_discrete (least s s') (changed f g s.buckets)) [
      | yes e ↦ inl (e, one.1.0 e)
      | no e ↦ inr (omega arith, λ o. e (one.1.1 o))
    ]

decided
    : {s : Shape} {ss : List Shape} (r : Rival s ss) → Growing s ss
    → ((least_total s ss ≡ total r) × AllOptimal r) ⊎ ((least_total s ss < total r) × (AllOptimal r → ⊥))
decided (last f b) grows = inl (refl, tt)
decided (next {s = s} {s' = s'} f b r) grows =
    ⊎_elim
    (λ one.
    ⊎_elim
    (λ rest. inl (omega arith, (one.1, rest.1)))
    (λ rest. inr (omega arith, λ o. rest.1 o.1))
    (decided r grows.1))
    (λ one.
    ⊎_elim
    (λ rest. inr (omega arith, λ o. one.1 o.0))
    (λ rest. inr (omega arith, λ o. one.1 o.0))
    (decided r grows.1))
    (one_decided s s' f (first_map r) grows.0 b (balanced_first r))

pub least_decided_lem : LeastDecided
least_decided_lem s ss r grows = decided r grows

pub least_of_all_lem : LeastOfAll
least_of_all_lem s ss r grows =
    ⊎_elim
    (λ same. (((λ e. same.1), (λ o. same.0)), λ different. absurd (different same.0)))
    (λ less. (((λ e. absurd (omega arith)), (λ o. absurd (less.1 o))), λ different. less.0))
    (decided r grows)
