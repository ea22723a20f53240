-- Laws of tests, sums and counts. After the lemmas on `bit` no later proof takes a Bool apart. Assumes nothing.
use Prim.Native.Nat.{ℕ, zero, suc, ◌+◌, ◌*◌, ◌≤◌, ◌<◌}
use mathlib.Core.Path.{◌≡◌, refl, sym, ◌∙◌, ap}
use mathlib.Core.Logic.{◌⊎◌, inl, inr, ⊎_elim}
use mathlib.Core.Bool.{Bool, true, false, not, false≢true}
use native.Mathlib.Nat.{le_refl, add-zero, add-suc, zero-mul, suc-mul, not-suc-le-zero}
use native.Mathlib.Decide.{dec_lt, le_ind}
use native.Mathlib.Omega.{arith}
use lib.Dec.{ltb, eqb}
use borrow.Author.Tests.{lt-ltb, le-ltb, eq-eqb, ne_eqb}
use Rattle.model.specs.Basics.{◌and◌, bit, sum, count, all}

-- BITS

pub bit_lt : (a b : ℕ) → a < b → bit (ltb a b) ≡ 1
unfolding bit
bit_lt a b h = rw (lt-ltb a b h)

pub bit_ge : (a b : ℕ) → b ≤ a → bit (ltb a b) ≡ 0
unfolding bit
bit_ge a b h = rw (le-ltb a b h)

pub bit_eq : (a b : ℕ) → a ≡ b → bit (eqb a b) ≡ 1
unfolding bit
bit_eq a b h = rw (eq-eqb a b h)

pub bit_ne : (a b : ℕ) → (a ≡ b → ⊥) → bit (eqb a b) ≡ 0
unfolding bit
bit_ne a b h = rw (ne_eqb a b h)

pub bit_not : (t : Bool) → bit (not t) + bit t ≡ 1
unfolding bit
bit_not true = refl
bit_not false = refl

pub bit_le : (t : Bool) → bit t ≤ 1
unfolding bit
bit_le true = omega arith
bit_le false = omega arith

-- a test is true or false, and its bit 1 or 0
pub bit_cases : (t : Bool) → ((t ≡ true) × (bit t ≡ 1)) ⊎ ((t ≡ false) × (bit t ≡ 0))
unfolding bit
bit_cases true = inl (refl, refl)
bit_cases false = inr (refl, refl)

-- two tests pass just where each does
pub bit_and : (s t : Bool) → (bit (s and t) ≤ bit s) × (bit (s and t) ≤ bit t) × (bit s + bit t ≤ bit (s and t) + 1)
unfolding bit ◌and◌
bit_and true true = (omega arith, omega arith, omega arith)
bit_and true false = (omega arith, omega arith, omega arith)
bit_and false true = (omega arith, omega arith, omega arith)
bit_and false false = (omega arith, omega arith, omega arith)

pub below_or : (a b : ℕ) → (a < b) ⊎ (b ≤ a)
below_or a b = elim (dec_lt a b) [ yes h ↦ inl h | no h ↦ inr (omega arith) ]

-- TESTS OVER ALL NUMBERS BELOW n

pub and_both : (a b : Bool) → a ≡ true → b ≡ true → a and b ≡ true
unfolding ◌and◌
and_both a b h k = rw (h, k)

pub and_left : (a b : Bool) → a and b ≡ true → a ≡ true
unfolding ◌and◌
and_left true b h = refl
and_left false b h = h

pub and_right : (a b : Bool) → a and b ≡ true → b ≡ true
unfolding ◌and◌
and_right true b h = h
and_right false b h = absurd (false≢true h)

pub all_at : (p : ℕ → Bool) (n : ℕ) → all p n ≡ true → (i : ℕ) → i < n → p i ≡ true
unfolding all
all_at p zero h i l = absurd (not-suc-le-zero l)
all_at p (suc n) h i l =
    ⊎_elim
    (λ k. all_at p n (and_left (all p n) (p n) h) i k)
    (λ k. let same : i ≡ n = omega arith in ap p same ∙ and_right (all p n) (p n) h)
    (below_or i n)

pub all_holds : (p : ℕ → Bool) (n : ℕ) → ((i : ℕ) → i < n → p i ≡ true) → all p n ≡ true
unfolding all
all_holds p zero e = refl
all_holds p (suc n) e =
    and_both (all p n) (p n) (all_holds p n (λ i l. e i (omega arith))) (e n (omega arith))

-- SUMS

pub sum_suc : (h : ℕ → ℕ) (n : ℕ) → sum h (suc n) ≡ sum h n + h n
unfolding sum
sum_suc h n = refl

pub sum_ext : (f g : ℕ → ℕ) (n : ℕ) → ((x : ℕ) → x < n → f x ≡ g x) → sum f n ≡ sum g n
unfolding sum
sum_ext f g zero e = refl
sum_ext f g (suc n) e = let ih = sum_ext f g n (λ x h. e x (omega arith)) in omega (arith, e n (omega arith))

pub sum_le : (f g : ℕ → ℕ) (n : ℕ) → ((x : ℕ) → x < n → f x ≤ g x) → sum f n ≤ sum g n
unfolding sum
sum_le f g zero e = omega arith
sum_le f g (suc n) e = let ih = sum_le f g n (λ x h. e x (omega arith)) in omega (arith, e n (omega arith))

pub sum_add : (f g : ℕ → ℕ) (n : ℕ) → sum (λ x. f x + g x) n ≡ sum f n + sum g n
unfolding sum
sum_add f g zero = refl
sum_add f g (suc n) = omega (arith, sum_add f g n)

pub sum_split : (h : ℕ → ℕ) (a b : ℕ) → sum h (a + b) ≡ sum h a + sum (λ i. h (a + i)) b
unfolding sum
sum_split h a zero = rw (add-zero a) (omega arith)
sum_split h a (suc b) = rw add-suc (omega (arith, sum_split h a b))

pub sum_const : (c n : ℕ) → sum (λ x. c) n ≡ n * c
unfolding sum
sum_const c zero = sym (zero-mul c)
sum_const c (suc n) = omega (arith, sum_const c n, suc-mul n c)

-- a bound on every term is a bound on the sum
pub sum_upper : (h : ℕ → ℕ) (n q : ℕ) → ((x : ℕ) → x < n → h x ≤ q) → sum h n ≤ n * q
sum_upper h n q e = omega (arith, sum_le h (λ x. q) n e, sum_const q n)

pub sum_lower : (h : ℕ → ℕ) (n q : ℕ) → ((x : ℕ) → x < n → q ≤ h x) → n * q ≤ sum h n
sum_lower h n q e = omega (arith, sum_le (λ x. q) h n e, sum_const q n)

-- and one term's slack comes off it
pub sum_upper_at : (h : ℕ → ℕ) (n q y : ℕ) → y < n → ((x : ℕ) → x < n → h x ≤ q) → sum h n + q ≤ n * q + h y
unfolding sum
sum_upper_at h zero q y l e = absurd (not-suc-le-zero l)
sum_upper_at h (suc n) q y l e =
    ⊎_elim
    (λ k. omega (arith, sum_upper_at h n q y k (λ x m. e x (omega arith)), e n (omega arith), suc-mul n q))
    (λ k.
    let same : y ≡ n = omega arith in
    omega (arith, sum_upper h n q (λ x m. e x (omega arith)), ap h same, suc-mul n q))
    (below_or y n)

-- a sum is 0 just where its terms are
pub sum_zero : (h : ℕ → ℕ) (n : ℕ) → ((x : ℕ) → x < n → h x ≡ 0) → sum h n ≡ 0
unfolding sum
sum_zero h zero e = refl
sum_zero h (suc n) e = omega (arith, sum_zero h n (λ x l. e x (omega arith)), e n (omega arith))

pub term_zero : (h : ℕ → ℕ) (n : ℕ) → sum h n ≡ 0 → (x : ℕ) → x < n → h x ≡ 0
unfolding sum
term_zero h zero e x l = absurd (not-suc-le-zero l)
term_zero h (suc n) e x l =
    ⊎_elim
    (λ k. term_zero h n (omega arith) x k)
    (λ k. let same : x ≡ n = omega arith in omega (arith, ap h same))
    (below_or x n)

pub sum_swap
    : (h : ℕ → ℕ → ℕ) (m n : ℕ) → sum (λ y. sum (λ x. h x y) m) n ≡ sum (λ x. sum (λ y. h x y) n) m
unfolding sum
sum_swap h m zero = sym (sum_zero (λ x. 0) m (λ x l. refl))
sum_swap h m (suc n) =
    omega (arith, sum_swap h m n, sum_add (λ x. sum (λ y. h x y) n) (λ x. h x n) m)

-- the numbers below n that equal v: one if v is below n, else none
pub sum_point : (v n : ℕ) → sum (λ y. bit (eqb v y)) n ≡ bit (ltb v n)
unfolding sum
sum_point v zero = sym (bit_ge v 0 (omega arith))
sum_point v (suc n) =
    ⊎_elim
    (λ k. omega (arith, sum_point v n, bit_lt v n k, bit_ne v n (λ e. omega arith), bit_lt v (suc n) (omega arith)))
    (λ k.
    ⊎_elim
    (λ l. omega (arith, sum_point v n, bit_ge v n k, bit_ne v n (λ e. omega arith), bit_ge v (suc n) l))
    (λ l. omega (arith, sum_point v n, bit_ge v n k, bit_eq v n (omega arith), bit_lt v (suc n) (omega arith)))
    (below_or n v))
    (below_or v n)

-- COUNTS

pub count_zero : (p : ℕ → Bool) → count p 0 ≡ 0
unfolding count sum
count_zero p = refl

pub count_suc : (p : ℕ → Bool) (n : ℕ) → count p (suc n) ≡ count p n + bit (p n)
unfolding count
count_suc p n = sum_suc (λ x. bit (p x)) n

-- no more numbers below n pass a test than there are
pub count_most : (p : ℕ → Bool) (n : ℕ) → count p n ≤ n
unfolding count
count_most p n = omega (arith, sum_upper (λ x. bit (p x)) n 1 (λ x l. bit_le (p x)))

pub count_mono : (p : ℕ → Bool) (a b : ℕ) → a ≤ b → count p a ≤ count p b
count_mono p a b l =
    le_ind (λ (m : ℕ). count p a ≤ count p m) (le_refl (count p a)) (λ m k e. omega (arith, count_suc p m)) b l

pub and_passed : (s t : Bool) → s ≡ true → bit (s and t) ≡ bit t
unfolding ◌and◌
and_passed s t e = rw e

pub and_failed : (s t : Bool) → s ≡ false → bit (s and t) ≡ 0
unfolding bit ◌and◌
and_failed s t e = rw e

-- no more pass both tests than one of them
pub count_and : (p q : ℕ → Bool) (n : ℕ) → count (λ x. p x and q x) n ≤ count p n
unfolding count
count_and p q n = sum_le (λ x. bit (p x and q x)) (λ x. bit (p x)) n (λ x l. (bit_and (p x) (q x)).0)

-- where all numbers of a span pass a test, both tests count of it what the other does
pub span_in
    : (p q : ℕ → Bool) (a b : ℕ) → a ≤ b → ((x : ℕ) → a ≤ x → x < b → p x ≡ true)
    → count (λ x. p x and q x) a + count q b ≡ count (λ x. p x and q x) b + count q a
span_in p q a b l e =
    le_ind
    (λ (m : ℕ).
    ((x : ℕ) → a ≤ x → x < m → p x ≡ true)
    → count (λ x. p x and q x) a + count q m ≡ count (λ x. p x and q x) m + count q a)
    (λ _. refl)
    (λ m k ih now.
    omega (
      arith,
      ih (λ x c d. now x c (omega arith)),
      count_suc (λ x. p x and q x) m,
      count_suc q m,
      and_passed (p m) (q m) (now m k (omega arith)),
    ))
    b l e

-- and where none does they count nothing
pub span_out
    : (p q : ℕ → Bool) (a b : ℕ) → a ≤ b → ((x : ℕ) → a ≤ x → x < b → p x ≡ false)
    → count (λ x. p x and q x) b ≡ count (λ x. p x and q x) a
span_out p q a b l e =
    le_ind
    (λ (m : ℕ).
    ((x : ℕ) → a ≤ x → x < m → p x ≡ false) → count (λ x. p x and q x) m ≡ count (λ x. p x and q x) a)
    (λ _. refl)
    (λ m k ih now.
    omega (
      arith,
      ih (λ x c d. now x c (omega arith)),
      count_suc (λ x. p x and q x) m,
      and_failed (p m) (q m) (now m k (omega arith)),
    ))
    b l e
