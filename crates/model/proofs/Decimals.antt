-- Laws of a number's decimal digits. Assumes nothing.
use Prim.Native.Nat.{ℕ, zero, suc, ◌+◌, ◌-◌, ◌*◌, ◌/◌, ◌%◌, ◌^◌, ◌≤◌, ◌<◌}
use mathlib.Core.Path.{◌≡◌, refl, sym, ◌∙◌, ap}
use mathlib.Core.Logic.{⊎_elim}
use mathlib.Core.Bool.{true}
use mathlib.Core.List.{List, [], ◌∷◌, ◌++◌}
use native.Mathlib.Nat.{mod-eq_of_lt, mod-lt, pow-suc}
use native.Mathlib.Omega.{arith}
use lib.ListN.{length, get_or, length-append}
use lib.Dec.{leb}
use borrow.Author.Tests.{lt-ltb, le-ltb, le-leb, leb-true}
use Rattle.model.specs.Basics.{if◌then◌otherwise◌, ◌and◌}
use Rattle.model.specs.Decimal.{digits_only, value_from, value, digits, decimal}
use Rattle.model.proofs.Counts.{below_or, and_left, and_right}

-- one digit
digits_one : (k n : ℕ) → n < 10 → digits (suc k) n ≡ (48 + n) ∷ []
unfolding digits if◌then◌otherwise◌
digits_one k n l = rw (lt-ltb n 10 l, mod-eq_of_lt l)

-- more than one: the last follows those of a tenth
digits_more : (k n : ℕ) → 10 ≤ n → digits (suc k) n ≡ digits k (n / 10) ++ (48 + n % 10) ∷ []
unfolding digits if◌then◌otherwise◌
digits_more k n l = rw (le-ltb n 10 l)

-- at most k digits
digits_short : (k n : ℕ) → length (digits k n) ≤ k
unfolding digits
digits_short zero n = omega arith
digits_short (suc k) n =
    ⊎_elim
    (λ l. rw (digits_one k n l) (omega arith))
    (λ l. rw (digits_more k n l) (omega (arith, digits_short k (n / 10), length-append (digits k (n / 10)) ((48 + n % 10) ∷ []))))
    (below_or n 10)

-- below 10 ^ (m + 1) at most m + 1, and from 10 ^ m on more than m
digits_few : (m k n : ℕ) → n < 10 ^ suc m → length (digits k n) ≤ suc m
unfolding digits
digits_few m zero n l = omega arith
digits_few zero (suc k) n l = let one : n < 10 = l in rw (digits_one k n one) (omega arith)
digits_few (suc m) (suc k) n l =
    ⊎_elim
    (λ h. rw (digits_one k n h) (omega arith))
    (λ h.
    rw (digits_more k n h)
    (omega (
      arith,
      digits_few m k (n / 10) (omega (arith, pow-suc 10 (suc m))),
      length-append (digits k (n / 10)) ((48 + n % 10) ∷ []),
    )))
    (below_or n 10)

digits_some : (k n : ℕ) → 0 < length (digits (suc k) n)
digits_some k n =
    ⊎_elim
    (λ l. rw (digits_one k n l) (omega arith))
    (λ l. rw (digits_more k n l) (omega (arith, length-append (digits k (n / 10)) ((48 + n % 10) ∷ []))))
    (below_or n 10)

digits_many : (m k n : ℕ) → m < k → 10 ^ m ≤ n → m < length (digits k n)
digits_many m zero n l h = absurd (omega arith)
digits_many zero (suc k) n l h = digits_some k n
digits_many (suc m) (suc k) n l h =
    let some : 1 ≤ 10 ^ m = pow_pos m in
    rw (digits_more k n (omega (arith, pow-suc 10 m)))
    (omega (
      arith,
      digits_many m k (n / 10) (omega arith) (omega (arith, pow-suc 10 m)),
      length-append (digits k (n / 10)) ((48 + n % 10) ∷ []),
    ))
  where
    pow_pos : (m : ℕ) → 1 ≤ 10 ^ m
    pow_pos zero = omega arith
    pow_pos (suc m) = omega (arith, pow_pos m, pow-suc 10 m)

-- below 10 ^ (k + 1), k + 1 digits are all
digits_enough : (k n : ℕ) → n < 10 ^ suc k → digits (suc (suc k)) n ≡ digits (suc k) n
digits_enough zero n l = digits_one 1 n l ∙ sym (digits_one 0 n l)
digits_enough (suc k) n l =
    ⊎_elim
    (λ h. digits_one (suc (suc k)) n h ∙ sym (digits_one (suc k) n h))
    (λ h.
    digits_more (suc (suc k)) n h
    ∙ ap (λ (ds : List ℕ). ds ++ (48 + n % 10) ∷ []) (digits_enough k (n / 10) (omega (arith, pow-suc 10 (suc k))))
    ∙ sym (digits_more (suc k) n h))
    (below_or n 10)

-- TEN DIGITS

pub decimal_one : (n : ℕ) → n < 10 → decimal n ≡ (48 + n) ∷ []
unfolding decimal
decimal_one n l = digits_one 9 n l

pub decimal_more : (n : ℕ) → n < 10_000_000_000 → 10 ≤ n → decimal n ≡ decimal (n / 10) ++ (48 + n % 10) ∷ []
unfolding decimal
decimal_more n f l =
    digits_more 9 n l
    ∙ ap (λ (ds : List ℕ). ds ++ (48 + n % 10) ∷ []) (sym (digits_enough 8 (n / 10) (omega arith)))

pub decimal_short : (n : ℕ) → length (decimal n) ≤ 10
unfolding decimal
decimal_short n = digits_short 10 n

pub decimal_few : (m n : ℕ) → n < 10 ^ suc m → length (decimal n) ≤ suc m
unfolding decimal
decimal_few m n l = digits_few m 10 n l

pub decimal_some : (n : ℕ) → 0 < length (decimal n)
unfolding decimal
decimal_some n = digits_some 9 n

pub decimal_many : (m n : ℕ) → m < 10 → 10 ^ m ≤ n → m < length (decimal n)
unfolding decimal
decimal_many m n l h = digits_many m 10 n l h

pub decimal_exact : (m n : ℕ) → m < 10 → 10 ^ m ≤ n → n < 10 ^ suc m → length (decimal n) ≡ suc m
decimal_exact m n l h u = omega (arith, decimal_few m n u, decimal_many m n l h)

-- DIGITS READ BACK

-- one more digit behind others
only_more : (ds : List ℕ) (d : ℕ) → d < 10 → digits_only ds ≡ true → digits_only (ds ++ (48 + d) ∷ []) ≡ true
unfolding digits_only ◌and◌
only_more [] d l e = rw (le-leb 48 (48 + d) (omega arith), le-leb (48 + d) 57 (omega arith))
only_more (c ∷ cs) d l e =
    let both = and_left (leb 48 c and leb c 57) (digits_only cs) e in
    rw (and_left (leb 48 c) (leb c 57) both, and_right (leb 48 c) (leb c 57) both)
    (only_more cs d l (and_right (leb 48 c and leb c 57) (digits_only cs) e))

value_more : (v : ℕ) (ds : List ℕ) (d : ℕ) → value_from v (ds ++ (48 + d) ∷ []) ≡ 10 * value_from v ds + d
unfolding value_from
value_more v [] d = omega arith
value_more v (c ∷ cs) d = value_more (10 * v + (c - 48)) cs d

digits_only_lem : (k n : ℕ) → digits_only (digits k n) ≡ true
unfolding digits_only digits
digits_only_lem zero n = refl
digits_only_lem (suc k) n =
    ⊎_elim
    (λ l. rw (digits_one k n l) (only_more [] n l refl))
    (λ l. rw (digits_more k n l) (only_more (digits k (n / 10)) (n % 10) (mod-lt n (omega arith)) (digits_only_lem k (n / 10))))
    (below_or n 10)

digits_value : (k n : ℕ) → n < 10 ^ k → value (digits k n) ≡ n
unfolding value value_from digits
digits_value zero n l = let none : 0 ≡ n = let small : n < 1 = l in omega arith in none
digits_value (suc k) n l =
    ⊎_elim
    (λ h. rw (digits_one k n h) (omega arith))
    (λ h.
    rw (digits_more k n h)
    (value_more 0 (digits k (n / 10)) (n % 10) ∙ omega (arith, digits_value k (n / 10) (omega (arith, pow-suc 10 k)))))
    (below_or n 10)

-- each is 48 or more
pub only_at : (ds : List ℕ) → digits_only ds ≡ true → (i : ℕ) → i < length ds → 48 ≤ get_or ds i 0
unfolding digits_only
only_at [] e i l = absurd (omega arith)
only_at (c ∷ cs) e zero l =
    leb-true 48 c (and_left (leb 48 c) (leb c 57) (and_left (leb 48 c and leb c 57) (digits_only cs) e))
only_at (c ∷ cs) e (suc i) l = only_at cs (and_right (leb 48 c and leb c 57) (digits_only cs) e) i (omega arith)

pub decimal_only : (n : ℕ) → digits_only (decimal n) ≡ true
unfolding decimal
decimal_only n = digits_only_lem 10 n

pub decimal_value : (n : ℕ) → n < 10_000_000_000 → value (decimal n) ≡ n
unfolding decimal
decimal_value n l = digits_value 10 n l
