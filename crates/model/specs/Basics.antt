-- Tests, sums, counts and lists: the words in which the other files are written. Assumes nothing.
use Rattle.std.specs.Prelude.{ℕ, zero, suc, ◌+◌, Bool, true, false, List, [], ◌∷◌, ◌++◌, get_or}

infixr 10 if◌then◌otherwise◌
infixl 35 ◌and◌
infixl 30 ◌or◌
unfoldable pub if◌then◌otherwise◌ : {A : Type 0} → Bool → A → A → A
if true then a otherwise b = a
if false then a otherwise b = b

unfoldable pub ◌and◌ : Bool → Bool → Bool
true and b = b
false and b = false

unfoldable pub ◌or◌ : Bool → Bool → Bool
true or b = true
false or b = b

-- 1 where the test holds, else 0
unfoldable pub bit : Bool → ℕ
bit true = 1
bit false = 0

-- h 0 + .. + h (n - 1)
unfoldable pub sum : (ℕ → ℕ) → ℕ → ℕ
sum h zero = 0
sum h (suc n) = sum h n + h n

-- how many numbers below n pass the test p
unfoldable pub count : (ℕ → Bool) → ℕ → ℕ
count p n = sum (λ x. bit (p x)) n

-- whether every number below n passes the test p
unfoldable pub all : (ℕ → Bool) → ℕ → Bool
all p zero = true
all p (suc n) = all p n and p n

-- f i, f (i + 1), .., n entries
unfoldable pub from : {A : Type 0} → (ℕ → A) → ℕ → ℕ → List A
from f i zero = []
from f i (suc n) = f i ∷ from f (suc i) n

-- the lists one after the other
unfoldable pub joined : {A : Type 0} → List (List A) → List A
joined [] = []
joined (l ∷ ls) = l ++ joined ls

-- the entry before place i; 0 stands before the first
unfoldable pub before : List ℕ → ℕ → ℕ
before xs zero = 0
before xs (suc i) = get_or xs i 0
