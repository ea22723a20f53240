-- Laws of pages of rows: rows have five numbers, a page of two lists, and a page of rows made one by one. Assumes nothing.
use Prim.Native.Nat.{ℕ, zero, suc, ◌+◌, ◌-◌, ◌*◌, ◌/◌, min, ◌≤◌, ◌<◌}
use mathlib.Core.Path.{◌≡◌, refl, sym, ◌∙◌, ap}
use mathlib.Core.Logic.{⊎_elim}
use mathlib.Core.List.{List, [], ◌∷◌, ◌++◌, append-nil}
use native.Mathlib.Omega.{arith}
use lib.ListN.{length, take, drop, length-append, length-take, length-drop, drop_of_length-le}
use lib.Seq.{take-nil, take_all, take_at, drop_at, take-append-le, take-append-add, drop-append-le, drop-append-add}
use Rattle.model.specs.Basics.{if◌then◌otherwise◌, from, joined}
use Rattle.model.specs.Table.{Table, over}
use Rattle.model.specs.Relocations.{row, row_if, page}
use Rattle.model.specs.Expansion.{differs}
use Rattle.model.proofs.Counts.{bit_cases, below_or}
use Rattle.model.proofs.Tables.{length_from, from_append}

-- ROWS OF FIVE NUMBERS

abbrev pub Fives : List (List ℕ) → Type 0
Fives [] = Unit {0}
Fives (r ∷ rs) = (length r ≡ 5) × Fives rs

-- joined they are five times as many
pub fives_length : (rs : List (List ℕ)) → Fives rs → length (joined rs) ≡ 5 * length rs
unfolding joined
fives_length [] h = refl
fives_length (r ∷ rs) h = omega (arith, length-append r (joined rs), h.0, fives_length rs h.1)

pub fives_append : (rs ss : List (List ℕ)) → Fives rs → Fives ss → Fives (rs ++ ss)
fives_append [] ss h k = k
fives_append (r ∷ rs) ss h k = (h.0, fives_append rs ss h.1 k)

pub fives_take : (n : ℕ) (rs : List (List ℕ)) → Fives rs → Fives (take n rs)
fives_take zero rs h = tt
fives_take (suc n) [] h = tt
fives_take (suc n) (r ∷ rs) h = (h.0, fives_take n rs h.1)

pub fives_drop : (n : ℕ) (rs : List (List ℕ)) → Fives rs → Fives (drop n rs)
fives_drop zero rs h = h
fives_drop (suc n) [] h = tt
fives_drop (suc n) (r ∷ rs) h = fives_drop n rs h.1

pub fives_page : (q n : ℕ) (rs : List (List ℕ)) → Fives rs → Fives (page q n rs)
unfolding page
fives_page q n rs h = fives_take (n / 5) (drop q rs) (fives_drop q rs h)

pub fives_from : (f : ℕ → List ℕ) → ((x : ℕ) → length (f x) ≡ 5) → (i n : ℕ) → Fives (from f i n)
unfolding from
fives_from f h i zero = tt
fives_from f h i (suc n) = (h i, fives_from f h (suc i) n)

-- the rows of any two tables
fives_row : (t u : Table) (x : ℕ) → Fives (row_if t u x)
unfolding row_if row if◌then◌otherwise◌
fives_row t u x = ⊎_elim (λ e. rw e.0 (refl, tt)) (λ e. rw e.0 tt) (bit_cases (differs t u x))

pub fives_rows : (t u : Table) (i n : ℕ) → Fives (joined (from (row_if t u) i n))
unfolding joined from
fives_rows t u i zero = tt
fives_rows t u i (suc n) =
    fives_append (row_if t u i) (joined (from (row_if t u) (suc i) n)) (fives_row t u i) (fives_rows t u (suc i) n)

-- PAGES

module _ {A : Type 0} where
  take_append : (n : ℕ) (xs ys : List A) → take n (xs ++ ys) ≡ take n xs ++ take (n - length xs) ys
  take_append n xs ys =
      ⊎_elim
      (λ l.
      let none : n - length xs ≡ 0 = omega arith in
      take-append-le n xs ys (omega arith) ∙ rw none (sym (append-nil (take n xs))))
      (λ l.
      let more : n ≡ length xs + (n - length xs) = omega arith in
      ap (λ m. take m (xs ++ ys)) more
      ∙ take-append-add xs ys (n - length xs)
      ∙ ap (λ zs. zs ++ take (n - length xs) ys) (sym (take_all n xs l)))
      (below_or n (length xs))

  drop_append : (n : ℕ) (xs ys : List A) → drop n (xs ++ ys) ≡ drop n xs ++ drop (n - length xs) ys
  drop_append n xs ys =
      ⊎_elim
      (λ l.
      let none : n - length xs ≡ 0 = omega arith in
      drop-append-le n xs ys (omega arith) ∙ rw none refl)
      (λ l.
      let more : n ≡ length xs + (n - length xs) = omega arith in
      ap (λ m. drop m (xs ++ ys)) more
      ∙ drop-append-add xs ys (n - length xs)
      ∙ ap (λ zs. zs ++ drop (n - length xs) ys) (sym (drop_of_length-le xs l)))
      (below_or n (length xs))

  -- n entries from i on, less the first m, and the first m of them
  drop_from : (f : ℕ → A) (i n m : ℕ) → drop m (from f i n) ≡ from f (i + m) (n - m)
  unfolding from
  drop_from f i n m =
      ⊎_elim
      (λ l.
      let whole : n ≡ m + (n - m) = omega arith in
      ap (λ k. drop m (from f i k)) whole
      ∙ ap (drop m) (sym (from_append f i m (n - m)))
      ∙ drop_at (from f i m) (from f (i + m) (n - m)) m (length_from f i m))
      (λ l.
      let none : n - m ≡ 0 = omega arith in
      drop_of_length-le (from f i n) {i = m} (omega (arith, length_from f i n)) ∙ rw none refl)
      (below_or m n)

  take_from : (f : ℕ → A) (i n m : ℕ) → take m (from f i n) ≡ from f i (min m n)
  take_from f i n m =
      ⊎_elim
      (λ l.
      let whole : n ≡ m + (n - m) = omega arith in
      let less : m ≡ min m n = omega arith in
      ap (λ k. take m (from f i k)) whole
      ∙ ap (take m) (sym (from_append f i m (n - m)))
      ∙ take_at (from f i m) (from f (i + m) (n - m)) m (length_from f i m)
      ∙ ap (from f i) less)
      (λ l.
      let less : n ≡ min m n = omega arith in
      take_all m (from f i n) (omega (arith, length_from f i n)) ∙ ap (from f i) less)
      (below_or m n)

-- as many as remain or fit
pub page_length : (q n : ℕ) (rs : List (List ℕ)) → length (page q n rs) ≡ min (n / 5) (length rs - q)
unfolding page
page_length q n rs = length-take (n / 5) (drop q rs) ∙ ap (min (n / 5)) (length-drop q rs)

-- none where no whole row fits
pub page_none : (q n : ℕ) (rs : List (List ℕ)) → n / 5 ≡ 0 → page q n rs ≡ []
unfolding page
page_none q n rs e = rw e

pub page_left
    : (q n : ℕ) (rs : List (List ℕ)) (total : ℕ) → total ≡ length rs → total - q ≤ n / 5 → total - q ≡ length (page q n rs)
page_left q n rs total e l = omega (arith, page_length q n rs)

pub page_room
    : (q n : ℕ) (rs : List (List ℕ)) (total : ℕ) → total ≡ length rs → n / 5 < total - q → n / 5 ≡ length (page q n rs)
page_room q n rs total e l = omega (arith, page_length q n rs)

-- none where no row remains, and nothing is written
pub page_past
    : (q : ℕ) (rs : List (List ℕ)) (old : List ℕ) → length rs ≤ q
    → (0 ≡ length (page q (length old) rs)) × (old ≡ over (joined (page q (length old) rs)) old)
unfolding page over joined
page_past q rs old l =
    let none = ap (take (length old / 5)) (drop_of_length-le rs l) ∙ take-nil (length old / 5) in
    (rw none, rw none refl)

-- a page of a list and of one behind it
pub page_append
    : (q n : ℕ) (rs ss : List (List ℕ))
    → page q n (rs ++ ss) ≡ page q n rs ++ page (q - length rs) (n - 5 * (length rs - q)) ss
unfolding page
page_append q n rs ss =
    let left : n / 5 - length (drop q rs) ≡ (n - 5 * (length rs - q)) / 5 = omega (arith, length-drop q rs) in
    ap (take (n / 5)) (drop_append q rs ss)
    ∙ take_append (n / 5) (drop q rs) (drop (q - length rs) ss)
    ∙ ap (λ m. take (n / 5) (drop q rs) ++ take m (drop (q - length rs) ss)) left

-- a page of rows made one by one
pub page_from
    : (q n : ℕ) (f : ℕ → List ℕ) (i m : ℕ) → page q n (from f i m) ≡ from f (i + q) (min (n / 5) (m - q))
unfolding page
page_from q n f i m = ap (take (n / 5)) (drop_from f i m q) ∙ take_from f (i + q) (m - q) (n / 5)
