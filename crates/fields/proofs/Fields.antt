-- Laws of a number's digits in a field: with zeros before them, with blanks in their place, and stored up to a place. Assumes nothing.
use Prim.Native.Nat.{ℕ, zero, suc, ◌+◌, ◌-◌, ◌/◌, ◌%◌, ◌≤◌, ◌<◌}
use mathlib.Core.Path.{◌≡◌, refl, sym, ◌∙◌, ap}
use mathlib.Core.Logic.{⊎_elim}
use mathlib.Core.List.{List, [], ◌∷◌, ◌++◌, append-nil, append_assoc}
use native.Mathlib.Nat.{add-zero, zero-add}
use native.Mathlib.Omega.{arith}
use lib.ListN.{length, replicate, set, length-append, length-set, length-replicate, replicate-append-replicate}
use lib.Seq.{sets, length-sets, set-set}
use Rattle.model.specs.Decimal.{decimal}
use Rattle.model.specs.Sheet.{blanks, field}
use Rattle.model.proofs.Counts.{below_or}
use Rattle.model.proofs.Decimals.{decimal_one, decimal_short, decimal_few, decimal_some, decimal_many}
use Rattle.model.proofs.Entries.{sets_swap, sets_more, Put, put_none, put_more}
use Rattle.digits.specs.Parts.{pair_of, four_of}
use Rattle.decimal.proofs.Pairs.{decimal_two, decimal_pair, decimal_eight}

-- ZEROS BEFORE THE DIGITS

abbrev zeros : ℕ → List ℕ
zeros m = replicate m 48

-- the digits of n in m columns
abbrev pub padded : ℕ → ℕ → List ℕ
padded m n = zeros (m - length (decimal n)) ++ decimal n

padded_two : (n : ℕ) → n < 100 → pair_of n ≡ padded 2 n
padded_two n u =
    ⊎_elim
    (λ l.
    let none : 48 + n / 10 ≡ 48 = omega arith in
    let ones : 48 + n % 10 ≡ 48 + n = omega arith in
    rw (decimal_one n l, none, ones))
    (λ l. rw (decimal_two n l u))
    (below_or n 10)

-- the last two digits behind the others
padded_more
    : (m n : ℕ) (zs : List ℕ) → n < 10_000_000_000 → length (decimal (n / 100)) ≤ m → zs ≡ padded m (n / 100)
    → zs ++ pair_of (n % 100) ≡ padded (2 + m) n
padded_more m n zs f l e =
    ⊎_elim
    (λ u.
    let none : n / 100 ≡ 0 = omega arith in
    let same : n % 100 ≡ n = omega arith in
    let digit : decimal (n / 100) ≡ 48 ∷ [] = ap decimal none ∙ decimal_one 0 (omega arith) in
    let width : m - 1 + 1 ≡ m = omega (arith, ap length digit, l) in
    let first : zs ≡ zeros m =
    e
    ∙ ap (λ (ds : List ℕ). zeros (m - length ds) ++ ds) digit
    ∙ replicate-append-replicate (m - 1) 1 48
    ∙ ap zeros width in
    let columns : m + (2 - length (decimal n)) ≡ 2 + m - length (decimal n) = omega (arith, decimal_few 1 n u) in
    ap (λ (ds : List ℕ). ds ++ pair_of (n % 100)) first
    ∙ ap (λ k. zeros m ++ pair_of k) same
    ∙ ap (λ (ds : List ℕ). zeros m ++ ds) (padded_two n u)
    ∙ sym (append_assoc (zeros m) (zeros (2 - length (decimal n))) (decimal n))
    ∙ ap (λ (ds : List ℕ). ds ++ decimal n) (replicate-append-replicate m (2 - length (decimal n)) 48 ∙ ap zeros columns))
    (λ u.
    let whole = decimal_pair n f u in
    let columns : m - length (decimal (n / 100)) ≡ 2 + m - length (decimal n) =
    omega (arith, ap length whole, length-append (decimal (n / 100)) (pair_of (n % 100))) in
    ap (λ (ds : List ℕ). ds ++ pair_of (n % 100)) e
    ∙ append_assoc (zeros (m - length (decimal (n / 100)))) (decimal (n / 100)) (pair_of (n % 100))
    ∙ ap (λ (ds : List ℕ). zeros (m - length (decimal (n / 100))) ++ ds) (sym whole)
    ∙ ap (λ k. zeros k ++ decimal n) columns)
    (below_or n 100)

-- the two pairs of a number's last four digits
four_high : (n : ℕ) → n % 10_000 / 100 ≡ n / 100 % 100
four_high n = omega arith

four_low : (n : ℕ) → n % 10_000 % 100 ≡ n % 100
four_low n = omega arith

pub padded_eight : (n : ℕ) → n < 100_000_000 → four_of (n / 10_000) ++ four_of (n % 10_000) ≡ padded 8 n
padded_eight n u =
    let first : n / 100 / 100 ≡ n / 10_000 = omega arith in
    let two : pair_of (n / 10_000 / 100) ≡ padded 2 (n / 10_000 / 100) = padded_two (n / 10_000 / 100) (omega arith) in
    let four : four_of (n / 10_000) ≡ padded 4 (n / 10_000) =
    padded_more 2 (n / 10_000) _ (omega arith) (decimal_few 1 (n / 10_000 / 100) (omega arith)) two in
    let six : four_of (n / 10_000) ++ pair_of (n / 100 % 100) ≡ padded 6 (n / 100) =
    padded_more 4 (n / 100) (four_of (n / 10_000)) (omega arith) (rw first (decimal_few 3 (n / 10_000) (omega arith))) (rw first four) in
    rw (four_high n, four_low n)
    (padded_more 6 n (four_of (n / 10_000) ++ pair_of (n / 100 % 100)) (omega arith) (decimal_few 5 (n / 100) (omega arith)) six)

-- nine digits: a blank, the first, and the other eight
pub nine_field
    : (n : ℕ) → 100_000_000 ≤ n → n < 1_000_000_000
    → 32 ∷ (48 + n / 100_000_000) ∷ (four_of (n % 100_000_000 / 10_000) ++ four_of (n % 100_000_000 % 10_000)) ≡ field n
unfolding field
nine_field n l u =
    let eight = four_of (n % 100_000_000 / 10_000) ++ four_of (n % 100_000_000 % 10_000) in
    let digits : (48 + n / 100_000_000) ∷ eight ≡ decimal n =
    sym (decimal_eight n (omega arith) l ∙ ap (λ (ds : List ℕ). ds ++ eight) (decimal_one (n / 100_000_000) (omega arith)))
    in
    let width : 1 ≡ 10 - length (decimal n) = omega (arith, ap length digits) in
    ap (λ (ds : List ℕ). 32 ∷ ds) digits ∙ ap (λ k. blanks k ++ decimal n) width

-- BLANKS IN THEIR PLACE

-- one blank more
pub blanks_more : (j : ℕ) → blanks j ++ 32 ∷ [] ≡ blanks (j + 1)
blanks_more j = replicate-append-replicate j 1 32

-- an entry among those stored, stored anew
stored_anew
    : (xs ys l : List ℕ) (o y v : ℕ) → set (sets l o (xs ++ y ∷ ys)) (o + length xs) v ≡ sets l o (xs ++ v ∷ ys)
stored_anew [] ys l o y v =
    ap (λ k. set (sets (set l o y) (suc o) ys) k v) (add-zero o)
    ∙ sym (sets_swap (v ∷ []) ys (set l o y) o (suc o) (omega arith))
    ∙ ap (λ (m : List ℕ). sets m (suc o) ys) (set-set l o y v)
stored_anew (x ∷ xs) ys l o y v =
    let next : o + suc (length xs) ≡ suc o + length xs = omega arith in
    ap (λ k. set (sets (set l o x) (suc o) (xs ++ y ∷ ys)) k v) next ∙ stored_anew xs ys (set l o x) (suc o) y v

-- one more of the zeros before a number is covered by a blank
pub blank_next
    : (j m : ℕ) (ds : List ℕ) {at o : ℕ} {old out : List ℕ} → Put at o (blanks j ++ (zeros (suc m) ++ ds)) old out
    → Put at o (blanks (suc j) ++ (zeros m ++ ds)) old (set out (at + j) 32)
blank_next j m ds {at} {o} {old} {out} p =
    let more : blanks j ++ 32 ∷ (zeros m ++ ds) ≡ blanks (suc j) ++ (zeros m ++ ds) =
    let next : j + 1 ≡ suc j = omega arith in
    sym (append_assoc (blanks j) (32 ∷ []) (zeros m ++ ds))
    ∙ ap (λ (bs : List ℕ). bs ++ (zeros m ++ ds)) (blanks_more j ∙ ap blanks next) in
    let place : at + j ≡ at + length (blanks j) = ap (λ k. at + k) (sym (length-replicate j 32)) in
    record {
      place =
          omega (
            arith,
            p.place,
            ap length more,
            length-append (blanks j) (48 ∷ (zeros m ++ ds)),
            length-append (blanks j) (32 ∷ (zeros m ++ ds)),
          );
      holds =
          ap (λ (l : List ℕ). set l (at + j) 32) p.holds
          ∙ ap (λ k. set (sets old at (blanks j ++ 48 ∷ (zeros m ++ ds))) k 32) place
          ∙ stored_anew (blanks j) (zeros m ++ ds) old at 48 32
          ∙ ap (sets old at) more;
    }

-- z blanks from the third column on
unfoldable pub covered : ℕ → ℕ → List ℕ → List ℕ
covered at zero out = out
covered at (suc z) out = set (covered at z out) (at + (2 + z)) 32

covers
    : (z m : ℕ) (ds : List ℕ) {at o : ℕ} {old out : List ℕ} → Put at o (blanks 2 ++ (zeros (z + m) ++ ds)) old out
    → Put at o (blanks (2 + z) ++ (zeros m ++ ds)) old (covered at z out)
unfolding covered
covers zero m ds p = rw (← zero-add m) p
covers (suc z) m ds {at} {o} {old} {out} p =
    let next : suc z + m ≡ z + suc m = omega arith in
    let columns : suc (2 + z) ≡ 2 + suc z = omega arith in
    let before : Put at o (blanks (2 + z) ++ (zeros (suc m) ++ ds)) old (covered at z out) =
    covers z (suc m) ds (rw (← next) p) in
    rw (← columns) (blank_next (2 + z) m ds before)

-- two blanks and eight digits keep the length
pub middle_length
    : (n at : ℕ) (old out : List ℕ)
    → out ≡ sets (set (set old at 32) (at + 1) 32) (at + 2) (four_of (n / 10_000) ++ four_of (n % 10_000)) → length out ≡ length old
middle_length n at old out e =
    ap length e
    ∙ length-sets (set (set old at 32) (at + 1) 32) (at + 2) (four_of (n / 10_000) ++ four_of (n % 10_000))
    ∙ length-set (set old at 32) (at + 1) 32
    ∙ length-set old at 32

-- two blanks and eight digits, of which the number has all but z: with these covered, its field
pub middle_field
    : (z n at : ℕ) (old out : List ℕ) → n < 100_000_000 → length (decimal n) + z ≡ 8
    → out ≡ sets (set (set old at 32) (at + 1) 32) (at + 2) (four_of (n / 10_000) ++ four_of (n % 10_000))
    → covered at z out ≡ sets old at (field n)
unfolding field
middle_field z n at old out u e f =
    let one = put_more (put_none at old) {o' = at + 1} (32 ∷ []) refl refl in
    let two = put_more one {o' = at + 2} (32 ∷ []) refl (omega arith) in
    let all : Put at (at + 10) (blanks 2 ++ (four_of (n / 10_000) ++ four_of (n % 10_000))) old out =
    put_more two (four_of (n / 10_000) ++ four_of (n % 10_000)) f (omega arith) in
    let columns : 8 - length (decimal n) ≡ z + 0 = omega arith in
    let digits : four_of (n / 10_000) ++ four_of (n % 10_000) ≡ zeros (z + 0) ++ decimal n =
    padded_eight n u ∙ ap (λ k. zeros k ++ decimal n) columns in
    let start : Put at (at + 10) (blanks 2 ++ (zeros (z + 0) ++ decimal n)) old out = rw (← digits) all in
    let width : 2 + z ≡ 10 - length (decimal n) = omega arith in
    (covers z 0 (decimal n) start).holds ∙ ap (λ k. sets old at (blanks k ++ decimal n)) width

-- DIGITS UP TO A PLACE

-- entries stored where as many were
stored_again : (ys zs l : List ℕ) (o : ℕ) → length ys ≡ length zs → sets (sets l o ys) o zs ≡ sets l o zs
stored_again [] [] l o e = refl
stored_again [] (z ∷ zs) l o e = absurd (omega arith)
stored_again (y ∷ ys) [] l o e = absurd (omega arith)
stored_again (y ∷ ys) (z ∷ zs) l o e =
    ap (λ (m : List ℕ). sets m (suc o) zs)
    (sym (sets_swap (z ∷ []) ys (set l o y) o (suc o) (omega arith)) ∙ ap (λ (m : List ℕ). sets m (suc o) ys) (set-set l o y z))
    ∙ stored_again ys zs (set l o z) (suc o) (omega arith)

-- over blanks
pub over_blanks
    : (n at : ℕ) (old out out' : List ℕ) → out ≡ sets old at (blanks 10)
    → out' ≡ sets out (at + 10 - length (decimal n)) (decimal n) → out' ≡ sets old at (field n)
unfolding field
over_blanks n at old out out' e f =
    let len = length (decimal n) in
    let short = decimal_short n in
    let ten : 10 - len + len ≡ 10 = omega arith in
    let split : sets old at (blanks 10) ≡ sets (sets old at (blanks (10 - len))) (at + length (blanks (10 - len))) (blanks len) =
    ap (sets old at) (ap blanks (sym ten) ∙ sym (replicate-append-replicate (10 - len) len 32))
    ∙ sym (sets_more (blanks (10 - len)) (blanks len) old at) in
    let place : at + 10 - len ≡ at + length (blanks (10 - len)) =
    let width : length (blanks (10 - len)) ≡ 10 - len = length-replicate (10 - len) 32 in
    omega arith in
    let width : length (blanks len) ≡ len = length-replicate len 32 in
    f
    ∙ ap (λ (l : List ℕ). sets l (at + 10 - len) (decimal n)) (e ∙ split)
    ∙ ap (λ k. sets (sets (sets old at (blanks (10 - len))) (at + length (blanks (10 - len))) (blanks len)) k (decimal n)) place
    ∙ stored_again (blanks len) (decimal n) (sets old at (blanks (10 - len))) (at + length (blanks (10 - len))) width
    ∙ sets_more (blanks (10 - len)) (decimal n) old at

-- the last two digits of a field, then those before them
pub pair_before
    : (n at : ℕ) (old out out' : List ℕ) → 100 ≤ n → n < 10_000_000_000
    → out ≡ sets old (at + 8) (pair_of (n % 100))
    → out' ≡ sets out (at + 8 - length (decimal (n / 100))) (decimal (n / 100))
    → out' ≡ sets old (at + 10 - length (decimal n)) (decimal n)
pair_before n at old out out' l u e f =
    let len = length (decimal (n / 100)) in
    let whole = decimal_pair n u l in
    let short = decimal_short n in
    let more : length (decimal n) ≡ len + 2 = ap length whole ∙ length-append (decimal (n / 100)) (pair_of (n % 100)) in
    let start : at + 8 - len ≡ at + 10 - length (decimal n) = omega arith in
    let seam : at + 8 ≡ at + 8 - len + len = omega arith in
    f
    ∙ ap (λ (m : List ℕ). sets m (at + 8 - len) (decimal (n / 100))) e
    ∙ sym (sets_swap (decimal (n / 100)) (pair_of (n % 100)) old (at + 8 - len) (at + 8) (omega arith))
    ∙ ap (λ k. sets (sets old (at + 8 - len) (decimal (n / 100))) k (pair_of (n % 100))) seam
    ∙ sets_more (decimal (n / 100)) (pair_of (n % 100)) old (at + 8 - len)
    ∙ ap (sets old (at + 8 - len)) (sym whole)
    ∙ ap (λ k. sets old k (decimal n)) start

-- A NUMBER'S LAST DIGITS

-- `out` is `old` with the last digits of n up to place `stop`, from place `end` on; `rest` has those before them
pub record Ends (n stop end rest : ℕ) (old out : List ℕ) : Type 0 where
  pub last : List ℕ
  pub digits : decimal n ≡ decimal rest ++ last
  pub place : end + length last ≡ stop
  pub holds : out ≡ sets old end last

-- none yet
pub ends_none : (n stop end : ℕ) (old : List ℕ) → end ≡ stop → Ends n stop end n old old
ends_none n stop end old e =
    record { last = []; digits = sym (append-nil (decimal n)); place = add-zero end ∙ e; holds = refl }

module _ {n stop end rest : ℕ} {old out : List ℕ} (e : Ends n stop end rest old out) where
  -- those left fit before them
  pub ends_room : 10 ≤ stop → length (decimal rest) ≤ end
  ends_room ten =
      omega (
        arith,
        decimal_short n,
        ap length e.digits,
        length-append (decimal rest) e.last,
        e.place,
      )

  -- one, and two from 10 on
  pub ends_one : 10 ≤ stop → 1 ≤ end
  ends_one ten = omega (arith, ends_room ten, decimal_some rest)

  pub ends_two : 10 ≤ stop → 10 ≤ rest → 2 ≤ end
  ends_two ten l = omega (arith, ends_room ten, decimal_many 1 rest (omega arith) l)

  pub ends_within : end ≤ stop
  ends_within = omega (arith, e.place)

  pub ends_length : length out ≡ length old
  ends_length = ap length e.holds ∙ length-sets old end e.last

  -- more in front of them, at place i
  in_front_lem : (i : ℕ) (more out' : List ℕ) → i + length more ≡ end → out' ≡ sets out i more → out' ≡ sets old i (more ++ e.last)
  in_front_lem i more out' seam f =
      f
      ∙ ap (λ (l : List ℕ). sets l i more) e.holds
      ∙ sym (sets_swap more e.last old i end (omega (arith, seam)))
      ∙ ap (λ k. sets (sets old i more) k e.last) (sym seam)
      ∙ sets_more more e.last old i

  -- two more
  pub ends_pair
      : (out' : List ℕ) → 100 ≤ rest → rest < 10_000_000_000 → 2 ≤ end → out' ≡ sets out (end - 2) (pair_of (rest % 100))
      → Ends n stop (end - 2) (rest / 100) old out'
  ends_pair out' l u two f =
      record {
        last = pair_of (rest % 100) ++ e.last;
        digits =
            e.digits
            ∙ ap (λ (ds : List ℕ). ds ++ e.last) (decimal_pair rest u l)
            ∙ append_assoc (decimal (rest / 100)) (pair_of (rest % 100)) e.last;
        place = omega (arith, e.place);
        holds = in_front_lem (end - 2) (pair_of (rest % 100)) out' (omega arith) f;
      }

  -- all that are left
  pub ends_all
      : (out' : List ℕ) → length (decimal rest) ≤ end → out' ≡ sets out (end - length (decimal rest)) (decimal rest)
      → out' ≡ sets old (stop - length (decimal n)) (decimal n)
  ends_all out' l f =
      let size = ap length e.digits ∙ length-append (decimal rest) e.last in
      let place : end - length (decimal rest) ≡ stop - length (decimal n) = omega (arith, size, e.place) in
      in_front_lem (end - length (decimal rest)) (decimal rest) out' (omega (arith, l)) f
      ∙ ap (sets old (end - length (decimal rest))) (sym e.digits)
      ∙ ap (λ k. sets old k (decimal n)) place
