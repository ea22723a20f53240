-- Laws of a list of buckets placed at once: its numbers, and its refusals. Assumes nothing.
use Prim.Native.Nat.{ℕ, zero, suc, ◌+◌, ◌*◌, ◌≤◌, ◌<◌}
use mathlib.Core.Path.{◌≡◌, refl, sym, ◌∙◌, ap, subst}
use mathlib.Core.Logic.{◌⊎◌, ⊎_elim, inl, inr}
use mathlib.Core.Bool.{true, false, not}
use mathlib.Core.List.{List, [], ◌∷◌, map}
use native.Mathlib.Omega.{arith}
use lib.ListN.{length, get_or}
use lib.Dec.{leb}
use borrow.Author.Tests.{not-true, not-false, leb-true, leb-false, le-leb, lt-leb}
use Rattle.model.specs.Basics.{before, joined}
use Rattle.model.specs.Table.{Table, Arrays, table}
use Rattle.model.specs.Place.{bin, position, place, places}
use Rattle.model.specs.Refusal.{Test, first, bucket_past, some_past, falls, result_short}
use Rattle.model.specs.Search.{place_at}
use Rattle.model.specs.Calls.{table_tests, place_answer, place_reply, places_tests, places_refusal, places_after}
use Rattle.model.specs.TableClaims.{FallsWhere, Single, SomeOutside, PlacesSingle}
use Rattle.model.specs.declared.table.Header.{Header}
use Rattle.model.proofs.Mapped.{mapped_length}
use Rattle.model.proofs.Counts.{bit_cases, below_or, all_at}
use Rattle.model.proofs.Refusals.{first_number, first_other, first_both, first_after, first_found, first_skip, first_here, first_none, accepted, not_clear}
use Rattle.model.proofs.Rules.{all_fails, all_fails_at, before_next}
use Rattle.model.proofs.Tables.{get_d_over}
use Rattle.model.proofs.Soundness.{table_numbered}
use Rattle.model.proofs.Searches.{placed, outside, place_answered}

-- THE NUMBERS

-- two numbers a bucket
pub length_places : (t : Table) (xs : List ℕ) → length (places t xs) ≡ 2 * length xs
unfolding places place
length_places t = mapped_length (place t) 2 (λ x. refl)

-- those of bucket i are at 2i and 2i + 1
pub places_at
    : (t : Table) (xs : List ℕ) (i : ℕ) → i < length xs
    → (get_or (places t xs) (2 * i) 0 ≡ bin t (get_or xs i 0)) × (get_or (places t xs) (2 * i + 1) 0 ≡ position t (get_or xs i 0))
unfolding places joined place
places_at t [] i l = absurd (omega arith)
places_at t (x ∷ xs) zero l = (refl, refl)
places_at t (x ∷ xs) (suc i) l =
    let rest = places_at t xs i (omega arith) in
    let here : 2 * suc i ≡ suc (suc (2 * i)) = omega arith in
    let next : 2 * suc i + 1 ≡ suc (suc (2 * i + 1)) = omega arith in
    let numbers = bin t x ∷ position t x ∷ joined (map (place t) xs) in
    (ap (λ k. get_or numbers k 0) here ∙ rest.0, ap (λ k. get_or numbers k 0) next ∙ rest.1)

-- THE TESTS OF A LIST

-- a list falls where a bucket is smaller than the one before it
falls_at : (xs : List ℕ) → falls xs ≡ true → (i : ℕ) × (i + 1 < length xs) × (get_or xs (i + 1) 0 < get_or xs i 0)
unfolding falls before
falls_at xs e = at k.0 k.1 (leb-false _ _ k.2)
  where
    k : (i : ℕ) × (i < length xs) × (leb (before xs i) (get_or xs i 0) ≡ false)
    k = all_fails_at (λ i. leb (before xs i) (get_or xs i 0)) (length xs) (not-true _ e)

    at : (i : ℕ) → i < length xs → get_or xs i 0 < before xs i → (j : ℕ) × (j + 1 < length xs) × (get_or xs (j + 1) 0 < get_or xs j 0)
    at zero l f = absurd (omega arith)
    at (suc j) l f = let next : j + 1 ≡ suc j = omega arith in (j, rw next l, rw next f)

falls_here : (xs : List ℕ) → (i : ℕ) × (i + 1 < length xs) × (get_or xs (i + 1) 0 < get_or xs i 0) → falls xs ≡ true
unfolding falls
falls_here xs (i, l, f) =
    rw
    (all_fails (λ i. leb (before xs i) (get_or xs i 0)) (length xs) (i + 1) l
    (lt-leb (before xs (i + 1)) (get_or xs (i + 1) 0) (omega (arith, f, before_next xs i))))

pub falls_where_lem : FallsWhere
falls_where_lem xs = (falls_at xs, falls_here xs)

-- in a list that does not fall no bucket is above a later one
pub falls_not : (xs : List ℕ) → falls xs ≡ false → (i j : ℕ) → i ≤ j → j < length xs → get_or xs i 0 ≤ get_or xs j 0
unfolding falls before
falls_not xs f i zero l m = let same : i ≡ 0 = omega arith in rw same (omega arith)
falls_not xs f i (suc j) l m =
    let next : get_or xs j 0 ≤ get_or xs (suc j) 0 =
    leb-true _ _ (all_at (λ k. leb (before xs k) (get_or xs k 0)) (length xs) (not-false _ f) (suc j) m) in
    ⊎_elim
    (λ k. omega (arith, next, falls_not xs f i j (omega arith) (omega arith)))
    (λ (k : suc j ≤ i). let same : i ≡ suc j = omega arith in rw same (omega arith))
    (below_or i (suc j))

-- no bucket is past the last one, or some bucket is
pub past_none : (t : Table) (xs : List ℕ) → some_past t xs ≡ false → (i : ℕ) → i < length xs → get_or xs i 0 < t.buckets
unfolding some_past bucket_past
past_none t xs e i l =
    leb-false _ _ (not-true _ (all_at (λ k. not (bucket_past t (get_or xs k 0))) (length xs) (not-false _ e) i l))

past_some : (t : Table) (xs : List ℕ) → some_past t xs ≡ true → (i : ℕ) × (i < length xs) × (t.buckets ≤ get_or xs i 0)
unfolding some_past bucket_past
past_some t xs e =
    let at = all_fails_at (λ k. not (bucket_past t (get_or xs k 0))) (length xs) (not-true _ e) in
    (at.0, at.1, leb-true _ _ (not-false _ at.2))

past_here : (t : Table) (xs : List ℕ) (i : ℕ) → i < length xs → t.buckets ≤ get_or xs i 0 → some_past t xs ≡ true
unfolding some_past bucket_past
past_here t xs i l p =
    rw (all_fails (λ k. not (bucket_past t (get_or xs k 0))) (length xs) i l (not_clear _ (le-leb t.buckets (get_or xs i 0) p)))

-- of a list that does not fall the last bucket alone decides
pub last_decides
    : (t : Table) (xs : List ℕ) (n : ℕ) → length xs ≡ n + 1 → falls xs ≡ false → some_past t xs ≡ leb t.buckets (get_or xs n 0)
last_decides t xs n e f =
    ⊎_elim
    (λ y.
    let at = past_some t xs y.0 in
    y.0 ∙ sym (le-leb t.buckets (get_or xs n 0) (omega (arith, at.2, falls_not xs f at.0 n (omega (arith, at.1)) (omega arith)))))
    (λ y. y.0 ∙ sym (lt-leb t.buckets (get_or xs n 0) (past_none t xs y.0 n (omega arith))))
    (bit_cases (some_past t xs))

-- THE REFUSALS OF A LIST

-- every number of a list of tests is at least n; then so is the first one's that holds
abbrev AtLeast : ℕ → List Test → Type 0
AtLeast n [] = Unit
AtLeast n (t ∷ ts) = (n ≤ t.0) × AtLeast n ts

first_least : (n : ℕ) (ts : List Test) → AtLeast n ts → (first ts ≡ 0) ⊎ (n ≤ first ts)
first_least n [] a = inl first_none
first_least n (t ∷ ts) a =
    ⊎_elim
    (λ h. inr (subst (λ k. n ≤ k) (sym (first_here t ts h.0)) a.0))
    (λ h. subst (λ k. (k ≡ 0) ⊎ (n ≤ k)) (sym (first_skip t ts h.0)) (first_least n ts a.1))
    (bit_cases t.1)

-- so no table is refused by 6
table_least : (h : Header) (a : Arrays) → (first (table_tests h a) ≡ 0) ⊎ (11 ≤ first (table_tests h a))
unfolding table_tests
table_least h a = first_least 11 (table_tests h a) (omega arith)

-- what single placings answer where the table is right
module _ (h : Header) (a : Arrays) (e : first (table_tests h a) ≡ 0) (x : ℕ) where
  place_alone : place_reply h a x ≡ place_at (table h a) x
  unfolding place_reply
  place_alone =
      ap (λ r. place_answer r (table h a) x) (first_after (table_tests h a) _ (table_numbered h a) e) ∙ place_answered (table h a) x

  place_within : x < h.buckets → place_reply h a x ≡ record { refusal = 0; bin = bin (table h a) x; position = position (table h a) x }
  unfolding table
  place_within l = place_alone ∙ placed (table h a) x l

  place_outside : h.buckets ≤ x → place_reply h a x ≡ record { refusal = 6; bin = 0; position = 0 }
  unfolding table
  place_outside l = place_alone ∙ outside (table h a) x l

-- what an accepted list and one refused by 6 have passed
module _ (h : Header) (a : Arrays) (xs out : List ℕ) where
  accepted_passes
      : places_refusal h a xs out ≡ 0 → (first (table_tests h a) ≡ 0) × ((i : ℕ) → i < length xs → get_or xs i 0 < h.buckets)
  unfolding places_refusal places_tests table
  accepted_passes e =
      let (room, q₁) = first_number 33 (result_short xs out) _ (omega arith) e in
      let (tests, q₂) = first_both (table_tests h a) _ (table_numbered h a) q₁ in
      let (rise, q₃) = first_number 32 (falls xs) _ (omega arith) q₂ in
      let (within, q₄) = first_number 6 (some_past (table h a) xs) _ (omega arith) q₃ in
      (tests, past_none (table h a) xs within)

  single : places_refusal h a xs out ≡ 0 → Single h a xs out
  unfolding places_after
  single e i l =
      let passed = accepted_passes e in
      let here = places_at (table h a) xs i l in
      let long = length_places (table h a) xs in
      let reply = place_within h a passed.0 (get_or xs i 0) (passed.1 i l) in
      let left : (k : ℕ) → k < 2 * length xs → get_or (places_after h a xs out) k 0 ≡ get_or (places (table h a) xs) k 0 =
      λ k m. ap (λ o. get_or o k 0) (accepted (places_refusal h a xs out) _ _ e) ∙ get_d_over (places (table h a) xs) out k (omega (arith, long)) in (
        ap (λ r. r.refusal) reply,
        left (2 * i) (omega arith) ∙ here.0 ∙ sym (ap (λ r. r.bin) reply),
        left (2 * i + 1) (omega arith) ∙ here.1 ∙ sym (ap (λ r. r.position) reply),
      )

  outside_passes
      : places_refusal h a xs out ≡ 6
      → (result_short xs out ≡ false) × (first (table_tests h a) ≡ 0) × (falls xs ≡ false) × (some_past (table h a) xs ≡ true)
  unfolding places_refusal places_tests
  outside_passes e =
      let (room, q₁) = first_other 33 6 (result_short xs out) _ (λ z. omega arith) e in
      let tests : first (table_tests h a) ≡ 0 =
      ⊎_elim
      (λ z. z)
      (λ m. absurd (omega (arith, m, first_found (table_tests h a) (places_tests (table h a) xs) (λ z. omega (arith, z, m)), q₁)))
      (table_least h a) in
      let (rise, q₂) = first_other 32 6 (falls xs) _ (λ z. omega arith) (sym (first_after (table_tests h a) _ (table_numbered h a) tests) ∙ q₁) in
      let past : some_past (table h a) xs ≡ true =
      ⊎_elim
      (λ y. y.0)
      (λ n. absurd (omega (arith, first_skip (6, some_past (table h a) xs) [] n.0, q₂, first_none)))
      (bit_cases (some_past (table h a) xs)) in
      (room, tests, rise, past)

  outside_alone
      : first (table_tests h a) ≡ 0 → some_past (table h a) xs ≡ true → SomeOutside h a xs
  unfolding table
  outside_alone e p =
      let at = past_some (table h a) xs p in
      (at.0, at.1, ap (λ r. r.refusal) (place_outside h a e (get_or xs at.0 0) at.2))

  alone_outside : first (table_tests h a) ≡ 0 → SomeOutside h a xs → some_past (table h a) xs ≡ true
  unfolding table
  alone_outside e s =
      ⊎_elim
      (λ l. absurd (omega (arith, s.2, ap (λ r. r.refusal) (place_within h a e (get_or xs s.0 0) l))))
      (λ l. past_here (table h a) xs s.0 s.1 l)
      (below_or (get_or xs s.0 0) h.buckets)

  refused_outside
      : (result_short xs out ≡ false) × (first (table_tests h a) ≡ 0) × (falls xs ≡ false) × SomeOutside h a xs
      → places_refusal h a xs out ≡ 6
  unfolding places_refusal places_tests
  refused_outside p =
      first_skip (33, result_short xs out) _ p.0
      ∙ first_after (table_tests h a) _ (table_numbered h a) p.1
      ∙ first_skip (32, falls xs) _ p.2
      ∙ first_here (6, some_past (table h a) xs) [] (alone_outside p.1 p.3)

pub places_single_lem : PlacesSingle
places_single_lem h a xs out = (
  single h a xs out,
  (
    λ e. let p = outside_passes h a xs out e in (p.0, p.1, p.2, outside_alone h a xs out p.1 p.3),
    refused_outside h a xs out,
  ),
)
