-- Laws of a number in a line, and what the loop that reads it keeps. Assumes nothing.
use Prim.Native.Nat.{ℕ, zero, suc, ◌+◌, ◌-◌, ◌*◌, ◌≤◌, ◌<◌}
use mathlib.Core.Path.{◌≡◌, refl, sym, ◌∙◌, ap, subst}
use mathlib.Core.Bool.{true}
use mathlib.Core.Logic.{⊎_elim}
use mathlib.Core.List.{List, [], ◌∷◌}
use native.Mathlib.Nat.{add-zero}
use native.Mathlib.Omega.{arith}
use Rattle.std.specs.Prelude.{Some, None}
use lib.ListN.{length, take, drop, get_or, length-take, length-drop}
use lib.Seq.{get_or-take, get_or-drop}
use borrow.Author.Tests.{leb-true, le-leb}
use Rattle.model.specs.Basics.{if◌then◌otherwise◌, ◌and◌}
use Rattle.model.specs.Decimal.{digits_only, value_from, value}
use Rattle.model.specs.Console.{is_number}
use Rattle.model.proofs.Counts.{bit_cases, and_left, and_right, and_both}
use Rattle.lines.specs.Words.{up_to, word_at, number_at, bytes_at}
use Rattle.lines.proofs.Bytes.{bytes_next}
use Rattle.lines.proofs.Spans.{Reached, reached_start, reached_next, reached_end, span_next, none_at, none_at_end}

-- what makes a word a number
pub record IsNumber (w : List ℕ) : Type 0 where
  pub some : 1 ≤ length w
  pub few : length w ≤ 10
  pub digits : digits_only w ≡ true
  pub fits : value w ≤ 4_294_967_295

pub number_is : (w : List ℕ) → is_number w ≡ true → IsNumber w
unfolding is_number
number_is w h =
    let lengths = and_left _ _ (and_left _ _ h) in
    record {
      some = leb-true _ _ (and_left _ _ lengths);
      few = leb-true _ _ (and_right _ _ lengths);
      digits = and_right _ _ (and_left _ _ h);
      fits = leb-true _ _ (and_right _ _ h);
    }

is_number_lem : (w : List ℕ) → IsNumber w → is_number w ≡ true
unfolding is_number
is_number_lem w n =
    and_both _ _
    (and_both _ _ (and_both _ _ (le-leb _ _ n.some) (le-leb _ _ n.few)) n.digits)
    (le-leb _ _ n.fits)

-- the first byte of digits
pub first_digit : (c : ℕ) (w : List ℕ) → digits_only (c ∷ w) ≡ true → (48 ≤ c) × (c ≤ 57)
unfolding digits_only
first_digit c w h =
    let both = and_left _ _ h in
    (leb-true _ _ (and_left _ _ both), leb-true _ _ (and_right _ _ both))

digits_next : (c : ℕ) (w : List ℕ) → 48 ≤ c → c ≤ 57 → digits_only (c ∷ w) ≡ digits_only w
unfolding digits_only ◌and◌
digits_next c w h k = rw (le-leb 48 c h, le-leb c 57 k)

-- a value only grows
value_grows : (v : ℕ) (w : List ℕ) → v ≤ value_from v w
unfolding value_from
value_grows v [] = omega arith
value_grows v (c ∷ w) = omega (arith, value_grows (10 * v + (c - 48)) w)

-- THE LOOP

-- the bytes from place `from` up to place `end`, where an e ends a number, are digits of value v, which is at most the limit and
-- one more digit
pub record Digits (e : ℕ) (l : List ℕ) (from end v : ℕ) : Type 0 where
  pub reached : Reached e l from end
  pub digits : digits_only (up_to e (drop from l)) ≡ digits_only (up_to e (drop end l))
  pub values : value (up_to e (drop from l)) ≡ value_from v (up_to e (drop end l))
  pub small : v ≤ 42_949_672_959

pub digits_none : (e : ℕ) (l : List ℕ) (from : ℕ) → from ≤ length l → Digits e l from from 0
unfolding value
digits_none e l from h =
    record { reached = reached_start e l from h; digits = refl; values = refl; small = omega arith }

module _ {e : ℕ} {l : List ℕ} {from end v : ℕ} (s : Digits e l from end v) where
  -- at a byte that is no e
  module _ (i : end < length l) (b : get_or l end 0 ≡ e → ⊥) where
    next : up_to e (drop end l) ≡ get_or l end 0 ∷ up_to e (drop (end + 1) l)
    next = span_next e l end i b

    pub digits_more
        : 48 ≤ get_or l end 0 → get_or l end 0 ≤ 57 → v ≤ 4_294_967_295
        → Digits e l from (end + 1) (10 * v + (get_or l end 0 - 48))
    unfolding value_from
    digits_more h k f =
        record {
          reached = reached_next s.reached i b;
          digits = s.digits ∙ ap digits_only next ∙ digits_next (get_or l end 0) (up_to e (drop (end + 1) l)) h k;
          values = s.values ∙ ap (value_from v) next;
          small = omega arith;
        }

  -- at the word's end
  module _ (none : up_to e (drop end l) ≡ []) where
    pub digits_value : value (up_to e (drop from l)) ≡ v
    unfolding value_from
    digits_value = s.values ∙ ap (value_from v) none

    pub digits_ended : end ≡ from + length (up_to e (drop from l))
    digits_ended = reached_end s.reached none

    pub digits_number : (end ≡ from → ⊥) → end - from ≤ 10 → v ≤ 4_294_967_295 → is_number (up_to e (drop from l)) ≡ true
    unfolding digits_only
    digits_number h f k =
        is_number_lem (up_to e (drop from l))
        (record {
          some = omega (arith, digits_ended, s.reached.later);
          few = omega (arith, digits_ended);
          digits = s.digits ∙ ap digits_only none;
          fits = omega (arith, digits_value);
        })

  -- no number: a byte that is no digit, a value above the limit, no digit at all, too many digits
  pub not_digit
      : (i : end < length l) → (get_or l end 0 ≡ e → ⊥) → (48 ≤ get_or l end 0 → get_or l end 0 ≤ 57 → ⊥)
      → is_number (up_to e (drop from l)) ≡ true → ⊥
  not_digit i b h t =
      let all = sym (ap digits_only (next i b)) ∙ sym s.digits ∙ (number_is _ t).digits in
      let d = first_digit (get_or l end 0) (up_to e (drop (end + 1) l)) all in
      h d.0 d.1

  pub too_large : 4_294_967_295 < v → is_number (up_to e (drop from l)) ≡ true → ⊥
  too_large h t = omega (arith, (number_is _ t).fits, s.values, value_grows v (up_to e (drop end l)))

  pub none_there : up_to e (drop end l) ≡ [] → end ≡ from → is_number (up_to e (drop from l)) ≡ true → ⊥
  none_there none h t = omega (arith, (number_is _ t).some, digits_ended none)

  pub too_many
      : (i : end < length l) → (get_or l end 0 ≡ e → ⊥) → from + 10 ≤ end → is_number (up_to e (drop from l)) ≡ true → ⊥
  too_many i b h t = omega (arith, (number_is _ t).few, s.reached.ends, ap length (next i b))

-- ITEM i OF A PART that begins at place `start`, where the loop goes over the part
module _
    {e : ℕ} {l : List ℕ} {from end v : ℕ} (s : Digits e l from end v) (start n i : ℕ) (here : end ≡ start + i)
    (h : i < length (take n (drop start l)))
  where
    abbrev item : ℕ
    item = get_or (take n (drop start l)) i 0

    pub item_within : end < length l
    item_within = omega (arith, length-take n (drop start l), length-drop start l)

    pub item_at : get_or l end 0 ≡ item
    item_at =
        ap (λ i. get_or l i 0) here
        ∙ sym (get_or-take n (drop start l) i 0 (omega (arith, length-take n (drop start l))) ∙ get_or-drop start l i 0)

    pub item_more : (item ≡ e → ⊥) → 48 ≤ item → item ≤ 57 → v ≤ 4_294_967_295 → Digits e l from (end + 1) (10 * v + (item - 48))
    item_more b h k f =
        subst (λ c. Digits e l from (end + 1) (10 * v + (c - 48))) item_at
        (digits_more s item_within (λ z. b (sym item_at ∙ z)) (omega (arith, item_at)) (omega (arith, item_at)) f)

    pub item_wrong
        : (item ≡ e → ⊥) → (48 ≤ item → item ≤ 57 → ⊥) → is_number (up_to e (drop from l)) ≡ true → ⊥
    item_wrong b h = not_digit s item_within (λ z. b (sym item_at ∙ z)) (λ h' k. h (omega (arith, item_at)) (omega (arith, item_at)))

    pub item_ends : item ≡ e → up_to e (drop end l) ≡ []
    item_ends h = none_at s.reached item_within (item_at ∙ h)

-- and past its items
pub items_end
    : {e : ℕ} {l : List ℕ} {from end v : ℕ} → Digits e l from end v → (start i : ℕ) → end ≡ start + i
    → length (take (length l - start) (drop start l)) ≤ i → up_to e (drop end l) ≡ []
items_end {e} {l} s start i here h =
    none_at_end s.reached (omega (arith, length-take (length l - start) (drop start l), length-drop start l))

-- n digits at once
pub digits_run
    : {e : ℕ} {l : List ℕ} {from : ℕ} (n end v : ℕ) → Digits e l from end v → end + n ≤ length l → e < 48
    → digits_only (bytes_at l end n) ≡ true → value_from v (bytes_at l end n) ≤ 4_294_967_295
    → Digits e l from (end + n) (value_from v (bytes_at l end n))
unfolding value_from
digits_run zero end v s h k d f = rw (add-zero end) s
digits_run {e} {l} {from} (suc n) end v s h k d f =
    let next = bytes_next l end (end + 1) n (omega arith) refl in
    let d' = sym (ap digits_only next) ∙ d in
    let one = first_digit (get_or l end 0) (bytes_at l (end + 1) n) d' in
    let rest = sym (digits_next (get_or l end 0) (bytes_at l (end + 1) n) one.0 one.1) ∙ d' in
    let worth : value_from v (bytes_at l end (suc n)) ≡ value_from (10 * v + (get_or l end 0 - 48)) (bytes_at l (end + 1) n) = ap (value_from v) next in
    let more = digits_more s (omega arith) (λ e. omega (arith, one)) one.0 one.1 (omega (arith, value_grows v (bytes_at l end (suc n)))) in
    let on : end + 1 + n ≡ end + suc n = omega arith in
    subst (λ x. Digits e l from (end + suc n) x) (sym worth)
    (subst (λ x. Digits e l from x (value_from (10 * v + (get_or l end 0 - 48)) (bytes_at l (end + 1) n))) on
    (digits_run n (end + 1) (10 * v + (get_or l end 0 - 48)) more (omega arith) k rest (omega (arith, worth))))

-- A WORD, up to a blank

-- no number
pub not_number : (l : List ℕ) (from : ℕ) → (is_number (word_at l from) ≡ true → ⊥) → None ≡ number_at l from
unfolding number_at if◌then◌otherwise◌
not_number l from h = ⊎_elim (λ t. absurd (h t.0)) (λ t. rw t.0) (bit_cases (is_number (word_at l from)))

module _ {l : List ℕ} {from end v : ℕ} (s : Digits 32 l from end v) where
  pub digits_large : 4_294_967_295 < v → None ≡ number_at l from
  digits_large h = not_number l from (too_large s h)

  -- at the word's end
  module _ (e : word_at l end ≡ []) where
    pub digits_empty : end ≡ from → None ≡ number_at l from
    digits_empty h = not_number l from (none_there s e h)

    pub digits_many : 10 < end - from → None ≡ number_at l from
    digits_many h = not_number l from (λ t. omega (arith, (number_is _ t).few, digits_ended s e))

    pub digits_end
        : (end ≡ from → ⊥) → end - from ≤ 10 → v ≤ 4_294_967_295 → Some (record { value = v; end = end }) ≡ number_at l from
    unfolding number_at if◌then◌otherwise◌
    digits_end h f k = rw (digits_number s e h f k, digits_value s e, ← digits_ended s e)
