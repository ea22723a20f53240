-- Laws of the words that the mover reads and writes: a row's are its bucket's, and no two that matter are the same. Assumes nothing.
use Prim.Native.Nat.{ℕ, ◌+◌, ◌-◌, ◌*◌, ◌/◌, ◌%◌, ◌≤◌, ◌<◌}
use mathlib.Core.Path.{◌≡◌, refl, sym, ◌∙◌, ap, ap₂}
use mathlib.Core.Logic.{⊎_elim}
use mathlib.Core.Bool.{true, false}
use mathlib.Core.List.{List}
use native.Mathlib.Nat.{suc-mul, mul-le-mul_right, div-add-mod'}
use native.Mathlib.Omega.{arith}
use lib.ListN.{length, get_or}
use borrow.Author.Tests.{ltb-false, le-ltb, eqb-true, not-false}
use Rattle.model.specs.Basics.{if◌then◌otherwise◌}
use Rattle.model.specs.Limits.{label}
use Rattle.model.specs.Table.{bins, table}
use Rattle.model.specs.Place.{bin, position}
use Rattle.model.specs.Refusal.{first, order_past}
use Rattle.model.specs.Expansion.{some_fall, expanded, differs}
use Rattle.model.specs.Relocations.{row, rows}
use Rattle.model.specs.Calls.{table_tests, growth_tests, rows_of}
use Rattle.model.proofs.Counts.{below_or, count_most}
use Rattle.model.proofs.Refusals.{first_number, first_both, first_after, first_pass, first_none}
use Rattle.model.proofs.Ranks.{count_rises, count_reaches}
use Rattle.model.proofs.Places.{bin_of_lem}
use Rattle.model.proofs.Finds.{position_below_lem}
use Rattle.model.proofs.Soundness.{sound_iff_lem, table_numbered, growth_numbered}
use Rattle.model.proofs.Wells.{formed_well}
use Rattle.model.proofs.Growths.{Accepted, accepted, roomy, some_more}
use Rattle.model.proofs.Fits.{Fits, expanded_fits}
use Rattle.model.proofs.Kept.{places_kept}
use Rattle.model.proofs.Rows.{rows_order, row_at_lem, rows_falls, moved_place}
use Rattle.written.specs.Written.{bits_short}
use Rattle.mover_written.specs.Carry.{
  Growth,
  old_table,
  new_table,
  row_at,
  total,
  word_at,
  source,
  target,
  Told,
  every,
  bits,
  told_short,
  bucket_at,
  words_short,
  carry_tests,
  carry_refusal,
}
use Rattle.mover_written.specs.Run.{word_of, Enough}
use Rattle.mover_written.specs.Claims.{Moves, order, OrderRow, CarryFits}
use Rattle.mover_written.specs.Ready.{Ready}
use Rattle.mover_written.proofs.Copies.{Apart}

-- THE WORD OF A PLACE, where there are p positions to a bin

-- those of n bins are the first n * p, and those of the bins from n on come after them
word_below : (p n y q : ℕ) → y < n → q < p → y * p + q < n * p
word_below p n y q l k = omega (arith, mul-le-mul_right p l, suc-mul y p)

word_from : (p n y q : ℕ) → n ≤ y → n * p ≤ y * p + q
word_from p n y q l = omega (arith, mul-le-mul_right p l)

-- two places have the same only where they are the same
word_once : (p y q z r : ℕ) → q < p → r < p → y * p + q ≡ z * p + r → (y ≡ z) × (q ≡ r)
word_once p y q z r l k e =
    let same : y ≡ z =
    ⊎_elim
    (λ b. absurd (omega (arith, mul-le-mul_right p b, suc-mul y p)))
    (λ b.
    ⊎_elim
    (λ c. absurd (omega (arith, mul-le-mul_right p c, suc-mul z p)))
    (λ c. omega arith)
    (below_or z y))
    (below_or y z) in
    (same, omega (arith, ap (λ v. v * p) same))

-- WHAT A CALL IS TOLD

-- 42 is given exactly where this is not enough
pub told_enough : (g : Growth) (told : Told) → told_short g told ≡ false → Enough g told
unfolding told_short bits_short
told_enough g every e = tt
told_enough g (bits ws) e = ltb-false (64 * length ws) g.header.buckets e

pub enough_told : (g : Growth) (told : Told) → Enough g told → told_short g told ≡ false
unfolding told_short bits_short
enough_told g every l = refl
enough_told g (bits ws) l = le-ltb (64 * length ws) g.header.buckets l

-- THE LAST TESTS, and what an accepted call says, and the other way

-- too few words: 40, whatever the bits and the mark are
pub forty : (g : Growth) (told : Told) (ws : List ℕ) (m : ℕ) → words_short g ws ≡ true → first (carry_tests g told ws m) ≡ 40
unfolding carry_tests first if◌then◌otherwise◌
forty g told ws m e = rw e refl

pub accepted_ready
    : (g : Growth) (told : Told) (ws : List ℕ) (m : ℕ) → carry_refusal g told ws m ≡ 0
    → Ready g ws × Enough g told × (m ≤ total g)
unfolding carry_refusal carry_tests words_short
accepted_ready g told ws m e =
    let (tests, e₁) = first_both (table_tests g.header g.arrays) _ (table_numbered g.header g.arrays) e in
    let (growth, e₂) = first_both (growth_tests (old_table g) g.sizes) _ (growth_numbered (old_table g) g.sizes) e₁ in
    let (short, e₃) = first_number 40 (words_short g ws) _ (omega arith) e₂ in
    let (few, e₄) = first_number 42 (told_short g told) _ (omega arith) e₃ in
    let (past, e₅) = first_number 41 _ _ (omega arith) e₄ in (
      record { sound = (sound_iff_lem g.header g.arrays).0 tests; asked = growth; long = ltb-false (length ws) (g.sizes.bins * g.header.capacity) short },
      told_enough g told few,
      ltb-false _ _ past,
    )

pub ready_accepted
    : (g : Growth) (told : Told) (ws : List ℕ) (m : ℕ) → Ready g ws → Enough g told → m ≤ total g → carry_refusal g told ws m ≡ 0
unfolding carry_refusal carry_tests words_short
ready_accepted g told ws m r k l =
    first_after (table_tests g.header g.arrays) _ (table_numbered g.header g.arrays)
    ((sound_iff_lem g.header g.arrays).1 r.sound)
    ∙ first_after (growth_tests (old_table g) g.sizes) _ (growth_numbered (old_table g) g.sizes) r.asked
    ∙ first_pass (40, words_short g ws) _ (le-ltb _ _ r.long)
    (first_pass (42, told_short g told) _ (enough_told g told k)
    (first_pass (41, order_past (total g) m) _ (le-ltb _ _ l) first_none))

-- ROWS AND BUCKETS

-- the rows are as many as the moved buckets
pub total_moved : (g : Growth) → total g ≡ order g g.header.buckets
unfolding total order rows_of rows table
total_moved g = rows_order (old_table g) (new_table g) g.header.buckets

-- so at most as many as the buckets
pub total_most : (g : Growth) → total g ≤ g.header.buckets
unfolding order
total_most g = omega (arith, total_moved g, count_most (differs (old_table g) (new_table g)) g.header.buckets)

-- a moved bucket's row stands at its order number
pub order_row : OrderRow
unfolding order row_at rows_of table
order_row g x m = (
  omega (arith, total_moved g, count_rises (differs (old_table g) (new_table g)) x g.header.buckets m.1 m.0),
  row_at_lem (old_table g) (new_table g) x m.0 m.1,
)

-- so its bucket and its words are this bucket's
module _ (g : Growth) (x : ℕ) (m : Moves g x) where
  pub bucket_of_lem : bucket_at g (order g x) ≡ x
  unfolding row
  bucket_of_lem = ap (λ r. get_or r 0 0) (order_row g x m).1

  pub source_of : source g (order g x) ≡ word_of (old_table g) x
  unfolding source word_at row table
  source_of = ap (λ r. word_at g.header.capacity (get_or r 1 0) (get_or r 2 0)) (order_row g x m).1

  pub target_of : target g (order g x) ≡ word_of (new_table g) x
  unfolding target word_at row expanded table
  target_of = ap (λ r. word_at g.header.capacity (get_or r 3 0) (get_or r 4 0)) (order_row g x m).1

-- the bucket of row q
pub record Mover (g : Growth) (q : ℕ) : Type 0 where
  pub bucket : ℕ
  pub moves : Moves g bucket
  pub number : order g bucket ≡ q
  pub at : bucket_at g q ≡ bucket
  pub from : source g q ≡ word_of (old_table g) bucket
  pub to : target g q ≡ word_of (new_table g) bucket

pub mover : (g : Growth) (q : ℕ) → q < total g → Mover g q
unfolding order
mover g q l =
    let (x, below, moves, number) =
    count_reaches (differs (old_table g) (new_table g)) g.header.buckets q (omega (arith, total_moved g)) in
    record {
      bucket = x;
      moves = (below, moves);
      number = number;
      at = ap (bucket_at g) (sym number) ∙ bucket_of_lem g x (below, moves);
      from = ap (source g) (sym number) ∙ source_of g x (below, moves);
      to = ap (target g) (sym number) ∙ target_of g x (below, moves);
    }

-- NO TWO THAT MATTER ARE THE SAME

module _ (g : Growth) (ws : List ℕ) (ready : Ready g ws) where
  grows : Accepted (old_table g) g.sizes
  grows = accepted (old_table g) g.sizes ready.asked

  -- the places of the new map are of the sizes asked for
  pub new_fits : (x : ℕ) → x < g.sizes.buckets → Fits g.header.capacity g.sizes (new_table g) x
  unfolding table
  new_fits =
      expanded_fits (old_table g) g.sizes (formed_well g.header g.arrays ready.sound.formed) grows
      (roomy (old_table g) g.sizes ready.asked)

  -- an old bucket's old word is before those of the new bins
  old_before : (x : ℕ) → x < g.header.buckets → word_of (old_table g) x < bins (old_table g) * g.header.capacity
  unfolding table
  old_before x l =
      word_below _ _ _ _
      (bin_of_lem g.header g.arrays ready.sound.formed x l).1
      (position_below_lem g.header g.arrays ready.sound x l)

  -- the place of the bucket of row q in the new block
  module _ (q : ℕ) (l : q < total g) where
    abbrev d : ℕ
    d = g.sizes.bins - bins (old_table g)

    abbrev x : ℕ
    x = (mover g q l).bucket

    falls : some_fall (old_table g) g.sizes ≡ true
    unfolding total
    falls = rows_falls g.header g.arrays g.sizes ready.sound.formed ready.asked q l

    some : bins (old_table g) < g.sizes.bins
    some =
        some_more (old_table g) g.sizes (formed_well g.header g.arrays ready.sound.formed) grows falls

    new_at : (bin (new_table g) x ≡ bins (old_table g) + q % d) × (position (new_table g) x ≡ q / d + label)
    unfolding order table
    new_at =
        let m = mover g q l in
        let place =
        moved_place g.header g.arrays g.sizes ready.sound.formed ready.asked falls m.bucket m.moves.0 m.moves.1 in
        (place.0 ∙ ap (λ r. bins (old_table g) + r % d) m.number, place.1 ∙ ap (λ r. r / d + label) m.number)

    fits : Fits g.header.capacity g.sizes (new_table g) x
    unfolding table
    fits = new_fits x (omega (arith, (mover g q l).moves.0, grows.more_buckets))

    target_from : bins (old_table g) * g.header.capacity ≤ target g q
    unfolding expanded table
    target_from = rw (mover g q l).to (word_from _ _ _ _ (omega (arith, new_at)))

    pub target_below : target g q < length ws
    unfolding expanded table
    target_below =
        rw (mover g q l).to
        (omega (arith, ready.long, word_below g.header.capacity g.sizes.bins _ _ fits.0 fits.1))

    pub source_below : source g q < length ws
    source_below =
        omega (
          arith,
          (mover g q l).from,
          old_before x (mover g q l).moves.0,
          mul-le-mul_right g.header.capacity grows.more_bins,
          ready.long,
        )

  -- no destination is an old bucket's old place
  pub old_no_target
      : (q : ℕ) → q < total g → (x : ℕ) → x < g.header.buckets → word_of (old_table g) x ≡ target g q → ⊥
  old_no_target q l x k e = omega (arith, old_before x k, target_from q l)

  -- no two rows have the same destination
  pub target_once : (q r : ℕ) → q < total g → r < total g → target g q ≡ target g r → q ≡ r
  unfolding expanded table
  target_once q r l k e =
      let d = g.sizes.bins - bins (old_table g) in
      let (bq, pq) = new_at q l in
      let (br, pr) = new_at r k in
      let (same, level) =
      word_once g.header.capacity _ _ _ _ (fits q l).1 (fits r k).1 (sym (mover g q l).to ∙ e ∙ (mover g r k).to) in
      let rests : q % d ≡ r % d = omega arith in
      let quotients : q / d ≡ r / d = omega arith in
      omega (arith, div-add-mod' q d, div-add-mod' r d, ap (λ v. v * d) quotients)

  pub apart : Apart (source g) (target g) (total g) (length ws)
  apart =
      record {
        room = target_below;
        other = λ q r l k e. old_no_target r k (mover g q l).bucket (mover g q l).moves.0 (sym (mover g q l).from ∙ e);
        once = λ q r l k e. omega (arith, target_once q r (omega arith) k e);
      }

  -- an old bucket that does not move has the same word in both maps
  pub same_word
      : (x : ℕ) → x < g.header.buckets → differs (old_table g) (new_table g) x ≡ false
      → word_of (new_table g) x ≡ word_of (old_table g) x
  unfolding differs expanded table
  same_word x l e =
      ⊎_elim
      (λ k. ap₂ (λ y q. y * g.header.capacity + q) k.0 k.1)
      (λ k.
      absurd
      (omega (
        arith,
        k.0,
        eqb-true (bin (old_table g) x) (bin (new_table g) x) (not-false _ e),
        (bin_of_lem g.header g.arrays ready.sound.formed x l).1,
      )))
      (places_kept g.header g.arrays g.sizes ready.sound.formed ready.asked x l)

pub carry_fits_lem : CarryFits
carry_fits_lem g told ws m e = new_fits g ws (accepted_ready g told ws m e).0
