-- Laws of slots, and of rows written into a buffer. Assumes nothing.
use Prim.Native.Nat.{ℕ, ◌+◌, ◌-◌, ◌*◌, ◌/◌, ◌%◌, ◌≤◌, ◌<◌}
use mathlib.Core.Path.{◌≡◌, refl, sym, ◌∙◌, ap, ap₂}
use mathlib.Core.List.{List, [], ◌∷◌, ◌++◌, append-nil, append_assoc}
use native.Mathlib.Nat.{div-add-mod', mod-lt, mul-add-mod_self_right, mod-eq_of_lt, mul-add-div_right, div-eq_of_lt, add-zero, add-mul}
use native.Mathlib.Omega.{arith}
use lib.ListN.{length, take, drop, length-append, length-drop, take-append-drop}
use lib.Seq.{sets, sets-eq, length-take-le, take_at, drop-append-add, drop-drop}
use Rattle.model.specs.Basics.{from, joined}
use Rattle.model.specs.Limits.{max_buckets, label}
use Rattle.model.proofs.Tables.{length_from, from_append}
use Rattle.model.proofs.Rows.{joined_append}
use Rattle.model.proofs.Pages.{Fives, fives_length, fives_from}
use Rattle.rows.specs.Spans.{placed_row, span_rows, with_rows, Slotted, Steps}
use Rattle.rows.specs.declared.span.Span.{Span}
use Rattle.table.specs.Placing.{Places, slot_of}
use Rattle.table.specs.declared.Placing.{Placing}
use Rattle.model.specs.declared.given.Slot.{Slot}

-- SLOTS

module _ (f d rank : ℕ) (s : Slot) (h : Slotted f d rank s) where
  -- the bin counted from the block's first
  slot_counted : s.position * d + (s.bin - f) ≡ label * d + rank
  slot_counted = omega (arith, h.after, h.whole)

  slot_below : s.bin - f < d
  slot_below = omega (arith, h.after, h.within)

  slot_bin : s.bin ≡ f + rank % d
  slot_bin =
      omega (
        arith,
        h.after,
        ap (λ r. r % d) slot_counted,
        mul-add-mod_self_right s.position d (s.bin - f),
        mul-add-mod_self_right label d rank,
        mod-eq_of_lt slot_below,
      )

  slot_position : s.position ≡ rank / d + label
  slot_position =
      omega (
        arith,
        ap (λ r. r / d) slot_counted,
        mul-add-div_right {m = d} (omega (arith, slot_below)) s.position (s.bin - f),
        mul-add-div_right {m = d} (omega (arith, slot_below)) label rank,
        div-eq_of_lt slot_below,
      )

-- the slot of a bucket is that of its rank
pub slot_placed
    : {p : Placing} {x : ℕ} {s : Slot} → Places p x → s ≡ slot_of p x → Slotted p.first p.bins (x - p.adjustment) s
slot_placed {p} {x} {s} h e =
    let rank = x - p.adjustment in
    let bin : s.bin ≡ p.first + rank % p.bins = ap (λ s. s.bin) e in
    let position : s.position ≡ rank / p.bins + label = ap (λ s. s.position) e in
    record {
      after = omega (arith, bin);
      within = omega (arith, bin, mod-lt rank h.some);
      whole = rw position (omega (arith, bin, add-mul (rank / p.bins) label p.bins, div-add-mod' rank p.bins));
    }

slot_stepped
    : (f d x adjustment : ℕ) (s s' : Slot) → 1 ≤ d → adjustment ≤ x → Slotted f d (x - adjustment) s → Steps f (f + d - 1) s s'
    → Slotted f d (x + 1 - adjustment) s'
slot_stepped f d x adjustment s s' some low h step =
    let next : x - adjustment + 1 ≡ x + 1 - adjustment = omega arith in
    rw next at (step d (x - adjustment) (omega arith) h)

-- the row of a bucket from its two slots
pub row_slots
    : (old new : Placing) (x : ℕ) (s s' : Slot)
    → Slotted old.first old.bins (x - old.adjustment) s → Slotted new.first new.bins (x - new.adjustment) s'
    → x ∷ s.bin ∷ s.position ∷ s'.bin ∷ s'.position ∷ [] ≡ placed_row old new x
unfolding placed_row
row_slots old new x s s' h h' =
    rw (slot_bin _ _ _ s h, slot_position _ _ _ s h, slot_bin _ _ _ s' h', slot_position _ _ _ s' h')

-- what places a bucket places the later ones
pub places_later : (p : Placing) (x y : ℕ) → x ≤ y → y ≤ max_buckets → Places p x → Places p y
places_later p x y l limit h = record { some = h.some; fits = h.fits; ranked = omega (arith, h.ranked); limit = limit }

-- ROWS IN A BUFFER

pub with_none : (at : ℕ) (buffer : List ℕ) → with_rows at [] buffer ≡ buffer
unfolding with_rows joined
with_none at buffer = rw (add-zero at, append-nil (take (5 * at) buffer)) (take-append-drop (5 * at) buffer)

module _ (at : ℕ) (rs : List (List ℕ)) (buffer : List ℕ) (fives : Fives rs) (fits : 5 * (at + length rs) ≤ length buffer) where
  -- what stands up to their end
  front : length (take (5 * at) buffer ++ joined rs) ≡ 5 * (at + length rs)
  front =
      omega (
        arith,
        length-append (take (5 * at) buffer) (joined rs),
        length-take-le (5 * at) buffer (omega arith),
        fives_length rs fives,
      )

  pub with_length : length (with_rows at rs buffer) ≡ length buffer
  unfolding with_rows
  with_length =
      omega (
        arith,
        front,
        length-append (take (5 * at) buffer ++ joined rs) (drop (5 * (at + length rs)) buffer),
        length-drop (5 * (at + length rs)) buffer,
      )

  -- rows behind them
  with_append
      : (ss : List (List ℕ)) (k : ℕ) → length rs ≡ k
      → with_rows (at + k) ss (with_rows at rs buffer) ≡ with_rows at (rs ++ ss) buffer
  unfolding with_rows
  with_append ss k same =
      let P = take (5 * at) buffer ++ joined rs in
      let Q = drop (5 * (at + length rs)) buffer in
      let past : 5 * (at + k + length ss) ≡ length P + 5 * length ss = omega (arith, front) in
      let last : 5 * (at + length rs) + 5 * length ss ≡ 5 * (at + length (rs ++ ss)) = omega (arith, length-append rs ss) in
      ap₂ (λ l m. l ++ m)
      (ap (λ l. l ++ joined ss) (take_at P Q (5 * (at + k)) (omega (arith, front)))
      ∙ append_assoc (take (5 * at) buffer) (joined rs) (joined ss)
      ∙ ap (λ l. take (5 * at) buffer ++ l) (sym (joined_append rs ss)))
      (ap (λ n. drop n (P ++ Q)) past
      ∙ drop-append-add P Q (5 * length ss)
      ∙ drop-drop (5 * length ss) (5 * (at + length rs)) buffer
      ∙ ap (λ n. drop n buffer) last)

-- one row
with_one
    : (at : ℕ) (r buffer : List ℕ) → length r ≡ 5 → 5 * (at + 1) ≤ length buffer
    → sets buffer (5 * at) r ≡ with_rows at (r ∷ []) buffer
unfolding with_rows joined
with_one at r buffer five room =
    let past : 5 * at + length r ≡ 5 * (at + 1) = omega arith in
    sets-eq r buffer (5 * at) (omega arith)
    ∙ ap₂ (λ l n. take (5 * at) buffer ++ l ++ drop n buffer) (sym (append-nil r)) past

-- ROWS FROM A BUCKET ON

-- the rows f of the buckets from b up to x are written, from row number `at` on; `entry` is the next
pub record Listed (f : ℕ → List ℕ) (b at : ℕ) (rows₀ rows : List ℕ) (x entry : ℕ) : Type 0 where
  pub after : b ≤ x
  pub entries : entry ≡ 5 * (at + (x - b))
  pub filled : rows ≡ with_rows at (from f b (x - b)) rows₀

module _ {f : ℕ → List ℕ} (five : (x : ℕ) → length (f x) ≡ 5) where
  pub listed_starts : (b at : ℕ) (rows₀ : List ℕ) → Listed f b at rows₀ rows₀ b (5 * at)
  unfolding from
  listed_starts b at rows₀ =
      let none : b - b ≡ 0 = omega arith in
      record { after = omega arith; entries = omega arith; filled = sym (rw none (with_none at rows₀)) }

  module _ {b at : ℕ} {rows₀ rows : List ℕ} {x entry : ℕ} (s : Listed f b at rows₀ rows x entry) where
    pub listed_length : 5 * (at + (x - b)) ≤ length rows₀ → length rows ≡ length rows₀
    listed_length fits =
        let count = length_from f b (x - b) in
        ap length s.filled ∙ with_length at (from f b (x - b)) rows₀ (fives_from f five b (x - b)) (omega arith)

    -- n rows more
    pub listed_run
        : {rows' : List ℕ} (n j : ℕ) → 5 * (at + (x - b)) ≤ length rows₀ → entry ≡ 5 * j
        → rows' ≡ with_rows j (from f x n) rows
        → Listed f b at rows₀ rows' (x + n) (5 * (j + n))
    listed_run n j fits here e =
        let count = length_from f b (x - b) in
        let row : j ≡ at + (x - b) = omega (arith, s.entries) in
        let this : x ≡ b + (x - b) = omega (arith, s.after) in
        let more : x - b + n ≡ x + n - b = omega (arith, s.after) in
        record {
          after = omega (arith, s.after);
          entries = omega (arith, s.entries, s.after);
          filled =
              e
              ∙ ap₂ (λ i l. with_rows i (from f x n) l) row s.filled
              ∙ with_append at (from f b (x - b)) rows₀ (fives_from f five b (x - b)) (omega arith)
              (from f x n) (x - b) count
              ∙ ap (λ y. with_rows at (from f b (x - b) ++ from f y n) rows₀) this
              ∙ ap (λ l. with_rows at l rows₀) (from_append f b (x - b) n)
              ∙ ap (λ m. with_rows at (from f b m) rows₀) more;
        }

    -- one row more
    pub listed_more
        : {rows' : List ℕ} → 5 * (at + (x - b) + 1) ≤ length rows₀ → rows' ≡ sets rows entry (f x)
        → Listed f b at rows₀ rows' (x + 1) (entry + 5)
    unfolding from
    listed_more fits e =
        let same = listed_length (omega arith) in
        let j = at + (x - b) in
        let next : 5 * (j + 1) ≡ entry + 5 = omega (arith, s.entries) in
        rw next at
        (listed_run 1 j (omega arith) s.entries
        (e ∙ ap (λ i. sets rows i (f x)) s.entries ∙ with_one j (f x) rows (five x) (omega arith)))

    -- after the last
    pub listed_ends : (end : ℕ) → x ≡ end → rows ≡ with_rows at (from f b (end - b)) rows₀
    listed_ends end same = s.filled ∙ ap (λ y. with_rows at (from f b (y - b)) rows₀) same

-- A SPAN, ROW BY ROW

-- the rows of the buckets of a span up to x are written, and `here` and `there` are the slots of x
pub record Spanning (p : Span) (at : ℕ) (rows₀ rows : List ℕ) (here there : Slot) (x entry : ℕ) : Type 0 where
  pub old_slot : Slotted p.old.first p.old.bins (x - p.old.adjustment) here
  pub new_slot : Slotted p.new.first p.new.bins (x - p.new.adjustment) there
  pub done : Listed (placed_row p.old p.new) p.bucket at rows₀ rows x entry

pub five_numbers : (old new : Placing) (x : ℕ) → length (placed_row old new x) ≡ 5
unfolding placed_row
five_numbers old new x = refl

module _ {p : Span} {at : ℕ} {rows₀ : List ℕ} (fits : 5 * (at + (p.end - p.bucket)) ≤ length rows₀) where
  pub spanning_starts
      : {here there : Slot} → here ≡ slot_of p.old p.bucket → there ≡ slot_of p.new p.bucket
      → Spanning p at rows₀ rows₀ here there p.bucket (5 * at)
  spanning_starts e e' =
      record {
        old_slot = slot_placed p.places.0 e;
        new_slot = slot_placed p.places.1 e';
        done = listed_starts (five_numbers p.old p.new) p.bucket at rows₀;
      }

  module _ {rows : List ℕ} {here there : Slot} {x entry : ℕ} (s : Spanning p at rows₀ rows here there x entry) where
    pub spanning_length : x ≤ p.end → length rows ≡ length rows₀
    spanning_length l = listed_length (five_numbers p.old p.new) s.done (omega (arith, l))

    -- there is room for the next row
    pub spanning_room : x < p.end → (entry + 5 ≤ length rows) × (entry + 5 ≤ length rows₀)
    spanning_room l = omega (arith, s.done.entries, s.done.after, spanning_length)

    -- the next row
    pub spanning_more
        : {rows' : List ℕ} {here' there' : Slot} → x < p.end
        → rows' ≡ sets rows entry (x ∷ here.bin ∷ here.position ∷ there.bin ∷ there.position ∷ [])
        → Steps p.old.first (p.old.first + p.old.bins - 1) here here' → Steps p.new.first (p.new.first + p.new.bins - 1) there there'
        → Spanning p at rows₀ rows' here' there' (x + 1) (entry + 5)
    spanning_more {here' = here'} {there' = there'} l e h h' =
        let after = s.done.after in
        let o = p.places.0 in
        let n = p.places.1 in
        record {
          old_slot =
              slot_stepped p.old.first p.old.bins x p.old.adjustment here here' o.some (omega (arith, o.ranked)) s.old_slot h;
          new_slot =
              slot_stepped p.new.first p.new.bins x p.new.adjustment there there' n.some (omega (arith, n.ranked)) s.new_slot h';
          done =
              listed_more (five_numbers p.old p.new) s.done (omega arith)
              (e ∙ ap (sets rows entry) (row_slots p.old p.new x here there s.old_slot s.new_slot));
        }

    -- after the last
    pub spanning_ends : x ≡ p.end → rows ≡ with_rows at (span_rows p) rows₀
    spanning_ends l = listed_ends (five_numbers p.old p.new) s.done p.end l
