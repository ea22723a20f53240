-- Laws of turns, and of rows written in runs. Assumes nothing.
use Prim.Native.Nat.{ℕ, ◌+◌, ◌-◌, ◌*◌, ◌/◌, ◌%◌, ◌^◌, min, ◌≤◌, ◌<◌}
use mathlib.Core.Path.{◌≡◌, refl, ◌∙◌, ap, ap₂}
use mathlib.Core.Logic.{⊎_elim}
use mathlib.Core.List.{List}
use native.Mathlib.Nat.{add-mul, le-mul_of_pos_right}
use native.Mathlib.Omega.{arith}
use lib.ListN.{length}
use lib.Seq.{sets}
use Rattle.model.specs.Basics.{from}
use Rattle.model.specs.Limits.{max_buckets, label}
use Rattle.model.proofs.Counts.{below_or}
use Rattle.model.proofs.Tables.{from_ext}
use Rattle.rows.specs.Spans.{placed_row, span_rows, pair_row, run_row, turn, with_rows, Slotted, Turned, Runs}
use Rattle.table.specs.Placing.{Places}
use Rattle.table.specs.declared.Placing.{Placing}
use Rattle.model.specs.declared.given.Slot.{Slot}
use Rattle.rows.specs.declared.Turn.{Turn}
use Rattle.rows.specs.declared.span.Span.{Span}
use Rattle.rows.proofs.Spans.{row_slots, five_numbers, Listed, listed_starts, listed_length, listed_run, listed_more, listed_ends}

-- TURNS

-- the turn of a slot
pub turned_slot
    : (f d rank : ℕ) (s : Slot) → Slotted f d rank s → Turned f d rank (turn (s.bin + s.position * 2 ^ 32) (f + d - s.bin))
turned_slot f d rank s h =
    record {
      position = s.position;
      some = omega (arith, h.within);
      most = omega (arith, h.after);
      placed = omega (arith, h.within);
      whole = omega (arith, h.whole, h.within);
    }

module _ (f d rank : ℕ) (t : Turn) (fits : f + d < 2 ^ 32) (h : Turned f d rank t) where
  position_low : h.position ≤ label + rank
  position_low =
      ⊎_elim
      (λ l. omega arith)
      (λ l.
      let past = h.position - label in
      let counted : h.position ≡ past + label = omega arith in
      omega (
        arith,
        h.whole,
        h.most,
        ap (λ p. p * d) counted,
        add-mul past label d,
        le-mul_of_pos_right {m = d} past (omega (arith, h.some, h.most)),
      ))
      (below_or h.position label)

  -- the numbers of a run fit
  turned_fits : (k : ℕ) → k ≤ t.left → rank ≤ max_buckets → t.place + k + 2 ^ 32 < 2 ^ 64
  turned_fits k l low = omega (arith, h.placed, position_low)

  -- the slots of a run
  slots : (i : ℕ) → i < t.left → Slotted f d (rank + i) (record { bin = (t.place + i) % 2 ^ 32; position = (t.place + i) / 2 ^ 32 })
  slots i l =
      let high : (t.place + i) / 2 ^ 32 ≡ h.position = omega (arith, h.placed, h.most) in
      let low : (t.place + i) % 2 ^ 32 + t.left ≡ f + d + i = omega (arith, h.placed, h.most) in
      record {
        after = omega (arith, h.most);
        within = omega arith;
        whole = omega (arith, h.whole, ap (λ q. q * d) high);
      }

-- A RUN, ROW BY ROW

-- the rows of a run from bucket b up to x are written, and `here` and `there` are the pairs of x
pub record Running (old new b at : ℕ) (rows₀ rows : List ℕ) (here there x entry : ℕ) : Type 0 where
  pub old_pair : here ≡ old + (x - b)
  pub new_pair : there ≡ new + (x - b)
  pub done : Listed (run_row b old new) b at rows₀ rows x entry

five_pairs : (b old new x : ℕ) → length (run_row b old new x) ≡ 5
unfolding run_row pair_row
five_pairs b old new x = refl

module _ {old new b at : ℕ} {rows₀ : List ℕ} where
  -- one with equal numbers
  pub running_same
      : {rows rows' : List ℕ} {here here' there there' x x' entry entry' : ℕ}
      → rows' ≡ rows → here' ≡ here → there' ≡ there → x' ≡ x → entry' ≡ entry
      → Running old new b at rows₀ rows here there x entry
      → Running old new b at rows₀ rows' here' there' x' entry'
  running_same p q r s t h = rw (p, q, r, s, t) h

  pub running_starts : Running old new b at rows₀ rows₀ old new b (5 * at)
  running_starts =
      record {
        old_pair = omega arith;
        new_pair = omega arith;
        done = listed_starts (five_pairs b old new) b at rows₀;
      }

  module _ (count : ℕ) (fits : 5 * (at + count) ≤ length rows₀) where
    module _ {rows : List ℕ} {here there x entry : ℕ} (s : Running old new b at rows₀ rows here there x entry) where
      pub running_length : x ≤ b + count → length rows ≡ length rows₀
      running_length l = listed_length (five_pairs b old new) s.done (omega (arith, l))

      -- there is room for n rows more
      pub running_room : (n : ℕ) → x + n ≤ b + count → (entry + 5 * n ≤ length rows) × (entry + 5 * n ≤ length rows₀)
      running_room n l = omega (arith, s.done.entries, s.done.after, running_length)

      -- the next row
      pub running_more
          : {rows' : List ℕ} → x < b + count → rows' ≡ sets rows entry (pair_row x here there)
          → Running old new b at rows₀ rows' (here + 1) (there + 1) (x + 1) (entry + 5)
      unfolding run_row
      running_more l e =
          let after = s.done.after in
          record {
            old_pair = omega (arith, s.old_pair);
            new_pair = omega (arith, s.new_pair);
            done =
                listed_more (five_pairs b old new) s.done (omega arith)
                (e ∙ ap₂ (λ p q. sets rows entry (pair_row x p q)) s.old_pair s.new_pair);
          }

    -- the next two
    pub running_two
        : {rows rows' rows'' : List ℕ} {here there x entry : ℕ} → Running old new b at rows₀ rows here there x entry
        → x + 1 < b + count → rows' ≡ sets rows entry (pair_row x here there)
        → rows'' ≡ sets rows' (entry + 5) (pair_row (x + 1) (here + 1) (there + 1))
        → Running old new b at rows₀ rows'' (here + 2) (there + 2) (x + 2) (entry + 10)
    running_two s l e e' =
        running_same refl (omega arith) (omega arith) (omega arith) (omega arith) (running_more (running_more s (omega arith) e) l e')

  -- after the last
  pub running_ends
      : {rows : List ℕ} {here there x entry : ℕ} (count : ℕ) → Running old new b at rows₀ rows here there x entry → x ≡ b + count
      → rows ≡ with_rows at (from (run_row b old new) b count) rows₀
  running_ends count s l =
      let all : b + count - b ≡ count = omega arith in
      rw all at (listed_ends (five_pairs b old new) s.done (b + count) l)

-- A SPAN, RUN BY RUN

-- a run ends with the first of three
pub run_few
    : {left here there low run : ℕ} → low ≡ min here there → run ≡ min left low → 0 < left → 1 ≤ here → 1 ≤ there
    → (1 ≤ run) × (run ≤ left) × (run ≤ here) × (run ≤ there)
run_few e e' l h h' = omega arith

-- the turns of a placing's buckets
module _ (p : Placing) (b x : ℕ) (t : Turn) (h : Places p b) (l : b ≤ x) where
  -- what is written in a run is the slot of each of its buckets
  placed_slots
      : Turned p.first p.bins (x - p.adjustment) t → (m : ℕ) → x ≤ m → m < x + t.left
      → Slotted p.first p.bins (m - p.adjustment)
      (record { bin = (t.place + (m - x)) % 2 ^ 32; position = (t.place + (m - x)) / 2 ^ 32 })
  placed_slots s m k n =
      let rank : x - p.adjustment + (m - x) ≡ m - p.adjustment = omega (arith, h.ranked) in
      rw rank at (slots p.first p.bins (x - p.adjustment) t h.fits s (m - x) (omega arith))

  placed_fits
      : (e k : ℕ) → Turned p.first p.bins (x - p.adjustment) t → k ≤ t.left → x < e → e ≤ max_buckets
      → t.place + k + 2 ^ 32 < 2 ^ 64
  placed_fits e k s few more fits =
      turned_fits p.first p.bins (x - p.adjustment) t h.fits s k few (omega arith)

  placed_turn
      : (k : ℕ) (t' : Turn) → Turned p.first p.bins (x - p.adjustment) t → Runs p.bins k t t'
      → Turned p.first p.bins (x + k - p.adjustment) t'
  placed_turn k t' s runs =
      let rank : x - p.adjustment + k ≡ x + k - p.adjustment = omega (arith, h.ranked) in
      rw rank at (runs p.first (x - p.adjustment) s)

-- the rows of the buckets of a span up to x are written, and `here` and `there` are the turns of x
pub record Turning (p : Span) (at : ℕ) (rows₀ rows : List ℕ) (here there : Turn) (x left row : ℕ) : Type 0 where
  pub ends : x + left ≡ p.end
  pub old_turn : Turned p.old.first p.old.bins (x - p.old.adjustment) here
  pub new_turn : Turned p.new.first p.new.bins (x - p.new.adjustment) there
  pub done : Listed (placed_row p.old p.new) p.bucket at rows₀ rows x (5 * row)

module _ {p : Span} {at : ℕ} {rows₀ : List ℕ} (fits : 5 * (at + (p.end - p.bucket)) ≤ length rows₀) where
  pub turning_starts
      : {here there : Turn}
      → Turned p.old.first p.old.bins (p.bucket - p.old.adjustment) here
      → Turned p.new.first p.new.bins (p.bucket - p.new.adjustment) there
      → Turning p at rows₀ rows₀ here there p.bucket (p.end - p.bucket) at
  turning_starts h h' =
      record {
        ends = omega (arith, p.within);
        old_turn = h;
        new_turn = h';
        done = listed_starts (five_numbers p.old p.new) p.bucket at rows₀;
      }

  module _
      {rows : List ℕ} {here there : Turn} {x left row : ℕ} (s : Turning p at rows₀ rows here there x left row) where
    pub turning_length : length rows ≡ length rows₀
    turning_length = listed_length (five_numbers p.old p.new) s.done (omega (arith, s.ends))

    -- there is room for a run
    pub turning_room : (k : ℕ) → k ≤ left → (5 * (row + k) ≤ length rows) × (5 * (row + k) ≤ length rows₀)
    turning_room k l = omega (arith, s.ends, s.done.entries, s.done.after, turning_length)

    -- its numbers fit
    pub turning_fits
        : (k : ℕ) → k ≤ here.left → k ≤ there.left → 0 < left
        → (here.place + k + 2 ^ 32 < 2 ^ 64) × (there.place + k + 2 ^ 32 < 2 ^ 64)
    turning_fits k l l' some = (
      placed_fits p.old p.bucket x here p.places.0 s.done.after p.end k s.old_turn l (omega (arith, s.ends)) p.within.1,
      placed_fits p.new p.bucket x there p.places.1 s.done.after p.end k s.new_turn l' (omega (arith, s.ends)) p.within.1,
    )

    -- the next run
    pub turning_more
        : {k : ℕ} {rows' : List ℕ} {here' there' : Turn} → k ≤ left → k ≤ here.left → k ≤ there.left
        → rows' ≡ with_rows row (from (run_row x here.place there.place) x k) rows
        → Runs p.old.bins k here here' → Runs p.new.bins k there there'
        → Turning p at rows₀ rows' here' there' (x + k) (left - k) (row + k)
    unfolding run_row pair_row
    turning_more {k} {here' = here'} {there' = there'} l l' l'' e r r' =
        let after = s.done.after in
        let same : from (run_row x here.place there.place) x k ≡ from (placed_row p.old p.new) x k =
        from_ext (run_row x here.place there.place) (placed_row p.old p.new) x k
        (λ m a b.
        row_slots p.old p.new m _ _
        (placed_slots p.old p.bucket x here p.places.0 after s.old_turn m a (omega arith))
        (placed_slots p.new p.bucket x there p.places.1 after s.new_turn m a (omega arith))) in
        record {
          ends = omega (arith, s.ends);
          old_turn = placed_turn p.old p.bucket x here p.places.0 after k here' s.old_turn r;
          new_turn = placed_turn p.new p.bucket x there p.places.1 after k there' s.new_turn r';
          done =
              listed_run (five_numbers p.old p.new) s.done k row (omega (arith, s.ends)) refl
              (e ∙ ap (λ l. with_rows row l rows) same);
        }

    -- after the last
    pub turning_ends : left ≡ 0 → rows ≡ with_rows at (span_rows p) rows₀
    turning_ends none = listed_ends (five_numbers p.old p.new) s.done p.end (omega (arith, s.ends))
