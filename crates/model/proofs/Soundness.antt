-- A lent table is sound exactly where the tests of rules 11 to 16 and 30 fail, and the table of `initial` is. Assumes nothing.
use Prim.Native.Nat.{ℕ, zero, suc, ◌≤◌, ◌<◌}
use mathlib.Core.Path.{◌≡◌, refl, sym, ◌∙◌, ap, ap₂, subst₂}
use mathlib.Core.Bool.{true, false}
use mathlib.Core.Logic.{⊎_elim}
use mathlib.Core.List.{List, [], ◌∷◌}
use native.Mathlib.Nat.{le_refl, zero-add}
use native.Mathlib.Omega.{arith}
use lib.Dec.{ltb, eqb}
use lib.ListN.{length, get_or}
use lib.Seq.{get_or-take}
use borrow.Author.Tests.{ltb-true, ltb-false, lt-ltb, le-ltb, eqb-true, eq-eqb, not-false}
use Rattle.model.specs.Basics.{sum, count, before}
use Rattle.model.specs.Limits.{max_buckets, max_capacity, max_bins, max_blocks, max_intervals}
use Rattle.model.specs.Table.{Shape, interval, Table, bins, shape, Arrays, table, header, over, written}
use Rattle.model.specs.Place.{held, others}
use Rattle.model.specs.Due.{due_of_block}
use Rattle.model.specs.Refusal.{
  first,
  rises,
  size_outside,
  few_buckets,
  header_outside,
  arrays_short,
  tops_wrong,
  ends_wrong,
  blocks_wrong,
  holdings_wrong,
  adjustment_of,
  adjustments_wrong,
  overfills,
  capacity_outside,
  capacity_wrong,
  room_short,
}
use Rattle.model.specs.Sound.{Formed, Sound}
use Rattle.model.specs.Initial.{initial}
use Rattle.model.specs.Calls.{
  table_tests,
  size_tests,
  fresh_tests,
  growth_tests,
  table_reply,
  arrays_after,
  initial_refusal,
  initial_reply,
  initial_arrays,
}
use Rattle.model.specs.TableClaims.{SoundIff, CapacityLast, SameSound, InitialSound, Holds, WrittenRead, InitialRead}
use Rattle.model.specs.declared.table.Header.{Header}
use Rattle.model.specs.declared.reply.TableReply.{TableReply}
use Rattle.model.proofs.Counts.{bit_cases, all_holds}
use Rattle.model.proofs.Dues.{dues_below, dues_sum_lem, Block_closed, rises_at}
use Rattle.model.proofs.Intervals.{held_own}
use Rattle.model.proofs.Refusals.{
  or_left,
  or_right,
  or_split,
  or_both,
  not_clear,
  inside,
  not_outside,
  first_clear,
  first_pass,
  first_none,
  first_number,
  first_other,
  first_skip,
  first_here,
  first_both,
  first_after,
  Numbered,
  accepted,
}
use Rattle.model.proofs.Rules.{all_not, not_all}
use Rattle.model.proofs.Capacities.{no_room, formed_sound, due_sound, sound_again, sound_capacity, capacity_small}
use Rattle.model.proofs.Tables.{
  get_d_from,
  lent_interval,
  table_written,
  before_same,
  Alike,
  held_alike,
  adjustment_alike,
  shape_alike,
  due_alike,
  tops_long_lem,
  column_long,
  column_at,
  written_alike,
}

-- THE TESTS OF A LENT TABLE

-- no test of rules 11 to 16 holds
pub record Passes (h : Header) (a : Arrays) : Type 0 where
  pub header : header_outside h ≡ false
  pub arrays : arrays_short h a ≡ false
  pub tops : tops_wrong h a.tops ≡ false
  pub ends : ends_wrong h a.ends ≡ false
  pub blocks : blocks_wrong h a.blocks ≡ false
  pub holdings : holdings_wrong h a ≡ false
  pub adjustments : adjustments_wrong h a ≡ false

-- then the table passes rules 11 to 16 as propositions
pub passes_formed : (h : Header) (a : Arrays) → Passes h a → Formed h a
unfolding header_outside arrays_short tops_wrong ends_wrong blocks_wrong holdings_wrong adjustments_wrong
passes_formed h a p =
    let b = inside max_buckets h.buckets (or_left _ _ (or_left _ _ p.header)) in
    let g = inside max_blocks h.block_count (or_right _ _ (or_left _ _ p.header)) in
    let k = inside max_intervals h.interval_count (or_right _ _ p.header) in
    record {
      some_buckets = b.0;
      bucket_limit = b.1;
      some_blocks = g.0;
      block_limit = g.1;
      some_intervals = k.0;
      interval_limit = k.1;
      tops_long = ltb-false _ _ (or_left _ _ (or_left _ _ (or_left _ _ p.arrays)));
      ends_long = ltb-false _ _ (or_right _ _ (or_left _ _ (or_left _ _ p.arrays)));
      blocks_long = ltb-false _ _ (or_right _ _ (or_left _ _ p.arrays));
      adjustments_long = ltb-false _ _ (or_right _ _ p.arrays);
      tops_rise = rises_at a.tops h.block_count (not-false _ (or_left _ _ (or_left _ _ p.tops)));
      bin_limit = ltb-false _ _ (or_right _ _ (or_left _ _ p.tops));
      bins_few = ltb-false _ _ (or_right _ _ p.tops);
      ends_rise = rises_at a.ends h.interval_count (not-false _ (or_left _ _ p.ends));
      last_end = eqb-true _ _ (not-false _ (or_right _ _ p.ends));
      blocks_below = λ i l. ltb-true _ _ (all_not (λ i. ltb (get_or a.blocks i 0) h.block_count) _ p.blocks i l);
      holdings =
          λ j l.
          eqb-true _ _
          (all_not (λ j. eqb (held (table h a) j h.buckets) (due_of_block (shape (table h a)) a.tops j)) _ p.holdings j l);
      adjusted =
          λ i l. eqb-true _ _ (all_not (λ i. eqb (get_or a.adjustments i 0) (adjustment_of h a i)) _ p.adjustments i l);
    }

-- the other way of `rises_at`
pub rises_holds : (xs : List ℕ) (n : ℕ) → ((i : ℕ) → i < n → before xs i < get_or xs i 0) → rises xs n ≡ true
unfolding rises
rises_holds xs n r = all_holds (λ i. ltb (before xs i) (get_or xs i 0)) n (λ i l. lt-ltb (before xs i) (get_or xs i 0) (r i l))

-- and the other way
pub formed_passes : (h : Header) (a : Arrays) → Formed h a → Passes h a
unfolding header_outside arrays_short tops_wrong ends_wrong blocks_wrong holdings_wrong adjustments_wrong
formed_passes h a s =
    record {
      header =
          or_both _ _
          (or_both _ _
          (not_outside max_buckets h.buckets s.some_buckets s.bucket_limit)
          (not_outside max_blocks h.block_count s.some_blocks s.block_limit))
          (not_outside max_intervals h.interval_count s.some_intervals s.interval_limit);
      arrays =
          or_both _ _
          (or_both _ _
          (or_both _ _ (le-ltb _ _ s.tops_long) (le-ltb _ _ s.ends_long))
          (le-ltb _ _ s.blocks_long))
          (le-ltb _ _ s.adjustments_long);
      tops =
          or_both _ _
          (or_both _ _ (not_clear _ (rises_holds a.tops h.block_count s.tops_rise)) (le-ltb _ _ s.bin_limit))
          (le-ltb _ _ s.bins_few);
      ends =
          or_both _ _
          (not_clear _ (rises_holds a.ends h.interval_count s.ends_rise))
          (not_clear _ (eq-eqb _ _ s.last_end));
      blocks = not_all _ _ (λ i l. lt-ltb _ _ (s.blocks_below i l));
      holdings = not_all _ _ (λ j l. eq-eqb _ _ (s.holdings j l));
      adjustments = not_all _ _ (λ i l. eq-eqb _ _ (s.adjusted i l));
    }

-- the check answers 0 exactly where the table is sound
pub sound_iff_lem : SoundIff
unfolding table_tests
sound_iff_lem h a = (
  λ e. let (p, c) = passed e in formed_sound h a (passes_formed h a p) c,
  λ s. cleared (formed_passes h a s.formed) (sound_capacity h a s),
)
  where
    passed : first (table_tests h a) ≡ 0 → Passes h a × (capacity_wrong h a ≡ false)
    passed e =
        let t = first_clear _ _ (λ z. omega arith) e in
        let u = first_clear _ _ (λ z. omega arith) t.1 in
        let v = first_clear _ _ (λ z. omega arith) u.1 in
        let w = first_clear _ _ (λ z. omega arith) v.1 in
        let x = first_clear _ _ (λ z. omega arith) w.1 in
        let y = first_clear _ _ (λ z. omega arith) x.1 in
        let z = first_clear _ _ (λ z. omega arith) y.1 in (
          record {
            header = or_left _ _ t.0;
            arrays = or_right _ _ t.0;
            tops = u.0;
            ends = v.0;
            blocks = w.0;
            holdings = x.0;
            adjustments = y.0;
          },
          z.0,
        )

    cleared : Passes h a → capacity_wrong h a ≡ false → first (table_tests h a) ≡ 0
    cleared p c =
        first_pass _ _ (or_both _ _ p.header p.arrays)
        (first_pass _ _ p.tops
        (first_pass _ _ p.ends
        (first_pass _ _ p.blocks (first_pass _ _ p.holdings (first_pass _ _ p.adjustments (first_pass _ _ c first_none))))))

-- and 30 where 11 to 16 let it pass and its capacity is wrong
pub capacity_last_lem : CapacityLast
unfolding table_tests
capacity_last_lem h a = (refused, answered)
  where
    refused : first (table_tests h a) ≡ 30 → Formed h a × (capacity_wrong h a ≡ true)
    refused e =
        let (sizes, e₁) = first_other 11 30 _ _ (λ z. omega arith) e in
        let (tops, e₂) = first_other 12 30 _ _ (λ z. omega arith) e₁ in
        let (ends, e₃) = first_other 13 30 _ _ (λ z. omega arith) e₂ in
        let (blocks, e₄) = first_other 14 30 _ _ (λ z. omega arith) e₃ in
        let (holdings, e₅) = first_other 15 30 _ _ (λ z. omega arith) e₄ in
        let (adjustments, e₆) = first_other 16 30 _ _ (λ z. omega arith) e₅ in (
          passes_formed h a
              (record {
                header = or_left _ _ sizes;
                arrays = or_right _ _ sizes;
                tops = tops;
                ends = ends;
                blocks = blocks;
                holdings = holdings;
                adjustments = adjustments;
              }),
          ⊎_elim
              (λ t. t.0)
              (λ f. absurd (omega (arith, e₆, first_skip (30, capacity_wrong h a) [] f.0, first_none)))
              (bit_cases (capacity_wrong h a)),
        )

    answered : Formed h a × (capacity_wrong h a ≡ true) → first (table_tests h a) ≡ 30
    answered (formed, wrong) =
        let p = formed_passes h a formed in
        first_skip _ _ (or_both _ _ p.header p.arrays)
        ∙ first_skip _ _ p.tops
        ∙ first_skip _ _ p.ends
        ∙ first_skip _ _ p.blocks
        ∙ first_skip _ _ p.holdings
        ∙ first_skip _ _ p.adjustments
        ∙ first_here _ _ wrong

-- none of those tests, nor of a growth's, has number 0
pub table_numbered : (h : Header) (a : Arrays) → Numbered (table_tests h a)
unfolding table_tests
table_numbered h a = omega arith

pub growth_numbered : (t : Table) (s : Shape) → Numbered (growth_tests t s)
unfolding growth_tests size_tests
growth_numbered t s = omega arith

-- A TABLE ALIKE

-- rules 11 to 16 depend only on the entries that are part of the table
pub formed_alike
    : (h : Header) (a b : Arrays) → Formed h a → Alike h a b
    → h.block_count ≤ length b.tops
    → h.interval_count ≤ length b.ends
    → h.interval_count ≤ length b.blocks
    → h.interval_count ≤ length b.adjustments
    → ((i : ℕ) → i < h.interval_count → get_or a.adjustments i 0 ≡ get_or b.adjustments i 0)
    → Formed h b
formed_alike h a b s e tops ends blocks adjustments same =
    record {
      some_buckets = s.some_buckets;
      bucket_limit = s.bucket_limit;
      some_blocks = s.some_blocks;
      block_limit = s.block_limit;
      some_intervals = s.some_intervals;
      interval_limit = s.interval_limit;
      tops_long = tops;
      ends_long = ends;
      blocks_long = blocks;
      adjustments_long = adjustments;
      tops_rise = λ j l. omega (arith, s.tops_rise j l, e.tops j l, top j (omega arith));
      bin_limit = omega (arith, s.bin_limit, top h.block_count (le_refl h.block_count));
      bins_few = omega (arith, s.bins_few, top h.block_count (le_refl h.block_count));
      ends_rise = λ i l. omega (arith, s.ends_rise i l, e.ends i l, end i (omega arith));
      last_end = omega (arith, s.last_end, end h.interval_count (le_refl h.interval_count));
      blocks_below = λ i l. omega (arith, s.blocks_below i l, e.blocks i l);
      holdings =
          λ j l.
          sym (held_alike h a b e j h.buckets)
          ∙ s.holdings j l
          ∙ due_alike h a b e (shape (table h a)) j l
          ∙ ap (λ z. due_of_block z b.tops j) (shape_alike h a b e s.tops_long tops);
      adjusted = λ i l. sym (same i l) ∙ s.adjusted i l ∙ adjustment_alike h a b e i l;
    }
  where
    top : (j : ℕ) → j ≤ h.block_count → before a.tops j ≡ before b.tops j
    top = before_same a.tops b.tops h.block_count e.tops

    end : (i : ℕ) → i ≤ h.interval_count → before a.ends i ≡ before b.ends i
    end = before_same a.ends b.ends h.interval_count e.ends

-- arrays that hold the same table
module _ (h : Header) (a b : Arrays) (e : table h b ≡ table h a) where
  same_interval : (i : ℕ) → i < h.interval_count → lent_interval a i ≡ lent_interval b i
  unfolding table
  same_interval i l =
      let none = interval 0 0 0 in
      rw zero-add at
      (sym (get_d_from (lent_interval a) 0 h.interval_count i none l)
      ∙ sym (ap (λ t. get_or t.intervals i none) e)
      ∙ get_d_from (lent_interval b) 0 h.interval_count i none l)

  same_top : (j : ℕ) → j < h.block_count → get_or a.tops j 0 ≡ get_or b.tops j 0
  unfolding table
  same_top j l =
      sym (get_or-take h.block_count a.tops j 0 l)
      ∙ sym (ap (λ t. get_or t.tops j 0) e)
      ∙ get_or-take h.block_count b.tops j 0 l

  same_alike : Alike h a b
  same_alike =
      record {
        tops = same_top;
        ends = λ i l. ap (λ v. v.end) (same_interval i l);
        blocks = λ i l. ap (λ v. v.block) (same_interval i l);
      }

pub same_sound_lem : SameSound
unfolding arrays_short
same_sound_lem h a b s e long =
    let (rest, adjustments) = or_split _ _ long in
    let (front, blocks) = or_split _ _ rest in
    let (tops, ends) = or_split _ _ front in
    sound_again h a b s
    (formed_alike h a b s.formed (same_alike h a b e)
    (ltb-false _ _ tops)
    (ltb-false _ _ ends)
    (ltb-false _ _ blocks)
    (ltb-false _ _ adjustments)
    (λ i l. ap (λ v. v.adjustment) (same_interval h a b e i l)))
    e

-- a table that passes rules 11 to 16 passes them where it is written
pub formed_written : (h : Header) (a out : Arrays) → Formed h a → Formed h (written (table h a) out)
unfolding written
formed_written h a out s =
    formed_alike h a (written (table h a) out) s (written_alike h a out s.tops_long)
    (tops_long_lem h a out.tops s.tops_long)
    (column_long h a (λ v. v.end) out.ends)
    (column_long h a (λ v. v.block) out.blocks)
    (column_long h a (λ v. v.adjustment) out.adjustments)
    (λ i l. sym (column_at h a (λ v. v.adjustment) out.adjustments i l))

-- SIZES ASKED FOR

-- the sizes of a map within their limits
pub record Allowed (s : Shape) : Type 0 where
  pub some_buckets : 1 ≤ s.buckets
  pub bucket_limit : s.buckets ≤ max_buckets
  pub some_bins : 1 ≤ s.bins
  pub bin_limit : s.bins ≤ max_bins
  pub bins_few : s.bins ≤ s.buckets

-- no test of rules 1 and 2 holds
pub allowed : (s : Shape) → first (size_tests s) ≡ 0 → Allowed s
unfolding size_tests size_outside few_buckets
allowed s e =
    let t = first_clear _ _ (λ z. omega arith) e in
    let u = first_clear _ _ (λ z. omega arith) t.1 in
    let b = inside max_buckets s.buckets (or_left _ _ t.0) in
    let n = inside max_bins s.bins (or_right _ _ t.0) in
    record {
      some_buckets = b.0;
      bucket_limit = b.1;
      some_bins = n.0;
      bin_limit = n.1;
      bins_few = ltb-false s.buckets s.bins u.0;
    }

-- THE TABLE OF `initial`

-- what holds at 0 holds below 1
only : (P : ℕ → Type 0) → P 0 → (j : ℕ) → j < 1 → P j
only P p zero l = p
only P p (suc j) l = absurd (omega arith)

module _ (s : Shape) (p : ℕ) (out : Arrays) (fit : Allowed s) where
  abbrev h : Header
  h = header (initial s p)

  abbrev a : Arrays
  a = written (initial s p) out

  -- its one block holds all buckets
  initial_held : held (table h a) 0 s.buckets ≡ s.buckets
  unfolding initial header written over before held count sum
  initial_held =
      held_own h a (only _ fit.some_buckets) 0 0 s.buckets (omega arith) (omega arith) (le_refl s.buckets) refl
      ∙ omega arith

  -- and is due all of them
  initial_due : due_of_block s a.tops 0 ≡ s.buckets
  unfolding initial written over before sum
  initial_due =
      omega (
        arith,
        Block_closed s a.tops 0 (omega arith),
        dues_below s 0,
        dues_below s s.bins,
        dues_sum_lem s fit.some_bins,
      )

  -- its sizes are those asked for
  initial_shape : shape (table h a) ≡ s
  unfolding initial shape bins before
  initial_shape = ap shape (table_written (initial s p) out)

  -- so it passes rules 11 to 16
  initial_table : Formed (header (initial s p)) (written (initial s p) out)
  unfolding initial header written over before adjustment_of others count sum
  initial_table =
      record {
        some_buckets = fit.some_buckets;
        bucket_limit = fit.bucket_limit;
        some_blocks = omega arith;
        block_limit = omega arith;
        some_intervals = omega arith;
        interval_limit = omega arith;
        tops_long = omega arith;
        ends_long = omega arith;
        blocks_long = omega arith;
        adjustments_long = omega arith;
        tops_rise = only _ fit.some_bins;
        bin_limit = fit.bin_limit;
        bins_few = fit.bins_few;
        ends_rise = only _ fit.some_buckets;
        last_end = refl;
        blocks_below = only _ (omega arith);
        holdings = only _ (initial_held ∙ sym initial_due ∙ ap (λ z. due_of_block z a.tops 0) (sym initial_shape));
        adjusted = only _ refl;
      }

-- an accepted call replies with the header of its table, and writes the table
pub reply_header : (r m : ℕ) (t : Table) → r ≡ 0 → (table_reply r m t).header ≡ header t
unfolding table_reply
reply_header r m t e = ap (λ (v : TableReply). v.header) (accepted r _ _ e)

pub arrays_written : (r : ℕ) (t : Table) (out : Arrays) → r ≡ 0 → arrays_after r t out ≡ written t out
unfolding arrays_after
arrays_written r t out e = accepted r (written t out) out e

-- so the table is there
pub written_read : WrittenRead
written_read = table_written

pub table_left
    : (r m : ℕ) (t : Table) (out : Arrays) → r ≡ 0 → Holds (table_reply r m t).header (arrays_after r t out) t
table_left r m t out e =
    (reply_header r m t e, ap₂ table (reply_header r m t e) (arrays_written r t out e) ∙ table_written t out)

pub initial_read_lem : InitialRead
unfolding initial_reply initial_arrays
initial_read_lem s p out e = table_left (initial_refusal s p out) 0 (initial s p) out e

-- what the tests of a fresh map say
pub fresh_passes : (s : Shape) (p : ℕ) → first (fresh_tests s p) ≡ 0 → (first (size_tests s) ≡ 0) × (overfills p s ≡ false)
unfolding fresh_tests size_tests
fresh_passes s p e =
    let (sized, e₂) = first_both (size_tests s) _ (omega arith) e in (sized, (first_number 31 _ _ (omega arith) e₂).0)

-- its table is sound
pub fresh_sound
    : (s : Shape) (p : ℕ) (out : Arrays) → capacity_outside p ≡ false → first (fresh_tests s p) ≡ 0
    → Sound (header (initial s p)) (written (initial s p) out)
unfolding initial header
fresh_sound s p out inside e =
    let (sized, roomy) = fresh_passes s p e in
    let fit = allowed s sized in
    due_sound _ _ (initial_table s p out fit) inside (ap (overfills p) (initial_shape s p out fit) ∙ roomy)

pub initial_sound_lem : InitialSound
unfolding initial_refusal initial_reply initial_arrays
initial_sound_lem s p out e =
    let (room, e₂) = first_number 21 (room_short out) _ (omega arith) e in
    let (inside, e₃) = first_number 30 (capacity_outside p) _ (omega arith) e₂ in
    subst₂ Sound
    (sym (reply_header (initial_refusal s p out) 0 (initial s p) e))
    (sym (arrays_written (initial_refusal s p out) (initial s p) out e))
    (fresh_sound s p out inside e₃)

-- where P is 1 to 8: a fresh map
pub fresh_small
    : (s : Shape) (p : ℕ) (out : Arrays) → room_short out ≡ false → 1 ≤ p → p ≤ 8 → first (size_tests s) ≡ 0
    → initial_refusal s p out ≡ 31
unfolding initial_refusal fresh_tests size_tests capacity_outside
fresh_small s p out room some small sized =
    let fit = allowed s sized in
    first_skip (21, room_short out) _ room
    ∙ first_skip (30, capacity_outside p) _ (not_outside max_capacity p some (omega arith))
    ∙ first_after (size_tests s) ((31, overfills p s) ∷ []) (omega arith) sized
    ∙ first_here (31, overfills p s) [] (no_room p s small fit.some_buckets fit.some_bins)

-- and a table
pub lent_small : (h : Header) (a : Arrays) → Formed h a → h.capacity ≤ 8 → first (table_tests h a) ≡ 30
lent_small h a formed small = (capacity_last_lem h a).1 (formed, capacity_small h a formed small)
