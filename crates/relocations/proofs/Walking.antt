-- Laws of the walk over the old intervals: each adds the rows of what it moves. Assumes nothing.
use Prim.Native.Nat.{ℕ, suc, ◌+◌, ◌-◌, ◌*◌, ◌/◌, ◌%◌, ◌^◌, min, ◌≤◌, ◌<◌}
use mathlib.Core.Path.{◌≡◌, refl, sym, ◌∙◌, ap, subst}
use mathlib.Core.Logic.{⊎_elim}
use mathlib.Core.Bool.{true}
use mathlib.Core.List.{List, [], ◌++◌}
use native.Mathlib.Nat.{le_refl}
use native.Mathlib.Numerals.{add-one}
use native.Mathlib.Omega.{arith}
use lib.ListN.{length, get_or, length-append}
use Rattle.model.specs.Basics.{from, joined, before}
use Rattle.model.specs.Limits.{max_buckets}
use Rattle.model.specs.Table.{Shape, Interval, Arrays, table, bins, shape, over}
use Rattle.model.specs.Refusal.{first}
use Rattle.model.specs.Sound.{Formed}
use Rattle.model.specs.Expansion.{due_after, some_fall, plan, parts, plan_for, expanded}
use Rattle.model.specs.Relocations.{row, page}
use Rattle.model.specs.Relocations
use Rattle.model.specs.Calls.{growth_tests}
use Rattle.model.specs.Balance.{due_below, most, least}
use Rattle.model.specs.declared.table.Header.{Header}
use Rattle.model.specs.declared.plan.Plan.{Plan}
use Rattle.model.proofs.Counts.{below_or}
use Rattle.model.proofs.Intervals.{before_mono}
use Rattle.model.proofs.Tables.{length_from, from_ext, lent_interval}
use Rattle.model.proofs.Listed.{size_most}
use Rattle.model.proofs.Wells.{adjustment_most, formed_well}
use Rattle.model.proofs.Growths.{accepted, some_more}
use Rattle.model.proofs.Drained.{drained_block, plan_stay, plan_move, plan_split}
use Rattle.model.proofs.Rows.{rows_least, rows_below, rows_more, rows_before, Cut, end_within, rows_size, part_rows_lem, part_row}
use Rattle.model.proofs.Pages.{Fives, fives_from, fives_rows, page_past}
use Rattle.rows.specs.Spans.{placed_row}
use Rattle.relocations.specs.Parts.{part_rows, paged, Part, PartsMove, ActionMoves}
use Rattle.table.specs.Placing.{placing, placing_at}
use Rattle.table.specs.declared.Placing.{Placing}
use Rattle.relocations.proofs.Actions.{parts_of, rows_stay, rows_move, rows_split}
use Rattle.rows.proofs.Spans.{five_numbers}
use Rattle.relocations.proofs.Pages.{page_full, paged_behind}

-- HOW MANY ROWS

-- max(0, B - T), from n and T
pub rows_counted
    : (h : Header) (a : Arrays) (s : Shape) → Formed h a → first (growth_tests (table h a) s) ≡ 0 → (n m r : ℕ)
    → n ≡ bins (table h a) → m ≡ n * (s.buckets / s.bins) + min n (s.buckets % s.bins) → r ≡ h.buckets - m
    → r ≡ length (Relocations.rows (table h a) (expanded (table h a) s))
unfolding least most due_below shape table
rows_counted h a s formed ok n m r e f g = rw (g, f, e) (sym (rows_least h a s formed ok))

-- A PLAN AS A CUT

-- an interval cut at bucket p, where w buckets moved before: the plan moves what comes from p on
record Planned (due start : ℕ) (i : Interval) (w p : ℕ) : Type 0 where
  cut : Cut due start i p
  moved : (plan due start i w).moved ≡ w + (i.end - p)
  rows
      : (old : Placing) (f d b g : ℕ) → b < g
      → part_rows g old f d start (parts_of (plan due start i w).action i.end old b g)
      ≡ from (placed_row old (placing f d (p - w))) p (i.end - p)
  parts_move
      : (old : Placing) (f d : ℕ) → Part old (placing f d (p - w)) p i.end w → (b g : ℕ) → b < g
      → PartsMove g old f d w start (parts_of (plan due start i w).action i.end old b g)

planned
    : (due start : ℕ) (i : Interval) (w : ℕ) → start < i.end → i.adjustment ≤ start
    → (p : ℕ) × Planned due start i w p
unfolding parts from
planned due start i w some low =
    ⊎_elim
    (λ l.
    ⊎_elim
    (λ k.
    let same = plan_split due start i w l k in (
      due + i.adjustment,
      record {
        cut = record { after = omega arith; within = omega arith; kept = λ x b e. e; gone = λ x b e. b };
        moved = ap (λ v. v.moved) same;
        rows = λ old f d b g n. rw same (rows_split _ start i.end old f d b g n _ _ refl);
        parts_move = λ old f d h b g n. rw same (λ e. absurd (omega arith), (λ e. h, tt));
      },
    ))
    (λ k.
    let same = plan_move due start i w l k in (
      start,
      record {
        cut =
            record {
              after = omega arith;
              within = omega arith;
              kept = λ x b e. absurd (omega arith);
              gone = λ x b e. omega arith;
            };
        moved = ap (λ v. v.moved) same;
        rows = λ old f d b g n. rw same (rows_move _ start i.end old f d b g n _ refl);
        parts_move = λ old f d h b g n. rw same (λ e. h, tt);
      },
    ))
    (below_or (start - i.adjustment) due))
    (λ l.
    let same = plan_stay due start i w l in
    let none : i.end - i.end ≡ 0 = omega arith in (
      i.end,
      record {
        cut =
            record {
              after = omega arith;
              within = omega arith;
              kept = λ x b e. omega arith;
              gone = λ x b e. absurd (omega arith);
            };
        moved = ap (λ v. v.moved) same ∙ omega arith;
        rows = λ old f d b g n. rw (same, none) (rows_stay _ start i.end old f d b g n refl);
        parts_move = λ old f d h b g n. rw same (λ e. absurd (omega arith), tt);
      },
    ))
    (below_or due (i.end - i.adjustment))

-- THE WALK

-- where the walk has come to interval i, which starts at `start`: the rows of the buckets before it, `moved` of them, are on the page
pub record Walking (h : Header) (a : Arrays) (s : Shape) (q : ℕ) (rows₀ rows : List ℕ) (i start moved : ℕ) : Type 0 where
  pub within : i ≤ h.interval_count
  pub starts : start ≡ before a.ends i
  pub counted : moved ≡ rows_before h a s i
  pub below : moved ≤ start
  pub filled : rows ≡ over (joined (page q (length rows₀) (rows_below (table h a) (expanded (table h a) s) start))) rows₀

module _
    (h : Header) (a : Arrays) (s : Shape) (formed : Formed h a) (ok : first (growth_tests (table h a) s) ≡ 0)
    (falls : some_fall (table h a) s ≡ true) where
  -- the sizes of the new block
  new_bins : (bins (table h a) < s.bins) × (s.bins < 2 ^ 32)
  new_bins = (
    some_more (table h a) s (formed_well h a formed) (accepted (table h a) s ok) falls,
    omega (arith, (accepted (table h a) s ok).bin_limit),
  )

  -- a top is at most n
  top_within : (j : ℕ) → j < h.block_count → get_or a.tops j 0 < 2 ^ 32
  unfolding before
  top_within j l =
      omega (
        arith,
        before_mono a.tops h.block_count formed.tops_rise h.block_count (suc j) l (le_refl _),
        formed.bin_limit,
      )

  -- interval i: its start, end and block's due, the rows before its own, those of the buckets below m, and those of its plan
  module _ (i : ℕ) (l : i < h.interval_count) where
    abbrev start : ℕ
    start = before a.ends i

    abbrev end : ℕ
    end = get_or a.ends i 0

    abbrev due : ℕ
    due = due_after (table h a) s (get_or a.blocks i 0)

    abbrev moved : ℕ
    moved = rows_before h a s i

    abbrev below : ℕ → List (List ℕ)
    below m = rows_below (table h a) (expanded (table h a) s) m

    abbrev parted : List (List ℕ)
    parted =
        part_rows h.block_count (placing_at a i) (bins (table h a)) (s.bins - bins (table h a)) start
        (parts_of (plan due start (lent_interval a i) moved).action end (placing_at a i) (get_or a.blocks i 0) h.block_count)

    here : (p : ℕ) × Planned due start (lent_interval a i) moved p
    here = planned due start (lent_interval a i) moved (formed.ends_rise i l) (adjustment_most h a formed i l)

    -- there are no more rows than buckets
    rows_few : (m : ℕ) → m ≤ end → length (below m) ≤ m
    rows_few m k =
        omega (
          arith,
          end_within h a formed i l,
          rows_size h a s formed ok falls m (omega (arith, end_within h a formed i l)),
          size_most (drained_block (table h a) s) m (length (table h a).tops),
        )

    -- what its plan moves is placed
    part_here
        : Part (placing_at a i) (placing (bins (table h a)) (s.bins - bins (table h a)) (here.0 - moved)) here.0 end moved
    part_here =
        let j = get_or a.blocks i 0 in
        let below = formed.blocks_below i l in
        let low = here.1.cut.after in
        let few = rows_few start (omega (arith, low, here.1.cut.within)) in
        let limit : end ≤ max_buckets = omega (arith, end_within h a formed i l, formed.bucket_limit) in
        record {
          old_places =
              record {
                some = omega (arith, formed.tops_rise j below);
                fits = omega (arith, formed.tops_rise j below, top_within j below);
                ranked = omega (arith, adjustment_most h a formed i l);
                limit = omega (arith, here.1.cut.within);
              };
          new_places =
              record {
                some = omega (arith, new_bins);
                fits = omega (arith, new_bins);
                ranked = omega arith;
                limit = omega (arith, here.1.cut.within);
              };
          within = here.1.cut.within;
          limit = limit;
          ranked = omega arith;
        }

    -- what moves of it, the rows that it adds, and how many
    step_parts
        : (b g : ℕ) → b < g
        → PartsMove g (placing_at a i) (bins (table h a)) (s.bins - bins (table h a)) moved start
        (parts_of (plan due start (lent_interval a i) moved).action end (placing_at a i) b g)
    step_parts = here.1.parts_move (placing_at a i) (bins (table h a)) (s.bins - bins (table h a)) part_here

    parted_from
        : parted
        ≡ from (placed_row (placing_at a i) (placing (bins (table h a)) (s.bins - bins (table h a)) (here.0 - moved)))
        here.0
        (end - here.0)
    parted_from = here.1.rows (placing_at a i) (bins (table h a)) (s.bins - bins (table h a)) _ _ (formed.blocks_below i l)

    step_fives : Fives parted
    step_fives =
        subst Fives (sym parted_from)
        (fives_from (placed_row (placing_at a i) _) (five_numbers (placing_at a i) _) here.0 (end - here.0))

    step_rows : below end ≡ below start ++ parted
    unfolding placed_row
    step_rows =
        part_rows_lem h a s formed ok falls i here.0 l here.1.cut
        ∙ ap (λ rs. below start ++ rs)
        (from_ext (row (table h a) (expanded (table h a) s)) (placed_row (placing_at a i) _) here.0 (end - here.0)
        (λ x b e. part_row h a s formed ok falls i here.0 l here.1.cut x b (omega (arith, here.1.cut.within)))
        ∙ sym parted_from)

    step_moved : (plan due start (lent_interval a i) moved).moved ≡ length (below end)
    step_moved =
        omega (
          arith,
          here.1.moved,
          ap length step_rows,
          length-append (below start) parted,
          ap length parted_from,
          length_from (placed_row (placing_at a i) (placing (bins (table h a)) (s.bins - bins (table h a)) (here.0 - moved)))
              here.0
              (end - here.0),
        )

  module _ (q : ℕ) (rows₀ : List ℕ) where
    -- before the first interval
    pub walking_starts : Walking h a s q rows₀ rows₀ 0 0 0
    unfolding before joined from
    walking_starts =
        record {
          within = omega arith;
          starts = refl;
          counted = refl;
          below = omega arith;
          filled = (page_past q [] rows₀ (omega arith)).1;
        }

    module _ (rows : List ℕ) (i start moved : ℕ) (v : Walking h a s q rows₀ rows i start moved) where
      at_end : h.interval_count ≤ i → i ≡ h.interval_count
      at_end l = omega (arith, v.within)

      -- after the last interval
      pub walking_ends
          : h.interval_count ≤ i
          → rows ≡ over (joined (page q (length rows₀) (Relocations.rows (table h a) (expanded (table h a) s)))) rows₀
      unfolding Relocations.rows table
      walking_ends l =
          let last : start ≡ h.buckets = omega (arith, v.starts, v.within, formed.last_end, ap (before a.ends) (at_end l)) in
          v.filled
          ∙ ap (λ m. over (joined (page q (length rows₀) (rows_below (table h a) (expanded (table h a) s) m))) rows₀) last

      -- at an interval where the page is full
      pub walking_full
          : i < h.interval_count → length rows₀ / 5 ≤ moved - q
          → rows ≡ over (joined (page q (length rows₀) (Relocations.rows (table h a) (expanded (table h a) s)))) rows₀
      unfolding Relocations.rows table
      walking_full l full =
          let t = table h a in
          let u = expanded t s in
          let whole : start + (h.buckets - start) ≡ h.buckets =
          omega (arith, v.starts, formed.ends_rise i l, end_within h a formed i l) in
          let count : moved ≡ length (rows_below t u start) = v.counted ∙ ap (λ m. length (rows_below t u m)) (sym v.starts) in
          v.filled
          ∙ ap (λ rs. over (joined rs) rows₀)
          (page_full q (length rows₀) (rows_below t u start) _ (omega arith)
          ∙ ap (page q (length rows₀)) (sym (rows_more t u start (h.buckets - start)) ∙ ap (rows_below t u) whole))

      -- interval i, with its plan, its placing and the old number of bins as the code has them
      module _
          (l : i < h.interval_count) (plan : Plan) (old : Placing) (n : ℕ)
          (e : plan ≡ plan_for (table h a) s start (lent_interval a i) moved) (f : old ≡ placing_at a i) (g : n ≡ bins (table h a)) where
        -- what its rows ask
        pub walking_parts : ActionMoves plan.action start (get_or a.ends i 0) old n (s.bins - n) moved
        unfolding plan_for
        walking_parts = rw (e, f, g, v.starts, v.counted) (step_parts i l)

        -- and the next interval, once they are written
        pub walking_more
            : (rows' : List ℕ)
            → ((w : ℕ) → ActionMoves plan.action start (get_or a.ends i 0) old n (s.bins - n) w → (b c : ℕ) → b < c
            → rows'
            ≡ paged q w
            (part_rows c old n (s.bins - n) start (parts_of plan.action (get_or a.ends i 0) old b c))
            rows)
            → Walking h a s q rows₀ rows' (i + 1) (get_or a.ends i 0) plan.moved
        unfolding plan_for before
        walking_more rows' same =
            record {
              within = omega arith;
              starts = rw (add-one i) refl;
              counted = rw (e, v.starts, v.counted, add-one i) (step_moved i l);
              below = rw (e, v.starts, v.counted, step_moved i l) (rows_few i l (end i l) (le_refl _));
              filled =
                  same moved walking_parts (get_or a.blocks i 0) h.block_count (formed.blocks_below i l)
                  ∙ rw (e, f, g, v.filled, v.starts, v.counted)
                  (paged_behind q (below i l (before a.ends i)) (parted i l) rows₀
                  (fives_rows (table h a) (expanded (table h a) s) 0 (before a.ends i))
                  (step_fives i l)
                  ∙ ap (λ rs. over (joined (page q (length rows₀) rs)) rows₀) (sym (step_rows i l)));
            }
