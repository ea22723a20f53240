-- What rules 12 to 15 and 30 show of a file that passes 11, and the table that it gives. Assumes nothing.
use Prim.Native.Nat.{ℕ, ◌≤◌}
use mathlib.Core.Path.{◌≡◌, refl, sym, ◌∙◌, ap, subst}
use mathlib.Core.Bool.{Bool, true, false, not}
use mathlib.Core.List.{List, [], ◌∷◌, ◌++◌}
use native.Mathlib.Omega.{arith}
use lib.Dec.{eqb}
use lib.ListN.{length, take}
use lib.Seq.{take-length}
use Rattle.model.specs.Basics.{if◌then◌otherwise◌, ◌and◌, all, before, count, sum, from}
use Rattle.model.specs.Table.{Arrays, arrays, table, over, written}
use Rattle.model.specs.Place.{others}
use Rattle.model.specs.Refusal.{first, tops_wrong, ends_wrong, blocks_wrong, adjustment_of, adjustments_wrong, capacity_wrong}
use Rattle.model.specs.Sound.{Formed}
use Rattle.model.specs.Lent.{TopsFormed}
use Rattle.model.specs.Saved.{loaded_header, read_arrays, loaded_arrays, file_wrong}
use Rattle.model.specs.Calls.{arrays_after, load_tests}
use Rattle.model.specs.Results.{number}
use Rattle.model.specs.declared.refusal.Refusal.{Refusal}
use Rattle.model.specs.declared.table.Header.{Header}
use Rattle.model.proofs.Refusals.{first_clear, first_skip, first_here, first_none, first_after, accepted, refused}
use Rattle.model.proofs.Results.{number_some, refused_first}
use Rattle.model.proofs.Soundness.{passes_formed}
use Rattle.model.proofs.Files.{file_passes}
use Rattle.model.proofs.Tables.{length_from, length_over, taken}
use Rattle.model.proofs.Holdings.{holdings_same}
use Rattle.model.proofs.Loads.{written_whole}
use Rattle.soundness.specs.Passed.{layout_tests, rule_tests, alone}
use Rattle.file_rules.specs.Judging.{file_arrays, array_tests, Completed}
use Rattle.file_read.specs.Opening.{Opened, out_over}
use Rattle.file_judged.specs.Loading.{Judged, loaded_over, Loaded}

-- the arrays of a file of header h, with the adjustments worked out; at the header that the file says, its `loaded_arrays`
abbrev adjusted_arrays : List ℕ → Header → Arrays
adjusted_arrays f h =
    arrays
    (file_arrays f h).tops
    (file_arrays f h).ends
    (file_arrays f h).blocks
    (from (adjustment_of h (file_arrays f h)) 0 h.interval_count)

-- a file that passes 11 to 15 gives a table that passes 11 to 16
loaded_formed
    : (f : List ℕ) (p : ℕ) → file_wrong f p ≡ false
    → first (array_tests (loaded_header f p) (file_arrays f (loaded_header f p))) ≡ 0 → Formed (loaded_header f p) (loaded_arrays f p)
unfolding array_tests loaded_arrays read_arrays
loaded_formed f p w z =
    let (tops, z₂) = first_clear _ _ (λ n. omega arith) z in
    let (ends, z₃) = first_clear _ _ (λ n. omega arith) z₂ in
    let (blocks, z₄) = first_clear _ _ (λ n. omega arith) z₃ in
    let (holdings, z₅) = first_clear _ _ (λ n. omega arith) z₄ in
    passes_formed _ _ (file_passes f p w tops ends blocks (holdings_same (loaded_header f p) _ _ _ _ [] ∙ holdings))

module _ (f : List ℕ) (p : ℕ) (h : Header) (e : h ≡ loaded_header f p) where
  -- the others answer
  pub later
      : file_wrong f p ≡ false
      → first (load_tests f p) ≡ first (array_tests h (file_arrays f h) ++ ((30, capacity_wrong h (adjusted_arrays f h)) ∷ []))
  unfolding load_tests loaded_arrays read_arrays array_tests
  later w =
      let g = loaded_header f p in
      first_skip _ _ w
      ∙ ap
      (λ b.
      first
      ((12, tops_wrong g (read_arrays f p).tops)
      ∷ (13, ends_wrong g (read_arrays f p).ends)
      ∷ (14, blocks_wrong g (read_arrays f p).blocks)
      ∷ (15, b)
      ∷ (30, capacity_wrong g (loaded_arrays f p))
      ∷ []))
      (holdings_same g _ _ _ _ [])
      ∙ ap
      (λ (g : Header). first (array_tests g (file_arrays f g) ++ ((30, capacity_wrong g (adjusted_arrays f g)) ∷ [])))
      (sym e)

  -- where they pass, but for 30, its table passes rules 11 to 16
  pub file_formed
      : file_wrong f p ≡ false → first (array_tests h (file_arrays f h)) ≡ 0 → Formed h (adjusted_arrays f h)
  unfolding loaded_arrays read_arrays
  file_formed w z =
      subst (λ (g : Header). Formed g (adjusted_arrays f g)) (sym e)
      (loaded_formed f p w (subst (λ (g : Header). first (array_tests g (file_arrays f g)) ≡ 0) e z))

  -- its table is written where each array is
  pub loaded_written
      : (old : Arrays) (t n b c : List ℕ)
      → t ≡ over (file_arrays f h).tops old.tops
      → n ≡ over (file_arrays f h).ends old.ends
      → b ≡ over (file_arrays f h).blocks old.blocks
      → c ≡ over (from (adjustment_of h (file_arrays f h)) 0 h.interval_count) old.adjustments
      → arrays t n b c ≡ written (table (loaded_header f p) (loaded_arrays f p)) old
  unfolding loaded_arrays read_arrays
  loaded_written old t n b c t' n' b' c' =
      (λ i. arrays (t' i) (n' i) (b' i) (c' i))
      ∙ ap
      (λ (g : Header).
      arrays
      (over (file_arrays f g).tops old.tops)
      (over (file_arrays f g).ends old.ends)
      (over (file_arrays f g).blocks old.blocks)
      (over (from (adjustment_of g (file_arrays f g)) 0 g.interval_count) old.adjustments))
      e
      ∙ sym
      (written_whole (loaded_header f p) (loaded_arrays f p) old
      (length_from _ _ _) (length_from _ _ _) (length_from _ _ _) (length_from _ _ _))

-- ARRAYS OVER ARRAYS

-- all of a list of the length n
whole : (xs : List ℕ) (n : ℕ) → length xs ≡ n → take n xs ≡ xs
whole xs n e = ap (λ k. take k xs) (sym e) ∙ take-length xs

-- a list over one of as many entries is all of it
pub filled : (xs old new : List ℕ) → new ≡ over xs old → length xs ≡ length old → new ≡ xs
filled xs old new e l =
    e ∙ sym (whole (over xs old) (length xs) (length_over xs old (omega arith) ∙ sym l)) ∙ taken xs old (over xs old) (length xs) refl refl

-- RULES 12 TO 15

-- one of them is broken
pub loaded_refused
    : (f : List ℕ) (h : Header) (out : Arrays) → Opened f h out
    → (own own' : List ℕ) (r : Refusal) → Completed h (file_arrays f h) own (number r) own' → (old : Arrays)
    → Loaded f h.capacity old (number r) old
unfolding loaded_over arrays_after
loaded_refused f h out o own own' r c old =
    let said : number r ≡ first (load_tests f h.capacity) =
    refused_first r _ _ c.answer ∙ sym (later f h.capacity h o.says o.passes) in
    record { refusal = said; lent = sym (refused (first (load_tests f h.capacity)) _ _ (λ z. number_some r (said ∙ z))) }

-- none is: the file is judged
pub completed_judged
    : (f : List ℕ) (h : Header) (out : Arrays) → Opened f h out
    → (own own' : List ℕ) (r : ℕ) → Completed h (file_arrays f h) own r own' → r ≡ 0
    → (tops : List ℕ) → tops ≡ (file_arrays f h).tops → h.interval_count ≤ length own
    → Judged f h tops own' out
completed_judged f h out o own own' r c z tops e l =
    let own-adjustments = from (adjustment_of h (file_arrays f h)) 0 h.interval_count in
    let counted = length_from (adjustment_of h (file_arrays f h)) 0 h.interval_count in
    record {
      opened = o;
      passes = sym c.answer ∙ z;
      read = e;
      long = omega (arith, ap length (c.adjusted z), length_over own-adjustments own (omega (arith, counted)));
      adjusted = taken _ own own' _ (c.adjusted z) (length_from _ _ _);
    }

-- 30

module _ (f : List ℕ) (h : Header) (tops own : List ℕ) (out : Arrays) (j : Judged f h tops own out) where
  -- its tops are those of a table that passes rules 11 to 16
  abbrev pub judged_tops : TopsFormed h tops
  judged_tops =
      record {
        ends = (file_arrays f h).ends;
        blocks = (file_arrays f h).blocks;
        adjustments = (adjusted_arrays f h).adjustments;
        formed =
            subst (λ t. Formed h (arrays t (file_arrays f h).ends (file_arrays f h).blocks (adjusted_arrays f h).adjustments))
            (sym j.read)
            (file_formed f h.capacity h j.opened.says j.opened.passes j.passes);
      }

  -- w says whether its capacity is wrong
  module _
      (w : Bool)
      (said
      : (ends blocks adjustments : List ℕ) → Formed h (arrays tops ends blocks adjustments)
      → w ≡ capacity_wrong h (arrays tops ends blocks adjustments))
    where
      last : first (load_tests f h.capacity) ≡ first ((30, w) ∷ [])
      unfolding array_tests
      last =
          later f h.capacity h j.opened.says j.opened.passes
          ∙ first_after (array_tests h (file_arrays f h)) _ (omega arith) j.passes
          ∙ ap (λ b. first ((30, b) ∷ []))
          (sym
          (said _ _ _ judged_tops.formed
          ∙ ap (λ t. capacity_wrong h (arrays t (file_arrays f h).ends (file_arrays f h).blocks (adjusted_arrays f h).adjustments))
          j.read))

      pub judged_refused : w ≡ true → (old : Arrays) → Loaded f h.capacity old 30 old
      unfolding loaded_over arrays_after
      judged_refused t old =
          let thirty : first (load_tests f h.capacity) ≡ 30 = last ∙ first_here _ _ t in
          record {
            refusal = sym thirty;
            lent = sym (refused (first (load_tests f h.capacity)) _ _ (λ z. omega arith));
          }

      pub judged_accepted : w ≡ false → (old left : Arrays) → left ≡ out_over f h own old → Loaded f h.capacity old 0 left
      unfolding loaded_over arrays_after
      judged_accepted t old left d =
          let none : first (load_tests f h.capacity) ≡ 0 = last ∙ first_skip _ _ t ∙ first_none in
          record {
            refusal = sym none;
            lent =
                d
                ∙ loaded_written f h.capacity h j.opened.says old _ _ _ _ refl refl refl (ap (λ xs. over xs old.adjustments) j.adjusted)
                ∙ sym (accepted (first (load_tests f h.capacity)) _ _ none);
          }

-- ONE BLOCK AND ONE INTERVAL

-- the first interval's adjustment is 0
first_adjustment : (h : Header) (a : Arrays) → adjustment_of h a 0 ≡ 0
unfolding adjustment_of others before count sum
first_adjustment h a = refl

-- so an adjustment of 0 completes a table of one
pub alone_completed
    : (b p : ℕ) (a : Arrays) (tops ends blocks : List ℕ) (x r : ℕ) → arrays tops ends blocks [] ≡ a → x ≡ 0
    → r ≡ first (rule_tests (alone b p) (arrays tops ends blocks (x ∷ []))) → Completed (alone b p) a (x ∷ []) r (x ∷ [])
unfolding rule_tests array_tests layout_tests first if◌then◌otherwise◌ adjustments_wrong all ◌and◌ from over
alone_completed b p a tops ends blocks x r same z e =
    let own = arrays tops ends blocks (x ∷ []) in
    let right : adjustments_wrong (alone b p) own ≡ false = λ i. not (eqb (z i) (first_adjustment (alone b p) own i)) in
    subst (λ (a : Arrays). Completed (alone b p) a (x ∷ []) r (x ∷ [])) same
    (record {
      answer =
          e
          ∙ (λ i.
          first
          (layout_tests (alone b p) tops ends blocks
          ++ ((15, holdings_same (alone b p) ends blocks tops (x ∷ []) [] i) ∷ (16, right i) ∷ [])));
      adjusted = λ _. ap (λ y. y ∷ []) (z ∙ sym (first_adjustment (alone b p) (arrays tops ends blocks [])));
    })
