-- Laws of one call: what each refusal makes of its reply and its words, and what an accepted call leaves. Assumes nothing.
use Prim.Native.Nat.{ℕ, ◌+◌, ◌≤◌, ◌<◌, min}
use mathlib.Core.Path.{◌≡◌, refl, sym, ◌∙◌, ap, ap₂}
use mathlib.Core.Logic.{⊎_elim}
use mathlib.Core.List.{List, [], ◌∷◌}
use native.Mathlib.Nat.{add-zero}
use native.Mathlib.Omega.{arith}
use lib.Dec.{ltb}
use lib.ListN.{length, get_or, set}
use borrow.Author.Tests.{lt-ltb, le-ltb}
use Rattle.std.specs.Prelude.{Err}
use Rattle.model.specs.Basics.{if◌then◌otherwise◌}
use Rattle.model.specs.Table.{Shape, arrays, table}
use Rattle.model.specs.Refusal.{first}
use Rattle.model.specs.Calls.{table_tests, growth_tests, rows_of}
use Rattle.model.specs.Results.{number, carry_told}
use Rattle.model.specs.declared.refusal.Refusal.{Refusal}
use Rattle.model.specs.declared.table.Header.{Header}
use Rattle.model.specs.declared.reply.CarryReply.{CarryReply}
use Rattle.model.proofs.Counts.{below_or}
use Rattle.model.proofs.Refusals.{first_after, accepted, refused}
use Rattle.model.proofs.Results.{number_some, refused_first}
use Rattle.model.proofs.Soundness.{table_numbered, growth_numbered}
use Rattle.table.specs.Formed.{arrays_of}
use Rattle.table.specs.declared.formed.FormedTable.{FormedTable}
use Rattle.soundness.specs.Passed.{TableOf}
use Rattle.relocations.specs.Parts.{moves_of}
use Rattle.mover.specs.Carry.{
  Growth,
  growth,
  old_table,
  total,
  word_at,
  source,
  target,
  put,
  copied,
  words_short,
  carry_tests,
  carry_refusal,
  carry_reply,
  carry_words,
}
use Rattle.mover.proofs.Spots.{accepted_ready}

-- THE COPY, as the code has it

module _ (g : Growth) (ws : List ℕ) (m : ℕ) where
  pub copy_made
      : (left : List ℕ) (i k : ℕ) → left ≡ set ws k (get_or ws i 0) → i ≡ source g m → k ≡ target g m → left ≡ copied g m ws
  unfolding copied put
  copy_made left i k d e f = d ∙ ap₂ (λ i k. set ws k (get_or ws i 0)) e f

-- the growth of a table that is checked
pub same_growth
    : (h : Header) (tops ends blocks adjustments : List ℕ) (s : Shape) (t : FormedTable) → TableOf h tops ends blocks adjustments t
    → growth t.header (arrays_of t) s ≡ growth h (arrays tops ends blocks adjustments) s
same_growth h tops ends blocks adjustments s t e =
    rw (e.same_header, e.same_tops, e.same_ends, e.same_blocks, e.same_adjustments) refl

-- REFUSED

module _ (g : Growth) (ws : List ℕ) (m : ℕ) where
  -- a call refused
  pub refused_told
      : (r : Refusal) → number r ≡ carry_refusal g ws m
      → (carry_told (Err r) ≡ carry_reply g ws m) × (ws ≡ carry_words g ws m)
  unfolding carry_reply carry_words
  refused_told r same =
      (rw (← same) (sym (refused (number r) _ _ (number_some r))), rw (← same) (sym (refused (number r) _ _ (number_some r))))

  -- by the table's tests
  pub by_table : (r : Refusal) → number r ≡ first (table_tests g.header g.arrays) → number r ≡ carry_refusal g ws m
  unfolding carry_refusal
  by_table r = refused_first r _ _

  module _ (tests : 0 ≡ first (table_tests g.header g.arrays)) where
    -- by the growth's, after them
    pub by_growth : (r : Refusal) → number r ≡ first (growth_tests (old_table g) g.sizes) → number r ≡ carry_refusal g ws m
    unfolding carry_refusal
    by_growth r e =
        refused_first r _ (carry_tests g ws m) e
        ∙ sym (first_after (table_tests g.header g.arrays) _ (table_numbered g.header g.arrays) (sym tests))

    -- by those of the words and the mark, after these, as the code has them; where they pass, it is accepted
    module _ (grown : 0 ≡ first (growth_tests (old_table g) g.sizes)) (n : ℕ) (counted : n ≡ length (moves_of (old_table g) g.sizes)) where
      pub counts : n ≡ total g
      unfolding total rows_of table
      counts = counted

      pub by_last
          : (w : ℕ) → w ≡ word_at g.header.capacity g.sizes.bins 0
          → first ((40, ltb (length ws) w) ∷ (41, ltb n m) ∷ []) ≡ carry_refusal g ws m
      unfolding carry_refusal carry_tests words_short word_at
      by_last w e =
          ap₂ (λ a b. first ((40, a) ∷ (41, b) ∷ [])) (ap (ltb (length ws)) (e ∙ add-zero _)) (ap (λ k. ltb k m) counts)
          ∙ sym
          (first_after (table_tests g.header g.arrays) _ (table_numbered g.header g.arrays) (sym tests)
          ∙ first_after (growth_tests (old_table g) g.sizes) _ (growth_numbered (old_table g) g.sizes) (sym grown))

-- ACCEPTED

module _ (g : Growth) (ws : List ℕ) (m : ℕ) (ok : carry_refusal g ws m ≡ 0) where
  -- below the total it does the row
  pub words_copied : m < total g → carry_words g ws m ≡ copied g m ws
  unfolding carry_words if◌then◌otherwise◌
  words_copied l = accepted _ _ _ ok ∙ rw (lt-ltb m (total g) l)

  pub words_more : m < total g → carry_words g ws m ≡ set ws (target g m) (get_or ws (source g m) 0)
  unfolding copied put
  words_more l = words_copied l

  pub reply_more : m < total g → carry_reply g ws m ≡ record { refusal = 0; mark = m + 1; finished = 0 }
  unfolding carry_reply if◌then◌otherwise◌
  reply_more l = accepted _ _ _ ok ∙ rw (lt-ltb m (total g) l) refl

  -- and at the total nothing
  pub words_end : total g ≤ m → carry_words g ws m ≡ ws
  unfolding carry_words if◌then◌otherwise◌
  words_end l = accepted _ _ _ ok ∙ rw (le-ltb m (total g) l)

  pub reply_end : total g ≤ m → carry_reply g ws m ≡ record { refusal = 0; mark = m; finished = 1 }
  unfolding carry_reply if◌then◌otherwise◌
  reply_end l = accepted _ _ _ ok ∙ rw (le-ltb m (total g) l) refl

  -- its mark is one more, up to the total
  pub mark_after : (carry_reply g ws m).mark ≡ min (total g) (m + 1)
  mark_after =
      let (_, within) = accepted_ready g ws m ok in
      ⊎_elim
      (λ l. ap (λ (r : CarryReply). r.mark) (reply_more l) ∙ omega arith)
      (λ l. ap (λ (r : CarryReply). r.mark) (reply_end l) ∙ omega arith)
      (below_or m (total g))
