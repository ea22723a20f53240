-- Laws of the call's tests: what each refusal makes of its reply, and what an accepted call answers. Assumes nothing.
use Prim.Native.Nat.{ℕ, ◌*◌, ◌≤◌}
use mathlib.Core.Path.{◌≡◌, refl, sym, ◌∙◌}
use mathlib.Core.Bool.{true, false}
use mathlib.Core.List.{List}
use lib.ListN.{length}
use borrow.Author.Tests.{ltb-false}
use Rattle.std.specs.Prelude.{Err}
use Rattle.model.specs.Table.{Shape, Table, Arrays, arrays, table}
use Rattle.model.specs.Refusal.{first}
use Rattle.model.specs.Expansion.{expanded}
use Rattle.model.specs.Calls.{table_tests, growth_tests}
use Rattle.model.specs.Results.{number, written_told}
use Rattle.model.specs.declared.refusal.Refusal.{Refusal}
use Rattle.model.specs.declared.table.Header.{Header}
use Rattle.model.specs.declared.reply.WrittenReply.{WrittenReply}
use Rattle.model.proofs.Refusals.{first_after, first_here, first_pass, first_none, accepted, refused}
use Rattle.model.proofs.Results.{number_some, refused_first}
use Rattle.model.proofs.Soundness.{table_numbered, growth_numbered}
use Rattle.table.specs.Formed.{table_of}
use Rattle.table.specs.declared.formed.FormedTable.{FormedTable}
use Rattle.soundness.specs.Passed.{TableOf}
use Rattle.written.specs.Written.{bits_short}
use Rattle.written_relocations.specs.Count.{written_moved, written_tests, written_refusal, written_reply}

-- what the test of the bits says
pub bits_long : (b : ℕ) (bits : List ℕ) → bits_short b bits ≡ false → b ≤ 64 * length bits
unfolding bits_short
bits_long b bits e = ltb-false _ _ e

-- the table that is checked
pub same_table
    : (h : Header) (tops ends blocks adjustments : List ℕ) (t : FormedTable) → TableOf h tops ends blocks adjustments t
    → table_of t ≡ table h (arrays tops ends blocks adjustments)
same_table h tops ends blocks adjustments t e =
    rw (e.same_header, e.same_tops, e.same_ends, e.same_blocks, e.same_adjustments) refl

module _ (h : Header) (a : Arrays) (s : Shape) (bits : List ℕ) where
  -- a call refused
  pub refused_told : (r : Refusal) → number r ≡ written_refusal h a s bits → written_told (Err r) ≡ written_reply h a s bits
  unfolding written_reply
  refused_told r same = rw (← same) (sym (refused (number r) _ _ (number_some r)))

  -- by the table's tests
  pub by_table : (r : Refusal) → number r ≡ first (table_tests h a) → number r ≡ written_refusal h a s bits
  unfolding written_refusal
  by_table r = refused_first r _ _

  module _ (tests : 0 ≡ first (table_tests h a)) where
    -- by the growth's, after them
    pub by_growth : (r : Refusal) → number r ≡ first (growth_tests (table h a) s) → number r ≡ written_refusal h a s bits
    unfolding written_refusal
    by_growth r e =
        refused_first r _ (written_tests h bits) e ∙ sym (first_after (table_tests h a) _ (table_numbered h a) (sym tests))

    module _ (grown : 0 ≡ first (growth_tests (table h a) s)) where
      -- by that of the bits, after these; where it passes, the call is accepted
      by_bits : first (written_tests h bits) ≡ written_refusal h a s bits
      unfolding written_refusal
      by_bits =
          sym
          (first_after (table_tests h a) _ (table_numbered h a) (sym tests)
          ∙ first_after (growth_tests (table h a) s) (written_tests h bits) (growth_numbered (table h a) s) (sym grown))

      pub by_few : bits_short h.buckets bits ≡ true → 42 ≡ written_refusal h a s bits
      unfolding written_tests
      by_few e = sym (first_here (42, bits_short h.buckets bits) _ e) ∙ by_bits

      pub accepted_by
          : bits_short h.buckets bits ≡ false → (n : ℕ) → n ≡ written_moved (table h a) (expanded (table h a) s) bits
          → record { refusal = 0; count = n } ≡ written_reply h a s bits
      unfolding written_reply written_tests
      accepted_by e n same = rw same (sym (accepted _ _ _ (sym by_bits ∙ first_pass _ _ e first_none)))
