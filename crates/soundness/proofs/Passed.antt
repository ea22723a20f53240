-- The records of specs/Passed from the tests of rules 11 to 14 that do not hold. Assumes nothing.
use Rattle.std.proofs.Common.{◌≡◌, ℕ, false, List, ◌++◌, ◌∙◌, arith}
use Rattle.model.specs.Table.{Arrays}
use Rattle.model.specs.Refusal.{Test, first, header_outside, arrays_short, tops_wrong, ends_wrong, blocks_wrong, holdings_wrong, adjustments_wrong}
use Rattle.model.specs.Sound.{Formed}
use Rattle.model.specs.declared.table.Header.{Header}
use Rattle.model.proofs.Refusals.{first_clear, first_skip, first_number, first_both, Numbered}
use Rattle.model.proofs.Soundness.{passes_formed}
use Rattle.model.proofs.Rules.{
  blocks_inside,
  intervals_inside,
  tops_long_lem,
  ends_long_lem,
  blocks_long_lem,
  tops_rise_lem,
  ends_rise_lem,
  last_end,
  blocks_below_lem,
}
use Rattle.soundness.specs.Passed.{Counted, layout_tests, rule_tests, TopsRight, IntervalsRight}

-- 11 of a lent table
pub lent_counted
    : (h : Header) (a : Arrays) → header_outside h ≡ false → arrays_short h a ≡ false → Counted h a.tops a.ends a.blocks
lent_counted h a inside long =
    record {
      some_blocks = (blocks_inside h inside).0;
      block_limit = (blocks_inside h inside).1;
      some_intervals = (intervals_inside h inside).0;
      tops_long = tops_long_lem h a long;
      ends_long = ends_long_lem h a long;
      blocks_long = blocks_long_lem h a long;
    }

-- 12 to 14, where their tests do not hold
pub record Laid (h : Header) (tops ends blocks : List ℕ) : Type 0 where
  pub tops_pass : tops_wrong h tops ≡ false
  pub ends_pass : ends_wrong h ends ≡ false
  pub blocks_pass : blocks_wrong h blocks ≡ false

pub laid : (h : Header) (tops ends blocks : List ℕ) → first (layout_tests h tops ends blocks) ≡ 0 → Laid h tops ends blocks
unfolding layout_tests
laid h tops ends blocks e =
    let t = first_clear _ _ (λ z. omega arith) e in
    let u = first_clear _ _ (λ z. omega arith) t.1 in
    let v = first_clear _ _ (λ z. omega arith) u.1 in
    record { tops_pass = t.0; ends_pass = u.0; blocks_pass = v.0 }

-- then the tests after them answer
pub layout_after
    : (h : Header) (tops ends blocks : List ℕ) (us : List Test) → first (layout_tests h tops ends blocks) ≡ 0
    → first (layout_tests h tops ends blocks ++ us) ≡ first us
unfolding layout_tests
layout_after h tops ends blocks us e =
    let w = laid h tops ends blocks e in
    first_skip _ _ w.tops_pass ∙ first_skip _ _ w.ends_pass ∙ first_skip _ _ w.blocks_pass

module _ (h : Header) (tops ends blocks : List ℕ) (c : Counted h tops ends blocks) (w : Laid h tops ends blocks) where
  pub tops_right : TopsRight h tops
  tops_right = record { some = c.some_blocks; few = c.block_limit; long = c.tops_long; rise = tops_rise_lem h tops w.tops_pass }

  pub intervals_right : IntervalsRight h ends blocks
  intervals_right =
      record {
        ends_long = c.ends_long;
        blocks_long = c.blocks_long;
        rise = ends_rise_lem h ends w.ends_pass;
        last = last_end h ends w.ends_pass;
        blocks_below = λ i l. omega (arith, c.block_limit, blocks_below_lem h blocks w.blocks_pass i l);
      }

-- none of the tests of 12 to 16 has number 0
pub rules_numbered : (h : Header) (a : Arrays) → Numbered (rule_tests h a)
unfolding rule_tests layout_tests
rules_numbered h a = omega arith

layout_numbered : (h : Header) (a : Arrays) → Numbered (layout_tests h a.tops a.ends a.blocks)
unfolding layout_tests
layout_numbered h a = omega arith

-- a table that passes 11, and whose tests of 12 to 16 do not hold
pub rules_formed
    : (h : Header) (a : Arrays) → header_outside h ≡ false → arrays_short h a ≡ false → first (rule_tests h a) ≡ 0 → Formed h a
unfolding rule_tests
rules_formed h a inside long e =
    let (clear, e₂) = first_both (layout_tests h a.tops a.ends a.blocks) _ (layout_numbered h a) e in
    let l = laid _ _ _ _ clear in
    let (held, e₃) = first_number 15 (holdings_wrong h a) _ (omega arith) e₂ in
    let (right, e₄) = first_number 16 (adjustments_wrong h a) _ (omega arith) e₃ in
    passes_formed h a
    (record {
      header = inside;
      arrays = long;
      tops = l.tops_pass;
      ends = l.ends_pass;
      blocks = l.blocks_pass;
      holdings = held;
      adjustments = right;
    })
