use Rattle.std.proofs.Common.{◌≡◌, false, [], sym, refl, ap, ◌∙◌, arith}
use Rattle.model.specs.Table.{arrays}
use Rattle.model.specs.Refusal.{tops_wrong, holdings_wrong}
use Rattle.model.proofs.Refusals.{first_none, first_here, first_skip}
use Rattle.soundness.proofs.Passed.{Laid, tops_right, intervals_right}
use Rattle.file_rules.specs.Judging.{file_arrays, array_tests}
use Rattle.file_rules.proofs.Passed.{file_counted}
use Rattle.file_rules.proofs.File.complete.Goals.{Else-tops_wrong, Else-blocks_wrong, After-holdings_wrong}
use Rattle.file_rules.proofs.File.complete.Goals as goal

pub tops_wrong-requires : goal.tops_wrong-requires
tops_wrong-requires c =
    let counted = c.args.self.counted in (counted.some_blocks, rw c.requires.0 (file_counted _ _ counted).tops_long)

-- rule 12 is passed
tops-pass : (c : Else-tops_wrong) → tops_wrong c.args.self.header (file_arrays c.args.self.bytes.now c.args.self.header).tops ≡ false
tops-pass c = ap (tops_wrong _) (sym c.requires.0) ∙ sym c.tops_wrong.ensures ∙ c.if-tops_wrong.false

pub returns-then-tops_wrong : goal.returns-then-tops_wrong
unfolding array_tests
returns-then-tops_wrong c =
    record {
      answer = sym (first_here _ _ (ap (tops_wrong _) (sym c.requires.0) ∙ sym c.tops_wrong.ensures ∙ c.if-tops_wrong.true));
      adjusted = λ z. absurd (omega arith);
    }

pub returns-then-ends_wrong : goal.returns-then-ends_wrong
unfolding array_tests
returns-then-ends_wrong c =
    record {
      answer =
          sym
          (first_skip _ _ (tops-pass (goal.at.returns-then-ends_wrong c).Else-tops_wrong)
          ∙ first_here _ _ (sym c.ends_wrong.ensures ∙ c.if-ends_wrong.true));
      adjusted = λ z. absurd (omega arith);
    }

pub returns-then-blocks_wrong : goal.returns-then-blocks_wrong
unfolding array_tests
returns-then-blocks_wrong c =
    record {
      answer =
          sym
          (first_skip _ _ (tops-pass (goal.at.returns-then-blocks_wrong c).Else-tops_wrong)
          ∙ first_skip _ _ (sym c.ends_wrong.ensures ∙ c.if-ends_wrong.false)
          ∙ first_here _ _ (sym c.blocks_wrong.ensures ∙ c.if-blocks_wrong.true));
      adjusted = λ z. absurd (omega arith);
    }

-- rules 12 to 14 are passed
passed
    : (c : Else-blocks_wrong) → let file = file_arrays c.args.self.bytes.now c.args.self.header in
    Laid c.args.self.header file.tops file.ends file.blocks
passed c =
    record {
      tops_pass = ap (tops_wrong _) (sym c.requires.0) ∙ sym c.tops_wrong.ensures ∙ c.if-tops_wrong.false;
      ends_pass = sym c.ends_wrong.ensures ∙ c.if-ends_wrong.false;
      blocks_pass = sym c.blocks_wrong.ensures ∙ c.if-blocks_wrong.false;
    }

pub adjust-requires : goal.adjust-requires
adjust-requires c =
    record {
      room = (c.requires.1, refl);
      intervals_right =
          intervals_right _ _ _ _ (file_counted _ _ c.args.self.counted) (passed (goal.at.adjust-requires c).Else-blocks_wrong);
    }

pub holdings_wrong-requires : goal.holdings_wrong-requires
holdings_wrong-requires c =
    rw c.requires.0 (tops_right _ _ _ _ (file_counted _ _ c.args.self.counted) (passed (goal.at.holdings_wrong-requires c).Else-blocks_wrong))

-- what rule 15 says
fifteen
    : (c : After-holdings_wrong) → c.holdings_wrong.result ≡ holdings_wrong c.args.self.header (file_arrays c.args.self.bytes.now c.args.self.header)
fifteen c =
    c.holdings_wrong.ensures _ _ c.adjust.ensures.held
    ∙ ap (λ t. holdings_wrong c.args.self.header (arrays t (file_arrays c.args.self.bytes.now c.args.self.header).ends (file_arrays c.args.self.bytes.now c.args.self.header).blocks []))
    c.requires.0

pub returns-then-holdings_wrong : goal.returns-then-holdings_wrong
unfolding array_tests
returns-then-holdings_wrong c =
    let w = passed (goal.at.returns-then-holdings_wrong c).Else-blocks_wrong in
    record {
      answer =
          sym
          (first_skip _ _ w.tops_pass
          ∙ first_skip _ _ w.ends_pass
          ∙ first_skip _ _ w.blocks_pass
          ∙ first_here _ _ (sym (fifteen (goal.at.returns-then-holdings_wrong c).After-holdings_wrong) ∙ c.if-holdings_wrong.true));
      adjusted = λ z. absurd (omega arith);
    }

pub returns : goal.returns
unfolding array_tests
returns c =
    let w = passed (goal.at.returns c).Else-blocks_wrong in
    record {
      answer =
          sym
          (first_skip _ _ w.tops_pass
          ∙ first_skip _ _ w.ends_pass
          ∙ first_skip _ _ w.blocks_pass
          ∙ first_skip _ _ (sym (fifteen (goal.at.returns c).After-holdings_wrong) ∙ c.if-holdings_wrong.false)
          ∙ first_none);
      adjusted = λ z. c.adjust.ensures.out_left;
    }
