use Rattle.std.proofs.Common.{length, sym, ◌∙◌, arith}
use Rattle.std.proofs.lemmas.List.FromFn.{fill_by_all}
use Rattle.cut_tests.specs.Words.{vacant_word}
use Rattle.cut_tests.proofs.words.fill.Goals as goal

pub returns : goal.returns
returns c =
    let filled = c.loop-at.invariant in
    fill_by_all vacant_word c.loop-at.words (length c.args.words.now) 0 (filled.0 ∙ sym c.told-words) (λ k h. filled.1 k (omega (arith, h, c.told-words)))
