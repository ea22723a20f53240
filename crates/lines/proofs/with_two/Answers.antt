use Rattle.std.proofs.Common.{arith}
use Rattle.std.proofs.lemmas.Grind.{common_steps}
use Rattle.model.specs.Basics.{if◌then◌otherwise◌}
use Rattle.model.specs.Console.{text}
use Rattle.lines.specs.Words.{with_two}
use Rattle.lines.proofs.with_two.Goals as goal

pub returns-then-is_word : goal.returns-then-is_word
unfolding with_two text if◌then◌otherwise◌
returns-then-is_word c = grind (arith, common_steps)

pub returns-then-is_word-2 : goal.returns-then-is_word-2
unfolding with_two text if◌then◌otherwise◌
returns-then-is_word-2 c = grind (arith, common_steps)

pub returns-then-is_word-3 : goal.returns-then-is_word-3
unfolding with_two text if◌then◌otherwise◌
returns-then-is_word-3 c = grind (arith, common_steps)

pub returns : goal.returns
unfolding with_two text if◌then◌otherwise◌
returns c = grind (arith, common_steps)
