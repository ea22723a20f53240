use Rattle.std.proofs.Common.{◌≡◌, take, length}
use Rattle.std.specs.Prelude.{fold, map, slice_set}
use Rattle.std.specs.List.{range_with_len}
use Rattle.cut_tests.specs.Words.{vacant_word}
use Rattle.cut_tests.proofs.job.Job.begin.Given as goal

abbrev pub invariant-loop-due : goal.invariant-loop-due
invariant-loop-due g l =
    l.words
    ≡ fold (λ ws due. slice_set ws due.at due.word) (map vacant_word (range_with_len 0 (length l.fn.words))) (take l.due-index l.self.old.now)
