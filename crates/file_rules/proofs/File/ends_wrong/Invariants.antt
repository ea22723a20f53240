-- `rise` says whether the first i ends rise
use Rattle.std.proofs.Common.{◌≡◌}
use Rattle.model.specs.Refusal.{rises}
use Rattle.file_rules.specs.Judging.{file_arrays}
use Rattle.file_rules.proofs.File.ends_wrong.Given as goal

abbrev pub invariant-loop-i : goal.invariant-loop-i
invariant-loop-i l = l.rise ≡ rises (file_arrays l.self.bytes.now l.self.header).ends l.i
