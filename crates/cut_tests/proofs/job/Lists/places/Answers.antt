use Rattle.std.proofs.Common.{take, true, arith, ◌∙◌}
use Rattle.std.proofs.lemmas.List.{get_or-take, length-take-le}
use Rattle.std.proofs.lemmas.List.FromFn.{fill_by_all}
use Rattle.cut_tests.specs.declared.job.Due.{Due}
use Rattle.cut_tests.specs.Tables.{bucket_word}
use Rattle.cut_tests.specs.Rows.{due_of}
use Rattle.cut_tests.proofs.job.Lists.places.Goals as goal

none : Due
none = record { at = 0; word = 0 }

pub returns-clause-old : goal.returns-clause-old
returns-clause-old c =
    let count = c.args.count in
    let old = c.loop-at.self.old in
    let written = c.loop-at.invariant in
    fill_by_all
    (λ x. due_of x (bucket_word c.args.table.now c.args.header x) true)
    (take count old)
    count
    none
    (length-take-le count old (omega (arith, c.requires, written.0)))
    (λ k h. get_or-take count old k none h ∙ written.1 none k (omega (arith, h)))
