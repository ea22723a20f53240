use Rattle.std.proofs.Common.{◌≡◌, [], refl, ap, arith}
use Rattle.std.proofs.lemmas.Result.{err_from_is_err_and}
use Rattle.model.specs.Table.{Arrays, arrays}
use Rattle.model.proofs.Tables.{length_from}
use Rattle.soundness.specs.Passed.{alone}
use Rattle.file_rules.specs.Judging.{file_arrays}
use Rattle.file_judged.proofs.Passed.{filled, alone_completed, loaded_refused, completed_judged}
use Rattle.file_judged.proofs.load_alone.Goals.{After-decode}
use Rattle.file_judged.proofs.load_alone.Goals as goal

-- the decoded arrays are the file's
same
    : (c : After-decode)
    → arrays c.decode.new.tops c.decode.new.ends c.decode.new.blocks []
    ≡ file_arrays c.args.f.now (alone c.args.buckets c.args.capacity)
same c =
    let d = c.decode.ensures in
    λ i.
    arrays
    (filled _ _ _ d.tops (length_from _ _ _) i)
    (filled _ _ _ d.ends (length_from _ _ _) i)
    (filled _ _ _ d.blocks (length_from _ _ _) i)
    []

pub invariant_of-file : goal.invariant_of-file
invariant_of-file c = record { counted = c.requires.counted }

pub returns-in_err-judged : goal.returns-in_err-judged
returns-in_err-judged c =
    let p = err_from_is_err_and c.from_residual.result c.from_residual.ensures.1 in
    rw (p.1, p.2)
    (loaded_refused _ _ _ c.requires _ _ _
    (alone_completed _ _ _ _ _ _ _ _ (same (goal.at.returns-in_err-judged c).After-decode) refl c.in_err-judged.ensures) _)

pub load_judged-requires : goal.load_judged-requires
load_judged-requires c =
    let e = same (goal.at.load_judged-requires c).After-decode in
    completed_judged _ _ _ c.requires _ _ _
    (alone_completed _ _ _ _ _ _ _ _ e refl c.in_ok-judged.ensures) refl _
    (ap (λ (a : Arrays). a.tops) e) (omega arith)
